-- On which of the words a command works, by their places, counted from 0: this project's own.
use Rattle.std.specs.Prelude.{ℕ, List, [], ◌∷◌, codes, Bool, true, false, Option, None, Some}
use Rattle.rep_words.specs.declared.words.Asked.{Asked}
use Rattle.rep_words.specs.declared.words.Asked.TheVariants.{Print, Create, Run, Extract, Receipt, Drill}
use Rattle.rep_words.specs.declared.errand.Command.{Command}
use Rattle.rep_words.specs.declared.errand.Command.TheVariants.{Print as PrintCommand, Create as CreateCommand, Run as RunCommand, Extract as ExtractCommand, Receipt as ReceiptCommand, Drill as DrillCommand}

abbrev pub command_of : Asked → Command
command_of (Print zone) = PrintCommand
command_of Create = CreateCommand
command_of Run = RunCommand
command_of (Extract period) = ExtractCommand
command_of (Receipt nsr) = ReceiptCommand
command_of Drill = DrillCommand

-- the texts that are read
abbrev pub texts_of : Asked → List ℕ
texts_of (Print zone) = 1 ∷ []
texts_of Create = 1 ∷ []
texts_of Run = 1 ∷ 3 ∷ []
texts_of (Extract period) = 1 ∷ []
texts_of (Receipt nsr) = 1 ∷ []
texts_of Drill = 1 ∷ []

-- the files that are written
abbrev pub outs_of : Asked → List ℕ
outs_of (Print zone) = 2 ∷ []
outs_of Create = []
outs_of Run = 3 ∷ []
outs_of (Extract period) = 5 ∷ []
outs_of (Receipt nsr) = []
outs_of Drill = []

-- the journal
abbrev pub disk_of : Asked → Option ℕ
disk_of (Print zone) = None
disk_of Create = Some 2
disk_of Run = Some 2
disk_of (Extract period) = Some 2
disk_of (Receipt nsr) = Some 2
disk_of Drill = None

-- whether the clock is used: a receipt has no stamp of its own, and a schedule has its minutes
abbrev pub clock_of : Asked → Bool
clock_of (Print zone) = true
clock_of Create = true
clock_of Run = true
clock_of (Extract period) = true
clock_of (Receipt nsr) = false
clock_of Drill = false

-- what stands behind the word of a file that is written, in its path
abbrev pub ending_of : Command → List ℕ
ending_of PrintCommand = []
ending_of CreateCommand = []
ending_of RunCommand = codes ".out"
ending_of ExtractCommand = []
ending_of ReceiptCommand = []
ending_of DrillCommand = []
