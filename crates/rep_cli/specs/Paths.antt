-- Which files a rig works on, by the words that name them, and how: this project's own.
use Rattle.std.specs.Prelude.{ℕ, List, [], ◌∷◌, ◌++◌, get_or, codes, Option, None, Some}
use Rattle.rep_words.specs.Words.{Asks}
use Rattle.rep_words.specs.declared.words.Asked.{Asked}
use Rattle.rep_words.specs.declared.words.Asked.TheVariants.{Print, Create, Run, Extract, Receipt, Drill}
use Rattle.rep_words.specs.declared.errand.Command.{Command}
use Rattle.rep_words.specs.declared.errand.Command.TheVariants.{Print as PrintCommand, Create as CreateCommand, Run as RunCommand, Extract as ExtractCommand, Receipt as ReceiptCommand, Drill as DrillCommand}
use Rattle.rep_cli.specs.declared.access.Access.{Access}
use Rattle.rep_cli.specs.declared.access.Access.TheVariants.{Read, Write, Make}

-- the word at a place, counted from 0
abbrev pub word_at : List (List ℕ) → ℕ → List ℕ
word_at words place = get_or words place []

-- the paths of the texts that are read
abbrev pub text_paths : (words : List (List ℕ)) → (asked : Asked) → Asks words asked → List (List ℕ)
text_paths words (Print zone) print = print.lane ∷ []
text_paths words Create create = create.site ∷ []
text_paths words Run run = run.site ∷ run.lane ∷ []
text_paths words (Extract period) extract = extract.site ∷ []
text_paths words (Receipt nsr) receipt = receipt.site ∷ []
text_paths words Drill drill = drill.schedule ∷ []

-- the paths of the files that are written: the replies to a lane stand beside it
abbrev pub out_paths : (words : List (List ℕ)) → (asked : Asked) → Asks words asked → List (List ℕ)
out_paths words (Print zone) print = print.out ∷ []
out_paths words Create create = []
out_paths words Run run = (run.lane ++ codes ".out") ∷ []
out_paths words (Extract period) extract = extract.out ∷ []
out_paths words (Receipt nsr) receipt = []
out_paths words Drill drill = []

-- the path of the journal
abbrev pub disk_path : (words : List (List ℕ)) → (asked : Asked) → Asks words asked → Option (List ℕ)
disk_path words (Print zone) print = None
disk_path words Create create = Some create.journal
disk_path words Run run = Some run.journal
disk_path words (Extract period) extract = Some extract.journal
disk_path words (Receipt nsr) receipt = Some receipt.journal
disk_path words Drill drill = None

-- how a command uses the file of a journal: one alone makes it, and only those that record write to it
abbrev pub access_for : Command → Access
access_for PrintCommand = Read
access_for CreateCommand = Make
access_for RunCommand = Write
access_for ExtractCommand = Read
access_for ReceiptCommand = Read
access_for DrillCommand = Read

-- the same, of what is asked: none where it has no journal
abbrev pub access_of : Asked → Option Access
access_of (Print zone) = None
access_of Create = Some Make
access_of Run = Some Write
access_of (Extract period) = Some Read
access_of (Receipt nsr) = Some Read
access_of Drill = None

-- the path at which the system shows an output: that of standard output where it has none of its own
abbrev pub shown_path : Option (List ℕ) → List ℕ
shown_path None = codes "/dev/stdout"
shown_path (Some path) = path
