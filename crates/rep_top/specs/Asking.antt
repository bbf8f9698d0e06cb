-- What is asked, done over a rig: a line for each command in `Does`, `CanDo` and `IsDone`.
use Rattle.std.specs.Prelude.{◌≡◌, ◌≢◌, ◌⊎◌, ℕ, ℤ, List, None, Some}
use Rattle.rep_words.specs.Words.{Asks}
use Rattle.rep_words.specs.declared.period.Period.{Period}
use Rattle.rep_words.specs.declared.rig.Rig.{Rig}
use Rattle.rep_words.specs.declared.words.Asked.{Asked}
use Rattle.rep_words.specs.declared.words.Asked.TheVariants.{Print, Create, Run, Extract, Receipt, Drill}
use Rattle.rep_top.specs.Program.{Outside, RefusesDates}
use Rattle.rep_top.specs.Commands.{AnswersOver, CanAnswer, CanCreate, CanDrill, CanExtract, CanPrint, CanRun, CreatesOver, CreatesSafely, DrillsOver, ExtractsOver, LeavesClock, LeavesFile, PrintsOver, RunsOver}

-- `print`: the AFD, the replies and the readings of the clock are those of the lane's lines, served one after another over an
-- empty history, however it ends. Where no AFD is written, its file isn't opened.
pub record DoesPrint {S K D C : Type 0} (zone : ℤ) (out : Outside S K D C) (old new : Rig S K D C) (status : ℕ) : Type 0 where
  pub printed : PrintsOver zone out old new status
  pub unopened : status ≢ 0 → status ≢ 1 → status ≢ 5 → LeavesFile old new
  -- where the lane is refused, the clock isn't asked
  pub unread : status ≡ 3 → LeavesClock old new

-- `create`: the disk keeps the site's employer record alone, recorded at a reading of the clock, or the call stopped before. A
-- crash in the call leaves a blank disk, or one that keeps that record.
pub record DoesCreate {S K D C : Type 0} (out : Outside S K D C) (old new : Rig S K D C) (status : ℕ) : Type 0 where
  pub created : CreatesOver out old new status
  pub safe : CreatesSafely out old new

-- `run`: the lines of the lane were served one after another over the history that the disk kept, which goes on by their
-- entries, however the lane ends; and a crash in the call leaves a front of it that has each entry with a receipt.
pub record DoesRun {S K D C : Type 0} (out : Outside S K D C) (old new : Rig S K D C) (status : ℕ) : Type 0 where
  pub ran : RunsOver out old new status

-- `extract`: the AFD of the period was written, out of the history that the disk keeps, at a reading of the clock, however it
-- ends; the journal was only made sure of and read.
pub record DoesExtract {S K D C : Type 0} (period : Period) (out : Outside S K D C) (old new : Rig S K D C) (status : ℕ) : Type 0 where
  pub extracted : ExtractsOver period out old new status

-- `extract`, where FROM and TO name no period: nothing is touched
pub record RefusesPeriod {S K D C : Type 0} (out : Outside S K D C) (old new : Rig S K D C) (status : ℕ) : Type 0 where
  pub misdated : status ≡ 3
  pub undated : RefusesDates out old new

-- `receipt`: what is written to the output is the receipt of the clocking with the number in the history that the disk keeps,
-- or that there is none, however it ends; the journal was only made sure of and read.
pub record DoesReceipt {S K D C : Type 0} (nsr : ℕ) (out : Outside S K D C) (old new : Rig S K D C) (status : ℕ) : Type 0 where
  pub answered : AnswersOver nsr out old new status

-- `drill`: the lines of the schedule were played over a world of the sample site, one after another, and what is said of each is
-- what its event showed, however it ends.
pub record DoesDrill {S K D C : Type 0} (out : Outside S K D C) (old new : Rig S K D C) (status : ℕ) : Type 0 where
  pub drilled : DrillsOver out old new status

-- what is asked is done, from one rig to another, with this status
abbrev pub Does : {S K D C : Type 0} → Asked → Outside S K D C → Rig S K D C → Rig S K D C → ℕ → Type 0
Does (Print zone) out old new status = DoesPrint zone out old new status
Does Create out old new status = DoesCreate out old new status
Does Run out old new status = DoesRun out old new status
Does (Extract None) out old new status = RefusesPeriod out old new status
Does (Extract (Some period)) out old new status = DoesExtract period out old new status
Does (Receipt nsr) out old new status = DoesReceipt nsr out old new status
Does Drill out old new status = DoesDrill out old new status

-- nothing of it is refused as a whole
abbrev pub CanDo : {S K D C : Type 0} → Asked → Outside S K D C → Rig S K D C → Type 0
CanDo (Print zone) out rig = CanPrint out rig
CanDo Create out rig = CanCreate out rig
CanDo Run out rig = CanRun out rig
CanDo (Extract None) out rig = ⊥
CanDo (Extract (Some period)) out rig = CanExtract out rig
CanDo (Receipt nsr) out rig = CanAnswer nsr out rig
CanDo Drill out rig = CanDrill out rig

-- all is done, unless memory is short
abbrev pub IsDone : Asked → ℕ → Type 0
IsDone (Print zone) status = (status ≡ 0) ⊎ (status ≡ 1) ⊎ (status ≡ 8)
IsDone Create status = (status ≡ 0) ⊎ (status ≡ 8)
IsDone Run status = (status ≡ 0) ⊎ (status ≡ 1) ⊎ (status ≡ 8)
IsDone (Extract period) status = (status ≡ 0) ⊎ (status ≡ 8)
IsDone (Receipt nsr) status = (status ≡ 0) ⊎ (status ≡ 8)
IsDone Drill status = (status ≡ 0) ⊎ (status ≡ 1) ⊎ (status ≡ 8)

-- some words ask for this
abbrev pub IsAskable : Asked → Type 0
IsAskable asked = (words : List (List ℕ)) × Asks words asked
