-- The parts of reading the originals of an AFD, which are kept by worker.
use Rattle.std.specs.Prelude.{◌≡◌, ◌⊎◌, ℕ, Bool, ◌==◌, List, [], ◌∷◌, ◌++◌, Option, Some, None, filter, IsPermutation}
use Rattle.std.specs.List.Sorted.{IsNonDecreasingBy}
use Rattle.afd_records.specs.declared.record.Body.{Body}
use Rattle.afd_records.specs.declared.record.Body.TheVariants.{Clocking as ClockingBody}
use Rattle.tr_days.specs.Originals.{AreOriginals, ReadsAs}
use Rattle.tr_days.specs.declared.clocking.Clocking.{Clocking}

-- the clocking that a record is
abbrev pub clocking_of : ℕ → Body → Option Clocking
clocking_of nsr (ClockingBody at cpf recorded collector offline) = Some (record { cpf = cpf; nsr = nsr; at = at })
clocking_of nsr body = None

-- the clocking that the line reads as was put behind the others, and nothing where it reads as none
abbrev pub AddsRead : List ℕ → List Clocking → List Clocking → Type 0
AddsRead line old new =
    ((clocking : Clocking) × ReadsAs line clocking × (new ≡ old ++ clocking ∷ []))
    ⊎ (((clocking : Clocking) → ReadsAs line clocking → ⊥) × (new ≡ old))

-- the clocking is the worker's
abbrev pub is_of : ℕ → Clocking → Bool
is_of cpf clocking = clocking.cpf == cpf

-- the clockings stand by CPF
abbrev pub AreByWorker : List Clocking → Type 0
AreByWorker = IsNonDecreasingBy (λ clocking. clocking.cpf)

-- the same clockings by CPF, and those of one worker as they stood
pub record ArePutByWorker (clockings index : List Clocking) : Type 0 where
  pub by_worker : AreByWorker index
  pub same : IsPermutation clockings index
  pub as_they_stood : (cpf : ℕ) → filter (is_of cpf) index ≡ filter (is_of cpf) clockings

-- these are the originals of the text by CPF
pub record IsIndexOf (text : List ℕ) (index : List Clocking) : Type 0 where
  pub clockings : List Clocking
  pub originals : AreOriginals text clockings
  pub put : ArePutByWorker clockings index
