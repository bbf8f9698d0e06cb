-- What a crash leaves of a history, from one moment to another: this project's own. What is said holds below the last
-- value of a moment, and where the disk tells its contents.
use Rattle.std.specs.Prelude.{◌≡◌, ◌⊎◌, ℕ, ◌<◌, ◌≤◌, List, [], ◌∷◌, ◌++◌, length, All, IsSome}
use Rattle.rep_wire.specs.declared.request.Entry.{Entry}
use Rattle.rep_wire.specs.declared.reply.Answer.{Answer}
use Rattle.rep_wire.specs.declared.reply.Answer.TheVariants.{Receipt, Refused}
use Rattle.rep_disk.specs.Disk.{Shown, KeepsPast, last_moment}
use Rattle.rep_journal.specs.Format.{IsBlank}
use Rattle.rep_ledger.specs.Ledger.{IsLedgerOf}

-- an image keeps the history; a blank one keeps the empty history
abbrev pub IsImageOf : List ℕ → List Entry → Type 0
IsImageOf image h = IsLedgerOf image h ⊎ ((h ≡ []) × IsBlank image)

-- each image of a moment has at least so many entries: so many are sure then
abbrev pub HasAtLeast : ℕ → Shown → ℕ → Type 0
HasAtLeast least s m = (image : List ℕ) (h : List Entry) → s.may_leave m image → IsImageOf image h → least ≤ length h

-- from a moment on, what is sure stays sure
abbrev pub NeverFallsFrom : ℕ → Shown → Type 0
NeverFallsFrom from s =
    (least m later : ℕ) → from ≤ m → m ≤ later → later ≤ s.moment → HasAtLeast least s m → HasAtLeast least s later

-- the entry with this number had a receipt at this moment
pub record Receipted : Type 0 where
  pub moment : ℕ
  pub nsr : ℕ

-- the entry is sure then
abbrev pub IsSure : Shown → Receipted → Type 0
IsSure s entry = HasAtLeast entry.nsr s entry.moment

-- the entry that an answer at a moment is the receipt of
abbrev pub receipted_at : ℕ → Answer → List Receipted
receipted_at moment (Receipt slip) = record { moment = moment; nsr = slip.nsr } ∷ []
receipted_at moment (Refused code) = []

-- the first entries of a history
abbrev pub IsFrontOf : List Entry → List Entry → Type 0
IsFrontOf front h = (behind : List Entry) × (h ≡ front ++ behind)

-- The images since a disk showed `old`. Up to the moment `rested`, from which on it has rested once, each is one of those
-- that there were. From then on each keeps a front of `whole` that goes on from `kept`, what was sure stays sure, and
-- each entry is sure when it has its receipt.
pub record Secures (rested : ℕ) (kept whole : List Entry) (receipts : List Receipted) (old new : Shown) : Type 0 where
  pub past : KeepsPast old new
  pub early : (m : ℕ) (image : List ℕ) → old.moment ≤ m → m < rested → m ≤ new.moment → new.may_leave m image
      → old.may_leave old.moment image
  pub images : (m : ℕ) (image : List ℕ) → rested ≤ m → m ≤ new.moment → new.may_leave m image
      → (h : List Entry) × IsImageOf image h × IsFrontOf kept h × IsFrontOf h whole
  pub sure : NeverFallsFrom rested new
  pub receipted : All (IsSure new) receipts

-- where the disk tells its contents
abbrev pub IsSafe : ℕ → List Entry → List Entry → List Receipted → Shown → Shown → Type 0
IsSafe rested kept whole receipts old new =
    IsSome old.contents → new.moment < last_moment → Secures rested kept whole receipts old new
