-- What the bytes of a ledger are once entries were put behind its history, and while one is put: this project's own.
use Rattle.std.specs.Prelude.{◌≡◌, ℕ, ◌+◌, ◌<◌, ◌≤◌, List, [], ◌∷◌, ◌++◌, length, drop, IfSome, Some}
use Rattle.rep_wire.specs.declared.request.Entry.{Entry}
use Rattle.rep_disk.specs.Disk.{Shown, last_moment}
use Rattle.rep_disk.specs.declared.image.Image.{Image}
use Rattle.rep_disk.specs.declared.image.Image.TheVariants.{Old, New, Odd}
use Rattle.rep_journal.specs.Format.{closed_gate, end_of, front_text}
use Rattle.rep_journal.specs.State.{IsLeftAround}
use Rattle.rep_journal.specs.Recovery.{IsOpenAtGate}
use Rattle.rep_ledger.specs.Ledger.{IsLedgerOf, frames_of, next_frame}
use Rattle.rep_ledger.specs.Safety.{IsFrontOf}

-- Bytes that kept the history `before` keep `after`: where no entry was added they are as they were, and else they are the
-- frames of `after` and a closed gate, with the old bytes behind it.
pub record GrowsTo (before after : List Entry) (was bytes : List ℕ) : Type 0 where
  pub goes_on : IsFrontOf before after
  pub same : length after ≡ length before → bytes ≡ was
  pub grown : length before < length after
      → bytes ≡ front_text (frames_of after) ++ closed_gate ∷ drop (1 + end_of (frames_of after)) was

-- The device call of this number failed while the entry that makes the history whole was put: what was changed lies
-- behind the history, and from the gate's write on it is that gate alone.
pub record ChangesAtEnd (failed : ℕ) (without whole : List Entry) (was bytes : List ℕ) : Type 0 where
  pub entry : Entry
  pub is_whole : whole ≡ without ++ entry ∷ []
  pub around : IsLeftAround failed (frames_of without) (next_frame without entry) was bytes

-- The history that an image of this name keeps, while only the gate in front of the entry that makes it whole is pending:
-- the new image alone has that entry.
abbrev pub history_named : Image → List Entry → List Entry → List Entry
history_named Old without whole = without
history_named New without whole = whole
history_named Odd without whole = without

-- Of what a crash at the moment may leave, only that gate is pending.
pub record IsOpenBefore (without whole : List Entry) (was : List ℕ) (s : Shown) (m : ℕ) : Type 0 where
  pub entry : Entry
  pub is_whole : whole ≡ without ++ entry ∷ []
  pub at_gate : IsOpenAtGate (frames_of without) (next_frame without entry) was s m
  pub named : (name : Image) (image : List ℕ) → s.named name m ≡ Some image → IsLedgerOf image (history_named name without whole)

-- so at each moment from within the third device call of its put to this one, where the disk tells its contents
abbrev pub OpensBefore : List Entry → List Entry → Shown → Shown → ℕ → Type 0
OpensBefore without whole old new until =
    IfSome old.contents (λ was. new.moment < last_moment → (m : ℕ) → old.moment + 4 < m → m ≤ until → m ≤ new.moment
    → IsOpenBefore without whole was new m)
