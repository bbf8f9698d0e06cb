-- What a crash leaves of a journal, at each moment of a call: this project's own. A moment is one within a device
-- call or after it, by the disk's model; what is said holds below the last value of a moment.
use Rattle.std.specs.Prelude.{◌≡◌, ◌≢◌, ◌⊎◌, ◌↔◌, ℕ, ◌+◌, ◌<◌, ◌≤◌, List, [], ◌∷◌, length, IfSome, IsSome, Some}
use Rattle.rep_disk.specs.Disk.{Shown, KeepsPast, IsAtRest, last_moment}
use Rattle.rep_disk.specs.Record.{odd_byte}
use Rattle.rep_disk.specs.declared.image.Image.{Image}
use Rattle.rep_disk.specs.declared.image.Image.TheVariants.{Old, New, Odd}
use Rattle.rep_journal.specs.Format.{Framed, IsJournalOf, IsBlank, open_gate}
use Rattle.rep_journal.specs.State.{IsWithOrWithout, with_gate}

-- an image is a journal of these frames, or blank, which counts as no frames
abbrev pub ImageStandsFor : List ℕ → List Framed → Type 0
ImageStandsFor image frames = IsJournalOf image frames ⊎ ((frames ≡ []) × IsBlank image)

-- each image at a moment has at least so many frames
abbrev pub LeavesAtLeast : ℕ → Shown → ℕ → Type 0
LeavesAtLeast least s m = (image : List ℕ) (frames : List Framed) → s.may_leave m image → ImageStandsFor image frames → least ≤ length frames

-- that number of frames never falls, from the old moment to the new one
abbrev pub NeverFalls : Shown → Shown → Type 0
NeverFalls old new =
    (least m later : ℕ) → old.moment ≤ m → m ≤ later → later ≤ new.moment → LeavesAtLeast least new m → LeavesAtLeast least new later

-- The images while a frame is put. Up to the end of the first two device calls each has the frames from before, and
-- then it has these or the new one too.
pub record PutMoments (frames : List Framed) (frame : Framed) (old new : Shown) : Type 0 where
  pub past : KeepsPast old new
  pub closed : (m : ℕ) (image : List ℕ) → old.moment ≤ m → m ≤ old.moment + 4 → m ≤ new.moment → new.may_leave m image → IsJournalOf image frames
  pub opened : (m : ℕ) (image : List ℕ) → old.moment ≤ m → m ≤ new.moment → new.may_leave m image → IsWithOrWithout frames frame image
  pub sure : NeverFalls old new

-- where the disk tells its contents
abbrev pub Puts : List Framed → Framed → Shown → Shown → Type 0
Puts frames frame old new = IsSome old.contents → new.moment < last_moment → PutMoments frames frame old new

-- the gate's byte in the image of this name: a closed one that stood there, the open one, or an odd one
abbrev pub IsGateOf : Image → ℕ → Type 0
IsGateOf Old gate = gate ≢ open_gate
IsGateOf New gate = gate ≡ open_gate
IsGateOf Odd gate = gate ≡ odd_byte

-- Of what a crash at the moment may leave, only the gate in front of the frame is pending: each byte may stand there, and
-- all else is as it was put.
pub record IsOpenAtGate (frames : List Framed) (frame : Framed) (was : List ℕ) (s : Shown) (m : ℕ) : Type 0 where
  pub only : (image : List ℕ) → s.may_leave m image → (gate : ℕ) × (image ≡ with_gate frames frame gate was)
  pub each : (gate : ℕ) → s.may_leave m (with_gate frames frame gate was)
  pub named : (name : Image) (image : List ℕ) → s.named name m ≡ Some image
      → (gate : ℕ) × IsGateOf name gate × (image ≡ with_gate frames frame gate was)

-- so at each moment from within the third device call of a put to this one, where the disk tells its contents
abbrev pub OpensGate : List Framed → Framed → Shown → Shown → ℕ → Type 0
OpensGate frames frame old new until =
    IfSome old.contents (λ was. new.moment < last_moment → (m : ℕ) → old.moment + 4 < m → m ≤ until → m ≤ new.moment
    → IsOpenAtGate frames frame was new m)

-- The images while the magic is written: each is blank.
pub record BlankMoments (old new : Shown) : Type 0 where
  pub past : KeepsPast old new
  pub images : (m : ℕ) (image : List ℕ) → old.moment ≤ m → m ≤ new.moment → new.may_leave m image → IsBlank image
  pub sure : NeverFalls old new

-- where the disk tells its contents and is at rest
abbrev pub Blanks : Shown → Shown → Type 0
Blanks old new = IsSome old.contents → IsAtRest old → new.moment < last_moment → BlankMoments old new

-- The images while a journal is made: each is blank, or has the first frame.
pub record CreateMoments (first : Framed) (old new : Shown) : Type 0 where
  pub past : KeepsPast old new
  pub images : (m : ℕ) (image : List ℕ) → old.moment ≤ m → m ≤ new.moment → new.may_leave m image → IsBlank image ⊎ IsJournalOf image (first ∷ [])
  pub sure : NeverFalls old new

-- where the disk tells its contents and is at rest
abbrev pub Creates : Framed → Shown → Shown → Type 0
Creates first old new = IsSome old.contents → IsAtRest old → new.moment < last_moment → CreateMoments first old new

-- that moment has been, and from it on the contents, where they are told, are an image and the only one
abbrev pub RestsFrom : ℕ → Shown → Type 0
RestsFrom from s =
    s.moment < last_moment
    → (from ≤ s.moment) × ((m : ℕ) (image : List ℕ) → from ≤ m → m ≤ s.moment → IfSome s.contents (λ bytes. s.may_leave m image ↔ image ≡ bytes))
