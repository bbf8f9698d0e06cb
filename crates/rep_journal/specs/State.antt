-- What a journal is, as contracts see it, and what its calls do to it: this project's own.
use Rattle.std.specs.Prelude.{◌≡◌, ◌⊎◌, ◌↔◌, Bool, if◌then◌else◌, ℕ, ◌+◌, ◌-◌, ◌*◌, ◌<◌, ◌≤◌, List, [], ◌∷◌, ◌++◌, length, drop, nat_le, IfSome, IsFalse, MatchBool, MatchResult, Option, Result}
use Rattle.rep_io.specs.Causes.{Rose}
use Rattle.rep_disk.specs.Disk.{Shown, AdvancesBy, Changes, IsAtRest, IsOwnImage, Moves, Same, Stays, Torn}
use Rattle.rep_disk.specs.Memory.{counted}
use Rattle.rep_journal.specs.Format.{Framed, IsJournalOf, IsBlank, closed_gate, end_of, frame_text, front_text, open_gate}

pub record State (D : Type 0) : Type 0 where
  pub disk : D
  -- the frames that it has
  pub frames : List Framed
  -- for how many more there is room, in it and in its disk
  pub spare : ℕ
  -- how often the disk has failed for it
  pub faults : ℕ

-- contents that are told are a journal of these frames
abbrev pub StandsFor : Option (List ℕ) → List Framed → Type 0
StandsFor contents frames = IfSome contents (λ bytes. IsJournalOf bytes frames)

-- contents that were told are now a journal of these frames, and contents that weren't told still aren't
abbrev pub Becomes : List Framed → Option (List ℕ) → Option (List ℕ) → Type 0
Becomes frames old new = Changes (λ _ bytes. IsJournalOf bytes frames) old new

-- what was written of a journal of these frames: their text and a closed gate, with the old bytes behind them
abbrev pub Leaves : List Framed → Option (List ℕ) → Option (List ℕ) → Type 0
Leaves frames old new = Changes (λ was bytes. bytes ≡ front_text frames ++ closed_gate ∷ drop (1 + end_of frames) was) old new

-- a journal of these frames, with this one more or without it
abbrev pub IsWithOrWithout : List Framed → Framed → List ℕ → Type 0
IsWithOrWithout frames frame bytes = IsJournalOf bytes frames ⊎ IsJournalOf bytes (frames ++ frame ∷ [])

-- the disk's contents, if they are told, are a journal of these frames, and a crash leaves nothing else
pub record IsSettled (frames : List Framed) (s : Shown) : Type 0 where
  pub stands : StandsFor s.contents frames
  pub rest : IsAtRest s

-- What is left where the device call of this number in a `put` failed. The first two are the write of the frame and
-- its sync, the others those of its gate.
pub record IsLeftAt (failed : ℕ) (frames : List Framed) (frame : Framed) (bytes : List ℕ) : Type 0 where
  pub early : failed ≤ 2 → IsJournalOf bytes frames
  pub late : failed ≡ 4 → IsJournalOf bytes (frames ++ frame ∷ [])
  pub either : IsWithOrWithout frames frame bytes

-- What a put makes of contents from the gate's write on, with this byte as the gate in front of the frame: the frame's
-- text and a closed gate behind it, and all else as it was.
abbrev pub with_gate : List Framed → Framed → ℕ → List ℕ → List ℕ
with_gate frames frame gate was =
    front_text frames ++ gate ∷ (frame_text frame ++ closed_gate ∷ drop (1 + end_of (frames ++ frame ∷ [])) was)

-- What was changed where that device call failed: up to the frame's sync the place behind the gate as far as the next
-- gate, and then the gate alone, which is open once it was written.
pub record IsLeftAround (failed : ℕ) (frames : List Framed) (frame : Framed) (was bytes : List ℕ) : Type 0 where
  pub early : failed ≤ 2 → Torn (end_of frames + 1) (length (frame_text frame) + 1) was bytes
  pub at_gate : 3 ≤ failed → (gate : ℕ) × (bytes ≡ with_gate frames frame gate was)
  pub late : failed ≡ 4 → bytes ≡ with_gate frames frame open_gate was

-- so many device calls were made
abbrev pub MakesCalls : ℕ → Shown → Shown → Type 0
MakesCalls calls old new = AdvancesBy (2 * calls) old.moment new.moment

-- the disk was read at most, and has failed no less often
pub record IsRead (old new : Shown) : Type 0 where
  pub contents : new.contents ≡ old.contents
  pub later : old.moment ≤ new.moment
  pub crash : Stays old new
  pub own : IsOwnImage old ↔ IsOwnImage new
  pub faults : old.faults ≤ new.faults

-- so many device calls were made, or one of them failed and was the last
abbrev pub CountsCalls : {T E : Type 0} → ℕ → Shown → Shown → Result T E → Type 0
CountsCalls calls old new result =
    MatchResult result (λ _. MakesCalls calls old new) (λ _. (n : ℕ) × (0 < n) × (n ≤ calls) × MakesCalls n old new)

-- the call of this number in a `put` failed, and was the last
pub record FailsToAppend (frames : List Framed) (frame : Framed) (old new : Shown) : Type 0 where
  pub failed : ℕ
  pub some : 0 < failed
  pub within : failed ≤ 4
  pub calls : MakesCalls failed old new
  pub contents : Changes (λ _ bytes. IsLeftAt failed frames frame bytes) old.contents new.contents
  pub around : Changes (λ was bytes. IsLeftAround failed frames frame was bytes) old.contents new.contents

-- contents and images are as before, or a sync made sure of them
pub record IsKeptBy (old new : Shown) : Type 0 where
  pub contents : new.contents ≡ old.contents
  pub later : old.moment ≤ new.moment
  pub crash : Moves Same old new
  pub own : IsOwnImage old ↔ IsOwnImage new
  pub faults : old.faults ≤ new.faults

-- a journal was read, and has the same frames and the same room; its disk has failed for it once more, or not
pub record IsSame {D : Type 0} (shown : D → Shown) (failed : Bool) (old new : State D) : Type 0 where
  pub frames : new.frames ≡ old.frames
  pub spare : new.spare ≡ old.spare
  pub faults : new.faults ≡ (if failed then counted old.faults else old.faults)
  pub disk : IsRead (shown old.disk) (shown new.disk)
  pub no_fault : IsFalse failed → (shown new.disk).faults ≡ (shown old.disk).faults

-- one frame more
pub record Appends {D : Type 0} (shown : D → Shown) (frame : Framed) (old new : State D) : Type 0 where
  pub frames : new.frames ≡ old.frames ++ frame ∷ []
  pub contents : Becomes new.frames (shown old.disk).contents (shown new.disk).contents
  pub text : Leaves new.frames (shown old.disk).contents (shown new.disk).contents
  pub rest : IsAtRest (shown new.disk)
  pub spare : old.spare ≤ new.spare + 1
  pub faults : new.faults ≡ old.faults
  pub calls : MakesCalls 4 (shown old.disk) (shown new.disk)
  pub own : IsOwnImage (shown old.disk) ↔ IsOwnImage (shown new.disk)
  pub no_fault : (shown new.disk).faults ≡ (shown old.disk).faults

-- the two calls for the magic are made just where the contents, if they are told, have at most 17 bytes
abbrev pub MakesCreateCalls : Shown → Shown → Type 0
MakesCreateCalls old new = IfSome old.contents (λ bytes. MatchBool (nat_le (length bytes) 17) (MakesCalls 6 old new) (MakesCalls 4 old new))

-- a journal was made with its first frame
pub record Begins {D : Type 0} (shown : D → Shown) (first : Framed) (old : D) (new : State D) : Type 0 where
  pub frames : new.frames ≡ first ∷ []
  pub contents : Becomes (first ∷ []) (shown old).contents (shown new.disk).contents
  pub text : Leaves (first ∷ []) (shown old).contents (shown new.disk).contents
  pub rest : IsAtRest (shown new.disk)
  pub faults : new.faults ≡ 0
  pub later : (shown old).moment ≤ (shown new.disk).moment
  pub calls : MakesCreateCalls (shown old) (shown new.disk)
  pub own : IsOwnImage (shown old) ↔ IsOwnImage (shown new.disk)
  pub no_fault : (shown new.disk).faults ≡ (shown old).faults

-- What is left where a device call of `create` failed, and so many that were still due were not made: blank contents
-- while the gate isn't written, and the first frame where only the last sync failed.
pub record IsLeftBefore (unmade : ℕ) (first : Framed) (bytes : List ℕ) : Type 0 where
  pub early : 2 ≤ unmade → IsBlank bytes
  pub late : unmade ≡ 0 → IsJournalOf bytes (first ∷ [])
  pub either : IsBlank bytes ⊎ IsJournalOf bytes (first ∷ [])

-- the call of this number failed, and was the last
pub record FailsToCreate (due : ℕ) (first : Framed) (old new : Shown) : Type 0 where
  pub failed : ℕ
  pub some : 0 < failed
  pub within : failed ≤ due
  pub calls : MakesCalls failed old new
  pub contents : Changes (λ _ bytes. IsLeftBefore (due - failed) first bytes) old.contents new.contents

-- A device call of `create` failed: of six where the contents, if they are told, have at most 17 bytes, else of four.
pub record FailsToBegin (first : Framed) (old new : Shown) : Type 0 where
  pub cause : Rose old.faults new.faults
  pub due : ℕ
  pub all : (due ≡ 4) ⊎ (due ≡ 6)
  pub by_length : IfSome old.contents (λ bytes. MatchBool (nat_le (length bytes) 17) (due ≡ 6) (due ≡ 4))
  pub fails : FailsToCreate due first old new
  pub own : IsOwnImage old ↔ IsOwnImage new

-- a device call of a `put` failed: the contents have the frames from before, with the new one or without it
pub record StopsAt {D : Type 0} (shown : D → Shown) (frame : Framed) (old : State D) (disk : D) (faults count : ℕ) : Type 0 where
  pub counts : faults ≡ counted old.faults
  pub cause : Rose (shown old.disk).faults (shown disk).faults
  pub had : count ≡ length old.frames
  pub fails : FailsToAppend old.frames frame (shown old.disk) (shown disk)
  pub own : IsOwnImage (shown old.disk) ↔ IsOwnImage (shown disk)
