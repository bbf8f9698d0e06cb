-- What the parts of a `put` and of `create` do: this project's own.
use Rattle.std.specs.Prelude.{◌≡◌, ◌⊎◌, ℕ, ◌<◌, ◌≤◌, Bool, true, false, IfSome, IsTrue, List, length, drop, MatchBool, MatchResult, OnOk, Result, Some}
use Rattle.rep_disk.specs.Disk.{ByName, Changes, NamesBy, Shown, Torn, Written, last_moment}
use Rattle.rep_disk.specs.declared.image.Image.{Image}
use Rattle.rep_journal.specs.State.{MakesCalls}

-- the write of a piece failed, which leaves it torn, or its sync failed, which leaves it written
abbrev pub FailsToWrite : ℕ → List ℕ → Shown → Shown → Type 0
FailsToWrite at piece old new =
    (MakesCalls 1 old new × Changes (Torn at (length piece)) old.contents new.contents)
    ⊎ (MakesCalls 2 old new × Changes (Written at piece) old.contents new.contents)

-- a piece was written and made sure of, by two device calls
abbrev pub WritesSurely : {E : Type 0} → ℕ → List ℕ → Shown → Shown → Result (Unit {0}) E → Type 0
WritesSurely at piece old new result =
    MatchResult result (λ _. MakesCalls 2 old new × Changes (Written at piece) old.contents new.contents) (λ _. FailsToWrite at piece old new)

-- In and after a write and its sync each outcome of the write is an image, until that sync has succeeded.
abbrev pub OpensUntilSure : {E : Type 0} → (List ℕ → List ℕ → Type 0) → Shown → Shown → Result (Unit {0}) E → Type 0
OpensUntilSure step old new result =
    new.moment < last_moment → (m : ℕ) (was image : List ℕ) → old.moment < m → m ≤ new.moment → OnOk result (m < new.moment)
    → old.may_leave old.moment was → step was image → new.may_leave m image

-- and the images that are named are those of the write
abbrev pub NamesUntilSure : {E : Type 0} → ByName → Shown → Shown → Result (Unit {0}) E → Type 0
NamesUntilSure step old new result =
    new.moment < last_moment → (m : ℕ) → old.moment < m → m ≤ new.moment → OnOk result (m < new.moment) → NamesBy step old old.moment new m

-- each image that is named now is the contents, where they are told
abbrev pub NamesContents : Shown → Type 0
NamesContents s =
    s.moment < last_moment → IfSome s.contents (λ bytes. (name : Image) (image : List ℕ) → s.named name s.moment ≡ Some image → image ≡ bytes)

-- the calls for the magic, or none
abbrev pub CountsBlankCalls : {T E : Type 0} → Bool → Shown → Shown → Result T E → Type 0
CountsBlankCalls is_short old new result =
    MatchResult result (λ _. MatchBool is_short (MakesCalls 2 old new) (MakesCalls 0 old new))
    (λ _. IsTrue is_short × ((n : ℕ) × (0 < n) × (n ≤ 2) × MakesCalls n old new))

-- how many calls are due for the magic and the first frame, or for the first frame alone
abbrev pub calls_due : Bool → ℕ
calls_due true = 6
calls_due false = 4

-- what lies behind the magic and its gate is as it was
abbrev pub SameBehind : List ℕ → List ℕ → Type 0
SameBehind was bytes = (n : ℕ) → 17 ≤ n → drop n bytes ≡ drop n was
