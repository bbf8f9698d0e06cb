-- What a disk shows, and what each of its calls does to that: this project's own model of a disk that may fail,
-- and of what a crash may leave between two syncs.
--
-- The contents are what a read gives. A place is pending when it was written since the last sync that succeeded,
-- and when it lies at or past the least length since then. A crash leaves an image: bytes whose length lies between
-- the least and the greatest length since that sync, and which agree with the contents at each place that isn't
-- pending. Each device call adds two moments, one within it and one after it: within a write its range counts as
-- written, and within a cut its length counts as reached.
use Rattle.std.specs.Prelude.{◌≡◌, ◌↔◌, ℕ, ◌+◌, ◌-◌, ◌^◌, ◌<◌, ◌≤◌, min, max, List, ◌++◌, length, take, drop, replicate, MatchResult, IfOk, IfSome, OnOk, Result, Some, None, Option, option_map, ⊤}
use Rattle.rep_disk.specs.Record.{over, odd_byte}
use Rattle.rep_disk.specs.declared.image.Image.{Image}
use Rattle.rep_disk.specs.declared.image.Image.TheVariants.{Old, New, Odd}

-- what a disk shows
pub record Shown : Type 1 where
  -- what a read gives, where the disk tells it
  pub contents : Option (List ℕ)
  -- how many bytes it can still write without taking memory
  pub spare : ℕ
  -- the moment, which each device call raises by two
  pub moment : ℕ
  -- what a crash at a moment may leave
  pub may_leave : ℕ → List ℕ → Type 0
  -- three of the images of a moment, where the disk tells them: with the pending bytes as before, as written, and odd
  pub named : Image → ℕ → Option (List ℕ)
  -- how often the disk has failed
  pub faults : ℕ

-- the last value that a moment can have: what is said of moments and of images holds below it
abbrev pub last_moment : ℕ
last_moment = 2 ^ 64 - 1

-- where a piece may end
abbrev pub end_of_disk : ℕ
end_of_disk = 2 ^ 40

-- so many moments are added
abbrev pub AdvancesBy : ℕ → ℕ → ℕ → Type 0
AdvancesBy moments before now = now ≡ max before (min (before + moments) last_moment)

-- one device call: a moment within it and one after it
abbrev pub Advances : ℕ → ℕ → Type 0
Advances before now = AdvancesBy 2 before now

-- Contents

-- new is old with this piece at this place
abbrev pub Written : ℕ → List ℕ → List ℕ → List ℕ → Type 0
Written at piece old new = new ≡ take at old ++ piece ++ drop (at + length piece) old

-- new is old with any bytes in a range, which may lie past its end, and any part of the growth
pub record Torn (at size : ℕ) (old new : List ℕ) : Type 0 where
  pub before : take at new ≡ take at old
  pub behind : drop (at + size) new ≡ drop (at + size) old
  pub no_shorter : length old ≤ length new
  pub no_longer : length new ≤ max (length old) (at + size)

-- new is old cut to this length
abbrev pub CutTo : ℕ → List ℕ → List ℕ → Type 0
CutTo size old new = new ≡ take size old

-- new is old cut to some length from this one on
pub record CutBetween (size : ℕ) (old new : List ℕ) : Type 0 where
  pub front : new ≡ take (length new) old
  pub no_shorter : min size (length old) ≤ length new

-- new is old with any bytes past this length, and some length from this one on
pub record CutOpen (size : ℕ) (old new : List ℕ) : Type 0 where
  pub front : take size new ≡ take size old
  pub no_shorter : min size (length old) ≤ length new
  pub no_longer : length new ≤ length old

abbrev pub Same : List ℕ → List ℕ → Type 0
Same old new = new ≡ old

-- contents that are told take a step, and contents that aren't told stay so
abbrev pub Changes : (List ℕ → List ℕ → Type 0) → Option (List ℕ) → Option (List ℕ) → Type 0
Changes step None None = ⊤
Changes step None (Some new) = ⊥
Changes step (Some old) None = ⊥
Changes step (Some old) (Some new) = step old new

-- the contents after a write: with the piece, or with its range open
abbrev pub Writes : {E : Type 0} → ℕ → List ℕ → Option (List ℕ) → Option (List ℕ) → Result (Unit {0}) E → Type 0
Writes at piece old new result =
    MatchResult result (λ _. Changes (Written at piece) old new) (λ _. Changes (Torn at (length piece)) old new)

-- the contents after a cut: of this length, or of some length between
abbrev pub Cuts : {E : Type 0} → ℕ → Option (List ℕ) → Option (List ℕ) → Result (Unit {0}) E → Type 0
Cuts size old new result = MatchResult result (λ _. Changes (CutTo size) old new) (λ _. Changes (CutBetween size) old new)

-- What a read from a place on answers, where the contents are told: the front of the buffer has them from there
-- on, as far as the buffer goes.
abbrev pub Reads : {E : Type 0} → ℕ → Option (List ℕ) → Result ℕ E → List ℕ → Type 0
Reads at contents result into =
    IfOk result (λ n. (n ≤ length into) × IfSome contents (λ bytes. take n into ≡ take (length into) (drop at bytes)))

-- the length that is answered
abbrev pub Measures : {E : Type 0} → Option (List ℕ) → Result ℕ E → Type 0
Measures contents result = IfOk result (λ n. IfSome contents (λ bytes. n ≡ length bytes))

-- the place lies in the contents or at their end, where they are told
abbrev pub IsWithin : ℕ → Option (List ℕ) → Type 0
IsWithin at contents = IfSome contents (λ bytes. at ≤ length bytes)

-- Images

-- what a crash at a moment up to that one may leave is as before
abbrev pub KeepsPast : Shown → Shown → Type 0
KeepsPast old new = (m : ℕ) (image : List ℕ) → m ≤ old.moment → new.may_leave m image ↔ old.may_leave m image

-- the contents, where they are told, are one of the images
abbrev pub IsOwnImage : Shown → Type 0
IsOwnImage s = s.moment < last_moment → IfSome s.contents (s.may_leave s.moment)

-- The images in and after calls that take a step, of which each may be torn by a crash: each is one of those at
-- entry after the step, and at a later moment there is none that there was not at an earlier one.
pub record Moved (step : List ℕ → List ℕ → Type 0) (old new : Shown) : Type 0 where
  pub past : KeepsPast old new
  pub images : (m : ℕ) (image : List ℕ) → old.moment < m → m ≤ new.moment → new.may_leave m image
      → (was : List ℕ) × old.may_leave old.moment was × step was image
  pub settles : (m later : ℕ) (image : List ℕ) → old.moment < m → m ≤ later → later ≤ new.moment
      → new.may_leave later image → new.may_leave m image

abbrev pub Moves : (List ℕ → List ℕ → Type 0) → Shown → Shown → Type 0
Moves step old new = new.moment < last_moment → Moved step old new

-- In and after a call that takes a step each of its outcomes is an image.
abbrev pub Opens : (List ℕ → List ℕ → Type 0) → Shown → Shown → Type 0
Opens step old new =
    new.moment < last_moment → (m : ℕ) (was image : List ℕ) → old.moment < m → m ≤ new.moment
    → old.may_leave old.moment was → step was image → new.may_leave m image

-- Until a sync has succeeded each image stays one: within it, and after one that failed.
abbrev pub OpensUntil : {E : Type 0} → Shown → Shown → Result (Unit {0}) E → Type 0
OpensUntil old new result =
    new.moment < last_moment → (m : ℕ) (image : List ℕ) → old.moment < m → m ≤ new.moment → OnOk result (m < new.moment)
    → old.may_leave old.moment image → new.may_leave m image

-- the images in and after calls that leave the pending places as they are
pub record Stayed (old new : Shown) : Type 0 where
  pub past : KeepsPast old new
  pub images : (m : ℕ) (image : List ℕ) → old.moment < m → m ≤ new.moment → new.may_leave m image ↔ old.may_leave old.moment image

abbrev pub Stays : Shown → Shown → Type 0
Stays old new = new.moment < last_moment → Stayed old new

-- the contents, where they are told, are an image at this moment, and the only one
abbrev pub IsAtRest : Shown → Type 0
IsAtRest s = s.moment < last_moment → (image : List ℕ) → IfSome s.contents (λ bytes. s.may_leave s.moment image ↔ image ≡ bytes)

-- Images by name

-- what a call makes of an image that is told by this name
abbrev pub ByName : Type 0
ByName = Image → List ℕ → List ℕ

abbrev pub as_named : ByName
as_named name bytes = bytes

-- A write leaves the old image, puts its piece over the new one, and odd bytes over the odd one.
abbrev pub written_by_name : ℕ → List ℕ → ByName
written_by_name at piece Old bytes = bytes
written_by_name at piece New bytes = over at piece bytes
written_by_name at piece Odd bytes = over at (replicate (length piece) odd_byte) bytes

-- A cut shortens the old image, leaves the new one, and makes the bytes past it odd ones.
abbrev pub cut_by_name : ℕ → ByName
cut_by_name size Old bytes = take size bytes
cut_by_name size New bytes = bytes
cut_by_name size Odd bytes = take size bytes ++ replicate (length bytes - size) odd_byte

-- the images that a moment names are this step of those that another one of that disk, or of what it was, named
abbrev pub NamesBy : ByName → Shown → ℕ → Shown → ℕ → Type 0
NamesBy step old before new now = (name : Image) → new.named name now ≡ option_map (step name) (old.named name before)

-- the images that are named in and after a call
pub record Renamed (step : ByName) (old new : Shown) : Type 0 where
  pub past : (m : ℕ) → m ≤ old.moment → NamesBy as_named old m new m
  pub now : (m : ℕ) → old.moment < m → m ≤ new.moment → NamesBy step old old.moment new m

abbrev pub Renames : ByName → Shown → Shown → Type 0
Renames step old new = new.moment < last_moment → Renamed step old new

-- the images that are named in and after a sync: after one that succeeded each is the contents, where they are told
pub record RenamedSurely {E : Type 0} (old new : Shown) (result : Result (Unit {0}) E) : Type 0 where
  pub past : (m : ℕ) → m ≤ old.moment → NamesBy as_named old m new m
  pub within : (m : ℕ) → old.moment < m → m ≤ new.moment → OnOk result (m < new.moment) → NamesBy as_named old old.moment new m
  pub after : OnOk result (IfSome new.contents (λ bytes. NamesBy (λ name was. bytes) old old.moment new new.moment))

abbrev pub RenamesSurely : {E : Type 0} → Shown → Shown → Result (Unit {0}) E → Type 0
RenamesSurely old new result = new.moment < last_moment → RenamedSurely old new result

-- a call that is no device call changes nothing but the spare room
pub record IsUntouched (old new : Shown) : Type 0 where
  pub contents : new.contents ≡ old.contents
  pub moment : new.moment ≡ old.moment
  pub images : (m : ℕ) (image : List ℕ) → new.may_leave m image ↔ old.may_leave m image
  pub names : (m : ℕ) → NamesBy as_named old m new m
  pub faults : new.faults ≡ old.faults
