-- What a disk in memory keeps to answer what a crash at a moment may leave: its first bytes and its changes, replayed
-- up to that moment. This project's own.
use Rattle.std.specs.Prelude.{◌≡◌, ℕ, ◌≤◌, min, nat_le, Bool, true, false, if◌then◌else◌, List, [], ◌∷◌, ◌++◌, length, take, drop, map, IfSome, Some, None, Option, ⊤}
use Rattle.rep_disk.specs.declared.standing.Cell.{Cell}
use Rattle.rep_disk.specs.declared.image.Image.{Image}
use Rattle.rep_disk.specs.declared.image.Image.TheVariants.{Old, New, Odd}

-- how a disk stands at a moment
pub record State : Type 0 where
  -- what a read gives
  pub seen : List ℕ
  -- what a read gave at the last sync that succeeded
  pub settled : List ℕ
  -- the places up to the greatest length since then
  pub cells : List Cell
  -- the least length since then
  pub least : ℕ

-- the list with a piece over it from a place on
abbrev pub over : {A : Type 0} → ℕ → List A → List A → List A
over at piece xs = take at xs ++ (piece ++ drop (length piece) (drop at xs))

-- places that were written
abbrev pub pended : List ℕ → List Cell
pended = map (λ (byte : ℕ). record { byte = byte; pending = true })

-- places of which a sync made sure
abbrev pub rested : List ℕ → List Cell
rested = map (λ (byte : ℕ). record { byte = byte; pending = false })

-- places past a cut
abbrev pub opened : List Cell → List Cell
opened = map (λ (cell : Cell). record { byte = cell.byte; pending = true })

-- a disk at rest
abbrev pub at_rest : List ℕ → State
at_rest bytes = record { seen = bytes; settled = bytes; cells = rested bytes; least = length bytes }

-- what was asked of the contents: a piece at a place, or a length
pub data Step : Type 0 where
  Put : (at : ℕ) (piece : List ℕ) → Step
  Shorten : (size : ℕ) → Step

-- The state in and after a change. One that failed changes nothing that is seen, and counts as made for the images.
abbrev pub changed : Step → Bool → State → State
changed (Put at piece) failed s = record {
  seen = if failed then s.seen else over at piece s.seen;
  settled = s.settled;
  cells = over at (pended piece) s.cells;
  least = s.least;
}
changed (Shorten size) failed s = record {
  seen = if failed then s.seen else take size s.seen;
  settled = s.settled;
  cells = take size s.cells ++ opened (drop size s.cells);
  least = min s.least size;
}

-- a change: the moment within it, and the moment after the first sync that made sure of it
pub record Made : Type 0 where
  pub begun : ℕ
  pub synced : Option ℕ
  pub step : Step
  pub failed : Bool

abbrev pub is_synced_by : ℕ → Option ℕ → Bool
is_synced_by m None = false
is_synced_by m (Some t) = nat_le t m

-- the state at a moment, of which the changes before this one are known
abbrev pub reached : ℕ → Made → State → State
reached m made s =
    let now : State = changed made.step made.failed s in
    if nat_le made.begun m then (if is_synced_by m made.synced then at_rest now.seen else now) else s

abbrev pub replay : ℕ → State → List Made → State
replay m s [] = s
replay m s (made ∷ log) = replay m (reached m made s) log

-- the bytes have what was written at each place that isn't pending, and lie in the places that there are
abbrev pub FitsCells : List Cell → List ℕ → Type 0
FitsCells cells [] = ⊤
FitsCells [] (byte ∷ bytes) = ⊥
FitsCells (cell ∷ cells) (byte ∷ bytes) = (cell.pending ≡ false → byte ≡ cell.byte) × FitsCells cells bytes

-- what a crash may leave
pub record IsImage (s : State) (image : List ℕ) : Type 0 where
  pub no_shorter : s.least ≤ length image
  pub fits : FitsCells s.cells image

-- the byte of the odd image at each pending place
abbrev pub odd_byte : ℕ
odd_byte = 55

-- Three images. The old one has the pending bytes as before and the least length, the new one as they were written
-- and the greatest length, and the odd one has an odd byte at each pending place and the greatest length.
abbrev pub image_of : Image → State → List ℕ
image_of Old s = take s.least s.settled
image_of New s = map (λ (cell : Cell). cell.byte) s.cells
image_of Odd s = map (λ (cell : Cell). if cell.pending then odd_byte else cell.byte) s.cells

-- Each change began by this moment, and was made sure of by then where it was.
abbrev pub IsDated : ℕ → List Made → Type 0
IsDated moment [] = ⊤
IsDated moment (made ∷ log) = (made.begun ≤ moment) × IfSome made.synced (λ t. t ≤ moment) × IsDated moment log

-- what a read gives, and what it gave at the last sync, are no shorter than the least length and fit the places
pub record IsSoundState (s : State) : Type 0 where
  pub seen_length : s.least ≤ length s.seen
  pub settled_length : s.least ≤ length s.settled
  pub seen_fits : FitsCells s.cells s.seen
  pub settled_fits : FitsCells s.cells s.settled
