-- Entries and exits: what the marks of a day say of when work began and ended (records 05 of an AEJ, Portaria MTP
-- 671/2021, annex VI: `tpMarc` and `seqEntSaida`). The journey of a day is the marks with that journey day. That its kept
-- marks are entry and exit by turns is this project's own. Places are those of the list of marks, counted from 0.
use Rattle.std.specs.Prelude.{◌≡◌, ◌+◌, ◌/◌, ◌%◌, ◌<◌, ◌≤◌, ◌==◌, ◌&&◌, ℕ, Bool, true, false, if◌then◌else◌, List, length, take, count_by, slice_get, Some, None}
use Rattle.tr_days.specs.Journey.{JourneyMark}
use Rattle.tr_days.specs.declared.root.Root.{Root}
use Rattle.tr_days.specs.declared.root.Root.TheVariants.{Original, Included}
use Rattle.tr_pair.specs.declared.placed.Placed.{Placed}
use Rattle.tr_pair.specs.declared.placed.Sort.{Sort}
use Rattle.tr_pair.specs.declared.placed.Sort.TheVariants.{Entry, Exit, Dropped}

-- the greatest number of a pair, which has three digits
abbrev pub most_pairs : ℕ
most_pairs = 999

-- a mark is kept, but for a clocking that a disregard of the plan names
abbrev pub is_kept_root : Root → Bool
is_kept_root (Original nsr (Some disregard)) = false
is_kept_root (Original nsr None) = true
is_kept_root (Included place) = true

abbrev pub is_kept : JourneyMark → Bool
is_kept mark = is_kept_root mark.from

-- the mark is a kept one of the day's journey
abbrev pub is_kept_on : ℕ → JourneyMark → Bool
is_kept_on day mark = is_kept mark && (mark.day == day)

-- a mark's number among the kept marks of its journey, counted from 0: how many of them stand before its place
abbrev pub number_of : List JourneyMark → ℕ → JourneyMark → ℕ
number_of marks place mark = count_by (is_kept_on mark.day) (take place marks)

-- the kept marks of a journey are entry and exit by turns
abbrev pub sort_of : ℕ → Sort
sort_of number = if number % 2 == 0 then Entry else Exit

-- an entry and the next exit have one pair number, counted from 1 in each journey
abbrev pub pair_of : ℕ → ℕ
pair_of number = number / 2 + 1

-- what a mark with that number is; a mark that isn't kept has the pair 0
abbrev pub placed_as : JourneyMark → ℕ → Placed
placed_as mark number =
    if is_kept mark
    then record { mark = mark; sort = sort_of number; pair = pair_of number }
    else record { mark = mark; sort = Dropped; pair = 0 }

-- each of the marks, in its place
pub record ArePlaced (marks : List JourneyMark) (placed : List Placed) : Type 0 where
  pub size : length placed ≡ length marks
  pub each : (place : ℕ) (mark : JourneyMark) → slice_get marks place ≡ Some mark
      → slice_get placed place ≡ Some (placed_as mark (number_of marks place mark))

-- a kept mark of the day's journey has a pair number above the greatest
pub record IsCrowded (marks : List JourneyMark) (day : ℕ) : Type 0 where
  pub place : ℕ
  pub mark : JourneyMark
  pub there : slice_get marks place ≡ Some mark
  pub on_day : mark.day ≡ day
  pub kept : is_kept mark ≡ true
  pub above : most_pairs < pair_of (number_of marks place mark)

-- the first day with such a journey
pub record IsFirstCrowded (marks : List JourneyMark) (day : ℕ) : Type 0 where
  pub crowded : IsCrowded marks day
  pub first : (other : ℕ) → IsCrowded marks other → day ≤ other

-- at the two places stand an entry and, behind it, the exit that belongs to it: of one journey, with one pair number
pub record ArePair (placed : List Placed) (entry exit : ℕ) : Type 0 where
  pub begin : Placed
  pub finish : Placed
  pub begin_there : slice_get placed entry ≡ Some begin
  pub finish_there : slice_get placed exit ≡ Some finish
  pub enters : begin.sort ≡ Entry
  pub exits : finish.sort ≡ Exit
  pub behind : entry < exit
  pub journey : finish.mark.day ≡ begin.mark.day
  pub number : finish.pair ≡ begin.pair

-- the exit at the place ends a pair
abbrev pub HasEntry : List Placed → ℕ → Type 0
HasEntry placed exit = (entry : ℕ) × ArePair placed entry exit

-- an entry to which no exit belongs
pub record IsLoneEntry (placed : List Placed) (place : ℕ) : Type 0 where
  pub entry : Placed
  pub there : slice_get placed place ≡ Some entry
  pub enters : entry.sort ≡ Entry
  pub lone : (exit : ℕ) → ArePair placed place exit → ⊥

-- marks of the same journey that stand behind the place are dropped
abbrev pub IsLastKept : List Placed → ℕ → Type 0
IsLastKept placed place =
    (last later : Placed) (other : ℕ) → slice_get placed place ≡ Some last → slice_get placed other ≡ Some later
    → place < other → later.mark.day ≡ last.mark.day → later.sort ≡ Dropped

-- exits belong to entries, and an entry without an exit is the last kept mark of its journey
pub record ArePaired (placed : List Placed) : Type 0 where
  pub exits : (place : ℕ) (exit : Placed) → slice_get placed place ≡ Some exit → exit.sort ≡ Exit → HasEntry placed place
  pub lone : (place : ℕ) → IsLoneEntry placed place → IsLastKept placed place
