-- The hour bank of a link: minutes that were worked above the hours go in, and are taken out as time off. Its movements
-- are absences of their own kind (records 07 of Portaria MTP 671/2021, annex VI: `tipoAusenOuComp` 3, with `tipoMovBH`).
-- The balance is this project's own.
use Rattle.std.specs.Prelude.{◌≤◌, ◌==◌, ◌&&◌, ℕ, ℤ, pos, ◌+ℤ◌, ◌-ℤ◌, FitsSigned, Bool, false, if◌then◌else◌, Option, Some, None, unwrap_or, List, length, take, sum_by, slice_get}
use Rattle.std.specs.Int.{w64}
use Rattle.tr_plan.specs.Absence.{bank_movement}
use Rattle.tr_plan.specs.declared.absence.Absence.{Absence}

-- the directions of a movement: minutes are included in the bank, or compensated by time off
abbrev pub inclusion : ℕ
inclusion = 1

abbrev pub compensation : ℕ
compensation = 2

abbrev pub is_direction : ℕ → Option ℕ → Bool
is_direction direction (Some movement) = movement == direction
is_direction direction None = false

-- the absence moves the bank in this direction; absences of another kind don't move it
abbrev pub is_movement : ℕ → Absence → Bool
is_movement direction absence = (absence.kind == bank_movement) && is_direction direction absence.movement

-- the minutes by which it does
abbrev pub minutes_moved : ℕ → Absence → ℕ
minutes_moved direction absence =
    if is_movement direction absence then unwrap_or absence.minutes 0 else 0

-- the same for what stands at a place of the plan's absences
abbrev pub minutes_of : ℕ → Option Absence → ℕ
minutes_of direction (Some absence) = minutes_moved direction absence
minutes_of direction None = 0

abbrev pub minutes_at : ℕ → List Absence → ℕ → ℕ
minutes_at direction absences place = minutes_of direction (slice_get absences place)

-- the balance behind the absences at these places: the opening, with the minutes of the inclusions and without those of
-- the compensations
abbrev pub balance_of : List Absence → ℤ → List ℕ → ℤ
balance_of absences opening places =
    (opening +ℤ pos (sum_by (minutes_at inclusion absences) places))
    -ℤ pos (sum_by (minutes_at compensation absences) places)

-- a balance that fits into 64 bits, from -9,223,372,036,854,775,808 to 9,223,372,036,854,775,807
abbrev pub IsBalance : ℤ → Type 0
IsBalance minutes = FitsSigned w64 minutes

-- the balance has this range behind each of the absences
abbrev pub StaysInRange : List Absence → ℤ → List ℕ → Type 0
StaysInRange absences opening places =
    (count : ℕ) → count ≤ length places → IsBalance (balance_of absences opening (take count places))

-- behind some of them it hasn't
abbrev pub LeavesRange : List Absence → ℤ → List ℕ → Type 0
LeavesRange absences opening places =
    (count : ℕ) × (count ≤ length places) × (IsBalance (balance_of absences opening (take count places)) → ⊥)
