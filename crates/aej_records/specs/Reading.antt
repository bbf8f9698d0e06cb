-- What the readers of a line's fields answer: this project's own.
use Rattle.std.specs.Prelude.{◌≡◌, ℕ, ◌+◌, ◌*◌, ◌≤◌, ◌⊎◌, List, length, replicate}
use Rattle.rep_fields.specs.Employer.{IsEmployerId}
use Rattle.rep_fields.specs.declared.employer.EmployerId.{EmployerId}
use Rattle.rep_fields.specs.Moment.{hours_text}
use Rattle.aej_records.specs.Fields.{field_at}
use Rattle.aej_records.specs.Grammar.{kinds_of, pairs_in, IsField, IsOwnerText, IsFirstOff, AreWritten, Says, owner_kind_field, owner_field, time_field}
use Rattle.aej_records.specs.Line.{type_of, IsInRange, HasNames}
use Rattle.aej_records.specs.Text.{type_text}
use Rattle.aej_records.specs.Times.{IsTimes}
use Rattle.aej_records.specs.declared.kind.LineType.{LineType}
use Rattle.aej_records.specs.declared.line.AejLine.{AejLine}
use Rattle.aej_records.specs.declared.error.BadAej.{BadAej}

-- the fields of a line of this type say the line's values
pub record IsSaid (type : LineType) (fields : List (List ℕ)) (line : AejLine) : Type 0 where
  pub in_range : IsInRange line
  pub names : HasNames line
  pub of_type : type_of line ≡ type
  pub said : Says line fields

-- the first field of a line of this type that is off its grammar
abbrev pub IsOff : LineType → List (List ℕ) → BadAej → Type 0
IsOff type fields bad = IsFirstOff 2 (kinds_of type fields) fields bad.field

-- the fields of a line say the line's values
pub record IsSaidBy (fields : List (List ℕ)) (line : AejLine) : Type 0 where
  pub in_range : IsInRange line
  pub names : HasNames line
  pub of_type : field_at 1 fields ≡ type_text (type_of line)
  pub said : Says line fields

-- an owner's kind is in the field of this number, and the digits of the owner's id in the next
pub record IsOwnerAt (number : ℕ) (fields : List (List ℕ)) (id : EmployerId) : Type 0 where
  pub in_range : IsEmployerId id
  pub written : IsOwnerText (field_at number fields) id (field_at (number + 1) fields)

-- the first of these two fields that is off its grammar
abbrev pub IsOwnerOff : ℕ → List (List ℕ) → BadAej → Type 0
IsOwnerOff number fields bad =
    (¬ IsField owner_kind_field (field_at number fields) × (bad.field ≡ number))
    ⊎ (IsField owner_kind_field (field_at number fields)
    × ¬ IsField (owner_field (field_at number fields)) (field_at (number + 1) fields) × (bad.field ≡ number + 1))

-- the fields of a schedule's line say its times
pub record AreTimes (fields : List (List ℕ)) (times : List ℕ) : Type 0 where
  pub in_range : IsTimes times
  pub said : AreWritten 4 hours_text times fields
  pub few : length fields ≤ 3 + length times

-- the first field of a schedule's line, from its times on, that is off its grammar
abbrev pub AreTimesOff : List (List ℕ) → BadAej → Type 0
AreTimesOff fields bad = IsFirstOff 4 (replicate (2 * pairs_in (length fields)) time_field) fields bad.field
