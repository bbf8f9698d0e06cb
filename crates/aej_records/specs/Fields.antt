-- The fields of a line of an AEJ: Portaria MTP 671/2021, annex VI. Bars stand between them.
use Rattle.std.specs.Prelude.{◌≡◌, ℕ, ◌-◌, ◌==◌, List, [], slice_index_or, Option, Some, None}
use Rattle.std.specs.List.{slice_split, join_with_byte}
use Rattle.std.proofs.lemmas.List.Splits.{join_with_byte-slice_split}
use Rattle.rep_fields.specs.Identity.{bar}

-- what stands before the first bar of a line, between two bars and behind the last one: a line with no bar is one field
abbrev pub fields_of : List ℕ → List (List ℕ)
fields_of line = slice_split (λ byte. byte == bar) line

-- a line is its fields with a bar between each two
pub join-fields_of : (line : List ℕ) → join_with_byte bar (fields_of line) ≡ line
join-fields_of line = join_with_byte-slice_split bar line

-- the fields behind a bar, where there is one
abbrev pub fields_behind : Option (List ℕ) → List (List ℕ)
fields_behind None = []
fields_behind (Some text) = fields_of text

-- the field of this number, counted from 1; a missing field counts as empty
abbrev pub field_at : ℕ → List (List ℕ) → List ℕ
field_at number fields = slice_index_or fields (number - 1) []
