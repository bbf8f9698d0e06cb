-- What is written for a line is a line: short, and of printable characters.
use Rattle.std.proofs.Common.{◌≡◌, ℕ, ◌+◌, ◌*◌, ◌≤◌, inl, List, [], ◌∷◌, ◌++◌, length, map, All, Option, Some, None, IfSome, refl, decimal, arith, length-append}
use Rattle.std.specs.List.{AllByRecursion as ByRecursion}
use Rattle.std.proofs.lemmas.Fmt.{length-decimal-le}
use Rattle.std.proofs.lemmas.List.Elements.{All-nil, All-cons, All-append, recursion_from_All}
use Rattle.rep_fields.specs.Digits.{numeral}
use Rattle.rep_fields.specs.Identity.{bar}
use Rattle.rep_fields.specs.Latin.{IsLatin}
use Rattle.rep_fields.specs.Moment.{Moment, hours_text, moment_text}
use Rattle.rep_fields.specs.declared.employer.EmployerId.{EmployerId}
use Rattle.rep_fields.specs.declared.employer.EmployerId.TheVariants.{Cnpj, Person}
use Rattle.rep_fields.proofs.Numerals.{length-numeral}
use Rattle.rep_fields.proofs.StampTexts.{length-day_text, moment_parts}
use Rattle.aej_records.specs.Line.{type_of, IsBetween, HasText, IsInRange, TextsHave}
use Rattle.aej_records.specs.Text.{type_text, owner_text, optional_text, fields_text, behind_bars, line_text}
use Rattle.aej_records.specs.declared.kind.LineType.{LineType}
use Rattle.aej_records.specs.declared.kind.LineType.TheVariants as type
use Rattle.aej_records.specs.declared.line.AejLine.{AejLine}
use Rattle.aej_records.specs.declared.line.AejLine.TheVariants.{Head, Rep, Link, Schedule, Mark, Registration, Absence, Program, Counts}
use Rattle.aej_records.proofs.Bars.{EachHas}
use Rattle.aej_records.proofs.Plain.{IsPlain-type_text, EachHas-line}
use Rattle.aej_records.proofs.Unique.{length-hours_text}

-- the free texts of a line are printable
latin_texts : (line : AejLine) → IsInRange line → TextsHave IsLatin line
latin_texts (Head id caepf cno name first last made) in_range = in_range.3.latin
latin_texts (Rep id kind number) in_range = tt
latin_texts (Link id cpf name) in_range = in_range.2.latin
latin_texts (Schedule code minutes times) in_range = in_range.0.latin
latin_texts (Mark link at rep mark pair source schedule reason) in_range = (in_range.6.latin, in_range.7.latin)
latin_texts (Registration link number) in_range = in_range.1.latin
latin_texts (Absence link kind date minutes movement) in_range = tt
latin_texts (Program name version developer developer_name email) in_range =
    (in_range.0.latin, in_range.1.latin, in_range.3.latin, in_range.4.latin)
latin_texts (Counts counts) in_range = tt

All-behind_bars : (IsSo : ℕ → Type 0) (fields : List (List ℕ)) → IsSo bar → EachHas IsSo fields → All IsSo (behind_bars fields)
All-behind_bars IsSo [] at_bar each = All-nil IsSo
All-behind_bars IsSo (field ∷ fields) at_bar each =
    All-cons IsSo bar (field ++ behind_bars fields) at_bar
    (All-append IsSo field (behind_bars fields) each.0 (All-behind_bars IsSo fields at_bar each.1))

pub latin-line_text : (line : AejLine) → IsInRange line → All IsLatin (line_text line)
unfolding line_text
latin-line_text line in_range =
    All-append IsLatin (type_text (type_of line)) (behind_bars (fields_text line))
    (λ k d within. (IsPlain-type_text (type_of line) k d within).latin)
    (All-behind_bars IsLatin (fields_text line) (inl (omega arith, omega arith))
    (EachHas-line IsLatin (λ byte plain. plain.latin) line in_range (latin_texts line in_range)))

-- the bytes of fields and of the bars before them
barred : List (List ℕ) → ℕ
barred [] = 0
barred (field ∷ fields) = 1 + length field + barred fields

length-behind_bars : (fields : List (List ℕ)) → length (behind_bars fields) ≡ barred fields
unfolding barred
length-behind_bars [] = refl
length-behind_bars (field ∷ fields) =
    omega (arith, length-append field (behind_bars fields), length-behind_bars fields)

length-type_text : (type : LineType) → length (type_text type) ≡ 2
length-type_text type.Head = refl
length-type_text type.Rep = refl
length-type_text type.Link = refl
length-type_text type.Schedule = refl
length-type_text type.Mark = refl
length-type_text type.Registration = refl
length-type_text type.Absence = refl
length-type_text type.Program = refl
length-type_text type.Counts = refl

length-number : (least most n : ℕ) → most ≤ 999999999 → IsBetween least most n → length (decimal n) ≤ 9
length-number least most n small in_range = length-decimal-le 9 n (omega arith) (omega arith) (omega arith)

length-owner_text : (id : EmployerId) → length (owner_text id) ≤ 14
length-owner_text (Cnpj number) = omega (arith, length-numeral 14 number)
length-owner_text (Person cpf) = omega (arith, length-numeral 11 cpf)

length-moment_text : (moment : Moment) → length (moment_text moment) ≡ 24
length-moment_text moment = (moment_parts (moment_text moment) moment refl).size

length-optional_number : (least most : ℕ) (optional : Option ℕ) → most ≤ 999999999 → IfSome optional (IsBetween least most)
    → length (optional_text decimal optional) ≤ 9
length-optional_number least most None small in_range = omega arith
length-optional_number least most (Some n) small in_range = length-number least most n small in_range

length-optional_pair : (pair : Option ℕ) → length (optional_text (numeral 3) pair) ≤ 3
length-optional_pair None = omega arith
length-optional_pair (Some n) = omega (arith, length-numeral 3 n)

barred-times : (times : List ℕ) → barred (map hours_text times) ≡ 5 * length times
unfolding barred
barred-times [] = refl
barred-times (time ∷ times) = omega (arith, length-hours_text time, barred-times times)

barred-counts : (counts : List ℕ) → ByRecursion (IsBetween 0 999999999) counts → barred (map decimal counts) ≤ 10 * length counts
unfolding barred
barred-counts [] in_range = omega arith
barred-counts (count ∷ counts) in_range =
    omega (arith, length-number 0 999999999 count (omega arith) in_range.0, barred-counts counts in_range.1)

barred-line : (line : AejLine) → IsInRange line → barred (fields_text line) ≤ 379
unfolding barred
barred-line (Head id caepf cno name first last made) in_range =
    omega (arith, length-owner_text id, in_range.1.0.short, in_range.2.0.short, in_range.3.short, length-day_text first, length-day_text last, length-moment_text made)
barred-line (Rep id kind number) in_range =
    omega (arith, length-number 1 999999999 id (omega arith) in_range.0, length-number 1 3 kind (omega arith) in_range.1, in_range.2.size)
barred-line (Link id cpf name) in_range =
    omega (arith, length-number 1 999999999 id (omega arith) in_range.0, length-numeral 11 cpf, in_range.2.short)
barred-line (Schedule code minutes times) in_range =
    omega (arith, in_range.0.short, length-number 1 1440 minutes (omega arith) in_range.1, barred-times times, in_range.2.few)
barred-line (Mark link at rep mark pair source schedule reason) in_range =
    omega (
      arith,
      length-number 1 999999999 link (omega arith) in_range.0,
      length-moment_text at,
      length-optional_number 1 999999999 rep (omega arith) in_range.2,
      length-optional_pair pair,
      in_range.6.short,
      in_range.7.short,
    )
barred-line (Registration link number) in_range =
    omega (arith, length-number 1 999999999 link (omega arith) in_range.0, in_range.1.short)
barred-line (Absence link kind date minutes movement) in_range =
    omega (
      arith,
      length-number 1 999999999 link (omega arith) in_range.0,
      length-number 1 4 kind (omega arith) in_range.1,
      length-day_text date,
      length-optional_number 0 99999 minutes (omega arith) in_range.3,
      length-optional_number 1 2 movement (omega arith) in_range.4,
    )
barred-line (Program name version developer developer_name email) in_range =
    omega (arith, in_range.0.short, in_range.1.short, length-owner_text developer, in_range.3.short, in_range.4.short)
barred-line (Counts counts) in_range =
    omega (arith, in_range.0, barred-counts counts (recursion_from_All (IsBetween 0 999999999) counts in_range.1))

pub length-line_text : (line : AejLine) → IsInRange line → length (line_text line) ≤ 381
unfolding line_text
length-line_text line in_range =
    omega (
      arith,
      length-append (type_text (type_of line)) (behind_bars (fields_text line)),
      length-type_text (type_of line),
      length-behind_bars (fields_text line),
      barred-line line in_range,
    )

-- the parts of a line that reads are in the ranges that are asked for writing
pub HasText-in_range : (line : AejLine) → IsInRange line → HasText line
HasText-in_range (Head id caepf cno name first last made) in_range = (in_range.0, in_range.1.1, in_range.2.1)
HasText-in_range (Rep id kind number) in_range = (in_range.0, in_range.1)
HasText-in_range (Link id cpf name) in_range = in_range.0
HasText-in_range (Schedule code minutes times) in_range = in_range.1
HasText-in_range (Mark link at rep mark pair source schedule reason) in_range =
    (in_range.0, in_range.2, in_range.3, in_range.4, in_range.5)
HasText-in_range (Registration link number) in_range = in_range.0
HasText-in_range (Absence link kind date minutes movement) in_range = (in_range.0, in_range.1, in_range.3, in_range.4)
HasText-in_range (Program name version developer developer_name email) in_range = in_range.2
HasText-in_range (Counts counts) in_range = in_range.1
