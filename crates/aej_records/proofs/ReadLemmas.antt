-- What the reader of a line answers, from what it answers of the line's first fields.
use Rattle.std.proofs.Common.{◌≡◌, ℕ, List, take, Result, Ok, Err, IfOk, IfErr, sym, ap, ◌∙◌, subst}
use Rattle.aej_records.specs.Fields.{fields_of}
use Rattle.aej_records.specs.Grammar.{IsBadAmong, IsFirstBad, Says, ReadsAs}
use Rattle.aej_records.specs.Line.{type_of, HasNoBars, IsReadable}
use Rattle.aej_records.specs.Reading.{IsSaidBy}
use Rattle.aej_records.specs.Text.{line_text}
use Rattle.aej_records.specs.declared.error.BadAej.{BadAej}
use Rattle.aej_records.specs.declared.line.AejLine.{AejLine}
use Rattle.aej_records.specs.declared.line.AejLine.TheVariants.{Head, Rep, Link, Schedule, Mark, Registration, Absence, Program, Counts}
use Rattle.aej_records.proofs.Apart.{not_bad, first_bad_is_one}
use Rattle.aej_records.proofs.Bars.{HasNoBar-field_at, HasNoBar-filled}
use Rattle.aej_records.proofs.Capped.{IsBadAmong-whole, IsSaidBy-whole}
use Rattle.aej_records.proofs.Printed.{reads_as-line_text}
use Rattle.aej_records.proofs.Unique.{type_text-injective, says_one}

-- no text that fields say has a bar
HasNoBars-said : (line : AejLine) (text : List ℕ) → Says line (fields_of text) → HasNoBars line
HasNoBars-said (Head id caepf cno name first last made) text said = HasNoBar-filled name _ said.3 (HasNoBar-field_at 6 text)
HasNoBars-said (Rep id kind number) text said = tt
HasNoBars-said (Link id cpf name) text said = HasNoBar-filled name _ said.2 (HasNoBar-field_at 4 text)
HasNoBars-said (Schedule code minutes times) text said = HasNoBar-filled code _ said.0 (HasNoBar-field_at 2 text)
HasNoBars-said (Mark link at rep mark pair source schedule reason) text said =
    (HasNoBar-filled schedule _ said.6 (HasNoBar-field_at 8 text), HasNoBar-filled reason _ said.7 (HasNoBar-field_at 9 text))
HasNoBars-said (Registration link number) text said = HasNoBar-filled number _ said.1 (HasNoBar-field_at 3 text)
HasNoBars-said (Absence link kind date minutes movement) text said = tt
HasNoBars-said (Program name version developer developer_name email) text said = (
  HasNoBar-filled name _ said.0 (HasNoBar-field_at 2 text),
  HasNoBar-filled version _ said.1 (HasNoBar-field_at 3 text),
  HasNoBar-filled developer_name _ said.3 (HasNoBar-field_at 6 text),
  HasNoBar-filled email _ said.4 (HasNoBar-field_at 7 text),
)
HasNoBars-said (Counts counts) text said = tt

pub found_whole : (text : List ℕ) (fields : List (List ℕ)) (result : Result AejLine BadAej) → fields ≡ take 24 (fields_of text)
    → IfOk result (IsSaidBy fields) → IfOk result (ReadsAs text)
found_whole text fields (Ok line) is found =
    let said = IsSaidBy-whole (fields_of text) line (subst (λ fs. IsSaidBy fs line) is found) in
    record {
      readable = record { in_range = said.in_range; names = said.names; no_bars = HasNoBars-said line text said.said };
      of_type = said.of_type;
      said = said.said;
    }
found_whole text fields (Err bad) is found = tt

pub bad_whole : (text : List ℕ) (fields : List (List ℕ)) (result : Result AejLine BadAej) → fields ≡ take 24 (fields_of text)
    → IfErr result (λ bad. IsBadAmong fields bad.field) → IfErr result (λ bad. IsFirstBad text bad.field)
bad_whole text fields (Ok line) is off = tt
bad_whole text fields (Err bad) is off =
    IsBadAmong-whole (fields_of text) bad.field (subst (λ fs. IsBadAmong fs bad.field) is off)

reads_one : (text : List ℕ) (a b : AejLine) → ReadsAs text a → ReadsAs text b → a ≡ b
reads_one text a b reads_a reads_b =
    says_one a b (fields_of text) (type_text-injective (type_of a) (type_of b) (sym reads_a.of_type ∙ reads_b.of_type))
    reads_a.readable.in_range reads_b.readable.in_range reads_a.said reads_b.said

right_answer : (text : List ℕ) (result : Result AejLine BadAej) → IfOk result (ReadsAs text)
    → IfErr result (λ bad. IsFirstBad text bad.field) → (line : AejLine) → ReadsAs text line → result ≡ Ok line
right_answer text (Ok found) is_found is_bad line reads = ap Ok (reads_one text found line is_found reads)
right_answer text (Err bad) is_found is_bad line reads = absurd (not_bad text line bad.field reads is_bad)

right_refusal : (text : List ℕ) (result : Result AejLine BadAej) → IfOk result (ReadsAs text)
    → IfErr result (λ bad. IsFirstBad text bad.field) → (number : ℕ) → IsFirstBad text number
    → result ≡ Err (record { field = number })
right_refusal text (Ok found) is_found is_bad number first = absurd (not_bad text found number is_found first)
right_refusal text (Err bad) is_found is_bad number first =
    ap (λ n. Err (record { field = n })) (first_bad_is_one text bad.field number is_bad first)

-- the answer that the line's first fields get is the only right one
module _ (text : List ℕ) (fields : List (List ℕ)) (result : Result AejLine BadAej) (is : fields ≡ take 24 (fields_of text))
    (found : IfOk result (IsSaidBy fields)) (off : IfErr result (λ bad. IsBadAmong fields bad.field)) where
  pub only_answer : (line : AejLine) → ReadsAs text line → result ≡ Ok line
  only_answer line reads = right_answer text result (found_whole text fields result is found) (bad_whole text fields result is off) line reads

  pub only_refusal : (number : ℕ) → IsFirstBad text number → result ≡ Err (record { field = number })
  only_refusal number first = right_refusal text result (found_whole text fields result is found) (bad_whole text fields result is off) number first

  -- what is written for a line is read as the line
  pub read_back : (line : AejLine) → IsReadable line → text ≡ line_text line → result ≡ Ok line
  read_back line readable written =
      only_answer line (subst (λ bytes. ReadsAs bytes line) (sym written) (reads_as-line_text line readable))
