-- What is written for a line is on the grammar, with the line's values.
use Rattle.std.proofs.Common.{◌≡◌, ◌≢◌, ℕ, suc, ◌+◌, ◌-◌, ◌*◌, ◌/◌, ◌%◌, ◌<◌, ◌≤◌, ◌^◌, inl, inr, List, [], ◌∷◌, ◌++◌, length, get_or, map, false, Option, Some, None, IfSome, refl, sym, ap, ◌∙◌, subst, decimal, arith, append-nil}
use Rattle.std.proofs.lemmas.Fmt.{decimal_by_steps, length-decimal-le, decimal_nonempty}
use Rattle.std.proofs.lemmas.List.{get_or-map, length-map, length_push}
use Rattle.std.proofs.lemmas.Grind.{pow_more}
use Rattle.rep_fields.specs.Digits.{numeral}
use Rattle.rep_fields.specs.Identity.{bar}
use Rattle.rep_fields.specs.Latin.{IsFilled}
use Rattle.rep_fields.specs.Moment.{Moment, IsMoment, hours_text, moment_text}
use Rattle.rep_fields.proofs.Numerals.{numeral_more, numeral-none}
use Rattle.aej_records.specs.Fields.{fields_of, field_at}
use Rattle.aej_records.specs.Grammar.{IsNumeralText, IsIdText, IsPairText, IsStampText, IsOptionalText, AreWritten, Says, ReadsAs}
use Rattle.aej_records.specs.Line.{type_of, IsBetween, IsInRange, IsReadable}
use Rattle.aej_records.specs.Text.{type_text, optional_text, fields_text, line_text}
use Rattle.aej_records.specs.declared.line.AejLine.{AejLine}
use Rattle.aej_records.specs.declared.line.AejLine.TheVariants.{Head, Rep, Link, Schedule, Mark, Registration, Absence, Program, Counts}
use Rattle.aej_records.proofs.Bars.{fields_of-behind_bars}
use Rattle.aej_records.proofs.Plain.{IsPlain-type_text, EachHas-line}

-- a number in decimal is one of as many digits as it needs
record IsOwnNumeral (n : ℕ) (text : List ℕ) : Type 0 where
  written : text ≡ numeral (length text) n
  fits : n < 10 ^ length text

decimal-numeral : (n : ℕ) → n < 2 ^ 64 → IsOwnNumeral n (decimal n)
decimal-numeral n small = decimal_by_steps IsOwnNumeral one more n small
  where
    one : (m : ℕ) → m < 10 → IsOwnNumeral m ((48 + m) ∷ [])
    one m digit =
        let last : m % 10 ≡ m = omega arith in
        record {
          written = sym (numeral_more 0 m ∙ ap (λ front. front ++ (48 + m % 10) ∷ []) (numeral-none (m / 10)) ∙ ap (λ d. (48 + d) ∷ []) last);
          fits = digit;
        }

    more : (m : ℕ) (front : List ℕ) → 10 ≤ m → IsOwnNumeral (m / 10) front → IsOwnNumeral m (front ++ (48 + m % 10) ∷ [])
    more m front big own =
        let size : length (front ++ (48 + m % 10) ∷ []) ≡ length front + 1 = length_push front (48 + m % 10) in
        let power : 10 ^ (length front + 1) ≡ 10 ^ length front * 10 = pow_more 10 (length front) in
        let below = own.fits in
        let bound : m < 10 ^ (length front + 1) = omega arith in
        record {
          written = ap (λ ds. ds ++ (48 + m % 10) ∷ []) own.written ∙ sym (numeral_more (length front) m)
              ∙ ap (λ width. numeral width m) (sym size);
          fits = subst (λ width. m < 10 ^ width) (sym size) bound;
        }

-- a number of at most nine digits can be read from its decimal
IsNumeralText-decimal : (n : ℕ) → n ≤ 999999999 → IsNumeralText 9 n (decimal n)
IsNumeralText-decimal n few =
    let own = decimal-numeral n (omega arith) in (
      length (decimal n),
      record {
        some = omega (arith, decimal_nonempty n (omega arith));
        within = length-decimal-le 9 n (omega arith) (omega arith) (omega arith);
        fits = own.fits;
        written = own.written;
      },
    )

IsStampText-moment : (moment : Moment) → IsMoment moment → IsStampText moment (moment_text moment)
IsStampText-moment moment in_range = (
  false,
  (
    0,
    false,
    record {
      in_range = in_range;
      in_minute = omega arith;
      at_zero = λ wrong. absurd (cc);
      text = refl;
      told_odd = (λ wrong. absurd (cc), λ odd. elim odd [ inl some ↦ absurd (some refl) | inr wrong ↦ absurd (cc) ]);
    },
  ),
)

IsFilled-same : (text : List ℕ) → IsFilled text text
IsFilled-same text = (0, sym (append-nil text))

-- the fields of what is written
fields_of-line_text : (line : AejLine) → IsReadable line → fields_of (line_text line) ≡ type_text (type_of line) ∷ fields_text line
unfolding line_text
fields_of-line_text line readable =
    fields_of-behind_bars (type_text (type_of line)) (fields_text line)
    (λ k d within. (IsPlain-type_text (type_of line) k d within).no_bar)
    (EachHas-line (λ byte. byte ≢ bar) (λ byte plain. plain.no_bar) line readable.in_range readable.no_bars)

IsOptionalText-id : (optional : Option ℕ) → IfSome optional (IsBetween 1 999999999) → IsOptionalText IsIdText optional (optional_text decimal optional)
IsOptionalText-id None in_range = refl
IsOptionalText-id (Some id) in_range = IsNumeralText-decimal id in_range.1

IsOptionalText-pair : (optional : Option ℕ) → IfSome optional (IsBetween 1 999) → IsOptionalText IsPairText optional (optional_text (numeral 3) optional)
IsOptionalText-pair None in_range = refl
IsOptionalText-pair (Some pair) in_range =
    (3, record { some = omega arith; within = omega arith; fits = omega (arith, in_range); written = refl })

IsOptionalText-number : (optional : Option ℕ) → IsOptionalText (λ n text. text ≡ decimal n) optional (optional_text decimal optional)
IsOptionalText-number None = refl
IsOptionalText-number (Some n) = refl

-- values that are written behind one field, or three
AreWritten-behind_one : (text_of : ℕ → List ℕ) (values : List ℕ) (first : List ℕ) → AreWritten 2 text_of values (first ∷ map text_of values)
AreWritten-behind_one text_of values first = λ k within.
    let place : 2 + k - 1 ≡ suc k = omega arith in
    ap (λ at. get_or (first ∷ map text_of values) at []) place ∙ get_or-map text_of values k 0 [] within

AreWritten-behind_three : (text_of : ℕ → List ℕ) (values : List ℕ) (first second third : List ℕ)
    → AreWritten 4 text_of values (first ∷ second ∷ third ∷ map text_of values)
AreWritten-behind_three text_of values first second third = λ k within.
    let place : 4 + k - 1 ≡ suc (suc (suc k)) = omega arith in
    ap (λ at. get_or (first ∷ second ∷ third ∷ map text_of values) at []) place ∙ get_or-map text_of values k 0 [] within

-- the fields that are written say the line
says_line : (line : AejLine) → IsInRange line → Says line (type_text (type_of line) ∷ fields_text line)
says_line (Head id caepf cno name first last made) in_range =
    ((refl, refl), IsFilled-same caepf, IsFilled-same cno, IsFilled-same name, refl, refl, IsStampText-moment made in_range.6, refl, omega arith)
says_line (Rep id kind number) in_range = (IsNumeralText-decimal id in_range.0.1, refl, refl, omega arith)
says_line (Link id cpf name) in_range = (IsNumeralText-decimal id in_range.0.1, refl, IsFilled-same name, omega arith)
says_line (Schedule code minutes times) in_range =
    (IsFilled-same code, refl, AreWritten-behind_three hours_text times _ _ _, omega (arith, length-map times hours_text))
says_line (Mark link at rep mark pair source schedule reason) in_range = (
  IsNumeralText-decimal link in_range.0.1,
  IsStampText-moment at in_range.1,
  IsOptionalText-id rep in_range.2,
  refl,
  IsOptionalText-pair pair in_range.4,
  refl,
  IsFilled-same schedule,
  IsFilled-same reason,
  omega arith,
)
says_line (Registration link number) in_range = (IsNumeralText-decimal link in_range.0.1, IsFilled-same number, omega arith)
says_line (Absence link kind date minutes movement) in_range =
    (IsNumeralText-decimal link in_range.0.1, refl, refl, IsOptionalText-number minutes, IsOptionalText-number movement, omega arith)
says_line (Program name version developer developer_name email) in_range =
    (IsFilled-same name, IsFilled-same version, (refl, refl), IsFilled-same developer_name, IsFilled-same email, omega arith)
says_line (Counts counts) in_range =
    (AreWritten-behind_one decimal counts _, omega (arith, length-map counts decimal, in_range.0))

-- what is written for a line that can be read reads as it
pub reads_as-line_text : (line : AejLine) → IsReadable line → ReadsAs (line_text line) line
reads_as-line_text line readable =
    let fields = fields_of-line_text line readable in
    record {
      readable = readable;
      of_type = ap (field_at 1) fields;
      said = subst (λ fs. Says line fs) (sym fields) (says_line line readable.in_range);
    }
