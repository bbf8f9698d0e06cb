-- The texts of a line's parts, but its free texts: printable characters without bars.
use Rattle.std.proofs.Common.{ℕ, suc, ◌+◌, ◌/◌, ◌%◌, ◌<◌, ◌≤◌, ◌^◌, inl, List, [], ◌∷◌, ◌++◌, map, All, Option, Some, None, IfSome, decimal, codes, arith, ℤ, pos, negsuc}
use Rattle.std.specs.List.{concat, AllByRecursion as ByRecursion}
use Rattle.std.proofs.lemmas.Fmt.{decimal_by_steps}
use Rattle.std.proofs.lemmas.List.Elements.{All-nil, All-cons, All-append, recursion_from_All}
use Rattle.rep_fields.specs.Calendar.{day_text, date_of}
use Rattle.rep_fields.specs.Digits.{numeral}
use Rattle.rep_fields.specs.Employer.{kind_byte}
use Rattle.rep_fields.specs.Identity.{IsRepByte, IsRepNumber}
use Rattle.rep_fields.specs.Moment.{Moment, hours_text, moment_text, offset_text, local_text}
use Rattle.rep_fields.specs.declared.employer.EmployerId.{EmployerId}
use Rattle.rep_fields.specs.declared.employer.EmployerId.TheVariants.{Cnpj, Person}
use Rattle.rep_fields.proofs.Numerals.{IsDigitByte-numeral}
use Rattle.aej_records.specs.Line.{IsBetween, IsMarkLetter, IsSourceLetter, AreDigits, IsInRange, TextsHave}
use Rattle.aej_records.specs.Text.{type_text, owner_text, optional_text, fields_text}
use Rattle.aej_records.specs.declared.kind.LineType.{LineType}
use Rattle.aej_records.specs.declared.kind.LineType.TheVariants as type
use Rattle.aej_records.specs.declared.line.AejLine.{AejLine}
use Rattle.aej_records.specs.declared.line.AejLine.TheVariants.{Head, Rep, Link, Schedule, Mark, Registration, Absence, Program, Counts}
use Rattle.aej_records.proofs.Bars.{EachHas}

-- printable characters without bars
abbrev pub IsPlain : List ℕ → Type 0
IsPlain text = All IsRepByte text

-- a byte of ASCII from `+` to `z`
IsPlain-one : (byte : ℕ) → 43 ≤ byte → byte ≤ 122 → IsPlain (byte ∷ [])
IsPlain-one byte low high =
    let plain : IsRepByte byte = record { latin = inl (omega arith, omega arith); no_bar = λ is. omega arith } in
    All-cons IsRepByte byte [] plain (All-nil IsRepByte)

IsPlain-none : IsPlain []
IsPlain-none = All-nil IsRepByte

IsPlain-append : (front back : List ℕ) → IsPlain front → IsPlain back → IsPlain (front ++ back)
IsPlain-append front back in_front in_back = All-append IsRepByte front back in_front in_back

IsPlain-two : (a b : ℕ) → 43 ≤ a → a ≤ 122 → 43 ≤ b → b ≤ 122 → IsPlain (a ∷ b ∷ [])
IsPlain-two a b a_low a_high b_low b_high =
    IsPlain-append (a ∷ []) (b ∷ []) (IsPlain-one a a_low a_high) (IsPlain-one b b_low b_high)

IsPlain-concat : (texts : List (List ℕ)) → EachHas IsRepByte texts → IsPlain (concat texts)
IsPlain-concat [] each = IsPlain-none
IsPlain-concat (text ∷ texts) each = IsPlain-append text (concat texts) each.0 (IsPlain-concat texts each.1)

IsPlain-digits : (text : List ℕ) → AreDigits text → IsPlain text
IsPlain-digits text digits = λ k d within.
    let digit = digits k d within in
    record { latin = inl (omega arith, omega arith); no_bar = λ is. omega arith }

IsPlain-numeral : (width n : ℕ) → IsPlain (numeral width n)
IsPlain-numeral width n = IsPlain-digits (numeral width n) (IsDigitByte-numeral width n)

IsPlain-decimal : (n : ℕ) → n < 2 ^ 64 → IsPlain (decimal n)
IsPlain-decimal n small =
    decimal_by_steps (λ m ds. IsPlain ds)
    (λ m digit. IsPlain-one (48 + m) (omega arith) (omega arith))
    (λ m ds more front. IsPlain-append ds ((48 + m % 10) ∷ []) front (IsPlain-one (48 + m % 10) (omega arith) (omega arith))) n small

pub IsPlain-type_text : (type : LineType) → IsPlain (type_text type)
IsPlain-type_text type.Head = IsPlain-two 48 49 (omega arith) (omega arith) (omega arith) (omega arith)
IsPlain-type_text type.Rep = IsPlain-two 48 50 (omega arith) (omega arith) (omega arith) (omega arith)
IsPlain-type_text type.Link = IsPlain-two 48 51 (omega arith) (omega arith) (omega arith) (omega arith)
IsPlain-type_text type.Schedule = IsPlain-two 48 52 (omega arith) (omega arith) (omega arith) (omega arith)
IsPlain-type_text type.Mark = IsPlain-two 48 53 (omega arith) (omega arith) (omega arith) (omega arith)
IsPlain-type_text type.Registration = IsPlain-two 48 54 (omega arith) (omega arith) (omega arith) (omega arith)
IsPlain-type_text type.Absence = IsPlain-two 48 55 (omega arith) (omega arith) (omega arith) (omega arith)
IsPlain-type_text type.Program = IsPlain-two 48 56 (omega arith) (omega arith) (omega arith) (omega arith)
IsPlain-type_text type.Counts = IsPlain-two 57 57 (omega arith) (omega arith) (omega arith) (omega arith)

IsPlain-kind_byte : (id : EmployerId) → IsPlain (kind_byte id ∷ [])
IsPlain-kind_byte (Cnpj number) = IsPlain-one 49 (omega arith) (omega arith)
IsPlain-kind_byte (Person cpf) = IsPlain-one 50 (omega arith) (omega arith)

IsPlain-owner_text : (id : EmployerId) → IsPlain (owner_text id)
IsPlain-owner_text (Cnpj number) = IsPlain-numeral 14 number
IsPlain-owner_text (Person cpf) = IsPlain-numeral 11 cpf

IsPlain-day_text : (day : ℕ) → IsPlain (day_text day)
IsPlain-day_text day =
    let dash : IsPlain (45 ∷ []) = IsPlain-one 45 (omega arith) (omega arith) in
    let date = date_of day in
    IsPlain-concat (numeral 4 date.year ∷ (45 ∷ []) ∷ numeral 2 date.month ∷ (45 ∷ []) ∷ numeral 2 date.day ∷ [])
    (IsPlain-numeral 4 date.year, (dash, (IsPlain-numeral 2 date.month, (dash, (IsPlain-numeral 2 date.day, tt)))))

IsPlain-hours_text : (minutes : ℕ) → IsPlain (hours_text minutes)
IsPlain-hours_text minutes =
    IsPlain-append (numeral 2 (minutes / 60)) (numeral 2 (minutes % 60)) (IsPlain-numeral 2 (minutes / 60)) (IsPlain-numeral 2 (minutes % 60))

IsPlain-offset_text : (offset : ℤ) → IsPlain (offset_text offset)
IsPlain-offset_text (pos minutes) =
    IsPlain-append (43 ∷ []) (hours_text minutes) (IsPlain-one 43 (omega arith) (omega arith)) (IsPlain-hours_text minutes)
IsPlain-offset_text (negsuc less) =
    IsPlain-append (45 ∷ []) (hours_text (suc less)) (IsPlain-one 45 (omega arith) (omega arith)) (IsPlain-hours_text (suc less))

IsPlain-moment_text : (moment : Moment) → IsPlain (moment_text moment)
IsPlain-moment_text moment =
    let letter : IsPlain (codes "T") = IsPlain-one 84 (omega arith) (omega arith) in
    let colon : IsPlain (codes ":") = IsPlain-one 58 (omega arith) (omega arith) in
    let hours = moment.local % 1440 / 60 in
    IsPlain-append (local_text moment.local 0) (offset_text moment.offset)
    (IsPlain-concat (day_text (moment.local / 1440) ∷ codes "T" ∷ numeral 2 hours ∷ codes ":" ∷ numeral 2 (moment.local % 60) ∷ codes ":" ∷ numeral 2 0 ∷ [])
    (IsPlain-day_text (moment.local / 1440), (letter, (IsPlain-numeral 2 hours, (colon, (IsPlain-numeral 2 (moment.local % 60), (colon, (IsPlain-numeral 2 0, tt))))))))
    (IsPlain-offset_text moment.offset)

IsPlain-optional_number : (least most : ℕ) (optional : Option ℕ) → most ≤ 999999999 → IfSome optional (IsBetween least most)
    → IsPlain (optional_text decimal optional)
IsPlain-optional_number least most None small in_range = IsPlain-none
IsPlain-optional_number least most (Some n) small in_range = IsPlain-decimal n (omega arith)

IsPlain-optional_pair : (pair : Option ℕ) → IsPlain (optional_text (numeral 3) pair)
IsPlain-optional_pair None = IsPlain-none
IsPlain-optional_pair (Some n) = IsPlain-numeral 3 n

IsPlain-mark : (mark : ℕ) → IsMarkLetter mark → IsPlain (mark ∷ [])
IsPlain-mark mark letter = IsPlain-one mark (omega (arith, letter)) (omega (arith, letter))

IsPlain-source : (source : ℕ) → IsSourceLetter source → IsPlain (source ∷ [])
IsPlain-source source letter = IsPlain-one source (omega (arith, letter)) (omega (arith, letter))

-- the bytes of a recorder's number are plain too
IsPlain-rep_number : (number : List ℕ) → IsRepNumber number → IsPlain number
IsPlain-rep_number number valid = λ k d within. record { latin = valid.latin k d within; no_bar = valid.no_bar k d within }

-- where plain bytes are so, and those of the line's texts are, each byte of its fields is
module _ (IsSo : ℕ → Type 0) (plain : (byte : ℕ) → IsRepByte byte → IsSo byte) where
  so : (text : List ℕ) → IsPlain text → All IsSo text
  so text each = λ k d within. plain _ (each k d within)

  each-times : (times : List ℕ) → EachHas IsSo (map hours_text times)
  each-times [] = tt
  each-times (time ∷ times) = (so (hours_text time) (IsPlain-hours_text time), each-times times)

  each-counts : (counts : List ℕ) → ByRecursion (IsBetween 0 999999999) counts → EachHas IsSo (map decimal counts)
  each-counts [] in_range = tt
  each-counts (count ∷ counts) in_range =
      let few = in_range.0 in
      (so (decimal count) (IsPlain-decimal count (omega arith)), each-counts counts in_range.1)

  pub EachHas-line : (line : AejLine) → IsInRange line → TextsHave IsSo line → EachHas IsSo (fields_text line)
  EachHas-line (Head id caepf cno name first last made) in_range texts = (
    so (kind_byte id ∷ []) (IsPlain-kind_byte id),
    (
      so _ (IsPlain-owner_text id),
      (
        so _ (IsPlain-digits caepf in_range.1.1),
        (
          so _ (IsPlain-digits cno in_range.2.1),
          (
            texts,
            (
              so _ (IsPlain-day_text first),
              (
                so _ (IsPlain-day_text last),
                (
                  so _ (IsPlain-moment_text made),
                  (
                    so (codes "001") (IsPlain-append (48 ∷ []) (48 ∷ 49 ∷ []) (IsPlain-one 48 (omega arith) (omega arith))
                        (IsPlain-two 48 49 (omega arith) (omega arith) (omega arith) (omega arith))),
                    tt,
                  ),
                ),
              ),
            ),
          ),
        ),
      ),
    ),
  )
  EachHas-line (Rep id kind number) in_range texts =
      (so _ (IsPlain-decimal id (omega (arith, in_range.0))), (so _ (IsPlain-decimal kind (omega (arith, in_range.1))), (so _ (IsPlain-rep_number number in_range.2), tt)))
  EachHas-line (Link id cpf name) in_range texts =
      (so _ (IsPlain-decimal id (omega (arith, in_range.0))), (so _ (IsPlain-numeral 11 cpf), (texts, tt)))
  EachHas-line (Schedule code minutes times) in_range texts =
      (texts, (so _ (IsPlain-decimal minutes (omega (arith, in_range.1))), each-times times))
  EachHas-line (Mark link at rep mark pair source schedule reason) in_range texts = (
    so _ (IsPlain-decimal link (omega (arith, in_range.0))),
    (
      so _ (IsPlain-moment_text at),
      (
        so _ (IsPlain-optional_number 1 999999999 rep (omega arith) in_range.2),
        (so (mark ∷ []) (IsPlain-mark mark in_range.3), (so _ (IsPlain-optional_pair pair), (so (source ∷ []) (IsPlain-source source in_range.5), (texts.0, (texts.1, tt))))),
      ),
    ),
  )
  EachHas-line (Registration link number) in_range texts =
      (so _ (IsPlain-decimal link (omega (arith, in_range.0))), (texts, tt))
  EachHas-line (Absence link kind date minutes movement) in_range texts = (
    so _ (IsPlain-decimal link (omega (arith, in_range.0))),
    (
      so _ (IsPlain-decimal kind (omega (arith, in_range.1))),
      (
        so _ (IsPlain-day_text date),
        (so _ (IsPlain-optional_number 0 99999 minutes (omega arith) in_range.3), (so _ (IsPlain-optional_number 1 2 movement (omega arith) in_range.4), tt)),
      ),
    ),
  )
  EachHas-line (Program name version developer developer_name email) in_range texts =
      (texts.0, (texts.1, (so (kind_byte developer ∷ []) (IsPlain-kind_byte developer), (so _ (IsPlain-owner_text developer), (texts.2, (texts.3, tt))))))
  EachHas-line (Counts counts) in_range texts = each-counts counts (recursion_from_All (IsBetween 0 999999999) counts in_range.1)
