-- the period and the number that words name
use Rattle.std.proofs.Common.{◌≡◌, ◌≢◌, ℕ, ◌<◌, ◌≤◌, List, [], ◌∷◌, length, codes, Option, None, Some, IfSome, refl, sym, ap, subst, ◌∙◌, arith}
use Rattle.rep_fields.specs.Calendar.{IsDay, day_text}
use Rattle.rep_fields.specs.Decoding.{Decodes}
use Rattle.rep_fields.specs.Digits.{FitsDigits, IsDigitCount, numeral}
use Rattle.rep_fields.proofs.Numerals.{length-numeral, numeral-injective}
use Rattle.rep_fields.proofs.StampTexts.{day_text-injective}
use Rattle.rep_words.specs.Words.{IsExtract, IsNsrWord, IsReceipt, NamesPeriod, NamesSome}
use Rattle.rep_words.specs.declared.period.Period.{Period}

-- The number of a record

pub nsr_length : (word : List ℕ) (nsr : ℕ) → IsNsrWord word nsr → (1 ≤ length word) × (length word ≤ 9)
nsr_length word nsr is =
    let len : length word ≡ is.width = ap length is.spelled ∙ length-numeral is.width nsr in
    (omega (arith, is.some), omega (arith, is.within))

pub nsr_only : (word : List ℕ) (found : Option ℕ) → (IsDigitCount (length word) → Decodes (FitsDigits (length word)) (numeral (length word)) word found)
    → (nsr : ℕ) → IsNsrWord word nsr → found ≡ Some nsr
nsr_only word found read nsr is = by found (read (inside.0, omega (arith, inside.1)))
  where
    inside : (1 ≤ length word) × (length word ≤ 9)
    inside = nsr_length word nsr is

    len : length word ≡ is.width
    len = ap length is.spelled ∙ length-numeral is.width nsr

    fits : FitsDigits (length word) nsr
    fits = subst (λ (w : ℕ). FitsDigits w nsr) (sym len) is.fits

    spelled : word ≡ numeral (length word) nsr
    spelled = is.spelled ∙ ap (λ (w : ℕ). numeral w nsr) (sym len)

    by : (found : Option ℕ) → Decodes (FitsDigits (length word)) (numeral (length word)) word found → found ≡ Some nsr
    by None none = absurd (none nsr fits spelled)
    by (Some v) some = ap Some (numeral-injective (length word) v nsr some.0 fits (sym some.1 ∙ spelled))

abbrev number_in : Option ℕ → ℕ
number_in None = 0
number_in (Some n) = n

pub isnt_zero : (found : Option ℕ) (nsr n : ℕ) → found ≡ Some nsr → found ≡ Some n → n ≡ 0 → 1 ≤ nsr → ⊥
isnt_zero found nsr n is other zero positive =
    let same : nsr ≡ n = ap number_in (sym is ∙ other) in
    omega (arith, zero, positive)

-- The period

pub names_one : (first last : List ℕ) (a b : Period) → NamesPeriod first last a → NamesPeriod first last b → a ≡ b
names_one first last a b one other =
    let from : a.from ≡ b.from = day_text-injective a.from b.from one.from other.from (sym one.first_spelled ∙ other.first_spelled) in
    let to : a.to ≡ b.to = day_text-injective a.to b.to one.to other.to (sym one.last_spelled ∙ other.last_spelled) in
    ap (λ (d : ℕ). record { from = d; to = a.to }) from ∙ ap (λ (d : ℕ). record { from = b.from; to = d }) to

pub names_alike : (first last : List ℕ) (a b : Option Period) → NamesSome first last a → NamesSome first last b → a ≡ b
names_alike first last None None one other = refl
names_alike first last None (Some b) one other = absurd (one b other)
names_alike first last (Some a) None one other = absurd (other a one)
names_alike first last (Some a) (Some b) one other = ap Some (names_one first last a b one other)

-- dates of which the last comes first name no period
pub names_none : (first last : List ℕ) (from to : ℕ) → IsDay from → IsDay to → first ≡ day_text from → last ≡ day_text to → to < from
    → (period : Period) → NamesPeriod first last period → ⊥
names_none first last from to is_from is_to from_text to_text less period names =
    let f : from ≡ period.from = day_text-injective from period.from is_from names.from (sym from_text ∙ names.first_spelled) in
    let t : to ≡ period.to = day_text-injective to period.to is_to names.to (sym to_text ∙ names.last_spelled) in
    omega (arith, names.in_order)

-- What the words of the commands name

-- the fourth and the fifth word of `extract`
abbrev third_word : List (List ℕ) → List ℕ
third_word (a ∷ b ∷ c ∷ d ∷ ws) = d
third_word _ = []

abbrev fourth_word : List (List ℕ) → List ℕ
fourth_word (a ∷ b ∷ c ∷ d ∷ e ∷ ws) = e
fourth_word _ = []

pub extract_only : (ws : List (List ℕ)) (command site journal first last out : List ℕ) (found period : Option Period) → NamesSome first last found
    → ws ≡ command ∷ site ∷ journal ∷ first ∷ last ∷ out ∷ [] → IsExtract ws period → found ≡ period
extract_only ws command site journal first last out found period names all is =
    let f : is.first ≡ first = ap third_word (sym is.spelled ∙ all) in
    let l : is.last ≡ last = ap fourth_word (sym is.spelled ∙ all) in
    names_alike first last found period names
    (subst (λ (w : List ℕ). NamesSome first w period) l (subst (λ (w : List ℕ). NamesSome w is.last period) f is.named))

pub receipt_found : (ws : List (List ℕ)) (site journal number : List ℕ) (found : Option ℕ) → IfSome found (λ nsr. IsNsrWord number nsr)
    → ws ≡ codes "receipt" ∷ site ∷ journal ∷ number ∷ [] → site ≢ [] → journal ≢ [] → IfSome found (λ nsr. IsReceipt ws nsr)
receipt_found ws site journal number None named all is_site is_journal = tt
receipt_found ws site journal number (Some nsr) named all is_site is_journal = record {
  site = site;
  journal = journal;
  number = number;
  spelled = all;
  site_named = is_site;
  journal_named = is_journal;
  numbered = named;
}

pub receipt_only : (ws : List (List ℕ)) (command site journal number : List ℕ) (found : Option ℕ) → ((nsr : ℕ) → IsNsrWord number nsr → found ≡ Some nsr)
    → ws ≡ command ∷ site ∷ journal ∷ number ∷ [] → (nsr : ℕ) → IsReceipt ws nsr → found ≡ Some nsr
receipt_only ws command site journal number found only all nsr is =
    only nsr (subst (λ (w : List ℕ). IsNsrWord w nsr) (ap third_word (sym is.spelled ∙ all)) is.numbered)
