-- Laws of the values at the keys of rows: each key says one value, which is in its range.
use Rattle.std.proofs.Common.{◌≡◌, ℕ, ℤ, pos, List, [], ◌∷◌, length, map, All, Some, inl, inr, refl, sym, ap, ◌∙◌, subst, arith}
use Rattle.std.proofs.lemmas.List.{length-append}
use Rattle.std.proofs.lemmas.List.Elements.{All-head, All-tail, All-nil}
use Rattle.rep_fields.specs.Decoding.{TellsApart}
use Rattle.rep_fields.specs.Calendar.{IsDay, day_text}
use Rattle.rep_fields.specs.Latin.{IsText}
use Rattle.rep_fields.specs.Moment.{Moment, IsMoment, moment_text, IsMinuteOfDay, hours_text}
use Rattle.rep_fields.proofs.StampTexts.{day_text-injective, moment_text-injective}
use Rattle.rep_fields.proofs.TimeTexts.{hours_text-injective}
use Rattle.toml.specs.Data.{Members, integer, array}
use Rattle.toml.specs.View.{items_of}
use Rattle.toml_fields.specs.Table.{HasInteger, HasOr, IsMissing}
use Rattle.toml_fields.specs.Fields.{HasNumber, HasFixed}
use Rattle.toml_fields.proofs.Found.{HasLatin-unique, HasFixed-unique, HasOr-unique}
use Rattle.tr_plan.specs.Fields.{IsPlain, HasPlain, IsDigits, HasDigits, HasDay, HasTime, HasStamp}
use Rattle.tr_plan.specs.Schedule.{HasTimes, time_text}
use Rattle.tr_plan.proofs.RowLemmas.{items_of-injective}

pub HasPlain-unique : (least most : ℕ) (ms : Members) (key s t : List ℕ) → HasPlain least most ms key s → HasPlain least most ms key t → s ≡ t
HasPlain-unique least most ms key s t has_s has_t = HasLatin-unique most most ms key s t has_s.latin has_t.latin

pub HasDigits-unique : (ms : Members) (key s t : List ℕ) → HasDigits ms key s → HasDigits ms key t → s ≡ t
HasDigits-unique ms key s t has_s has_t = HasLatin-unique 14 14 ms key s t has_s.latin has_t.latin

pub HasInteger-unique : (ms : Members) (key : List ℕ) (y z : ℤ) → HasInteger ms key y → HasInteger ms key z → y ≡ z
HasInteger-unique ms key y z has_y has_z = let same : Some (integer y) ≡ Some (integer z) = sym has_y ∙ has_z in cc

hours-apart : TellsApart IsMinuteOfDay hours_text
hours-apart m n in_m in_n = hours_text-injective m n (omega arith) (omega arith)

pub HasDay-unique : (ms : Members) (key : List ℕ) (a b : ℕ) → HasDay ms key a → HasDay ms key b → a ≡ b
HasDay-unique ms key a b = HasFixed-unique IsDay day_text ms key a b day_text-injective

pub HasTime-unique : (ms : Members) (key : List ℕ) (a b : ℕ) → HasTime ms key a → HasTime ms key b → a ≡ b
HasTime-unique ms key a b = HasFixed-unique IsMinuteOfDay hours_text ms key a b hours-apart

pub HasStamp-unique : (ms : Members) (key : List ℕ) (a b : Moment) → HasStamp ms key a → HasStamp ms key b → a ≡ b
HasStamp-unique ms key a b = HasFixed-unique IsMoment moment_text ms key a b moment_text-injective

-- a value that stands at a key that isn't missing
pub fixed_there : {V : Type 0} (IsValue : V → Type 0) (text_of : V → List ℕ) (ms : Members) (key : List ℕ) (v : V)
    → HasFixed IsValue text_of ms key v → IsMissing ms key → ⊥
fixed_there IsValue text_of ms key v has missing = let same = sym missing ∙ has.there in absurd (cc)

pub plain_there : (least most : ℕ) (ms : Members) (key text : List ℕ) → HasPlain least most ms key text → IsMissing ms key → ⊥
plain_there least most ms key text has missing = let same = sym missing ∙ has.latin.there in absurd (cc)

pub digits_there : (ms : Members) (key text : List ℕ) → HasDigits ms key text → IsMissing ms key → ⊥
digits_there ms key text has missing = let same = sym missing ∙ has.latin.there in absurd (cc)

pub integer_there : (ms : Members) (key : List ℕ) (z : ℤ) → HasInteger ms key z → IsMissing ms key → ⊥
integer_there ms key z has missing = let same = sym missing ∙ has in absurd (cc)

pub number_there : (least most : ℕ) (ms : Members) (key : List ℕ) (n : ℕ) → HasNumber least most ms key n → IsMissing ms key → ⊥
number_there least most ms key n has missing = let same = sym missing ∙ has.there in absurd (cc)

pub PlainOr-unique : (most : ℕ) (ms : Members) (key s t : List ℕ) → HasOr [] (HasPlain 0 most) ms key s → HasOr [] (HasPlain 0 most) ms key t → s ≡ t
PlainOr-unique most ms key s t = HasOr-unique [] (HasPlain 0 most) ms key s t (HasPlain-unique 0 most ms key) (plain_there 0 most ms key)

pub DigitsOr-unique : (ms : Members) (key s t : List ℕ) → HasOr [] HasDigits ms key s → HasOr [] HasDigits ms key t → s ≡ t
DigitsOr-unique ms key s t = HasOr-unique [] HasDigits ms key s t (HasDigits-unique ms key) (digits_there ms key)

pub DayOr-unique : (default : ℕ) (ms : Members) (key : List ℕ) (a b : ℕ) → HasOr default HasDay ms key a → HasOr default HasDay ms key b → a ≡ b
DayOr-unique default ms key a b = HasOr-unique default HasDay ms key a b (HasDay-unique ms key) (fixed_there IsDay day_text ms key)

pub TimeOr-unique : (ms : Members) (key : List ℕ) (a b : ℕ) → HasOr 0 HasTime ms key a → HasOr 0 HasTime ms key b → a ≡ b
TimeOr-unique ms key a b = HasOr-unique 0 HasTime ms key a b (HasTime-unique ms key) (fixed_there IsMinuteOfDay hours_text ms key)

pub IntegerOr-unique : (ms : Members) (key : List ℕ) (a b : ℤ) → HasOr (pos 0) HasInteger ms key a → HasOr (pos 0) HasInteger ms key b → a ≡ b
IntegerOr-unique ms key a b = HasOr-unique (pos 0) HasInteger ms key a b (HasInteger-unique ms key) (integer_there ms key)

-- texts of times tell the times apart
pub times-injective : (xs ys : List ℕ) → All IsMinuteOfDay xs → All IsMinuteOfDay ys → map time_text xs ≡ map time_text ys → xs ≡ ys
times-injective [] [] in_xs in_ys same = refl
times-injective [] (y ∷ ys) in_xs in_ys same = absurd (cc)
times-injective (x ∷ xs) [] in_xs in_ys same = absurd (cc)
times-injective (x ∷ xs) (y ∷ ys) in_xs in_ys same =
    let texts : hours_text x ≡ hours_text y = cc in
    let tails : map time_text xs ≡ map time_text ys = cc in
    let heads : x ≡ y = hours-apart x y (All-head IsMinuteOfDay x xs in_xs) (All-head IsMinuteOfDay y ys in_ys) texts in
    ap (λ n. n ∷ xs) heads ∙ ap (λ ns. y ∷ ns) (times-injective xs ys (All-tail IsMinuteOfDay x xs in_xs) (All-tail IsMinuteOfDay y ys in_ys) tails)

pub HasTimes-unique : (ms : Members) (key xs ys : List ℕ) → HasTimes ms key xs → HasTimes ms key ys → xs ≡ ys
HasTimes-unique ms key xs ys has_xs has_ys =
    let same : Some (array (items_of (map time_text xs))) ≡ Some (array (items_of (map time_text ys))) = sym has_xs.there ∙ has_ys.there in
    let items : items_of (map time_text xs) ≡ items_of (map time_text ys) = cc in
    times-injective xs ys has_xs.are.each has_ys.are.each (items_of-injective (map time_text xs) (map time_text ys) items)

-- values in their ranges
pub plain_in_range : (least most : ℕ) (ms : Members) (key text : List ℕ) → HasPlain least most ms key text → IsPlain least most text
plain_in_range least most ms key text has = record { in_range = has.latin.in_range; long = has.long; no_bar = has.no_bar }

empty_text : (most : ℕ) → IsText most []
empty_text most = record { short = omega arith; latin = All-nil _; trimmed = λ front same. omega (arith, ap length same, length-append front (32 ∷ [])) }

pub plain_or_in_range : (most : ℕ) (ms : Members) (key text : List ℕ) → HasOr [] (HasPlain 0 most) ms key text → IsPlain 0 most text
plain_or_in_range most ms key text (inl none) =
    subst (IsPlain 0 most) (sym none.1) (record { in_range = empty_text most; long = omega arith; no_bar = All-nil _ })
plain_or_in_range most ms key text (inr has) = plain_in_range 0 most ms key text has

pub digits_or_in_range : (ms : Members) (key text : List ℕ) → HasOr [] HasDigits ms key text → IsDigits text
digits_or_in_range ms key text (inl none) = subst IsDigits (sym none.1) (record { in_range = empty_text 14; digits = All-nil _ })
digits_or_in_range ms key text (inr has) = record { in_range = has.latin.in_range; digits = has.digits }
