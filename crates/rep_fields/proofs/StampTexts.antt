-- The texts of local times and stamps, and their parts.
use Rattle.std.proofs.Common.{◌≡◌, ◌≢◌, ◌↔◌, ◌⊎◌, inl, inr, IsTrue, Bool, true, false, not, nat_eq, ℕ, ◌+◌, ◌*◌, ◌/◌, ◌%◌, ◌<◌, ◌≤◌, List, [], ◌∷◌, ◌++◌, length, get_or, take, drop, refl, sym, ap, ◌∙◌, arith, length-append, ℤ, pos, negsuc, unsigned_abs}
use Rattle.std.proofs.lemmas.Bool.{ne_eqb}
use Rattle.std.proofs.lemmas.List.{take_at, drop_at, take_all, take-append-drop, length-drop}
use Rattle.std.specs.List.{concat}
use Rattle.jiff_core.proofs.SignedLemmas.{signed_arith}
use Rattle.rep_fields.specs.Digits.{digits, numeral, FitsDigits}
use Rattle.rep_fields.specs.Calendar.{date_of, day_text, IsDay}
use Rattle.rep_fields.specs.Moment.{Moment, IsMoment, Lenient, IsLenientText, IsLenientMoment, IsLenientlyWritten, IsLooseOffset, loose_offset_text, local_text, moment_text, hours_text, offset_text, sign_of, IsOffset, last_local}
use Rattle.rep_fields.proofs.Numerals.{length-numeral, numeral-injective}
use Rattle.rep_fields.proofs.Layouts.{cuts, widths_of, total, parts_of_text, length-concat, text_of_parts, one_byte, byte_of_part, listed, listed_is}
use Rattle.rep_fields.proofs.DateLemmas.{date_of_is, number_of}
use Rattle.rep_fields.proofs.DayTexts.{date_parts, fits_text, same_date_from_parts}
use Rattle.rep_fields.proofs.TimeTexts.{hours_text-injective, offset_text-signed, length-offset_text}

pub length-day_text : (day : ℕ) → length (day_text day) ≡ 10
length-day_text day = (date_parts (day_text day) (date_of day) refl).size

pub day_text-injective : (m n : ℕ) → IsDay m → IsDay n → day_text m ≡ day_text n → m ≡ n
day_text-injective m n fits_m fits_n e =
    let same = same_date_from_parts (day_text n) (date_of m) (date_of n) (fits_text m fits_m) (fits_text n fits_n) (date_parts (day_text n) (date_of m) (sym e)) (date_parts (day_text n) (date_of n) refl) in
    omega (arith, signed_arith, sym (date_of_is m).number ∙ ap number_of same ∙ (date_of_is n).number)

same_signed : (a b : ℤ) → sign_of a ≡ sign_of b → unsigned_abs a ≡ unsigned_abs b → a ≡ b
same_signed (pos m) (pos n) signs sizes = ap pos sizes
same_signed (pos m) (negsuc n) signs sizes = absurd (omega arith)
same_signed (negsuc m) (pos n) signs sizes = absurd (omega arith)
same_signed (negsuc m) (negsuc n) signs sizes = ap negsuc (omega arith)

pub offset_text-injective : (a b : ℤ) → IsOffset a → IsOffset b → offset_text a ≡ offset_text b → a ≡ b
offset_text-injective a b in_a in_b e =
    let same : sign_of a ∷ hours_text (unsigned_abs a) ≡ sign_of b ∷ hours_text (unsigned_abs b) = sym (offset_text-signed a) ∙ e ∙ offset_text-signed b in
    let signs : sign_of a ≡ sign_of b = cc in
    let tails : hours_text (unsigned_abs a) ≡ hours_text (unsigned_abs b) = cc in
    same_signed a b signs (hours_text-injective (unsigned_abs a) (unsigned_abs b) (omega arith) (omega arith) tails)

-- what stands at the places of a text of nineteen bytes
pub record IsLocalParts (text : List ℕ) (local second : ℕ) : Type 0 where
  pub size : length text ≡ 19
  pub day : take 10 text ≡ day_text (local / 1440)
  pub letter : get_or text 10 0 ≡ 84
  pub hours : take 2 (drop 11 text) ≡ numeral 2 (local % 1440 / 60)
  pub first_colon : get_or text 13 0 ≡ 58
  pub minutes : take 2 (drop 14 text) ≡ numeral 2 (local % 60)
  pub second_colon : get_or text 16 0 ≡ 58
  pub seconds : take 2 (drop 17 text) ≡ numeral 2 second

abbrev parts : ℕ → ℕ → List (List ℕ)
parts local second = day_text (local / 1440) ∷ (84 ∷ []) ∷ numeral 2 (local % 1440 / 60) ∷ (58 ∷ []) ∷ numeral 2 (local % 60) ∷ (58 ∷ []) ∷ numeral 2 second ∷ []

abbrev widths : List ℕ
widths = 10 ∷ 1 ∷ 2 ∷ 1 ∷ 2 ∷ 1 ∷ 2 ∷ []

widths_of-parts : (local second : ℕ) → widths_of (parts local second) ≡ widths
widths_of-parts local second =
    rw (length-day_text (local / 1440), length-numeral 2 (local % 1440 / 60), length-numeral 2 (local % 60), length-numeral 2 second) refl

pub local_parts : (text : List ℕ) (local second : ℕ) → text ≡ local_text local second → IsLocalParts text local second
local_parts text local second e =
    let size : length text ≡ 19 = ap length e ∙ length-concat (parts local second) ∙ ap total (widths_of-parts local second) in
    let same : cuts 0 widths text ≡ parts local second = sym (ap (λ (ws : List ℕ). cuts 0 ws text) (widths_of-parts local second)) ∙ parts_of_text (parts local second) text e in
    record {
      size = size;
      day = cc;
      letter = byte_of_part text 10 84 (omega arith) cc;
      hours = cc;
      first_colon = byte_of_part text 13 58 (omega arith) cc;
      minutes = cc;
      second_colon = byte_of_part text 16 58 (omega arith) cc;
      seconds = cc;
    }

pub local_text_from_parts : (text : List ℕ) (local second : ℕ) → IsLocalParts text local second → text ≡ local_text local second
local_text_from_parts text local second h =
    let letter : take 1 (drop 10 text) ≡ 84 ∷ [] = one_byte text 10 84 (omega (arith, h.size)) h.letter in
    let first : take 1 (drop 13 text) ≡ 58 ∷ [] = one_byte text 13 58 (omega (arith, h.size)) h.first_colon in
    let last : take 1 (drop 16 text) ≡ 58 ∷ [] = one_byte text 16 58 (omega (arith, h.size)) h.second_colon in
    text_of_parts widths (parts local second) text (sym h.size) (rw (h.day, letter, h.hours, first, h.minutes, last, h.seconds) refl)

-- a local time is told from its text
pub record IsSameTime (local second other_local other_second : ℕ) : Type 0 where
  pub local_is : local ≡ other_local
  pub second_is : second ≡ other_second

pub local_text-injective : (a s b t : ℕ) → a ≤ last_local → b ≤ last_local → FitsDigits 2 s → FitsDigits 2 t → local_text a s ≡ local_text b t → IsSameTime a s b t
local_text-injective a s b t in_a in_b fits_s fits_t e =
    let first = local_parts (local_text b t) a s (sym e) in
    let other = local_parts (local_text b t) b t refl in
    let days = day_text-injective (a / 1440) (b / 1440) (omega arith) (omega arith) (sym first.day ∙ other.day) in
    let hours = numeral-injective 2 (a % 1440 / 60) (b % 1440 / 60) (omega arith) (omega arith) (sym first.hours ∙ other.hours) in
    let minutes = numeral-injective 2 (a % 60) (b % 60) (omega arith) (omega arith) (sym first.minutes ∙ other.minutes) in
    record {
      local_is = omega (arith, days, hours, minutes);
      second_is = numeral-injective 2 s t fits_s fits_t (sym first.seconds ∙ other.seconds);
    }

-- the parts that a reader found make up a local time
pub local_text_found : (text : List ℕ) (day hours minutes second : ℕ) → length text ≡ 19 → get_or text 10 0 ≡ 84 → get_or text 13 0 ≡ 58 → get_or text 16 0 ≡ 58 → hours < 24 → minutes < 60 → take 10 text ≡ day_text day → take 2 (drop 11 text) ≡ numeral 2 hours → take 2 (drop 14 text) ≡ numeral 2 minutes → take 2 (drop 17 text) ≡ numeral 2 second → text ≡ local_text (day * 1440 + hours * 60 + minutes) second
local_text_found text day hours minutes second size letter first_colon second_colon in_day in_hour day_is hours_is minutes_is second_is =
    let local = day * 1440 + hours * 60 + minutes in
    let same_day : day ≡ local / 1440 = omega arith in
    let same_hours : hours ≡ local % 1440 / 60 = omega arith in
    let same_minutes : minutes ≡ local % 60 = omega arith in
    local_text_from_parts text local second (record {
      size = size;
      day = day_is ∙ ap day_text same_day;
      letter = letter;
      hours = hours_is ∙ ap (numeral 2) same_hours;
      first_colon = first_colon;
      minutes = minutes_is ∙ ap (numeral 2) same_minutes;
      second_colon = second_colon;
      seconds = second_is;
    })

-- a local time and an offset behind it
pub record IsStampParts (text : List ℕ) (local second : ℕ) (offset_part : List ℕ) : Type 0 where
  pub size : length text ≡ 24
  pub local_is : take 19 text ≡ local_text local second
  pub offset_is : take 5 (drop 19 text) ≡ offset_part

pub stamp_parts : (text : List ℕ) (local second : ℕ) (offset_part : List ℕ) → length offset_part ≡ 5 → text ≡ local_text local second ++ offset_part → IsStampParts text local second offset_part
stamp_parts text local second offset_part wide e =
    let front = local_text local second in
    let size : length front ≡ 19 = (local_parts front local second refl).size in
    record {
      size = ap length e ∙ omega (arith, length-append front offset_part);
      local_is = ap (take 19) e ∙ take_at front offset_part 19 size;
      offset_is = ap (λ (t : List ℕ). take 5 (drop 19 t)) e ∙ ap (take 5) (drop_at front offset_part 19 size) ∙ take_all 5 offset_part (omega arith);
    }

pub stamp_from_parts : (text : List ℕ) (local second : ℕ) (offset_part : List ℕ) → length text ≡ 24 → take 19 text ≡ local_text local second → take 5 (drop 19 text) ≡ offset_part → text ≡ local_text local second ++ offset_part
stamp_from_parts text local second offset_part size local_is offset_is =
    let back : drop 19 text ≡ offset_part = sym (take_all 5 (drop 19 text) (omega (arith, length-drop 19 text))) ∙ offset_is in
    sym (take-append-drop 19 text) ∙ ap (λ (t : List ℕ). t ++ drop 19 text) local_is ∙ ap (λ (t : List ℕ). local_text local second ++ t) back

pub moment_parts : (text : List ℕ) (moment : Moment) → text ≡ moment_text moment → IsStampParts text moment.local 0 (offset_text moment.offset)
moment_parts text moment e = stamp_parts text moment.local 0 (offset_text moment.offset) (length-offset_text moment.offset) e

abbrev pub moment_of_parts : ℕ → ℤ → Moment
moment_of_parts local offset = record { local = local; offset = offset }

same_moment : (a b : Moment) → a.local ≡ b.local → a.offset ≡ b.offset → a ≡ b
same_moment a b local offset =
    ap (λ (l : ℕ). moment_of_parts l a.offset) local ∙ ap (λ (o : ℤ). moment_of_parts b.local o) offset

pub moment_text-injective : (a b : Moment) → IsMoment a → IsMoment b → moment_text a ≡ moment_text b → a ≡ b
moment_text-injective a b in_a in_b e =
    let first = moment_parts (moment_text b) a (sym e) in
    let other = moment_parts (moment_text b) b refl in
    let times = local_text-injective a.local 0 b.local 0 in_a.local in_b.local (omega arith) (omega arith) (sym first.local_is ∙ other.local_is) in
    let offsets = offset_text-injective a.offset b.offset in_a.offset in_b.offset (sym first.offset_is ∙ other.offset_is) in
    same_moment a b times.local_is offsets

-- what a reader found makes up a stamp
pub stamp_found : (text : List ℕ) (local second : ℕ) (offset same : ℤ) → length text ≡ 24 → local ≤ last_local → take 19 text ≡ local_text local second → IsOffset offset → take 5 (drop 19 text) ≡ offset_text offset → second ≡ 0 → same ≡ offset → IsMoment (moment_of_parts local same) × (text ≡ moment_text (moment_of_parts local same))
stamp_found text local second offset same size in_range local_is offset_in offset_is no_seconds same_is =
    let strict : take 19 text ≡ local_text local 0 = local_is ∙ ap (local_text local) no_seconds in
    rw same_is (record { local = in_range; offset = offset_in }, stamp_from_parts text local 0 (offset_text offset) size strict offset_is)

pub length-loose_offset_text : (offset : ℤ) (minus_zero : Bool) → length (loose_offset_text offset minus_zero) ≡ 5
length-loose_offset_text offset true = refl
length-loose_offset_text offset false = length-offset_text offset

pub lenient_parts : (text : List ℕ) (lenient : Lenient) (second : ℕ) (minus_zero : Bool) → IsLenientText lenient second minus_zero text → IsStampParts text lenient.moment.local second (loose_offset_text lenient.moment.offset minus_zero)
lenient_parts text lenient second minus_zero h =
    stamp_parts text lenient.moment.local second (loose_offset_text lenient.moment.offset minus_zero) (length-loose_offset_text lenient.moment.offset minus_zero) h.text

-- a stamp is odd where it has seconds or the offset `-0000`
pub odd_with_seconds : (second : ℕ) (minus_zero odd : Bool) → second ≢ 0 → odd ≡ not (nat_eq second 0) → IsTrue odd ↔ ((second ≢ 0) ⊎ IsTrue minus_zero)
odd_with_seconds second minus_zero odd some is = (λ _. inl some, λ _. is ∙ ap not (ne_eqb second 0 some))

pub odd_without_seconds : (second : ℕ) (minus_zero odd : Bool) → second ≡ 0 → odd ≡ minus_zero → IsTrue odd ↔ ((second ≢ 0) ⊎ IsTrue minus_zero)
odd_without_seconds second minus_zero odd none is =
    (λ told. inr (sym is ∙ told), λ h. elim h [ inl some ↦ absurd (some none) | inr minus ↦ is ∙ minus ])

-- what a lenient reader found makes up a stamp
pub lenient_found : (text : List ℕ) (local second : ℕ) (offset same : ℤ) (minus_zero odd : Bool) → length text ≡ 24 → local ≤ last_local → second < 60 → take 19 text ≡ local_text local second → IsLooseOffset (offset, minus_zero) → take 5 (drop 19 text) ≡ loose_offset_text offset minus_zero → same ≡ offset → IsTrue odd ↔ ((second ≢ 0) ⊎ IsTrue minus_zero) → IsLenientMoment (record { moment = moment_of_parts local same; odd = odd }) × IsLenientlyWritten (record { moment = moment_of_parts local same; odd = odd }) text
lenient_found text local second offset same minus_zero odd size in_range in_minute local_is offset_in offset_is same_is told_odd =
    rw same_is (
      record { local = in_range; offset = offset_in.0 },
      (
        second,
        minus_zero,
        record {
          in_range = record { local = in_range; offset = offset_in.0 };
          in_minute = in_minute;
          at_zero = offset_in.1;
          text = stamp_from_parts text local second (loose_offset_text offset minus_zero) size local_is offset_is;
          told_odd = told_odd;
        },
      ),
    )

-- the bytes of a stamp, one by one
abbrev stamp_of_parts : List ℕ → List ℕ → List ℕ → List ℕ → List ℕ
stamp_of_parts day hours minutes offset =
    concat (day ∷ (84 ∷ []) ∷ hours ∷ (58 ∷ []) ∷ minutes ∷ (58 ∷ []) ∷ (48 ∷ 48 ∷ []) ∷ []) ++ offset

no_seconds_text : numeral 2 0 ≡ 48 ∷ 48 ∷ []
unfolding digits
no_seconds_text = refl

pub stamp_written : (day hours minutes offset : List ℕ) (moment : Moment) → day ≡ day_text (moment.local / 1440) → hours ≡ numeral 2 (moment.local % 1440 / 60) → minutes ≡ numeral 2 (moment.local % 60) → offset ≡ offset_text moment.offset → stamp_of_parts (listed 0 10 day) (listed 0 2 hours) (listed 0 2 minutes) (listed 0 5 offset) ≡ moment_text moment
stamp_written day hours minutes offset moment day_is hours_is minutes_is offset_is =
    let local = moment.local in
    let day_listed : listed 0 10 day ≡ day_text (local / 1440) = listed_is 0 10 day (sym (ap length day_is ∙ length-day_text (local / 1440))) ∙ day_is in
    let hours_listed : listed 0 2 hours ≡ numeral 2 (local % 1440 / 60) = listed_is 0 2 hours (sym (ap length hours_is ∙ length-numeral 2 (local % 1440 / 60))) ∙ hours_is in
    let minutes_listed : listed 0 2 minutes ≡ numeral 2 (local % 60) = listed_is 0 2 minutes (sym (ap length minutes_is ∙ length-numeral 2 (local % 60))) ∙ minutes_is in
    let offset_listed : listed 0 5 offset ≡ offset_text moment.offset = listed_is 0 5 offset (sym (ap length offset_is ∙ length-offset_text moment.offset)) ∙ offset_is in
    ap (λ (d : List ℕ). stamp_of_parts d (listed 0 2 hours) (listed 0 2 minutes) (listed 0 5 offset)) day_listed
    ∙ ap (λ (h : List ℕ). stamp_of_parts (day_text (local / 1440)) h (listed 0 2 minutes) (listed 0 5 offset)) hours_listed
    ∙ ap (λ (m : List ℕ). stamp_of_parts (day_text (local / 1440)) (numeral 2 (local % 1440 / 60)) m (listed 0 5 offset)) minutes_listed
    ∙ ap (λ (o : List ℕ). stamp_of_parts (day_text (local / 1440)) (numeral 2 (local % 1440 / 60)) (numeral 2 (local % 60)) o) offset_listed
    ∙ ap (λ (s : List ℕ). concat (day_text (local / 1440) ∷ (84 ∷ []) ∷ numeral 2 (local % 1440 / 60) ∷ (58 ∷ []) ∷ numeral 2 (local % 60) ∷ (58 ∷ []) ∷ s ∷ []) ++ offset_text moment.offset) (sym no_seconds_text)
