-- How many bytes an AFD has.
use Rattle.std.proofs.Common.{◌≡◌, ℕ, suc, ◌+◌, ◌-◌, ◌*◌, ◌<◌, ◌≤◌, ◌⊎◌, inl, inr, List, [], ◌∷◌, ◌++◌, length, codes, drop, take, get_or, slice_get, Option, Some, None, refl, sym, ap, subst, ◌∙◌, arith, length-append}
use Rattle.std.proofs.lemmas.List.{drop-append-le, drop_all, length-take-le, length-take, take_more}
use Rattle.std.proofs.lemmas.Option.{get_or_from_slice_get, slice_get_within}
use Rattle.std.specs.List.{flat_map}
use Rattle.std.proofs.lemmas.Grind.{flat_map-append}
use Rattle.rep_fields.specs.Calendar.{day_text}
use Rattle.rep_fields.specs.Digits.{numeral}
use Rattle.rep_fields.specs.Employer.{id_number, id_text, kind_byte}
use Rattle.rep_fields.specs.Latin.{padded}
use Rattle.rep_fields.specs.Moment.{Moment, moment_text}
use Rattle.rep_fields.proofs.Layouts.{length-concat, total, widths_of}
use Rattle.rep_fields.proofs.Numerals.{length-numeral}
use Rattle.rep_fields.proofs.StampTexts.{length-day_text, moment_parts}
use Rattle.rep_fields.proofs.Texts.{length-padded}
use Rattle.afd_records.specs.Checksum.{crc_text}
use Rattle.afd_records.specs.File.{ended, file_text, head_payload_text, head_text, signature_text, trailer_text}
use Rattle.afd_records.specs.Record.{IsBody}
use Rattle.afd_records.specs.declared.header.Head.{Head}
use Rattle.afd_records.specs.declared.record.Body.{Body}
use Rattle.afd_records.specs.declared.record.Body.TheVariants.{Employer, Adjust, Worker, Event, Clocking}
use Rattle.rep_wire.specs.declared.request.Entry.{Entry}
use Rattle.rep_core.specs.Valid.{IsFounded}
use Rattle.rep_ledger.proofs.Nexts.{IsBody-recorded}
use Rattle.rep_site.specs.Site.{IsSite}
use Rattle.rep_site.specs.declared.site.Site.{Site}
use Rattle.rep_core.specs.Chained.{history_lines}
use Rattle.rep_core.specs.History.{bodies_of, days_of}
use Rattle.afd_records.specs.File.{counts_of}
use Rattle.afd_extract.specs.Period.{IsDayOf, IsPeriod, IsRangeOf, Range, in_range}
use Rattle.rep_store.specs.Extracting.{IsAfdOf, IsExtractHead, NamesEmployer}

length-moment_text : (moment : Moment) → length (moment_text moment) ≡ 24
length-moment_text moment = (moment_parts (moment_text moment) moment refl).size

abbrev head_widths : List ℕ
head_widths = 9 ∷ 1 ∷ 1 ∷ 14 ∷ 14 ∷ 150 ∷ 17 ∷ 10 ∷ 10 ∷ 24 ∷ 3 ∷ 1 ∷ 14 ∷ 30 ∷ []

fourteen : (a b c d e f g h i j k l m n : List ℕ) → length a ≡ 9 → length b ≡ 1 → length c ≡ 1 → length d ≡ 14 → length e ≡ 14 → length f ≡ 150 → length g ≡ 17 → length h ≡ 10 → length i ≡ 10 → length j ≡ 24 → length k ≡ 3 → length l ≡ 1 → length m ≡ 14 → length n ≡ 30 → widths_of (a ∷ b ∷ c ∷ d ∷ e ∷ f ∷ g ∷ h ∷ i ∷ j ∷ k ∷ l ∷ m ∷ n ∷ []) ≡ head_widths
fourteen a b c d e f g h i j k l m n p q r s t u v w x y z aa bb dd = cc

length-head_text : (head : Head) → length head.name ≤ 150 → length head.rep ≡ 17 → length head.dev ≡ 14 → length head.model ≤ 30 → length (head_text head) ≡ 302
unfolding head_payload_text
length-head_text head name rep dev model =
    let payload = length-concat (codes "000000000" ∷ codes "1" ∷ (kind_byte head.id ∷ []) ∷ id_text head.id ∷ numeral 14 head.cno
    ∷ padded 150 head.name ∷ head.rep ∷ day_text head.first ∷ day_text head.last ∷ moment_text head.made
    ∷ codes "003" ∷ numeral 1 head.dev_kind ∷ head.dev ∷ padded 30 head.model ∷ [])
    ∙ ap total (fourteen (codes "000000000") (codes "1") (kind_byte head.id ∷ []) (id_text head.id) (numeral 14 head.cno) (padded 150 head.name) head.rep
    (day_text head.first) (day_text head.last) (moment_text head.made) (codes "003") (numeral 1 head.dev_kind) head.dev (padded 30 head.model)
    refl refl refl (length-numeral 14 (id_number head.id)) (length-numeral 14 head.cno) (length-padded 150 head.name name) rep
    (length-day_text head.first) (length-day_text head.last) (length-moment_text head.made) refl (length-numeral 1 head.dev_kind) dev (length-padded 30 head.model model)) in
    let check : length (crc_text (head_payload_text head)) ≡ 4 = refl in
    omega (arith, payload, check, length-append (head_payload_text head) (crc_text (head_payload_text head)))

length-numerals : (counts : List ℕ) → length (flat_map (numeral 9) counts) ≡ 9 * length counts
length-numerals [] = refl
length-numerals (n ∷ counts) = omega (arith, length-append (numeral 9 n) (flat_map (numeral 9) counts), length-numeral 9 n, length-numerals counts)

length-trailer_text : (counts : List ℕ) → length counts ≡ 6 → length (trailer_text counts) ≡ 64
unfolding trailer_text
length-trailer_text counts six =
    omega (arith, length-append (codes "999999999") (flat_map (numeral 9) counts ++ codes "9"), length-append (flat_map (numeral 9) counts) (codes "9"), length-numerals counts)

length-signature_text : length signature_text ≡ 100
length-signature_text = length-padded 100 (codes "ASSINATURA_DIGITAL_EM_ARQUIVO_P7S") (omega arith)

length-ended : (line : List ℕ) → length (ended line) ≡ length line + 2
length-ended line = length-append line (13 ∷ 10 ∷ [])

-- head, trailer and the line for the signature have 472 bytes with their ends
pub length-file_text : (head : Head) (lines : List (List ℕ)) (counts : List ℕ) → length (head_text head) ≡ 302 → length counts ≡ 6 → length (file_text head lines counts) ≡ 472 + length (flat_map ended lines)
length-file_text head lines counts front six =
    let more = flat_map-append ended lines (trailer_text counts ∷ signature_text ∷ []) in
    omega (
      arith,
      front,
      length-trailer_text counts six,
      length-signature_text,
      length-append (ended (head_text head)) (flat_map ended (lines ++ trailer_text counts ∷ signature_text ∷ [])),
      ap length more,
      length-append (flat_map ended lines) (flat_map ended (trailer_text counts ∷ signature_text ∷ [])),
      length-append (ended (trailer_text counts)) (ended signature_text ++ []),
      length-append (ended signature_text) [],
      length-ended (head_text head),
      length-ended (trailer_text counts),
      length-ended signature_text,
    )

-- each record of a founded history is in its range
entry_body : (before : List Entry) (e : Entry) (behind : List Entry) → IsFounded (before ++ e ∷ behind) → IsBody e.body
entry_body [] e behind founded =
    let first = founded.0 in
    subst (λ (x : Entry). IsBody x.body) (sym first.made) (IsBody-recorded first.q first.now (inr first.founding) first.stamp)
entry_body (x ∷ before) e behind founded =
    let fits = founded.1 before e behind refl in
    subst (λ (d : Entry). IsBody d.body) (sym fits.made) (IsBody-recorded fits.q fits.now (inl fits.asked) fits.stamp)

named_short : (head : Head) (b : Body) → NamesEmployer head b → IsBody b → length head.name ≤ 150
named_short head (Employer at resp id cno name place) named in_range = omega (arith, ap length named.2, in_range.4.short)
named_short head (Adjust before after resp) named in_range = absurd named
named_short head (Worker at op cpf name extra resp) named in_range = absurd named
named_short head (Event at code) named in_range = absurd named
named_short head (Clocking marked cpf recorded collector offline) named in_range = absurd named

-- the head of an extraction has 302 bytes
pub length-extract_head : (site : Site) (h : List Entry) (from to minute : ℕ) (head : Head) → IsSite site → IsFounded h → IsExtractHead site h from to minute head → length (head_text head) ≡ 302
length-extract_head site h from to minute head is_site founded headed =
    let e = headed.employer.1 in
    let numbered = headed.employer.2.numbered in
    length-head_text head
    (named_short head e.body headed.employer.3 (entry_body numbered.before e numbered.behind (subst IsFounded numbered.split founded)))
    (ap length headed.rep ∙ is_site.rep.size) (ap length headed.dev ∙ length-numeral 14 (id_number site.developer)) (omega (arith, ap length headed.model))

-- a period has one range
pub one_period : (days : List ℕ) (from to : ℕ) (a b : Range) → IsPeriod days from to a → IsPeriod days from to b → a ≡ b
one_period days from to None None p q = refl
one_period days from to None (Some b) p q = absurd (p b.0 q.first_in)
one_period days from to (Some a) None p q = absurd (q a.0 p.first_in)
one_period days from to (Some a) (Some b) p q =
    let one = p.least b.0 q.first_in in
    let two = q.least a.0 p.first_in in
    let three = p.greatest b.1 q.last_in in
    let four = q.greatest a.1 p.last_in in
    let first : a.0 ≡ b.0 = omega arith in
    let last : a.1 ≡ b.1 = omega arith in
    ap (λ (n : ℕ). Some (n, a.1)) first ∙ ap (λ (n : ℕ). Some (b.0, n)) last

-- an AFD has 472 bytes, and its lines
pub length-afd : (site : Site) (h : List Entry) (from to minute : ℕ) (range : Range) (text : List ℕ) → IsSite site → IsFounded h → IsPeriod (days_of h) from to range → IsAfdOf site h from to minute text → length text ≡ 472 + length (flat_map ended (in_range range (history_lines h)))
length-afd site h from to minute range text is_site founded period afd =
    ap length afd.written
    ∙ length-file_text afd.head (in_range afd.range (history_lines h)) (counts_of (in_range afd.range (bodies_of h))) (length-extract_head site h from to minute afd.head is_site founded afd.headed) refl
    ∙ ap (λ r. 472 + length (flat_map ended (in_range r (history_lines h)))) (one_period (days_of h) from to afd.range range afd.period period)

-- the numbers of a range name days
numbers_day : (days : List ℕ) (nsr day : ℕ) → IsDayOf days nsr day → (1 ≤ nsr) × (nsr ≤ length days)
numbers_day days nsr day numbered = (
  omega (arith, numbered.number),
  omega (arith, numbered.number, ap length numbered.split, length-append numbered.before (day ∷ numbered.behind)),
)

pub range_within : (days : List ℕ) (from to first last : ℕ) → IsRangeOf days from to first last → (1 ≤ first) × (first ≤ last) × (last ≤ length days)
range_within days from to first last range = (
  (numbers_day days first range.first_in.day range.first_in.numbered).0,
  range.least last range.last_in,
  (numbers_day days last range.last_in.day range.last_in.numbered).1,
)

-- the lines from a place on, up to it and one further

pub ended_none : (xs : List (List ℕ)) (begin : ℕ) → length (flat_map ended (drop begin (take begin xs))) ≡ 0
ended_none xs begin = ap (λ ys. length (flat_map ended ys)) (drop_all begin (take begin xs) (omega (arith, length-take begin xs)))

pub ended_more : (xs : List (List ℕ)) (begin place : ℕ) (line : List ℕ) → begin ≤ place → slice_get xs place ≡ Some line → length (flat_map ended (drop begin (take (place + 1) xs))) ≡ length (flat_map ended (drop begin (take place xs))) + (length line + 2)
ended_more xs begin place line begun found =
    let inside = slice_get_within xs place line found in
    let size : length (take place xs) ≡ place = length-take-le place xs (omega arith) in
    let here : drop begin (take (place + 1) xs) ≡ drop begin (take place xs) ++ line ∷ [] =
    ap (λ ys. drop begin ys) (take_more xs place line inside ∙ ap (λ y. take place xs ++ y ∷ []) (get_or_from_slice_get xs place line line found))
    ∙ drop-append-le begin (take place xs) (line ∷ []) (omega arith) in
    omega (
      arith,
      ap (λ ys. length (flat_map ended ys)) here,
      ap length (flat_map-append ended (drop begin (take place xs)) (line ∷ [])),
      length-append (flat_map ended (drop begin (take place xs))) (ended line ++ []),
      length-append (ended line) [],
      length-ended line,
    )
