-- The lines of a history say the types of its records.
use Rattle.std.proofs.Common.{◌≡◌, ℕ, ◌+◌, ◌-◌, ◌==◌, Bool, cond, List, [], ◌∷◌, ◌++◌, length, map, take, drop, reverse, slice_index_or, Some, None, refl, sym, ap, ◌∙◌, arith, length-append}
use Rattle.std.proofs.lemmas.List.{get_or_at, get_or_append_left, map-append, reverse-append, reverse-reverse, take-map, drop-map}
use Rattle.std.proofs.lemmas.List.Sums.{sum_by-append}
use Rattle.std.proofs.lemmas.Simd.{map-map}
use Rattle.std.proofs.lemmas.Bool.Decides.{nat_tests}
use Rattle.rep_fields.specs.Digits.{numeral}
use Rattle.rep_fields.proofs.Numerals.{length-numeral}
use Rattle.afd_records.specs.Record.{payload_text, type_of}
use Rattle.afd_records.specs.Line.{record_text}
use Rattle.afd_records.specs.File.{count_of_type, counts_of, file_text}
use Rattle.afd_records.specs.declared.header.Head.{Head}
use Rattle.afd_records.specs.declared.record.Body.{Body}
use Rattle.afd_records.specs.declared.record.Body.TheVariants.{Employer, Adjust, Worker, Event, Clocking}
use Rattle.rep_wire.specs.declared.request.Entry.{Entry}
use Rattle.rep_core.specs.History.{bodies_of}
use Rattle.rep_core.specs.Chained.{history_lines, lines_to, newest_line}
use Rattle.rep_journal.specs.Format.{Framed}
use Rattle.afd_extract.specs.Period.{Range, in_range}
use Rattle.afd_extract.specs.Extract.{counts_of_lines, extract_text, lines_in, lines_of, lines_of_type}

-- the tenth byte
abbrev pub tenth : List ℕ → ℕ
tenth line = slice_index_or line 9 0

tenth_of : (digits rest check : List ℕ) (byte : ℕ) → length digits ≡ 9 → tenth ((digits ++ byte ∷ rest) ++ check) ≡ byte
tenth_of digits rest check byte nine =
    get_or_append_left (digits ++ byte ∷ rest) check 0 9 (omega (arith, length-append digits (byte ∷ rest)))
    ∙ get_or_at digits byte rest 0 9 nine

-- a record's line has the digit of its type there
tenth-record_text : (nsr : ℕ) (body : Body) (hash : List ℕ) → tenth (record_text nsr body hash) ≡ 48 + type_of body
unfolding payload_text
tenth-record_text nsr (Employer at resp id cno name place) hash = tenth_of (numeral 9 nsr) _ _ 50 (length-numeral 9 nsr)
tenth-record_text nsr (Adjust before after resp) hash = tenth_of (numeral 9 nsr) _ _ 52 (length-numeral 9 nsr)
tenth-record_text nsr (Worker at op cpf name extra resp) hash = tenth_of (numeral 9 nsr) _ _ 53 (length-numeral 9 nsr)
tenth-record_text nsr (Event at code) hash = tenth_of (numeral 9 nsr) _ _ 54 (length-numeral 9 nsr)
tenth-record_text nsr (Clocking marked cpf recorded collector offline) hash = tenth_of (numeral 9 nsr) _ _ 55 (length-numeral 9 nsr)

abbrev digit_of : Entry → ℕ
digit_of e = 48 + type_of e.body

tenths-to : (es : List Entry) → map tenth (lines_to es) ≡ map digit_of (reverse es)
unfolding lines_to
tenths-to [] = refl
tenths-to (e ∷ older) =
    map-append tenth (lines_to older) (newest_line e older ∷ [])
    ∙ ap (λ ds. ds ++ tenth (newest_line e older) ∷ []) (tenths-to older)
    ∙ ap (λ d. map digit_of (reverse older) ++ d ∷ []) (tenth-record_text _ e.body _)
    ∙ sym (map-append digit_of (reverse older) (e ∷ []))
    ∙ ap (λ xs. map digit_of xs) (sym (reverse-append (e ∷ []) older))

tenths : (h : List Entry) → map tenth (history_lines h) ≡ map digit_of h
tenths h = tenths-to (reverse h) ∙ ap (λ xs. map digit_of xs) (reverse-reverse h)

-- lines and records whose types agree have the same counts

-- one where it holds
abbrev as_one : Bool → ℕ
as_one holds = cond holds 1 0

shifted : (t k : ℕ) → as_one (48 + t == 48 + k) ≡ as_one (t == k)
shifted t k = grind (arith, nat_tests)

same_count : (kind : ℕ) (lines : List (List ℕ)) (bodies : List Body) → map tenth lines ≡ map (λ b. 48 + type_of b) bodies
    → lines_of_type kind lines ≡ count_of_type kind bodies
same_count kind [] [] same = refl
same_count kind [] (b ∷ bodies) same = absurd cc
same_count kind (l ∷ lines) [] same = absurd cc
same_count kind (l ∷ lines) (b ∷ bodies) same =
    let here : tenth l ≡ 48 + type_of b = cc in
    let rest : map tenth lines ≡ map (λ (body : Body). 48 + type_of body) bodies = cc in
    let one : as_one (tenth l == 48 + kind) ≡ as_one (type_of b == kind) = ap (λ d. as_one (d == 48 + kind)) here ∙ shifted (type_of b) kind in
    sum_by-append (λ (line : List ℕ). as_one (tenth line == 48 + kind)) (l ∷ []) lines
    ∙ ap (λ n. 0 + n + lines_of_type kind lines) one
    ∙ ap (λ n. 0 + as_one (type_of b == kind) + n) (same_count kind lines bodies rest)
    ∙ sym (sum_by-append (λ (body : Body). as_one (type_of body == kind)) (b ∷ []) bodies)

same_counts : (lines : List (List ℕ)) (bodies : List Body) → map tenth lines ≡ map (λ b. 48 + type_of b) bodies → counts_of_lines lines ≡ counts_of bodies
same_counts lines bodies same =
    let two = same_count 2 lines bodies same in
    let three = same_count 3 lines bodies same in
    let four = same_count 4 lines bodies same in
    let five = same_count 5 lines bodies same in
    let six = same_count 6 lines bodies same in
    let seven = same_count 7 lines bodies same in
    cc

in_range-map : {X Y : Type 0} (range : Range) (f : X → Y) (xs : List X) → in_range range (map f xs) ≡ map f (in_range range xs)
in_range-map None f xs = refl
in_range-map (Some range) f xs = ap (λ ys. drop (range.0 - 1) ys) (take-map f range.1 xs) ∙ drop-map f (range.0 - 1) (take range.1 xs)

-- the trailer's counts are those of the records in the range
pub counts_in_range : (h : List Entry) (range : Range) → counts_of_lines (in_range range (history_lines h)) ≡ counts_of (in_range range (bodies_of h))
counts_in_range h range =
    same_counts (in_range range (history_lines h)) (in_range range (bodies_of h))
    (sym (in_range-map range tenth (history_lines h)) ∙ ap (λ ds. in_range range ds) (tenths h)
    ∙ ap (λ ds. in_range range ds) (sym (map-map (λ (b : Body). 48 + type_of b) (λ (e : Entry). e.body) h))
    ∙ in_range-map range (λ (b : Body). 48 + type_of b) (bodies_of h))

pub extract_of_history : (head : Head) (h : List Entry) (frames : List Framed) (range : Range) → lines_of frames ≡ history_lines h
    → extract_text head (lines_in frames range) ≡ file_text head (in_range range (history_lines h)) (counts_of (in_range range (bodies_of h)))
extract_of_history head h frames range same =
    ap (λ ls. extract_text head (in_range range ls)) same
    ∙ ap (λ cs. file_text head (in_range range (history_lines h)) cs) (counts_in_range h range)
