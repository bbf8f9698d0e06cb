-- The lines that a lenient reader takes: their fields, that each is on its grammar, and that they tell their values.
use Rattle.std.proofs.Common.{◌≡◌, ℕ, zero, suc, ◌+◌, List, [], ◌∷◌, ◌++◌, length, slice_index, take, drop, map, Option, Some, None, refl, sym, ap, ◌∙◌, subst, arith}
use Rattle.std.specs.Prelude.{Bool, codes, sum_by}
use Rattle.std.proofs.Math.Seq.{take-add}
use Rattle.rep_fields.specs.Digits.{numeral}
use Rattle.rep_fields.specs.Latin.{padded}
use Rattle.rep_fields.specs.Moment.{Moment}
use Rattle.rep_fields.specs.Employer.{kind_byte, id_text, id_number}
use Rattle.rep_fields.proofs.Layouts.{cuts, widths_of, total, parts_of_text, length-concat, byte_of_part}
use Rattle.rep_fields.proofs.Numerals.{length-numeral}
use Rattle.rep_fields.proofs.Texts.{length-padded}
use Rattle.afd_records.specs.Record.{op_text, offline_text}
use Rattle.afd_records.specs.Line.{hash_bytes}
use Rattle.afd_records.specs.Fields.{Layout, IsLaidOut, layout_of, width_of}
use Rattle.afd_records.specs.Lenient.{IsStampText, IsCnoText, Wording, IsLooseBody, HasLooseHash, IsLooseHash, IsWorded, worded_payload, worded_check, IsLooseLineOf, IsLooseField, IsFirstBadBy}
use Rattle.afd_records.specs.declared.error.Notes.{Notes}
use Rattle.afd_records.specs.declared.record.Body.{Body}
use Rattle.afd_records.specs.declared.record.Body.TheVariants.{Employer, Adjust, Worker, Event, Clocking}
use Rattle.afd_records.proofs.LooseTexts.{length-stamp, length-cno}
use Rattle.afd_records.proofs.Printed.{total-layout, kind_field}
use Rattle.afd_records.proofs.RecordParts.{layout_for, length-op_text, length-offline_text}

-- all fields are on their grammar; they begin at this place
abbrev pub AreGoodBy : {K : Type 0} → (K → ℕ) → (K → List ℕ → List ℕ → Type 0) → ℕ → List K → List ℕ → Type 0
AreGoodBy width IsOn at [] line = Unit {0}
AreGoodBy width IsOn at (kind ∷ kinds) line =
    IsOn kind (take at line) (take (width kind) (drop at line)) × AreGoodBy width IsOn (at + width kind) kinds line

-- so none is the first bad one
pub good_not_bad_by : {K : Type 0} (width : K → ℕ) (IsOn : K → List ℕ → List ℕ → Type 0) (at : ℕ) (kinds : List K)
    (line : List ℕ) (field : ℕ) → AreGoodBy width IsOn at kinds line → IsFirstBadBy width IsOn at kinds line field → ⊥
good_not_bad_by width IsOn at [] line field good bad = bad
good_not_bad_by width IsOn at (kind ∷ kinds) line zero good bad = bad
good_not_bad_by width IsOn at (kind ∷ kinds) line (suc zero) good bad = bad good.0
good_not_bad_by width IsOn at (kind ∷ kinds) line (suc (suc later)) good bad =
    good_not_bad_by width IsOn (at + width kind) kinds line (suc later) good.1 bad.1

abbrev pub worded_fields : ℕ → Body → Option (List ℕ) → Wording → List (List ℕ)
worded_fields nsr body hash words = worded_payload nsr body words ++ worded_check body (hash_bytes hash) words

length-hash : (hash : Option (List ℕ)) (marked recorded : Moment) (cpf collector : ℕ) (offline : Bool)
    → HasLooseHash (Clocking marked cpf recorded collector offline) hash → length (hash_bytes hash) ≡ 64
length-hash None marked recorded cpf collector offline hashed = absurd hashed
length-hash (Some text) marked recorded cpf collector offline hashed = hashed.size

-- the fields have the widths of the layout
widths-worded : (nsr : ℕ) (body : Body) (hash : Option (List ℕ)) (words : Wording) → IsLooseBody body
    → HasLooseHash body hash → IsWorded body words
    → widths_of (worded_fields nsr body hash words) ≡ map width_of (layout_for body)
widths-worded nsr (Employer at resp id cno name place) hash words in_range hashed worded =
    rw (
      length-numeral 9 nsr,
      length-stamp at words.first_odd words.first worded.0,
      length-numeral 14 resp,
      length-numeral 14 (id_number id),
      length-cno cno words.cno worded.1,
      length-padded 150 name in_range.4.short,
      length-padded 100 place in_range.5.short,
      worded.2,
    ) refl
widths-worded nsr (Adjust before after resp) hash words in_range hashed worded =
    rw (
      length-numeral 9 nsr,
      length-stamp before words.first_odd words.first worded.0,
      length-stamp after words.second_odd words.second worded.1,
      length-numeral 11 resp,
      worded.2,
    ) refl
widths-worded nsr (Worker at op cpf name extra resp) hash words in_range hashed worded =
    rw (
      length-numeral 9 nsr,
      length-stamp at words.first_odd words.first worded.0,
      length-op_text op,
      length-numeral 12 cpf,
      length-padded 52 name in_range.2.short,
      length-padded 4 extra in_range.3.short,
      length-numeral 11 resp,
      worded.1,
    ) refl
widths-worded nsr (Event at code) hash words in_range hashed worded =
    rw (length-numeral 9 nsr, length-stamp at words.first_odd words.first worded, length-numeral 2 code) refl
widths-worded nsr (Clocking marked cpf recorded collector offline) hash words in_range hashed worded =
    rw (
      length-numeral 9 nsr,
      length-stamp marked words.first_odd words.first worded.0,
      length-numeral 12 cpf,
      length-stamp recorded words.second_odd words.second worded.1,
      length-numeral 2 collector,
      length-offline_text offline,
      length-hash hash marked recorded cpf collector offline hashed,
    ) refl

-- the fields that the layout cuts out of such a line
pub cuts-worded : (nsr : ℕ) (body : Body) (hash : Option (List ℕ)) (notes : Notes) (line : List ℕ)
    (is : IsLooseLineOf nsr body hash notes line)
    → cuts 0 (map width_of (layout_for body)) line ≡ worded_fields nsr body hash is.words
cuts-worded nsr body hash notes line is =
    let fields = worded_fields nsr body hash is.words in
    subst (λ (widths : List ℕ). cuts 0 widths line ≡ fields)
    (widths-worded nsr body hash is.words is.in_range is.hashed is.worded) (parts_of_text fields line is.written)

length-worded : (nsr : ℕ) (body : Body) (hash : Option (List ℕ)) (notes : Notes) (line : List ℕ)
    → IsLooseLineOf nsr body hash notes line → length line ≡ sum_by width_of (layout_for body)
length-worded nsr body hash notes line is =
    ap length is.written ∙ length-concat (worded_fields nsr body hash is.words)
    ∙ ap total (widths-worded nsr body hash is.words is.in_range is.hashed is.worded) ∙ total-layout body

second_field : (nsr : ℕ) (body : Body) (hash : Option (List ℕ)) (notes : Notes) (line : List ℕ)
    → IsLooseLineOf nsr body hash notes line → layout_of (slice_index line 9) ≡ Some (layout_for body)
second_field nsr (Employer at resp id cno name place) hash notes line is =
    let cut = cuts-worded nsr (Employer at resp id cno name place) hash notes line is in
    let size = length-worded nsr (Employer at resp id cno name place) hash notes line is in
    ap layout_of (byte_of_part line 9 50 (omega (arith, size)) (cc cut))
second_field nsr (Adjust before after resp) hash notes line is =
    let cut = cuts-worded nsr (Adjust before after resp) hash notes line is in
    let size = length-worded nsr (Adjust before after resp) hash notes line is in
    ap layout_of (byte_of_part line 9 52 (omega (arith, size)) (cc cut))
second_field nsr (Worker at op cpf name extra resp) hash notes line is =
    let cut = cuts-worded nsr (Worker at op cpf name extra resp) hash notes line is in
    let size = length-worded nsr (Worker at op cpf name extra resp) hash notes line is in
    ap layout_of (byte_of_part line 9 53 (omega (arith, size)) (cc cut))
second_field nsr (Event at code) hash notes line is =
    let cut = cuts-worded nsr (Event at code) hash notes line is in
    let size = length-worded nsr (Event at code) hash notes line is in
    ap layout_of (byte_of_part line 9 54 (omega (arith, size)) (cc cut))
second_field nsr (Clocking marked cpf recorded collector offline) hash notes line is =
    let cut = cuts-worded nsr (Clocking marked cpf recorded collector offline) hash notes line is in
    let size = length-worded nsr (Clocking marked cpf recorded collector offline) hash notes line is in
    ap layout_of (byte_of_part line 9 55 (omega (arith, size)) (cc cut))

-- it is laid out so
pub loose_laid_out : (nsr : ℕ) (body : Body) (hash : Option (List ℕ)) (notes : Notes) (line : List ℕ)
    → IsLooseLineOf nsr body hash notes line → IsLaidOut (layout_for body) line
loose_laid_out nsr body hash notes line is =
    record { type = second_field nsr body hash notes line is; size = length-worded nsr body hash notes line is }

hash_field : (hash : Option (List ℕ)) (marked recorded : Moment) (cpf collector : ℕ) (offline : Bool) (bytes : List ℕ)
    → HasLooseHash (Clocking marked cpf recorded collector offline) hash → bytes ≡ hash_bytes hash → IsLooseHash bytes
hash_field None marked recorded cpf collector offline bytes hashed is = absurd hashed
hash_field (Some text) marked recorded cpf collector offline bytes hashed is = subst IsLooseHash (sym is) hashed

abbrev pub AreGood : Layout → List ℕ → Type 0
AreGood layout line = AreGoodBy width_of IsLooseField 0 layout line

-- and each field of it is on its grammar
pub loose_good : (nsr : ℕ) (body : Body) (hash : Option (List ℕ)) (notes : Notes) (line : List ℕ)
    → IsLooseLineOf nsr body hash notes line → AreGood (layout_for body) line
loose_good nsr (Employer at resp id cno name place) hash notes line is =
    let words = is.words in
    let cut = cuts-worded nsr (Employer at resp id cno name place) hash notes line is in
    let number_is : take 9 line ≡ numeral 9 nsr = cc cut in
    let type_is : take 1 (drop 9 line) ≡ codes "2" = cc cut in
    let at_is : take 24 (drop 10 line) ≡ words.first = cc cut in
    let at_text = subst (λ (text : List ℕ). IsStampText at words.first_odd text) (sym at_is) is.worded.0 in
    let resp_is : take 14 (drop 34 line) ≡ numeral 14 resp = cc cut in
    let kind_is : take 1 (drop 48 line) ≡ kind_byte id ∷ [] = cc cut in
    let ends = take-add 48 1 line ∙ ap (λ (last : List ℕ). take 48 line ++ last) kind_is in
    let id_is : take 14 (drop 49 line) ≡ id_text id = cc cut in
    let cno_is : take 14 (drop 63 line) ≡ words.cno = cc cut in
    let cno_text = subst (IsCnoText cno) (sym cno_is) is.worded.1 in
    let name_is : take 150 (drop 77 line) ≡ padded 150 name = cc cut in
    let place_is : take 100 (drop 227 line) ≡ padded 100 place = cc cut in
    ((nsr, (is.numbered, number_is)), (type_is, ((at, words.first_odd, at_text), ((resp, (is.in_range.1, resp_is)), (kind_field id (take 1 (drop 48 line)) kind_is, ((id, ((is.in_range.2, (take 48 line, ends)), id_is)), ((cno, (is.in_range.3, cno_text)), ((name, (is.in_range.4, name_is)), ((place, (is.in_range.5, place_is)), (tt, tt))))))))))
loose_good nsr (Adjust before after resp) hash notes line is =
    let words = is.words in
    let cut = cuts-worded nsr (Adjust before after resp) hash notes line is in
    let number_is : take 9 line ≡ numeral 9 nsr = cc cut in
    let type_is : take 1 (drop 9 line) ≡ codes "4" = cc cut in
    let before_is : take 24 (drop 10 line) ≡ words.first = cc cut in
    let before_text = subst (λ (text : List ℕ). IsStampText before words.first_odd text) (sym before_is) is.worded.0 in
    let after_is : take 24 (drop 34 line) ≡ words.second = cc cut in
    let after_text = subst (λ (text : List ℕ). IsStampText after words.second_odd text) (sym after_is) is.worded.1 in
    let resp_is : take 11 (drop 58 line) ≡ numeral 11 resp = cc cut in
    ((nsr, (is.numbered, number_is)), (type_is, ((before, words.first_odd, before_text), ((after, words.second_odd, after_text), ((resp, (is.in_range.2, resp_is)), (tt, tt))))))
loose_good nsr (Worker at op cpf name extra resp) hash notes line is =
    let words = is.words in
    let cut = cuts-worded nsr (Worker at op cpf name extra resp) hash notes line is in
    let number_is : take 9 line ≡ numeral 9 nsr = cc cut in
    let type_is : take 1 (drop 9 line) ≡ codes "5" = cc cut in
    let at_is : take 24 (drop 10 line) ≡ words.first = cc cut in
    let at_text = subst (λ (text : List ℕ). IsStampText at words.first_odd text) (sym at_is) is.worded.0 in
    let op_is : take 1 (drop 34 line) ≡ op_text op = cc cut in
    let cpf_is : take 12 (drop 35 line) ≡ numeral 12 cpf = cc cut in
    let name_is : take 52 (drop 47 line) ≡ padded 52 name = cc cut in
    let extra_is : take 4 (drop 99 line) ≡ padded 4 extra = cc cut in
    let resp_is : take 11 (drop 103 line) ≡ numeral 11 resp = cc cut in
    ((nsr, (is.numbered, number_is)), (type_is, ((at, words.first_odd, at_text), ((op, (tt, op_is)), ((cpf, (is.in_range.1, cpf_is)), ((name, (is.in_range.2, name_is)), ((extra, (is.in_range.3, extra_is)), ((resp, (is.in_range.4, resp_is)), (tt, tt)))))))))
loose_good nsr (Event at code) hash notes line is =
    let words = is.words in
    let cut = cuts-worded nsr (Event at code) hash notes line is in
    let number_is : take 9 line ≡ numeral 9 nsr = cc cut in
    let type_is : take 1 (drop 9 line) ≡ codes "6" = cc cut in
    let at_is : take 24 (drop 10 line) ≡ words.first = cc cut in
    let at_text = subst (λ (text : List ℕ). IsStampText at words.first_odd text) (sym at_is) is.worded in
    let code_is : take 2 (drop 34 line) ≡ numeral 2 code = cc cut in
    ((nsr, (is.numbered, number_is)), (type_is, ((at, words.first_odd, at_text), ((code, (is.in_range.1, code_is)), tt))))
loose_good nsr (Clocking marked cpf recorded collector offline) hash notes line is =
    let words = is.words in
    let cut = cuts-worded nsr (Clocking marked cpf recorded collector offline) hash notes line is in
    let number_is : take 9 line ≡ numeral 9 nsr = cc cut in
    let type_is : take 1 (drop 9 line) ≡ codes "7" = cc cut in
    let marked_is : take 24 (drop 10 line) ≡ words.first = cc cut in
    let marked_text = subst (λ (text : List ℕ). IsStampText marked words.first_odd text) (sym marked_is) is.worded.0 in
    let cpf_is : take 12 (drop 34 line) ≡ numeral 12 cpf = cc cut in
    let recorded_is : take 24 (drop 46 line) ≡ words.second = cc cut in
    let recorded_text = subst (λ (text : List ℕ). IsStampText recorded words.second_odd text) (sym recorded_is) is.worded.1 in
    let collector_is : take 2 (drop 70 line) ≡ numeral 2 collector = cc cut in
    let offline_is : take 1 (drop 72 line) ≡ offline_text offline = cc cut in
    let hash_is : take 64 (drop 73 line) ≡ hash_bytes hash = cc cut in
    ((nsr, (is.numbered, number_is)), (type_is, ((marked, words.first_odd, marked_text), ((cpf, (is.in_range.1, cpf_is)), ((recorded, words.second_odd, recorded_text), ((collector, (is.in_range.3, collector_is)), ((offline, (tt, offline_is)), (hash_field hash marked recorded cpf collector offline _ is.hashed hash_is, tt))))))))
