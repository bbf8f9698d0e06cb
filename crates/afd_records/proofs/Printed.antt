-- The line of a record has the type and the length of its layout, and each field of it is on its grammar.
use Rattle.std.proofs.Common.{◌≡◌, ℕ, zero, suc, ◌+◌, List, [], ◌∷◌, ◌++◌, length, slice_index, take, drop, map, Option, Some, None, inl, inr, refl, sym, ap, ◌∙◌, subst, arith}
use Rattle.std.specs.Prelude.{sum_by, Bool, codes}
use Rattle.std.proofs.Math.Seq.{take-add}
use Rattle.rep_fields.specs.Digits.{numeral}
use Rattle.rep_fields.specs.Latin.{padded}
use Rattle.rep_fields.specs.Moment.{Moment, moment_text}
use Rattle.rep_fields.specs.Employer.{kind_byte, id_text}
use Rattle.rep_fields.specs.declared.employer.EmployerId.{EmployerId}
use Rattle.rep_fields.specs.declared.employer.EmployerId.TheVariants.{Cnpj, Person}
use Rattle.rep_fields.proofs.Layouts.{cuts, total, length-concat, byte_of_part}
use Rattle.afd_records.specs.Record.{payload_text, op_text, offline_text}
use Rattle.afd_records.specs.Line.{check_text, hash_bytes, HasHash, IsHashText, IsLineOf}
use Rattle.afd_records.specs.Checksum.{crc_text}
use Rattle.afd_records.specs.Fields.{Layout, EmployerKindField, ChecksumField, IsField, IsFieldAt, IsFirstBadFrom, IsLaidOut, layout_of, width_of}
use Rattle.afd_records.specs.declared.record.Body.{Body}
use Rattle.afd_records.specs.declared.record.Body.TheVariants.{Employer, Adjust, Worker, Event, Clocking}
use Rattle.afd_records.proofs.RecordParts.{layout_for, payload_parts, line_parts, cuts-line, widths-line_parts, record_text-parts, payload_cut}

-- all fields are on their grammar; they begin at this place
abbrev pub AreGoodFrom : ℕ → Layout → List ℕ → Type 0
AreGoodFrom at [] line = Unit {0}
AreGoodFrom at (kind ∷ kinds) line = IsFieldAt kind at line × AreGoodFrom (at + width_of kind) kinds line

-- so none is the first bad one
pub good_not_bad : (at : ℕ) (layout : Layout) (line : List ℕ) (field : ℕ) → AreGoodFrom at layout line
    → IsFirstBadFrom at layout line field → ⊥
good_not_bad at [] line field good bad = bad
good_not_bad at (kind ∷ kinds) line zero good bad = bad
good_not_bad at (kind ∷ kinds) line (suc zero) good bad = bad good.0
good_not_bad at (kind ∷ kinds) line (suc (suc later)) good bad =
    good_not_bad (at + width_of kind) kinds line (suc later) good.1 bad.1

-- the length of a record's line
pub total-layout : (body : Body) → total (map width_of (layout_for body)) ≡ sum_by width_of (layout_for body)
total-layout (Employer at resp id cno name place) = refl
total-layout (Adjust before after resp) = refl
total-layout (Worker at op cpf name extra resp) = refl
total-layout (Event at code) = refl
total-layout (Clocking marked cpf recorded collector offline) = refl

length-line : (nsr : ℕ) (body : Body) (hash : Option (List ℕ)) (line : List ℕ) → IsLineOf nsr body hash line
    → length line ≡ sum_by width_of (layout_for body)
length-line nsr body hash line is =
    let parts = line_parts nsr body (check_text nsr body (hash_bytes hash)) in
    ap length (is.written ∙ record_text-parts nsr body (hash_bytes hash)) ∙ length-concat parts
    ∙ ap total (widths-line_parts nsr body hash is.in_range is.hashed) ∙ total-layout body

-- the second field of a record's line
second_field : (nsr : ℕ) (body : Body) (hash : Option (List ℕ)) (line : List ℕ) → IsLineOf nsr body hash line
    → layout_of (slice_index line 9) ≡ Some (layout_for body)
second_field nsr (Employer at resp id cno name place) hash line is =
    let cut = cuts-line nsr (Employer at resp id cno name place) hash line is in
    let size = length-line nsr (Employer at resp id cno name place) hash line is in
    ap layout_of (byte_of_part line 9 50 (omega (arith, size)) (cc cut))
second_field nsr (Adjust before after resp) hash line is =
    let cut = cuts-line nsr (Adjust before after resp) hash line is in
    let size = length-line nsr (Adjust before after resp) hash line is in
    ap layout_of (byte_of_part line 9 52 (omega (arith, size)) (cc cut))
second_field nsr (Worker at op cpf name extra resp) hash line is =
    let cut = cuts-line nsr (Worker at op cpf name extra resp) hash line is in
    let size = length-line nsr (Worker at op cpf name extra resp) hash line is in
    ap layout_of (byte_of_part line 9 53 (omega (arith, size)) (cc cut))
second_field nsr (Event at code) hash line is =
    let cut = cuts-line nsr (Event at code) hash line is in
    let size = length-line nsr (Event at code) hash line is in
    ap layout_of (byte_of_part line 9 54 (omega (arith, size)) (cc cut))
second_field nsr (Clocking marked cpf recorded collector offline) hash line is =
    let cut = cuts-line nsr (Clocking marked cpf recorded collector offline) hash line is in
    let size = length-line nsr (Clocking marked cpf recorded collector offline) hash line is in
    ap layout_of (byte_of_part line 9 55 (omega (arith, size)) (cc cut))

-- it is laid out so
pub printed_laid_out : (nsr : ℕ) (body : Body) (hash : Option (List ℕ)) (line : List ℕ) → IsLineOf nsr body hash line
    → IsLaidOut (layout_for body) line
printed_laid_out nsr body hash line is =
    record { type = second_field nsr body hash line is; size = length-line nsr body hash line is }

-- the byte of a kind is one of the two
pub kind_field : (id : EmployerId) (bytes : List ℕ) → bytes ≡ kind_byte id ∷ [] → IsField EmployerKindField [] bytes
kind_field (Cnpj number) bytes is = inl is
kind_field (Person cpf) bytes is = inr is

-- a checksum of the payload is that of what stands before
checksum_field : (nsr : ℕ) (body : Body) (line widths : List ℕ) (at : ℕ) → total widths ≡ at
    → cuts 0 widths line ≡ payload_parts nsr body → take 4 (drop at line) ≡ crc_text (payload_text nsr body)
    → IsFieldAt ChecksumField at line
checksum_field nsr body line widths at sum parts check =
    let payload : take at line ≡ payload_text nsr body =
    subst (λ (n : ℕ). take n line ≡ payload_text nsr body) sum (payload_cut nsr body line widths parts) in
    check ∙ ap crc_text (sym payload)

hash_field : (hash : Option (List ℕ)) (marked recorded : Moment) (cpf collector : ℕ) (offline : Bool) (bytes : List ℕ)
    → HasHash (Clocking marked cpf recorded collector offline) hash → bytes ≡ hash_bytes hash → IsHashText bytes
hash_field None marked recorded cpf collector offline bytes hashed is = absurd hashed
hash_field (Some text) marked recorded cpf collector offline bytes hashed is = subst IsHashText (sym is) hashed

-- and each field of it is on its grammar
pub printed_good : (nsr : ℕ) (body : Body) (hash : Option (List ℕ)) (line : List ℕ) → IsLineOf nsr body hash line
    → AreGoodFrom 0 (layout_for body) line
printed_good nsr (Employer at resp id cno name place) hash line is =
    let cut = cuts-line nsr (Employer at resp id cno name place) hash line is in
    let number_is : take 9 line ≡ numeral 9 nsr = cc cut in
    let type_is : take 1 (drop 9 line) ≡ codes "2" = cc cut in
    let at_is : take 24 (drop 10 line) ≡ moment_text at = cc cut in
    let resp_is : take 14 (drop 34 line) ≡ numeral 14 resp = cc cut in
    let kind_is : take 1 (drop 48 line) ≡ kind_byte id ∷ [] = cc cut in
    let id_is : take 14 (drop 49 line) ≡ id_text id = cc cut in
    let cno_is : take 14 (drop 63 line) ≡ numeral 14 cno = cc cut in
    let name_is : take 150 (drop 77 line) ≡ padded 150 name = cc cut in
    let place_is : take 100 (drop 227 line) ≡ padded 100 place = cc cut in
    let check : take 4 (drop 327 line) ≡ crc_text (payload_text nsr (Employer at resp id cno name place)) = cc cut in
    ((nsr, (is.numbered, number_is)), (type_is, ((at, (is.in_range.0, at_is)), ((resp, (is.in_range.1, resp_is)), (kind_field id (take 1 (drop 48 line)) kind_is, ((id, ((is.in_range.2, (take 48 line, take-add 48 1 line ∙ ap (λ (last : List ℕ). take 48 line ++ last) kind_is)), id_is)), ((cno, (is.in_range.3, cno_is)), ((name, (is.in_range.4, name_is)), ((place, (is.in_range.5, place_is)), (checksum_field nsr (Employer at resp id cno name place) line (9 ∷ 1 ∷ 24 ∷ 14 ∷ 1 ∷ 14 ∷ 14 ∷ 150 ∷ 100 ∷ []) 327 refl (rw (number_is, type_is, at_is, resp_is, kind_is, id_is, cno_is, name_is, place_is) refl) check, tt))))))))))
printed_good nsr (Adjust before after resp) hash line is =
    let cut = cuts-line nsr (Adjust before after resp) hash line is in
    let number_is : take 9 line ≡ numeral 9 nsr = cc cut in
    let type_is : take 1 (drop 9 line) ≡ codes "4" = cc cut in
    let before_is : take 24 (drop 10 line) ≡ moment_text before = cc cut in
    let after_is : take 24 (drop 34 line) ≡ moment_text after = cc cut in
    let resp_is : take 11 (drop 58 line) ≡ numeral 11 resp = cc cut in
    let check : take 4 (drop 69 line) ≡ crc_text (payload_text nsr (Adjust before after resp)) = cc cut in
    ((nsr, (is.numbered, number_is)), (type_is, ((before, (is.in_range.0, before_is)), ((after, (is.in_range.1, after_is)), ((resp, (is.in_range.2, resp_is)), (checksum_field nsr (Adjust before after resp) line (9 ∷ 1 ∷ 24 ∷ 24 ∷ 11 ∷ []) 69 refl (rw (number_is, type_is, before_is, after_is, resp_is) refl) check, tt))))))
printed_good nsr (Worker at op cpf name extra resp) hash line is =
    let cut = cuts-line nsr (Worker at op cpf name extra resp) hash line is in
    let number_is : take 9 line ≡ numeral 9 nsr = cc cut in
    let type_is : take 1 (drop 9 line) ≡ codes "5" = cc cut in
    let at_is : take 24 (drop 10 line) ≡ moment_text at = cc cut in
    let op_is : take 1 (drop 34 line) ≡ op_text op = cc cut in
    let cpf_is : take 12 (drop 35 line) ≡ numeral 12 cpf = cc cut in
    let name_is : take 52 (drop 47 line) ≡ padded 52 name = cc cut in
    let extra_is : take 4 (drop 99 line) ≡ padded 4 extra = cc cut in
    let resp_is : take 11 (drop 103 line) ≡ numeral 11 resp = cc cut in
    let check : take 4 (drop 114 line) ≡ crc_text (payload_text nsr (Worker at op cpf name extra resp)) = cc cut in
    ((nsr, (is.numbered, number_is)), (type_is, ((at, (is.in_range.0, at_is)), ((op, (tt, op_is)), ((cpf, (is.in_range.1, cpf_is)), ((name, (is.in_range.2, name_is)), ((extra, (is.in_range.3, extra_is)), ((resp, (is.in_range.4, resp_is)), (checksum_field nsr (Worker at op cpf name extra resp) line (9 ∷ 1 ∷ 24 ∷ 1 ∷ 12 ∷ 52 ∷ 4 ∷ 11 ∷ []) 114 refl (rw (number_is, type_is, at_is, op_is, cpf_is, name_is, extra_is, resp_is) refl) check, tt)))))))))
printed_good nsr (Event at code) hash line is =
    let cut = cuts-line nsr (Event at code) hash line is in
    let number_is : take 9 line ≡ numeral 9 nsr = cc cut in
    let type_is : take 1 (drop 9 line) ≡ codes "6" = cc cut in
    let at_is : take 24 (drop 10 line) ≡ moment_text at = cc cut in
    let code_is : take 2 (drop 34 line) ≡ numeral 2 code = cc cut in
    ((nsr, (is.numbered, number_is)), (type_is, ((at, (is.in_range.0, at_is)), ((code, (is.in_range.1, code_is)), tt))))
printed_good nsr (Clocking marked cpf recorded collector offline) hash line is =
    let cut = cuts-line nsr (Clocking marked cpf recorded collector offline) hash line is in
    let number_is : take 9 line ≡ numeral 9 nsr = cc cut in
    let type_is : take 1 (drop 9 line) ≡ codes "7" = cc cut in
    let marked_is : take 24 (drop 10 line) ≡ moment_text marked = cc cut in
    let cpf_is : take 12 (drop 34 line) ≡ numeral 12 cpf = cc cut in
    let recorded_is : take 24 (drop 46 line) ≡ moment_text recorded = cc cut in
    let collector_is : take 2 (drop 70 line) ≡ numeral 2 collector = cc cut in
    let offline_is : take 1 (drop 72 line) ≡ offline_text offline = cc cut in
    let hash_is : take 64 (drop 73 line) ≡ hash_bytes hash = cc cut in
    ((nsr, (is.numbered, number_is)), (type_is, ((marked, (is.in_range.0, marked_is)), ((cpf, (is.in_range.1, cpf_is)), ((recorded, (is.in_range.2, recorded_is)), ((collector, (is.in_range.3, collector_is)), ((offline, (tt, offline_is)), (hash_field hash marked recorded cpf collector offline _ is.hashed hash_is, tt))))))))
