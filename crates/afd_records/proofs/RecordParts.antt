-- The line of a record as a list of its fields, and the same fields cut out of the line by the widths of its layout.
use Rattle.std.proofs.Common.{◌≡◌, ℕ, ◌+◌, List, [], ◌∷◌, ◌++◌, length, take, drop, map, Option, Some, None, refl, sym, ap, ◌∙◌, subst, arith, append-nil}
use Rattle.std.specs.Prelude.{codes, Bool, true, false}
use Rattle.std.specs.List.{concat}
use Rattle.std.proofs.Math.Seq.{take-add}
use Rattle.std.proofs.lemmas.List.{drop-drop, drop_all, length-drop, take_all, take-append-drop}
use Rattle.std.proofs.lemmas.List.Folds.{concat-append}
use Rattle.rep_fields.specs.Digits.{numeral}
use Rattle.rep_fields.specs.Latin.{padded}
use Rattle.rep_fields.specs.Moment.{Moment, moment_text}
use Rattle.rep_fields.specs.Employer.{kind_byte, id_text, id_number}
use Rattle.rep_fields.proofs.Layouts.{cuts, widths_of, total, parts_of_text}
use Rattle.rep_fields.proofs.Numerals.{length-numeral}
use Rattle.rep_fields.proofs.StampTexts.{moment_parts}
use Rattle.rep_fields.proofs.Texts.{length-padded}
use Rattle.afd_records.specs.Record.{payload_text, op_text, offline_text, IsBody}
use Rattle.afd_records.specs.Line.{record_text, check_text, hash_bytes, HasHash, IsLineOf}
use Rattle.afd_records.specs.Checksum.{crc_text}
use Rattle.afd_records.specs.Fields.{Layout, width_of, employer_layout, adjust_layout, worker_layout, event_layout, clocking_layout}
use Rattle.afd_records.specs.declared.record.Op.{Op}
use Rattle.afd_records.specs.declared.record.Op.TheVariants.{Include, Amend, Exclude}
use Rattle.afd_records.specs.declared.record.Body.{Body}
use Rattle.afd_records.specs.declared.record.Body.TheVariants.{Employer, Adjust, Worker, Event, Clocking}

-- the layout of a record's line
abbrev pub layout_for : Body → Layout
layout_for (Employer at resp id cno name place) = employer_layout
layout_for (Adjust before after resp) = adjust_layout
layout_for (Worker at op cpf name extra resp) = worker_layout
layout_for (Event at code) = event_layout
layout_for (Clocking marked cpf recorded collector offline) = clocking_layout

-- the fields before the hash or checksum
abbrev pub payload_parts : ℕ → Body → List (List ℕ)
payload_parts nsr (Employer at resp id cno name place) =
    numeral 9 nsr ∷ codes "2" ∷ moment_text at ∷ numeral 14 resp ∷ (kind_byte id ∷ []) ∷ id_text id ∷ numeral 14 cno
    ∷ padded 150 name ∷ padded 100 place ∷ []
payload_parts nsr (Adjust before after resp) =
    numeral 9 nsr ∷ codes "4" ∷ moment_text before ∷ moment_text after ∷ numeral 11 resp ∷ []
payload_parts nsr (Worker at op cpf name extra resp) =
    numeral 9 nsr ∷ codes "5" ∷ moment_text at ∷ op_text op ∷ numeral 12 cpf ∷ padded 52 name ∷ padded 4 extra
    ∷ numeral 11 resp ∷ []
payload_parts nsr (Event at code) = numeral 9 nsr ∷ codes "6" ∷ moment_text at ∷ numeral 2 code ∷ []
payload_parts nsr (Clocking marked cpf recorded collector offline) =
    numeral 9 nsr ∷ codes "7" ∷ moment_text marked ∷ numeral 12 cpf ∷ moment_text recorded ∷ numeral 2 collector
    ∷ offline_text offline ∷ []

-- the hash or checksum as a field; an event has none
abbrev pub check_parts : Body → List ℕ → List (List ℕ)
check_parts (Employer at resp id cno name place) check = check ∷ []
check_parts (Adjust before after resp) check = check ∷ []
check_parts (Worker at op cpf name extra resp) check = check ∷ []
check_parts (Event at code) check = []
check_parts (Clocking marked cpf recorded collector offline) check = check ∷ []

-- all fields of a record's line
abbrev pub line_parts : ℕ → Body → List ℕ → List (List ℕ)
line_parts nsr body check = payload_parts nsr body ++ check_parts body check

pub payload_text-parts : (nsr : ℕ) (body : Body) → payload_text nsr body ≡ concat (payload_parts nsr body)
unfolding payload_text
payload_text-parts nsr (Employer at resp id cno name place) = refl
payload_text-parts nsr (Adjust before after resp) = refl
payload_text-parts nsr (Worker at op cpf name extra resp) = refl
payload_text-parts nsr (Event at code) = refl
payload_text-parts nsr (Clocking marked cpf recorded collector offline) = refl

check_text-parts : (nsr : ℕ) (body : Body) (hash : List ℕ)
    → check_text nsr body hash ≡ concat (check_parts body (check_text nsr body hash))
check_text-parts nsr (Employer at resp id cno name place) hash = sym (append-nil _)
check_text-parts nsr (Adjust before after resp) hash = sym (append-nil _)
check_text-parts nsr (Worker at op cpf name extra resp) hash = sym (append-nil _)
check_text-parts nsr (Event at code) hash = refl
check_text-parts nsr (Clocking marked cpf recorded collector offline) hash = sym (append-nil _)

-- a line is its fields in a row
pub record_text-parts : (nsr : ℕ) (body : Body) (hash : List ℕ)
    → record_text nsr body hash ≡ concat (line_parts nsr body (check_text nsr body hash))
record_text-parts nsr body hash =
    ap (λ (payload : List ℕ). payload ++ check_text nsr body hash) (payload_text-parts nsr body)
    ∙ ap (λ (check : List ℕ). concat (payload_parts nsr body) ++ check) (check_text-parts nsr body hash)
    ∙ sym (concat-append (payload_parts nsr body) (check_parts body (check_text nsr body hash)))

length-moment_text : (moment : Moment) → length (moment_text moment) ≡ 24
length-moment_text moment = (moment_parts (moment_text moment) moment refl).size

pub length-op_text : (op : Op) → length (op_text op) ≡ 1
length-op_text Include = refl
length-op_text Amend = refl
length-op_text Exclude = refl

pub length-offline_text : (offline : Bool) → length (offline_text offline) ≡ 1
length-offline_text true = refl
length-offline_text false = refl

length-hash : (hash : Option (List ℕ)) (marked recorded : Moment) (cpf collector : ℕ) (offline : Bool)
    → HasHash (Clocking marked cpf recorded collector offline) hash → length (hash_bytes hash) ≡ 64
length-hash None marked recorded cpf collector offline hashed = absurd hashed
length-hash (Some text) marked recorded cpf collector offline hashed = hashed.size

-- its fields have the widths of its layout
pub widths-line_parts : (nsr : ℕ) (body : Body) (hash : Option (List ℕ)) → IsBody body → HasHash body hash
    → widths_of (line_parts nsr body (check_text nsr body (hash_bytes hash))) ≡ map width_of (layout_for body)
widths-line_parts nsr (Employer at resp id cno name place) hash in_range hashed =
    rw (
      length-numeral 9 nsr,
      length-moment_text at,
      length-numeral 14 resp,
      length-numeral 14 (id_number id),
      length-numeral 14 cno,
      length-padded 150 name in_range.4.short,
      length-padded 100 place in_range.5.short,
    ) refl
widths-line_parts nsr (Adjust before after resp) hash in_range hashed =
    rw (length-numeral 9 nsr, length-moment_text before, length-moment_text after, length-numeral 11 resp) refl
widths-line_parts nsr (Worker at op cpf name extra resp) hash in_range hashed =
    rw (
      length-numeral 9 nsr,
      length-moment_text at,
      length-op_text op,
      length-numeral 12 cpf,
      length-padded 52 name in_range.2.short,
      length-padded 4 extra in_range.3.short,
      length-numeral 11 resp,
    ) refl
widths-line_parts nsr (Event at code) hash in_range hashed =
    rw (length-numeral 9 nsr, length-moment_text at, length-numeral 2 code) refl
widths-line_parts nsr (Clocking marked cpf recorded collector offline) hash in_range hashed =
    rw (
      length-numeral 9 nsr,
      length-moment_text marked,
      length-numeral 12 cpf,
      length-moment_text recorded,
      length-numeral 2 collector,
      length-offline_text offline,
      length-hash hash marked recorded cpf collector offline hashed,
    ) refl

-- the fields that the layout cuts out of a record's line
pub cuts-line : (nsr : ℕ) (body : Body) (hash : Option (List ℕ)) (line : List ℕ) → IsLineOf nsr body hash line
    → cuts 0 (map width_of (layout_for body)) line ≡ line_parts nsr body (check_text nsr body (hash_bytes hash))
cuts-line nsr body hash line is =
    let parts = line_parts nsr body (check_text nsr body (hash_bytes hash)) in
    subst (λ (widths : List ℕ). cuts 0 widths line ≡ parts) (widths-line_parts nsr body hash is.in_range is.hashed)
    (parts_of_text parts line (is.written ∙ record_text-parts nsr body (hash_bytes hash)))

-- what is cut from a place on is what stands there
pub concat-cuts_taken : (widths : List ℕ) (at : ℕ) (line : List ℕ)
    → concat (cuts at widths line) ≡ take (total widths) (drop at line)
concat-cuts_taken [] at line = refl
concat-cuts_taken (width ∷ widths) at line =
    ap (λ (rest : List ℕ). take width (drop at line) ++ rest) (concat-cuts_taken widths (at + width) line)
    ∙ ap (λ (rest : List ℕ). take width (drop at line) ++ take (total widths) rest) (sym (drop-drop width at line))
    ∙ sym (take-add width (total widths) (drop at line))

-- a line whose cuts are a record's fields begins with its payload
pub payload_cut : (nsr : ℕ) (body : Body) (line widths : List ℕ) → cuts 0 widths line ≡ payload_parts nsr body
    → take (total widths) line ≡ payload_text nsr body
payload_cut nsr body line widths parts =
    sym (concat-cuts_taken widths 0 line) ∙ ap concat parts ∙ sym (payload_text-parts nsr body)

-- and is the record's where its check follows
pub record_cut : (nsr : ℕ) (body : Body) (hash line widths : List ℕ) → cuts 0 widths line ≡ payload_parts nsr body
    → drop (total widths) line ≡ check_text nsr body hash → line ≡ record_text nsr body hash
record_cut nsr body hash line widths parts check =
    sym (take-append-drop (total widths) line)
    ∙ ap (λ (payload : List ℕ). payload ++ drop (total widths) line) (payload_cut nsr body line widths parts)
    ∙ ap (λ (rest : List ℕ). payload_text nsr body ++ rest) check

-- the last field is all that is left
last_field : (line : List ℕ) (at width : ℕ) → length line ≡ at + width → drop at line ≡ take width (drop at line)
last_field line at width size = sym (take_all width (drop at line) (omega (arith, length-drop at line)))

-- a record with a checksum
pub checked_cut : (nsr : ℕ) (body : Body) (line widths : List ℕ) (at : ℕ) → total widths ≡ at
    → check_text nsr body [] ≡ crc_text (payload_text nsr body) → length line ≡ at + 4
    → cuts 0 widths line ≡ payload_parts nsr body → take 4 (drop at line) ≡ crc_text (take at line)
    → line ≡ record_text nsr body []
checked_cut nsr body line widths at sum by_crc size parts check =
    let payload : take at line ≡ payload_text nsr body =
    subst (λ (n : ℕ). take n line ≡ payload_text nsr body) sum (payload_cut nsr body line widths parts) in
    let last : drop at line ≡ check_text nsr body [] =
    last_field line at 4 size ∙ check ∙ ap crc_text payload ∙ sym by_crc in
    record_cut nsr body [] line widths parts (subst (λ (n : ℕ). drop n line ≡ check_text nsr body []) (sym sum) last)

-- an event, which has no check
pub event_cut : (nsr : ℕ) (at : Moment) (code : ℕ) (line : List ℕ) → length line ≡ 36
    → cuts 0 (9 ∷ 1 ∷ 24 ∷ 2 ∷ []) line ≡ payload_parts nsr (Event at code) → line ≡ record_text nsr (Event at code) []
event_cut nsr at code line size parts =
    record_cut nsr (Event at code) [] line (9 ∷ 1 ∷ 24 ∷ 2 ∷ []) parts (drop_all 36 line (omega arith))

-- a clocking with its hash
pub clocking_cut : (nsr : ℕ) (marked recorded : Moment) (cpf collector : ℕ) (offline : Bool) (hash line : List ℕ)
    → length line ≡ 137
    → cuts 0 (9 ∷ 1 ∷ 24 ∷ 12 ∷ 24 ∷ 2 ∷ 1 ∷ []) line
    ≡ payload_parts nsr (Clocking marked cpf recorded collector offline)
    → take 64 (drop 73 line) ≡ hash → line ≡ record_text nsr (Clocking marked cpf recorded collector offline) hash
clocking_cut nsr marked recorded cpf collector offline hash line size parts is =
    record_cut nsr (Clocking marked cpf recorded collector offline) hash line (9 ∷ 1 ∷ 24 ∷ 12 ∷ 24 ∷ 2 ∷ 1 ∷ []) parts
    (last_field line 73 64 (omega arith) ∙ is)
