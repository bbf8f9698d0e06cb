-- Two records with one line are one record: each field tells its value.
use Rattle.std.proofs.Common.{◌≡◌, ℕ, ◌≤◌, List, [], ◌∷◌, map, Option, Some, None, Result, Ok, Err, inl, inr, refl, sym, ap, ◌∙◌, subst, arith}
use Rattle.std.specs.Prelude.{Bool, true, false, IfOk, IfErr}
use Rattle.rep_fields.specs.Digits.{numeral, FitsDigits}
use Rattle.rep_fields.specs.Latin.{padded, IsText, IsFilled}
use Rattle.rep_fields.specs.Moment.{Moment, moment_text}
use Rattle.rep_fields.specs.Identity.{IsCpf}
use Rattle.rep_fields.specs.Employer.{IsEmployerId, kind_byte, id_text}
use Rattle.rep_fields.specs.declared.employer.EmployerId.{EmployerId}
use Rattle.rep_fields.specs.declared.employer.EmployerId.TheVariants.{Cnpj, Person}
use Rattle.rep_fields.proofs.Ids.{FitsDigits-wider}
use Rattle.rep_fields.proofs.Layouts.{cuts}
use Rattle.rep_fields.proofs.Numerals.{numeral-injective}
use Rattle.rep_fields.proofs.StampTexts.{moment_text-injective}
use Rattle.rep_fields.proofs.Texts.{IsFilled-padded, IsFilled-unique}
use Rattle.afd_records.specs.Record.{op_text, offline_text, IsNsr, IsWrittenEvent}
use Rattle.afd_records.specs.Line.{check_text, hash_bytes, HasHash, IsLineOf}
use Rattle.afd_records.specs.Fields.{Layout, IsLaidOut, IsFirstBad, width_of}
use Rattle.afd_records.specs.Reading.{IsReadFrom, no_notes}
use Rattle.afd_records.specs.declared.error.BadLine.{BadLine}
use Rattle.afd_records.specs.declared.error.Notes.{Notes}
use Rattle.afd_records.specs.declared.reading.ReadLine.{ReadLine}
use Rattle.afd_records.specs.declared.record.Op.{Op}
use Rattle.afd_records.specs.declared.record.Op.TheVariants.{Include, Amend, Exclude}
use Rattle.afd_records.specs.declared.record.Body.{Body}
use Rattle.afd_records.specs.declared.record.Body.TheVariants.{Employer, Adjust, Worker, Event, Clocking}
use Rattle.afd_records.proofs.Printed.{printed_laid_out, printed_good, good_not_bad}
use Rattle.afd_records.proofs.RecordParts.{layout_for, line_parts, cuts-line}
use Rattle.afd_records.proofs.TypeFields.{type_byte}

pub same_cpf : (width m n : ℕ) → 11 ≤ width → IsCpf m → IsCpf n → numeral width m ≡ numeral width n → m ≡ n
same_cpf width m n wide cpf_m cpf_n is =
    numeral-injective width m n (FitsDigits-wider 11 width m wide cpf_m.size) (FitsDigits-wider 11 width n wide cpf_n.size) is

pub same_text : (width : ℕ) (s t : List ℕ) → IsText width s → IsText width t → padded width s ≡ padded width t → s ≡ t
same_text width s t text_s text_t is =
    IsFilled-unique s t (padded width t) text_s.trimmed text_t.trimmed
    (subst (λ (field : List ℕ). IsFilled s field) is (IsFilled-padded width s)) (IsFilled-padded width t)

-- one byte tells itself
same_byte : (a b : ℕ) → a ∷ [] ≡ b ∷ [] → a ≡ b
same_byte a b is = cc is

pub same_op : (a b : Op) → op_text a ≡ op_text b → a ≡ b
same_op Include Include is = refl
same_op Include Amend is = absurd (omega (arith, same_byte 73 65 is))
same_op Include Exclude is = absurd (omega (arith, same_byte 73 69 is))
same_op Amend Include is = absurd (omega (arith, same_byte 65 73 is))
same_op Amend Amend is = refl
same_op Amend Exclude is = absurd (omega (arith, same_byte 65 69 is))
same_op Exclude Include is = absurd (omega (arith, same_byte 69 73 is))
same_op Exclude Amend is = absurd (omega (arith, same_byte 69 65 is))
same_op Exclude Exclude is = refl

pub same_offline : (a b : Bool) → offline_text a ≡ offline_text b → a ≡ b
same_offline true true is = refl
same_offline true false is = absurd (omega (arith, same_byte 49 48 is))
same_offline false true is = absurd (omega (arith, same_byte 48 49 is))
same_offline false false is = refl

pub same_id : (a b : EmployerId) → IsEmployerId a → IsEmployerId b → kind_byte a ∷ [] ≡ kind_byte b ∷ []
    → id_text a ≡ id_text b → a ≡ b
same_id (Cnpj m) (Cnpj n) in_a in_b kind is = ap Cnpj (numeral-injective 14 m n in_a.size in_b.size is)
same_id (Cnpj m) (Person n) in_a in_b kind is = absurd (omega (arith, same_byte 49 50 kind))
same_id (Person m) (Cnpj n) in_a in_b kind is = absurd (omega (arith, same_byte 50 49 kind))
same_id (Person m) (Person n) in_a in_b kind is = ap Person (same_cpf 14 m n (omega arith) in_a in_b is)

same_hash : (a b : Option (List ℕ)) (marked recorded other_marked other_recorded : Moment)
    (cpf collector other_cpf other_collector : ℕ) (offline other_offline : Bool)
    → HasHash (Clocking marked cpf recorded collector offline) a
    → HasHash (Clocking other_marked other_cpf other_recorded other_collector other_offline) b
    → hash_bytes a ≡ hash_bytes b → a ≡ b
same_hash (Some s) (Some t) _ _ _ _ _ _ _ _ _ _ in_a in_b is = ap Some is
same_hash None b _ _ _ _ _ _ _ _ _ _ in_a in_b is = absurd in_a
same_hash (Some s) None _ _ _ _ _ _ _ _ _ _ in_a in_b is = absurd in_b

-- two records of one line have one type
same_type : (m n : ℕ) (a b : Body) (g h : Option (List ℕ)) (line : List ℕ) → IsLineOf m a g line → IsLineOf n b h line
    → type_byte (Some (layout_for a)) ≡ type_byte (Some (layout_for b))
same_type m n a b g h line is_a is_b =
    ap type_byte (sym (printed_laid_out m a g line is_a).type ∙ (printed_laid_out n b h line is_b).type)

-- and, where they have one layout, the same fields
same_parts : (m n : ℕ) (a b : Body) (g h : Option (List ℕ)) (line : List ℕ) → IsLineOf m a g line → IsLineOf n b h line
    → map width_of (layout_for a) ≡ map width_of (layout_for b)
    → line_parts m a (check_text m a (hash_bytes g)) ≡ line_parts n b (check_text n b (hash_bytes h))
same_parts m n a b g h line is_a is_b widths =
    sym (cuts-line m a g line is_a) ∙ ap (λ (ws : List ℕ). cuts 0 ws line) widths ∙ cuts-line n b h line is_b

fits_event : (code : ℕ) → IsWrittenEvent code → FitsDigits 2 code
fits_event code (inl available) = omega arith
fits_event code (inr unavailable) = omega arith

same_event : (m n : ℕ) → IsWrittenEvent m → IsWrittenEvent n → numeral 2 m ≡ numeral 2 n → m ≡ n
same_event m n in_m in_n is = numeral-injective 2 m n (fits_event m in_m) (fits_event n in_n) is

pub same_nsr : (m n : ℕ) → IsNsr m → IsNsr n → numeral 9 m ≡ numeral 9 n → m ≡ n
same_nsr m n in_m in_n is = numeral-injective 9 m n (omega arith) (omega arith) is

-- what a line tells
record IsSame (m n : ℕ) (a b : Body) (g h : Option (List ℕ)) : Type 0 where
  nsr : m ≡ n
  body : a ≡ b
  hash : g ≡ h

-- two records of one line are one
same_record : (m n : ℕ) (a b : Body) (g h : Option (List ℕ)) (line : List ℕ) → IsLineOf m a g line
    → IsLineOf n b h line → IsSame m n a b g h
same_record m n (Employer at resp id cno name place) (Employer other_at other_resp other_id other_cno other_name other_place) g h line is_a is_b =
    let parts = same_parts m n (Employer at resp id cno name place) (Employer other_at other_resp other_id other_cno other_name other_place) g h line is_a is_b refl in
    let number_text : numeral 9 m ≡ numeral 9 n = cc parts in
    let number : m ≡ n = same_nsr m n is_a.numbered is_b.numbered number_text in
    let at_text : moment_text at ≡ moment_text other_at = cc parts in
    let at_is : at ≡ other_at = moment_text-injective at other_at is_a.in_range.0 is_b.in_range.0 at_text in
    let resp_text : numeral 14 resp ≡ numeral 14 other_resp = cc parts in
    let resp_is : resp ≡ other_resp = same_cpf 14 resp other_resp (omega arith) is_a.in_range.1 is_b.in_range.1 resp_text in
    let kind_text : kind_byte id ∷ [] ≡ kind_byte other_id ∷ [] = cc parts in
    let id_texts : id_text id ≡ id_text other_id = cc parts in
    let id_is : id ≡ other_id = same_id id other_id is_a.in_range.2 is_b.in_range.2 kind_text id_texts in
    let cno_text : numeral 14 cno ≡ numeral 14 other_cno = cc parts in
    let cno_is : cno ≡ other_cno = numeral-injective 14 cno other_cno is_a.in_range.3 is_b.in_range.3 cno_text in
    let name_text : padded 150 name ≡ padded 150 other_name = cc parts in
    let name_is : name ≡ other_name = same_text 150 name other_name is_a.in_range.4 is_b.in_range.4 name_text in
    let place_text : padded 100 place ≡ padded 100 other_place = cc parts in
    let place_is : place ≡ other_place = same_text 100 place other_place is_a.in_range.5 is_b.in_range.5 place_text in
    record { nsr = number; body = cc (at_is, resp_is, id_is, cno_is, name_is, place_is); hash = is_a.hashed ∙ sym is_b.hashed }
same_record m n (Adjust before after resp) (Adjust other_before other_after other_resp) g h line is_a is_b =
    let parts = same_parts m n (Adjust before after resp) (Adjust other_before other_after other_resp) g h line is_a is_b refl in
    let number_text : numeral 9 m ≡ numeral 9 n = cc parts in
    let number : m ≡ n = same_nsr m n is_a.numbered is_b.numbered number_text in
    let before_text : moment_text before ≡ moment_text other_before = cc parts in
    let before_is : before ≡ other_before = moment_text-injective before other_before is_a.in_range.0 is_b.in_range.0 before_text in
    let after_text : moment_text after ≡ moment_text other_after = cc parts in
    let after_is : after ≡ other_after = moment_text-injective after other_after is_a.in_range.1 is_b.in_range.1 after_text in
    let resp_text : numeral 11 resp ≡ numeral 11 other_resp = cc parts in
    let resp_is : resp ≡ other_resp = same_cpf 11 resp other_resp (omega arith) is_a.in_range.2 is_b.in_range.2 resp_text in
    record { nsr = number; body = cc (before_is, after_is, resp_is); hash = is_a.hashed ∙ sym is_b.hashed }
same_record m n (Worker at op cpf name extra resp) (Worker other_at other_op other_cpf other_name other_extra other_resp) g h line is_a is_b =
    let parts = same_parts m n (Worker at op cpf name extra resp) (Worker other_at other_op other_cpf other_name other_extra other_resp) g h line is_a is_b refl in
    let number_text : numeral 9 m ≡ numeral 9 n = cc parts in
    let number : m ≡ n = same_nsr m n is_a.numbered is_b.numbered number_text in
    let at_text : moment_text at ≡ moment_text other_at = cc parts in
    let at_is : at ≡ other_at = moment_text-injective at other_at is_a.in_range.0 is_b.in_range.0 at_text in
    let op_text : op_text op ≡ op_text other_op = cc parts in
    let op_is : op ≡ other_op = same_op op other_op op_text in
    let cpf_text : numeral 12 cpf ≡ numeral 12 other_cpf = cc parts in
    let cpf_is : cpf ≡ other_cpf = same_cpf 12 cpf other_cpf (omega arith) is_a.in_range.1 is_b.in_range.1 cpf_text in
    let name_text : padded 52 name ≡ padded 52 other_name = cc parts in
    let name_is : name ≡ other_name = same_text 52 name other_name is_a.in_range.2 is_b.in_range.2 name_text in
    let extra_text : padded 4 extra ≡ padded 4 other_extra = cc parts in
    let extra_is : extra ≡ other_extra = same_text 4 extra other_extra is_a.in_range.3 is_b.in_range.3 extra_text in
    let resp_text : numeral 11 resp ≡ numeral 11 other_resp = cc parts in
    let resp_is : resp ≡ other_resp = same_cpf 11 resp other_resp (omega arith) is_a.in_range.4 is_b.in_range.4 resp_text in
    record { nsr = number; body = cc (at_is, op_is, cpf_is, name_is, extra_is, resp_is); hash = is_a.hashed ∙ sym is_b.hashed }
same_record m n (Event at code) (Event other_at other_code) g h line is_a is_b =
    let parts = same_parts m n (Event at code) (Event other_at other_code) g h line is_a is_b refl in
    let number_text : numeral 9 m ≡ numeral 9 n = cc parts in
    let number : m ≡ n = same_nsr m n is_a.numbered is_b.numbered number_text in
    let at_text : moment_text at ≡ moment_text other_at = cc parts in
    let at_is : at ≡ other_at = moment_text-injective at other_at is_a.in_range.0 is_b.in_range.0 at_text in
    let code_text : numeral 2 code ≡ numeral 2 other_code = cc parts in
    let code_is : code ≡ other_code = same_event code other_code is_a.in_range.1 is_b.in_range.1 code_text in
    record { nsr = number; body = cc (at_is, code_is); hash = is_a.hashed ∙ sym is_b.hashed }
same_record m n (Clocking marked cpf recorded collector offline) (Clocking other_marked other_cpf other_recorded other_collector other_offline) g h line is_a is_b =
    let parts = same_parts m n (Clocking marked cpf recorded collector offline) (Clocking other_marked other_cpf other_recorded other_collector other_offline) g h line is_a is_b refl in
    let number_text : numeral 9 m ≡ numeral 9 n = cc parts in
    let number : m ≡ n = same_nsr m n is_a.numbered is_b.numbered number_text in
    let marked_text : moment_text marked ≡ moment_text other_marked = cc parts in
    let marked_is : marked ≡ other_marked = moment_text-injective marked other_marked is_a.in_range.0 is_b.in_range.0 marked_text in
    let cpf_text : numeral 12 cpf ≡ numeral 12 other_cpf = cc parts in
    let cpf_is : cpf ≡ other_cpf = same_cpf 12 cpf other_cpf (omega arith) is_a.in_range.1 is_b.in_range.1 cpf_text in
    let recorded_text : moment_text recorded ≡ moment_text other_recorded = cc parts in
    let recorded_is : recorded ≡ other_recorded = moment_text-injective recorded other_recorded is_a.in_range.2 is_b.in_range.2 recorded_text in
    let collector_text : numeral 2 collector ≡ numeral 2 other_collector = cc parts in
    let collector_is : collector ≡ other_collector = numeral-injective 2 collector other_collector (omega (arith, is_a.in_range.3)) (omega (arith, is_b.in_range.3)) collector_text in
    let offline_text : offline_text offline ≡ offline_text other_offline = cc parts in
    let offline_is : offline ≡ other_offline = same_offline offline other_offline offline_text in
    let hash_text : hash_bytes g ≡ hash_bytes h = cc parts in
    record {
      nsr = number;
      body = cc (marked_is, cpf_is, recorded_is, collector_is, offline_is);
      hash = same_hash g h marked recorded other_marked other_recorded cpf collector other_cpf other_collector offline
          other_offline is_a.hashed is_b.hashed hash_text;
    }
same_record m n a b g h line is_a is_b =
    let types = same_type m n a b g h line is_a is_b in
    absurd (omega (arith, types))

abbrev line_read : ℕ → Body → Option (List ℕ) → Notes → ReadLine
line_read nsr body hash notes = record { nsr = nsr; body = body; hash = hash; notes = notes }

-- a reader that answers the values of a line, or a field of it that is off its grammar, answers the only values
pub only_answer : (line : List ℕ) (result : Result ReadLine BadLine) → IfOk result (IsReadFrom line)
    → ((layout : Layout) → IsLaidOut layout line → IfErr result (λ bad. IsFirstBad layout line bad.field))
    → (nsr : ℕ) (body : Body) (hash : Option (List ℕ)) → IsLineOf nsr body hash line
    → result ≡ Ok (record { nsr = nsr; body = body; hash = hash; notes = no_notes })
only_answer line (Ok read) found first nsr body hash is =
    let same = same_record read.nsr nsr read.body body read.hash hash line found.line_of is in
    let number = same.nsr in
    let record_is = same.body in
    let hash_is = same.hash in
    let notes = found.plain in
    let same_read : line_read read.nsr read.body read.hash read.notes ≡ line_read nsr body hash no_notes =
    cc (number, record_is, hash_is, notes) in
    ap Ok same_read
only_answer line (Err bad) found first nsr body hash is =
    absurd (good_not_bad 0 (layout_for body) line bad.field (printed_good nsr body hash line is)
    (first (layout_for body) (printed_laid_out nsr body hash line is)))
