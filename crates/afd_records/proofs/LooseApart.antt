-- Two records with one line are one record, with one list of notes, also where the line is written leniently.
use Rattle.std.proofs.Common.{◌≡◌, ◌≢◌, ◌↔◌, IsTrue, ℕ, List, [], ◌∷◌, map, Option, Some, None, Result, Ok, Err, refl, sym, ap, ◌∙◌, subst, arith}
use Rattle.std.specs.Prelude.{Bool, ◌||◌, IfOk, IfErr}
use Rattle.std.specs.List.{concat}
use Rattle.rep_fields.specs.Digits.{numeral, FitsDigits}
use Rattle.rep_fields.specs.Latin.{padded}
use Rattle.rep_fields.specs.Moment.{Moment}
use Rattle.rep_fields.specs.Employer.{kind_byte, id_text}
use Rattle.rep_fields.proofs.Layouts.{cuts}
use Rattle.rep_fields.proofs.Numerals.{numeral-injective}
use Rattle.afd_records.specs.Checksum.{crc_text}
use Rattle.afd_records.specs.Record.{op_text, offline_text}
use Rattle.afd_records.specs.Line.{hash_bytes}
use Rattle.afd_records.specs.Fields.{Layout, IsLaidOut, width_of}
use Rattle.afd_records.specs.Lenient.{IsStampText, IsCnoText, HasLooseHash, worded_payload, IsLooseLineOf, IsLooselyReadFrom, IsFirstLooseBad, IsLooseField}
use Rattle.afd_records.specs.declared.error.BadLine.{BadLine}
use Rattle.afd_records.specs.declared.error.Notes.{Notes}
use Rattle.afd_records.specs.declared.reading.ReadLine.{ReadLine}
use Rattle.afd_records.specs.declared.record.Body.{Body}
use Rattle.afd_records.specs.declared.record.Body.TheVariants.{Employer, Adjust, Worker, Event, Clocking}
use Rattle.afd_records.proofs.Apart.{same_cpf, same_text, same_op, same_offline, same_id, same_nsr}
use Rattle.afd_records.proofs.LooseLines.{worded_fields, cuts-worded, loose_laid_out, loose_good, good_not_bad_by}
use Rattle.afd_records.proofs.LooseTexts.{same_stamp, same_cno, same_flag, IsSameStamp}
use Rattle.afd_records.proofs.RecordParts.{layout_for}
use Rattle.afd_records.proofs.TypeFields.{type_byte}

-- two stamps whose texts are one
pub same_stamps : (a b : Moment) (odd_a odd_b : Bool) (s t : List ℕ) → IsStampText a odd_a s → IsStampText b odd_b t → s ≡ t
    → IsSameStamp a b odd_a odd_b
same_stamps a b odd_a odd_b s t is_a is_b is =
    same_stamp a b odd_a odd_b t (subst (λ (text : List ℕ). IsStampText a odd_a text) is is_a) is_b

pub same_cnos : (m n : ℕ) (s t : List ℕ) → FitsDigits 14 m → FitsDigits 14 n → IsCnoText m s → IsCnoText n t → s ≡ t → m ≡ n
same_cnos m n s t in_m in_n is_m is_n is = same_cno m n t in_m in_n (subst (IsCnoText m) is is_m) is_n

-- two notes of a checksum, which are of one text
pub same_crc : (a b : Bool) (sum_a sum_b : List ℕ) (payload_a payload_b : List (List ℕ))
    → (IsTrue a ↔ (sum_a ≢ crc_text (concat payload_a))) → (IsTrue b ↔ (sum_b ≢ crc_text (concat payload_b)))
    → sum_a ≡ sum_b → payload_a ≡ payload_b → a ≡ b
same_crc a b sum_a sum_b payload_a payload_b is_a is_b sums payloads =
    same_flag a b _ _ is_a is_b
    (λ other is. other (sums ∙ is ∙ ap (λ (fields : List (List ℕ)). crc_text (concat fields)) (sym payloads)))
    (λ other is. other (sym sums ∙ is ∙ ap (λ (fields : List (List ℕ)). crc_text (concat fields)) payloads))

-- two notes of a checksum where there is none
no_crc : (a b : Bool) → (IsTrue a ↔ ⊥) → (IsTrue b ↔ ⊥) → a ≡ b
no_crc a b is_a is_b = same_flag a b ⊥ ⊥ is_a is_b (λ none. none) (λ none. none)

both_odd : (a b c d : Bool) → a ≡ c → b ≡ d → (a || b) ≡ (c || d)
both_odd a b c d first second = ap (λ (x : Bool). x || b) first ∙ ap (λ (y : Bool). c || y) second

abbrev notes_of : Bool → Bool → Bool → Notes
notes_of crc stamp rep = record { crc = crc; stamp = stamp; rep = rep }

pub same_notes : (a b : Notes) → a.crc ≡ b.crc → a.stamp ≡ b.stamp → a.rep ≡ b.rep → a ≡ b
same_notes a b crc stamp rep =
    let same : notes_of a.crc a.stamp a.rep ≡ notes_of b.crc b.stamp b.rep = cc (crc, stamp, rep) in same

same_hash : (a b : Option (List ℕ)) (marked recorded other_marked other_recorded : Moment)
    (cpf collector other_cpf other_collector : ℕ) (offline other_offline : Bool)
    → HasLooseHash (Clocking marked cpf recorded collector offline) a
    → HasLooseHash (Clocking other_marked other_cpf other_recorded other_collector other_offline) b
    → hash_bytes a ≡ hash_bytes b → a ≡ b
same_hash (Some s) (Some t) _ _ _ _ _ _ _ _ _ _ in_a in_b is = ap Some is
same_hash None b _ _ _ _ _ _ _ _ _ _ in_a in_b is = absurd in_a
same_hash (Some s) None _ _ _ _ _ _ _ _ _ _ in_a in_b is = absurd in_b

-- two records of one line have one type
same_type : (m n : ℕ) (a b : Body) (g h : Option (List ℕ)) (s t : Notes) (line : List ℕ) → IsLooseLineOf m a g s line
    → IsLooseLineOf n b h t line → type_byte (Some (layout_for a)) ≡ type_byte (Some (layout_for b))
same_type m n a b g h s t line is_a is_b =
    ap type_byte (sym (loose_laid_out m a g s line is_a).type ∙ (loose_laid_out n b h t line is_b).type)

-- and, where they have one layout, the same fields
same_fields : (m n : ℕ) (a b : Body) (g h : Option (List ℕ)) (s t : Notes) (line : List ℕ)
    (is_a : IsLooseLineOf m a g s line) (is_b : IsLooseLineOf n b h t line)
    → map width_of (layout_for a) ≡ map width_of (layout_for b)
    → worded_fields m a g is_a.words ≡ worded_fields n b h is_b.words
same_fields m n a b g h s t line is_a is_b widths =
    sym (cuts-worded m a g s line is_a) ∙ ap (λ (ws : List ℕ). cuts 0 ws line) widths ∙ cuts-worded n b h t line is_b

-- what a line tells
record IsSame (m n : ℕ) (a b : Body) (g h : Option (List ℕ)) (s t : Notes) : Type 0 where
  nsr : m ≡ n
  body : a ≡ b
  hash : g ≡ h
  notes : s ≡ t

-- two records of one line are one
same_loosely : (m n : ℕ) (a b : Body) (g h : Option (List ℕ)) (s t : Notes) (line : List ℕ) → IsLooseLineOf m a g s line
    → IsLooseLineOf n b h t line → IsSame m n a b g h s t
same_loosely m n (Employer at resp id cno name place) (Employer other_at other_resp other_id other_cno other_name other_place) g h s t line is_a is_b =
    let fields = same_fields m n (Employer at resp id cno name place) (Employer other_at other_resp other_id other_cno other_name other_place) g h s t line is_a is_b refl in
    let words = is_a.words in
    let other_words = is_b.words in
    let number_text : numeral 9 m ≡ numeral 9 n = cc fields in
    let number : m ≡ n = same_nsr m n is_a.numbered is_b.numbered number_text in
    let at_text : words.first ≡ other_words.first = cc fields in
    let at_is = same_stamps at other_at words.first_odd other_words.first_odd words.first other_words.first is_a.worded.0 is_b.worded.0 at_text in
    let resp_text : numeral 14 resp ≡ numeral 14 other_resp = cc fields in
    let resp_is : resp ≡ other_resp = same_cpf 14 resp other_resp (omega arith) is_a.in_range.1 is_b.in_range.1 resp_text in
    let kind_text : kind_byte id ∷ [] ≡ kind_byte other_id ∷ [] = cc fields in
    let id_texts : id_text id ≡ id_text other_id = cc fields in
    let id_is : id ≡ other_id = same_id id other_id is_a.in_range.2 is_b.in_range.2 kind_text id_texts in
    let cno_text : words.cno ≡ other_words.cno = cc fields in
    let cno_is : cno ≡ other_cno = same_cnos cno other_cno words.cno other_words.cno is_a.in_range.3 is_b.in_range.3 is_a.worded.1 is_b.worded.1 cno_text in
    let name_text : padded 150 name ≡ padded 150 other_name = cc fields in
    let name_is : name ≡ other_name = same_text 150 name other_name is_a.in_range.4 is_b.in_range.4 name_text in
    let place_text : padded 100 place ≡ padded 100 other_place = cc fields in
    let place_is : place ≡ other_place = same_text 100 place other_place is_a.in_range.5 is_b.in_range.5 place_text in
    let sums : words.checksum ≡ other_words.checksum = cc fields in
    let payloads : worded_payload m (Employer at resp id cno name place) words ≡ worded_payload n (Employer other_at other_resp other_id other_cno other_name other_place) other_words = cc fields in
    let at_same = at_is.moment in
    record {
      nsr = number;
      body = cc (at_same, resp_is, id_is, cno_is, name_is, place_is);
      hash = is_a.hashed ∙ sym is_b.hashed;
      notes = same_notes s t
          (same_crc s.crc t.crc words.checksum other_words.checksum _ _ is_a.noted.crc is_b.noted.crc sums payloads)
          (is_a.noted.stamp ∙ at_is.odd ∙ sym is_b.noted.stamp) (is_a.noted.rep ∙ sym is_b.noted.rep);
    }
same_loosely m n (Adjust before after resp) (Adjust other_before other_after other_resp) g h s t line is_a is_b =
    let fields = same_fields m n (Adjust before after resp) (Adjust other_before other_after other_resp) g h s t line is_a is_b refl in
    let words = is_a.words in
    let other_words = is_b.words in
    let number_text : numeral 9 m ≡ numeral 9 n = cc fields in
    let number : m ≡ n = same_nsr m n is_a.numbered is_b.numbered number_text in
    let before_text : words.first ≡ other_words.first = cc fields in
    let before_is = same_stamps before other_before words.first_odd other_words.first_odd words.first other_words.first is_a.worded.0 is_b.worded.0 before_text in
    let after_text : words.second ≡ other_words.second = cc fields in
    let after_is = same_stamps after other_after words.second_odd other_words.second_odd words.second other_words.second is_a.worded.1 is_b.worded.1 after_text in
    let resp_text : numeral 11 resp ≡ numeral 11 other_resp = cc fields in
    let resp_is : resp ≡ other_resp = same_cpf 11 resp other_resp (omega arith) is_a.in_range.2 is_b.in_range.2 resp_text in
    let sums : words.checksum ≡ other_words.checksum = cc fields in
    let payloads : worded_payload m (Adjust before after resp) words ≡ worded_payload n (Adjust other_before other_after other_resp) other_words = cc fields in
    let before_same = before_is.moment in
    let after_same = after_is.moment in
    record {
      nsr = number;
      body = cc (before_same, after_same, resp_is);
      hash = is_a.hashed ∙ sym is_b.hashed;
      notes = same_notes s t
          (same_crc s.crc t.crc words.checksum other_words.checksum _ _ is_a.noted.crc is_b.noted.crc sums payloads)
          (is_a.noted.stamp ∙ both_odd words.first_odd words.second_odd other_words.first_odd other_words.second_odd before_is.odd after_is.odd ∙ sym is_b.noted.stamp)
          (is_a.noted.rep ∙ sym is_b.noted.rep);
    }
same_loosely m n (Worker at op cpf name extra resp) (Worker other_at other_op other_cpf other_name other_extra other_resp) g h s t line is_a is_b =
    let fields = same_fields m n (Worker at op cpf name extra resp) (Worker other_at other_op other_cpf other_name other_extra other_resp) g h s t line is_a is_b refl in
    let words = is_a.words in
    let other_words = is_b.words in
    let number_text : numeral 9 m ≡ numeral 9 n = cc fields in
    let number : m ≡ n = same_nsr m n is_a.numbered is_b.numbered number_text in
    let at_text : words.first ≡ other_words.first = cc fields in
    let at_is = same_stamps at other_at words.first_odd other_words.first_odd words.first other_words.first is_a.worded.0 is_b.worded.0 at_text in
    let op_text : op_text op ≡ op_text other_op = cc fields in
    let op_is : op ≡ other_op = same_op op other_op op_text in
    let cpf_text : numeral 12 cpf ≡ numeral 12 other_cpf = cc fields in
    let cpf_is : cpf ≡ other_cpf = same_cpf 12 cpf other_cpf (omega arith) is_a.in_range.1 is_b.in_range.1 cpf_text in
    let name_text : padded 52 name ≡ padded 52 other_name = cc fields in
    let name_is : name ≡ other_name = same_text 52 name other_name is_a.in_range.2 is_b.in_range.2 name_text in
    let extra_text : padded 4 extra ≡ padded 4 other_extra = cc fields in
    let extra_is : extra ≡ other_extra = same_text 4 extra other_extra is_a.in_range.3 is_b.in_range.3 extra_text in
    let resp_text : numeral 11 resp ≡ numeral 11 other_resp = cc fields in
    let resp_is : resp ≡ other_resp = same_cpf 11 resp other_resp (omega arith) is_a.in_range.4 is_b.in_range.4 resp_text in
    let sums : words.checksum ≡ other_words.checksum = cc fields in
    let payloads : worded_payload m (Worker at op cpf name extra resp) words ≡ worded_payload n (Worker other_at other_op other_cpf other_name other_extra other_resp) other_words = cc fields in
    let at_same = at_is.moment in
    record {
      nsr = number;
      body = cc (at_same, op_is, cpf_is, name_is, extra_is, resp_is);
      hash = is_a.hashed ∙ sym is_b.hashed;
      notes = same_notes s t
          (same_crc s.crc t.crc words.checksum other_words.checksum _ _ is_a.noted.crc is_b.noted.crc sums payloads)
          (is_a.noted.stamp ∙ at_is.odd ∙ sym is_b.noted.stamp) (is_a.noted.rep ∙ sym is_b.noted.rep);
    }
same_loosely m n (Event at code) (Event other_at other_code) g h s t line is_a is_b =
    let fields = same_fields m n (Event at code) (Event other_at other_code) g h s t line is_a is_b refl in
    let words = is_a.words in
    let other_words = is_b.words in
    let number_text : numeral 9 m ≡ numeral 9 n = cc fields in
    let number : m ≡ n = same_nsr m n is_a.numbered is_b.numbered number_text in
    let at_text : words.first ≡ other_words.first = cc fields in
    let at_is = same_stamps at other_at words.first_odd other_words.first_odd words.first other_words.first is_a.worded is_b.worded at_text in
    let code_text : numeral 2 code ≡ numeral 2 other_code = cc fields in
    let code_is : code ≡ other_code = numeral-injective 2 code other_code (omega (arith, is_a.in_range.1)) (omega (arith, is_b.in_range.1)) code_text in
    let at_same = at_is.moment in
    record {
      nsr = number;
      body = cc (at_same, code_is);
      hash = is_a.hashed ∙ sym is_b.hashed;
      notes = same_notes s t (no_crc s.crc t.crc is_a.noted.crc is_b.noted.crc)
          (is_a.noted.stamp ∙ at_is.odd ∙ sym is_b.noted.stamp) (is_a.noted.rep ∙ sym is_b.noted.rep);
    }
same_loosely m n (Clocking marked cpf recorded collector offline) (Clocking other_marked other_cpf other_recorded other_collector other_offline) g h s t line is_a is_b =
    let fields = same_fields m n (Clocking marked cpf recorded collector offline) (Clocking other_marked other_cpf other_recorded other_collector other_offline) g h s t line is_a is_b refl in
    let words = is_a.words in
    let other_words = is_b.words in
    let number_text : numeral 9 m ≡ numeral 9 n = cc fields in
    let number : m ≡ n = same_nsr m n is_a.numbered is_b.numbered number_text in
    let marked_text : words.first ≡ other_words.first = cc fields in
    let marked_is = same_stamps marked other_marked words.first_odd other_words.first_odd words.first other_words.first is_a.worded.0 is_b.worded.0 marked_text in
    let cpf_text : numeral 12 cpf ≡ numeral 12 other_cpf = cc fields in
    let cpf_is : cpf ≡ other_cpf = same_cpf 12 cpf other_cpf (omega arith) is_a.in_range.1 is_b.in_range.1 cpf_text in
    let recorded_text : words.second ≡ other_words.second = cc fields in
    let recorded_is = same_stamps recorded other_recorded words.second_odd other_words.second_odd words.second other_words.second is_a.worded.1 is_b.worded.1 recorded_text in
    let collector_text : numeral 2 collector ≡ numeral 2 other_collector = cc fields in
    let collector_is : collector ≡ other_collector = numeral-injective 2 collector other_collector (omega (arith, is_a.in_range.3)) (omega (arith, is_b.in_range.3)) collector_text in
    let offline_text : offline_text offline ≡ offline_text other_offline = cc fields in
    let offline_is : offline ≡ other_offline = same_offline offline other_offline offline_text in
    let hash_text : hash_bytes g ≡ hash_bytes h = cc fields in
    let marked_same = marked_is.moment in
    let recorded_same = recorded_is.moment in
    record {
      nsr = number;
      body = cc (marked_same, cpf_is, recorded_same, collector_is, offline_is);
      hash = same_hash g h marked recorded other_marked other_recorded cpf collector other_cpf other_collector offline
          other_offline is_a.hashed is_b.hashed hash_text;
      notes = same_notes s t (no_crc s.crc t.crc is_a.noted.crc is_b.noted.crc)
          (is_a.noted.stamp ∙ both_odd words.first_odd words.second_odd other_words.first_odd other_words.second_odd marked_is.odd recorded_is.odd ∙ sym is_b.noted.stamp)
          (is_a.noted.rep ∙ sym is_b.noted.rep);
    }
same_loosely m n a b g h s t line is_a is_b =
    let types = same_type m n a b g h s t line is_a is_b in
    absurd (omega (arith, types))

abbrev line_read : ℕ → Body → Option (List ℕ) → Notes → ReadLine
line_read nsr body hash notes = record { nsr = nsr; body = body; hash = hash; notes = notes }

-- a reader that answers the values of a line, or a field of it that is off its grammar, answers the only values
pub only_loose_answer : (line : List ℕ) (result : Result ReadLine BadLine) → IfOk result (IsLooselyReadFrom line)
    → ((layout : Layout) → IsLaidOut layout line → IfErr result (λ bad. IsFirstLooseBad layout line bad.field))
    → (nsr : ℕ) (body : Body) (hash : Option (List ℕ)) (notes : Notes) → IsLooseLineOf nsr body hash notes line
    → result ≡ Ok (record { nsr = nsr; body = body; hash = hash; notes = notes })
only_loose_answer line (Ok read) found first nsr body hash notes is =
    let same = same_loosely read.nsr nsr read.body body read.hash hash read.notes notes line found is in
    let number = same.nsr in
    let record_is = same.body in
    let hash_is = same.hash in
    let notes_is = same.notes in
    let same_read : line_read read.nsr read.body read.hash read.notes ≡ line_read nsr body hash notes =
    cc (number, record_is, hash_is, notes_is) in
    ap Ok same_read
only_loose_answer line (Err bad) found first nsr body hash notes is =
    absurd (good_not_bad_by width_of IsLooseField 0 (layout_for body) line bad.field
    (loose_good nsr body hash notes line is) (first (layout_for body) (loose_laid_out nsr body hash notes line is)))
