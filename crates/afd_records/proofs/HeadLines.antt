-- The head's line that a reader takes: its fields, that each is on its grammar, and that they tell the head.
use Rattle.std.proofs.Common.{◌≡◌, ◌↔◌, inl, inr, IsTrue, ℕ, suc, List, [], ◌∷◌, ◌++◌, All, length, take, drop, Result, Ok, Err, refl, sym, ap, ◌∙◌, subst, arith}
use Rattle.afd_records.specs.File.{head_text, HasHeadText}
use Rattle.std.specs.Prelude.{false, Bool, codes, IfOk, IfErr}
use Rattle.std.specs.List.{concat}
use Rattle.std.proofs.Math.Seq.{take-add}
use Rattle.rep_fields.specs.Digits.{numeral, FitsDigits, IsDigitByte}
use Rattle.rep_fields.specs.Latin.{padded}
use Rattle.rep_fields.specs.Calendar.{day_text}
use Rattle.rep_fields.specs.Moment.{Moment}
use Rattle.rep_fields.specs.Identity.{IsRepNumber}
use Rattle.rep_fields.specs.Employer.{kind_byte, id_text, id_number}
use Rattle.rep_fields.specs.declared.employer.EmployerId.{EmployerId}
use Rattle.rep_fields.proofs.Layouts.{cuts, widths_of, total, parts_of_text, length-concat, one_byte, byte_of_part}
use Rattle.rep_fields.proofs.Numerals.{length-numeral, numeral-injective}
use Rattle.rep_fields.proofs.StampTexts.{length-day_text, day_text-injective}
use Rattle.rep_fields.proofs.Texts.{length-padded}
use Rattle.afd_records.specs.HeadParts.{IsOwnerIn}
use Rattle.afd_records.specs.Lenient.{IsStampText, IsCnoText, IsFirstBadBy}
use Rattle.afd_records.specs.LenientHead.{IsLooseHead, HeadField, DayField, MakerKindField, MakerField, Literal, Shared, head_width, head_layout, IsHeadField, IsHeadLaidOut, IsFirstBadOfHead, IsMaker, IsMakerKind, HeadWording, worded_head, IsHeadWorded, IsLooseHeadOf, IsPrintedHead}
use Rattle.afd_records.specs.Fields.{StampField, TextField, ChecksumField}
use Rattle.afd_records.specs.declared.error.BadLine.{BadLine}
use Rattle.afd_records.specs.declared.error.Notes.{Notes}
use Rattle.afd_records.specs.declared.header.Head.{Head}
use Rattle.afd_records.specs.declared.header_reading.Owner.{Owner}
use Rattle.afd_records.specs.declared.header_reading.ReadHead.{ReadHead}
use Rattle.afd_records.proofs.Apart.{same_text, same_id}
use Rattle.afd_records.proofs.IdFields.{id_cuts, id_field}
use Rattle.afd_records.proofs.LooseApart.{same_stamps, same_cnos, same_crc, same_notes}
use Rattle.afd_records.proofs.LooseLines.{AreGoodBy, good_not_bad_by}
use Rattle.afd_records.proofs.LooseStrict.{own_words, own_worded, own_written, printed_head_is_loose}
use Rattle.afd_records.proofs.LooseTexts.{length-stamp, length-cno, same_flag}
use Rattle.afd_records.proofs.Printed.{kind_field}

-- the fields behind the recorder's number
abbrev pub behind_layout : List HeadField
behind_layout =
    DayField ∷ DayField ∷ Shared StampField ∷ Literal (codes "003") ∷ MakerKindField ∷ MakerField
    ∷ Shared (TextField 30) ∷ Shared ChecksumField ∷ []

-- the first bad field of those, where all before are good
pub behind_owner : (line : List ℕ) (owner : Owner) (field : ℕ) → IsHeadLaidOut line → IsOwnerIn line owner
    → IsFirstBadBy head_width IsHeadField 206 behind_layout line (suc field)
    → IsFirstBadOfHead line (suc (suc (suc (suc (suc (suc (suc (suc field))))))))
behind_owner line owner field laid_out is bad =
    let type = one_byte line 9 49 (omega (arith, laid_out.size)) laid_out.type in
    let kind = kind_field owner.id (take 1 (drop 10 line)) (id_cuts 10 line (kind_byte owner.id) (id_text owner.id) is.id_is).0 in
    let id = id_field 10 line owner.id (is.id, is.id_is) in
    (is.zeros, (type, (kind, (id, ((owner.cno, (is.cno, is.cno_is)), ((owner.name, (is.name, is.name_is)), (subst IsRepNumber (sym is.rep_is) is.rep, bad)))))))

abbrev fields : Head → HeadWording → List (List ℕ)
fields head words = worded_head head words ++ words.checksum ∷ []

abbrev pub head_widths : List ℕ
head_widths = 9 ∷ 1 ∷ 1 ∷ 14 ∷ 14 ∷ 150 ∷ 17 ∷ 10 ∷ 10 ∷ 24 ∷ 3 ∷ 1 ∷ 14 ∷ 30 ∷ 4 ∷ []

-- the texts of a line of the head
record IsText (head : Head) (words : HeadWording) (line : List ℕ) : Type 0 where
  in_range : IsLooseHead head
  worded : IsHeadWorded head words
  written : line ≡ concat (fields head words)

text_of : (head : Head) (notes : Notes) (line : List ℕ) (is : IsLooseHeadOf head notes line) → IsText head is.words line
text_of head notes line is = record { in_range = is.in_range; worded = is.worded; written = is.written }

widths-head : (head : Head) (words : HeadWording) (line : List ℕ) → IsText head words line
    → widths_of (fields head words) ≡ head_widths
widths-head head words line is =
    rw (
      length-numeral 14 (id_number head.id),
      length-cno head.cno words.cno is.worded.cno,
      length-padded 150 head.name is.in_range.name.short,
      is.in_range.rep.size,
      length-day_text head.first,
      length-day_text head.last,
      length-stamp head.made words.made_odd words.made is.worded.made,
      length-numeral 1 head.dev_kind,
      is.in_range.dev.0,
      length-padded 30 head.model is.in_range.model.short,
      is.worded.checksum,
    ) refl

cuts-head : (head : Head) (words : HeadWording) (line : List ℕ) → IsText head words line
    → cuts 0 head_widths line ≡ fields head words
cuts-head head words line is =
    subst (λ (widths : List ℕ). cuts 0 widths line ≡ fields head words) (widths-head head words line is)
    (parts_of_text (fields head words) line is.written)

length-head : (head : Head) (words : HeadWording) (line : List ℕ) → IsText head words line → length line ≡ 302
length-head head words line is =
    ap length is.written ∙ length-concat (fields head words) ∙ ap total (widths-head head words line is)

-- the line of a head has 302 bytes
pub head_size : (head : Head) (notes : Notes) (line : List ℕ) → IsLooseHeadOf head notes line → length line ≡ 302
head_size head notes line is = length-head head is.words line (text_of head notes line is)

head_laid_out : (head : Head) (words : HeadWording) (line : List ℕ) → IsText head words line → IsHeadLaidOut line
head_laid_out head words line is =
    let cut = cuts-head head words line is in
    let size = length-head head words line is in
    record { type = byte_of_part line 9 49 (omega (arith, size)) (cc cut); size = size }

head_good : (head : Head) (words : HeadWording) (line : List ℕ) → IsText head words line
    → AreGoodBy head_width IsHeadField 0 head_layout line
head_good head words line is =
    let in_range = is.in_range in
    let cut = cuts-head head words line is in
    let zeros : take 9 line ≡ codes "000000000" = cc cut in
    let type : take 1 (drop 9 line) ≡ codes "1" = cc cut in
    let kind_is : take 1 (drop 10 line) ≡ kind_byte head.id ∷ [] = cc cut in
    let ends = take-add 10 1 line ∙ ap (λ (last : List ℕ). take 10 line ++ last) kind_is in
    let id_is : take 14 (drop 11 line) ≡ id_text head.id = cc cut in
    let cno_is : take 14 (drop 25 line) ≡ words.cno = cc cut in
    let cno_text = subst (IsCnoText head.cno) (sym cno_is) is.worded.cno in
    let name_is : take 150 (drop 39 line) ≡ padded 150 head.name = cc cut in
    let rep_is : take 17 (drop 189 line) ≡ head.rep = cc cut in
    let first_is : take 10 (drop 206 line) ≡ day_text head.first = cc cut in
    let last_is : take 10 (drop 216 line) ≡ day_text head.last = cc cut in
    let made_is : take 24 (drop 226 line) ≡ words.made = cc cut in
    let made_text = subst (λ (text : List ℕ). IsStampText head.made words.made_odd text) (sym made_is) is.worded.made in
    let version : take 3 (drop 250 line) ≡ codes "003" = cc cut in
    let kind_of_maker : take 1 (drop 253 line) ≡ numeral 1 head.dev_kind = cc cut in
    let maker_is : take 14 (drop 254 line) ≡ head.dev = cc cut in
    let model_is : take 30 (drop 268 line) ≡ padded 30 head.model = cc cut in
    (zeros, (type, (kind_field head.id (take 1 (drop 10 line)) kind_is, ((head.id, ((in_range.id, (take 10 line, ends)), id_is)), ((head.cno, (in_range.cno, cno_text)), ((head.name, (in_range.name, name_is)), (subst IsRepNumber (sym rep_is) in_range.rep, ((head.first, (in_range.first, first_is)), ((head.last, (in_range.last, last_is)), ((head.made, words.made_odd, made_text), (version, ((head.dev_kind, (in_range.dev_kind, kind_of_maker)), (subst IsMaker (sym maker_is) in_range.dev, ((head.model, (in_range.model, model_is)), (tt, tt)))))))))))))))

fits_kind : (kind : ℕ) → IsMakerKind kind → FitsDigits 1 kind
fits_kind kind (inl cnpj) = omega arith
fits_kind kind (inr cpf) = omega arith

-- a head's notes of the recorder's number
same_rep : (a b : Bool) (s t : List ℕ) → (IsTrue a ↔ (All IsDigitByte s → ⊥)) → (IsTrue b ↔ (All IsDigitByte t → ⊥))
    → s ≡ t → a ≡ b
same_rep a b s t is_a is_b same =
    same_flag a b _ _ is_a is_b
    (λ other digits. other (subst (All IsDigitByte) (sym same) digits))
    (λ other digits. other (subst (All IsDigitByte) same digits))

abbrev head_of : EmployerId → ℕ → List ℕ → List ℕ → ℕ → ℕ → Moment → ℕ → List ℕ → List ℕ → Head
head_of id cno name rep first last made dev_kind dev model = record {
  id = id;
  cno = cno;
  name = name;
  rep = rep;
  first = first;
  last = last;
  made = made;
  dev_kind = dev_kind;
  dev = dev;
  model = model;
}

-- two heads of one line are one
same_values : (a b : Head) (words other_words : HeadWording) (line : List ℕ) → IsText a words line
    → IsText b other_words line → a ≡ b
same_values a b words other_words line is_a is_b =
    let in_a = is_a.in_range in
    let in_b = is_b.in_range in
    let both : fields a words ≡ fields b other_words = sym (cuts-head a words line is_a) ∙ cuts-head b other_words line is_b in
    let kind_text : kind_byte a.id ∷ [] ≡ kind_byte b.id ∷ [] = cc both in
    let id_texts : id_text a.id ≡ id_text b.id = cc both in
    let id_is : a.id ≡ b.id = same_id a.id b.id in_a.id in_b.id kind_text id_texts in
    let cno_text : words.cno ≡ other_words.cno = cc both in
    let cno_is : a.cno ≡ b.cno = same_cnos a.cno b.cno words.cno other_words.cno in_a.cno in_b.cno is_a.worded.cno is_b.worded.cno cno_text in
    let name_text : padded 150 a.name ≡ padded 150 b.name = cc both in
    let name_is : a.name ≡ b.name = same_text 150 a.name b.name in_a.name in_b.name name_text in
    let rep_is : a.rep ≡ b.rep = cc both in
    let first_text : day_text a.first ≡ day_text b.first = cc both in
    let first_is : a.first ≡ b.first = day_text-injective a.first b.first in_a.first in_b.first first_text in
    let last_text : day_text a.last ≡ day_text b.last = cc both in
    let last_is : a.last ≡ b.last = day_text-injective a.last b.last in_a.last in_b.last last_text in
    let made_text : words.made ≡ other_words.made = cc both in
    let made = same_stamps a.made b.made words.made_odd other_words.made_odd words.made other_words.made is_a.worded.made is_b.worded.made made_text in
    let made_is : a.made ≡ b.made = made.moment in
    let dev_kind_text : numeral 1 a.dev_kind ≡ numeral 1 b.dev_kind = cc both in
    let dev_kind_is : a.dev_kind ≡ b.dev_kind = numeral-injective 1 a.dev_kind b.dev_kind (fits_kind a.dev_kind in_a.dev_kind) (fits_kind b.dev_kind in_b.dev_kind) dev_kind_text in
    let dev_is : a.dev ≡ b.dev = cc both in
    let model_text : padded 30 a.model ≡ padded 30 b.model = cc both in
    let model_is : a.model ≡ b.model = same_text 30 a.model b.model in_a.model in_b.model model_text in
    let same : head_of a.id a.cno a.name a.rep a.first a.last a.made a.dev_kind a.dev a.model
    ≡ head_of b.id b.cno b.name b.rep b.first b.last b.made b.dev_kind b.dev b.model =
    cc (id_is, cno_is, name_is, rep_is, first_is, last_is, made_is, dev_kind_is, dev_is, model_is) in
    same

-- and so are their notes
same_head_notes : (a b : Head) (s t : Notes) (line : List ℕ) → IsLooseHeadOf a s line → IsLooseHeadOf b t line → s ≡ t
same_head_notes a b s t line is_a is_b =
    let words = is_a.words in
    let other_words = is_b.words in
    let both : fields a words ≡ fields b other_words =
    sym (cuts-head a words line (text_of a s line is_a)) ∙ cuts-head b other_words line (text_of b t line is_b) in
    let rep_is : a.rep ≡ b.rep = cc both in
    let made_text : words.made ≡ other_words.made = cc both in
    let made = same_stamps a.made b.made words.made_odd other_words.made_odd words.made other_words.made is_a.worded.made is_b.worded.made made_text in
    let sums : words.checksum ≡ other_words.checksum = cc both in
    let payloads : worded_head a words ≡ worded_head b other_words = cc both in
    same_notes s t (same_crc s.crc t.crc words.checksum other_words.checksum _ _ is_a.noted.crc is_b.noted.crc sums payloads)
    (is_a.noted.stamp ∙ made.odd ∙ sym is_b.noted.stamp)
    (same_rep s.rep t.rep a.rep b.rep is_a.noted.rep is_b.noted.rep rep_is)

-- the line of a head has no bad field
not_refused : {P : Type 0} (head : Head) (words : HeadWording) (line : List ℕ) (field : ℕ) → IsText head words line
    → (IsHeadLaidOut line → IsFirstBadOfHead line field) → P
not_refused head words line field is first =
    absurd (good_not_bad_by head_width IsHeadField 0 head_layout line field (head_good head words line is)
    (first (head_laid_out head words line is)))

abbrev head_read : Head → Notes → ReadHead
head_read head notes = record { head = head; notes = notes }

-- a reader that answers a line's head, or a field of it that is off its grammar, answers the only head
pub only_head_answer : (line : List ℕ) (result : Result ReadHead BadLine)
    → IfOk result (λ read. IsLooseHeadOf read.head read.notes line)
    → (IsHeadLaidOut line → IfErr result (λ bad. IsFirstBadOfHead line bad.field))
    → (head : Head) (notes : Notes) → IsLooseHeadOf head notes line → result ≡ Ok (record { head = head; notes = notes })
only_head_answer line (Ok read) found first head notes is =
    let head_is = same_values read.head head found.words is.words line (text_of read.head read.notes line found) (text_of head notes line is) in
    let notes_is = same_head_notes read.head head read.notes notes line found is in
    let same_read : head_read read.head read.notes ≡ head_read head notes = cc (head_is, notes_is) in
    ap Ok same_read
only_head_answer line (Err bad) found first head notes is =
    not_refused head is.words line bad.field (text_of head notes line is) first

own_text : (head : Head) (line : List ℕ) → IsLooseHead head → line ≡ head_text head → IsText head (own_words head) line
own_text head line in_range is =
    record { in_range = in_range; worded = own_worded head in_range; written = is ∙ own_written head }

abbrev quiet_notes : Bool → Notes
quiet_notes rep = record { crc = false; stamp = false; rep = rep }

-- and of a head's own line that head, with no note but of the recorder's number
pub printed_head_answer : (line : List ℕ) (result : Result ReadHead BadLine)
    → IfOk result (λ read. IsLooseHeadOf read.head read.notes line)
    → (IsHeadLaidOut line → IfErr result (λ bad. IsFirstBadOfHead line bad.field))
    → (head : Head) → IsLooseHead head → HasHeadText head → line ≡ head_text head → IsPrintedHead head result
printed_head_answer line (Ok read) found first head in_range has_text is =
    let text = own_text head line in_range is in
    let head_is : read.head ≡ head =
    same_values read.head head found.words (own_words head) line (text_of read.head read.notes line found) text in
    let rep : IsTrue read.notes.rep ↔ (All IsDigitByte head.rep → ⊥) =
    subst (λ (h : Head). IsTrue read.notes.rep ↔ (All IsDigitByte h.rep → ⊥)) head_is found.noted.rep in
    let printed : IsLooseHeadOf head (quiet_notes read.notes.rep) line =
    subst (IsLooseHeadOf head (quiet_notes read.notes.rep)) (sym is)
    (printed_head_is_loose head (quiet_notes read.notes.rep) in_range has_text refl refl rep) in
    let notes_is = same_head_notes read.head head read.notes (quiet_notes read.notes.rep) line found printed in
    (head_is, ap (λ (notes : Notes). notes.crc) notes_is, ap (λ (notes : Notes). notes.stamp) notes_is, rep)
printed_head_answer line (Err bad) found first head in_range has_text is =
    not_refused head (own_words head) line bad.field (own_text head line in_range is) first
