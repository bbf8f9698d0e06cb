-- The lenient grammar has the strict lines.
use Rattle.std.proofs.Common.{◌≡◌, ◌≢◌, ◌↔◌, inl, inr, IsTrue, ℕ, List, [], ◌∷◌, ◌++◌, All, Option, Some, None, refl, sym, ap, ◌∙◌, arith, append-nil}
use Rattle.std.specs.Prelude.{Bool, false}
use Rattle.std.specs.List.{concat}
use Rattle.std.proofs.lemmas.Bool.{true≢false}
use Rattle.std.proofs.lemmas.List.Elements.{All-weaker}
use Rattle.std.proofs.lemmas.List.Folds.{concat-append}
use Rattle.rep_fields.specs.Digits.{numeral, IsDigitByte}
use Rattle.rep_fields.specs.Moment.{Moment, IsMoment, moment_text}
use Rattle.afd_records.specs.Checksum.{crc_text}
use Rattle.afd_records.specs.File.{head_payload_text, head_text, HasHeadText}
use Rattle.afd_records.specs.Record.{IsWrittenEvent, payload_text}
use Rattle.afd_records.specs.Line.{IsLowerHex, HasHash, IsLineOf, hash_bytes}
use Rattle.afd_records.specs.Lenient.{IsStampText, IsLooseEvent, IsHexDigit, HasLooseHash, IsLooseLineOf}
use Rattle.afd_records.specs.LenientHead.{IsLooseHead, HeadWording, IsHeadWorded, worded_head, IsLooseHeadOf}
use Rattle.afd_records.specs.Reading.{no_notes}
use Rattle.afd_records.specs.declared.error.Notes.{Notes}
use Rattle.afd_records.specs.declared.header.Head.{Head}
use Rattle.afd_records.specs.declared.record.Body.{Body}
use Rattle.afd_records.specs.declared.record.Body.TheVariants.{Employer, Adjust, Worker, Event, Clocking}
use Rattle.afd_records.proofs.RecordParts.{payload_parts, payload_text-parts, record_text-parts}

-- a stamp's own text
strict_stamp : (moment : Moment) → IsMoment moment → IsStampText moment false (moment_text moment)
strict_stamp moment in_range = (
  0,
  false,
  record {
    in_range = in_range;
    in_minute = omega arith;
    at_zero = λ yes. absurd (true≢false (sym yes));
    text = refl;
    told_odd = (λ yes. absurd (true≢false (sym yes)), λ odd. elim odd [ inl some ↦ absurd (some refl) | inr minus ↦ minus ]);
  },
)

-- no note of a checksum that is the fields'
no_note : (checksum : List ℕ) (fields : List ℕ) → checksum ≡ crc_text fields → IsTrue false ↔ (checksum ≢ crc_text fields)
no_note checksum fields is = (λ yes. absurd (true≢false (sym yes)), λ other. absurd (other is))

-- nor where there is none
never_noted : IsTrue false ↔ ⊥
never_noted = (λ yes. absurd (true≢false (sym yes)), λ none. absurd none)

loose_event : (code : ℕ) → IsWrittenEvent code → IsLooseEvent code
loose_event code (inl available) = (omega arith, omega arith)
loose_event code (inr unavailable) = (omega arith, omega arith)

loose_hash : (hash : Option (List ℕ)) (marked recorded : Moment) (cpf collector : ℕ) (offline : Bool)
    → HasHash (Clocking marked cpf recorded collector offline) hash
    → HasLooseHash (Clocking marked cpf recorded collector offline) hash
loose_hash None marked recorded cpf collector offline hashed = hashed
loose_hash (Some text) marked recorded cpf collector offline hashed =
    let P : ℕ → Type 0 = IsLowerHex in
    let Q : ℕ → Type 0 = IsHexDigit in
    record { size = hashed.size; digits = All-weaker P Q (λ byte lower. inl lower) text hashed.lower }

-- a strict line is a lenient one without notes
pub strict_is_loose : (nsr : ℕ) (body : Body) (hash : Option (List ℕ)) (line : List ℕ) → IsLineOf nsr body hash line
    → IsLooseLineOf nsr body hash no_notes line
strict_is_loose nsr (Employer at resp id cno name place) hash line is =
    let checksum = crc_text (payload_text nsr (Employer at resp id cno name place)) in
    record {
      numbered = is.numbered;
      in_range = is.in_range;
      hashed = is.hashed;
      words = record { first = moment_text at; first_odd = false; second = []; second_odd = false; cno = numeral 14 cno; checksum = checksum };
      worded = (strict_stamp at is.in_range.0, inl refl, refl);
      noted = record {
        crc = no_note checksum (concat (payload_parts nsr (Employer at resp id cno name place)))
            (ap crc_text (payload_text-parts nsr (Employer at resp id cno name place)));
        stamp = refl;
        rep = refl;
      };
      written = is.written ∙ record_text-parts nsr (Employer at resp id cno name place) (hash_bytes hash);
    }
strict_is_loose nsr (Adjust before after resp) hash line is =
    let checksum = crc_text (payload_text nsr (Adjust before after resp)) in
    record {
      numbered = is.numbered;
      in_range = is.in_range;
      hashed = is.hashed;
      words = record { first = moment_text before; first_odd = false; second = moment_text after; second_odd = false; cno = []; checksum = checksum };
      worded = (strict_stamp before is.in_range.0, strict_stamp after is.in_range.1, refl);
      noted = record {
        crc = no_note checksum (concat (payload_parts nsr (Adjust before after resp)))
            (ap crc_text (payload_text-parts nsr (Adjust before after resp)));
        stamp = refl;
        rep = refl;
      };
      written = is.written ∙ record_text-parts nsr (Adjust before after resp) (hash_bytes hash);
    }
strict_is_loose nsr (Worker at op cpf name extra resp) hash line is =
    let checksum = crc_text (payload_text nsr (Worker at op cpf name extra resp)) in
    record {
      numbered = is.numbered;
      in_range = is.in_range;
      hashed = is.hashed;
      words = record { first = moment_text at; first_odd = false; second = []; second_odd = false; cno = []; checksum = checksum };
      worded = (strict_stamp at is.in_range.0, refl);
      noted = record {
        crc = no_note checksum (concat (payload_parts nsr (Worker at op cpf name extra resp)))
            (ap crc_text (payload_text-parts nsr (Worker at op cpf name extra resp)));
        stamp = refl;
        rep = refl;
      };
      written = is.written ∙ record_text-parts nsr (Worker at op cpf name extra resp) (hash_bytes hash);
    }
strict_is_loose nsr (Event at code) hash line is = record {
  numbered = is.numbered;
  in_range = (is.in_range.0, loose_event code is.in_range.1);
  hashed = is.hashed;
  words = record { first = moment_text at; first_odd = false; second = []; second_odd = false; cno = []; checksum = [] };
  worded = strict_stamp at is.in_range.0;
  noted = record { crc = never_noted; stamp = refl; rep = refl };
  written = is.written ∙ record_text-parts nsr (Event at code) (hash_bytes hash);
}
strict_is_loose nsr (Clocking marked cpf recorded collector offline) hash line is = record {
  numbered = is.numbered;
  in_range = is.in_range;
  hashed = loose_hash hash marked recorded cpf collector offline is.hashed;
  words = record { first = moment_text marked; first_odd = false; second = moment_text recorded; second_odd = false; cno = []; checksum = [] };
  worded = (strict_stamp marked is.in_range.0, strict_stamp recorded is.in_range.2);
  noted = record { crc = never_noted; stamp = refl; rep = refl };
  written = is.written ∙ record_text-parts nsr (Clocking marked cpf recorded collector offline) (hash_bytes hash);
}

-- the words of a head's own line
abbrev pub own_words : Head → HeadWording
own_words head = record {
  cno = numeral 14 head.cno;
  made = moment_text head.made;
  made_odd = false;
  checksum = crc_text (head_payload_text head);
}

head_payload_text-parts : (head : Head) → head_payload_text head ≡ concat (worded_head head (own_words head))
unfolding head_payload_text
head_payload_text-parts head = refl

quiet : (b : Bool) (P : Type 0) → b ≡ false → (P → ⊥) → IsTrue b ↔ P
quiet b P off none = (λ yes. absurd (true≢false (sym yes ∙ off)), λ p. absurd (none p))

-- those are such as the head allows
pub own_worded : (head : Head) → IsLooseHead head → IsHeadWorded head (own_words head)
own_worded head in_range = record { cno = inl refl; made = strict_stamp head.made in_range.made; checksum = refl }

pub own_written : (head : Head)
    → head_text head ≡ concat (worded_head head (own_words head) ++ crc_text (head_payload_text head) ∷ [])
own_written head =
    let checksum = crc_text (head_payload_text head) in
    let fields = worded_head head (own_words head) in
    ap (λ (payload : List ℕ). payload ++ checksum) (head_payload_text-parts head)
    ∙ sym (concat-append fields (checksum ∷ []) ∙ ap (λ (last : List ℕ). concat fields ++ last) (append-nil checksum))

-- and the line of a head is one of that head
pub printed_head_is_loose : (head : Head) (notes : Notes) → IsLooseHead head → HasHeadText head → notes.crc ≡ false
    → notes.stamp ≡ false → (IsTrue notes.rep ↔ (All IsDigitByte head.rep → ⊥)) → IsLooseHeadOf head notes (head_text head)
printed_head_is_loose head notes in_range has_text crc stamp rep = record {
  in_range = in_range;
  words = own_words head;
  worded = own_worded head in_range;
  noted = record {
    crc = quiet notes.crc _ crc (λ other. other (ap crc_text (head_payload_text-parts head)));
    stamp = stamp;
    rep = rep;
  };
  written = own_written head;
}
