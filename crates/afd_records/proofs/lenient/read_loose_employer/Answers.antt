use Rattle.std.proofs.Common.{◌≡◌, [], ◌∷◌, ◌++◌, take, drop, false, sym, refl, arith}
use Rattle.rep_fields.proofs.Layouts.{text_of_parts}
use Rattle.afd_records.specs.Fields.{employer_layout}
use Rattle.afd_records.specs.Lenient.{worded_payload, Wording}
use Rattle.afd_records.specs.declared.record.Body.TheVariants.{Employer}
use Rattle.afd_records.proofs.TypeFields.{type_field}
use Rattle.rep_fields.proofs.Layouts.{cuts}
use Rattle.afd_records.proofs.LooseCuts.{checksum_noted, checksum_size}
use Rattle.rep_fields.specs.Employer.{kind_byte, id_text}
use Rattle.afd_records.proofs.IdFields.{id_cuts, id_field, no_id_field}
use Rattle.afd_records.proofs.lenient.read_loose_employer.Goals as goal

pub returns-in_default-read_stamp-clause-first : goal.returns-in_default-read_stamp-clause-first
returns-in_default-read_stamp-clause-first c =
    let type = type_field employer_layout c.args.line.now 50 c.requires (omega arith) refl in
    ((c.in-Some.nsr, c.in-Some.ensures), (type, λ spelled. c.in_default-read_stamp.ensures (record { stamp = spelled.0; odd = spelled.1 }) spelled.2.2.in_range spelled.2))

pub returns-in_default-read_cpf-clause-first : goal.returns-in_default-read_cpf-clause-first
returns-in_default-read_cpf-clause-first c =
    let type = type_field employer_layout c.args.line.now 50 c.requires (omega arith) refl in
    ((c.in-Some.nsr, c.in-Some.ensures), (type, ((c.in-Some-read_stamp.at.stamp, c.in-Some-read_stamp.at.odd, c.in-Some-read_stamp.ensures.1), λ spelled. c.in_default-read_cpf.ensures spelled.0 spelled.1.0 spelled.1.1)))

pub returns-then-not-is_employer_kind-clause-first : goal.returns-then-not-is_employer_kind-clause-first
returns-then-not-is_employer_kind-clause-first c =
    let type = type_field employer_layout c.args.line.now 50 c.requires (omega arith) refl in
    ((c.in-Some.nsr, c.in-Some.ensures), (type, ((c.in-Some-read_stamp.at.stamp, c.in-Some-read_stamp.at.odd, c.in-Some-read_stamp.ensures.1), ((c.in-Some-read_cpf.resp, c.in-Some-read_cpf.ensures), λ kind. absurd (cc (c.is_employer_kind.ensures.1 kind, c.if-not-is_employer_kind.true))))))

pub returns-in_default-read_id-clause-first : goal.returns-in_default-read_id-clause-first
returns-in_default-read_id-clause-first c =
    let type = type_field employer_layout c.args.line.now 50 c.requires (omega arith) refl in
    ((c.in-Some.nsr, c.in-Some.ensures), (type, ((c.in-Some-read_stamp.at.stamp, c.in-Some-read_stamp.at.odd, c.in-Some-read_stamp.ensures.1), ((c.in-Some-read_cpf.resp, c.in-Some-read_cpf.ensures), (c.is_employer_kind.ensures.0 c.if-not-is_employer_kind.false, no_id_field 48 c.args.line.now (omega arith) c.in_default-read_id.ensures)))))

pub returns-in_default-read_loose_cno-clause-first : goal.returns-in_default-read_loose_cno-clause-first
returns-in_default-read_loose_cno-clause-first c =
    let type = type_field employer_layout c.args.line.now 50 c.requires (omega arith) refl in
    ((c.in-Some.nsr, c.in-Some.ensures), (type, ((c.in-Some-read_stamp.at.stamp, c.in-Some-read_stamp.at.odd, c.in-Some-read_stamp.ensures.1), ((c.in-Some-read_cpf.resp, c.in-Some-read_cpf.ensures), (c.is_employer_kind.ensures.0 c.if-not-is_employer_kind.false, (id_field 48 c.args.line.now c.in-Some-read_id.id c.in-Some-read_id.ensures, λ spelled. c.in_default-read_loose_cno.ensures spelled.0 spelled.1.0 spelled.1.1))))))

pub returns-in_default-read_text-clause-first : goal.returns-in_default-read_text-clause-first
returns-in_default-read_text-clause-first c =
    let type = type_field employer_layout c.args.line.now 50 c.requires (omega arith) refl in
    ((c.in-Some.nsr, c.in-Some.ensures), (type, ((c.in-Some-read_stamp.at.stamp, c.in-Some-read_stamp.at.odd, c.in-Some-read_stamp.ensures.1), ((c.in-Some-read_cpf.resp, c.in-Some-read_cpf.ensures), (c.is_employer_kind.ensures.0 c.if-not-is_employer_kind.false, (id_field 48 c.args.line.now c.in-Some-read_id.id c.in-Some-read_id.ensures, ((c.in-Some-read_loose_cno.cno, c.in-Some-read_loose_cno.ensures), λ spelled. c.in_default-read_text.ensures spelled.0 spelled.1.0 spelled.1.1)))))))

pub returns-in_default-read_text-2-clause-first : goal.returns-in_default-read_text-2-clause-first
returns-in_default-read_text-2-clause-first c =
    let type = type_field employer_layout c.args.line.now 50 c.requires (omega arith) refl in
    ((c.in-Some.nsr, c.in-Some.ensures), (type, ((c.in-Some-read_stamp.at.stamp, c.in-Some-read_stamp.at.odd, c.in-Some-read_stamp.ensures.1), ((c.in-Some-read_cpf.resp, c.in-Some-read_cpf.ensures), (c.is_employer_kind.ensures.0 c.if-not-is_employer_kind.false, (id_field 48 c.args.line.now c.in-Some-read_id.id c.in-Some-read_id.ensures, ((c.in-Some-read_loose_cno.cno, c.in-Some-read_loose_cno.ensures), ((c.in-Some-read_text.name, c.in-Some-read_text.ensures), λ spelled. c.in_default-read_text-2.ensures spelled.0 spelled.1.0 spelled.1.1))))))))

pub returns-clause-found : goal.returns-clause-found
returns-clause-found c =
    let line = c.args.line.now in
    let type = type_field employer_layout line 50 c.requires (omega arith) refl in
    let at = c.in-Some-read_stamp.at in
    let resp = c.in-Some-read_cpf in
    let id = c.in-Some-read_id.id in
    let id_parts = id_cuts 48 line (kind_byte id) (id_text id) c.in-Some-read_id.ensures.1 in
    let cno = c.in-Some-read_loose_cno in
    let name = c.in-Some-read_text in
    let place = c.in-Some-read_text-2 in
    let words : Wording = record { first = take 24 (drop 10 line); first_odd = at.odd; second = []; second_odd = false; cno = take 14 (drop 63 line); checksum = take 4 (drop 327 line) } in
    let body = Employer at.stamp resp.resp id cno.cno name.name place.place in
    let payload = worded_payload c.in-Some.nsr body words in
    let cut : cuts 0 (9 ∷ 1 ∷ 24 ∷ 14 ∷ 1 ∷ 14 ∷ 14 ∷ 150 ∷ 100 ∷ []) line ≡ payload = rw (c.in-Some.ensures.1, type, resp.ensures.1, id_parts.0, id_parts.1, name.ensures.1, place.ensures.1) refl in
    record {
      numbered = c.in-Some.ensures.0;
      in_range = (c.in-Some-read_stamp.ensures.0, resp.ensures.0, c.in-Some-read_id.ensures.0, cno.ensures.0, name.ensures.0, place.ensures.0);
      hashed = refl;
      words = words;
      worded = (c.in-Some-read_stamp.ensures.1, cno.ensures.1, checksum_size line 327 c.requires.size);
      noted = record {
        crc = checksum_noted line (9 ∷ 1 ∷ 24 ∷ 14 ∷ 1 ∷ 14 ∷ 14 ∷ 150 ∷ 100 ∷ []) payload 327 c.ends_in_checksum.result c.ends_in_checksum.ensures cut refl;
        stamp = refl;
        rep = refl;
      };
      written = text_of_parts (9 ∷ 1 ∷ 24 ∷ 14 ∷ 1 ∷ 14 ∷ 14 ∷ 150 ∷ 100 ∷ 4 ∷ []) (payload ++ words.checksum ∷ []) line (sym c.requires.size)
          (rw (c.in-Some.ensures.1, type, resp.ensures.1, id_parts.0, id_parts.1, name.ensures.1, place.ensures.1) refl);
    }
