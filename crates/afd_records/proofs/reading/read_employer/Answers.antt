use Rattle.std.proofs.Common.{◌∷◌, [], refl, arith}
use Rattle.afd_records.specs.Fields.{employer_layout}
use Rattle.rep_fields.specs.Employer.{kind_byte, id_text}
use Rattle.afd_records.proofs.IdFields.{id_cuts, id_field, no_id_field}
use Rattle.afd_records.specs.declared.record.Body.TheVariants.{Employer}
use Rattle.afd_records.proofs.RecordParts.{checked_cut}
use Rattle.afd_records.proofs.TypeFields.{type_field}
use Rattle.afd_records.proofs.reading.read_employer.Goals as goal

pub returns-in_default-read-clause-first : goal.returns-in_default-read-clause-first
returns-in_default-read-clause-first c =
    let type = type_field employer_layout c.args.line.now 50 c.requires (omega arith) refl in
    ((c.in-Some.nsr, c.in-Some.ensures), (type, λ spelled. c.in_default-read.ensures spelled.0 spelled.1.0 spelled.1.1))

pub returns-in_default-read_cpf-clause-first : goal.returns-in_default-read_cpf-clause-first
returns-in_default-read_cpf-clause-first c =
    let type = type_field employer_layout c.args.line.now 50 c.requires (omega arith) refl in
    ((c.in-Some.nsr, c.in-Some.ensures), (type, ((c.in-Some-read.at, c.in-Some-read.ensures), λ spelled. c.in_default-read_cpf.ensures spelled.0 spelled.1.0 spelled.1.1)))

pub returns-then-not-is_employer_kind-clause-first : goal.returns-then-not-is_employer_kind-clause-first
returns-then-not-is_employer_kind-clause-first c =
    let type = type_field employer_layout c.args.line.now 50 c.requires (omega arith) refl in
    ((c.in-Some.nsr, c.in-Some.ensures), (type, ((c.in-Some-read.at, c.in-Some-read.ensures), ((c.in-Some-read_cpf.resp, c.in-Some-read_cpf.ensures), λ kind. absurd (cc (c.is_employer_kind.ensures.1 kind, c.if-not-is_employer_kind.true))))))

pub returns-in_default-read_id-clause-first : goal.returns-in_default-read_id-clause-first
returns-in_default-read_id-clause-first c =
    let type = type_field employer_layout c.args.line.now 50 c.requires (omega arith) refl in
    ((c.in-Some.nsr, c.in-Some.ensures), (type, ((c.in-Some-read.at, c.in-Some-read.ensures), ((c.in-Some-read_cpf.resp, c.in-Some-read_cpf.ensures), (c.is_employer_kind.ensures.0 c.if-not-is_employer_kind.false, no_id_field 48 c.args.line.now (omega arith) c.in_default-read_id.ensures)))))

pub returns-in_default-read_cno-clause-first : goal.returns-in_default-read_cno-clause-first
returns-in_default-read_cno-clause-first c =
    let type = type_field employer_layout c.args.line.now 50 c.requires (omega arith) refl in
    ((c.in-Some.nsr, c.in-Some.ensures), (type, ((c.in-Some-read.at, c.in-Some-read.ensures), ((c.in-Some-read_cpf.resp, c.in-Some-read_cpf.ensures), (c.is_employer_kind.ensures.0 c.if-not-is_employer_kind.false, (id_field 48 c.args.line.now c.in-Some-read_id.id c.in-Some-read_id.ensures, λ spelled. c.in_default-read_cno.ensures spelled.0 spelled.1.0 spelled.1.1))))))

pub returns-in_default-read_text-clause-first : goal.returns-in_default-read_text-clause-first
returns-in_default-read_text-clause-first c =
    let type = type_field employer_layout c.args.line.now 50 c.requires (omega arith) refl in
    ((c.in-Some.nsr, c.in-Some.ensures), (type, ((c.in-Some-read.at, c.in-Some-read.ensures), ((c.in-Some-read_cpf.resp, c.in-Some-read_cpf.ensures), (c.is_employer_kind.ensures.0 c.if-not-is_employer_kind.false, (id_field 48 c.args.line.now c.in-Some-read_id.id c.in-Some-read_id.ensures, ((c.in-Some-read_cno.cno, c.in-Some-read_cno.ensures), λ spelled. c.in_default-read_text.ensures spelled.0 spelled.1.0 spelled.1.1)))))))

pub returns-in_default-read_text-2-clause-first : goal.returns-in_default-read_text-2-clause-first
returns-in_default-read_text-2-clause-first c =
    let type = type_field employer_layout c.args.line.now 50 c.requires (omega arith) refl in
    ((c.in-Some.nsr, c.in-Some.ensures), (type, ((c.in-Some-read.at, c.in-Some-read.ensures), ((c.in-Some-read_cpf.resp, c.in-Some-read_cpf.ensures), (c.is_employer_kind.ensures.0 c.if-not-is_employer_kind.false, (id_field 48 c.args.line.now c.in-Some-read_id.id c.in-Some-read_id.ensures, ((c.in-Some-read_cno.cno, c.in-Some-read_cno.ensures), ((c.in-Some-read_text.name, c.in-Some-read_text.ensures), λ spelled. c.in_default-read_text-2.ensures spelled.0 spelled.1.0 spelled.1.1))))))))

pub returns-then-not-ends_in_checksum-clause-first : goal.returns-then-not-ends_in_checksum-clause-first
returns-then-not-ends_in_checksum-clause-first c =
    let type = type_field employer_layout c.args.line.now 50 c.requires (omega arith) refl in
    ((c.in-Some.nsr, c.in-Some.ensures), (type, ((c.in-Some-read.at, c.in-Some-read.ensures), ((c.in-Some-read_cpf.resp, c.in-Some-read_cpf.ensures), (c.is_employer_kind.ensures.0 c.if-not-is_employer_kind.false, (id_field 48 c.args.line.now c.in-Some-read_id.id c.in-Some-read_id.ensures, ((c.in-Some-read_cno.cno, c.in-Some-read_cno.ensures), ((c.in-Some-read_text.name, c.in-Some-read_text.ensures), ((c.in-Some-read_text-2.place, c.in-Some-read_text-2.ensures), λ sum. absurd (cc (c.ends_in_checksum.ensures.1 sum, c.if-not-ends_in_checksum.true)))))))))))

pub returns-clause-found : goal.returns-clause-found
returns-clause-found c =
    let line = c.args.line.now in
    let type = type_field employer_layout line 50 c.requires (omega arith) refl in
    let id = c.in-Some-read_id.id in
    let id_parts = id_cuts 48 line (kind_byte id) (id_text id) c.in-Some-read_id.ensures.1 in
    let body = Employer c.in-Some-read.at c.in-Some-read_cpf.resp c.in-Some-read_id.id c.in-Some-read_cno.cno c.in-Some-read_text.name c.in-Some-read_text-2.place in
    record {
      line_of = record {
        numbered = c.in-Some.ensures.0;
        in_range = (c.in-Some-read.ensures.0, c.in-Some-read_cpf.ensures.0, c.in-Some-read_id.ensures.0, c.in-Some-read_cno.ensures.0, c.in-Some-read_text.ensures.0, c.in-Some-read_text-2.ensures.0);
        hashed = refl;
        written = checked_cut c.in-Some.nsr body line (9 ∷ 1 ∷ 24 ∷ 14 ∷ 1 ∷ 14 ∷ 14 ∷ 150 ∷ 100 ∷ []) 327 refl refl c.requires.size
            (rw (c.in-Some.ensures.1, type, c.in-Some-read.ensures.1, c.in-Some-read_cpf.ensures.1, id_parts.0, id_parts.1, c.in-Some-read_cno.ensures.1, c.in-Some-read_text.ensures.1, c.in-Some-read_text-2.ensures.1) refl)
            (c.ends_in_checksum.ensures.0 c.if-not-ends_in_checksum.false);
      };
      plain = refl;
    }
