use Rattle.std.proofs.Common.{◌∷◌, [], refl, arith}
use Rattle.afd_records.specs.Fields.{worker_layout}
use Rattle.afd_records.specs.declared.record.Body.TheVariants.{Worker}
use Rattle.afd_records.proofs.RecordParts.{checked_cut}
use Rattle.afd_records.proofs.TypeFields.{type_field}
use Rattle.afd_records.proofs.reading.read_worker.Goals as goal

pub returns-in_default-read-clause-first : goal.returns-in_default-read-clause-first
returns-in_default-read-clause-first c =
    let type = type_field worker_layout c.args.line.now 53 c.requires (omega arith) refl in
    ((c.in-Some.nsr, c.in-Some.ensures), (type, λ spelled. c.in_default-read.ensures spelled.0 spelled.1.0 spelled.1.1))

pub returns-in_default-read_op-clause-first : goal.returns-in_default-read_op-clause-first
returns-in_default-read_op-clause-first c =
    let type = type_field worker_layout c.args.line.now 53 c.requires (omega arith) refl in
    ((c.in-Some.nsr, c.in-Some.ensures), (type, ((c.in-Some-read.at, c.in-Some-read.ensures), λ spelled. c.in_default-read_op.ensures spelled.0 spelled.1.0 spelled.1.1)))

pub returns-in_default-read_cpf-clause-first : goal.returns-in_default-read_cpf-clause-first
returns-in_default-read_cpf-clause-first c =
    let type = type_field worker_layout c.args.line.now 53 c.requires (omega arith) refl in
    ((c.in-Some.nsr, c.in-Some.ensures), (type, ((c.in-Some-read.at, c.in-Some-read.ensures), ((c.in-Some-read_op.op, c.in-Some-read_op.ensures), λ spelled. c.in_default-read_cpf.ensures spelled.0 spelled.1.0 spelled.1.1))))

pub returns-in_default-read_text-clause-first : goal.returns-in_default-read_text-clause-first
returns-in_default-read_text-clause-first c =
    let type = type_field worker_layout c.args.line.now 53 c.requires (omega arith) refl in
    ((c.in-Some.nsr, c.in-Some.ensures), (type, ((c.in-Some-read.at, c.in-Some-read.ensures), ((c.in-Some-read_op.op, c.in-Some-read_op.ensures), ((c.in-Some-read_cpf.cpf, c.in-Some-read_cpf.ensures), λ spelled. c.in_default-read_text.ensures spelled.0 spelled.1.0 spelled.1.1)))))

pub returns-in_default-read_text-2-clause-first : goal.returns-in_default-read_text-2-clause-first
returns-in_default-read_text-2-clause-first c =
    let type = type_field worker_layout c.args.line.now 53 c.requires (omega arith) refl in
    ((c.in-Some.nsr, c.in-Some.ensures), (type, ((c.in-Some-read.at, c.in-Some-read.ensures), ((c.in-Some-read_op.op, c.in-Some-read_op.ensures), ((c.in-Some-read_cpf.cpf, c.in-Some-read_cpf.ensures), ((c.in-Some-read_text.name, c.in-Some-read_text.ensures), λ spelled. c.in_default-read_text-2.ensures spelled.0 spelled.1.0 spelled.1.1))))))

pub returns-in_default-read_cpf-2-clause-first : goal.returns-in_default-read_cpf-2-clause-first
returns-in_default-read_cpf-2-clause-first c =
    let type = type_field worker_layout c.args.line.now 53 c.requires (omega arith) refl in
    ((c.in-Some.nsr, c.in-Some.ensures), (type, ((c.in-Some-read.at, c.in-Some-read.ensures), ((c.in-Some-read_op.op, c.in-Some-read_op.ensures), ((c.in-Some-read_cpf.cpf, c.in-Some-read_cpf.ensures), ((c.in-Some-read_text.name, c.in-Some-read_text.ensures), ((c.in-Some-read_text-2.extra, c.in-Some-read_text-2.ensures), λ spelled. c.in_default-read_cpf-2.ensures spelled.0 spelled.1.0 spelled.1.1)))))))

pub returns-then-not-ends_in_checksum-clause-first : goal.returns-then-not-ends_in_checksum-clause-first
returns-then-not-ends_in_checksum-clause-first c =
    let type = type_field worker_layout c.args.line.now 53 c.requires (omega arith) refl in
    ((c.in-Some.nsr, c.in-Some.ensures), (type, ((c.in-Some-read.at, c.in-Some-read.ensures), ((c.in-Some-read_op.op, c.in-Some-read_op.ensures), ((c.in-Some-read_cpf.cpf, c.in-Some-read_cpf.ensures), ((c.in-Some-read_text.name, c.in-Some-read_text.ensures), ((c.in-Some-read_text-2.extra, c.in-Some-read_text-2.ensures), ((c.in-Some-read_cpf-2.resp, c.in-Some-read_cpf-2.ensures), λ sum. absurd (cc (c.ends_in_checksum.ensures.1 sum, c.if-not-ends_in_checksum.true))))))))))

pub returns-clause-found : goal.returns-clause-found
returns-clause-found c =
    let line = c.args.line.now in
    let type = type_field worker_layout line 53 c.requires (omega arith) refl in
    let body = Worker c.in-Some-read.at c.in-Some-read_op.op c.in-Some-read_cpf.cpf c.in-Some-read_text.name c.in-Some-read_text-2.extra c.in-Some-read_cpf-2.resp in
    record {
      line_of = record {
        numbered = c.in-Some.ensures.0;
        in_range = (c.in-Some-read.ensures.0, c.in-Some-read_cpf.ensures.0, c.in-Some-read_text.ensures.0, c.in-Some-read_text-2.ensures.0, c.in-Some-read_cpf-2.ensures.0);
        hashed = refl;
        written = checked_cut c.in-Some.nsr body line (9 ∷ 1 ∷ 24 ∷ 1 ∷ 12 ∷ 52 ∷ 4 ∷ 11 ∷ []) 114 refl refl c.requires.size
            (rw (c.in-Some.ensures.1, type, c.in-Some-read.ensures.1, c.in-Some-read_op.ensures.1, c.in-Some-read_cpf.ensures.1, c.in-Some-read_text.ensures.1, c.in-Some-read_text-2.ensures.1, c.in-Some-read_cpf-2.ensures.1) refl)
            (c.ends_in_checksum.ensures.0 c.if-not-ends_in_checksum.false);
      };
      plain = refl;
    }
