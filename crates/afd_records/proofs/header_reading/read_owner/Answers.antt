use Rattle.std.proofs.Common.{refl, arith}
use Rattle.rep_fields.proofs.Layouts.{one_byte}
use Rattle.afd_records.proofs.IdFields.{id_field, no_id_field}
use Rattle.afd_records.proofs.header_reading.read_owner.Goals as goal

pub returns-in_default-clause-first : goal.returns-in_default-clause-first
returns-in_default-clause-first c =
    let type = one_byte c.args.line.now 9 49 (omega arith) c.requires.type in
    let zeros = c.is_literal.ensures.0 c.if-not-is_literal.false in
    let kind = c.is_employer_kind.ensures.0 c.if-not-is_employer_kind.false in
    (zeros, (type, (kind, no_id_field 10 c.args.line.now (omega arith) c.in_default.ensures)))

pub returns-in_default-read_loose_cno-clause-first : goal.returns-in_default-read_loose_cno-clause-first
returns-in_default-read_loose_cno-clause-first c =
    let type = one_byte c.args.line.now 9 49 (omega arith) c.requires.type in
    let zeros = c.is_literal.ensures.0 c.if-not-is_literal.false in
    let kind = c.is_employer_kind.ensures.0 c.if-not-is_employer_kind.false in
    let id = id_field 10 c.args.line.now c.in-Some.id c.in-Some.ensures in
    (zeros, (type, (kind, (id, λ spelled. c.in_default-read_loose_cno.ensures spelled.0 spelled.1.0 spelled.1.1))))

pub returns-in_default-read_text-clause-first : goal.returns-in_default-read_text-clause-first
returns-in_default-read_text-clause-first c =
    let type = one_byte c.args.line.now 9 49 (omega arith) c.requires.type in
    let zeros = c.is_literal.ensures.0 c.if-not-is_literal.false in
    let kind = c.is_employer_kind.ensures.0 c.if-not-is_employer_kind.false in
    let id = id_field 10 c.args.line.now c.in-Some.id c.in-Some.ensures in
    let cno = c.in-Some-read_loose_cno in
    (zeros, (type, (kind, (id, ((cno.cno, cno.ensures), λ spelled. c.in_default-read_text.ensures spelled.0 spelled.1.0 spelled.1.1)))))

pub returns-in_default-read-clause-first : goal.returns-in_default-read-clause-first
returns-in_default-read-clause-first c =
    let type = one_byte c.args.line.now 9 49 (omega arith) c.requires.type in
    let zeros = c.is_literal.ensures.0 c.if-not-is_literal.false in
    let kind = c.is_employer_kind.ensures.0 c.if-not-is_employer_kind.false in
    let id = id_field 10 c.args.line.now c.in-Some.id c.in-Some.ensures in
    let cno = c.in-Some-read_loose_cno in
    let name = c.in-Some-read_text in
    (zeros, (type, (kind, (id, ((cno.cno, cno.ensures), ((name.name, name.ensures), λ rep. c.in_default-read.ensures _ rep refl))))))
