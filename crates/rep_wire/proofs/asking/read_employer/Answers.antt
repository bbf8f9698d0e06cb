use Rattle.std.proofs.Common.{refl, rules}
use Rattle.std.specs.Option.{option_copied}
use Rattle.rep_wire.specs.LaneGrammar.{IsField, cpf_field, employer_kind_field, employer_id_field, cno_field, employer_name_field}
use Rattle.rep_wire.proofs.GrammarLemmas.{off_here, off_behind}
use Rattle.rep_wire.proofs.AskLemmas.{employer_fault, employer_asked}
use Rattle.rep_wire.proofs.asking.read_employer.Goals as goal

pub returns-in_default-read_cno-clause-fault : goal.returns-in_default-read_cno-clause-fault
returns-in_default-read_cno-clause-fault c =
    let by : IsField cpf_field c.in-Some.field-0.resp.now = (c.in-Some-read.resp, c.in-Some-read.ensures.0, c.in-Some-read.ensures.1) in
    let kind : IsField employer_kind_field c.in-Some.field-0.kind.now = search rules in
    let id : IsField (employer_id_field c.in-Some.field-0.kind.now) c.in-Some.field-0.id.now =
    (c.in-Some-read_id.id, c.in-Some-read_id.ensures.0, c.in-Some-read_id.ensures.1) in
    employer_fault _ c.in-Some.field-0.resp.now c.in-Some.field-0.kind.now c.in-Some.field-0.id.now c.in-Some.field-0.cno.now c.in-Some.field-0.name.now c.in-Some.field-0.place.now 6 c.in-Some.ensures
    (off_behind by (off_behind kind (off_behind id
    (off_here (λ cno. c.in_default-read_cno.ensures cno.0 cno.1 cno.2) refl))))

pub returns-in_default-read_employer_name-clause-fault : goal.returns-in_default-read_employer_name-clause-fault
returns-in_default-read_employer_name-clause-fault c =
    let by : IsField cpf_field c.in-Some.field-0.resp.now = (c.in-Some-read.resp, c.in-Some-read.ensures.0, c.in-Some-read.ensures.1) in
    let kind : IsField employer_kind_field c.in-Some.field-0.kind.now = search rules in
    let id : IsField (employer_id_field c.in-Some.field-0.kind.now) c.in-Some.field-0.id.now =
    (c.in-Some-read_id.id, c.in-Some-read_id.ensures.0, c.in-Some-read_id.ensures.1) in
    let works : IsField cno_field c.in-Some.field-0.cno.now =
    (c.in-Some-read_cno.cno, c.in-Some-read_cno.ensures.0, c.in-Some-read_cno.ensures.1) in
    employer_fault _ c.in-Some.field-0.resp.now c.in-Some.field-0.kind.now c.in-Some.field-0.id.now c.in-Some.field-0.cno.now c.in-Some.field-0.name.now c.in-Some.field-0.place.now 7 c.in-Some.ensures
    (off_behind by (off_behind kind (off_behind id (off_behind works
    (off_here (λ name. c.in_default-read_employer_name.ensures name.0 name.1 name.2) refl)))))

pub returns-in_default-read-2-clause-fault : goal.returns-in_default-read-2-clause-fault
returns-in_default-read-2-clause-fault c =
    let by : IsField cpf_field c.in-Some.field-0.resp.now = (c.in-Some-read.resp, c.in-Some-read.ensures.0, c.in-Some-read.ensures.1) in
    let kind : IsField employer_kind_field c.in-Some.field-0.kind.now = search rules in
    let id : IsField (employer_id_field c.in-Some.field-0.kind.now) c.in-Some.field-0.id.now =
    (c.in-Some-read_id.id, c.in-Some-read_id.ensures.0, c.in-Some-read_id.ensures.1) in
    let works : IsField cno_field c.in-Some.field-0.cno.now =
    (c.in-Some-read_cno.cno, c.in-Some-read_cno.ensures.0, c.in-Some-read_cno.ensures.1) in
    let named : IsField employer_name_field c.in-Some.field-0.name.now =
    (c.in-Some-read_employer_name.name, c.in-Some-read_employer_name.ensures.0, c.in-Some-read_employer_name.ensures.1) in
    employer_fault _ c.in-Some.field-0.resp.now c.in-Some.field-0.kind.now c.in-Some.field-0.id.now c.in-Some.field-0.cno.now c.in-Some.field-0.name.now c.in-Some.field-0.place.now 8 c.in-Some.ensures
    (off_behind by (off_behind kind (off_behind id (off_behind works (off_behind named
    (off_here (λ place. c.in_default-read-2.ensures place.0 place.1 place.2) refl))))))

pub returns-clause-asked : goal.returns-clause-asked
returns-clause-asked c =
    employer_asked (option_copied c.args.fields) c.in-Some.field-0.resp.now c.in-Some.field-0.kind.now c.in-Some.field-0.id.now c.in-Some.field-0.cno.now c.in-Some.field-0.name.now c.in-Some.field-0.place.now
    c.in-Some-read.resp c.in-Some-read_id.id c.in-Some-read_cno.cno c.in-Some-read_employer_name.name c.in-Some-read-2.place c.in-Some.ensures (record {
      by = c.in-Some-read.ensures;
      whom = c.in-Some-read_id.ensures;
      works = c.in-Some-read_cno.ensures;
      named = c.in-Some-read_employer_name.ensures;
      where_ = c.in-Some-read-2.ensures;
    })
