use Rattle.aej_records.proofs.ReadLemmas.{found_whole, bad_whole, only_answer, only_refusal, read_back}
use Rattle.aej_records.proofs.reading.read.Goals as goal

pub returns-clause-found : goal.returns-clause-found
returns-clause-found c =
    found_whole c.args.line.now c.of.result c.read_fields.result c.of.ensures c.read_fields.ensures.found

pub returns-clause-first : goal.returns-clause-first
returns-clause-first c =
    bad_whole c.args.line.now c.of.result c.read_fields.result c.of.ensures c.read_fields.ensures.off

pub returns-clause-only : goal.returns-clause-only
returns-clause-only c =
    only_answer c.args.line.now c.of.result c.read_fields.result c.of.ensures c.read_fields.ensures.found c.read_fields.ensures.off

pub returns-clause-refused : goal.returns-clause-refused
returns-clause-refused c =
    only_refusal c.args.line.now c.of.result c.read_fields.result c.of.ensures c.read_fields.ensures.found c.read_fields.ensures.off

pub returns-clause-printed : goal.returns-clause-printed
returns-clause-printed c =
    read_back c.args.line.now c.of.result c.read_fields.result c.of.ensures c.read_fields.ensures.found c.read_fields.ensures.off
