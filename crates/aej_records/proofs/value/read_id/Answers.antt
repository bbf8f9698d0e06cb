use Rattle.std.proofs.Common.{◌≡◌, arith}
use Rattle.aej_records.proofs.ValueLemmas.{IsNumeralText-unique}
use Rattle.aej_records.proofs.value.read_id.Goals as goal

pub returns-in_default : goal.returns-in_default
returns-in_default c = λ id in_range said. c.in_default.ensures id (omega arith) said

pub returns-then-id-eq0 : goal.returns-then-id-eq0
returns-then-id-eq0 c = λ id in_range said.
    let same : id ≡ c.in-Some.id =
    IsNumeralText-unique 9 9 id c.in-Some.id c.args.text.now said c.in-Some.ensures.1 in
    omega arith
