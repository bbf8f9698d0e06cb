use Rattle.std.proofs.Common.{◌≡◌, arith}
use Rattle.aej_records.proofs.ValueLemmas.{IsNumeralText-unique}
use Rattle.aej_records.proofs.value.read_pair.Goals as goal

pub returns-in_default : goal.returns-in_default
returns-in_default c = λ pair in_range said. c.in_default.ensures pair (omega arith) said

pub returns-then-pair-eq0 : goal.returns-then-pair-eq0
returns-then-pair-eq0 c = λ pair in_range said.
    let same : pair ≡ c.in-Some.pair =
    IsNumeralText-unique 3 3 pair c.in-Some.pair c.args.text.now said c.in-Some.ensures.1 in
    omega arith
