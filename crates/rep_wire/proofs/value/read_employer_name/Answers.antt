use Rattle.std.proofs.Common.{refl, ◌∙◌}
use Rattle.rep_wire.proofs.GrammarLemmas.{text-unique}
use Rattle.rep_wire.proofs.value.read_employer_name.Goals as goal

pub returns-then-is_empty : goal.returns-then-is_empty
returns-then-is_empty c = λ name in_range fills.
    let read = c.in_ok-name.ensures in
    in_range.1 (text-unique 150 name c.in_ok-name.name c.args.text.now in_range.0 read.0 fills read.1 ∙ c.if-is_empty.ensures.0 refl)
