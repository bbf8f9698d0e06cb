use Rattle.aej_records.proofs.ValueLemmas.{no_long_numeral, numeral_read}
use Rattle.aej_records.proofs.value.read_numeral.Goals as goal

pub returns-then-text-most : goal.returns-then-text-most
returns-then-text-most c = λ n in_range said. no_long_numeral c.args.most n c.args.text.now c.if-text-most.true said

pub returns : goal.returns
returns c =
    numeral_read c.args.most c.args.text.now c.get_n.result c.requires c.if-text-most.false c.get_n.ensures.width c.get_n.ensures.read
