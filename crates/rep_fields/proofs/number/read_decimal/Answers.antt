use Rattle.std.proofs.Common.{decimal, sym, ap, ◌∙◌}
use Rattle.std.proofs.lemmas.Bool.{both_ways, not-true}
use Rattle.std.proofs.lemmas.Slice.Eq.{bytes_eq-Decides}
use Rattle.rep_fields.proofs.Decimals.{shown-more, value-decimal}
use Rattle.rep_fields.proofs.number.read_decimal.Goals as goal

pub loop-byte-preserved : goal.loop-byte-preserved
loop-byte-preserved c =
    shown-more c.args.text.now c.loop-byte.byte-index c.loop-byte.value c.from.result c.loop-byte-test.true
    c.from.ensures c.loop-byte.invariant

-- a number that the text shows would have been written back as the text
pub returns-then-ne : goal.returns-then-ne
returns-then-ne c v small is =
    let value = value-decimal c.args.text.now _ _ v c.loop-byte-test.false c.loop-byte.invariant small is in
    let same = c.as_bytes.ensures.value ∙ c.format.ensures.text ∙ ap decimal value ∙ sym is in
    both_ways _ (not-true _ (sym c.if-ne.ensures)) ((bytes_eq-Decides c.as_bytes.result.now c.args.text.now).1 same)
