use Rattle.std.proofs.Common.{arith, length, ap}
use Rattle.rep_fields.proofs.Texts.{IsFilled-unique}
use Rattle.rep_fields.proofs.text.Text.read.Goals as goal

-- only the text that was found fills the field, and it is too long
pub returns-then-len : goal.returns-then-len
returns-then-len g c v is_text fills =
    let found = c.in-Some.ensures.read in
    let same = IsFilled-unique v _ _ is_text.trimmed found.0.trimmed fills found.1 in
    omega (arith, ap length same, is_text.short, c.if-len.true)
