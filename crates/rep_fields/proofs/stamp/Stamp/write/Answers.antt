use Rattle.std.proofs.Common.{w16, ap, sym, ◌∙◌, arith}
use Rattle.jiff_core.proofs.SignedLemmas.{back_small}
use Rattle.rep_fields.specs.Calendar.{day_text}
use Rattle.rep_fields.specs.Moment.{Moment, offset_text, day_of}
use Rattle.rep_fields.proofs.StampTexts.{stamp_written}
use Rattle.rep_fields.proofs.stamp.Stamp.write.Goals as goal

pub returns-clause-text : goal.returns-clause-text
returns-clause-text c =
    let day = c.write.ensures.text ∙ ap day_text (c.day.ensures.day ∙ ap (λ (m : Moment). day_of m) (sym c.self.view_is)) in
    let offset = c.offset_digits.ensures ∙ ap offset_text (back_small w16 c.self.inside.offset (omega (arith, c.self.invariant.offset))) in
    rw (← c.self.view_is) (stamp_written c.write.result c.two_digits.result c.two_digits-2.result c.offset_digits.result _ day c.two_digits.ensures c.two_digits-2.ensures offset)
