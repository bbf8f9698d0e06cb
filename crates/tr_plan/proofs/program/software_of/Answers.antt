use Rattle.std.proofs.Common.{refl, inl, inr}
use Rattle.tr_plan.proofs.program.software_of.Goals as goal

pub returns-in_default-plain_text_at-3-clause-off : goal.returns-in_default-plain_text_at-3-clause-off
returns-in_default-plain_text_at-3-clause-off c =
    inr (
      (_, c.in-Some.ensures),
      inr (
        (_, c.in-Some-plain_text_at.ensures),
        inr (
          (_, c.in-Some-number_at.ensures),
          inr (
            (c.in-Some-id_at.developer, (rw c.in-Some-id_at.ensures.0 c.in-Some-number_at.ensures, c.in-Some-id_at.ensures.1)),
            inr ((_, c.in-Some-plain_text_at-2.ensures), inl (λ sound. c.in_default-plain_text_at-3.ensures sound.0 sound.1, refl)),
          ),
        ),
      ),
    )
