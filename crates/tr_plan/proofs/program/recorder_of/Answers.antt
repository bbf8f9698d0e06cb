use Rattle.std.proofs.Common.{refl, inl, inr}
use Rattle.tr_plan.proofs.program.recorder_of.Goals as goal

pub returns-in_default-number_or-clause-off : goal.returns-in_default-number_or-clause-off
returns-in_default-number_or-clause-off c =
    inr ((_, c.in-Some.ensures), inl (λ sound. c.in_default-number_or.ensures sound.0 sound.1, refl))

pub returns-in_default-digits_or_empty-clause-off : goal.returns-in_default-digits_or_empty-clause-off
returns-in_default-digits_or_empty-clause-off c =
    inr (
      (_, c.in-Some.ensures),
      inr (
        (_, c.in-Some-number_or.ensures),
        inl (λ sound. c.in_default-digits_or_empty.ensures sound.0 sound.1, refl),
      ),
    )

pub returns-in_default-digits_or_empty-2-clause-off : goal.returns-in_default-digits_or_empty-2-clause-off
returns-in_default-digits_or_empty-2-clause-off c =
    inr (
      (_, c.in-Some.ensures),
      inr (
        (_, c.in-Some-number_or.ensures),
        inr (
          (_, c.in-Some-digits_or_empty.ensures),
          inl (λ sound. c.in_default-digits_or_empty-2.ensures sound.0 sound.1, refl),
        ),
      ),
    )
