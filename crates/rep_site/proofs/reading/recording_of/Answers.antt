use Rattle.std.proofs.Common.{refl, inl, inr}
use Rattle.rep_site.proofs.reading.recording_of.Goals as goal

pub returns-in_default-number_or-clause-off : goal.returns-in_default-number_or-clause-off
returns-in_default-number_or-clause-off c =
    inr (
      (_, c.in-Some.ensures),
      inr (
        (_, c.in-Some-number_at.ensures),
        inr (
          (c.in-Some-id_at.developer, (rw c.in-Some-id_at.ensures.0 c.in-Some-number_at.ensures, c.in-Some-id_at.ensures.1)),
          inr ((_, c.in-Some-offset_at.ensures), inl (λ sound. c.in_default-number_or.ensures sound.0 sound.1, refl)),
        ),
      ),
    )

pub returns-in_default-number_or-2-clause-off : goal.returns-in_default-number_or-2-clause-off
returns-in_default-number_or-2-clause-off c =
    inr (
      (_, c.in-Some.ensures),
      inr (
        (_, c.in-Some-number_at.ensures),
        inr (
          (c.in-Some-id_at.developer, (rw c.in-Some-id_at.ensures.0 c.in-Some-number_at.ensures, c.in-Some-id_at.ensures.1)),
          inr (
            (_, c.in-Some-offset_at.ensures),
            inr (
              (_, c.in-Some-number_or.ensures),
              inl (λ sound. c.in_default-number_or-2.ensures sound.0 sound.1, refl),
            ),
          ),
        ),
      ),
    )
