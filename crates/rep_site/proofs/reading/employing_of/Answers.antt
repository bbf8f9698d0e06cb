use Rattle.std.proofs.Common.{refl, inl, inr}
use Rattle.rep_site.proofs.reading.employing_of.Goals as goal

pub returns-in_default-cno_or_none-clause-off : goal.returns-in_default-cno_or_none-clause-off
returns-in_default-cno_or_none-clause-off c =
    inr (
      (_, c.in-Some.ensures),
      inr (
        (c.in-Some-id_at.employer, (rw c.in-Some-id_at.ensures.0 c.in-Some.ensures, c.in-Some-id_at.ensures.1)),
        inl (λ sound. c.in_default-cno_or_none.ensures sound.0 sound.1, refl),
      ),
    )

pub returns-in_default-text_at-clause-off : goal.returns-in_default-text_at-clause-off
returns-in_default-text_at-clause-off c =
    inr (
      (_, c.in-Some.ensures),
      inr (
        (c.in-Some-id_at.employer, (rw c.in-Some-id_at.ensures.0 c.in-Some.ensures, c.in-Some-id_at.ensures.1)),
        inr (
          (_, c.in-Some-cno_or_none.ensures),
          inr (
            (_, c.in-Some-some_text_at.ensures),
            inl (λ sound. c.in_default-text_at.ensures sound.0 sound.1, refl),
          ),
        ),
      ),
    )
