use Rattle.std.proofs.Common.{◌≡◌, ℕ, inl, inr, refl, sym, ◌∙◌, subst}
use Rattle.std.proofs.lemmas.Bool.{false≢true}
use Rattle.toml.specs.View.{view, table_view}
use Rattle.toml_fields.proofs.Found.{HasNumber-unique}
use Rattle.tr_plan.specs.Absence.{SaysMinutes, SaysMovement, absence_key_text}
use Rattle.tr_plan.specs.declared.absence.AbsenceKey.TheVariants.{Kind}
use Rattle.tr_plan.proofs.RowLemmas.{table_found}
use Rattle.tr_plan.proofs.absence.absence_of.Goals as goal

pub returns-in_default-link_at-clause-off : goal.returns-in_default-link_at-clause-off
returns-in_default-link_at-clause-off c =
    let row = table_view c.in-Some.row.now in
    inl (
      row,
      table_found (view c.args.value.now) row c.in-Some.ensures,
      inl (λ sound. c.in_default-link_at.ensures.none sound.0 sound.1, refl),
    )

pub returns-in_default-number_at-clause-off : goal.returns-in_default-number_at-clause-off
returns-in_default-number_at-clause-off c =
    let row = table_view c.in-Some.row.now in
    inl (
      row,
      table_found (view c.args.value.now) row c.in-Some.ensures,
      inr ((_, c.in-Some-link_at.ensures.found), inl (λ sound. c.in_default-number_at.ensures sound.0 sound.1, refl)),
    )

pub returns-in_default-day_at-clause-off : goal.returns-in_default-day_at-clause-off
returns-in_default-day_at-clause-off c =
    let row = table_view c.in-Some.row.now in
    inl (
      row,
      table_found (view c.args.value.now) row c.in-Some.ensures,
      inr (
        (_, c.in-Some-link_at.ensures.found),
        inr (
          (_, c.in-Some-number_at.ensures),
          inl (λ sound. c.in_default-day_at.ensures sound.0 sound.1, refl),
        ),
      ),
    )

pub returns-in_default-minutes_at-clause-off : goal.returns-in_default-minutes_at-clause-off
returns-in_default-minutes_at-clause-off c =
    let row = table_view c.in-Some.row.now in
    let kind = c.in-Some-number_at.kind in
    inl (
      row,
      table_found (view c.args.value.now) row c.in-Some.ensures,
      inr (
        (_, c.in-Some-link_at.ensures.found),
        inr (
          (_, c.in-Some-number_at.ensures),
          inr (
            (_, c.in-Some-day_at.ensures),
            inl (
              λ sound.
                  let same : sound.0 ≡ kind = HasNumber-unique 1 4 1 4 row (absence_key_text Kind) sound.0 kind sound.2 c.in-Some-number_at.ensures in
                  c.in_default-minutes_at.ensures sound.1 (subst (λ (k : ℕ). SaysMinutes row k sound.1) same sound.3),
              refl,
            ),
          ),
        ),
      ),
    )

pub returns-in_default-movement_at-clause-off : goal.returns-in_default-movement_at-clause-off
returns-in_default-movement_at-clause-off c =
    let row = table_view c.in-Some.row.now in
    let kind = c.in-Some-number_at.kind in
    inl (
      row,
      table_found (view c.args.value.now) row c.in-Some.ensures,
      inr (
        (_, c.in-Some-link_at.ensures.found),
        inr (
          (_, c.in-Some-number_at.ensures),
          inr (
            (_, c.in-Some-day_at.ensures),
            inr (
              (kind, c.in-Some-minutes_at.minutes, c.in-Some-number_at.ensures, c.in-Some-minutes_at.ensures),
              inl (
                λ sound.
                    let same : sound.0 ≡ kind = HasNumber-unique 1 4 1 4 row (absence_key_text Kind) sound.0 kind sound.2 c.in-Some-number_at.ensures in
                    c.in_default-movement_at.ensures sound.1 (subst (λ (k : ℕ). SaysMovement row k sound.1) same sound.3),
                refl,
              ),
            ),
          ),
        ),
      ),
    )

pub returns-then-not-has_only-clause-off : goal.returns-then-not-has_only-clause-off
returns-then-not-has_only-clause-off c =
    let row = table_view c.in-Some.row.now in
    let kind = c.in-Some-number_at.kind in
    inl (
      row,
      table_found (view c.args.value.now) row c.in-Some.ensures,
      inr (
        (_, c.in-Some-link_at.ensures.found),
        inr (
          (_, c.in-Some-number_at.ensures),
          inr (
            (_, c.in-Some-day_at.ensures),
            inr (
              (kind, c.in-Some-minutes_at.minutes, c.in-Some-number_at.ensures, c.in-Some-minutes_at.ensures),
              inr (
                (kind, c.in-Some-movement_at.movement, c.in-Some-number_at.ensures, c.in-Some-movement_at.ensures),
                inl (λ only. false≢true (sym c.if-not-has_only.true ∙ c.has_only.ensures.1 only), refl),
              ),
            ),
          ),
        ),
      ),
    )
