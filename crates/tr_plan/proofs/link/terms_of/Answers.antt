use Rattle.std.proofs.Common.{◌≡◌, ◌≤◌, inl, inr, refl, arith}
use Rattle.rep_fields.specs.Calendar.{last_day}
use Rattle.toml.specs.View.{table_view}
use Rattle.tr_plan.specs.Link.{link_key_text}
use Rattle.tr_plan.specs.declared.link.LinkKey.TheVariants.{Since, Until}
use Rattle.tr_plan.proofs.ValueLemmas.{HasDay-unique, DayOr-unique}
use Rattle.tr_plan.proofs.link.terms_of.Goals as goal

pub returns-in_default-day_or-clause-off : goal.returns-in_default-day_or-clause-off
returns-in_default-day_or-clause-off c = λ earlier.
    inr ((c.in-Some.since, c.in-Some.ensures), inl (λ sound. c.in_default-day_or.ensures sound.1 sound.3.0, refl))

pub returns-then-until-since-clause-off : goal.returns-then-until-since-clause-off
returns-then-until-since-clause-off c = λ earlier.
    let row = table_view c.args.row.now in
    inr (
      (c.in-Some.since, c.in-Some.ensures),
      inl (
        λ sound.
            let since : sound.0 ≡ c.in-Some.since = HasDay-unique row (link_key_text Since) sound.0 c.in-Some.since sound.2 c.in-Some.ensures in
            let until : sound.1 ≡ c.in-Some-day_or.until = DayOr-unique last_day row (link_key_text Until) sound.1 c.in-Some-day_or.until sound.3.0 c.in-Some-day_or.ensures in
            omega (arith, sound.3.1, c.since.view_is, c.until.view_is, c.if-until-since.true),
        refl,
      ),
    )

pub returns-in_default-time_or_midnight-clause-off : goal.returns-in_default-time_or_midnight-clause-off
returns-in_default-time_or_midnight-clause-off c = λ earlier.
    let in_order : c.in-Some.since ≤ c.in-Some-day_or.until = omega (arith, c.since.view_is, c.until.view_is, c.if-until-since.false) in
    inr (
      (c.in-Some.since, c.in-Some.ensures),
      inr (
        (c.in-Some.since, c.in-Some-day_or.until, c.in-Some.ensures, (c.in-Some-day_or.ensures, in_order)),
        inl (λ sound. c.in_default-time_or_midnight.ensures sound.0 sound.1, refl),
      ),
    )

pub returns-in_default-plain_text_or_empty-clause-off : goal.returns-in_default-plain_text_or_empty-clause-off
returns-in_default-plain_text_or_empty-clause-off c = λ earlier.
    let in_order : c.in-Some.since ≤ c.in-Some-day_or.until = omega (arith, c.since.view_is, c.until.view_is, c.if-until-since.false) in
    inr (
      (c.in-Some.since, c.in-Some.ensures),
      inr (
        (c.in-Some.since, c.in-Some-day_or.until, c.in-Some.ensures, (c.in-Some-day_or.ensures, in_order)),
        inr ((_, c.in-Some-time_or_midnight.ensures), inl (λ sound. c.in_default-plain_text_or_empty.ensures sound.0 sound.1, refl)),
      ),
    )

pub returns-in_default-integer_or_zero-clause-off : goal.returns-in_default-integer_or_zero-clause-off
returns-in_default-integer_or_zero-clause-off c = λ earlier.
    let in_order : c.in-Some.since ≤ c.in-Some-day_or.until = omega (arith, c.since.view_is, c.until.view_is, c.if-until-since.false) in
    inr (
      (c.in-Some.since, c.in-Some.ensures),
      inr (
        (c.in-Some.since, c.in-Some-day_or.until, c.in-Some.ensures, (c.in-Some-day_or.ensures, in_order)),
        inr (
          (_, c.in-Some-time_or_midnight.ensures),
          inr (
            (_, c.in-Some-plain_text_or_empty.ensures),
            inl (λ sound. c.in_default-integer_or_zero.ensures sound.0 sound.1, refl),
          ),
        ),
      ),
    )
