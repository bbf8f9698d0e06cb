use Rattle.std.proofs.Common.{◌≡◌, None, nat_cmp, inl, inr, refl, sym, ap, ◌∙◌, subst}
use Rattle.std.specs.BTreeSet.{contains}
use Rattle.std.specs.Cmp.Lexicographic.{slice_cmp}
use Rattle.std.proofs.lemmas.Bool.{false≢true}
use Rattle.toml.specs.View.{view, table_view}
use Rattle.tr_plan.specs.Schedule.{IsNewCode, SaysTimes, schedule_key_text}
use Rattle.toml_fields.specs.Answering.{Finds}
use Rattle.tr_plan.specs.declared.schedule.ScheduleKey.TheVariants.{Code}
use Rattle.tr_plan.proofs.IndexLemmas.{code_new, code_used}
use Rattle.tr_plan.proofs.RowLemmas.{table_found}
use Rattle.tr_plan.proofs.ValueLemmas.{HasPlain-unique}
use Rattle.tr_plan.proofs.schedule.schedule_of.Goals as goal

pub returns-in_default-plain_text_at-clause-off : goal.returns-in_default-plain_text_at-clause-off
returns-in_default-plain_text_at-clause-off c = λ earlier has.
    let row = table_view c.in-Some.row.now in
    inl (
      row,
      table_found (view c.args.value.now) row c.in-Some.ensures,
      inl (λ sound. c.in_default-plain_text_at.ensures sound.0 sound.1.0, refl),
    )

pub returns-then-contains-clause-off : goal.returns-then-contains-clause-off
returns-then-contains-clause-off c = λ earlier has.
    let row = table_view c.in-Some.row.now in
    let code = c.in-Some-plain_text_at.code in
    inl (
      row,
      table_found (view c.args.value.now) row c.in-Some.ensures,
      inl (
        λ sound.
            let same : sound.0 ≡ code = HasPlain-unique 1 30 row (schedule_key_text Code) sound.0 code sound.1.0 c.in-Some-plain_text_at.ensures in
            code_used c.args.codes.now earlier code has c.code_key.ensures.text
            (ap (λ k. contains (slice_cmp nat_cmp) c.args.codes.now k) (sym c.code_key.ensures.value) ∙ sym c.contains.ensures ∙ c.if-contains.true)
            (subst (IsNewCode earlier) same sound.1.1),
        refl,
      ),
    )

pub returns-in_default-number_at-clause-off : goal.returns-in_default-number_at-clause-off
returns-in_default-number_at-clause-off c = λ earlier has.
    let row = table_view c.in-Some.row.now in
    let code = c.in-Some-plain_text_at.code in
    let new = code_new c.args.codes.now earlier code has c.code_key.ensures.text
    (ap (λ k. contains (slice_cmp nat_cmp) c.args.codes.now k) (sym c.code_key.ensures.value) ∙ sym c.contains.ensures ∙ c.if-contains.false) in
    inl (
      row,
      table_found (view c.args.value.now) row c.in-Some.ensures,
      inr ((code, (c.in-Some-plain_text_at.ensures, new)), inl (λ sound. c.in_default-number_at.ensures sound.0 sound.1, refl)),
    )

pub returns-in-Ok-None-clause-off : goal.returns-in-Ok-None-clause-off
returns-in-Ok-None-clause-off c = λ earlier has.
    let row = table_view c.in-Some.row.now in
    let code = c.in-Some-plain_text_at.code in
    let new = code_new c.args.codes.now earlier code has c.code_key.ensures.text
    (ap (λ k. contains (slice_cmp nat_cmp) c.args.codes.now k) (sym c.code_key.ensures.value) ∙ sym c.contains.ensures ∙ c.if-contains.false) in
    let none : Finds (SaysTimes row) None = subst (Finds (SaysTimes row)) c.in-Ok-None.field-0-is c.in-Ok-None.ensures in
    inl (
      row,
      table_found (view c.args.value.now) row c.in-Some.ensures,
      inr ((code, (c.in-Some-plain_text_at.ensures, new)), inr ((_, c.in-Some-number_at.ensures), inl (λ sound. none sound.0 sound.1, refl))),
    )

pub returns-then-not-has_only-clause-off : goal.returns-then-not-has_only-clause-off
returns-then-not-has_only-clause-off c = λ earlier has.
    let row = table_view c.in-Some.row.now in
    let code = c.in-Some-plain_text_at.code in
    let new = code_new c.args.codes.now earlier code has c.code_key.ensures.text
    (ap (λ k. contains (slice_cmp nat_cmp) c.args.codes.now k) (sym c.code_key.ensures.value) ∙ sym c.contains.ensures ∙ c.if-contains.false) in
    let times : SaysTimes row c.in-Ok-Some.times = subst (Finds (SaysTimes row)) c.in-Ok-Some.field-0-is c.in-Ok-Some.ensures in
    inl (
      row,
      table_found (view c.args.value.now) row c.in-Some.ensures,
      inr (
        (code, (c.in-Some-plain_text_at.ensures, new)),
        inr (
          (_, c.in-Some-number_at.ensures),
          inr (
            (c.in-Ok-Some.times, times),
            inl (λ only. false≢true (sym c.if-not-has_only.true ∙ c.has_only.ensures.1 only), refl),
          ),
        ),
      ),
    )

pub returns-clause-ok : goal.returns-clause-ok
returns-clause-ok c = λ earlier has.
    let row = table_view c.in-Some.row.now in
    let code = c.in-Some-plain_text_at.code in
    let new = code_new c.args.codes.now earlier code has c.code_key.ensures.text
    (ap (λ k. contains (slice_cmp nat_cmp) c.args.codes.now k) (sym c.code_key.ensures.value) ∙ sym c.contains.ensures ∙ c.if-contains.false) in
    let times : SaysTimes row c.in-Ok-Some.times = subst (Finds (SaysTimes row)) c.in-Ok-Some.field-0-is c.in-Ok-Some.ensures in (
      row,
      table_found (view c.args.value.now) row c.in-Some.ensures,
      record {
        code = (c.in-Some-plain_text_at.ensures, new);
        minutes = c.in-Some-number_at.ensures;
        times = times;
        known = c.has_only.ensures.0 c.if-not-has_only.false;
      },
    )
