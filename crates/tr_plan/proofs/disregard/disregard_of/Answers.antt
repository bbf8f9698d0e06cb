use Rattle.std.proofs.Common.{◌≡◌, inl, inr, refl, sym, ◌∙◌, subst}
use Rattle.std.specs.Ordering.{nat_cmp}
use Rattle.std.proofs.lemmas.Bool.{false≢true}
use Rattle.toml.specs.View.{view, table_view}
use Rattle.toml_fields.proofs.Found.{HasNumber-unique}
use Rattle.tr_plan.specs.Disregard.{IsNewNsr, disregard_key_text, greatest_nsr}
use Rattle.tr_plan.specs.declared.disregard.Disregard.{Disregard}
use Rattle.tr_plan.specs.declared.disregard.DisregardKey.TheVariants.{Nsr}
use Rattle.tr_plan.proofs.IndexLemmas.{not_any-from_none, key_used, key_new}
use Rattle.tr_plan.proofs.RowLemmas.{table_found}
use Rattle.tr_plan.proofs.disregard.disregard_of.Goals as goal

pub returns-then-contains_key-clause-off : goal.returns-then-contains_key-clause-off
returns-then-contains_key-clause-off c = λ earlier has.
    let row = table_view c.in-Some.row.now in
    let nsr = c.in-Some-number_at.nsr in
    inl (
      row,
      table_found (view c.args.value.now) row c.in-Some.ensures,
      inl (
        λ sound.
            let same : sound.0 ≡ nsr = HasNumber-unique 1 greatest_nsr 1 greatest_nsr row (disregard_key_text Nsr) sound.0 nsr sound.1.0 c.in-Some-number_at.ensures in
            not_any-from_none (λ d. d.nsr ≡ nsr) earlier (subst (IsNewNsr earlier) same sound.1.1)
            (key_used nat_cmp (λ (d : Disregard). d.nsr) c.args.places.now earlier nsr has (sym c.contains_key.ensures ∙ c.if-contains_key.true)),
        refl,
      ),
    )

pub returns-in_default-plain_text_at-clause-off : goal.returns-in_default-plain_text_at-clause-off
returns-in_default-plain_text_at-clause-off c = λ earlier has.
    let row = table_view c.in-Some.row.now in
    let nsr = c.in-Some-number_at.nsr in
    let new : IsNewNsr earlier nsr =
    key_new nat_cmp (λ (d : Disregard). d.nsr) c.args.places.now earlier nsr has (λ some. false≢true (sym c.if-contains_key.false ∙ c.contains_key.ensures ∙ some)) in
    inl (
      row,
      table_found (view c.args.value.now) row c.in-Some.ensures,
      inr ((nsr, (c.in-Some-number_at.ensures, new)), inl (λ sound. c.in_default-plain_text_at.ensures sound.0 sound.1, refl)),
    )

pub returns-then-not-has_only-clause-off : goal.returns-then-not-has_only-clause-off
returns-then-not-has_only-clause-off c = λ earlier has.
    let row = table_view c.in-Some.row.now in
    let nsr = c.in-Some-number_at.nsr in
    let new : IsNewNsr earlier nsr =
    key_new nat_cmp (λ (d : Disregard). d.nsr) c.args.places.now earlier nsr has (λ some. false≢true (sym c.if-contains_key.false ∙ c.contains_key.ensures ∙ some)) in
    inl (
      row,
      table_found (view c.args.value.now) row c.in-Some.ensures,
      inr (
        (nsr, (c.in-Some-number_at.ensures, new)),
        inr (
          (c.in-Some-plain_text_at.reason, c.in-Some-plain_text_at.ensures),
          inl (λ only. false≢true (sym c.if-not-has_only.true ∙ c.has_only.ensures.1 only), refl),
        ),
      ),
    )

pub returns-clause-ok : goal.returns-clause-ok
returns-clause-ok c = λ earlier has.
    let row = table_view c.in-Some.row.now in
    let nsr = c.in-Some-number_at.nsr in (
      row,
      table_found (view c.args.value.now) row c.in-Some.ensures,
      record {
        nsr = (c.in-Some-number_at.ensures, key_new nat_cmp (λ (d : Disregard). d.nsr) c.args.places.now earlier nsr has (λ some. false≢true (sym c.if-contains_key.false ∙ c.contains_key.ensures ∙ some)));
        reason = c.in-Some-plain_text_at.ensures;
        known = c.has_only.ensures.0 c.if-not-has_only.false;
      },
    )
