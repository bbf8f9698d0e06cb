use Rattle.std.proofs.Common.{◌≡◌, ◌≤◌, ℕ, List, [], ◌∷◌, length, inl, inr, refl, sym, ap, ◌∙◌, subst, arith}
use Rattle.std.proofs.lemmas.Bool.{false≢true}
use Rattle.toml.specs.View.{view, table_view}
use Rattle.tr_plan.specs.Include.{IsInForce, IsReasonFor, include_key_text}
use Rattle.rep_fields.specs.Moment.{Moment}
use Rattle.toml_fields.proofs.Found.{HasNumber-unique}
use Rattle.tr_plan.specs.Link.{greatest_id, IsInDates}
use Rattle.tr_plan.specs.declared.include.IncludeKey.TheVariants.{LinkKey, At, Source, Reason}
use Rattle.tr_plan.proofs.RowLemmas.{table_found}
use Rattle.tr_plan.proofs.ValueLemmas.{HasStamp-unique, PlainOr-unique}
use Rattle.tr_plan.proofs.IndexLemmas.{in_force, dates_in_force}
use Rattle.tr_plan.proofs.TableLemmas.{SaysSource-unique}
use Rattle.tr_plan.proofs.include.include_of.Goals as goal
use Rattle.tr_plan.proofs.include.include_of.Goals.{else-source-eq-INCLUDED-via-then-source-eq-INCLUDED+else-is_empty, else-source-eq-INCLUDED-via-else-source-eq-INCLUDED}

-- a text that isn't empty has a character
some_text : (text : List ℕ) → (text ≡ [] → ⊥) → 1 ≤ length text
some_text [] none = absurd (none refl)
some_text (x ∷ xs) none = omega arith

pub returns-in_default-link_at-clause-off : goal.returns-in_default-link_at-clause-off
returns-in_default-link_at-clause-off c =
    let row = table_view c.in-Some.row.now in
    inl (
      row,
      table_found (view c.args.value.now) row c.in-Some.ensures,
      inl (λ sound. c.in_default-link_at.ensures.none sound.0 sound.1, refl),
    )

pub returns-in_default-stamp_at-clause-off : goal.returns-in_default-stamp_at-clause-off
returns-in_default-stamp_at-clause-off c =
    let row = table_view c.in-Some.row.now in
    inl (
      row,
      table_found (view c.args.value.now) row c.in-Some.ensures,
      inr ((_, c.in-Some-link_at.ensures.found), inl (λ sound. c.in_default-stamp_at.ensures sound.1 sound.3.0, refl)),
    )

pub returns-then-not-is_in_force-clause-off : goal.returns-then-not-is_in_force-clause-off
returns-then-not-is_in_force-clause-off c =
    let row = table_view c.in-Some.row.now in
    let links = c.args.links.now.links.items in
    let link = c.in-Some-link_at.link.now in
    let at = c.in-Some-stamp_at.at in
    inl (
      row,
      table_found (view c.args.value.now) row c.in-Some.ensures,
      inr (
        (_, c.in-Some-link_at.ensures.found),
        inl (
          λ sound.
              let id : sound.0 ≡ link.id =
              HasNumber-unique 1 greatest_id 1 greatest_id row (include_key_text LinkKey) sound.0 link.id sound.2.0 c.in-Some-link_at.ensures.found.0 in
              let moment : sound.1 ≡ at = HasStamp-unique row (include_key_text At) sound.1 at sound.3.0 c.in-Some-stamp_at.ensures in
              false≢true (sym c.if-not-is_in_force.true ∙ c.is_in_force.ensures.1
              (subst (λ n. IsInDates link n) (sym c.journey_day.ensures)
              (dates_in_force links link sound.0 at c.requires.differ c.in-Some-link_at.ensures.member id
              (subst (λ (m : Moment). IsInForce links sound.0 m) moment sound.3.1)))),
          refl,
        ),
      ),
    )

pub returns-in_default-source_at-clause-off : goal.returns-in_default-source_at-clause-off
returns-in_default-source_at-clause-off c =
    let row = table_view c.in-Some.row.now in
    let links = c.args.links.now.links.items in
    let link = c.in-Some-link_at.link.now in
    let at = c.in-Some-stamp_at.at in
    let force = in_force links link at c.in-Some-link_at.ensures.member (subst (λ n. IsInDates link n) c.journey_day.ensures (c.is_in_force.ensures.0 c.if-not-is_in_force.false)) in
    inl (
      row,
      table_found (view c.args.value.now) row c.in-Some.ensures,
      inr (
        (_, c.in-Some-link_at.ensures.found),
        inr (
          (link.id, at, c.in-Some-link_at.ensures.found, (c.in-Some-stamp_at.ensures, force)),
          inl (λ sound. c.in_default-source_at.ensures sound.0 sound.1, refl),
        ),
      ),
    )

pub returns-in_default-plain_text_or_empty-clause-off : goal.returns-in_default-plain_text_or_empty-clause-off
returns-in_default-plain_text_or_empty-clause-off c =
    let row = table_view c.in-Some.row.now in
    let links = c.args.links.now.links.items in
    let link = c.in-Some-link_at.link.now in
    let at = c.in-Some-stamp_at.at in
    let force = in_force links link at c.in-Some-link_at.ensures.member (subst (λ n. IsInDates link n) c.journey_day.ensures (c.is_in_force.ensures.0 c.if-not-is_in_force.false)) in
    inl (
      row,
      table_found (view c.args.value.now) row c.in-Some.ensures,
      inr (
        (_, c.in-Some-link_at.ensures.found),
        inr (
          (link.id, at, c.in-Some-link_at.ensures.found, (c.in-Some-stamp_at.ensures, force)),
          inr ((_, c.in-Some-source_at.ensures), inl (λ sound. c.in_default-plain_text_or_empty.ensures sound.1 sound.3.0, refl)),
        ),
      ),
    )

pub returns-then-is_empty-clause-off : goal.returns-then-is_empty-clause-off
returns-then-is_empty-clause-off c =
    let row = table_view c.in-Some.row.now in
    let links = c.args.links.now.links.items in
    let link = c.in-Some-link_at.link.now in
    let at = c.in-Some-stamp_at.at in
    let source = c.in-Some-source_at.source in
    let reason = c.in-Some-plain_text_or_empty.reason in
    let force = in_force links link at c.in-Some-link_at.ensures.member (subst (λ n. IsInDates link n) c.journey_day.ensures (c.is_in_force.ensures.0 c.if-not-is_in_force.false)) in
    inl (
      row,
      table_found (view c.args.value.now) row c.in-Some.ensures,
      inr (
        (_, c.in-Some-link_at.ensures.found),
        inr (
          (link.id, at, c.in-Some-link_at.ensures.found, (c.in-Some-stamp_at.ensures, force)),
          inr (
            (_, c.in-Some-source_at.ensures),
            inl (
              λ sound.
                  let letter : sound.0 ≡ source = SaysSource-unique row (include_key_text Source) sound.0 source sound.2 c.in-Some-source_at.ensures in
                  let text : sound.1 ≡ reason = PlainOr-unique 150 row (include_key_text Reason) sound.1 reason sound.3.0 c.in-Some-plain_text_or_empty.ensures in
                  omega (arith, ap length text, ap length (c.is_empty.ensures.0 c.if-is_empty.true), sound.3.1 (letter ∙ c.if-source-eq-INCLUDED.true)),
              refl,
            ),
          ),
        ),
      ),
    )

pub returns-then-not-has_only-clause-off : goal.returns-then-not-has_only-clause-off
returns-then-not-has_only-clause-off c =
    let row = table_view c.in-Some.row.now in
    let links = c.args.links.now.links.items in
    let link = c.in-Some-link_at.link.now in
    let at = c.in-Some-stamp_at.at in
    let source = c.in-Some-source_at.source in
    let reason = c.in-Some-plain_text_or_empty.reason in
    let force = in_force links link at c.in-Some-link_at.ensures.member (subst (λ n. IsInDates link n) c.journey_day.ensures (c.is_in_force.ensures.0 c.if-not-is_in_force.false)) in
    let needed : IsReasonFor source reason =
    elim c.else-source-eq-INCLUDED.branch [
      | else-source-eq-INCLUDED-via-then-source-eq-INCLUDED+else-is_empty w ↦
          λ same. some_text reason (λ none. false≢true (sym w.if-is_empty.false ∙ w.is_empty.ensures.1 none))
      | else-source-eq-INCLUDED-via-else-source-eq-INCLUDED w ↦ λ same. absurd (w.if-source-eq-INCLUDED.false same)
    ] in
    inl (
      row,
      table_found (view c.args.value.now) row c.in-Some.ensures,
      inr (
        (_, c.in-Some-link_at.ensures.found),
        inr (
          (link.id, at, c.in-Some-link_at.ensures.found, (c.in-Some-stamp_at.ensures, force)),
          inr (
            (source, c.in-Some-source_at.ensures),
            inr (
              (source, reason, c.in-Some-source_at.ensures, (c.in-Some-plain_text_or_empty.ensures, needed)),
              inl (λ only. false≢true (sym c.if-not-has_only.true ∙ c.has_only.ensures.1 only), refl),
            ),
          ),
        ),
      ),
    )

pub returns-clause-ok : goal.returns-clause-ok
returns-clause-ok c =
    let row = table_view c.in-Some.row.now in
    let links = c.args.links.now.links.items in
    let link = c.in-Some-link_at.link.now in
    let at = c.in-Some-stamp_at.at in
    let source = c.in-Some-source_at.source in
    let reason = c.in-Some-plain_text_or_empty.reason in
    let force = in_force links link at c.in-Some-link_at.ensures.member (subst (λ n. IsInDates link n) c.journey_day.ensures (c.is_in_force.ensures.0 c.if-not-is_in_force.false)) in
    let needed : IsReasonFor source reason =
    elim c.else-source-eq-INCLUDED.branch [
      | else-source-eq-INCLUDED-via-then-source-eq-INCLUDED+else-is_empty w ↦
          λ same. some_text reason (λ none. false≢true (sym w.if-is_empty.false ∙ w.is_empty.ensures.1 none))
      | else-source-eq-INCLUDED-via-else-source-eq-INCLUDED w ↦ λ same. absurd (w.if-source-eq-INCLUDED.false same)
    ] in (
      row,
      table_found (view c.args.value.now) row c.in-Some.ensures,
      record {
        link = c.in-Some-link_at.ensures.found;
        at = (c.in-Some-stamp_at.ensures, force);
        source = c.in-Some-source_at.ensures;
        reason = (c.in-Some-plain_text_or_empty.ensures, needed);
        known = c.has_only.ensures.0 c.if-not-has_only.false;
      },
    )
