use Rattle.std.proofs.Common.{rules, ◌≡◌, ◌≢◌, ◌∙◌, ℕ, Some, ⊎_elim, refl, subst, sym, ap, arith, inl}
use Rattle.rep_top.proofs.Rising.{one_kept, one_rose}
use Rattle.rep_top.proofs.Statuses.{drill_has_status}
use Rattle.rep_top.proofs.drilling.drill_over.Goals as goal

pub returns-clause-on_grammar : goal.returns-clause-on_grammar
returns-clause-on_grammar g c =
    ⊎_elim (λ played. subst (λ (status : ℕ). status ≢ 2) (sym played.drills.status_is) (drill_has_status played.drills.told).0)
    (λ none. subst (λ (status : ℕ). status ≢ 2) (sym none.status_is) (λ e. omega arith))
    c.drill-done.ensures.drilled

pub returns-clause-told : goal.returns-clause-told
returns-clause-told g c =
    let others = ⊎_elim
    (λ played. subst (λ (status : ℕ). (status ≢ 6) × (status ≢ 7)) (sym played.drills.status_is)
    ((drill_has_status played.drills.told).1, (drill_has_status played.drills.told).2))
    (λ none. subst (λ (status : ℕ). (status ≢ 6) × (status ≢ 7)) (sym none.status_is) (λ e. omega arith, λ e. omega arith))
    c.drill-done.ensures.drilled in
    record {
      source = λ e. one_rose g.S.Source.faults _ _ c.in-Some.schedule c.drill-done.result.schedule (search rules) (search rules) (c.drill-done.ensures.source_fault e);
      sink = λ e. inl (c.drill-done.ensures.sink_fault e);
      device = λ e. absurd (others.0 e);
      clock = λ e. absurd (others.1 e);
      no_source = λ a b. one_kept g.S.Source.faults c.args.rig.texts.items c.push_reserved.new.self.items c.in-Some.schedule c.drill-done.result.schedule
          (search rules) (search rules) (c.drill-done.ensures.no_source_fault a b);
      no_file = λ a. refl;
      no_device = λ a b. refl;
      no_clock = λ a b. refl;
    }

pub returns-clause-complete : goal.returns-clause-complete
returns-clause-complete g c can none =
    let schedule : c.in-Some.schedule ≡ can.parts.schedule = search rules in
    let told : g.S.Source.left c.in-Some.schedule ≡ Some can.text = ap g.S.Source.left schedule ∙ can.told in
    c.drill-done.ensures.complete can.text told can.playable
    (λ rose. none.sources (one_rose g.S.Source.faults _ _ c.in-Some.schedule c.drill-done.result.schedule (search rules) (search rules) rose))
    (λ rose. none.sinks (inl rose))
