use Rattle.std.proofs.Common.{rules, ◌≡◌, ◌∙◌, Some, ⊎_elim, refl, sym, ap, inl}
use Rattle.rep_top.proofs.Rising.{one_kept, one_rose, file_rose, that_kept, that_rose}
use Rattle.rep_top.proofs.printing.print_over.Goals as goal

pub returns-clause-complete : goal.returns-clause-complete
returns-clause-complete g c can none =
    let source : c.in-Some.source ≡ can.parts.source = search rules in
    let told : g.S.Source.left c.in-Some.source ≡ Some can.text = ap g.S.Source.left source ∙ can.told in
    c.print-done.ensures.complete can.text told can.printable
    (λ rose. none.sources (one_rose g.S.Source.faults _ _ c.in-Some.source c.print-done.result.source (search rules) (search rules) rose))
    (λ rose. none.clock (that_rose g.C.Clock.faults _ _ c.in-Some-clock.clock c.print-done.result.clock (search rules) (search rules) rose))
    (λ rose. none.sinks (file_rose g.K.Sink.faults _ _ c.in-Some-pop.file c.print-done.result.file _ _ (search rules) (search rules) rose))
    (λ rose. none.sinks (inl rose))

pub returns-clause-does : goal.returns-clause-does
returns-clause-does g c = record {
  printed = search rules;
  unopened = λ a b e before after.
      let file : c.in-Some-pop.file ≡ before.file = search rules in
      let file_now : c.print-done.result.file ≡ after.file = search rules in
      sym file_now ∙ (c.print-done.ensures.unopened a b e ∙ file);
  unread = λ refused before after.
      let watch : c.in-Some-clock.clock ≡ before.watch = search rules in
      let watch_now : c.print-done.result.clock ≡ after.watch = search rules in
      sym watch_now ∙ (c.print-done.ensures.unread refused ∙ watch);
}

pub returns-clause-told : goal.returns-clause-told
returns-clause-told g c = record {
  source = λ e. one_rose g.S.Source.faults _ _ c.in-Some.source c.print-done.result.source (search rules) (search rules) (c.print-done.ensures.source_fault e);
  sink = λ e. ⊎_elim (λ rose. file_rose g.K.Sink.faults _ _ c.in-Some-pop.file c.print-done.result.file _ _ (search rules) (search rules) rose) (λ rose. inl rose)
      (c.print-done.ensures.sink_fault e);
  device = λ e. absurd (c.print-done.ensures.statuses.1 e);
  clock = λ e. that_rose g.C.Clock.faults _ _ c.in-Some-clock.clock c.print-done.result.clock (search rules) (search rules) (c.print-done.ensures.clock_fault e);
  no_source = λ a b. one_kept g.S.Source.faults c.args.rig.texts.items c.push_reserved.new.self.items c.in-Some.source c.print-done.result.source (search rules) (search rules) (c.print-done.ensures.no_source_fault a b);
  no_file = λ a. one_kept g.K.Sink.faults c.args.rig.outs.items c.push_reserved-2.new.self.items c.in-Some-pop.file c.print-done.result.file (search rules) (search rules) (c.print-done.ensures.no_file_fault a);
  no_device = λ a b. refl;
  no_clock = λ a b. that_kept g.C.Clock.faults c.args.rig.clock (Some c.print-done.result.clock) c.in-Some-clock.clock c.print-done.result.clock (search rules) refl (c.print-done.ensures.no_clock_fault a b);
}
