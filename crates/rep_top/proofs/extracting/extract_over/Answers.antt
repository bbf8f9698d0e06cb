use Rattle.std.proofs.Common.{rules, ◌≡◌, Some, ⊎_elim, ◌∙◌, refl, sym, ap, inl}
use Rattle.rep_top.proofs.Rising.{one_kept, one_rose, file_rose, that_kept, that_rose}
use Rattle.rep_top.proofs.Statuses.{ending_isnt_two, stopping_isnt_two}
use Rattle.rep_top.proofs.extracting.extract_over.Goals as goal

pub returns-clause-on_grammar : goal.returns-clause-on_grammar
returns-clause-on_grammar g c two =
    ⊎_elim (λ early. stopping_isnt_two early.stopping (sym early.status_is ∙ two)) (λ written. ending_isnt_two written.told (sym written.status_is ∙ two)) c.extract-done.ensures.extracted

pub returns-clause-complete : goal.returns-clause-complete
returns-clause-complete g c can none =
    let site : c.in-Some.site ≡ can.parts.site = search rules in
    let drive : c.in-Some-disk.disk ≡ can.parts.drive = search rules in
    let told : g.S.Source.left c.in-Some.site ≡ Some can.text = ap g.S.Source.left site ∙ can.told in
    let there : (g.D.Disk.shown c.in-Some-disk.disk).contents ≡ Some can.contents = ap (λ d. (g.D.Disk.shown d).contents) drive ∙ can.there in
    c.extract-done.ensures.complete can.text can.contents can.site can.history told can.said there can.keeps
    (λ rose. none.sources (one_rose g.S.Source.faults _ _ c.in-Some.site c.extract-done.result.site (search rules) (search rules) rose))
    (λ rose. none.clock (that_rose g.C.Clock.faults _ _ c.in-Some-clock.clock c.extract-done.result.clock (search rules) (search rules) rose))
    (λ rose. none.sinks (file_rose g.K.Sink.faults _ _ c.in-Some-pop.file c.extract-done.result.file _ _ (search rules) (search rules) rose))
    (λ rose. none.sinks (inl rose))
    (λ rose. none.disk (that_rose (λ d. (g.D.Disk.shown d).faults) _ _ c.in-Some-disk.disk c.extract-done.result.disk (search rules) (search rules) rose))

pub returns-clause-told : goal.returns-clause-told
returns-clause-told g c = record {
  source = λ e. one_rose g.S.Source.faults _ _ c.in-Some.site c.extract-done.result.site (search rules) (search rules) (c.extract-done.ensures.source_fault e);
  sink = λ e. ⊎_elim (λ rose. file_rose g.K.Sink.faults _ _ c.in-Some-pop.file c.extract-done.result.file _ _ (search rules) (search rules) rose) (λ rose. inl rose)
      (c.extract-done.ensures.sink_fault e);
  device = λ e. that_rose (λ d. (g.D.Disk.shown d).faults) _ _ c.in-Some-disk.disk c.extract-done.result.disk (search rules) (search rules) (c.extract-done.ensures.device_fault e);
  clock = λ e. that_rose g.C.Clock.faults _ _ c.in-Some-clock.clock c.extract-done.result.clock (search rules) (search rules) (c.extract-done.ensures.clock_fault e);
  no_source = λ a b. one_kept g.S.Source.faults c.args.rig.texts.items c.push_reserved.new.self.items c.in-Some.site c.extract-done.result.site (search rules) (search rules) (c.extract-done.ensures.no_source_fault a b);
  no_file = λ a. one_kept g.K.Sink.faults c.args.rig.outs.items c.push_reserved-2.new.self.items c.in-Some-pop.file c.extract-done.result.file (search rules) (search rules) (c.extract-done.ensures.no_sink_fault a);
  no_device = λ a b. that_kept (λ d. (g.D.Disk.shown d).faults) c.args.rig.disk (Some c.extract-done.result.disk) c.in-Some-disk.disk c.extract-done.result.disk (search rules) refl (c.extract-done.ensures.no_device_fault a b);
  no_clock = λ a b. that_kept g.C.Clock.faults c.args.rig.clock (Some c.extract-done.result.clock) c.in-Some-clock.clock c.extract-done.result.clock (search rules) refl (c.extract-done.ensures.no_clock_fault a b);
}
