use Rattle.std.proofs.Common.{rules, ◌≡◌, Some, ⊎_elim, ◌∙◌, refl, sym, ap, inl}
use Rattle.rep_top.proofs.Rising.{first_rose, one_kept, second_rose, file_rose, that_kept, that_rose, two_kept}
use Rattle.rep_top.proofs.Statuses.{ending_isnt_two, stopping_isnt_two}
use Rattle.rep_top.proofs.running.run_over.Goals as goal

pub returns-clause-on_grammar : goal.returns-clause-on_grammar
returns-clause-on_grammar g c two =
    ⊎_elim (λ early. stopping_isnt_two early.stopping (sym early.status_is ∙ two)) (λ served. ending_isnt_two served.told (sym served.status_is ∙ two)) c.run-done.ensures.ran

pub returns-clause-complete : goal.returns-clause-complete
returns-clause-complete g c can none =
    let site : c.in-Some-pop.site ≡ can.parts.site = search rules in
    let lane : c.in-Some.lane ≡ can.parts.lane = search rules in
    let drive : c.in-Some-disk.disk ≡ can.parts.drive = search rules in
    let site_told : g.S.Source.left c.in-Some-pop.site ≡ Some can.site_text = ap g.S.Source.left site ∙ can.site_told in
    let lane_told : g.S.Source.left c.in-Some.lane ≡ Some can.lane_text = ap g.S.Source.left lane ∙ can.lane_told in
    let there : (g.D.Disk.shown c.in-Some-disk.disk).contents ≡ Some can.contents = ap (λ d. (g.D.Disk.shown d).contents) drive ∙ can.there in
    c.run-done.ensures.complete can.site_text can.lane_text can.contents site_told lane_told there can.servable
    (λ rose. none.sources (first_rose g.S.Source.faults _ _ c.in-Some-pop.site c.run-done.result.site c.in-Some.lane c.run-done.result.lane (search rules) (search rules) rose))
    (λ rose. none.sources (second_rose g.S.Source.faults _ _ c.in-Some-pop.site c.run-done.result.site c.in-Some.lane c.run-done.result.lane (search rules) (search rules) rose))
    (λ rose. none.sinks (file_rose g.K.Sink.faults _ _ c.in-Some-pop-2.replies c.run-done.result.replies _ _ (search rules) (search rules) rose))
    (λ rose. none.sinks (inl rose))
    (λ rose. none.disk (that_rose (λ d. (g.D.Disk.shown d).faults) _ _ c.in-Some-disk.disk c.run-done.result.disk (search rules) (search rules) rose))
    (λ rose. none.clock (that_rose g.C.Clock.faults _ _ c.in-Some-clock.clock c.run-done.result.clock (search rules) (search rules) rose))

pub returns-clause-told : goal.returns-clause-told
returns-clause-told g c = record {
  source = λ e. ⊎_elim
      (λ rose. first_rose g.S.Source.faults _ _ c.in-Some-pop.site c.run-done.result.site c.in-Some.lane c.run-done.result.lane (search rules) (search rules) rose)
      (λ rose. second_rose g.S.Source.faults _ _ c.in-Some-pop.site c.run-done.result.site c.in-Some.lane c.run-done.result.lane (search rules) (search rules) rose)
      (c.run-done.ensures.source_fault e);
  sink = λ e. ⊎_elim (λ rose. file_rose g.K.Sink.faults _ _ c.in-Some-pop-2.replies c.run-done.result.replies _ _ (search rules) (search rules) rose) (λ rose. inl rose)
      (c.run-done.ensures.sink_fault e);
  device = λ e. that_rose (λ d. (g.D.Disk.shown d).faults) _ _ c.in-Some-disk.disk c.run-done.result.disk (search rules) (search rules) (c.run-done.ensures.device_fault e);
  clock = λ e. that_rose g.C.Clock.faults _ _ c.in-Some-clock.clock c.run-done.result.clock (search rules) (search rules) (c.run-done.ensures.clock_fault e);
  no_source = λ a b. two_kept g.S.Source.faults c.args.rig.texts.items c.push_reserved-2.new.self.items c.in-Some-pop.site c.run-done.result.site c.in-Some.lane c.run-done.result.lane (search rules) (search rules)
      (c.run-done.ensures.no_source_fault a b).0 (c.run-done.ensures.no_source_fault a b).1;
  no_file = λ a. one_kept g.K.Sink.faults c.args.rig.outs.items c.push_reserved-3.new.self.items c.in-Some-pop-2.replies c.run-done.result.replies (search rules) (search rules) (c.run-done.ensures.no_sink_fault a);
  no_device = λ a b. that_kept (λ d. (g.D.Disk.shown d).faults) c.args.rig.disk (Some c.run-done.result.disk) c.in-Some-disk.disk c.run-done.result.disk (search rules) refl (c.run-done.ensures.no_device_fault a b);
  no_clock = λ a b. that_kept g.C.Clock.faults c.args.rig.clock (Some c.run-done.result.clock) c.in-Some-clock.clock c.run-done.result.clock (search rules) refl (c.run-done.ensures.no_clock_fault a b);
}
