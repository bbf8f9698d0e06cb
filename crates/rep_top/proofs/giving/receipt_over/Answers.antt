use Rattle.std.proofs.Common.{rules, ◌≡◌, Some, ⊎_elim, ◌∙◌, refl, sym, ap, inl}
use Rattle.rep_top.proofs.Rising.{one_kept, one_rose, that_kept, that_rose}
use Rattle.rep_top.proofs.Statuses.{ending_isnt_two, none_isnt_two, stopping_isnt_two}
use Rattle.rep_top.proofs.giving.receipt_over.Goals as goal

pub returns-clause-on_grammar : goal.returns-clause-on_grammar
returns-clause-on_grammar g c two =
    ⊎_elim (λ early. stopping_isnt_two early.stopping (sym early.status_is ∙ two))
    (λ opened. ⊎_elim (λ gives. ending_isnt_two gives.says.told (sym gives.says.status_is ∙ two)) (λ none. none_isnt_two none.why (sym none.says.status_is ∙ two)) opened)
    c.receipt-done.ensures.answered

pub returns-clause-complete : goal.returns-clause-complete
returns-clause-complete g c can none =
    let site : c.in-Some.site ≡ can.parts.site = search rules in
    let drive : c.in-Some-disk.disk ≡ can.parts.drive = search rules in
    let told : g.S.Source.left c.in-Some.site ≡ Some can.text = ap g.S.Source.left site ∙ can.told in
    let there : (g.D.Disk.shown c.in-Some-disk.disk).contents ≡ Some can.contents = ap (λ d. (g.D.Disk.shown d).contents) drive ∙ can.there in
    c.receipt-done.ensures.complete can.text can.contents can.site can.history can.entry told can.said there can.keeps can.numbered can.clocking
    (λ rose. none.sources (one_rose g.S.Source.faults _ _ c.in-Some.site c.receipt-done.result.site (search rules) (search rules) rose))
    (λ rose. none.sinks (inl rose))
    (λ rose. none.disk (that_rose (λ d. (g.D.Disk.shown d).faults) _ _ c.in-Some-disk.disk c.receipt-done.result.disk (search rules) (search rules) rose))

pub returns-clause-told : goal.returns-clause-told
returns-clause-told g c = record {
  source = λ e. one_rose g.S.Source.faults _ _ c.in-Some.site c.receipt-done.result.site (search rules) (search rules) (c.receipt-done.ensures.source_fault e);
  sink = λ e. inl (c.receipt-done.ensures.sink_fault e);
  device = λ e. that_rose (λ d. (g.D.Disk.shown d).faults) _ _ c.in-Some-disk.disk c.receipt-done.result.disk (search rules) (search rules) (c.receipt-done.ensures.device_fault e);
  clock = λ e. absurd (c.receipt-done.ensures.no_clock e);
  no_source = λ a b. one_kept g.S.Source.faults c.args.rig.texts.items c.push_reserved.new.self.items c.in-Some.site c.receipt-done.result.site (search rules) (search rules) (c.receipt-done.ensures.no_source_fault a);
  no_file = λ a. refl;
  no_device = λ a b. that_kept (λ d. (g.D.Disk.shown d).faults) c.args.rig.disk (Some c.receipt-done.result.disk) c.in-Some-disk.disk c.receipt-done.result.disk (search rules) refl (c.receipt-done.ensures.no_device_fault a);
  no_clock = λ a b. refl;
}
