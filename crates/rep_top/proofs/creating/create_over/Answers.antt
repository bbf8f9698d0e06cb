use Rattle.std.proofs.Common.{rules, ◌≡◌, Some, ◌∙◌, refl, sym, ap, inl}
use Rattle.std.specs.Prelude.{IfSome}
use Rattle.rep_disk.specs.Disk.{IsAtRest}
use Rattle.rep_journal.specs.Format.{IsBlank}
use Rattle.rep_run.specs.Creating.{CrashesSafely, Created}
use Rattle.rep_top.proofs.Moved.{moved_three}
use Rattle.rep_top.proofs.Rising.{one_kept, one_rose, that_kept, that_rose}
use Rattle.rep_top.proofs.Statuses.{stopping_isnt_two}
use Rattle.rep_top.proofs.creating.create_over.Goals as goal

pub returns-clause-on_grammar : goal.returns-clause-on_grammar
returns-clause-on_grammar g c two =
    let created = c.create-done.ensures.created in
    stopping_isnt_two created.stopping (sym created.status_is ∙ two)

pub returns-clause-does : goal.returns-clause-does
returns-clause-does g c = record {
  created = λ before after.
      let site : c.in-Some.site ≡ before.site = search rules in
      let drive : c.in-Some-disk.disk ≡ before.drive = search rules in
      let watch : c.in-Some-clock.clock ≡ before.watch = search rules in
      let site_now : c.create-done.result.source ≡ after.site = search rules in
      let drive_now : c.create-done.result.disk ≡ after.drive = search rules in
      let watch_now : c.create-done.result.clock ≡ after.watch = search rules in
      moved_three (λ s d k. Created (record { left = g.S.Source.left; source_faults = g.S.Source.faults; shown = g.D.Disk.shown; readings = g.C.Clock.readings; clock_faults = g.C.Clock.faults }) (record { source = s; disk = d; clock = k }) (record { source = after.site; disk = after.drive; clock = after.watch }) (g.K.Sink.written c.args.rig.out) (g.K.Sink.written c.create-done.result.out) (g.K.Sink.faults c.args.rig.out) (g.K.Sink.faults c.create-done.result.out) c.create-done.result.status) site drive watch
      (moved_three (λ s d k. Created (record { left = g.S.Source.left; source_faults = g.S.Source.faults; shown = g.D.Disk.shown; readings = g.C.Clock.readings; clock_faults = g.C.Clock.faults }) (record { source = c.in-Some.site; disk = c.in-Some-disk.disk; clock = c.in-Some-clock.clock }) (record { source = s; disk = d; clock = k }) (g.K.Sink.written c.args.rig.out) (g.K.Sink.written c.create-done.result.out) (g.K.Sink.faults c.args.rig.out) (g.K.Sink.faults c.create-done.result.out) c.create-done.result.status) site_now drive_now watch_now
      c.create-done.ensures.created);
  safe = λ before after.
      let site : c.in-Some.site ≡ before.site = search rules in
      let drive : c.in-Some-disk.disk ≡ before.drive = search rules in
      let watch : c.in-Some-clock.clock ≡ before.watch = search rules in
      let site_now : c.create-done.result.source ≡ after.site = search rules in
      let drive_now : c.create-done.result.disk ≡ after.drive = search rules in
      let watch_now : c.create-done.result.clock ≡ after.watch = search rules in
      moved_three (λ s d k. IsAtRest (g.D.Disk.shown d) → IfSome (g.D.Disk.shown d).contents IsBlank
      → CrashesSafely (record { left = g.S.Source.left; source_faults = g.S.Source.faults; shown = g.D.Disk.shown; readings = g.C.Clock.readings; clock_faults = g.C.Clock.faults }) (record { source = s; disk = d; clock = k }) (record { source = after.site; disk = after.drive; clock = after.watch })) site drive watch
      (moved_three (λ s d k. IsAtRest (g.D.Disk.shown c.in-Some-disk.disk) → IfSome (g.D.Disk.shown c.in-Some-disk.disk).contents IsBlank
      → CrashesSafely (record { left = g.S.Source.left; source_faults = g.S.Source.faults; shown = g.D.Disk.shown; readings = g.C.Clock.readings; clock_faults = g.C.Clock.faults }) (record { source = c.in-Some.site; disk = c.in-Some-disk.disk; clock = c.in-Some-clock.clock }) (record { source = s; disk = d; clock = k })) site_now drive_now watch_now
      c.create-done.ensures.safe);
}

pub returns-clause-complete : goal.returns-clause-complete
returns-clause-complete g c can none =
    let own : c.in-Some.site ≡ can.parts.site = search rules in
    let drive : c.in-Some-disk.disk ≡ can.parts.drive = search rules in
    let told : g.S.Source.left c.in-Some.site ≡ Some can.text = ap g.S.Source.left own ∙ can.told in
    let there : (g.D.Disk.shown c.in-Some-disk.disk).contents ≡ Some can.contents = ap (λ d. (g.D.Disk.shown d).contents) drive ∙ can.there in
    c.create-done.ensures.complete can.text can.contents can.site told can.said there can.blank
    (λ rose. none.sources (one_rose g.S.Source.faults _ _ c.in-Some.site c.create-done.result.source (search rules) (search rules) rose))
    (λ rose. none.clock (that_rose g.C.Clock.faults _ _ c.in-Some-clock.clock c.create-done.result.clock (search rules) (search rules) rose))
    (λ rose. none.sinks (inl rose))
    (λ rose. none.disk (that_rose (λ d. (g.D.Disk.shown d).faults) _ _ c.in-Some-disk.disk c.create-done.result.disk (search rules) (search rules) rose))

pub returns-clause-told : goal.returns-clause-told
returns-clause-told g c = record {
  source = λ e. one_rose g.S.Source.faults _ _ c.in-Some.site c.create-done.result.source (search rules) (search rules) (c.create-done.ensures.source_fault e);
  sink = λ e. inl (c.create-done.ensures.sink_fault e);
  device = λ e. that_rose (λ d. (g.D.Disk.shown d).faults) _ _ c.in-Some-disk.disk c.create-done.result.disk (search rules) (search rules) (c.create-done.ensures.device_fault e);
  clock = λ e. that_rose g.C.Clock.faults _ _ c.in-Some-clock.clock c.create-done.result.clock (search rules) (search rules) (c.create-done.ensures.clock_fault e);
  no_source = λ a b. one_kept g.S.Source.faults c.args.rig.texts.items c.push_reserved.new.self.items c.in-Some.site c.create-done.result.source (search rules) (search rules) (c.create-done.ensures.no_source_fault a);
  no_file = λ a. refl;
  no_device = λ a b. that_kept (λ d. (g.D.Disk.shown d).faults) c.args.rig.disk (Some c.create-done.result.disk) c.in-Some-disk.disk c.create-done.result.disk (search rules) refl (c.create-done.ensures.no_device_fault a);
  no_clock = λ a b. that_kept g.C.Clock.faults c.args.rig.clock (Some c.create-done.result.clock) c.in-Some-clock.clock c.create-done.result.clock (search rules) refl (c.create-done.ensures.no_clock_fault a);
}
