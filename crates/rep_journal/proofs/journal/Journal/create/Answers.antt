use Rattle.std.proofs.Common.{◌≡◌, ◌∙◌, ◌++◌, [], ◌∷◌, List, ap, subst, sym, refl}
use Rattle.rep_journal.specs.Format.{Framed}
use Rattle.rep_journal.specs.State.{Begins, FailsToBegin}
use Rattle.rep_journal.proofs.BlankLemmas.{made_calls, calls_later, due_is, due_by_length, of_ok, of_err}
use Rattle.rep_journal.specs.Recovery.{Creates}
use Rattle.rep_journal.specs.Putting.{calls_due}
use Rattle.rep_journal.specs.declared.error.WhyNot.TheVariants.{DeviceFault}
use Rattle.rep_journal.proofs.journal.Journal.create.Goals as goal

pub returns-clause-created : goal.returns-clause-created
returns-clause-created g c =
    let ok = sym c.is_err.ensures.value ∙ c.if-is_err.false in
    let frames : c.push.new.self.frames ≡ c.args.first.now ∷ [] =
    c.push.ensures.frames ∙ ap (λ (l : List Framed). l ++ c.copy.result ∷ []) c.vacant.invariant.no_frames ∙ ap (λ (f : Framed). f ∷ []) c.copy.ensures.same in
    subst (λ (d : g.row.D.Denot). Begins g.D.Disk.shown c.args.first.now d (record { disk = c.begin.new.disk; frames = c.push.new.self.frames; spare = 0; faults = 0 })) c.vacant.view_is (record {
      frames = frames;
      contents = of_ok c.begin.result _ _ ok c.begin.ensures.contents;
      text = of_ok c.begin.result _ _ ok c.begin.ensures.text;
      rest = of_ok c.begin.result _ _ ok c.begin.ensures.rest;
      faults = refl;
      later = calls_later (calls_due c.vacant.inside.is_short) (g.D.Disk.shown c.vacant.inside.disk) (g.D.Disk.shown c.begin.new.disk) (of_ok c.begin.result _ _ ok c.begin.ensures.calls);
      calls = made_calls c.vacant.inside.is_short (g.D.Disk.shown c.vacant.inside.disk) (g.D.Disk.shown c.begin.new.disk) c.vacant.invariant.blank (of_ok c.begin.result _ _ ok c.begin.ensures.calls);
      own = c.begin.ensures.own;
      no_fault = of_ok c.begin.result _ _ ok c.begin.ensures.cause.kept;
    })

pub returns-then-is_err-clause-device_fault : goal.returns-then-is_err-clause-device_fault
returns-then-is_err-clause-device_fault g c =
    let failed = sym c.is_err.ensures.value ∙ c.if-is_err.true in
    subst (λ (d : g.row.D.Denot). (DeviceFault ≡ DeviceFault) × FailsToBegin c.args.first.now (g.D.Disk.shown d) (g.D.Disk.shown c.begin.new.disk)) c.vacant.view_is (
      refl,
      record {
        cause = of_err c.begin.result _ _ failed c.begin.ensures.cause.failed;
        due = calls_due c.vacant.inside.is_short;
        all = due_is c.vacant.inside.is_short;
        by_length = due_by_length c.vacant.inside.is_short (g.D.Disk.shown c.vacant.inside.disk) c.vacant.invariant.blank;
        fails = of_err c.begin.result _ _ failed c.begin.ensures.fails;
        own = c.begin.ensures.own;
      },
    )

pub returns-clause-crash : goal.returns-clause-crash
returns-clause-crash g c = subst (λ (d : g.row.D.Denot). Creates c.args.first.now (g.D.Disk.shown d) (g.D.Disk.shown c.begin.new.disk)) c.vacant.view_is c.begin.ensures.crash

pub returns-then-is_err-clause-crash : goal.returns-then-is_err-clause-crash
returns-then-is_err-clause-crash g c = subst (λ (d : g.row.D.Denot). Creates c.args.first.now (g.D.Disk.shown d) (g.D.Disk.shown c.begin.new.disk)) c.vacant.view_is c.begin.ensures.crash
