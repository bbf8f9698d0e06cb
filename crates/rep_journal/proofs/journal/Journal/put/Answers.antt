use Rattle.std.proofs.Common.{◌≡◌, ◌+◌, ◌-◌, ◌++◌, [], ◌∷◌, ℕ, List, refl, ap, sym, ◌∙◌, subst, arith}
use Rattle.rep_disk.specs.Disk.{IsWithin}
use Rattle.rep_journal.specs.State.{Appends, Becomes, Leaves, State}
use Rattle.rep_journal.specs.Format.{Framed}
use Rattle.rep_journal.specs.Recovery.{OpensGate, Puts}
use Rattle.rep_journal.proofs.PutLemmas.{within_journal}
use Rattle.rep_journal.proofs.BlankLemmas.{of_err, of_ok}
use Rattle.rep_journal.proofs.journal.Journal.put.Goals as goal

pub append-requires-clause-within : goal.append-requires-clause-within
append-requires-clause-within g c =
    subst (λ (n : ℕ). IsWithin (n + 1) (g.D.Disk.shown c.self.inside.disk).contents) (sym c.end.ensures.end)
    (within_journal (g.D.Disk.shown c.self.inside.disk).contents c.self.inside.list.frames c.self.invariant.settled.stands)

pub returns-clause-crash : goal.returns-clause-crash
returns-clause-crash g c =
    subst (λ (s : State g.row.D.Denot). Puts s.frames c.args.frame.now (g.D.Disk.shown s.disk) (g.D.Disk.shown c.append.new.disk)) c.self.view_is
    (c.append.ensures.crash c.self.inside.list.frames c.end.ensures.end c.self.invariant.settled.stands c.self.invariant.settled.rest)

pub returns-clause-put : goal.returns-clause-put
returns-clause-put g c =
    let ok = sym c.is_err.ensures.value ∙ c.if-is_err.false in
    let frames : c.push.new.self.frames ≡ c.self.inside.list.frames ++ c.args.frame.now ∷ [] = c.push.ensures.frames ∙ ap (λ (f : Framed). c.self.inside.list.frames ++ f ∷ []) c.copy.ensures.same in
    let end = c.end.ensures.end in
    let stands = c.self.invariant.settled.stands in
    subst (λ (s : State g.row.D.Denot). Appends g.D.Disk.shown c.args.frame.now s (record { disk = c.append.new.disk; frames = c.push.new.self.frames; spare = c.self.inside.spare - 1; faults = c.self.inside.faults })) c.self.view_is (record {
      frames = frames;
      contents = subst (λ (fs : List Framed). Becomes fs (g.D.Disk.shown c.self.inside.disk).contents (g.D.Disk.shown c.append.new.disk).contents) (sym frames) (of_ok c.append.result _ _ ok (c.append.ensures.contents c.self.inside.list.frames end stands));
      text = subst (λ (fs : List Framed). Leaves fs (g.D.Disk.shown c.self.inside.disk).contents (g.D.Disk.shown c.append.new.disk).contents) (sym frames) (of_ok c.append.result _ _ ok (c.append.ensures.text c.self.inside.list.frames end stands));
      rest = of_ok c.append.result _ _ ok c.append.ensures.rest;
      spare = omega arith;
      faults = refl;
      calls = of_ok c.append.result _ _ ok c.append.ensures.calls;
      own = c.append.ensures.own;
      no_fault = of_ok c.append.result _ _ ok c.append.ensures.cause.kept;
    })

pub returns-clause-at_gate : goal.returns-clause-at_gate
returns-clause-at_gate g c =
    subst (λ (s : State g.row.D.Denot). OpensGate s.frames c.args.frame.now (g.D.Disk.shown s.disk) (g.D.Disk.shown c.append.new.disk) ((g.D.Disk.shown s.disk).moment + 7)) c.self.view_is
    (of_ok c.append.result _ _ (sym c.is_err.ensures.value ∙ c.if-is_err.false)
    (c.append.ensures.at_gate c.self.inside.list.frames c.end.ensures.end c.self.invariant.settled.stands))

pub returns-then-is_err-clause-at_gate : goal.returns-then-is_err-clause-at_gate
returns-then-is_err-clause-at_gate g c =
    subst (λ (s : State g.row.D.Denot). OpensGate s.frames c.args.frame.now (g.D.Disk.shown s.disk) (g.D.Disk.shown c.append.new.disk) (g.D.Disk.shown c.append.new.disk).moment) c.self.view_is
    (of_err c.append.result _ _ (sym c.is_err.ensures.value ∙ c.if-is_err.true)
    (c.append.ensures.at_gate c.self.inside.list.frames c.end.ensures.end c.self.invariant.settled.stands))
