use Rattle.std.proofs.Common.{ap, subst}
use Rattle.rep_core.specs.Verdict.{IsVerdict}
use Rattle.rep_core.specs.declared.verdict.Verdict.TheVariants.{Fresh}
use Rattle.rep_core.proofs.Standing.{Stands-own}
use Rattle.rep_print.specs.Desk.{Asks}
use Rattle.rep_print.proofs.DeskLemmas.{verdict_at, settled}
use Rattle.rep_print.proofs.desk.PrintDeskDesk.call.Goals as goal

pub take-requires-clause-fresh : goal.take-requires-clause-fresh
take-requires-clause-fresh g c =
    let core = c.self.inside.core in
    verdict_at _ _ _ _ c.args.q.now Fresh
    (subst (λ v. IsVerdict core.limit core.entries c.args.q.now v) c.in-Fresh.is (c.decide.ensures.exact core.entries (Stands-own core) (c.kept.ensures.came core.entries (Stands-own core))))
    c.self.invariant.limit (ap (λ s. s.history) c.self.view_is)

pub returns-in-Fresh-clause-no_sink_fault : goal.returns-in-Fresh-clause-no_sink_fault
returns-in-Fresh-clause-no_sink_fault g c same = subst (λ r. Asks g.C.Clock.readings g.C.Clock.faults c.args.self.now c.args.q.now r c.take.new.self) same c.take.ensures

pub returns-in_default-clause-answers : goal.returns-in_default-clause-answers
returns-in_default-clause-answers g c =
    let core = c.self.inside.core in
    settled g.C.Clock.readings g.C.Clock.faults c.args.q.now c.args.self.now core c.decide.result c.reply.result (ap (λ s. s.history) c.self.view_is) c.self.invariant.limit
    (λ h stands. c.decide.ensures.exact h stands (c.kept.ensures.came h stands)) c.in_default.not-Fresh c.reply.ensures
