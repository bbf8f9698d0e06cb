use Rattle.std.proofs.Common.{◌≡◌, ◌∙◌, None, inr, refl, sym, subst}
use Rattle.rep_core.specs.Answered.{IsReply}
use Rattle.rep_core.specs.Verdict.{IsVerdict}
use Rattle.rep_core.specs.declared.verdict.Verdict.{Verdict}
use Rattle.rep_core.specs.declared.verdict.Verdict.TheVariants.{Fresh}
use Rattle.rep_core.proofs.Standing.{Stands-own}
use Rattle.rep_core.proofs.Verdicts.{IsVerdict-unique}
use Rattle.rep_ledger.specs.Safety.{IsSafe, receipted_at}
use Rattle.rep_ledger.proofs.DiskSteps.{IsRead-refl}
use Rattle.rep_store.specs.Fields.{state_of}
use Rattle.rep_store.specs.State.{State}
use Rattle.rep_store.specs.Steps.{Serves}
use Rattle.rep_store.proofs.Parts.{settled_of}
use Rattle.rep_store.proofs.Requests.{IsSafe-read, receipts_within}
use Rattle.rep_store.proofs.Submits.{clock_fault_by, memory_by, served_by}
use Rattle.rep_store.proofs.store.Store.submit.Goals as goal

pub record-requires-clause-fresh : goal.record-requires-clause-fresh
record-requires-clause-fresh g c =
    let verdict = subst (λ (v : Verdict). IsVerdict c.self.inside.core.limit c.self.inside.core.entries c.args.q.now v) c.in-Fresh.is (c.decide.ensures.exact c.self.inside.core.entries (Stands-own c.self.inside.core) (c.kept.ensures.came c.self.inside.core.entries (Stands-own c.self.inside.core))) in
    let fresh = subst (λ (s : State g.row.D.Denot g.row.C.Denot). IsVerdict s.limit s.history c.args.q.now Fresh) c.self.view_is verdict in
    fresh

pub returns-in-Fresh-clause-served : goal.returns-in-Fresh-clause-served
returns-in-Fresh-clause-served g c =
    let runs = sym c.stopped.ensures ∙ c.in_default.is in
    let running = subst (λ (s : State g.row.D.Denot g.row.C.Denot). s.stopped ≡ None) c.self.view_is runs in
    let verdict = subst (λ (v : Verdict). IsVerdict c.self.inside.core.limit c.self.inside.core.entries c.args.q.now v) c.in-Fresh.is (c.decide.ensures.exact c.self.inside.core.entries (Stands-own c.self.inside.core) (c.kept.ensures.came c.self.inside.core.entries (Stands-own c.self.inside.core))) in
    let fresh = subst (λ (s : State g.row.D.Denot g.row.C.Denot). IsVerdict s.limit s.history c.args.q.now Fresh) c.self.view_is verdict in
    served_by g.D.Disk.shown g.C.Clock.readings g.C.Clock.faults c.args.q.now c.args.self.now c.record.new.self running fresh c.record.result c.record.ensures.step

pub returns-in-Fresh-clause-clock_fault : goal.returns-in-Fresh-clause-clock_fault
returns-in-Fresh-clause-clock_fault g c =
    let runs = sym c.stopped.ensures ∙ c.in_default.is in
    let running = subst (λ (s : State g.row.D.Denot g.row.C.Denot). s.stopped ≡ None) c.self.view_is runs in
    let verdict = subst (λ (v : Verdict). IsVerdict c.self.inside.core.limit c.self.inside.core.entries c.args.q.now v) c.in-Fresh.is (c.decide.ensures.exact c.self.inside.core.entries (Stands-own c.self.inside.core) (c.kept.ensures.came c.self.inside.core.entries (Stands-own c.self.inside.core))) in
    let fresh = subst (λ (s : State g.row.D.Denot g.row.C.Denot). IsVerdict s.limit s.history c.args.q.now Fresh) c.self.view_is verdict in
    clock_fault_by g.D.Disk.shown g.C.Clock.readings g.C.Clock.faults c.args.q.now c.args.self.now c.record.new.self running fresh c.record.result c.record.ensures.step

pub returns-in-Fresh-clause-memory : goal.returns-in-Fresh-clause-memory
returns-in-Fresh-clause-memory g c =
    let runs = sym c.stopped.ensures ∙ c.in_default.is in
    let running = subst (λ (s : State g.row.D.Denot g.row.C.Denot). s.stopped ≡ None) c.self.view_is runs in
    let verdict = subst (λ (v : Verdict). IsVerdict c.self.inside.core.limit c.self.inside.core.entries c.args.q.now v) c.in-Fresh.is (c.decide.ensures.exact c.self.inside.core.entries (Stands-own c.self.inside.core) (c.kept.ensures.came c.self.inside.core.entries (Stands-own c.self.inside.core))) in
    let fresh = subst (λ (s : State g.row.D.Denot g.row.C.Denot). IsVerdict s.limit s.history c.args.q.now Fresh) c.self.view_is verdict in
    memory_by g.D.Disk.shown g.C.Clock.readings g.C.Clock.faults c.args.q.now c.args.self.now c.record.new.self running fresh c.record.result c.record.ensures.step

pub returns-in_default-decide : goal.returns-in_default-decide
returns-in_default-decide g c =
    let runs = sym c.stopped.ensures ∙ c.in_default.is in
    let running = subst (λ (s : State g.row.D.Denot g.row.C.Denot). s.stopped ≡ None) c.self.view_is runs in
    let verdict = c.decide.ensures.exact c.self.inside.core.entries (Stands-own c.self.inside.core) (c.kept.ensures.came c.self.inside.core.entries (Stands-own c.self.inside.core)) in
    let answered : IsReply c.self.inside.core.limit c.self.inside.core.entries c.args.q.now c.reply.result = c.reply.ensures c.self.inside.core.entries (Stands-own c.self.inside.core) in
    record {
      served =
          subst (λ (s : State g.row.D.Denot g.row.C.Denot). Serves g.D.Disk.shown g.C.Clock.readings g.C.Clock.faults c.args.q.now c.reply.result s (state_of c.self.inside.core c.self.inside.device c.self.inside.clock c.self.inside.site None)) c.self.view_is
          (record {
            running = runs;
            served = inr (
              λ fresh. c.in_default-decide.not-Fresh (IsVerdict-unique c.self.inside.core.limit c.self.inside.core.entries c.args.q.now c.decide.result Fresh verdict fresh),
              record {
                kept = record { site = refl; history = refl; limit = refl; offset = refl; faults = refl; stopped = refl; disk = IsRead-refl (g.D.Disk.shown c.self.inside.device.disk) };
                no_fault = refl;
                clock = refl;
                reading = refl;
              },
            );
            answered = answered;
          });
      stopped = λ count. (λ is. absurd cc, λ is. absurd cc);
      device_fault = λ is. absurd cc;
      clock_fault = λ is. absurd cc;
      memory = λ is. absurd cc;
      left = λ count is. absurd cc;
      safe = λ still.
          subst (λ (s : State g.row.D.Denot g.row.C.Denot). IsSafe (g.D.Disk.shown s.disk).moment s.history s.history (receipted_at (g.D.Disk.shown c.self.inside.device.disk).moment c.reply.result.answer) (g.D.Disk.shown s.disk) (g.D.Disk.shown c.self.inside.device.disk)) c.self.view_is
          (IsSafe-read c.self.inside.core.entries (receipted_at (g.D.Disk.shown c.self.inside.device.disk).moment c.reply.result.answer) (g.D.Disk.shown c.self.inside.device.disk) (g.D.Disk.shown c.self.inside.device.disk)
          (settled_of g.D.Disk.shown c.self.inside.core c.self.inside.device c.self.inside.site c.self.invariant.0 runs) (IsRead-refl (g.D.Disk.shown c.self.inside.device.disk))
          (receipts_within c.self.inside.core.limit c.self.inside.core.entries c.args.q.now c.reply.result (g.D.Disk.shown c.self.inside.device.disk).moment answered));
    }
