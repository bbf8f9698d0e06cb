use Rattle.std.proofs.Common.{◌-◌, arith}
use Rattle.rep_query.specs.Receipt.{IsWorkerOf}
use Rattle.rep_run.proofs.Known.{not_both}
use Rattle.rep_query.proofs.Finds.{searched_all, searched_found, searched_none, searched_one}
use Rattle.rep_query.proofs.finding.last_name.Goals as goal

pub loop-number-init : goal.loop-number-init
loop-number-init g c = searched_none (IsWorkerOf c.args.cpf) g.D.Disk.shown c.args.nsr c.args.store.now

pub loop-number-preserved : goal.loop-number-preserved
loop-number-preserved g c =
    searched_one (IsWorkerOf c.args.cpf) g.D.Disk.shown c.loop-number.number (c.loop-number.number - 1) c.args.nsr c.args.store.now c.loop-number.store c.filed_at.new.store c.in-Ok.filed.entry c.loop-number.invariant (omega arith)
    c.filed_at.ensures.looks (c.filed_at.ensures.no_fault (not_both c.in-Ok.is)) c.in-Ok.ensures.filed.numbered (c.name_of.ensures.other c.in_default-name_of.is)

pub returns-in-Some-clause-found : goal.returns-in-Some-clause-found
returns-in-Some-clause-found g c = (
  c.in-Ok.filed.entry,
  searched_found (IsWorkerOf c.args.cpf) g.D.Disk.shown c.loop-number.number (c.loop-number.number - 1) c.args.nsr c.args.store.now c.loop-number.store c.in-Ok.filed.entry c.loop-number.invariant (omega arith) (omega arith)
      c.in-Ok.ensures.filed.numbered c.in-Some.ensures.found.0,
  c.in-Some.ensures.found.1,
)

pub returns-clause-lacks : goal.returns-clause-lacks
returns-clause-lacks g c =
    searched_all (IsWorkerOf c.args.cpf) g.D.Disk.shown c.loop-number.number c.args.nsr (g.D.Disk.shown c.args.store.now.disk).faults (g.D.Disk.shown c.loop-number.store.disk).faults c.args.store.now c.loop-number.store c.loop-number.invariant (omega arith)

pub returns-clause-no_fault : goal.returns-clause-no_fault
returns-clause-no_fault g c = λ other. c.loop-number.invariant.no_fault
