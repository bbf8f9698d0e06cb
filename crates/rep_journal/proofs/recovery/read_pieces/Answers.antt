use Rattle.std.proofs.Common.{List, Ok, refl, ap, sym, ◌∙◌, subst, arith}
use Rattle.std.specs.Prelude.{IfSome}
use Rattle.rep_journal.specs.Format.{Framed}
use Rattle.rep_journal.specs.Scan.{IsScanned, IsScannedTo}
use Rattle.rep_journal.specs.declared.stop.Stop.{Stop}
use Rattle.rep_journal.proofs.ReadLemmas.{hides_none, read_same, read_on, starts, goes_on, ends_broken, ends_kept}
use Rattle.rep_journal.proofs.recovery.read_pieces.Goals as goal

pub loop-why-init : goal.loop-why-init
loop-why-init g c = record {
  read = read_same (g.D.Disk.shown c.args.disk.now);
  no_fault = refl;
  scanned = subst (λ (frames : List Framed). IfSome (g.D.Disk.shown c.args.disk.now).contents (λ b. IsScanned b frames)) (sym c.requires.none) (starts (g.D.Disk.shown c.args.disk.now).contents c.requires.open_first);
}

pub returns-in-Err-clause-kept : goal.returns-in-Err-clause-kept
returns-in-Err-clause-kept g c = read_on (g.D.Disk.shown c.args.disk.now) (g.D.Disk.shown c.loop-why.disk) (g.D.Disk.shown c.read_piece.new.disk) c.loop-why.invariant.read c.read_piece.ensures.kept

pub returns-in-Err-clause-cause : goal.returns-in-Err-clause-cause
returns-in-Err-clause-cause g c = λ is.
    let rose = c.in-Err.ensures.cause is in
    let few = c.loop-why.invariant.read.faults in
    omega arith

pub returns-in-Err-clause-no_fault : goal.returns-in-Err-clause-no_fault
returns-in-Err-clause-no_fault g c = λ other. c.in-Err.ensures.no_fault other ∙ c.loop-why.invariant.no_fault

pub returns-in-Ok-Closed-clause-no_fault : goal.returns-in-Ok-Closed-clause-no_fault
returns-in-Ok-Closed-clause-no_fault g c =
    hides_none (g.D.Disk.shown c.args.disk.now) (g.D.Disk.shown c.read_piece.new.disk) c.kept.result (c.in-Ok-Closed.ensures.no_fault ∙ c.loop-why.invariant.no_fault)

pub returns-in-Ok-Broken-clause-no_fault : goal.returns-in-Ok-Broken-clause-no_fault
returns-in-Ok-Broken-clause-no_fault g c = λ other. c.in-Ok-Broken.ensures.no_fault ∙ c.loop-why.invariant.no_fault

pub returns-in-Ok-Closed-clause-finds : goal.returns-in-Ok-Closed-clause-finds
returns-in-Ok-Closed-clause-finds g c =
    let told = goes_on (g.D.Disk.shown c.args.disk.now).contents (g.D.Disk.shown c.loop-why.disk).contents c.loop-why.list.frames c.read_piece.new.list.frames c.in-Ok-Closed.field-0 c.loop-why.invariant.read.contents c.loop-why.invariant.scanned c.in-Ok-Closed.ensures.scans in
    ends_kept (g.D.Disk.shown c.args.disk.now).contents c.read_piece.new.list c.kept.result
    (subst (λ (stop : Stop). IfSome (g.D.Disk.shown c.args.disk.now).contents (λ b. IsScannedTo b c.read_piece.new.list.frames stop)) c.in-Ok-Closed.field-0-is told)
    c.kept.ensures.kept c.kept.ensures.some c.kept.ensures.none

pub returns-in-Ok-Closed-clause-kept : goal.returns-in-Ok-Closed-clause-kept
returns-in-Ok-Closed-clause-kept g c = read_on (g.D.Disk.shown c.args.disk.now) (g.D.Disk.shown c.loop-why.disk) (g.D.Disk.shown c.read_piece.new.disk) c.loop-why.invariant.read c.read_piece.ensures.kept

pub returns-in-Ok-Broken-clause-finds : goal.returns-in-Ok-Broken-clause-finds
returns-in-Ok-Broken-clause-finds g c =
    let told = goes_on (g.D.Disk.shown c.args.disk.now).contents (g.D.Disk.shown c.loop-why.disk).contents c.loop-why.list.frames c.read_piece.new.list.frames c.in-Ok-Broken.field-0 c.loop-why.invariant.read.contents c.loop-why.invariant.scanned c.in-Ok-Broken.ensures.scans in
    ends_broken (g.D.Disk.shown c.args.disk.now).contents c.read_piece.new.list.frames c.end.result c.requires.open_first c.end.ensures.end
    (subst (λ (stop : Stop). IfSome (g.D.Disk.shown c.args.disk.now).contents (λ b. IsScannedTo b c.read_piece.new.list.frames stop)) c.in-Ok-Broken.field-0-is told)

pub returns-in-Ok-Broken-clause-kept : goal.returns-in-Ok-Broken-clause-kept
returns-in-Ok-Broken-clause-kept g c = read_on (g.D.Disk.shown c.args.disk.now) (g.D.Disk.shown c.loop-why.disk) (g.D.Disk.shown c.read_piece.new.disk) c.loop-why.invariant.read c.read_piece.ensures.kept

pub loop-why-smaller : goal.loop-why-smaller
loop-why-smaller g c =
    let more = c.read_piece.ensures.more (c.in-Ok-Cut.is ∙ ap (λ (stop : Stop). Ok stop) c.in-Ok-Cut.field-0-is) in
    let limit = c.read_piece.ensures.limit in
    omega arith

pub loop-why-preserved : goal.loop-why-preserved
loop-why-preserved g c =
    let told = goes_on (g.D.Disk.shown c.args.disk.now).contents (g.D.Disk.shown c.loop-why.disk).contents c.loop-why.list.frames c.read_piece.new.list.frames c.in-Ok-Cut.field-0 c.loop-why.invariant.read.contents c.loop-why.invariant.scanned c.in-Ok-Cut.ensures.scans in
    record {
      read = read_on (g.D.Disk.shown c.args.disk.now) (g.D.Disk.shown c.loop-why.disk) (g.D.Disk.shown c.read_piece.new.disk) c.loop-why.invariant.read c.read_piece.ensures.kept;
      no_fault = c.in-Ok-Cut.ensures.no_fault ∙ c.loop-why.invariant.no_fault;
      scanned = subst (λ (stop : Stop). IfSome (g.D.Disk.shown c.args.disk.now).contents (λ b. IsScannedTo b c.read_piece.new.list.frames stop)) c.in-Ok-Cut.field-0-is told;
    }
