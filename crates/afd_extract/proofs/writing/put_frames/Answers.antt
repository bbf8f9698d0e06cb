use Rattle.std.proofs.Common.{◌∙◌, false, arith}
use Rattle.afd_records.specs.File.{ended}
use Rattle.afd_extract.specs.declared.error.WriteFail.TheVariants.{DeviceFault, SinkFault}
use Rattle.afd_extract.proofs.Fronts.{HasCause-ok, Puts-err, Puts-ok}
use Rattle.afd_extract.proofs.Frames.{HasPut-more, PutsFrames-unput, PutsFrames-unread, found_before}
use Rattle.afd_extract.proofs.Reading.{IsSame-trans}
use Rattle.afd_extract.proofs.writing.put_frames.Goals as goal

pub returns-in_default-clause-puts : goal.returns-in_default-clause-puts
returns-in_default-clause-puts g c =
    PutsFrames-unread c.args.journal.now.frames c.args.begin c.loop-place.place c.args.end _ _ _ c.args.held.now c.loop-place.held c.loop-place.tally
    c.loop-place.invariant.begun c.requires.within c.loop-place.invariant.so_far DeviceFault c.loop-place.held c.loop-place.invariant.not_over

pub returns-then-is_err-clause-puts : goal.returns-then-is_err-clause-puts
returns-then-is_err-clause-puts g c =
    let same = c.loop-place.invariant.same in
    PutsFrames-unput c.args.journal.now.frames c.args.begin c.loop-place.place c.args.end _ _ _ c.args.held.now c.loop-place.held c.loop-place.tally
    c.loop-place.invariant.begun c.requires.within c.loop-place.invariant.so_far SinkFault _ c.put_line.new.held c.in-Ok.frame c.line-bytes.result.now
    (omega arith) (found_before c.args.journal.now.frames c.loop-place.journal.frames _ _ c.loop-place.place c.in-Ok.frame same.frames same.disk.contents c.in-Ok.ensures.frame)
    c.line-bytes.ensures.line
    (Puts-err _ _ c.loop-place.held c.put_line.new.held (ended c.line-bytes.result.now) c.put_line.result (cc) c.put_line.ensures.bytes)

pub loop-place-preserved : goal.loop-place-preserved
loop-place-preserved g c =
    let same = c.loop-place.invariant.same in record {
      begun = omega arith;
      not_over = omega arith;
      same = IsSame-trans g.D.Disk.shown false c.args.journal.now c.loop-place.journal c.frame.new.self same c.in-Ok.ensures.kept;
      so_far =
          HasPut-more c.args.journal.now.frames c.args.begin c.loop-place.place c.args.end _ _ _ c.args.held.now c.loop-place.held c.loop-place.tally
          c.loop-place.invariant.begun c.requires.within c.loop-place.invariant.so_far _ c.put_line.new.held c.add.new.self c.in-Ok.frame
          c.line-bytes.result.now (omega arith)
          (found_before c.args.journal.now.frames c.loop-place.journal.frames _ _ c.loop-place.place c.in-Ok.frame same.frames same.disk.contents c.in-Ok.ensures.frame)
          c.line-bytes.ensures.line
          (Puts-ok _ _ c.loop-place.held c.put_line.new.held (ended c.line-bytes.result.now) c.put_line.result (cc) c.put_line.ensures.bytes)
          c.add.ensures;
      sink = HasCause-ok _ _ c.put_line.result (cc) c.put_line.ensures.cause ∙ c.loop-place.invariant.sink;
    }
