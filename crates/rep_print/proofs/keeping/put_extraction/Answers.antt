use Rattle.std.proofs.Common.{List, ℕ, Ok, Err, subst, ◌∙◌}
use Rattle.rep_io.specs.declared.sink.SinkFault.{SinkFault}
use Rattle.afd_extract.specs.Extract.{extract_text, lines_of}
use Rattle.rep_print.specs.FileSteps.{PutsAll, PutsText}
use Rattle.rep_print.specs.Journal.{KeptFrames}
use Rattle.rep_print.proofs.LedLemmas.{line_cut, file_left, all_led, led}
use Rattle.rep_print.proofs.keeping.put_extraction.Goals as goal

pub returns-in_err-put_all-clause-puts : goal.returns-in_err-put_all-clause-puts
returns-in_err-put_all-clause-puts g c =
    let file = extract_text c.args.head.now (lines_of c.args.journal.now.frames) in
    subst (λ (text : List ℕ). PutsAll (g.K.Sink.written c.args.sink.now) (g.K.Sink.written c.put_all.new.sink) text c.from_residual.result)
    (led c.args.line c.args.seq c.args.front c.size-size.result c.bytes.result.now file (c.bytes.ensures.value ∙ c.extract_line.ensures) c.size-size.ensures.size)
    (line_cut (g.K.Sink.written c.args.sink.now) (g.K.Sink.written c.put_all.new.sink) c.bytes.result.now file c.from_residual.result c.from_residual.ensures.0 c.in_err-put_all.ensures.bytes)

pub returns-in_err-write-clause-puts : goal.returns-in_err-write-clause-puts
returns-in_err-write-clause-puts g c =
    let file = extract_text c.args.head.now (lines_of c.args.journal.now.frames) in
    let puts = subst (λ (p : KeptFrames). PutsText (g.K.Sink.written c.put_all.new.sink) (g.K.Sink.written c.write.new.sink) (extract_text c.args.head.now (lines_of p.frames)) (Err c.in_err-write.field-0.0))
    c.size-size.ensures.same c.in_err-write.ensures.bytes in
    subst (λ (text : List ℕ). PutsAll (g.K.Sink.written c.args.sink.now) (g.K.Sink.written c.write.new.sink) text c.from_residual-in_err-write.result)
    (led c.args.line c.args.seq c.args.front c.size-size.result c.bytes.result.now file (c.bytes.ensures.value ∙ c.extract_line.ensures) c.size-size.ensures.size)
    (file_left (g.K.Sink.written c.args.sink.now) (g.K.Sink.written c.put_all.new.sink) (g.K.Sink.written c.write.new.sink) c.bytes.result.now file c.in_err-write.field-0.0
    c.from_residual-in_err-write.result c.from_residual-in_err-write.ensures.0 c.in_ok-put_all.ensures.bytes puts)

pub returns-clause-puts : goal.returns-clause-puts
returns-clause-puts g c =
    let file = extract_text c.args.head.now (lines_of c.args.journal.now.frames) in
    let puts = subst (λ (p : KeptFrames). PutsText {E = SinkFault} (g.K.Sink.written c.put_all.new.sink) (g.K.Sink.written c.write.new.sink) (extract_text c.args.head.now (lines_of p.frames)) (Ok c.in_ok-write.field-0))
    c.size-size.ensures.same c.in_ok-write.ensures.bytes in
    subst (λ (text : List ℕ). PutsAll {T = Unit {0}} {E = SinkFault} (g.K.Sink.written c.args.sink.now) (g.K.Sink.written c.write.new.sink) text (Ok tt))
    (led c.args.line c.args.seq c.args.front c.size-size.result c.bytes.result.now file (c.bytes.ensures.value ∙ c.extract_line.ensures) c.size-size.ensures.size)
    (all_led (g.K.Sink.written c.args.sink.now) (g.K.Sink.written c.put_all.new.sink) (g.K.Sink.written c.write.new.sink) c.bytes.result.now file c.in_ok-write.field-0
    c.in_ok-put_all.ensures.bytes puts)
