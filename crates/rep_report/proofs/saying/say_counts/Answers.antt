use Rattle.std.proofs.Common.{sym, ap, ◌∙◌}
use Rattle.std.specs.Io.KnownBytes.{append_known}
use Rattle.std.proofs.lemmas.Bool.{false≢true}
use Rattle.rep_report.proofs.SayingLemmas.{puts_whole, puts_cut, counts_whole, counts_cut, counts_kept}
use Rattle.rep_report.proofs.saying.say_counts.Goals as goal

pub returns-in-Ok-clause-says : goal.returns-in-Ok-clause-says
returns-in-Ok-clause-says g c =
    counts_whole c.args.ending c.args.counts.now c.bytes.result.now _ _ _ c.bytes.ensures.value c.in-Ok.ensures.bytes

pub returns-then-yields_to_output-clause-says : goal.returns-then-yields_to_output-clause-says
returns-then-yields_to_output-clause-says g c =
    let b = c.in-Err.ensures.bytes in
    counts_cut c.args.ending c.args.counts.now c.bytes.result.now b.0 _ _ _ c.bytes.ensures.value b.1 b.2 c.in-Err.ensures.cause.failed
    (c.yields_to_output.ensures.0 c.if-yields_to_output.true)

pub returns-else-yields_to_output-clause-says : goal.returns-else-yields_to_output-clause-says
returns-else-yields_to_output-clause-says g c =
    let b = c.in-Err.ensures.bytes in
    counts_kept c.args.ending c.args.counts.now c.bytes.result.now b.0 _ _ _ c.bytes.ensures.value b.2 c.in-Err.ensures.cause.failed
    (λ yields. false≢true (sym c.if-yields_to_output.false ∙ c.yields_to_output.ensures.1 yields))

pub returns-in-Ok-clause-no_fault : goal.returns-in-Ok-clause-no_fault
returns-in-Ok-clause-no_fault g c =
    puts_whole c.args.counts.now c.bytes.result.now _ _ _ _ c.bytes.ensures.value c.in-Ok.ensures.bytes c.in-Ok.ensures.cause.kept

pub returns-in-Ok-clause-counted : goal.returns-in-Ok-clause-counted
returns-in-Ok-clause-counted g c = λ yields.
    (c.in-Ok.ensures.bytes ∙ ap (append_known (g.K.Sink.written c.args.out.now)) c.bytes.ensures.value, c.in-Ok.ensures.cause.kept)

pub returns-then-yields_to_output-clause-no_fault : goal.returns-then-yields_to_output-clause-no_fault
returns-then-yields_to_output-clause-no_fault g c =
    let b = c.in-Err.ensures.bytes in
    puts_cut c.args.counts.now c.bytes.result.now b.0 _ _ _ _ c.bytes.ensures.value b.1 b.2 c.in-Err.ensures.cause.failed

pub returns-else-yields_to_output-clause-no_fault : goal.returns-else-yields_to_output-clause-no_fault
returns-else-yields_to_output-clause-no_fault g c =
    let b = c.in-Err.ensures.bytes in
    puts_cut c.args.counts.now c.bytes.result.now b.0 _ _ _ _ c.bytes.ensures.value b.1 b.2 c.in-Err.ensures.cause.failed

pub returns-else-yields_to_output-clause-counted : goal.returns-else-yields_to_output-clause-counted
returns-else-yields_to_output-clause-counted g c = λ yields.
    absurd (false≢true (sym c.if-yields_to_output.false ∙ c.yields_to_output.ensures.1 yields))
