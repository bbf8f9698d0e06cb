use Rattle.rep_report.proofs.SayingLemmas.{puts_whole, puts_cut, says_front}
use Rattle.rep_report.proofs.saying.say.Goals as goal

pub returns-in-Err-clause-says : goal.returns-in-Err-clause-says
returns-in-Err-clause-says g c =
    let b = c.in-Err.ensures.bytes in
    says_front c.args.line.now c.bytes.result.now b.0 _ _ _ c.bytes.ensures.value b.2 c.in-Err.ensures.cause.failed

pub returns-in-Ok-clause-no_fault : goal.returns-in-Ok-clause-no_fault
returns-in-Ok-clause-no_fault g c =
    puts_whole c.args.line.now c.bytes.result.now _ _ _ _ c.bytes.ensures.value c.in-Ok.ensures.bytes c.in-Ok.ensures.cause.kept

pub returns-in-Err-clause-no_fault : goal.returns-in-Err-clause-no_fault
returns-in-Err-clause-no_fault g c =
    let b = c.in-Err.ensures.bytes in
    puts_cut c.args.line.now c.bytes.result.now b.0 _ _ _ _ c.bytes.ensures.value b.1 b.2 c.in-Err.ensures.cause.failed
