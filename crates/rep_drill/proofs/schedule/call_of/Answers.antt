use Rattle.std.proofs.Common.{◌≡◌, sym, ◌∙◌, arith}
use Rattle.std.proofs.lemmas.Fmt.{decimal_injective}
use Rattle.rep_drill.proofs.schedule.call_of.Goals as goal

pub returns-then-call-eq0 : goal.returns-then-call-eq0
returns-then-call-eq0 c = λ call in_range is.
    let read = c.in_ok-call.ensures in
    let same : call ≡ c.in_ok-call.call = decimal_injective call c.in_ok-call.call (omega arith) read.0 (sym is ∙ read.1) in
    omega arith

pub returns-then-call-gt-CALLS : goal.returns-then-call-gt-CALLS
returns-then-call-gt-CALLS c = λ call in_range is.
    let read = c.in_ok-call.ensures in
    let same : call ≡ c.in_ok-call.call = decimal_injective call c.in_ok-call.call (omega arith) read.0 (sym is ∙ read.1) in
    omega arith
