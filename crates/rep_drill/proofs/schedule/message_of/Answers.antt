use Rattle.std.proofs.Common.{◌≡◌, sym, ◌∙◌, arith}
use Rattle.std.proofs.lemmas.Fmt.{decimal_injective}
use Rattle.rep_drill.proofs.schedule.message_of.Goals as goal

pub returns-then-k-gt-LAST_MESSAGE : goal.returns-then-k-gt-LAST_MESSAGE
returns-then-k-gt-LAST_MESSAGE c = λ k in_range is.
    let read = c.in_ok-k.ensures in
    let same : k ≡ c.in_ok-k.k = decimal_injective k c.in_ok-k.k (omega arith) read.0 (sym is ∙ read.1) in
    omega arith
