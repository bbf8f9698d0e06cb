use Rattle.std.proofs.Common.{◌≡◌, sym, ◌∙◌, arith}
use Rattle.std.proofs.lemmas.Fmt.{decimal_injective}
use Rattle.rep_drill.proofs.schedule.minute_of.Goals as goal

pub returns-then-minute-lt-FIRST_MINUTE : goal.returns-then-minute-lt-FIRST_MINUTE
returns-then-minute-lt-FIRST_MINUTE c = λ minute in_range is.
    let read = c.in_ok-minute.ensures in
    let same : minute ≡ c.in_ok-minute.minute = decimal_injective minute c.in_ok-minute.minute (omega arith) read.0 (sym is ∙ read.1) in
    omega arith

pub returns-then-minute-gt-LAST_MINUTE : goal.returns-then-minute-gt-LAST_MINUTE
returns-then-minute-gt-LAST_MINUTE c = λ minute in_range is.
    let read = c.in_ok-minute.ensures in
    let same : minute ≡ c.in_ok-minute.minute = decimal_injective minute c.in_ok-minute.minute (omega arith) read.0 (sym is ∙ read.1) in
    omega arith
