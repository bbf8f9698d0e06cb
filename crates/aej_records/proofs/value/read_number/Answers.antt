use Rattle.std.proofs.Common.{◌≡◌, sym, ◌∙◌, arith}
use Rattle.std.proofs.lemmas.Fmt.{decimal_injective}
use Rattle.aej_records.proofs.value.read_number.Goals as goal
use Rattle.aej_records.proofs.value.read_number.Goals.{then-number-from-via-then-number-from, then-number-from-via-else-number-from+then-number-from-2}

pub returns-then-number-from : goal.returns-then-number-from
returns-then-number-from c = λ n in_range is.
    let read = c.in-Some.ensures in
    let same : n ≡ c.in-Some.number =
    decimal_injective n c.in-Some.number (omega arith) read.0 (sym is ∙ read.1) in
    elim c.then-number-from.branch [
      | then-number-from-via-then-number-from w ↦ omega arith
      | then-number-from-via-else-number-from+then-number-from-2 w ↦ omega arith
    ]
