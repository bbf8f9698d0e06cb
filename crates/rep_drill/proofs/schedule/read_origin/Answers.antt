use Rattle.std.proofs.Common.{◌≡◌, sym, ◌∙◌, arith}
use Rattle.std.proofs.lemmas.Fmt.{decimal_injective}
use Rattle.rep_drill.proofs.schedule.read_origin.Goals as goal
use Rattle.rep_drill.proofs.schedule.read_origin.Goals.{then-origin-eq0-via-then-origin-eq0, then-origin-eq0-via-else-origin-eq0+then-origin-gt-LAST_ORIGIN}

pub returns-then-origin-eq0 : goal.returns-then-origin-eq0
returns-then-origin-eq0 c = λ origin in_range is.
    let read = c.in_ok-origin.ensures in
    let same : origin ≡ c.in_ok-origin.origin =
    decimal_injective origin c.in_ok-origin.origin (omega arith) read.0 (sym is ∙ read.1) in
    elim c.then-origin-eq0.branch [
      | then-origin-eq0-via-then-origin-eq0 w ↦ omega arith
      | then-origin-eq0-via-else-origin-eq0+then-origin-gt-LAST_ORIGIN w ↦ omega arith
    ]
