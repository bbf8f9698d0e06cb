use Rattle.std.proofs.Common.{◌≡◌, sym, ◌∙◌, arith}
use Rattle.std.proofs.lemmas.Fmt.{decimal_injective}
use Rattle.rep_wire.proofs.value.read_seq.Goals as goal
use Rattle.rep_wire.proofs.value.read_seq.Goals.{then-seq-eq0-via-then-seq-eq0, then-seq-eq0-via-else-seq-eq0+then-seq-gt-LAST_SEQ}

pub returns-then-seq-eq0 : goal.returns-then-seq-eq0
returns-then-seq-eq0 c = λ seq in_range is.
    let read = c.in_ok-seq.ensures in
    let same : seq ≡ c.in_ok-seq.seq =
    decimal_injective seq c.in_ok-seq.seq (omega arith) read.0 (sym is ∙ read.1) in
    elim c.then-seq-eq0.branch [
      | then-seq-eq0-via-then-seq-eq0 w ↦ omega arith
      | then-seq-eq0-via-else-seq-eq0+then-seq-gt-LAST_SEQ w ↦ omega arith
    ]
