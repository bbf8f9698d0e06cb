use Rattle.std.proofs.Common.{◌≤◌, length, arith, rules, ap, sym, ◌∙◌, drop}
use Rattle.std.proofs.lemmas.List.{take_rest}
use Rattle.rep_io.specs.MemSource.{first_of}
use Rattle.rep_io.proofs.MemSourceLemmas.{at_within, pieces_from-split}
use Rattle.rep_io.proofs.mem_source.rest_of.Goals as goal

pub slice_bounds-result-count : goal.slice_bounds-result-count
slice_bounds-result-count c =
    let within = at_within c.args.pieces.now c.args.piece c.args.at c.index-pieces-piece.result (omega arith) c.index-pieces-piece.is c.requires in
    omega (arith, within, ap length c.as_slice-bytes.ensures.value)

pub slice_bounds-result-start : goal.slice_bounds-result-start
slice_bounds-result-start c =
    let within = at_within c.args.pieces.now c.args.piece c.args.at c.index-pieces-piece.result (omega arith) c.index-pieces-piece.is c.requires in
    let fits : c.args.at ≤ length c.as_slice-bytes.result.now = omega (arith, within, ap length c.as_slice-bytes.ensures.value) in
    search rules

pub returns-clause-value : goal.returns-clause-value
returns-clause-value c =
    let v = c.index-pieces-piece.result in
    take_rest c.as_slice-bytes.result.now c.args.at ∙ ap (drop c.args.at) c.as_slice-bytes.ensures.value
    ∙ sym (ap first_of (pieces_from-split c.args.pieces.now c.args.piece c.args.at v (omega arith) c.index-pieces-piece.is))
