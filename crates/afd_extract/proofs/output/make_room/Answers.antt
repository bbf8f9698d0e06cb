use Rattle.std.proofs.Common.{[]}
use Rattle.afd_extract.proofs.Fronts.{Puts-failed, PutsFront-held}
use Rattle.afd_extract.proofs.output.make_room.Goals as goal

pub returns-in_err-put_all-clause-bytes : goal.returns-in_err-put_all-clause-bytes
returns-in_err-put_all-clause-bytes g c =
    Puts-failed _ _ c.args.held.now c.args.held.now [] c.from_residual.result c.from_residual.ensures.0
    (PutsFront-held _ _ c.args.held.now c.bytes.result.now c.bytes.ensures.value c.in_err-put_all.ensures.bytes)
