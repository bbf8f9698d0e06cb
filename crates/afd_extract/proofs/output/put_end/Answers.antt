use Rattle.afd_records.specs.File.{trailer_text, signature_text}
use Rattle.afd_extract.proofs.Fronts.{Puts-failed, end-failed, end-put}
use Rattle.afd_extract.proofs.output.put_end.Goals as goal

pub returns-in_err-put_line-clause-bytes : goal.returns-in_err-put_line-clause-bytes
returns-in_err-put_line-clause-bytes g c =
    Puts-failed _ _ c.args.held.now _ _ c.from_residual.result c.from_residual.ensures.0
    (end-failed _ _ c.args.held.now c.print_trailer.result (trailer_text c.args.trailer.now.counts) signature_text c.print_trailer.ensures
    c.in_err-put_line.ensures.bytes)

pub returns-clause-bytes : goal.returns-clause-bytes
returns-clause-bytes g c =
    end-put _ _ _ c.args.held.now c.put_line.new.held c.put_line-2.new.held c.print_trailer.result (trailer_text c.args.trailer.now.counts)
    c.signature.result signature_text c.put_line-2.result c.print_trailer.ensures c.signature.ensures c.in_ok-put_line.ensures.bytes
    c.put_line-2.ensures.bytes
