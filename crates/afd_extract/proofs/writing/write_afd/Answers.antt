use Rattle.afd_extract.specs.declared.error.WriteFail.TheVariants.{SinkFault}
use Rattle.afd_extract.proofs.Fronts.{WritesAll-err, WritesAll-ok}
use Rattle.afd_extract.proofs.Whole.{WritesExtract-all, WritesExtract-cut, WritesExtract-failed, WritesExtract-result}
use Rattle.afd_extract.proofs.writing.write_afd.Goals as goal

pub returns-in_err-size-clause-writes : goal.returns-in_err-size-clause-writes
returns-in_err-size-clause-writes g c =
    WritesExtract-result c.args.head.now c.args.journal.now.frames c.args.range _ _ _ _ c.from_residual.result c.from_residual.ensures.0
    (WritesExtract-failed c.args.head.now c.args.journal.now.frames c.args.range _ _ _ _ _ _ c.new-held.ensures.value c.in_err-size.ensures.puts)

pub returns-then-is_err-clause-writes : goal.returns-then-is_err-clause-writes
returns-then-is_err-clause-writes g c =
    WritesExtract-cut c.args.head.now c.args.journal.now.frames c.args.range _ _ _ _ _ _ c.bytes.result.now _ SinkFault c.new-held.ensures.value
    c.bytes.ensures.value c.in_ok-size.ensures.puts (WritesAll-err _ _ c.put_all.result c.bytes.result.now (cc) c.put_all.ensures.bytes)

pub returns-clause-writes : goal.returns-clause-writes
returns-clause-writes g c =
    WritesExtract-all c.args.head.now c.args.journal.now.frames c.args.range _ _ _ _ _ _ c.bytes.result.now _ c.new-held.ensures.value
    c.bytes.ensures.value c.in_ok-size.ensures.puts (WritesAll-ok _ _ c.put_all.result c.bytes.result.now (cc) c.put_all.ensures.bytes)
