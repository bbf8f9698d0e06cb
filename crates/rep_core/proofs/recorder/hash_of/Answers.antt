use Rattle.std.proofs.Common.{length, ap, ◌∙◌, sym, subst}
use Rattle.afd_records.specs.Record.{IsClocking}
use Rattle.rep_core.proofs.Payloads.{length-payload_text}
use Rattle.rep_core.proofs.recorder.hash_of.Goals as goal

pub link-requires : goal.link-requires
link-requires c =
    ap length (c.bytes.ensures.value ∙ c.stem-payload.ensures)
    ∙ length-payload_text c.args.nsr c.args.body.now (subst IsClocking (sym c.in-Clocking.is) tt)
