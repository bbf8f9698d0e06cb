use Rattle.std.proofs.Common.{◌≡◌, sym, subst, rules}
use Rattle.hex.specs.Hex.{encode_lower}
use Rattle.afd_records.specs.Line.{IsHashText}
use Rattle.afd_chain.proofs.HashText.{IsHashText-encode_lower}
use Rattle.afd_chain.proofs.chain.digits_of.Goals as goal

pub returns-clause-lower : goal.returns-clause-lower
returns-clause-lower c =
    let written : c.encode_to_slice-written.new.output ≡ encode_lower c.args.digest.now = search rules in
    subst IsHashText (sym written) (IsHashText-encode_lower c.args.digest.now c.told-digest c.fits-digest)
