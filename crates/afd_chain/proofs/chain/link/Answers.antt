use Rattle.std.proofs.Common.{◌++◌, [], ap, ◌∙◌, append-nil}
use Rattle.std.specs.Option.{option_copied}
use Rattle.sha2.specs.Sha256.{initial_hash_256, Holds}
use Rattle.hex.specs.Hex.{encode_lower}
use Rattle.afd_records.specs.Line.{hash_bytes}
use Rattle.afd_chain.specs.Chain.{sha_text}
use Rattle.afd_chain.proofs.chain.link.Goals as goal
use Rattle.afd_chain.proofs.chain.link.Goals.{in-Some, in_default}

-- the hasher holds the payload, and then the hash before where there is one
holds_both : (c : goal.After-digits_of)
    → Holds initial_hash_256 c.match-prev.hasher.core (c.args.line73.now ++ hash_bytes (option_copied c.args.prev))
holds_both c =
    let holds_payload = c.update.ensures [] c.new-hasher.ensures in
    elim c.match-prev.branch [
      | in-Some w ↦ rw (w.hasher-is, w.in-Some.is) (w.update-in-Some.ensures _ holds_payload)
      | in_default w ↦ rw (w.hasher-is, w.in_default.is, append-nil) holds_payload
    ]

pub returns-clause-value : goal.returns-clause-value
unfolding sha_text
returns-clause-value c =
    c.digits_of.ensures.value ∙ ap encode_lower (c.finalize.ensures _ (holds_both c))
