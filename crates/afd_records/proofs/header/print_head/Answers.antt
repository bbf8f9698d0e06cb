use Rattle.std.proofs.Common.{◌≡◌, ℕ, List, ◌++◌, ap, ◌∙◌}
use Rattle.afd_records.specs.Checksum.{crc_text}
use Rattle.afd_records.specs.File.{head_payload_text}
use Rattle.afd_records.specs.Parts.{period_text}
use Rattle.afd_records.proofs.Halves.{owner-period}
use Rattle.afd_records.proofs.header.print_head.Goals as goal

pub returns : goal.returns
returns c =
    let head = c.args.head.now in
    let payload : c.put_period.new.row ≡ head_payload_text head =
    c.put_period.ensures.value ∙ ap (λ (row : List ℕ). row ++ period_text head) c.put_owner.ensures.value
    ∙ owner-period head in
    let check : c.checksum_field-checksum.result ≡ crc_text (head_payload_text head) =
    c.checksum_field-checksum.ensures ∙ ap crc_text (c.bytes.ensures.value ∙ payload) in
    c.filled.ensures ∙ c.push_bytes.ensures.value
    ∙ ap (λ (row : List ℕ). row ++ c.checksum_field-checksum.result) payload
    ∙ ap (λ (text : List ℕ). head_payload_text head ++ text) check
