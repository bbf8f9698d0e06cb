-- The head is put together from two halves.
use Rattle.std.proofs.Common.{◌≡◌, ◌++◌, append_assoc}
use Rattle.afd_records.specs.File.{head_payload_text}
use Rattle.afd_records.specs.Parts.{owner_text, period_text}
use Rattle.afd_records.specs.declared.header.Head.{Head}

pub owner-period : (head : Head) → owner_text head ++ period_text head ≡ head_payload_text head
unfolding head_payload_text
owner-period head = simp append_assoc
