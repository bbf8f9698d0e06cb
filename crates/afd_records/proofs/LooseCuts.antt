-- What a lenient reader finds of a checksum, which may be any four bytes.
use Rattle.std.proofs.Common.{◌≡◌, ◌≢◌, ◌↔◌, IsTrue, Bool, true, false, not, ℕ, ◌+◌, List, length, take, drop, refl, sym, ap, ◌∙◌, arith}
use Rattle.std.specs.List.{concat}
use Rattle.std.proofs.lemmas.Bool.{true≢false}
use Rattle.std.proofs.lemmas.List.{length-drop, length-take-le}
use Rattle.rep_fields.proofs.Layouts.{cuts, total}
use Rattle.afd_records.specs.Checksum.{crc_text}
use Rattle.afd_records.proofs.RecordParts.{concat-cuts_taken}

pub not_flag : (ended : Bool) (P Q : Type 0) → (IsTrue ended ↔ P) → (P → Q) → (Q → P) → IsTrue (not ended) ↔ (Q → ⊥)
not_flag true P Q is there back = (λ no. absurd (true≢false (sym no)), λ none. absurd (none (there (is.0 refl))))
not_flag false P Q is there back = (λ _ q. true≢false (sym (is.1 (back q))), λ _. refl)

-- the note of a checksum is of whether it differs from that of the fields before it
pub checksum_noted : (line widths : List ℕ) (fields : List (List ℕ)) (at : ℕ) (ended : Bool)
    → (IsTrue ended ↔ (take 4 (drop at line) ≡ crc_text (take at line))) → cuts 0 widths line ≡ fields → total widths ≡ at
    → IsTrue (not ended) ↔ (take 4 (drop at line) ≢ crc_text (concat fields))
checksum_noted line widths fields at ended is cut sum =
    let before : concat fields ≡ take at line =
    sym (ap concat cut) ∙ concat-cuts_taken widths 0 line ∙ ap (λ (n : ℕ). take n line) sum in
    not_flag ended _ _ is (λ same. same ∙ ap crc_text (sym before)) (λ same. same ∙ ap crc_text before)

-- it has four bytes
pub checksum_size : (line : List ℕ) (at : ℕ) → length line ≡ at + 4 → length (take 4 (drop at line)) ≡ 4
checksum_size line at size = length-take-le 4 (drop at line) (omega (arith, length-drop at line))
