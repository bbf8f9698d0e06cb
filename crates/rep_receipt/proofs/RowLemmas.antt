-- Lines that are appended one after another.
use Rattle.std.proofs.Common.{◌≡◌, ℕ, List, [], ◌∷◌, ◌++◌, ap, ◌∙◌, append_assoc, append-nil}
use Rattle.std.specs.List.{concat}
use Rattle.rep_receipt.specs.Receipt.{receipt_line}

-- a line of this value, which is known by another name
pub line_of : (old new name value known : List ℕ) → new ≡ old ++ receipt_line name value → value ≡ known → new ≡ old ++ receipt_line name known
line_of old new name value known pushed same = pushed ∙ ap (λ v. old ++ receipt_line name v) same

pub four_rows : (r r1 r2 r3 r4 a b c d : List ℕ) → r ≡ [] → r1 ≡ r ++ a → r2 ≡ r1 ++ b → r3 ≡ r2 ++ c → r4 ≡ r3 ++ d
    → r4 ≡ concat (a ∷ b ∷ c ∷ d ∷ [])
four_rows r r1 r2 r3 r4 a b c d none one two three four =
    let all : r4 ≡ ((a ++ b) ++ c) ++ d = cc in
    all ∙ simp (append_assoc, append-nil)

pub five_rows : (r r1 r2 r3 r4 r5 a b c d e : List ℕ) → r ≡ [] → r1 ≡ r ++ a → r2 ≡ r1 ++ b → r3 ≡ r2 ++ c → r4 ≡ r3 ++ d → r5 ≡ r4 ++ e
    → r5 ≡ concat (a ∷ b ∷ c ∷ d ∷ e ∷ [])
five_rows r r1 r2 r3 r4 r5 a b c d e none one two three four five =
    let all : r5 ≡ (((a ++ b) ++ c) ++ d) ++ e = cc in
    all ∙ simp (append_assoc, append-nil)
