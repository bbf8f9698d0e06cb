-- lists of a known length, by their elements
use Rattle.std.proofs.Common.{◌≡◌, List, [], ◌∷◌, length, get_or, arith}

-- a list of two
pub two_from_reads : {X : Type 0} (xs : List X) (a b : X) → length xs ≡ 2 → a ≡ get_or xs 0 a → b ≡ get_or xs 1 b → xs ≡ a ∷ b ∷ []
two_from_reads [] a b n p q = absurd (omega arith)
two_from_reads (x ∷ []) a b n p q = absurd (omega arith)
two_from_reads (x ∷ y ∷ []) a b n p q = cc
two_from_reads (x ∷ y ∷ z ∷ xs) a b n p q = absurd (omega arith)

-- a list of three
pub three_from_reads : {X : Type 0} (xs : List X) (a b c : X) → length xs ≡ 3 → a ≡ get_or xs 0 a → b ≡ get_or xs 1 b → c ≡ get_or xs 2 c → xs ≡ a ∷ b ∷ c ∷ []
three_from_reads [] a b c n p q r = absurd (omega arith)
three_from_reads (x ∷ []) a b c n p q r = absurd (omega arith)
three_from_reads (x ∷ y ∷ []) a b c n p q r = absurd (omega arith)
three_from_reads (x ∷ y ∷ z ∷ []) a b c n p q r = cc
three_from_reads (x ∷ y ∷ z ∷ w ∷ xs) a b c n p q r = absurd (omega arith)

-- a list of four
pub four_from_reads : {X : Type 0} (xs : List X) (a b c d : X) → length xs ≡ 4 → a ≡ get_or xs 0 a → b ≡ get_or xs 1 b → c ≡ get_or xs 2 c → d ≡ get_or xs 3 d
    → xs ≡ a ∷ b ∷ c ∷ d ∷ []
four_from_reads [] a b c d n p q r s = absurd (omega arith)
four_from_reads (x ∷ []) a b c d n p q r s = absurd (omega arith)
four_from_reads (x ∷ y ∷ []) a b c d n p q r s = absurd (omega arith)
four_from_reads (x ∷ y ∷ z ∷ []) a b c d n p q r s = absurd (omega arith)
four_from_reads (x ∷ y ∷ z ∷ w ∷ []) a b c d n p q r s = cc
four_from_reads (x ∷ y ∷ z ∷ w ∷ v ∷ xs) a b c d n p q r s = absurd (omega arith)

-- a list of six
pub six_from_reads : {X : Type 0} (xs : List X) (a b c d e f : X) → length xs ≡ 6 → a ≡ get_or xs 0 a → b ≡ get_or xs 1 b → c ≡ get_or xs 2 c → d ≡ get_or xs 3 d → e ≡ get_or xs 4 e → f ≡ get_or xs 5 f
    → xs ≡ a ∷ b ∷ c ∷ d ∷ e ∷ f ∷ []
six_from_reads [] a b c d e f n p q r s t u = absurd (omega arith)
six_from_reads (x ∷ []) a b c d e f n p q r s t u = absurd (omega arith)
six_from_reads (x ∷ y ∷ []) a b c d e f n p q r s t u = absurd (omega arith)
six_from_reads (x ∷ y ∷ z ∷ []) a b c d e f n p q r s t u = absurd (omega arith)
six_from_reads (x ∷ y ∷ z ∷ w ∷ []) a b c d e f n p q r s t u = absurd (omega arith)
six_from_reads (x ∷ y ∷ z ∷ w ∷ v ∷ []) a b c d e f n p q r s t u = absurd (omega arith)
six_from_reads (x ∷ y ∷ z ∷ w ∷ v ∷ o ∷ []) a b c d e f n p q r s t u = cc
six_from_reads (x ∷ y ∷ z ∷ w ∷ v ∷ o ∷ m ∷ xs) a b c d e f n p q r s t u = absurd (omega arith)
