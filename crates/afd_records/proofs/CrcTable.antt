-- The checksum by bytes. One step of the division keeps exclusive or, so a byte's step can be taken on the low eight
-- bits alone, whose remainders stand in a table of 256, and then be added to the high bits.
use Rattle.std.proofs.Common.{◌≡◌, ℕ, zero, suc, ◌*◌, ◌/◌, ◌%◌, ◌^◌, ◌<◌, ◌==◌, ◌⊎◌, inl, inr, Bool, true, ◌&&◌, List, slice_index, refl, sym, ap, ◌∙◌, arith}
use Rattle.std.specs.Prelude.{bit_xor}
use Rattle.std.specs.Int.Bits.{xor_self, xor_zero_r, xor_assoc, xor_shifted}
use Rattle.std.proofs.lemmas.Nat.{xor_comm, xor_shr, xor_mod, pow_pos, div-add-mod'}
use Rattle.std.proofs.Math.Nat.{pow-suc, mul_assoc, mod-lt}
use Rattle.std.proofs.lemmas.Bool.{and_parts, eqb-true, cases_lt}
use Rattle.std.proofs.lemmas.Bool.Decides.{nat_tests}
use Rattle.afd_records.specs.Checksum.{reflected_polynomial, crc_bit, crc_bits, crc_byte}
use Rattle.afd_records.specs.declared.checksum.TheConstants.{REMAINDERS}

-- one bit of the division, by the lowest bit
crc_bit-even : (crc : ℕ) → crc % 2 ≡ 0 → crc_bit crc ≡ crc / 2
crc_bit-even crc even = grind (arith, nat_tests)

crc_bit-odd : (crc : ℕ) → crc % 2 ≡ 1 → crc_bit crc ≡ bit_xor (crc / 2) reflected_polynomial
crc_bit-odd crc odd = grind (arith, nat_tests)

-- the lowest bit is 0 or 1
parity : (n : ℕ) → (n % 2 ≡ 0) ⊎ (n % 2 ≡ 1)
parity n = grind arith

-- half of an exclusive or, and its lowest bit
xor_half : (a b : ℕ) → bit_xor a b / 2 ≡ bit_xor (a / 2) (b / 2)
xor_half a b = xor_shr a b 1

xor_parity : (a b : ℕ) → bit_xor a b % 2 ≡ bit_xor (a % 2) (b % 2)
xor_parity a b = xor_mod a b 1

-- x added twice goes away
xor_twice : (a b x : ℕ) → bit_xor (bit_xor a x) (bit_xor b x) ≡ bit_xor a b
xor_twice a b x =
    xor_assoc a x (bit_xor b x)
    ∙ ap (bit_xor a) (ap (bit_xor x) (xor_comm b x) ∙ sym (xor_assoc x x b) ∙ ap (λ (z : ℕ). bit_xor z b) (xor_self x))

xor_swap : (a b x : ℕ) → bit_xor (bit_xor a x) b ≡ bit_xor (bit_xor a b) x
xor_swap a b x = xor_assoc a x b ∙ ap (bit_xor a) (xor_comm x b) ∙ sym (xor_assoc a b x)

-- one bit of the division keeps exclusive or
crc_bit-xor : (a b : ℕ) → crc_bit (bit_xor a b) ≡ bit_xor (crc_bit a) (crc_bit b)
crc_bit-xor a b =
    let half = xor_half a b in
    let low = xor_parity a b in
    elim (parity a) [
      | inl even_a ↦ elim (parity b) [
        | inl even_b ↦
            let even : bit_xor a b % 2 ≡ 0 = rw (even_a, even_b) at low in
            rw (crc_bit-even (bit_xor a b) even, crc_bit-even a even_a, crc_bit-even b even_b) half
        | inr odd_b ↦
            let odd : bit_xor a b % 2 ≡ 1 = rw (even_a, odd_b) at low in
            rw (crc_bit-odd (bit_xor a b) odd, crc_bit-even a even_a, crc_bit-odd b odd_b, half)
            (xor_assoc (a / 2) (b / 2) reflected_polynomial)
      ]
      | inr odd_a ↦ elim (parity b) [
        | inl even_b ↦
            let odd : bit_xor a b % 2 ≡ 1 = rw (odd_a, even_b) at low in
            rw (crc_bit-odd (bit_xor a b) odd, crc_bit-odd a odd_a, crc_bit-even b even_b, half)
            (sym (xor_swap (a / 2) (b / 2) reflected_polynomial))
        | inr odd_b ↦
            let even : bit_xor a b % 2 ≡ 0 = rw (odd_a, odd_b) at low in
            rw (crc_bit-even (bit_xor a b) even, crc_bit-odd a odd_a, crc_bit-odd b odd_b, half)
            (sym (xor_twice (a / 2) (b / 2) reflected_polynomial))
      ]
    ]

crc_bits-xor : (count a b : ℕ) → crc_bits count (bit_xor a b) ≡ bit_xor (crc_bits count a) (crc_bits count b)
crc_bits-xor zero a b = refl
crc_bits-xor (suc count) a b =
    ap (crc_bits count) (crc_bit-xor a b) ∙ crc_bits-xor count (crc_bit a) (crc_bit b)

-- what stands above the bits that are divided out moves down
crc_bits-high : (count high : ℕ) → crc_bits count (high * 2 ^ count) ≡ high
crc_bits-high zero high = omega arith
crc_bits-high (suc count) high =
    let double : high * 2 ^ suc count ≡ 2 * (high * 2 ^ count) =
    rw (pow-suc 2 count) (omega (arith, mul_assoc high (2 ^ count) 2)) in
    let even : (high * 2 ^ suc count) % 2 ≡ 0 = omega arith in
    let half : high * 2 ^ suc count / 2 ≡ high * 2 ^ count = omega arith in
    ap (crc_bits count) (crc_bit-even (high * 2 ^ suc count) even ∙ half) ∙ crc_bits-high count high

-- the bits above those that are divided out are added to the remainder of these
crc_bits-split : (count crc : ℕ)
    → crc_bits count crc ≡ bit_xor (crc / 2 ^ count) (crc_bits count (crc % 2 ^ count))
crc_bits-split count crc =
    let power : 0 < 2 ^ count = pow_pos count in
    let below : crc % 2 ^ count < 2 ^ count = mod-lt crc power in
    let parts = xor_shifted (crc / 2 ^ count) count (crc % 2 ^ count) below ∙ div-add-mod' crc (2 ^ count) in
    ap (crc_bits count) (sym parts)
    ∙ crc_bits-xor count (crc / 2 ^ count * 2 ^ count) (crc % 2 ^ count)
    ∙ ap (λ (high : ℕ). bit_xor high (crc_bits count (crc % 2 ^ count))) (crc_bits-high count (crc / 2 ^ count))

-- a byte changes the low eight bits alone
low_bits : (crc byte : ℕ) → byte < 256 → bit_xor crc byte % 256 ≡ bit_xor (crc % 256) byte
low_bits crc byte fits =
    let alone : byte % 256 ≡ byte = omega arith in
    xor_mod crc byte 8 ∙ ap (bit_xor (crc % 256)) alone

high_bits : (crc byte : ℕ) → byte < 256 → bit_xor crc byte / 256 ≡ crc / 256
high_bits crc byte fits =
    let none : byte / 256 ≡ 0 = omega arith in
    xor_shr crc byte 8 ∙ ap (bit_xor (crc / 256)) none ∙ xor_zero_r (crc / 256)

-- a byte's step: the high bits move down, and the table has the remainder of the low ones
pub crc_byte-low : (crc byte : ℕ) → byte < 256
    → crc_byte crc byte ≡ bit_xor (crc / 256) (crc_byte 0 (bit_xor (crc % 256) byte))
unfolding crc_byte
crc_byte-low crc byte fits =
    crc_bits-split 8 (bit_xor crc byte)
    ∙ ap (λ (high : ℕ). bit_xor high (crc_bits 8 (bit_xor crc byte % 256))) (high_bits crc byte fits)
    ∙ ap (λ (low : ℕ). bit_xor (crc / 256) (crc_bits 8 low)) (low_bits crc byte fits)

-- ---- the table

-- the test of the first places
abbrev agrees_below : ℕ → List ℕ → Bool
agrees_below zero table = true
agrees_below (suc count) table = (slice_index table count == crc_bits 8 count) && agrees_below count table

agrees_at : (count : ℕ) (table : List ℕ) (place : ℕ) → agrees_below count table ≡ true → place < count
    → slice_index table place ≡ crc_bits 8 place
agrees_at zero table place passed below = absurd (omega arith)
agrees_at (suc count) table place passed below =
    let parts = and_parts (slice_index table count == crc_bits 8 count) (agrees_below count table) passed in
    elim (cases_lt place count) [
      | inl before ↦ agrees_at count table place parts.1 before
      | inr last ↦
          let same : place ≡ count = omega arith in
          rw same (eqb-true (slice_index table count) (crc_bits 8 count) parts.0)
    ]

-- the table holds the remainder of each byte
pub remainders : (byte : ℕ) → byte < 256 → slice_index REMAINDERS byte ≡ crc_byte 0 byte
unfolding crc_byte
remainders byte fits = agrees_at 256 REMAINDERS byte refl fits
