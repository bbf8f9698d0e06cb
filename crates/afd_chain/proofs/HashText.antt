-- Lower-case hexadecimal text, and that of a SHA-256.
use Rattle.std.proofs.Common.{◌≡◌, ℕ, zero, suc, ◌/◌, ◌%◌, ◌<◌, Bool, true, ◌&&◌, ◌||◌, List, [], ◌∷◌, ◌++◌, length, slice_index, refl, arith}
use Rattle.std.specs.Prelude.{nat_le, All}
use Rattle.std.proofs.lemmas.Bool.Decides.{nat_tests}
use Rattle.std.proofs.lemmas.List.Elements.{All-weaker, All-nil, All-cons, All-get_or}
use Rattle.std.proofs.lemmas.List.Sums.{AllPass-from_list_all}
use Rattle.std.specs.Int.{byte_at, bytes_high_first, to_be_bytes, w32}
use Rattle.sha2.specs.Sha256.{sha256, digest_bytes, final_hash, initial_hash_256}
use Rattle.sha2.proofs.Facts256.{length-sha256}
use Rattle.hex.specs.Hex.{encode_with, encode_lower, lower_digits, IsBytes}
use Rattle.hex.proofs.HexLemmas.{length-encode_with}
use Rattle.afd_records.specs.Line.{IsLowerHex, IsHashText}
use Rattle.afd_chain.specs.Chain.{sha_text}

-- a lower-case digit, as a test that computes
abbrev is_lower_hex : ℕ → Bool
is_lower_hex byte = (nat_le 48 byte && nat_le byte 57) || (nat_le 97 byte && nat_le byte 102)

IsLowerHex-from_test : (byte : ℕ) → is_lower_hex byte ≡ true → IsLowerHex byte
IsLowerHex-from_test byte passed = grind (arith, nat_tests)

all_lower_digits : All IsLowerHex lower_digits
all_lower_digits =
    All-weaker (λ (byte : ℕ). is_lower_hex byte ≡ true) IsLowerHex IsLowerHex-from_test lower_digits
    (AllPass-from_list_all is_lower_hex lower_digits refl)

-- each byte is written in two such digits
all_lower_encoded : (bytes : List ℕ) → IsBytes bytes → All IsLowerHex (encode_with lower_digits bytes)
unfolding encode_with
all_lower_encoded [] fit = All-nil IsLowerHex
all_lower_encoded (byte ∷ rest) fit =
    let is_byte : byte < 256 = fit 0 in
    let high = slice_index lower_digits (byte / 16) in
    let low = slice_index lower_digits (byte % 16) in
    All-cons IsLowerHex high (low ∷ encode_with lower_digits rest)
    (All-get_or IsLowerHex lower_digits (byte / 16) 0 (omega arith) all_lower_digits)
    (All-cons IsLowerHex low (encode_with lower_digits rest)
    (All-get_or IsLowerHex lower_digits (byte % 16) 0 (omega arith) all_lower_digits)
    (all_lower_encoded rest (λ k. fit (suc k))))

-- 32 bytes make the text of a hash
pub IsHashText-encode_lower : (bytes : List ℕ) → length bytes ≡ 32 → IsBytes bytes → IsHashText (encode_lower bytes)
IsHashText-encode_lower bytes size fit = record {
  size = omega (arith, length-encode_with lower_digits bytes);
  lower = all_lower_encoded bytes fit;
}

IsBytes-append : (xs ys : List ℕ) → IsBytes xs → IsBytes ys → IsBytes (xs ++ ys)
IsBytes-append [] ys left right i = right i
IsBytes-append (x ∷ xs) ys left right zero = left zero
IsBytes-append (x ∷ xs) ys left right (suc i) = IsBytes-append xs ys (λ k. left (suc k)) right i

byte_at-fits : (place n : ℕ) → byte_at place n < 256
byte_at-fits zero n = omega arith
byte_at-fits (suc place) n = omega arith

IsBytes-high_first : (size n : ℕ) → IsBytes (bytes_high_first size n)
IsBytes-high_first zero n i = omega arith
IsBytes-high_first (suc size) n zero = byte_at-fits size n
IsBytes-high_first (suc size) n (suc i) = IsBytes-high_first size n i

IsBytes-digest_bytes : (words : List ℕ) (n : ℕ) → IsBytes (digest_bytes words n)
unfolding digest_bytes
IsBytes-digest_bytes words zero i = omega arith
IsBytes-digest_bytes words (suc n) i =
    let word = slice_index words n in
    IsBytes-append (digest_bytes words n) (to_be_bytes w32 word) (IsBytes-digest_bytes words n) (IsBytes-high_first 4 word) i

IsBytes-sha256 : (bytes : List ℕ) → IsBytes (sha256 bytes)
unfolding sha256
IsBytes-sha256 bytes = IsBytes-digest_bytes (final_hash initial_hash_256 bytes) 8

-- the text of a SHA-256 is the text of a hash
pub IsHashText-sha_text : (bytes : List ℕ) → IsHashText (sha_text bytes)
unfolding sha_text
IsHashText-sha_text bytes = IsHashText-encode_lower (sha256 bytes) (length-sha256 bytes) (IsBytes-sha256 bytes)
