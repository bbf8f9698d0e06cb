-- The checksum of AFD lines: CRC-16 with the reflected polynomial 0x1021, start 0 and no final change, which is known
-- as CRC-16/KERMIT, in four upper-case hexadecimal digits. That it covers the bytes before the field is this
-- project's own reading of Portaria MTP 671/2021, annex V.
use Rattle.std.specs.Prelude.{ℕ, zero, suc, ◌+◌, ◌/◌, ◌%◌, ◌==◌, nat_lt, if◌then◌else◌, List, [], ◌∷◌, bit_xor}

-- the bits of 0x1021, turned round
abbrev pub reflected_polynomial : ℕ
reflected_polynomial = 0x8408

-- one bit of the division: it is the lowest that is divided out
abbrev pub crc_bit : ℕ → ℕ
crc_bit crc = if crc % 2 == 1 then bit_xor (crc / 2) reflected_polynomial else crc / 2

abbrev pub crc_bits : ℕ → ℕ → ℕ
crc_bits zero crc = crc
crc_bits (suc count) crc = crc_bits count (crc_bit crc)

-- one byte: it is added to the low bits, and eight bits are divided out
unfoldable pub crc_byte : ℕ → ℕ → ℕ
crc_byte crc byte = crc_bits 8 (bit_xor crc byte)

-- the remainder after all the bytes that follow such a remainder
abbrev pub crc_from : ℕ → List ℕ → ℕ
crc_from crc [] = crc
crc_from crc (byte ∷ bytes) = crc_from (crc_byte crc byte) bytes

abbrev pub crc_of : List ℕ → ℕ
crc_of bytes = crc_from 0 bytes

-- an upper-case hexadecimal digit
abbrev pub hex_digit : ℕ → ℕ
hex_digit digit = if nat_lt digit 10 then 48 + digit else 55 + digit

-- the checksum of the bytes, as text
abbrev pub crc_text : List ℕ → List ℕ
crc_text bytes =
    hex_digit (crc_of bytes / 4096 % 16) ∷ hex_digit (crc_of bytes / 256 % 16) ∷ hex_digit (crc_of bytes / 16 % 16)
    ∷ hex_digit (crc_of bytes % 16) ∷ []
