-- The chain of the clockings of an AFD: each hash is the SHA-256 of FIPS 180-4 over the clocking's payload and the hash
-- of the clocking before. Portaria MTP 671/2021, annex V; that the payload is the line up to the hash, and that the
-- first clocking has nothing before it, is this project's own reading.
use Rattle.std.specs.Prelude.{ℕ, List, ◌++◌, Option}
use Rattle.hex.specs.Hex.{encode_lower}
use Rattle.sha2.specs.Sha256.{sha256}
use Rattle.afd_records.specs.Line.{hash_bytes}

-- the SHA-256 of the bytes in lower-case hexadecimal digits
unfoldable pub sha_text : List ℕ → List ℕ
sha_text bytes = encode_lower (sha256 bytes)

-- the hash of a clocking with such a payload; the first clocking has no hash before it
abbrev pub link_text : List ℕ → Option (List ℕ) → List ℕ
link_text payload before = sha_text (payload ++ hash_bytes before)
