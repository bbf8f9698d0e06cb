-- The line of a record: Portaria MTP 671/2021, annex V. A clocking ends in the hash that chains it to the clocking
-- before, an event in nothing, and each other record in the checksum of what stands before.
use Rattle.std.specs.Prelude.{◌≡◌, ℕ, ◌≤◌, ◌⊎◌, List, [], ◌++◌, length, All, Option, Some, None}
use Rattle.rep_fields.specs.Digits.{IsDigitByte}
use Rattle.afd_records.specs.Checksum.{crc_text}
use Rattle.afd_records.specs.Record.{payload_text, IsNsr, IsBody}
use Rattle.afd_records.specs.declared.record.Body.{Body}
use Rattle.afd_records.specs.declared.record.Body.TheVariants.{Employer, Adjust, Worker, Event, Clocking}

-- what stands behind the payload; a hash is looked at for a clocking alone
abbrev pub check_text : ℕ → Body → List ℕ → List ℕ
check_text nsr (Employer at resp id cno name place) hash = crc_text (payload_text nsr (Employer at resp id cno name place))
check_text nsr (Adjust before after resp) hash = crc_text (payload_text nsr (Adjust before after resp))
check_text nsr (Worker at op cpf name extra resp) hash = crc_text (payload_text nsr (Worker at op cpf name extra resp))
check_text nsr (Event at code) hash = []
check_text nsr (Clocking marked cpf recorded collector offline) hash = hash

-- the line of a record with its number, and with the hash that a clocking has
abbrev pub record_text : ℕ → Body → List ℕ → List ℕ
record_text nsr body hash = payload_text nsr body ++ check_text nsr body hash

-- a lower-case hexadecimal digit
abbrev pub IsLowerHex : ℕ → Type 0
IsLowerHex byte = IsDigitByte byte ⊎ ((97 ≤ byte) × (byte ≤ 102))

-- the text of a SHA-256
pub record IsHashText (text : List ℕ) : Type 0 where
  pub size : length text ≡ 64
  pub lower : All IsLowerHex text

-- the bytes of a hash; none where there is none
abbrev pub hash_bytes : Option (List ℕ) → List ℕ
hash_bytes (Some hash) = hash
hash_bytes None = []

-- a hash stands exactly at a clocking
abbrev pub HasHash : Body → Option (List ℕ) → Type 0
HasHash (Employer at resp id cno name place) hash = hash ≡ None
HasHash (Adjust before after resp) hash = hash ≡ None
HasHash (Worker at op cpf name extra resp) hash = hash ≡ None
HasHash (Event at code) hash = hash ≡ None
HasHash (Clocking marked cpf recorded collector offline) None = ⊥
HasHash (Clocking marked cpf recorded collector offline) (Some hash) = IsHashText hash

-- the line is that of a record with its number and hash, each in its range
pub record IsLineOf (nsr : ℕ) (body : Body) (hash : Option (List ℕ)) (line : List ℕ) : Type 0 where
  pub numbered : IsNsr nsr
  pub in_range : IsBody body
  pub hashed : HasHash body hash
  pub written : line ≡ record_text nsr body (hash_bytes hash)
