-- A whole AFD: the head, the records by number, the trailer and the line for the signature, each ended by CR LF.
-- Portaria MTP 671/2021, annex V (layout 003); the signature line is this project's own.
use Rattle.std.specs.Prelude.{◌≡◌, ℕ, ◌⊎◌, List, [], ◌∷◌, ◌++◌, length, codes, All, count_by, ◌==◌}
use Rattle.std.specs.List.{concat, flat_map}
use Rattle.rep_fields.specs.Digits.{numeral, FitsDigits, IsDigitByte}
use Rattle.rep_fields.specs.Latin.{padded}
use Rattle.rep_fields.specs.Calendar.{day_text}
use Rattle.rep_fields.specs.Moment.{moment_text}
use Rattle.rep_fields.specs.Employer.{IsEmployerId, kind_byte, id_text}
use Rattle.afd_records.specs.Checksum.{crc_text}
use Rattle.afd_records.specs.Record.{IsCno, type_of}
use Rattle.afd_records.specs.declared.header.Head.{Head}
use Rattle.afd_records.specs.declared.record.Body.{Body}

-- the head's fields before its checksum
unfoldable pub head_payload_text : Head → List ℕ
head_payload_text head =
    concat (codes "000000000" ∷ codes "1" ∷ (kind_byte head.id ∷ []) ∷ id_text head.id ∷ numeral 14 head.cno
    ∷ padded 150 head.name ∷ head.rep ∷ day_text head.first ∷ day_text head.last ∷ moment_text head.made
    ∷ codes "003" ∷ numeral 1 head.dev_kind ∷ head.dev ∷ padded 30 head.model ∷ [])

abbrev pub head_text : Head → List ℕ
head_text head = head_payload_text head ++ crc_text (head_payload_text head)

-- what a head must be for its text: the other parts are in range by their types
pub record HasHeadText (head : Head) : Type 0 where
  pub id : IsEmployerId head.id
  pub cno : IsCno head.cno
  pub dev_kind : (head.dev_kind ≡ 1) ⊎ (head.dev_kind ≡ 2)
  pub dev : All IsDigitByte head.dev

-- the trailer counts the records of the types 2 to 7
unfoldable pub trailer_text : List ℕ → List ℕ
trailer_text counts = codes "999999999" ++ flat_map (numeral 9) counts ++ codes "9"

-- six counts of at most nine digits
pub record HasTrailerText (counts : List ℕ) : Type 0 where
  pub size : length counts ≡ 6
  pub digits : All (FitsDigits 9) counts

-- how many of the records have the type
abbrev pub count_of_type : ℕ → List Body → ℕ
count_of_type kind bodies = count_by (λ body. type_of body == kind) bodies

-- the trailer's counts of these records
abbrev pub counts_of : List Body → List ℕ
counts_of bodies =
    count_of_type 2 bodies ∷ count_of_type 3 bodies ∷ count_of_type 4 bodies ∷ count_of_type 5 bodies
    ∷ count_of_type 6 bodies ∷ count_of_type 7 bodies ∷ []

-- the line for the signature
abbrev pub signature_text : List ℕ
signature_text = padded 100 (codes "ASSINATURA_DIGITAL_EM_ARQUIVO_P7S")

-- a line with its end
abbrev pub ended : List ℕ → List ℕ
ended line = line ++ 13 ∷ 10 ∷ []

-- the whole text, of the lines of its records and the trailer's counts
abbrev pub file_text : Head → List (List ℕ) → List ℕ → List ℕ
file_text head lines counts = flat_map ended ((head_text head ∷ lines) ++ trailer_text counts ∷ signature_text ∷ [])
