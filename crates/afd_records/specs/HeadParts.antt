-- The first part of a head, as its reader takes it, which is this project's own: whose records they are, and the
-- recorder's number.
use Rattle.std.specs.Prelude.{◌≡◌, ℕ, List, ◌∷◌, take, drop, codes}
use Rattle.rep_fields.specs.Latin.{padded, IsText}
use Rattle.rep_fields.specs.Identity.{IsRepNumber}
use Rattle.rep_fields.specs.Employer.{IsEmployerId, kind_byte, id_text}
use Rattle.afd_records.specs.Record.{IsCno}
use Rattle.afd_records.specs.Lenient.{IsCnoText}
use Rattle.afd_records.specs.declared.header_reading.Owner.{Owner}

-- these are the fields of the line up to the recorder's number
pub record IsOwnerIn (line : List ℕ) (owner : Owner) : Type 0 where
  pub zeros : take 9 line ≡ codes "000000000"
  pub id : IsEmployerId owner.id
  pub id_is : take 15 (drop 10 line) ≡ kind_byte owner.id ∷ id_text owner.id
  pub cno : IsCno owner.cno
  pub cno_is : IsCnoText owner.cno (take 14 (drop 25 line))
  pub name : IsText 150 owner.name
  pub name_is : take 150 (drop 39 line) ≡ padded 150 owner.name
  pub rep : IsRepNumber owner.rep
  pub rep_is : take 17 (drop 189 line) ≡ owner.rep
