-- What a site is: the employer, the recorder and its maker, and the limits of the recorder. The ids and the recorder's
-- number are those of Portaria MTP 671/2021, annex V; the ranges are this project's own.
use Rattle.std.specs.Prelude.{◌≡◌, ◌≤◌, ℕ, List, length, All}
use Rattle.rep_fields.specs.Digits.{FitsDigits, IsDigitByte}
use Rattle.rep_fields.specs.Latin.{IsText}
use Rattle.rep_fields.specs.Moment.{IsOffset}
use Rattle.rep_fields.specs.Identity.{IsCpf}
use Rattle.rep_fields.specs.Employer.{IsEmployerId}
use Rattle.rep_site.specs.declared.site.Site.{Site}

-- the greatest number of a record: nine digits, as on the lines of records
abbrev pub greatest_nsr : ℕ
greatest_nsr = 999999999

-- how many times a recorder that stopped may be started again: not yet
abbrev pub most_restarts : ℕ
most_restarts = 0

-- the number of a registered recorder: 17 digits
pub record IsRegistration (number : List ℕ) : Type 0 where
  pub size : length number ≡ 17
  pub digits : All IsDigitByte number

-- a site that its reader can give
pub record IsSite (site : Site) : Type 0 where
  pub employer : IsEmployerId site.employer
  pub cno : FitsDigits 14 site.cno
  pub name : IsText 150 site.name
  pub named : 1 ≤ length site.name
  pub place : IsText 100 site.place
  pub responsible : IsCpf site.responsible
  pub rep : IsRegistration site.rep
  pub developer : IsEmployerId site.developer
  pub offset : IsOffset site.offset
  pub some_nsr : 1 ≤ site.last_nsr
  pub last_nsr : site.last_nsr ≤ greatest_nsr
  pub restarts : site.restarts ≤ most_restarts
