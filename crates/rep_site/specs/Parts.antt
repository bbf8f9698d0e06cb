-- The two parts of a site, as its reader puts them together.
use Rattle.toml.specs.Data.{Members}
use Rattle.rep_site.specs.Reading.{SaysEmployer, SaysCno, SaysName, SaysPlace, SaysResponsible, SaysRep, SaysDeveloper, SaysOffset, SaysLastNsr, SaysRestarts}
use Rattle.rep_site.specs.declared.reading.Employing.{Employing}
use Rattle.rep_site.specs.declared.reading.Recording.{Recording}

-- the keys of the employer say it
pub record IsEmployingOf (members : Members) (part : Employing) : Type 0 where
  pub employer : SaysEmployer members part.employer
  pub cno : SaysCno members part.cno
  pub name : SaysName members part.name
  pub place : SaysPlace members part.place
  pub responsible : SaysResponsible members part.responsible

-- the keys of the recorder say it
pub record IsRecordingOf (members : Members) (part : Recording) : Type 0 where
  pub rep : SaysRep members part.rep
  pub developer : SaysDeveloper members part.developer
  pub offset : SaysOffset members part.offset
  pub last_nsr : SaysLastNsr members part.last_nsr
  pub restarts : SaysRestarts members part.restarts
