-- The two parts of a link, as its reader puts them together.
use Rattle.std.specs.Prelude.{List}
use Rattle.toml.specs.Data.{Members}
use Rattle.tr_plan.specs.Link.{SaysId, SaysCpf, SaysName, SaysSchedule, SaysSince, SaysUntil, SaysTurn, SaysEsocial, SaysOpening}
use Rattle.tr_plan.specs.declared.link.Link.{Link}
use Rattle.tr_plan.specs.declared.link.Person.{Person}
use Rattle.tr_plan.specs.declared.link.Terms.{Terms}

-- the keys of the person say it, after these links
pub record IsPersonOf (earlier : List Link) (row : Members) (part : Person) : Type 0 where
  pub id : SaysId earlier row part.id
  pub cpf : SaysCpf row part.cpf
  pub name : SaysName row part.name
  pub schedule : SaysSchedule row part.schedule

-- the keys of the terms say them
pub record AreTermsOf (row : Members) (part : Terms) : Type 0 where
  pub since : SaysSince row part.since
  pub until : SaysUntil row part.since part.until
  pub turn : SaysTurn row part.turn
  pub esocial : SaysEsocial row part.esocial
  pub opening : SaysOpening row part.opening
