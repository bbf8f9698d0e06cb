-- The two parts of a program, as its reader puts them together.
use Rattle.toml.specs.Data.{Members}
use Rattle.tr_plan.specs.Program.{SaysName, SaysVersion, SaysDeveloper, SaysDeveloperName, SaysEmail, SaysOffset, SaysRepKind, SaysCaepf, SaysCno}
use Rattle.tr_plan.specs.declared.program.Software.{Software}
use Rattle.tr_plan.specs.declared.program.Recorder.{Recorder}

-- the keys of the software say it
pub record IsSoftwareOf (row : Members) (part : Software) : Type 0 where
  pub name : SaysName row part.name
  pub version : SaysVersion row part.version
  pub developer : SaysDeveloper row part.developer
  pub developer_name : SaysDeveloperName row part.developer_name
  pub email : SaysEmail row part.email

-- the keys of the recorder and the employer say it
pub record IsRecorderOf (row : Members) (part : Recorder) : Type 0 where
  pub offset : SaysOffset row part.offset
  pub rep_kind : SaysRepKind row part.rep_kind
  pub caepf : SaysCaepf row part.caepf
  pub cno : SaysCno row part.cno
