-- A plan: the treatment program, working hours, who works under them, and what is changed by hand. The order of the rows
-- is that of the file. The rules across rows are this project's own.
use Rattle.std.specs.Prelude.{◌≡◌, ◌≢◌, List, All, Any, AllPairs}
use Rattle.tr_plan.specs.Program.{IsProgram}
use Rattle.tr_plan.specs.Schedule.{IsSchedule}
use Rattle.tr_plan.specs.Link.{IsLink, AreApart}
use Rattle.tr_plan.specs.Disregard.{IsDisregard}
use Rattle.tr_plan.specs.Include.{IsInclude}
use Rattle.tr_plan.specs.Absence.{IsAbsence}
use Rattle.tr_plan.specs.declared.schedule.Schedule.{Schedule}
use Rattle.tr_plan.specs.declared.link.Link.{Link}
use Rattle.tr_plan.specs.declared.plan.Plan.{Plan}

-- some schedule has the link's code
abbrev pub HasKnownCode : List Schedule → Link → Type 0
HasKnownCode schedules link = Any (λ schedule. schedule.code ≡ link.schedule) schedules

-- no id stands for two links
abbrev pub HaveDifferentIds : List Link → Type 0
HaveDifferentIds links = AllPairs (λ earlier link. earlier.id ≢ link.id) links

-- a plan that its reader can give
pub record IsPlan (plan : Plan) : Type 0 where
  pub program : IsProgram plan.program
  pub schedules : All IsSchedule plan.schedules
  pub codes_differ : AllPairs (λ earlier schedule. earlier.code ≢ schedule.code) plan.schedules
  pub links : All IsLink plan.links
  pub ids_differ : HaveDifferentIds plan.links
  pub known_codes : All (HasKnownCode plan.schedules) plan.links
  pub apart : AllPairs AreApart plan.links
  pub disregards : All IsDisregard plan.disregards
  pub nsrs_differ : AllPairs (λ earlier disregard. earlier.nsr ≢ disregard.nsr) plan.disregards
  pub includes : All (IsInclude plan.links) plan.includes
  pub absences : All (IsAbsence plan.links) plan.absences
