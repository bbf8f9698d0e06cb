-- Laws of ranges: what a plan file says is in its ranges, and its rules across rows hold.
use Rattle.std.proofs.Common.{◌≢◌, ℕ, ◌≤◌, List, get_or, take, All, Option, Some, None, inl, inr, subst, arith}
use Rattle.std.specs.Prelude.{AllPairs}
use Rattle.std.proofs.lemmas.List.{get_or-take, length-take-le}
use Rattle.rep_fields.specs.Calendar.{IsDay, last_day}
use Rattle.rep_fields.specs.Moment.{IsMinuteOfDay}
use Rattle.toml.specs.Data.{Data, Members}
use Rattle.toml_fields.specs.Table.{HasOr}
use Rattle.toml_fields.specs.Fields.{HasNumber}
use Rattle.tr_plan.specs.Fields.{HasDay, HasTime}
use Rattle.tr_plan.specs.Rows.{AreRows}
use Rattle.tr_plan.specs.Program.{IsProgram, IsProgramOf, program_key_text}
use Rattle.tr_plan.specs.Schedule.{IsSchedule, IsScheduleOf, schedule_key_text}
use Rattle.tr_plan.specs.Link.{IsLink, IsLinkOf, HasLinks, BeginsFirst, link_key_text}
use Rattle.tr_plan.specs.Disregard.{IsDisregard, IsDisregardOf, disregard_key_text}
use Rattle.tr_plan.specs.Include.{IsInclude, IsIncludeOf, IsSource, SaysSource, include_key_text}
use Rattle.tr_plan.specs.Absence.{IsAbsence, IsAbsenceOf, SaysMinutes, SaysMovement, AreMinutesFor, IsMovementFor}
use Rattle.tr_plan.specs.Plan.{IsPlan}
use Rattle.tr_plan.specs.Reading.{IsPlanOf}
use Rattle.tr_plan.specs.declared.absence.Absence.{Absence}
use Rattle.tr_plan.specs.declared.disregard.Disregard.{Disregard}
use Rattle.tr_plan.specs.declared.disregard.DisregardKey.TheVariants as disregard
use Rattle.tr_plan.specs.declared.include.Include.{Include}
use Rattle.tr_plan.specs.declared.include.IncludeKey.TheVariants as include
use Rattle.tr_plan.specs.declared.link.Link.{Link}
use Rattle.tr_plan.specs.declared.link.LinkKey.TheVariants as link
use Rattle.tr_plan.specs.declared.plan.Plan.{Plan}
use Rattle.tr_plan.specs.declared.program.Program.{Program}
use Rattle.tr_plan.specs.declared.program.ProgramKey.TheVariants as program
use Rattle.tr_plan.specs.declared.schedule.Schedule.{Schedule}
use Rattle.tr_plan.specs.declared.schedule.ScheduleKey.TheVariants as schedule
use Rattle.tr_plan.proofs.RowLemmas.{blank}
use Rattle.tr_plan.proofs.ValueLemmas.{plain_in_range, plain_or_in_range, digits_or_in_range}

module _ {V : Type 0} (Says : List V → Members → V → Type 0) where
  -- what each row's value meets
  All-said : (P : V → Type 0) → ((earlier : List V) (row : Members) (v : V) → Says earlier row v → P v) → (rows : List Data) (values : List V)
      → AreRows Says rows values → All P values
  All-said P holds rows values are = λ k d within.
      let row = are.each k blank d (omega (arith, are.size)) in holds (take k values) row.0 (get_or values k d) row.2

  -- what each row's value meets beside those before it
  AllPairs-said : (R : V → V → Type 0) → ((earlier : List V) (row : Members) (v : V) → Says earlier row v → All (λ e. R e v) earlier)
      → (rows : List Data) (values : List V) → AreRows Says rows values → AllPairs R values
  AllPairs-said R holds rows values are = λ i j d less within.
      let row = are.each j blank d (omega (arith, are.size)) in
      let all = holds (take j values) row.0 (get_or values j d) row.2 in
      subst (λ (e : V). R e (get_or values j d)) (get_or-take j values i d less) (all i d (omega (arith, length-take-le j values (omega arith))))

number_or_in_range : (default least most : ℕ) (ms : Members) (key : List ℕ) (n : ℕ) → least ≤ default → default ≤ most
    → HasOr default (HasNumber least most) ms key n → (least ≤ n) × (n ≤ most)
number_or_in_range default least most ms key n low high (inl none) = (omega (arith, none.1), omega (arith, none.1))
number_or_in_range default least most ms key n low high (inr there) = (there.above, there.below)

program_in_range : (row : Members) (v : Program) → IsProgramOf row v → IsProgram v
program_in_range row v is =
    let kind = number_or_in_range 3 1 3 row (program_key_text program.RepKind) v.rep_kind (omega arith) (omega arith) is.rep_kind in
    record {
      name = plain_in_range 1 150 row (program_key_text program.Name) v.name is.name;
      version = plain_in_range 1 8 row (program_key_text program.Version) v.version is.version;
      developer = is.developer.1.in_range;
      developer_name = plain_in_range 1 150 row (program_key_text program.DeveloperName) v.developer_name is.developer_name;
      email = plain_in_range 1 50 row (program_key_text program.Email) v.email is.email;
      offset = is.offset.in_range;
      some_rep_kind = kind.0;
      rep_kind = kind.1;
      caepf = digits_or_in_range row (program_key_text program.Caepf) v.caepf is.caepf;
      cno = digits_or_in_range row (program_key_text program.Cno) v.cno is.cno;
    }

schedule_in_range : (earlier : List Schedule) (row : Members) (v : Schedule) → IsScheduleOf earlier row v → IsSchedule v
schedule_in_range earlier row v is = record {
  code = plain_in_range 1 30 row (schedule_key_text schedule.Code) v.code is.code.0;
  some_minutes = is.minutes.above;
  minutes = is.minutes.below;
  times = is.times.are;
}

day_or_in_range : (row : Members) (key : List ℕ) (day : ℕ) → HasOr last_day HasDay row key day → IsDay day
day_or_in_range row key day (inl none) = omega (arith, none.1)
day_or_in_range row key day (inr has) = has.in_range

time_or_in_range : (row : Members) (key : List ℕ) (minute : ℕ) → HasOr 0 HasTime row key minute → IsMinuteOfDay minute
time_or_in_range row key minute (inl none) = omega (arith, none.1)
time_or_in_range row key minute (inr has) = has.in_range

link_in_range : (earlier : List Link) (row : Members) (v : Link) → IsLinkOf earlier row v → IsLink v
link_in_range earlier row v is = record {
  some_id = is.id.0.above;
  id = is.id.0.below;
  cpf = is.cpf.in_range;
  name = plain_in_range 1 150 row (link_key_text link.Name) v.name is.name;
  schedule = plain_in_range 1 30 row (link_key_text link.Schedule) v.schedule is.schedule;
  in_order = is.until.1;
  until = day_or_in_range row (link_key_text link.Until) v.until is.until.0;
  turn = time_or_in_range row (link_key_text link.Turn) v.turn is.turn;
  esocial = plain_or_in_range 30 row (link_key_text link.Esocial) v.esocial is.esocial;
}

-- links begin by their last days
pub links_begin_first : (ms : Members) (links : List Link) → HasLinks ms links → All BeginsFirst links
links_begin_first ms links has = All-said IsLinkOf BeginsFirst (λ earlier row v is. is.until.1) has.rows links has.said

disregard_in_range : (earlier : List Disregard) (row : Members) (v : Disregard) → IsDisregardOf earlier row v → IsDisregard v
disregard_in_range earlier row v is = record {
  some_nsr = is.nsr.0.above;
  nsr = is.nsr.0.below;
  reason = plain_in_range 1 150 row (disregard_key_text disregard.Reason) v.reason is.reason;
}

source_in_range : (row : Members) (letter : ℕ) → SaysSource row letter → IsSource letter
source_in_range row letter (inl none) = inl none.1
source_in_range row letter (inr has) = has.0

include_in_range : (links : List Link) (earlier : List Include) (row : Members) (v : Include) → IsIncludeOf links earlier row v → IsInclude links v
include_in_range links earlier row v is = record {
  link = is.link.1;
  at = is.at.0.in_range;
  in_force = is.at.1;
  source = source_in_range row v.source is.source;
  reason = plain_or_in_range 150 row (include_key_text include.Reason) v.reason is.reason.0;
  needed = is.reason.1;
}

minutes_in_range : (row : Members) (kind : ℕ) (minutes : Option ℕ) → SaysMinutes row kind minutes → AreMinutesFor kind minutes
minutes_in_range row kind (Some minutes) has = has.below
minutes_in_range row kind None none = none.1

movement_in_range : (row : Members) (kind : ℕ) (movement : Option ℕ) → SaysMovement row kind movement → IsMovementFor kind movement
movement_in_range row kind (Some movement) has = (has.0.above, has.0.below, has.1)
movement_in_range row kind None none = none.1

absence_in_range : (links : List Link) (earlier : List Absence) (row : Members) (v : Absence) → IsAbsenceOf links earlier row v → IsAbsence links v
absence_in_range links earlier row v is = record {
  link = is.link.1;
  some_kind = is.kind.above;
  kind = is.kind.below;
  date = is.date.in_range;
  minutes = minutes_in_range row v.kind v.minutes is.minutes;
  movement = movement_in_range row v.kind v.movement is.movement;
}

-- what the members say is a plan
pub plan_in_range : (ms : Members) (plan : Plan) → IsPlanOf ms plan → IsPlan plan
plan_in_range ms plan is =
    let schedules = is.schedules in
    let links = is.links in
    let disregards = is.disregards in
    let includes = is.includes in
    let absences = is.absences in
    record {
      program = program_in_range is.program.0 plan.program is.program.2;
      schedules = All-said IsScheduleOf IsSchedule schedule_in_range schedules.rows plan.schedules schedules.said;
      codes_differ = AllPairs-said IsScheduleOf (λ earlier v. earlier.code ≢ v.code) (λ earlier row v says. says.code.1) schedules.rows plan.schedules schedules.said;
      links = All-said IsLinkOf IsLink link_in_range links.rows plan.links links.said;
      ids_differ = AllPairs-said IsLinkOf (λ earlier v. earlier.id ≢ v.id) (λ earlier row v says. says.id.1) links.rows plan.links links.said;
      known_codes = is.known_codes;
      apart = is.apart;
      disregards = All-said IsDisregardOf IsDisregard disregard_in_range disregards.rows plan.disregards disregards.said;
      nsrs_differ = AllPairs-said IsDisregardOf (λ earlier v. earlier.nsr ≢ v.nsr) (λ earlier row v says. says.nsr.1) disregards.rows plan.disregards disregards.said;
      includes = All-said (IsIncludeOf plan.links) (IsInclude plan.links) (include_in_range plan.links) includes.rows plan.includes includes.said;
      absences = All-said (IsAbsenceOf plan.links) (IsAbsence plan.links) (absence_in_range plan.links) absences.rows plan.absences absences.said;
    }
