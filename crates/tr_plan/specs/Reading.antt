-- A plan file, `plan.toml`: a TOML document whose tables say a plan. The format is this project's own. Its parts are
-- looked at one after the other: the tables by number, then for other tables, then the rules across rows.
use Rattle.std.specs.Prelude.{◌≡◌, ◌+◌, ◌<◌, ◌⊎◌, ℕ, List, [], ◌∷◌, codes, length, take, slice_index_or, All, Any, AllPairs}
use Rattle.toml.specs.Data.{Members}
use Rattle.toml_fields.specs.Table.{IsTomlOf, HasOnly}
use Rattle.tr_plan.specs.Program.{HasProgram, IsProgramOff, program_number}
use Rattle.tr_plan.specs.Schedule.{HasSchedules, AreSchedulesOff}
use Rattle.tr_plan.specs.Link.{HasLinks, AreLinksOff, AreApart, DoOverlap}
use Rattle.tr_plan.specs.Disregard.{HasDisregards, AreDisregardsOff}
use Rattle.tr_plan.specs.Include.{HasIncludes, AreIncludesOff}
use Rattle.tr_plan.specs.Absence.{HasAbsences, AreAbsencesOff}
use Rattle.tr_plan.specs.Plan.{HasKnownCode}
use Rattle.tr_plan.specs.declared.absence.Absence.{Absence}
use Rattle.tr_plan.specs.declared.disregard.Disregard.{Disregard}
use Rattle.tr_plan.specs.declared.fault.PlanFault.{PlanFault}
use Rattle.tr_plan.specs.declared.fault.PlanFault.TheVariants.{PlanField, UnknownCode, Overlap, OutOfMemory}
use Rattle.tr_plan.specs.declared.include.Include.{Include}
use Rattle.tr_plan.specs.declared.link.Link.{Link}
use Rattle.tr_plan.specs.declared.plan.Plan.{Plan}
use Rattle.tr_plan.specs.declared.program.Program.{Program}
use Rattle.tr_plan.specs.declared.program.ProgramKey.{ProgramKey}
use Rattle.tr_plan.specs.declared.schedule.Schedule.{Schedule}

-- the tables that a plan file may have
abbrev pub table_texts : List (List ℕ)
table_texts =
    codes "program" ∷ codes "schedule" ∷ codes "link" ∷ codes "disregard" ∷ codes "include" ∷ codes "absence" ∷ []

-- the members of the document say the plan, and there are no others
pub record IsPlanOf (members : Members) (plan : Plan) : Type 0 where
  pub program : HasProgram members plan.program
  pub schedules : HasSchedules members plan.schedules
  pub links : HasLinks members plan.links
  pub disregards : HasDisregards members plan.disregards
  pub includes : HasIncludes plan.links members plan.includes
  pub absences : HasAbsences plan.links members plan.absences
  pub known : HasOnly table_texts members
  pub known_codes : All (HasKnownCode plan.schedules) plan.links
  pub apart : AllPairs AreApart plan.links

-- the text is a TOML document that says the plan
pub record IsPlanText (text : List ℕ) (plan : Plan) : Type 0 where
  pub members : Members
  pub toml : IsTomlOf text members
  pub said : IsPlanOf members plan

-- the parts of a plan file in the order in which they are looked at
pub data PlanPart : Type 0 where
  program_part : PlanPart
  schedules_part : PlanPart
  links_part : PlanPart
  disregards_part : PlanPart
  includes_part : PlanPart
  absences_part : PlanPart
  -- that there is no other table
  others_part : PlanPart
  -- that the schedules' codes are known
  codes_part : PlanPart
  -- that links of one person are apart
  dates_part : PlanPart

abbrev pub plan_parts : List PlanPart
plan_parts =
    program_part ∷ schedules_part ∷ links_part ∷ disregards_part ∷ includes_part ∷ absences_part ∷ others_part
    ∷ codes_part ∷ dates_part ∷ []

-- nothing is off in the part; some parts are looked at under others
abbrev pub IsPartSound : Members → PlanPart → Type 0
IsPartSound ms program_part = (program : Program) × HasProgram ms program
IsPartSound ms schedules_part = (schedules : List Schedule) × HasSchedules ms schedules
IsPartSound ms links_part = (links : List Link) × HasLinks ms links
IsPartSound ms disregards_part = (disregards : List Disregard) × HasDisregards ms disregards
IsPartSound ms includes_part =
    (links : List Link) × (includes : List Include) × HasLinks ms links × HasIncludes links ms includes
IsPartSound ms absences_part =
    (links : List Link) × (absences : List Absence) × HasLinks ms links × HasAbsences links ms absences
IsPartSound ms others_part = HasOnly table_texts ms
IsPartSound ms codes_part =
    (schedules : List Schedule) × (links : List Link) × HasSchedules ms schedules × HasLinks ms links
    × All (HasKnownCode schedules) links
IsPartSound ms dates_part = (links : List Link) × HasLinks ms links × AllPairs AreApart links

-- the link at the place, counted from 1, is the first whose code no schedule has
pub record IsFirstUnknownCode (schedules : List Schedule) (links : List Link) (place : ℕ) : Type 0 where
  pub at : ℕ
  pub here : place ≡ at + 1
  pub within : at < length links
  pub unknown : (link : Link) → HasKnownCode schedules (slice_index_or links at link) → ⊥
  pub earlier : All (HasKnownCode schedules) (take at links)

-- the CPF is that of the first link that holds on a day of an earlier link of the same CPF
pub record IsFirstOverlap (links : List Link) (cpf : ℕ) : Type 0 where
  pub at : ℕ
  pub within : at < length links
  pub of : (link : Link) → (slice_index_or links at link).cpf ≡ cpf
  pub meets : (link : Link) → Any (λ earlier. DoOverlap earlier (slice_index_or links at link)) (take at links)
  pub earlier : AllPairs AreApart (take at links)

-- the part is off, and the fault says where
abbrev pub IsPartOff : Members → PlanPart → PlanFault → Type 0
IsPartOff ms program_part fault =
    (key : ProgramKey) × IsProgramOff ms key × (fault ≡ PlanField 1 0 (program_number key))
IsPartOff ms schedules_part fault =
    (place : ℕ) × (key : ℕ) × AreSchedulesOff ms place key × (fault ≡ PlanField 2 place key)
IsPartOff ms links_part fault =
    (place : ℕ) × (key : ℕ) × AreLinksOff ms place key × (fault ≡ PlanField 3 place key)
IsPartOff ms disregards_part fault =
    (place : ℕ) × (key : ℕ) × AreDisregardsOff ms place key × (fault ≡ PlanField 4 place key)
IsPartOff ms includes_part fault =
    (links : List Link) × (place : ℕ) × (key : ℕ) × HasLinks ms links × AreIncludesOff links ms place key
    × (fault ≡ PlanField 5 place key)
IsPartOff ms absences_part fault =
    (links : List Link) × (place : ℕ) × (key : ℕ) × HasLinks ms links × AreAbsencesOff links ms place key
    × (fault ≡ PlanField 6 place key)
IsPartOff ms others_part fault = (HasOnly table_texts ms → ⊥) × (fault ≡ PlanField 0 0 0)
IsPartOff ms codes_part fault =
    (schedules : List Schedule) × (links : List Link) × (place : ℕ) × HasSchedules ms schedules
    × HasLinks ms links × IsFirstUnknownCode schedules links place × (fault ≡ UnknownCode place)
IsPartOff ms dates_part fault =
    (links : List Link) × (cpf : ℕ) × HasLinks ms links × IsFirstOverlap links cpf × (fault ≡ Overlap cpf)

-- the first part that is off, with its fault
abbrev pub IsFirstPartOff : Members → List PlanPart → PlanFault → Type 0
IsFirstPartOff ms [] fault = ⊥
IsFirstPartOff ms (part ∷ parts) fault =
    IsPartOff ms part fault ⊎ (IsPartSound ms part × IsFirstPartOff ms parts fault)

abbrev pub IsFirstFault : Members → PlanFault → Type 0
IsFirstFault ms fault = IsFirstPartOff ms plan_parts fault

-- the text is a TOML document, and this its first fault
pub record IsFaultOf (text : List ℕ) (fault : PlanFault) : Type 0 where
  pub members : Members
  pub toml : IsTomlOf text members
  pub first : IsFirstFault members fault

-- want of memory, or the part is off
abbrev pub IsCause : Members → PlanPart → PlanFault → Type 0
IsCause ms part fault = (fault ≡ OutOfMemory) ⊎ IsPartOff ms part fault

-- want of memory, or the tables of marks and of absences are off under these links
abbrev pub IsIncludeCause : List Link → Members → PlanFault → Type 0
IsIncludeCause links ms fault =
    (fault ≡ OutOfMemory)
    ⊎ ((place : ℕ) × (key : ℕ) × AreIncludesOff links ms place key × (fault ≡ PlanField 5 place key))

abbrev pub IsAbsenceCause : List Link → Members → PlanFault → Type 0
IsAbsenceCause links ms fault =
    (fault ≡ OutOfMemory)
    ⊎ ((place : ℕ) × (key : ℕ) × AreAbsencesOff links ms place key × (fault ≡ PlanField 6 place key))

-- want of memory, or the first fault
abbrev pub IsFirstCause : Members → PlanFault → Type 0
IsFirstCause ms fault = (fault ≡ OutOfMemory) ⊎ IsFirstFault ms fault
