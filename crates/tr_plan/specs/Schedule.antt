-- The tables `schedule` of a plan file: working hours (record 04 of an AEJ, Portaria MTP 671/2021, annex VI). The format
-- is this project's own.
use Rattle.std.specs.Prelude.{◌≡◌, ◌≢◌, ◌≤◌, ◌*◌, ℕ, List, [], ◌∷◌, ◌++◌, length, codes, map, All}
use Rattle.rep_fields.specs.Moment.{IsMinuteOfDay, hours_text}
use Rattle.toml.specs.Data.{Data, Members, string}
use Rattle.toml.specs.View.{items_of}
use Rattle.toml_fields.specs.Table.{HasArray, HasOnly}
use Rattle.toml_fields.specs.Fields.{HasNumber}
use Rattle.tr_plan.specs.Fields.{IsPlain, HasPlain}
use Rattle.tr_plan.specs.Rows.{HasTable, IsRowOff, IsTableOff}
use Rattle.tr_plan.specs.declared.schedule.Schedule.{Schedule}
use Rattle.tr_plan.specs.declared.schedule.ScheduleFault.{ScheduleFault}
use Rattle.tr_plan.specs.declared.schedule.ScheduleFault.TheVariants.{Off, OutOfMemory}
use Rattle.tr_plan.specs.declared.schedule.ScheduleKey.{ScheduleKey}
use Rattle.tr_plan.specs.declared.schedule.ScheduleKey.TheVariants.{Code, Minutes, Times, Unknown}

abbrev pub schedule_number : ScheduleKey → ℕ
schedule_number Code = 1
schedule_number Minutes = 2
schedule_number Times = 3
schedule_number Unknown = 0

abbrev pub schedule_key_text : ScheduleKey → List ℕ
schedule_key_text Code = codes "code"
schedule_key_text Minutes = codes "minutes"
schedule_key_text Times = codes "times"
schedule_key_text Unknown = []

abbrev pub schedule_keys : List ScheduleKey
schedule_keys = Code ∷ Minutes ∷ Times ∷ []

abbrev pub schedule_key_texts : List (List ℕ)
schedule_key_texts = map schedule_key_text schedule_keys

abbrev pub schedule_looked_at : List ScheduleKey
schedule_looked_at = schedule_keys ++ Unknown ∷ []

-- 1 to 10 pairs
pub record IsTimesCount (count : ℕ) : Type 0 where
  pub pairs : ℕ
  pub some : 1 ≤ pairs
  pub few : pairs ≤ 10
  pub even : count ≡ 2 * pairs

-- pairs of an entry and an exit, each a minute of the day
pub record AreTimes (times : List ℕ) : Type 0 where
  pub count : IsTimesCount (length times)
  pub each : All IsMinuteOfDay times

-- a time of day as a text of TOML
abbrev pub time_text : ℕ → Data
time_text minute = string (hours_text minute)

-- an array of their texts stands at the key
pub record HasTimes (members : Members) (key : List ℕ) (times : List ℕ) : Type 0 where
  pub are : AreTimes times
  pub there : HasArray members key (items_of (map time_text times))

-- what each key says. A code isn't used before
abbrev pub IsNewCode : List Schedule → List ℕ → Type 0
IsNewCode earlier code = All (λ schedule. schedule.code ≢ code) earlier

abbrev pub SaysCode : List Schedule → Members → List ℕ → Type 0
SaysCode earlier row code = HasPlain 1 30 row (schedule_key_text Code) code × IsNewCode earlier code

abbrev pub SaysMinutes : Members → ℕ → Type 0
SaysMinutes row minutes = HasNumber 1 1440 row (schedule_key_text Minutes) minutes

abbrev pub SaysTimes : Members → List ℕ → Type 0
SaysTimes row times = HasTimes row (schedule_key_text Times) times

-- the row says the schedule, after the schedules before it
pub record IsScheduleOf (earlier : List Schedule) (row : Members) (schedule : Schedule) : Type 0 where
  pub code : SaysCode earlier row schedule.code
  pub minutes : SaysMinutes row schedule.minutes
  pub times : SaysTimes row schedule.times
  pub known : HasOnly schedule_key_texts row

abbrev pub IsScheduleKeySound : List Schedule → Members → ScheduleKey → Type 0
IsScheduleKeySound earlier row Code = (code : List ℕ) × SaysCode earlier row code
IsScheduleKeySound earlier row Minutes = (minutes : ℕ) × SaysMinutes row minutes
IsScheduleKeySound earlier row Times = (times : List ℕ) × SaysTimes row times
IsScheduleKeySound earlier row Unknown = HasOnly schedule_key_texts row

abbrev pub IsScheduleOff : List Schedule → Data → ScheduleKey → Type 0
IsScheduleOff earlier = IsRowOff (IsScheduleKeySound earlier) schedule_looked_at Unknown

-- the tables say the schedules
abbrev pub HasSchedules : Members → List Schedule → Type 0
HasSchedules members schedules = HasTable IsScheduleOf members (codes "schedule") schedules

-- they don't, from this place and key on
abbrev pub AreSchedulesOff : Members → ℕ → ℕ → Type 0
AreSchedulesOff members place number =
    IsTableOff schedule_number IsScheduleOf IsScheduleOff members (codes "schedule") place number

-- a schedule that its reader can give
pub record IsSchedule (schedule : Schedule) : Type 0 where
  pub code : IsPlain 1 30 schedule.code
  pub some_minutes : 1 ≤ schedule.minutes
  pub minutes : schedule.minutes ≤ 1440
  pub times : AreTimes schedule.times

-- why a row is no schedule: its first key that is off, or want of memory
abbrev pub IsScheduleFault : List Schedule → Data → ScheduleFault → Type 0
IsScheduleFault earlier found (Off key) = IsScheduleOff earlier found key
IsScheduleFault earlier found OutOfMemory = Unit {0}
