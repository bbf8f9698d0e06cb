-- What a recorder does over a copy of a world's disk: this project's own.
use Rattle.std.specs.Prelude.{◌≡◌, ◌⊎◌, ℕ, ◌+◌, ◌-◌, ◌*◌, ◌<◌, ◌≤◌, List, length, ◌∷◌, Option, Some, None, []}
use Rattle.rep_fields.specs.Moment.{moment_at}
use Rattle.rep_disk.specs.Disk.{last_moment}
use Rattle.rep_disk.specs.Memory.{Memory, memory_shown, state_at}
use Rattle.rep_disk.specs.Record.{image_of}
use Rattle.rep_disk.specs.declared.image.Image.{Image}
use Rattle.rep_wire.specs.declared.request.Request.{Request}
use Rattle.rep_wire.specs.declared.request.Entry.{Entry}
use Rattle.rep_wire.specs.declared.reply.Reply.{Reply}
use Rattle.rep_core.specs.History.{days_of}
use Rattle.rep_core.specs.Verdict.{IsVerdict}
use Rattle.rep_core.specs.Answered.{recorded_after, entry_of, IsReply}
use Rattle.rep_core.specs.declared.verdict.Verdict.TheVariants.{Fresh}
use Rattle.rep_ledger.specs.Ledger.{IsLedgerOf}
use Rattle.rep_site.specs.declared.site.Site.{Site}
use Rattle.afd_extract.specs.Period.{IsPeriod, Range}
use Rattle.rep_store.specs.Extracting.{IsAfdOf}
use Rattle.rep_store.specs.Founding.{founding_request}
use Rattle.rep_store.specs.State.{State}
use Rattle.rep_store.specs.Steps.{IsKeptAsWas}
use Rattle.sure_disk.specs.Sure.{sure_shown}
use Rattle.rep_world.specs.Events.{Counts, KeepsBetween, PutsOn, RecordsIn, SettlesIn, first_minute, history_at, history_left}
use Rattle.rep_world.specs.Fields.{Runs}
use Rattle.rep_world.specs.declared.dial.Dial.{Dial}
use Rattle.rep_world.specs.declared.recorder.Left.{Left}
use Rattle.rep_world.specs.declared.recorder.Recorder.{Recorder}
use Rattle.rep_world.specs.declared.recorder.Recorder.TheVariants.{Up, Down}

-- each image of now that has a name is one that a crash may leave
abbrev pub AllowsNamed : Memory → Type 0
AllowsNamed disk = (name : Image) → (memory_shown disk).may_leave disk.moment (image_of name (state_at disk disk.moment))

-- each history that the bytes keep has so many entries
abbrev pub CountsEach : List ℕ → ℕ → Type 0
CountsEach bytes n = (h : List Entry) → IsLedgerOf bytes h → n ≡ length h

-- a store was made of the site's employer record
pub record IsMade (site : Site) (store : State Memory Dial) : Type 0 where
  pub runs : Runs site store
  pub history : store.history ≡ entry_of (founding_request site) (moment_at first_minute site.offset) ∷ []

-- a store was opened on these bytes
pub record IsOpened (site : Site) (bytes : List ℕ) (store : State Memory Dial) : Type 0 where
  pub runs : Runs site store
  pub same : store.disk.bytes ≡ bytes

-- a store that goes on served a request at this minute
pub record ServedAt (site : Site) (minute : ℕ) (q : Request) (old new : State Memory Dial) (reply : Reply) : Type 0 where
  pub runs : Runs site new
  pub recorded : RecordsIn site minute q old.history old.disk.bytes new.history new.disk.bytes
      ⊎ SettlesIn site q old.history old.disk.bytes new.history new.disk.bytes
  pub answered : IsReply site.last_nsr new.history q reply

-- the request is to be recorded after the history that the bytes keep
pub record DueOn (site : Site) (minute : ℕ) (q : Request) (bytes : List ℕ) (before whole : List Entry) : Type 0 where
  pub kept : IsLedgerOf bytes before
  pub fresh : IsVerdict site.last_nsr before q Fresh
  pub is_whole : whole ≡ recorded_after before q (moment_at minute site.offset)

-- the device call with this number failed, and this disk is left
pub record FailsOn (site : Site) (minute call : ℕ) (q : Request) (bytes : List ℕ) (left : Memory) : Type 0 where
  pub before : List Entry
  pub whole : List Entry
  pub due : DueOn site minute q bytes before whole
  pub is_left : IsLedgerOf left.bytes (history_left call before whole)
  pub images : left.moment < last_moment → (image : List ℕ) → (memory_shown left).may_leave left.moment image
      → KeepsBetween before whole image
  pub closed : call ≤ 2 → left.moment < last_moment → (image : List ℕ) → (memory_shown left).may_leave left.moment image
      → IsLedgerOf image before
  pub by_name : left.moment < last_moment → (name : Image)
      → IsLedgerOf (image_of name (state_at left left.moment)) (history_at call name before whole)

-- a crash came within the device call with this number, and left these bytes
pub record CrashesOn (site : Site) (minute call : ℕ) (image : Image) (q : Request) (bytes left : List ℕ) : Type 0 where
  pub before : List Entry
  pub whole : List Entry
  pub due : DueOn site minute q bytes before whole
  pub during : Memory
  pub begun : ℕ
  pub puts : PutsOn bytes before whole begun during
  pub is_left : left ≡ image_of image (state_at during (begun + (2 * call - 1)))
  pub allowed : (memory_shown during).may_leave (begun + (2 * call - 1)) left
  pub keeps : IsLedgerOf left (history_at call image before whole)

-- the request isn't to be recorded
pub record SettledOn (site : Site) (q : Request) (bytes : List ℕ) : Type 0 where
  pub before : List Entry
  pub kept : IsLedgerOf bytes before
  pub settled : IsVerdict site.last_nsr before q Fresh → ⊥

abbrev pub FailsOrSettles : Site → ℕ → ℕ → Request → List ℕ → Option Left → Type 0
FailsOrSettles site minute call q bytes None = SettledOn site q bytes
FailsOrSettles site minute call q bytes (Some left) =
    FailsOn site minute call q bytes left.disk × Counts left.disk.bytes left.entries

-- the recorder answered where it is up, and is as it was where it is down
abbrev pub AnswersBy : Site → ℕ → Request → Recorder → Recorder → Option Reply → Type 0
AnswersBy site minute q (Up old) (Up new) (Some reply) = ServedAt site minute q old new reply
AnswersBy site minute q (Down old) (Down new) None = new ≡ old
AnswersBy site minute q _ _ _ = ⊥

-- a store's records have a period, whose AFD has so many bytes, whatever the minute
pub record ExtractsPeriod (from to : ℕ) (store : State Memory Dial) (bytes : ℕ) : Type 0 where
  pub range : Range
  pub period : IsPeriod (days_of store.history) from to range
  pub of_afd : (minute : ℕ) (text : List ℕ) → IsAfdOf store.site store.history from to minute text → bytes ≡ length text

-- so many bytes has the AFD of a period where the recorder is up
abbrev pub ExtractsFrom : Recorder → ℕ → ℕ → Option ℕ → Type 0
ExtractsFrom (Up store) from to (Some bytes) = ExtractsPeriod from to store bytes
ExtractsFrom (Down disk) from to None = Unit {0}
ExtractsFrom _ from to _ = ⊥

-- nothing changed but what was read, or the clock
abbrev pub IsLeftAlone : Recorder → Recorder → Type 0
IsLeftAlone (Up old) (Up new) = IsKeptAsWas sure_shown old new
IsLeftAlone (Down old) (Down new) = new ≡ old
IsLeftAlone _ _ = ⊥
