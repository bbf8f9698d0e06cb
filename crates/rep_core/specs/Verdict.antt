-- What the recorder makes of a request, over a history and a limit of numbers: the first case that holds, by a search
-- through the list. This project's own.
use Rattle.std.specs.Prelude.{ℕ, ◌<◌, ◌≤◌, List, Option, Some, None, length}
use Rattle.std.specs.Prelude.{◌≤ℤ◌}
use Rattle.rep_fields.specs.Moment.{Moment, instant_of}
use Rattle.afd_records.specs.declared.record.Op.{Op}
use Rattle.afd_records.specs.declared.record.Op.TheVariants.{Include, Amend, Exclude}
use Rattle.rep_wire.specs.Made.{IsSame}
use Rattle.rep_wire.specs.declared.request.Ask.{Ask}
use Rattle.rep_wire.specs.declared.request.Ask.TheVariants.{Mark, Employer, Worker, Adjust, Event}
use Rattle.rep_wire.specs.declared.request.Request.{Request}
use Rattle.rep_wire.specs.declared.request.Entry.{Entry}
use Rattle.rep_core.specs.History.{IsFound, IsNew, last_worker}
use Rattle.rep_core.specs.Lookup.{FindsPair}
use Rattle.rep_core.specs.declared.verdict.WorkerState.{WorkerState}
use Rattle.rep_core.specs.declared.verdict.Verdict.{Verdict}
use Rattle.rep_core.specs.declared.verdict.Verdict.TheVariants.{Repeat, Conflict, Unregistered, Exhausted, Fresh}

-- A worker whose last record includes or amends is known. One whose last record excludes is known for a clocking
-- that was kept offline and marked no later than that record was taken.
abbrev pub IsKnownBy : Op → Moment → Option Moment → Type 0
IsKnownBy Include at mark = Unit {0}
IsKnownBy Amend at mark = Unit {0}
IsKnownBy Exclude at None = ⊥
IsKnownBy Exclude at (Some mark) = instant_of mark ≤ℤ instant_of at

abbrev pub IsKnown : Option WorkerState → Option Moment → Type 0
IsKnown None mark = ⊥
IsKnown (Some state) mark = IsKnownBy state.op state.at mark

-- the worker is registered now
abbrev pub IsRegistered : Option WorkerState → Type 0
IsRegistered state = IsKnown state None

-- a registration is changed or ended only where there is one
abbrev pub MayBe : Op → Option WorkerState → Type 0
MayBe Include state = Unit {0}
MayBe Amend state = IsRegistered state
MayBe Exclude state = IsRegistered state

-- the workers that the request names are registered as far as it needs them
abbrev pub HasWorker : List Entry → Ask → Type 0
HasWorker h (Mark cpf collector at) = IsKnown (last_worker cpf h) at
HasWorker h (Employer resp id cno name place) = Unit {0}
HasWorker h (Worker op cpf name extra resp) = MayBe op (last_worker cpf h)
HasWorker h (Adjust before resp) = Unit {0}
HasWorker h (Event code) = Unit {0}

-- The first case that holds: it was recorded before with this content, or its pair with another; its worker isn't
-- registered; there is no number left; else it is to be recorded.
abbrev pub IsVerdict : ℕ → List Entry → Request → Verdict → Type 0
IsVerdict limit h q (Repeat nsr) = (e : Entry) × IsFound q.origin q.seq h nsr e × IsSame q.ask e.body
IsVerdict limit h q (Conflict nsr) = (e : Entry) × IsFound q.origin q.seq h nsr e × (IsSame q.ask e.body → ⊥)
IsVerdict limit h q Unregistered = IsNew q.origin q.seq h × (HasWorker h q.ask → ⊥)
IsVerdict limit h q Exhausted = IsNew q.origin q.seq h × HasWorker h q.ask × (limit ≤ length h)
IsVerdict limit h q Fresh = IsNew q.origin q.seq h × HasWorker h q.ask × (length h < limit)

-- The verdict by the entry that was read for the request's pair, which alone tells whether the content is the same. The
-- number is that of the pair.
abbrev pub IsVerdictBy : Option Entry → ℕ → List Entry → Request → Verdict → Type 0
IsVerdictBy None limit h q verdict = IsVerdict limit h q verdict
IsVerdictBy (Some e) limit h q (Repeat nsr) = FindsPair q.origin q.seq h (Some nsr) × IsSame q.ask e.body
IsVerdictBy (Some e) limit h q (Conflict nsr) = FindsPair q.origin q.seq h (Some nsr) × (IsSame q.ask e.body → ⊥)
IsVerdictBy (Some e) limit h q Unregistered = ⊥
IsVerdictBy (Some e) limit h q Exhausted = ⊥
IsVerdictBy (Some e) limit h q Fresh = ⊥
