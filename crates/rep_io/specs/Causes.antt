-- Why a call may answer that the outside failed: this project's own rule for sources, sinks, clocks and disks.
-- Each keeps a count of its faults. The count is a 64-bit number that never falls. One that stands at its last
-- value counts as risen, by any number.
use Rattle.std.specs.Prelude.{◌≡◌, ℕ, ◌+◌, ◌-◌, ◌^◌, ◌≤◌, min, OnErr, OnOk, Result}

-- the last value that a count of faults can have
abbrev pub last_count : ℕ
last_count = 2 ^ 64 - 1

-- the count rose by at least so many
abbrev pub RoseBy : ℕ → ℕ → ℕ → Type 0
RoseBy times before now = min (before + times) last_count ≤ now

-- the count rose
abbrev pub Rose : ℕ → ℕ → Type 0
Rose before now = RoseBy 1 before now

-- The count didn't fall in this call, and it rose exactly where the call failed: no failure is passed over.
pub record HasCause {T E : Type 0} (before now : ℕ) (result : Result T E) : Type 0 where
  pub later : before ≤ now
  pub failed : OnErr result (Rose before now)
  pub kept : OnOk result (now ≡ before)
