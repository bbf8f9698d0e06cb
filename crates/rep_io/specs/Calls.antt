-- The calls of a form in memory: this project's own. They are numbered from 0, and those of a list fail. A number
-- or count that stands at its last value stays there.
use Rattle.std.specs.Prelude.{◌≡◌, ℕ, ◌+◌, min, List, Contains, MatchResult, Result}
use Rattle.rep_io.specs.Causes.{last_count}

pub record Calls : Type 0 where
  -- the number of the next call
  pub next : ℕ
  -- the numbers of the calls that fail
  pub fails : List ℕ
  -- how many calls have failed
  pub faults : ℕ

-- no call was made yet
abbrev pub no_calls : List ℕ → Calls
no_calls fails = record { next = 0; fails = fails; faults = 0 }

abbrev pub one_more : ℕ → ℕ
one_more count = min (count + 1) last_count

-- the next call is one of those that fail
abbrev pub IsListed : Calls → Type 0
IsListed calls = Contains calls.fails calls.next

-- the call was counted, and its fault too where it failed
abbrev pub CountsCall : {T E : Type 0} → Calls → Calls → Result T E → Type 0
CountsCall old new result =
    MatchResult result
    (λ _. new ≡ record { next = one_more old.next; fails = old.fails; faults = old.faults })
    (λ _. new ≡ record { next = one_more old.next; fails = old.fails; faults = one_more old.faults })
