-- What a participant knows, and how its view changes at each kind of step. This project's own.
use Rattle.std.specs.Prelude.{◌≡◌, ℕ, ◌+◌, max, Bool, true, false, cond, nat_lt, ◌==◌, List, [], ◌∷◌, ◌++◌, length, map, Option, Some, None}
use Rattle.rep_turn.specs.declared.note.Seen.{Seen}
use Rattle.rep_turn.specs.declared.view.Token.{Token}
use Rattle.rep_turn.specs.declared.view.View.{View}
use Rattle.rep_turn.specs.Log.{Meaning}

abbrev pub one_if : Bool → ℕ
one_if true = 1
one_if false = 0

-- the sum of f over a list
abbrev pub total : {A : Type 0} → (A → ℕ) → List A → ℕ
total f [] = 0
total f (x ∷ xs) = f x + total f xs

-- how often a number stands among these
abbrev pub times : ℕ → List ℕ → ℕ
times k numbers = total (λ n. one_if (n == k)) numbers

abbrev pub longer : {A : Type 0} → List A → List A → List A
longer xs ys = cond (nat_lt (length xs) (length ys)) ys xs

module _ {E : Type 0} where
  -- the view of the first participant, which has number 0
  abbrev pub first_view : Meaning E → ℕ → View E
  first_view m most = record {
    seen = m.seen;
    base = m.base;
    start = m.start;
    most = most;
    numbers = 0 ∷ [];
    least_next = 1;
    holds = false;
    taken = m.seen;
    front = 0;
    gathered = [];
    spent = false;
  }

  -- the same with no number: a new view, or what is left of one that is split
  abbrev pub unnumbered : View E → View E
  unnumbered v = record v { numbers = [] }

  abbrev pub numbered : View E → ℕ → View E
  numbered v k = record v { numbers = k ∷ []; least_next = k + 1 }

  -- it holds the state, which shows this
  abbrev pub holding : View E → Seen E → View E
  holding v shown = record v { holds = true; taken = shown }

  -- the state as it was when the view took it
  abbrev pub taken_meaning : View E → Meaning E
  taken_meaning v = record { base = v.base; start = v.start; seen = v.taken }

  -- it has made this visible to all
  abbrev pub publishing : View E → Seen E → View E
  publishing v shown = record v { seen = shown; taken = shown }

  abbrev pub giving : View E → View E
  giving v = record v { holds = false }

  abbrev pub looking : View E → ℕ → View E
  looking v count = record v { front = count }

  abbrev pub longer_past : Option (List E) → Option (List E) → Option (List E)
  longer_past None ys = ys
  longer_past (Some xs) None = Some xs
  longer_past (Some xs) (Some ys) = Some (longer xs ys)

  -- all that either shows, where one begins the other
  abbrev pub longer_seen : Seen E → Seen E → Seen E
  longer_seen a b = record { notes = longer a.notes b.notes; past = longer_past a.past b.past }

  -- what a view with that number knew
  abbrev pub token : View E → ℕ → Token E
  token v k = record { number = k; seen = v.seen; front = v.front }

  -- the first view after the second was joined into it
  abbrev pub joining : View E → View E → View E
  joining v w = record v {
    seen = longer_seen v.seen w.seen;
    front = max v.front w.front;
    numbers = v.numbers ++ w.numbers;
    gathered = v.gathered ++ map (token w) w.numbers;
  }

  -- the view that was joined into another
  abbrev pub spent_view : View E
  spent_view = record {
    seen = record { notes = []; past = None };
    base = 0;
    start = [];
    most = 0;
    numbers = [];
    least_next = 0;
    holds = false;
    taken = record { notes = []; past = None };
    front = 0;
    gathered = [];
    spent = true;
  }

  -- 1 for a view that holds the state
  abbrev pub holder : View E → ℕ
  holder v = one_if v.holds

  -- It holds nothing, and nothing was joined into it
  pub record IsFree (v : View E) : Type 0 where
    pub live : v.spent ≡ false
    pub holds_nothing : v.holds ≡ false
    pub gathers_nothing : v.gathered ≡ []

  -- It holds the state, and nothing was joined into it
  pub record IsHolder (v : View E) : Type 0 where
    pub live : v.spent ≡ false
    pub holds_it : v.holds ≡ true
    pub gathers_nothing : v.gathered ≡ []
