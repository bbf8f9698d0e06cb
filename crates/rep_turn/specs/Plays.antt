-- What each kind of step tells the participant that takes it: of the step, the seat before, the number found and the seat after.
use Rattle.std.specs.Prelude.{◌≡◌, ◌≢◌, ℕ, ◌+◌, ◌^◌, ◌<◌, ◌≤◌, [], ◌∷◌, Option, Some}
use Rattle.atomic_table.specs.Table.{Me, Step, rest}
use Rattle.rep_turn.specs.declared.view.View.{View}
use Rattle.rep_turn.specs.Log.{Meaning, Begins, entries, own, made_of}
use Rattle.rep_turn.specs.Views.{times, unnumbered, numbered, holding, publishing, giving, looking}

module _ {B E : Type 0} (meaning : B → Meaning E) where
  -- The state as a participant finds it: it shows all that the participant has seen, has made at least as many entries as each count that it looked at, and has no other notes of its own
  pub record Finds (v : View E) (state : B) : Type 0 where
    pub same_base : (meaning state).base ≡ v.base
    pub same_start : (meaning state).start ≡ v.start
    pub begins : Begins v.seen (meaning state).seen
    pub counted : v.front ≤ made_of (meaning state)
    pub own_seen : (k : ℕ) → 0 < times k v.numbers → own k v.seen.notes ≡ own k (meaning state).seen.notes

  pub record Takes (m n : Me (Option B) (View E)) : Type 0 where
    pub state : B
    pub finds : Finds m.0 state
    pub now_held : n ≡ (holding m.0 (meaning state).seen, (0, Some state) ∷ m.1)

  abbrev pub took : Step (Option B) → Me (Option B) (View E) → ℕ → Me (Option B) (View E) → Type 0
  took st m r n = (r ≡ 0 → Takes m n) × (r ≢ 0 → n ≡ m)

  abbrev pub published : Step (Option B) → Me (Option B) (View E) → ℕ → Me (Option B) (View E) → Type 0
  published st m r n = (state : B) → m.1 ≡ (0, Some state) ∷ [] → n ≡ (publishing m.0 (meaning state).seen, m.1)

module _ {S E : Type 0} where
  abbrev pub gave : Step S → Me S (View E) → ℕ → Me S (View E) → Type 0
  gave st m r n = n ≡ (giving m.0, rest m.1)

  -- nothing is told
  abbrev pub passed : Step S → Me S (View E) → ℕ → Me S (View E) → Type 0
  passed st m r n = n ≡ m

  -- the visible count is at least what it has seen, and each count that it looked at
  pub record Looks (m n : Me S (View E)) (found : ℕ) : Type 0 where
    pub fits : found < 2 ^ 32
    pub covers : m.0.base + entries m.0.seen.notes ≤ found
    pub counted : m.0.front ≤ found
    pub now_looked : n ≡ (looking m.0 found, m.1)

  abbrev pub looked : Step S → Me S (View E) → ℕ → Me S (View E) → Type 0
  looked st m r n = Looks m n r

  abbrev pub drew : Step S → Me S (View E) → ℕ → Me S (View E) → Type 0
  drew st m r n = (r ≡ st.first → (m.0.least_next ≤ r) × (n ≡ (numbered m.0 r, m.1))) × (r ≢ st.first → n ≡ m)

  abbrev pub sat : Step S → Me S (View E) → ℕ → Me S (View E) → Type 0
  sat st m r n = n.0 ≡ unnumbered m.0
