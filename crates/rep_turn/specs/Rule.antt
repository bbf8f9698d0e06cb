-- The rule of the table under a guarded state. This project's own.
-- Word 0 is 1 while the state is taken, word 1 is the visible count, word 2 the next number, word 3 the number of participants. One slot holds the state.
-- Word 4 counts the threads that are about to park, or do. No fact rests on it.
-- `published` is what the state showed when it was last made visible to all.
use Rattle.std.specs.Prelude.{◌≡◌, ℕ, ◌+◌, ◌^◌, ◌<◌, ◌≤◌, true, false, nat_lt, List, [], ◌∷◌, length, Option, Some}
use mathlib.Core.Option.{some}
use mathlib.Core.Option as maybe
use lib.ListN.{get_elem?}
use Rattle.atomic_table.specs.Table.{State}
use Rattle.rep_turn.specs.declared.note.Seen.{Seen}
use Rattle.rep_turn.specs.declared.view.Token.{Token}
use Rattle.rep_turn.specs.declared.view.View.{View}
use Rattle.rep_turn.specs.Log.{Meaning, Begins, AllOwnedBelow, entries, own}
use Rattle.rep_turn.specs.Views.{total, times, holder, one_if}

module _ {E : Type 0} where
  -- What one participant saw is a beginning of what is published, with all notes of its own, and it looked at no count above the visible one
  pub record IsUnder (published : Seen E) (count : ℕ) (t : Token E) : Type 0 where
    pub begins : Begins t.seen published
    pub counted : t.front ≤ count
    pub own_seen : own t.number t.seen.notes ≡ own t.number published.notes

  pub record Knows (published : Seen E) (count next bound : ℕ) (first : Meaning E) (v : View E) : Type 0 where
    -- all views have one base, one start and one number of participants
    pub same_base : v.base ≡ first.base
    pub same_start : v.start ≡ first.start
    pub same_bound : v.most ≡ bound
    -- each seen log is a beginning of the published one, so of two the shorter begins the longer
    pub begins : Begins v.seen published
    -- each visible count that was looked at is at most the visible count
    pub counted : v.front ≤ count
    pub undrawn : v.least_next ≤ next
    -- who holds the state has a number, and took it as it was published
    pub has_taken : v.holds ≡ true → v.taken ≡ published
    pub has_number : v.holds ≡ true → 0 < length v.numbers
    -- each published note whose owner is a number of the view was seen
    pub own_seen : (k : ℕ) → 0 < times k v.numbers → own k v.seen.notes ≡ own k published.notes
    -- what was joined into it keeps to this too, and its numbers are there
    pub gathers : (i : ℕ) (t : Token E) → get_elem? v.gathered i ≡ some t → IsUnder published count t × (0 < times t.number v.numbers)

module _ {B E : Type 0} (meaning : B → Meaning E) where
  -- The state is at home, and shows just what is published
  pub record IsHome (published : Seen E) (first : Meaning E) (homes : List (maybe.Option (Option B))) : Type 0 where
    pub state : B
    pub at_home : get_elem? homes 0 ≡ some (some (Some state))
    pub shows : (meaning state).seen ≡ published
    pub same_base : (meaning state).base ≡ first.base
    pub same_start : (meaning state).start ≡ first.start

  pub record IsOrderly (first : B) (bound : ℕ) (s : State (Option B) (View E)) : Type 0 where
    pub taken : ℕ
    pub next : ℕ
    pub published : Seen E
    pub waiting : ℕ
    pub words : s.words ≡ taken ∷ ((meaning first).base + entries published.notes) ∷ next ∷ bound ∷ waiting ∷ []
    pub fits : (meaning first).base + entries published.notes < 2 ^ 32
    pub one_slot : length s.homes ≡ 1
    pub begun : Begins (meaning first).seen published
    -- where word 0 is 0, the state is at home
    pub home : taken ≡ 0 → IsHome published (meaning first) s.homes
    -- where it is 1, just one view holds the state
    pub holders : total holder s.views ≡ taken
    pub one_holder : taken ≤ 1
    pub spent_rests : (i : ℕ) (v : View E) → get_elem? s.views i ≡ some v → v.spent ≡ true → v.holds ≡ false
    -- numbers in views differ and are below the next one, which is at most the number of participants
    pub once : (k : ℕ) → total (λ v. times k v.numbers) s.views ≤ one_if (nat_lt k next)
    pub drawn : total (λ v. length v.numbers) s.views ≡ next
    pub started : 0 < next
    pub within : next ≤ bound
    -- all owners in the notes are below the next number
    pub owners : AllOwnedBelow next published.notes
    pub each : (i : ℕ) (v : View E) → get_elem? s.views i ≡ some v → v.spent ≡ false
        → Knows published ((meaning first).base + entries published.notes) next bound (meaning first) v
