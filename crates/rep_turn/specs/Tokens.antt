-- What contracts say of a participant's token. This project's own.
use Rattle.std.specs.Prelude.{◌≡◌, ℕ, ◌≤◌, List, [], ◌∷◌, ◌++◌, map, nat_lt, Option}
use Rattle.atomic_table.specs.Seated.{TableId}
use Rattle.rep_turn.specs.declared.note.Note.{Note}
use Rattle.rep_turn.specs.declared.note.Seen.{Seen}
use Rattle.rep_turn.specs.declared.view.Token.{Token}
use Rattle.rep_turn.specs.declared.view.View.{View}
use Rattle.rep_turn.specs.declared.pass.Pass.{Pass}
use Rattle.rep_turn.specs.Log.{Meaning, Begins, Adds, own, made_of}
use Rattle.rep_turn.specs.Views.{times, one_if, spent_view, IsFree}

-- A guard as contracts see it: which one it is, the state that it was made with, and the number of its participants
pub record Guard (B : Type 0) : Type 0 where
  pub table_id : TableId
  pub first : B
  pub participants : ℕ

-- the table under a guard has five words and one slot
abbrev pub IsSized : TableId → Type 0
IsSized z = (z.words ≡ 5) × (z.slots ≡ 1)

module _ {E : Type 0} where
  abbrev pub view_in : List (View E) → View E
  view_in [] = spent_view
  view_in (v ∷ vs) = v

  abbrev pub view_of : Pass E → View E
  view_of pass = view_in pass.badge.views

  abbrev pub number_of : Pass E → ℕ
  number_of pass = pass.number

  -- what the participant has seen of the state
  abbrev pub seen_by : Pass E → Seen E
  seen_by pass = (view_of pass).seen

  abbrev pub notes_seen : Pass E → List Note
  notes_seen pass = (seen_by pass).notes

  abbrev pub past_seen : Pass E → Option (List E)
  past_seen pass = (seen_by pass).past

  -- the greatest visible count that it looked at, 0 where it looked at none
  abbrev pub front_of : Pass E → ℕ
  front_of pass = (view_of pass).front

  -- its number, what it has seen, and the greatest visible count that it looked at
  abbrev pub token_of : Pass E → Token E
  token_of pass = record { number = pass.number; seen = seen_by pass; front = front_of pass }

  -- each number below this one stands at one token at most, and no other number does
  abbrev pub AreNumberedBelow : ℕ → List (Pass E) → Type 0
  AreNumberedBelow bound passes = (k : ℕ) → times k (map number_of passes) ≤ one_if (nat_lt k bound)

  -- the participant has seen just this, and has looked at no visible count
  abbrev pub HasSeenOnly : Seen E → Pass E → Type 0
  HasSeenOnly shown pass = (seen_by pass ≡ shown) × (front_of pass ≡ 0)

module _ {B E : Type 0} (meaning : B → Meaning E) where
  -- The token is of a participant of this guard
  pub record IsOf (guard : Guard B) (pass : Pass E) : Type 0 where
    pub same_table : pass.badge.table_id ≡ guard.table_id
    pub one_view : pass.badge.views ≡ view_of pass ∷ []
    pub own_number : (view_of pass).numbers ≡ pass.number ∷ []
    pub free : IsFree (view_of pass)
    pub same_base : (view_of pass).base ≡ (meaning guard.first).base
    pub same_start : (view_of pass).start ≡ (meaning guard.first).start

  -- One exclusive step of a participant, whose work takes the state from `before` to `after` and meets `done`
  pub record Steps (guard : Guard B) (done : B → ℕ → B → Type 0) (old new : Pass E) : Type 0 where
    pub before : B
    pub after : B
    pub worked : done before old.number after
    pub adds : Adds old.number (meaning before) (meaning after)
    -- it finds the state with all that it had seen, and with at least each count that it looked at
    pub begins : Begins (seen_by old) (meaning before).seen
    pub counted : front_of old ≤ made_of (meaning before)
    pub same_base : (meaning before).base ≡ (meaning guard.first).base
    pub same_start : (meaning before).start ≡ (meaning guard.first).start
    -- then it has seen what the state shows after the work, and its own notes in there are those that it had seen
    -- and those that the work added
    pub seen_after : seen_by new ≡ (meaning after).seen
    pub own_notes : own old.number (notes_seen new) ≡ own old.number (notes_seen old) ++ adds.added

  -- What a participant saw is a beginning of what the state shows, with all notes of its own, and no count that it looked at is above the state's
  pub record IsKeptIn (state : B) (t : Token E) : Type 0 where
    pub begins : Begins t.seen (meaning state).seen
    pub own_seen : own t.number t.seen.notes ≡ own t.number (meaning state).seen.notes
    pub counted : t.front ≤ made_of (meaning state)
