-- The log of a guarded state: its notes, whose they are, and what one exclusive step adds. This project's own.
use Rattle.std.specs.Prelude.{◌≡◌, ℕ, ◌+◌, Bool, true, false, ◌==◌, ◌≤◌, List, [], ◌++◌, length, map, drop, Option, Some, None}
use Rattle.std.specs.List.{filter, filter_map, count_by}
use mathlib.Core.List.{IsPrefix}
use Rattle.rep_turn.specs.declared.note.What.{What}
use Rattle.rep_turn.specs.declared.note.What.TheVariants.{Entry, Reading, Fault}
use Rattle.rep_turn.specs.declared.note.Note.{Note}
use Rattle.rep_turn.specs.declared.note.Seen.{Seen}

abbrev pub is_entry : What → Bool
is_entry (Entry origin seq shares) = true
is_entry (Reading minute) = false
is_entry (Fault device stops) = false

-- how many of the notes are entries of the history
abbrev pub entries : List Note → ℕ
entries notes = count_by (λ n. is_entry n.what) notes

-- the collector and the sequence number of an entry
abbrev pub name_of : What → Option (ℕ × ℕ)
name_of (Entry origin seq shares) = Some (origin, seq)
name_of (Reading minute) = None
name_of (Fault device stops) = None

-- those of the entries among the notes, in order
abbrev pub names : List Note → List (ℕ × ℕ)
names notes = filter_map (λ n. name_of n.what) notes

-- the notes of one participant, in order
abbrev pub own : ℕ → List Note → List Note
own number notes = filter (λ n. n.owner == number) notes

-- each note is of that participant
abbrev pub AllOwnedBy : ℕ → List Note → Type 0
AllOwnedBy number notes = own number notes ≡ notes

-- each note has an owner below this number
abbrev pub AllOwnedBelow : ℕ → List Note → Type 0
AllOwnedBelow next notes = (k : ℕ) → next ≤ k → own k notes ≡ []

-- what is known of the history stays known, and grows at its end
abbrev pub PastBegins : {E : Type 0} → Option (List E) → Option (List E) → Type 0
PastBegins None None = Unit {0}
PastBegins None (Some ys) = ⊥
PastBegins (Some xs) None = ⊥
PastBegins (Some xs) (Some ys) = IsPrefix xs ys

-- the second shows all that the first does, and perhaps more at the end
pub record Begins {E : Type 0} (a b : Seen E) : Type 0 where
  pub notes : IsPrefix a.notes b.notes
  pub past : PastBegins a.past b.past

-- A guarded state as contracts see it: how many entries came before its notes, its counts at the start, and what can be seen of it
pub record Meaning (E : Type 0) : Type 0 where
  pub base : ℕ
  pub start : List ℕ
  pub seen : Seen E

-- how many entries the history has
abbrev pub made_of : {E : Type 0} → Meaning E → ℕ
made_of m = m.base + entries m.seen.notes

abbrev pub EntriesAgree : {E : Type 0} → (E → ℕ × ℕ) → ℕ → List Note → Option (List E) → Type 0
EntriesAgree named base notes None = Unit {0}
EntriesAgree named base notes (Some past) = (length past ≡ base + entries notes) × (map named (drop base past) ≡ names notes)

-- where the history is known, it has as many entries as were made, and those from `base` on are the entries among the notes
abbrev pub PastAgrees : {E : Type 0} → (E → ℕ × ℕ) → Meaning E → Type 0
PastAgrees named m = EntriesAgree named m.base m.seen.notes m.seen.past

-- What the exclusive step of a participant does to the state: it adds notes of its own, and the rest stays
pub record Adds {E : Type 0} (number : ℕ) (old new : Meaning E) : Type 0 where
  pub added : List Note
  pub base : new.base ≡ old.base
  pub start : new.start ≡ old.start
  pub notes : new.seen.notes ≡ old.seen.notes ++ added
  pub owned : AllOwnedBy number added
  pub past : PastBegins old.seen.past new.seen.past
