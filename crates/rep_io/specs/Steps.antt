-- The steps of a call of `next`, between which a cutter has taken more of its source and given nothing: this
-- project's own.
use Rattle.std.specs.Prelude.{◌≡◌, ℕ, ◌+◌, ◌-◌, ◌<◌, ◌≤◌, Bool, false, if◌then◌else◌, List, ◌++◌, length, take, slice_index, Option}
use Rattle.std.specs.Io.KnownBytes.{prepend_known}
use Rattle.rep_io.specs.Lines.{line_feed, longest_line, longest_text}
use Rattle.rep_io.specs.Cutter.{Cutter, line_start, HasNoLineFeed, IsUnread, Draws, IsOver, IsAtLimit, TakesNothing, most_of_a_read}
use Rattle.rep_io.specs.Next.{Advances, Gives}
use Rattle.rep_io.specs.declared.next.Next.{Next}
use Rattle.rep_io.specs.declared.next.Next.TheVariants.{Line, TooLong, End, SourceFault, InputLimit}

-- the bytes held, without the one that is past the most that a text may have
abbrev pub in_room : {S : Type 0} → Cutter S → List ℕ
in_room c = take (length c.held - (c.taken - longest_text)) c.held

-- the first line feed of these bytes
pub record EndsAt (bytes : List ℕ) (at : ℕ) : Type 0 where
  pub within : at < length bytes
  pub before : HasNoLineFeed (take at bytes)
  pub feed : slice_index bytes at ≡ line_feed

-- nothing can be said of the line under way before another read
pub record NeedsMore {S : Type 0} (c : Cutter S) : Type 0 where
  pub no_end : HasNoLineFeed c.held
  pub going_on : c.ended ≡ false
  pub room : c.taken ≤ longest_text

-- more was taken of the source, and nothing was given
pub record StepsTo {S : Type 0} (left : S → Option (List ℕ)) (faults : S → ℕ) (old new : Cutter S) : Type 0 where
  pub unread : (text : List ℕ) → IsUnread left old text → IsUnread left new text
  pub start : line_start new ≡ line_start old
  pub draws : Draws left old new
  pub later : faults old.source ≤ faults new.source

-- what is left to do before a call of `next` must end
abbrev pub work_of : {S : Type 0} → Cutter S → ℕ
work_of c = (longest_text + 1 - c.taken) + (if c.ended then 0 else 1)

-- The source was asked once. What it gave stands behind what is held.
pub record AsksOnce {S : Type 0} (left : S → Option (List ℕ)) (old new : Cutter S) : Type 0 where
  pub front : List ℕ
  pub last : List ℕ
  pub held : new.held ≡ front ++ last
  pub draws : left old.source ≡ prepend_known last (left new.source)
  pub taken : new.taken ≡ old.taken + length last
  pub piece : length last ≤ most_of_a_read

-- nothing was taken, and the source isn't known to have ended
pub record GetsNothing {S : Type 0} (old new : Cutter S) : Type 0 where
  pub taken : new.taken ≡ old.taken
  pub going_on : new.ended ≡ false

-- this line was told, or that it is too long
abbrev pub IsTold : Next → List ℕ → Bool → Type 0
IsTold (Line bytes with_return) line crlf = (bytes ≡ line) × (length bytes ≤ longest_line) × (with_return ≡ crlf)
IsTold TooLong line crlf = longest_line < length line
IsTold End line crlf = ⊥
IsTold SourceFault line crlf = ⊥
IsTold InputLimit line crlf = ⊥

-- What a cutter gives of what it has taken. It answers at its end and at the limit as it did before.
pub record GivesNow {S : Type 0} (left : S → Option (List ℕ)) (old new : Cutter S) (next : Next) : Type 0 where
  pub gives : (text : List ℕ) → IsUnread left old text → Gives left old new next text
  pub advances : Advances old new next
  pub nothing : TakesNothing old new
  pub no_fault : next ≡ SourceFault → ⊥
  pub over : next ≡ End → IsOver new
  pub stays_over : IsOver old → (next ≡ End) × IsOver new
  pub limit : next ≡ InputLimit → IsAtLimit new
  pub stays_at_limit : IsAtLimit old → (next ≡ InputLimit) × IsAtLimit new

-- a line that is too long was passed over as far as it had come, and little is held
pub record PassesOver {S : Type 0} (left : S → Option (List ℕ)) (old new : Cutter S) : Type 0 where
  pub unread : (text : List ℕ) → IsUnread left old text → IsUnread left new text
  pub start : line_start new ≡ line_start old
  pub nothing : TakesNothing old new
  pub ended : new.ended ≡ old.ended
  pub few : length new.held ≤ longest_line + 1
