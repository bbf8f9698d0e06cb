-- What a cutter of lines has of its source, and what each of its calls gives of the text that is unread.
use Rattle.std.specs.Prelude.{◌≡◌, ◌≢◌, ℕ, ◌+◌, ◌-◌, ◌<◌, ◌≤◌, Bool, true, false, List, [], ◌∷◌, ◌++◌, length, take, All, Some, Option}
use Rattle.std.specs.Io.KnownBytes.{prepend_known, IsAtEnd}
use Rattle.rep_io.specs.Lines.{Run, run_text, runs_of, line_feed, longest_line, longest_text}

-- a cutter of lines between two calls
pub record Cutter (S : Type 0) : Type 0 where
  -- what its bytes come from
  pub source : S
  -- how many bytes it has taken from there
  pub taken : ℕ
  -- how many bytes of the line under way it has passed over, since that line is too long to be kept
  pub passed : ℕ
  -- the bytes taken behind those, which no call has given yet
  pub held : List ℕ
  -- whether the source has ended
  pub ended : Bool

-- a cutter that has taken nothing yet
abbrev pub fresh : {S : Type 0} → S → Cutter S
fresh source = record { source = source; taken = 0; passed = 0; held = []; ended = false }

-- the most bytes that one read of a cutter gives
abbrev pub most_of_a_read : ℕ
most_of_a_read = 4096

-- the place in the whole text where the line under way begins
abbrev pub line_start : {S : Type 0} → Cutter S → ℕ
line_start c = c.taken - (c.passed + length c.held)

-- how many bytes of the text may be taken from there on
abbrev pub room_of : {S : Type 0} → Cutter S → ℕ
room_of c = longest_text - line_start c

abbrev pub HasNoLineFeed : List ℕ → Type 0
HasNoLineFeed bytes = All (λ b. b ≢ line_feed) bytes

-- The text from the line under way on, where the source tells it. Bytes that were passed over are any that hold
-- no line feed: they are surely too many to matter.
abbrev pub IsUnread : {S : Type 0} → (S → Option (List ℕ)) → Cutter S → List ℕ → Type 0
IsUnread left c text =
    (passed : List ℕ) × (rest : List ℕ) × (length passed ≡ c.passed) × HasNoLineFeed passed
    × (prepend_known c.held (left c.source) ≡ Some rest) × (text ≡ passed ++ rest)

-- Of a text of which so many bytes may be taken, the first run was taken and the rest is unread: the run ends in
-- that room, at its line feed or with the text.
pub record TakesRun (room : ℕ) (text : List ℕ) (run : Run) (rest : List ℕ) : Type 0 where
  pub whole : text ≡ run_text run ++ rest
  pub first : runs_of text ≡ run ∷ runs_of rest
  pub in_room : length (run_text run) ≤ room

-- What holds of each cutter. It passes bytes over only where their line is too long, with and without a carriage
-- return at its end. It has seen the source end only in the room of a text, and holds the byte past that room.
pub record IsCutter {S : Type 0} (left : S → Option (List ℕ)) (c : Cutter S) : Type 0 where
  pub inside : c.passed + length c.held ≤ c.taken
  pub taken : c.taken ≤ longest_text + 1
  pub long : 0 < c.passed → longest_line + 1 < c.passed
  pub at_end : c.ended ≡ true → IsAtEnd (left c.source)
  pub end_in_room : c.ended ≡ true → c.taken ≤ longest_text
  pub past : longest_text < c.taken → 0 < length c.held

-- no line ends in the room that is left, and the text goes on behind it
pub record GoesOnPast (room : ℕ) (text : List ℕ) : Type 0 where
  pub longer : room < length text
  pub no_end : HasNoLineFeed (take room text)

-- the source has ended, and no line is under way
pub record IsOver {S : Type 0} (c : Cutter S) : Type 0 where
  pub ended : c.ended ≡ true
  pub none_held : c.held ≡ []
  pub none_passed : c.passed ≡ 0

-- one byte more than a text may have was taken, and no line ends before it
pub record IsAtLimit {S : Type 0} (c : Cutter S) : Type 0 where
  pub taken : c.taken ≡ longest_text + 1
  pub under_way : 0 < c.passed + length c.held
  pub no_end : HasNoLineFeed (take (length c.held - 1) c.held)

-- Nothing could be told of the line under way, had the cutter taken these bytes more: no line ends in what it would
-- hold, it hasn't seen the source end, and the text has room.
pub record CannotTell {S : Type 0} (c : Cutter S) (more : List ℕ) : Type 0 where
  pub no_end : HasNoLineFeed (c.held ++ more)
  pub going_on : c.ended ≡ false
  pub room : c.taken + length more ≤ longest_text

-- the same source, of which the same was taken
pub record TakesNothing {S : Type 0} (old new : Cutter S) : Type 0 where
  pub source : new.source ≡ old.source
  pub taken : new.taken ≡ old.taken

-- the source gave just the bytes that were taken
abbrev pub Draws : {S : Type 0} → (S → Option (List ℕ)) → Cutter S → Cutter S → Type 0
Draws left old new =
    (bytes : List ℕ) × (new.taken ≡ old.taken + length bytes) × (left old.source ≡ prepend_known bytes (left new.source))
