-- What a call of `next` says of the unread text: this project's own.
use Rattle.std.specs.Prelude.{◌≡◌, ◌⊎◌, ℕ, ◌+◌, ◌<◌, ◌≤◌, false, List, [], ◌++◌, length, Option}
use Rattle.std.specs.Io.KnownBytes.{prepend_known}
use Rattle.rep_io.specs.Lines.{Run, run_text, line_of, has_return, longest_line}
use Rattle.rep_io.specs.Cutter.{Cutter, line_start, room_of, IsUnread, TakesRun, GoesOnPast, IsOver, CannotTell, TakesNothing, most_of_a_read}
use Rattle.rep_io.specs.declared.next.Next.{Next}
use Rattle.rep_io.specs.declared.next.Next.TheVariants.{Line, TooLong, End, SourceFault, InputLimit}

-- the answer tells of a line
abbrev pub IsOfLine : Next → Type 0
IsOfLine (Line bytes crlf) = Unit {0}
IsOfLine TooLong = Unit {0}
IsOfLine End = ⊥
IsOfLine SourceFault = ⊥
IsOfLine InputLimit = ⊥

-- the next line begins behind the one that was told
abbrev pub Advances : {S : Type 0} → Cutter S → Cutter S → Next → Type 0
Advances old new next = IsOfLine next → line_start old < line_start new

-- what is told of a run: its line, if that isn't too long, and whether a CR stood before its end; or that it's too long
abbrev pub Tells : Next → Run → Type 0
Tells (Line bytes crlf) run = (bytes ≡ line_of run) × (length bytes ≤ longest_line) × (crlf ≡ has_return run)
Tells TooLong run = longest_line < length (line_of run)
Tells End run = ⊥
Tells SourceFault run = ⊥
Tells InputLimit run = ⊥

-- the first run of the unread text was taken and told, and the next line begins behind it
pub record TakesLine {S : Type 0} (left : S → Option (List ℕ)) (old new : Cutter S) (next : Next) (text : List ℕ) : Type 0 where
  pub run : Run
  pub rest : List ℕ
  pub takes : TakesRun (room_of old) text run rest
  pub tells : Tells next run
  pub unread : IsUnread left new rest
  pub start : line_start new ≡ line_start old + length (run_text run)

-- no byte of the line under way is lost
pub record KeepsLine {S : Type 0} (left : S → Option (List ℕ)) (old new : Cutter S) (text : List ℕ) : Type 0 where
  pub unread : IsUnread left new text
  pub start : line_start new ≡ line_start old

-- what each answer says of the text that was unread
abbrev pub Gives : {S : Type 0} → (S → Option (List ℕ)) → Cutter S → Cutter S → Next → List ℕ → Type 0
Gives left old new (Line bytes crlf) text = TakesLine left old new (Line bytes crlf) text
Gives left old new TooLong text = TakesLine left old new TooLong text
Gives left old new End text = (text ≡ []) × IsOver new
Gives left old new SourceFault text = KeepsLine left old new text
Gives left old new InputLimit text = GoesOnPast (room_of old) text × KeepsLine left old new text

-- The source is asked only where that is due: either it wasn't asked at all, or nothing could be told yet before the last
-- read. A read that failed was the last, and gave nothing. Since each read may fail, and no failure is passed over, this
-- refuses a read behind one that gave enough.
pub record AsksWhereDue {S : Type 0} (left : S → Option (List ℕ)) (old new : Cutter S) (next : Next) : Type 0 where
  -- what was taken before the last read, and what that read gave
  pub before : List ℕ
  pub last : List ℕ
  pub draws : left old.source ≡ prepend_known (before ++ last) (left new.source)
  pub taken : new.taken ≡ old.taken + length (before ++ last)
  pub piece : length last ≤ most_of_a_read
  pub due : TakesNothing old new ⊎ CannotTell old before
  pub failed : next ≡ SourceFault → (last ≡ []) × (new.ended ≡ false)
