-- What comes of the next line of a lane: this project's own.
use Rattle.std.specs.Prelude.{◌≡◌, ℕ, ◌<◌, List, [], ◌∷◌, ◌++◌, length, Option, Result, Ok, Err}
use Rattle.std.specs.Io.KnownBytes.{append_known}
use Rattle.rep_io.specs.Lines.{longest_line}
use Rattle.rep_io.specs.Cutter.{Cutter, line_start}
use Rattle.rep_wire.specs.declared.head.LaneHead.{LaneHead}
use Rattle.rep_lane.specs.LaneText.{HasRead}
use Rattle.rep_lane.specs.Answers.{LineAnswer, answer_bytes, kind_of}
use Rattle.rep_lane.specs.Desk.{Steps, AnswersLine}
use Rattle.rep_lane.specs.Line.{AnswersOne}
use Rattle.rep_lane.specs.Lane.{Runs}
use Rattle.rep_lane.specs.declared.answering.Kind.{Kind}
use Rattle.rep_lane.specs.declared.lane.End.{End}
use Rattle.rep_lane.specs.declared.lane.Tally.{Tally}

-- whatever line it is that is too long, it is answered so
abbrev pub AnswersLong : {Q : Type 0} → Steps Q → ℕ → Q → Q → Option (List ℕ) → Option (List ℕ) → Result Kind End → Type 0
AnswersLong steps number old new out_old out_new result =
    (head : LaneHead) (line : List ℕ) → longest_line < length line
    → AnswersOne steps head number line old new out_old out_new result

-- the text's next line has this answer
pub record AnswersNext {S Q : Type 0} (left : S → Option (List ℕ)) (steps : Steps Q) (head : LaneHead) (old new : Q)
    (a : LineAnswer) (after : Cutter S) (text : List ℕ) (before : List (List ℕ)) : Type 0 where
  pub line : List ℕ
  pub answered : AnswersLine steps head old line a new
  pub read : HasRead left after text (before ++ line ∷ [])

-- the next line was answered, and all its bytes were written
pub record TakesOne {S Q : Type 0} (left : S → Option (List ℕ)) (steps : Steps Q) (head : LaneHead) (number : ℕ)
    (c after : Cutter S) (old new : Q) (out_old out_new : Option (List ℕ)) (kind : Kind) : Type 0 where
  pub a : LineAnswer
  pub line : List ℕ
  pub answered : AnswersLine steps head old line a new
  pub said : out_new ≡ append_known out_old (answer_bytes number a)
  pub is_kind : kind ≡ kind_of a
  pub advances : line_start c < line_start after
  pub text : (text : List ℕ) (before : List (List ℕ)) → HasRead left c text before
      → AnswersNext left steps head old new a after text before

-- no line has its whole reply yet
abbrev pub no_lines : Tally
no_lines = record { lines = 0; receipts = 0; refused = 0 }

-- the next line was taken, or the lane ended at it
abbrev pub TakesNext : {S Q : Type 0} → (S → Option (List ℕ)) → Steps Q → LaneHead → ℕ → Cutter S → Cutter S → Q → Q
    → Option (List ℕ) → Option (List ℕ) → Result Kind End → Type 0
TakesNext left steps head number c after old new out_old out_new (Ok kind) =
    TakesOne left steps head number c after old new out_old out_new kind
TakesNext left steps head number c after old new out_old out_new (Err ended) =
    Runs left steps head number c old new out_old out_new no_lines ended
