-- The first line of a lane, which is its head: this project's own.
use Rattle.std.specs.Prelude.{◌≡◌, ℕ, ◌<◌, List, [], ◌∷◌, length, Option, Result, Ok, Err}
use Rattle.rep_io.specs.Lines.{lines_of, longest_text}
use Rattle.rep_io.specs.Cutter.{Cutter}
use Rattle.rep_wire.specs.LaneGrammar.{IsLaneHead, head_text}
use Rattle.rep_wire.specs.declared.head.LaneHead.{LaneHead}
use Rattle.rep_lane.specs.LaneText.{ended_lines, IsWithin, HasRead}
use Rattle.rep_lane.specs.declared.head.NoHead.{NoHead}
use Rattle.rep_lane.specs.declared.head.NoHead.TheVariants.{OffGrammar, SourceFault, InputLimit}

-- the line is this head
pub record IsHeadLine (head : LaneHead) (line : List ℕ) : Type 0 where
  pub in_range : IsLaneHead head
  pub spelled : line ≡ head_text head

-- there is no first line, or it is no head
abbrev pub HasNoHead : List (List ℕ) → Type 0
HasNoHead [] = Unit {0}
HasNoHead (line ∷ lines) = (head : LaneHead) → IsHeadLine head line → ⊥

-- what reading the first line says of the text, whatever text it is
abbrev pub Heads : {S : Type 0} → (S → Option (List ℕ)) → Cutter S → List ℕ → Result LaneHead NoHead → Type 0
Heads left c text (Ok head) = (first : List ℕ) × IsHeadLine head first × HasRead left c text (first ∷ []) × IsWithin 1 text
Heads left c text (Err OffGrammar) = HasNoHead (lines_of text) × IsWithin 1 text
Heads left c text (Err SourceFault) = Unit {0}
Heads left c text (Err InputLimit) = (longest_text < length text) × (ended_lines text ≡ 0)
