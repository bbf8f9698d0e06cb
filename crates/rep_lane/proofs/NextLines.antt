-- the line that was read last, among those of the text
use Rattle.std.proofs.Common.{◌≡◌, ℕ, List, [], ◌∷◌, ◌++◌, Option, ◌∙◌, append_assoc}
use Rattle.rep_io.specs.Lines.{lines_of}
use Rattle.rep_io.specs.Cutter.{Cutter}
use Rattle.rep_lane.specs.LaneText.{HasRead}

-- the text goes on behind the lines that were read and this one
abbrev pub HasNext : List ℕ → List ℕ → List (List ℕ) → Type 0
HasNext line text before = (rest : List (List ℕ)) × (lines_of text ≡ before ++ line ∷ rest)

pub next : {S : Type 0} (left : S → Option (List ℕ)) (c : Cutter S) (text : List ℕ) (before : List (List ℕ)) (line : List ℕ) → HasRead left c text (before ++ line ∷ [])
    → HasNext line text before
next left c text before line r = (lines_of r.rest, r.lines ∙ append_assoc before (line ∷ []) (lines_of r.rest))
