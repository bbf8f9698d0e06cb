-- The index of a text's lines: this project's own. It has the place where each line begins, and behind those the place
-- where the last one ends.
use Rattle.std.specs.Prelude.{◌≡◌, ℕ, ◌+◌, ◌-◌, ◌≤◌, List, [], ◌∷◌, length, take, drop}
use Rattle.afd_records.specs.declared.header.Head.{Head}
use Rattle.rep_io.specs.Lines.{Run, run_text, runs_of, longest_text}
use Rattle.afd_read.specs.Beginning.{IsHeadOf}

-- the bounds of the lines, of which the first begins at this place
abbrev pub bounds_from : ℕ → List Run → List ℕ
bounds_from at [] = at ∷ []
bounds_from at (run ∷ runs) = at ∷ bounds_from (at + length (run_text run)) runs

abbrev pub bounds_of : List ℕ → List ℕ
bounds_of text = bounds_from 0 (runs_of text)

-- a run stands between these places of the text
pub record IsBetween (text : List ℕ) (start end : ℕ) (run : Run) : Type 0 where
  pub ordered : start ≤ end
  pub within : end ≤ length text
  pub cut : take (end - start) (drop start text) ≡ run_text run

-- what an AFD that was read is kept as: its text, the bounds of its lines, and its head
pub record IsKept (text bounds : List ℕ) (head : Head) : Type 0 where
  pub in_room : length text ≤ longest_text
  pub indexed : bounds ≡ bounds_of text
  pub begins : IsHeadOf text head
