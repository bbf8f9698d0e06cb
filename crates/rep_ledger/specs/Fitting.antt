-- Which entry can stand next in the history of a journal, and the line that it has there: this project's own.
use Rattle.std.specs.Prelude.{◌≡◌, ℕ, List, [], ◌∷◌}
use Rattle.rep_wire.specs.declared.request.Entry.{Entry}
use Rattle.rep_core.specs.History.{CameBy}
use Rattle.rep_core.specs.Chained.{next_line}
use Rattle.rep_core.specs.Valid.{Fits, Founds, IsFounded}

-- The first entry of a journal is its site's employer record, and each other one fits those before it.
abbrev pub FitsAt : List Entry → Entry → Type 0
FitsAt [] e = Founds e
FitsAt (first ∷ h) e = Fits (first ∷ h) e

-- what a journal may have so far: nothing, or a founded history
abbrev pub IsEmptyOrFounded : List Entry → Type 0
IsEmptyOrFounded [] = Unit {0}
IsEmptyOrFounded (first ∷ h) = IsFounded (first ∷ h)

-- an entry that can stand next, with the pair that it came by and the line that it has there
pub record IsNextLine (h : List Entry) (origin seq : ℕ) (line : List ℕ) (e : Entry) : Type 0 where
  pub fits : FitsAt h e
  pub came : CameBy origin seq e
  pub written : line ≡ next_line h e.body
