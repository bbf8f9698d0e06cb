-- How contents begin: this project's own.
use Rattle.std.specs.Prelude.{◌≡◌, ℕ, ◌<◌, ◌≤◌, List, ◌∷◌, ◌++◌, length}
use Rattle.rep_journal.specs.Format.{IsForeign, magic, open_gate}
use Rattle.rep_journal.specs.Fields.{IsLongBlank}
use Rattle.rep_journal.specs.declared.head.Head.{Head}
use Rattle.rep_journal.specs.declared.head.Head.TheVariants.{Short, Foreign, Closed, Open}

-- not blank, with the magic and an open gate
pub record IsOpen (bytes : List ℕ) : Type 0 where
  pub more : 17 < length bytes
  pub rest : List ℕ
  pub text : bytes ≡ magic ++ open_gate ∷ rest

abbrev pub IsHead : List ℕ → Head → Type 0
IsHead bytes Short = length bytes ≤ 17
IsHead bytes Foreign = IsForeign bytes
IsHead bytes Closed = IsLongBlank bytes
IsHead bytes Open = IsOpen bytes
