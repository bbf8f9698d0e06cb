-- When two paths lead to one file, by what is seen there: this project's own.
use Rattle.std.specs.Prelude.{ℕ, List, ◌≡◌}
use Rattle.rep_cli.specs.declared.apart.Place.{Place}
use Rattle.rep_cli.specs.declared.apart.Seen.{Seen}
use Rattle.rep_cli.specs.declared.apart.Seen.TheVariants.{Nothing, File, Other}

-- One file on one device; or, where nothing is seen, one path, at which both would be made. What isn't a file may be written
-- by several.
abbrev pub IsOneFile : Seen → Seen → List ℕ → List ℕ → Type 0
IsOneFile (File device number) (File other_device other_number) path other_path = (device ≡ other_device) × (number ≡ other_number)
IsOneFile Nothing Nothing path other_path = path ≡ other_path
IsOneFile (File device number) Nothing path other_path = ⊥
IsOneFile (File device number) Other path other_path = ⊥
IsOneFile Nothing (File device number) path other_path = ⊥
IsOneFile Nothing Other path other_path = ⊥
IsOneFile Other _ path other_path = ⊥

abbrev pub IsSame : Place → Place → Type 0
IsSame place other = IsOneFile place.seen other.seen place.path.now other.path.now
