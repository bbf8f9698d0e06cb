use Rattle.std.proofs.Common.{◌≡◌, ℕ, List, [], codes, length, inr, subst, sym, arith}
use Rattle.std.proofs.lemmas.List.{nil_from_length}
use Rattle.std.proofs.lemmas.Bool.Decides.{nat_tests}
use Rattle.rep_fields.proofs.Numerals.{numeral-none}
use Rattle.toml.specs.View.{table_view}
use Rattle.toml_fields.specs.Table.{HasText}
use Rattle.rep_site.proofs.reading.cno_or_none.Goals as goal

pub returns-then-is_empty : goal.returns-then-is_empty
returns-then-is_empty c =
    let none : length c.in-Some.text.now ≡ 0 = grind (arith, nat_tests) in
    let empty : c.in-Some.text.now ≡ [] = nil_from_length c.in-Some.text.now none in
    inr ([], record { within = omega arith; fits = omega arith; written = sym (numeral-none 0) }, subst (λ (t : List ℕ). HasText (table_view c.args.table.now) (codes "cno") t) empty c.in-Some.ensures)
