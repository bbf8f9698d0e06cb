use Rattle.std.proofs.Common.{◌≡◌, ◌≢◌, ℕ, List, length, true, eqb, sym, ap, ◌∙◌, arith}
use Rattle.std.specs.Prelude.{All, Any}
use Rattle.std.proofs.lemmas.Bool.Decides.{Decides-eqb}
use Rattle.std.proofs.lemmas.List.Folds.{Any-from_list_any}
use Rattle.rep_fields.specs.Identity.{bar}
use Rattle.toml.specs.View.{table_view}
use Rattle.toml_fields.proofs.Found.{HasLatin-unique}
use Rattle.tr_plan.proofs.fields.plain_text_at.Goals as goal
use Rattle.tr_plan.proofs.fields.plain_text_at.Goals.{then-len-least-via-then-len-least, then-len-least-via-else-len-least+then-contains}

pub returns-in_default : goal.returns-in_default
returns-in_default g c = λ text has. c.in_default.ensures text has.latin

-- a text with a bar among its bytes has one
no_bar : (text : List ℕ) → All (λ byte. byte ≢ bar) text → Any (λ byte. eqb byte bar ≡ true) text → ⊥
no_bar text none (k, x, within, is, same) = none k x within (is ∙ (Decides-eqb x bar).0 same)

pub returns-then-len-least : goal.returns-then-len-least
returns-then-len-least g c = λ text has.
    let same : text ≡ c.in-Some.text =
    HasLatin-unique g.row.N g.row.N (table_view c.args.table.now) c.args.key.now text c.in-Some.text has.latin c.in-Some.ensures in
    elim c.then-len-least.branch [
      | then-len-least-via-then-len-least w ↦ omega (arith, ap length same, has.long)
      | then-len-least-via-else-len-least+then-contains w ↦
          no_bar text has.no_bar (rw (same, ← w.bytes.ensures.value) (Any-from_list_any _ w.bytes.result.now (sym w.contains.ensures.value ∙ w.if-contains.true)))
    ]
