use Rattle.std.proofs.Common.{◌≡◌, ◌∙◌, sym, ap, inl, inr, refl, codes, rules}
use Rattle.rep_fields.specs.Digits.{numeral}
use Rattle.rep_wire.proofs.ValueLemmas.{numeral-seven, numeral-eight}
use Rattle.rep_wire.proofs.value.read_event_code.Goals as goal

pub returns-then-eq : goal.returns-then-eq
returns-then-eq c =
    let is : c.args.text.now ≡ codes "07" = search rules in (inl refl, is ∙ sym numeral-seven)

pub returns-then-eq-2 : goal.returns-then-eq-2
returns-then-eq-2 c =
    let is : c.args.text.now ≡ codes "08" = search rules in (inr refl, is ∙ sym numeral-eight)

pub returns : goal.returns
returns c = λ code in_range is.
    let not_seven : c.args.text.now ≡ codes "07" → ⊥ = search rules in
    let not_eight : c.args.text.now ≡ codes "08" → ⊥ = search rules in
    elim in_range [
      | inl seven ↦ not_seven (is ∙ ap (numeral 2) seven ∙ numeral-seven)
      | inr eight ↦ not_eight (is ∙ ap (numeral 2) eight ∙ numeral-eight)
    ]
