use Rattle.std.proofs.Common.{◌≡◌, All, sym, ◌∙◌, subst, inl, inr}
use Rattle.std.proofs.lemmas.Bool.{false≢true}
use Rattle.rep_fields.specs.Digits.{IsDigitByte}
use Rattle.toml.specs.View.{table_view}
use Rattle.toml_fields.proofs.Found.{HasLatin-unique}
use Rattle.tr_plan.proofs.fields.digits_or_empty.Goals as goal

pub returns-in_default : goal.returns-in_default
returns-in_default c = λ text has. elim has [
  | inl none ↦ false≢true (c.if-is_missing.ensures.1 none.0)
  | inr there ↦ c.in_default.ensures text there.latin
]

pub returns-then-not-is_digits : goal.returns-then-not-is_digits
returns-then-not-is_digits c = λ text has. elim has [
  | inl none ↦ false≢true (c.if-is_missing.ensures.1 none.0)
  | inr there ↦
      let same : text ≡ c.in-Some.text =
      HasLatin-unique 14 14 (table_view c.args.table.now) c.args.key.now text c.in-Some.text there.latin c.in-Some.ensures in
      false≢true (sym c.if-not-is_digits.true ∙ c.is_digits.ensures.1 (subst (All IsDigitByte) (same ∙ sym c.bytes.ensures.value) there.digits))
]
