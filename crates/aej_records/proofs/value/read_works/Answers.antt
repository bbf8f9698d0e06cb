use Rattle.std.proofs.Common.{◌≡◌, ◌∙◌, sym, subst, rules}
use Rattle.rep_fields.proofs.Texts.{IsText-unique}
use Rattle.aej_records.specs.Line.{AreDigits}
use Rattle.aej_records.proofs.value.read_works.Goals as goal

pub returns-then-not-are_digits : goal.returns-then-not-are_digits
returns-then-not-are_digits c = λ works in_range fills.
    let read = c.in-Some.ensures in
    let same : works ≡ c.bytes.result.now =
    IsText-unique 14 14 works c.in-Some.works c.args.text.now in_range.0 read.0 fills read.1 ∙ sym c.bytes.ensures.value in
    let digits : AreDigits c.bytes.result.now = subst AreDigits same in_range.1 in
    search (rules, digits)
