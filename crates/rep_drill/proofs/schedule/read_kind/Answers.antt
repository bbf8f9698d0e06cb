use Rattle.std.proofs.Common.{◌≡◌, ◌<◌, ◌^◌, ℕ, length, sym, ap, ◌∙◌, subst, arith}
use Rattle.rep_fields.specs.Digits.{numeral}
use Rattle.rep_fields.proofs.Numerals.{length-numeral, numeral-injective}
use Rattle.rep_drill.proofs.schedule.read_kind.Goals as goal

pub returns-then-text-ne-KIND_DIGITS : goal.returns-then-text-ne-KIND_DIGITS
returns-then-text-ne-KIND_DIGITS c = λ kind in_range is. c.if-text-ne-KIND_DIGITS.true (ap length is ∙ length-numeral 2 kind)

pub returns-then-kind-gt-LAST_KIND : goal.returns-then-kind-gt-LAST_KIND
returns-then-kind-gt-LAST_KIND c = λ kind in_range is.
    let two = c.if-text-ne-KIND_DIGITS.false in
    let read = c.in_ok-kind.ensures.read (omega arith, omega arith) in
    let fits : c.in_ok-kind.kind < 100 = subst (λ (w : ℕ). c.in_ok-kind.kind < 10 ^ w) two read.0 in
    let written : c.args.text.now ≡ numeral 2 c.in_ok-kind.kind = read.1 ∙ ap (λ w. numeral w c.in_ok-kind.kind) two in
    let same : kind ≡ c.in_ok-kind.kind =
    numeral-injective 2 kind c.in_ok-kind.kind (omega arith) fits (sym is ∙ written) in
    omega arith
