use Rattle.std.proofs.Common.{◌≡◌, ◌∙◌, sym, rules, arith}
use Rattle.rep_words.proofs.PeriodWords.{isnt_zero, nsr_length, nsr_only}
use Rattle.rep_words.proofs.period.read_nsr.Goals as goal

pub returns-then-word-gt9-clause-only : goal.returns-then-word-gt9-clause-only
returns-then-word-gt9-clause-only c nsr is =
    let inside = nsr_length c.args.word.now nsr is in
    absurd (omega (arith, inside.1))

pub returns-in-Some-eq0-clause-only : goal.returns-in-Some-eq0-clause-only
returns-in-Some-eq0-clause-only c nsr is =
    let zero : c.in-Some-eq0.field-0 ≡ 0 = search rules in
    absurd (isnt_zero c.get_n.result nsr c.in-Some-eq0.field-0 (nsr_only c.args.word.now c.get_n.result c.get_n.ensures.read nsr is) c.in-Some-eq0.is zero is.positive)

pub returns-in-Some-clause-only : goal.returns-in-Some-clause-only
returns-in-Some-clause-only c nsr is = sym c.in-Some.is ∙ nsr_only c.args.word.now c.get_n.result c.get_n.ensures.read nsr is

pub returns-in-None-clause-only : goal.returns-in-None-clause-only
returns-in-None-clause-only c nsr is = sym c.in-None.is ∙ nsr_only c.args.word.now c.get_n.result c.get_n.ensures.read nsr is
