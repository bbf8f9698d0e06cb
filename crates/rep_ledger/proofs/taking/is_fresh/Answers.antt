use Rattle.std.proofs.Common.{◌≡◌, inl, inr, subst}
use Rattle.rep_core.specs.Lookup.{FindsPair}
use Rattle.rep_core.proofs.Numbered.{not_found}
use Rattle.rep_core.proofs.Verdicts.{IsVerdict-unique}
use Rattle.rep_core.specs.declared.verdict.Verdict.TheVariants.{Fresh}
use Rattle.rep_ledger.proofs.taking.is_fresh.Goals as goal

pub returns-in-Some : goal.returns-in-Some
returns-in-Some c = λ h stands. (
  λ no. absurd cc,
  λ fresh.
      let q = c.args.q.now in
      let found = subst (FindsPair q.origin q.seq h) c.in-Some.is (c.find.ensures h stands) in
      absurd (not_found q.origin q.seq h _ found.0 fresh.0 found.1),
)

pub decide-requires : goal.decide-requires
decide-requires c = λ h stands.
    let q = c.args.q.now in
    subst (FindsPair q.origin q.seq h) c.in_default.is (c.find.ensures h stands)

pub returns-in-Repeat : goal.returns-in-Repeat
returns-in-Repeat c = λ h stands. (
  λ no. absurd cc,
  λ fresh.
      let one : c.decide.result ≡ Fresh = IsVerdict-unique _ h _ c.decide.result Fresh (c.decide.ensures.judged h stands) fresh in
      elim c.in-Repeat.is [
        | inl w ↦ let is = w.1 in absurd cc
        | inr w ↦ elim w [
          | inl w ↦ let is = w.1 in absurd cc
          | inr w ↦ elim w [
            | inl is ↦ absurd cc
            | inr is ↦ absurd cc
          ]
        ]
      ],
)
