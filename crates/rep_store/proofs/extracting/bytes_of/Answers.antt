use Rattle.std.proofs.Common.{◌≡◌, ℕ, ◌+◌, ◌-◌, ◌≤◌, Some, slice_get, subst, ap, arith, length}
use Rattle.rep_core.specs.Chained.{history_lines}
use Rattle.rep_core.proofs.Standing.{Stands-own}
use Rattle.rep_store.proofs.Sizes.{ended_more}
use Rattle.rep_store.proofs.extracting.bytes_of.Goals as goal

pub overflow_step-place : goal.overflow_step-place
overflow_step-place c =
    let range = c.requires.range c.args.core.now.entries (Stands-own c.args.core.now) in omega arith

pub loop-place-preserved : goal.loop-place-preserved
loop-place-preserved c = record {
  few = omega (arith, c.bytes.ensures.within);
  bytes = λ h stands.
      let place : c.loop-place.place + 1 - 1 ≡ c.loop-place.place = omega arith in
      let found : slice_get (history_lines h) c.loop-place.place ≡ Some c.line_at-line.result =
      subst (λ (k : ℕ). slice_get (history_lines h) k ≡ Some c.line_at-line.result) place (c.line_at-line.ensures h stands) in
      let more = ended_more (history_lines h) (c.args.first - 1) c.loop-place.place c.line_at-line.result (omega arith) found in
      let here = c.loop-place.invariant.bytes h stands in
      omega (arith, ap length c.bytes.ensures.value);
}

pub returns-clause-few : goal.returns-clause-few
returns-clause-few c =
    let range = c.requires.range c.args.core.now.entries (Stands-own c.args.core.now) in omega (arith, c.loop-place.invariant.few)
