use Rattle.std.proofs.Common.{ℕ, List, ◌+◌, true, nat_cmp, codes, inr, refl, sym, subst}
use Rattle.std.specs.BTreeSet as set
use Rattle.std.specs.Cmp.Lexicographic.{slice_cmp}
use Rattle.toml.specs.View.{view, table_view}
use Rattle.tr_plan.specs.Index.{HasCodes}
use Rattle.tr_plan.specs.Schedule.{IsScheduleOf, IsScheduleOff, IsScheduleFault, schedule_number}
use Rattle.tr_plan.specs.declared.schedule.Schedule.{Schedule}
use Rattle.tr_plan.proofs.IndexLemmas.{HasCodes-more}
use Rattle.tr_plan.proofs.LoopLemmas.{AreSaid, AreSaid-more, table_row_off}
use Rattle.tr_plan.proofs.schedule.schedules_of.Goals as goal

pub returns-in-Err-Off-clause-off : goal.returns-in-Err-Off-clause-off
returns-in-Err-Off-clause-off c =
    let values = c.loop-i.schedules.items in
    let number = rw c.in-Err-Off.field-0-is at c.number.ensures in
    let off = subst (IsScheduleFault values (view c.index-rows-i.result)) c.in-Err-Off.field-0-is (c.in-Err-Off.ensures.off values c.loop-i.invariant.codes) in
    inr (
      c.in-Ok.place,
      c.number.result,
      table_row_off IsScheduleOf schedule_number IsScheduleOff (table_view c.args.table.now) (codes "schedule") c.in-Some.rows.now c.loop-i.i values
          c.index-rows-i.result c.in-Ok.place c.number.result c.in-Err-Off.key c.in-Some.ensures c.loop-i.invariant.said c.loop-i-test.true c.index-rows-i.is
          c.in-Ok.ensures.1 number off,
      refl,
    )

pub loop-i-preserved : goal.loop-i-preserved
loop-i-preserved c =
    let values = c.loop-i.schedules.items in
    let schedule = c.in-Ok-schedule_of.schedule in
    let more = sym c.in-Ok-push.ensures.items in
    record {
      said = subst (λ (vs : List Schedule). AreSaid IsScheduleOf c.in-Some.rows.now (c.loop-i.i + 1) vs) more
          (AreSaid-more IsScheduleOf c.in-Some.rows.now c.loop-i.i values c.index-rows-i.result schedule c.loop-i.invariant.said c.loop-i-test.true c.index-rows-i.is
          (c.in-Ok-schedule_of.ensures.ok values c.loop-i.invariant.codes));
      codes = subst (λ (vs : List Schedule). HasCodes c.insert.new.self vs) more
          (HasCodes-more c.loop-i.codes c.insert.new.self values schedule c.loop-i.invariant.codes c.code_key.ensures.text
          (subst (λ (k : List ℕ). set.Updates (slice_cmp nat_cmp) c.loop-i.codes c.insert.new.self k true) c.code_key.ensures.value c.in-Ok-insert.ensures.updates));
    }
