use Rattle.std.proofs.Common.{ℕ, List, length, map, codes, sym, ◌∙◌, subst, arith, ◌+◌}
use Rattle.std.proofs.lemmas.Bool.{false≢true}
use Rattle.toml.specs.View.{view, table_view, items_of}
use Rattle.toml.specs.declared.value.Value.{Value}
use Rattle.toml_fields.specs.Table.{HasArray}
use Rattle.tr_plan.specs.Schedule.{IsTimesCount}
use Rattle.tr_plan.proofs.TimesLemmas.{AreTimesOf, AreTimesOf-none, AreTimesOf-more, times_count, time_there, times_made, no_text, text_same}
use Rattle.tr_plan.proofs.schedule.times_at.Goals as goal

pub returns-then-not-is_times_count : goal.returns-then-not-is_times_count
returns-then-not-is_times_count c = λ times says.
    let count = times_count (table_view c.args.row.now) (codes "times") c.in-Some.array.now.items times c.in-Some.ensures says in
    false≢true (sym c.if-not-is_times_count.true ∙ c.is_times_count.ensures.1 (subst IsTimesCount (omega (arith, c.len.ensures, c.in-Some.array.now.ok.0)) count))

pub loop-value-init : goal.loop-value-init
loop-value-init c =
    subst (λ (ms : List ℕ). AreTimesOf c.deref-value-items.result.now 0 ms) (sym c.new-minutes.ensures.items) (AreTimesOf-none c.deref-value-items.result.now)

pub returns-in_default-as_str : goal.returns-in_default-as_str
returns-in_default-as_str c = λ times says.
    let row = table_view c.args.row.now in
    let values = c.deref-value-items.result.now in
    let there = subst (λ (vs : List Value). HasArray row (codes "times") (items_of (map view vs))) (sym c.deref-value-items.ensures.value) c.in-Some.ensures in
    let time = time_there row (codes "times") values times c.loop-value.value-index c.value-item.result there says c.loop-value-test.true c.value-item.is in
    no_text (view c.value-item.result) time.0 c.in_default-as_str.ensures time.2

pub returns-in_default-read_time_of_day : goal.returns-in_default-read_time_of_day
returns-in_default-read_time_of_day c = λ times says.
    let row = table_view c.args.row.now in
    let values = c.deref-value-items.result.now in
    let there = subst (λ (vs : List Value). HasArray row (codes "times") (items_of (map view vs))) (sym c.deref-value-items.ensures.value) c.in-Some.ensures in
    let time = time_there row (codes "times") values times c.loop-value.value-index c.value-item.result there says c.loop-value-test.true c.value-item.is in
    c.in_default-read_time_of_day.ensures time.0 time.1
    (c.as_bytes.ensures.value ∙ text_same (view c.value-item.result) c.in-Some-as_str.text.now time.0 c.in-Some-as_str.ensures time.2)

pub loop-value-preserved : goal.loop-value-preserved
loop-value-preserved c =
    let values = c.deref-value-items.result.now in
    let minute = c.in-Some-read_time_of_day.minute in
    subst (λ (ms : List ℕ). AreTimesOf values (c.loop-value.value-index + 1) ms) (sym c.in_ok-push.ensures.items)
    (AreTimesOf-more values c.loop-value.value-index c.loop-value.minutes.items c.value-item.result c.in-Some-as_str.text.now minute c.loop-value.invariant
    c.loop-value-test.true c.value-item.is c.in-Some-as_str.ensures c.in-Some-read_time_of_day.ensures.0
    (sym c.as_bytes.ensures.value ∙ c.in-Some-read_time_of_day.ensures.1))

pub returns : goal.returns
returns c =
    let row = table_view c.args.row.now in
    let values = c.deref-value-items.result.now in
    let there = subst (λ (vs : List Value). HasArray row (codes "times") (items_of (map view vs))) (sym c.deref-value-items.ensures.value) c.in-Some.ensures in
    let count : IsTimesCount (length values) =
    subst IsTimesCount (c.len.ensures ∙ sym c.deref-value-items.ensures.len) (c.is_times_count.ensures.0 c.if-not-is_times_count.false) in
    times_made row (codes "times") values c.loop-value.value-index c.loop-value.minutes.items c.make.result there c.loop-value.invariant count c.loop-value-test.false
    c.make.ensures.succeeds.1 c.make.ensures.value
