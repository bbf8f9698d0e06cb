use Rattle.std.proofs.Common.{◌≡◌, ℕ, ◌+◌, ◌*◌, ◌^◌, ◌≤◌, List, length, None, Err, not, sym, ap, subst, ◌∙◌, arith}
use Rattle.rep_disk.specs.Memory.{Memory, memory_shown}
use Rattle.rep_ledger.specs.Ledger.{IsLedgerOf}
use Rattle.rep_store.specs.Making.{Reopens}
use Rattle.rep_store.specs.Steps.{receipts_of}
use Rattle.rep_store.specs.declared.error.Stop.{Stop}
use Rattle.rep_store.specs.declared.error.Stop.TheVariants.{DeviceFault}
use Rattle.rep_world.specs.declared.dial.Dial.{Dial}
use Rattle.rep_world.specs.Events.{Counts, history_left}
use Rattle.rep_world.specs.Trial.{AllowsNamed, CountsEach, FailsOn}
use Rattle.rep_world.proofs.Serving.{none_of}
use Rattle.rep_world.proofs.Trials.{counts_of, fails_on, settled_on}
use Rattle.rep_world.proofs.steps.fail.Goals as goal
use Rattle.rep_world.proofs.steps.fail.Goals.{else-call-eq3-via-then-call-eq3+else-entries-before, else-call-eq3-via-else-call-eq3}

pub returns-in-Ok-submit : goal.returns-in-Ok-submit
returns-in-Ok-submit c =
    let old = c.in-Ok.store in
    let new = c.submit.new.self in
    let same = ap (λ (d : Memory). d.bytes) c.new-disk.ensures.made ∙ c.in_ok-to_vec.ensures.items_if_clones_equal (λ x y is. is) in
    let none : new.reading ≡ None = sym c.reading.ensures ∙ none_of c.reading.result (c.is_none.ensures ∙ ap not c.if-is_none.true) in
    settled_on memory_shown c.args.site.now c.args.q.now c.in-Ok-submit.field-0 c.args.bytes.now old new c.in-Ok.ensures.reopened.is_new.limit
    (subst (λ (bytes : List ℕ). IsLedgerOf bytes old.history) same c.in-Ok.ensures.reopened.holds) c.in-Ok-submit.ensures.served none

pub returns : goal.returns
returns c =
    let old = c.in-Ok.store in
    let new = c.submit.new.self in
    let entries = c.in_ok-entries.entries in
    let same = ap (λ (d : Memory). d.bytes) c.new-disk.ensures.made ∙ c.in_ok-to_vec.ensures.items_if_clones_equal (λ x y is. is) in
    let reopens = subst (λ (d : Dial). Reopens memory_shown c.args.site.now c.new-disk.result d old) c.at.ensures c.in-Ok.ensures.reopened in
    let failed : c.submit.result ≡ Err DeviceFault = c.in-Err-DeviceFault.is ∙ ap (λ (s : Stop). Err s) c.in-Err-DeviceFault.field-0-is in
    let begun : c.moment-begun.result ≡ old.disk.moment = c.moment-begun.ensures ∙ ap (λ (d : Memory). d.moment) c.disk.ensures in
    let early : old.disk.moment ≤ 2 ^ 62 = omega (arith, begun, c.if-begun-gt-LAST_EARLY.false) in
    let moment : c.moment.result ≡ new.disk.moment = c.moment.ensures ∙ ap (λ (d : Memory). d.moment) c.disk-in-DeviceFault-1.ensures in
    let is : new.disk.moment ≡ old.disk.moment + 2 * c.args.call = omega (arith, begun, moment, c.from.ensures, c.if-moment-begun.true) in
    let told = subst (λ (bytes : List ℕ). CountsEach bytes entries) c.bytes.ensures c.in_ok-entries.ensures in
    let counts = subst (λ (d : Memory). CountsEach d.bytes entries) c.into_parts-disk.ensures.disk told in
    let allows = subst AllowsNamed c.into_parts-disk.ensures.disk c.in_ok-name_images.ensures in
    let third : c.args.call ≡ 3 → entries ≡ length old.history = λ at_third. elim c.else-call-eq3.branch [
      | else-call-eq3-via-then-call-eq3+else-entries-before w ↦ omega (arith, w.if-entries-before.false, c.count-before.ensures.value)
      | else-call-eq3-via-else-call-eq3 w ↦ absurd (omega (arith, w.if-call-eq3.false, at_third))
    ] in
    let fails = subst (λ (bytes : List ℕ). FailsOn c.args.site.now c.args.minute c.args.call c.args.q.now bytes new.disk) same
    (fails_on c.args.site.now c.args.minute c.args.call c.args.q.now c.new-disk.result old new (receipts_of new.disk.moment c.submit.result) entries reopens (c.submit.ensures.device_fault failed) (c.submit.ensures.safe c.in-Ok.ensures.reopened.is_new.running) c.requires.call early is counts third allows) in (
      subst (λ (d : Memory). FailsOn c.args.site.now c.args.minute c.args.call c.args.q.now c.args.bytes.now d) (sym c.into_parts-disk.ensures.disk)
          fails,
      subst (λ (d : Memory). Counts d.bytes entries) (sym c.into_parts-disk.ensures.disk)
          (counts_of (history_left c.args.call fails.before fails.whole) new.disk.bytes entries fails.is_left counts),
    )
