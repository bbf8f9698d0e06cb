use Rattle.std.proofs.Common.{◌≡◌, ℕ, ◌+◌, ◌-◌, ◌*◌, ◌^◌, ◌≤◌, List, None, not, sym, ap, subst, ◌∙◌, arith}
use Rattle.rep_disk.specs.Memory.{Memory, memory_shown, state_at}
use Rattle.rep_disk.specs.Record.{image_of}
use Rattle.rep_ledger.specs.Ledger.{IsLedgerOf}
use Rattle.rep_store.specs.Steps.{Serves, receipts_of}
use Rattle.sure_disk.specs.Sure.{sure_shown}
use Rattle.rep_world.proofs.Serving.{none_of, ok_of, some_of}
use Rattle.rep_world.proofs.Trials.{crashes_on, faults, made_calls, readings, settled_on}
use Rattle.rep_world.proofs.steps.crash.Goals as goal

pub returns-then-is_none : goal.returns-then-is_none
returns-then-is_none c =
    let old = c.in_ok-store.store in
    let new = c.submit.new.self in
    let ok = sym c.is_err.ensures.value ∙ c.if-is_err.false in
    let served = ok_of (λ reply. Serves sure_shown readings faults c.args.q.now reply old new) c.submit.result ok c.submit.ensures.served in
    let none : new.reading ≡ None = sym c.reading.ensures ∙ none_of c.reading.result (c.is_none.ensures ∙ ap not c.if-is_none.true) in
    settled_on sure_shown c.args.site.now c.args.q.now served.0 c.args.bytes.now old new c.in_ok-store.ensures.opened.runs.limit
    (subst (λ (bytes : List ℕ). IsLedgerOf bytes old.history) c.in_ok-store.ensures.opened.same c.in_ok-store.ensures.opened.runs.settled.holds) served.1 none

pub image-requires : goal.image-requires
image-requires c =
    let old = c.in_ok-store.store in
    let new = c.submit.new.self in
    let ok = sym c.is_err.ensures.value ∙ c.if-is_err.false in
    let served = ok_of (λ reply. Serves sure_shown readings faults c.args.q.now reply old new) c.submit.result ok c.submit.ensures.served in
    let begun : c.moment-begun.result ≡ old.disk.moment = c.moment-begun.ensures ∙ ap (λ (d : Memory). d.moment) c.disk.ensures in
    let early : old.disk.moment ≤ 2 ^ 62 = omega (arith, begun, c.if-begun-gt-LAST_EARLY.false) in
    let calls : new.disk.moment ≡ old.disk.moment + 8 =
    made_calls sure_shown c.args.q.now served.0 old new served.1 (λ none. some_of c.reading.result (c.is_none.ensures ∙ ap not c.if-is_none.false) (c.reading.ensures ∙ none)) early in
    let now : c.disk-2.result.now.moment ≡ new.disk.moment = ap (λ (d : Memory). d.moment) c.disk-2.ensures in
    omega (arith, begun, calls, now, c.from.ensures, c.requires.some_call, c.requires.call)

pub returns : goal.returns
returns c =
    let old = c.in_ok-store.store in
    let new = c.submit.new.self in
    let left = c.in_ok-left.left.items in
    let ok = sym c.is_err.ensures.value ∙ c.if-is_err.false in
    let served = ok_of (λ reply. Serves sure_shown readings faults c.args.q.now reply old new) c.submit.result ok c.submit.ensures.served in
    let begun : c.moment-begun.result ≡ old.disk.moment = c.moment-begun.ensures ∙ ap (λ (d : Memory). d.moment) c.disk.ensures in
    let early : old.disk.moment ≤ 2 ^ 62 = omega (arith, begun, c.if-begun-gt-LAST_EARLY.false) in
    let moment : c.moment-begun.result + (2 * c.from.result - 1) ≡ old.disk.moment + (2 * c.args.call - 1) = omega (arith, begun, c.from.ensures, c.requires.some_call) in
    let is = subst (λ (m : ℕ). left ≡ image_of c.args.image (state_at new.disk m)) moment
    (subst (λ (d : Memory). left ≡ image_of c.args.image (state_at d (c.moment-begun.result + (2 * c.from.result - 1)))) c.disk-2.ensures c.in_ok-left.ensures.named) in
    let leaves = subst (λ (m : ℕ). (memory_shown new.disk).may_leave m left) moment
    (subst (λ (d : Memory). (memory_shown d).may_leave (c.moment-begun.result + (2 * c.from.result - 1)) left) c.disk-2.ensures c.in_ok-left.ensures.allowed) in
    crashes_on c.args.site.now c.args.minute c.args.call c.args.image c.args.q.now c.args.bytes.now left served.0 (receipts_of new.disk.moment c.submit.result) old new c.in_ok-store.ensures.clock c.in_ok-store.ensures.opened served.1
    (λ none. some_of c.reading.result (c.is_none.ensures ∙ ap not c.if-is_none.false) (c.reading.ensures ∙ none)) (c.submit.ensures.safe c.in_ok-store.ensures.opened.runs.running) c.requires.some_call c.requires.call early is leaves
