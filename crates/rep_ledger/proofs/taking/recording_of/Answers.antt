use Rattle.std.proofs.Common.{◌≡◌, suc, ap, sym, subst, ◌∙◌}
use Rattle.rep_core.specs.Hashes.{hash_behind}
use Rattle.rep_ledger.specs.Asked.{Became}
use Rattle.rep_ledger.specs.Taking.{MayBecomeNext}
use Rattle.rep_core.specs.Chained.{next_line}
use Rattle.rep_core.specs.Verdict.{IsVerdict}
use Rattle.rep_core.specs.declared.verdict.Verdict.TheVariants.{Fresh}
use Rattle.rep_ledger.proofs.Nexts.{origin, IsLineOf-next, IsRecording-from, differ, same_bytes, same_entry}
use Rattle.rep_ledger.proofs.taking.recording_of.Goals as goal

pub returns-in_default-clause-none : goal.returns-in_default-clause-none
returns-in_default-clause-none c = λ h e stands next.
    let made = origin h e next.fits in
    let read = c.in_default.ensures.only (suc _) e.body (hash_behind h e.body) (IsLineOf-next h e.body c.args.line.now made.fresh.2 made.in_range next.written) in absurd cc

pub returns-in_default-request_of-clause-none : goal.returns-in_default-request_of-clause-none
returns-in_default-request_of-clause-none c = λ h e stands next.
    let made = origin h e next.fits in
    let read = c.in-Ok.ensures.only (suc _) e.body (hash_behind h e.body) (IsLineOf-next h e.body c.args.line.now made.fresh.2 made.in_range next.written) in
    let body : c.in-Ok.found.body ≡ e.body = cc in
    let same = same_entry e c.args.origin c.args.seq c.in-Ok.found.body next.came body in
    let asked = c.in_default-request_of.ensures.only h made.q (c.count.ensures.value h stands) (subst (λ d. Became (MayBecomeNext h) made.q d) (sym same) made.became) in
    absurd cc

pub returns-then-not-is_fresh-clause-none : goal.returns-then-not-is_fresh-clause-none
returns-then-not-is_fresh-clause-none c = λ h e stands next.
    let made = origin h e next.fits in
    let read = c.in-Ok.ensures.only (suc _) e.body (hash_behind h e.body) (IsLineOf-next h e.body c.args.line.now made.fresh.2 made.in_range next.written) in
    let body : c.in-Ok.found.body ≡ e.body = cc in
    let same = same_entry e c.args.origin c.args.seq c.in-Ok.found.body next.came body in
    let asked = c.in-Some.ensures.only h made.q (c.count.ensures.value h stands) (subst (λ d. Became (MayBecomeNext h) made.q d) (sym same) made.became) in
    let one : made.q ≡ c.in-Some.request = cc in
    let fresh = (c.is_fresh.ensures h stands).1 (subst (λ q. IsVerdict c.args.core.now.limit h q Fresh) one (subst (λ n. IsVerdict n h made.q Fresh) (sym c.requires) made.fresh)) in
    absurd cc

pub returns-then-ne-clause-none : goal.returns-then-ne-clause-none
returns-then-ne-clause-none c = λ h e stands next.
    let made = origin h e next.fits in
    let read = c.in-Ok.ensures.only (suc _) e.body (hash_behind h e.body) (IsLineOf-next h e.body c.args.line.now made.fresh.2 made.in_range next.written) in
    let body : c.in-Ok.found.body ≡ e.body = cc in
    differ c.bytes.result.now c.args.line.now c.if-ne.ensures
    (c.bytes.ensures.value ∙ c.line.ensures h stands ∙ ap (next_line h) body ∙ sym next.written)

pub returns-clause-found : goal.returns-clause-found
returns-clause-found c = λ h stands.
    let fresh = (c.is_fresh.ensures h stands).0 c.if-not-is_fresh.false in
    IsRecording-from h c.args.origin c.args.seq c.args.line.now c.bytes.result.now c.in-Ok.found.body c.in-Some.request c.recorded.result
    (c.in-Some.ensures.asked h (c.count.ensures.value h stands)) c.recorded.ensures c.in-Ok.ensures.found.line_of.in_range
    (subst (λ n. IsVerdict n h c.in-Some.request Fresh) c.requires fresh)
    (c.bytes.ensures.value ∙ c.line.ensures h stands) (same_bytes c.bytes.result.now c.args.line.now c.if-ne.ensures)
