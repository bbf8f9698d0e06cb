use Rattle.std.proofs.Common.{◌≡◌, ◌+◌, ◌++◌, [], ◌∷◌, ap, sym, ◌∙◌, arith}
use Rattle.rep_wire.specs.declared.request.Entry.{Entry}
use Rattle.std.specs.Option.{option_copied}
use Rattle.rep_core.specs.Core.{Kept}
use Rattle.rep_core.specs.Answered.{recorded_after}
use Rattle.rep_core.proofs.Hashes.{linked-behind}
use Rattle.rep_core.proofs.Standing.{Stands-own, entries_of}
use Rattle.rep_core.proofs.Verdicts.{repeat_after}
use Rattle.rep_core.proofs.recorder.Core.accept.Goals as goal

pub append-requires-clause-number : goal.append-requires-clause-number
append-requires-clause-number c = (c.requires.fresh c.args.self.now.entries (Stands-own c.args.self.now)).2

pub append-requires-clause-hash : goal.append-requires-clause-hash
append-requires-clause-hash c =
    let old = c.args.self.now in
    let kept = ap (λ (k : Kept). k.entries) c.self.view_is in
    let count = c.count.ensures.value old.entries (Stands-own old) in
    c.hash_of-hash.ensures.value
    ∙ linked-behind old.entries c.entry_made-entry.result.body (option_copied c.as_ref.result) (c.count.result + 1)
    (rw (c.as_ref.ensures.value, ← kept) c.self.invariant.1.tip_is) (omega (arith, count))

pub returns-clause-repeat : goal.returns-clause-repeat
returns-clause-repeat c = λ h stands.
    let old = c.args.self.now.entries in
    let q = c.args.q.now in
    let after : h ≡ recorded_after old q c.args.t =
    sym (entries_of c.append.new.self h stands) ∙ c.append.ensures.entries
    ∙ ap (λ (e : Entry). old ++ e ∷ []) c.entry_made-entry.ensures in
    repeat_after c.args.self.now.limit c.append.new.self.limit old h q c.args.t (c.requires.fresh old (Stands-own c.args.self.now)) after
