use Rattle.std.proofs.Common.{◌≡◌, ◌++◌, [], ◌∷◌, ap, sym, ◌∙◌}
use Rattle.rep_wire.specs.declared.request.Entry.{Entry}
use Rattle.rep_core.specs.Answered.{entry_of, recorded_after}
use Rattle.rep_core.proofs.HashTexts.{hash_fits}
use Rattle.rep_core.proofs.Standing.{Stands-own, entries_of}
use Rattle.rep_core.proofs.Verdicts.{repeat_after}
use Rattle.rep_core.proofs.recorder.Core.accept_line.Goals as goal

pub append-requires-clause-number : goal.append-requires-clause-number
append-requires-clause-number c = (c.requires.fresh c.args.self.now.entries (Stands-own c.args.self.now)).2

pub append-requires-clause-given : goal.append-requires-clause-given
append-requires-clause-given c =
    let old = c.args.self.now in
    let body : c.entry_made-entry.result.body ≡ (entry_of c.args.q.now c.args.t).body = ap (λ (e : Entry). e.body) c.entry_made-entry.ensures in
    hash_fits old.entries c.entry_made-entry.result.body c.hash_within-hash.result
    (c.hash_within-hash.ensures old.entries (rw body (c.requires.line old.entries (Stands-own old))))

pub returns-clause-repeat : goal.returns-clause-repeat
returns-clause-repeat c = λ h stands.
    let old = c.args.self.now.entries in
    let q = c.args.q.now in
    let after : h ≡ recorded_after old q c.args.t =
    sym (entries_of c.append.new.self h stands) ∙ c.append.ensures.entries
    ∙ ap (λ (e : Entry). old ++ e ∷ []) c.entry_made-entry.ensures in
    repeat_after c.args.self.now.limit c.append.new.self.limit old h q c.args.t (c.requires.fresh old (Stands-own c.args.self.now)) after
