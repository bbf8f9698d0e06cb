use Rattle.std.proofs.Common.{◌≤◌, length, ap, refl, subst, sym, ◌∙◌}
use Rattle.rep_core.specs.Core.{Kept}
use Rattle.rep_core.proofs.Standing.{Stands-own, entries_of}
use Rattle.rep_core.proofs.Numbered.{IsNumbered-at}
use Rattle.rep_core.proofs.Hashes.{HasText-at}
use Rattle.rep_core.proofs.recorder.Core.entry.Goals as goal

pub returns-clause-numbered : goal.returns-clause-numbered
returns-clause-numbered c = λ h stands.
    let own = ap (λ (k : Kept). k.entries) c.self.view_is ∙ entries_of c.args.self.now h stands in
    let range = c.requires h stands in
    IsNumbered-at h c.self.inside.entries.items c.args.nsr _ c.index.result.now own range.0 range.1 refl c.index.ensures

pub returns-clause-text : goal.returns-clause-text
returns-clause-text c =
    let own = ap (λ (k : Kept). k.entries) c.self.view_is in
    let range = c.requires c.args.self.now.entries (Stands-own c.args.self.now) in
    let high : c.args.nsr ≤ length c.self.inside.entries.items = subst (λ n. c.args.nsr ≤ n) (ap length (sym own)) range.1 in
    HasText-at c.self.inside.entries.items c.self.inside.hashes.items c.args.nsr _ c.index.result.now c.self.invariant.1.hashes_are range.0 high refl c.index.ensures
