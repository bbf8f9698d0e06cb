use Rattle.std.proofs.Common.{ap, refl, ◌∙◌}
use Rattle.afd_records.specs.Record.{recorded_of}
use Rattle.rep_wire.specs.declared.request.Entry.{Entry}
use Rattle.rep_core.specs.Core.{Kept}
use Rattle.rep_core.specs.Answered.{marked_in, hash_in}
use Rattle.rep_core.proofs.Standing.{Stands-own, entries_of}
use Rattle.rep_core.proofs.Numbered.{IsNumbered-at, IsNumbered-unique}
use Rattle.rep_core.proofs.Hashes.{its_hash, slip-is}
use Rattle.rep_core.proofs.recorder.Core.slip.Goals as goal

pub overflow_sub-place : goal.overflow_sub-place
overflow_sub-place c = (c.requires c.args.self.now.entries (Stands-own c.args.self.now)).0

pub returns : goal.returns
returns c = λ h e stands numbered.
    let own = ap (λ (k : Kept). k.entries) c.self.view_is ∙ entries_of c.args.self.now h stands in
    let range = c.requires h stands in
    let here = c.index.result.now in
    let items = c.self.inside.entries.items in
    let same = IsNumbered-unique h c.args.nsr here e (IsNumbered-at h items c.args.nsr _ here own range.0 range.1 refl c.index.ensures) numbered in
    let its = its_hash h items c.self.inside.hashes.items c.args.nsr _ here c.index-2.result.now c.self.invariant.1.hashes_are own range.0 range.1 refl c.index.ensures c.index-2.ensures in
    slip-is h c.args.nsr e.body c.marked_in.result c.recorded.result c.index-2.result.now
    (c.marked_in.ensures ∙ ap (λ (d : Entry). marked_in d.body) same)
    (c.recorded.ensures ∙ ap (λ (d : Entry). recorded_of d.body) same)
    (its.is ∙ ap (λ (d : Entry). hash_in h c.args.nsr d.body) same)
