use Rattle.std.proofs.Common.{Some, ap, refl, sym, ◌∙◌}
use Rattle.afd_records.specs.Line.{record_text, hash_bytes}
use Rattle.rep_core.specs.Core.{Kept}
use Rattle.rep_core.proofs.Standing.{Stands-own, entries_of}
use Rattle.rep_core.proofs.Numbered.{IsNumbered-at}
use Rattle.rep_core.proofs.Hashes.{its_hash, line_of_number}
use Rattle.rep_core.proofs.recorder.Core.line_at.Goals as goal

pub overflow_sub-place : goal.overflow_sub-place
overflow_sub-place c = (c.requires c.args.self.now.entries (Stands-own c.args.self.now)).0

pub print-requires-clause-body : goal.print-requires-clause-body
print-requires-clause-body c =
    let h = c.args.self.now.entries in
    let range = c.requires h (Stands-own c.args.self.now) in
    (its_hash h c.self.inside.entries.items c.self.inside.hashes.items c.args.nsr _ c.index.result.now c.index-2.result.now
    c.self.invariant.1.hashes_are (ap (λ (k : Kept). k.entries) c.self.view_is) range.0 range.1 refl c.index.ensures c.index-2.ensures).text

pub returns : goal.returns
returns c = λ h stands.
    let own = ap (λ (k : Kept). k.entries) c.self.view_is ∙ entries_of c.args.self.now h stands in
    let range = c.requires h stands in
    let here = c.index.result.now in
    let items = c.self.inside.entries.items in
    let numbered = IsNumbered-at h items c.args.nsr _ here own range.0 range.1 refl c.index.ensures in
    let its = its_hash h items c.self.inside.hashes.items c.args.nsr _ here c.index-2.result.now c.self.invariant.1.hashes_are own range.0 range.1 refl c.index.ensures c.index-2.ensures in
    line_of_number h c.args.nsr here c.index-2.result.now numbered its
    ∙ ap Some (ap (λ hash. record_text c.args.nsr here.body (hash_bytes hash)) (sym c.as_ref.ensures.value) ∙ sym c.print.ensures)
