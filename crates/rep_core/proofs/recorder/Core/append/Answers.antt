use Rattle.std.proofs.Common.{◌<◌, length, ap, arith}
use Rattle.afd_records.specs.Record.{last_nsr}
use Rattle.rep_core.specs.Core.{Kept}
use Rattle.rep_core.proofs.Hashes.{append_in_step}
use Rattle.rep_core.proofs.recorder.Core.append.Goals as goal

pub invariant_of-self : goal.invariant_of-self
invariant_of-self c =
    let limits = c.self.invariant.0 in
    let own = ap (λ (k : Kept). k.entries) c.self.view_is in
    let most = ap (λ (k : Kept). k.limit) c.self.view_is in
    let room : length c.self.inside.entries.items < last_nsr = omega (arith, c.requires.number, ap length own, most, limits.1) in (
      limits,
      append_in_step c.self.inside.entries.items c.push_reserved.new.self.items c.self.inside.hashes.items c.push_reserved-2.new.self.items
          c.args.entry c.args.hash c.self.inside.tip c.or-self-inside.result
          c.self.invariant.1 room c.requires.text (rw own c.requires.hash) c.requires.given
          c.push_reserved.ensures.items c.push_reserved-2.ensures.items c.or-self-inside.ensures,
      rw c.push_reserved.ensures.items (c.note.ensures.noted c.self.inside.entries.items c.self.invariant.2 (rw own c.requires.new) (omega (arith, c.len.ensures, c.self.inside.entries.ok.0))),
    )
