use Rattle.std.proofs.Common.{◌≡◌, ◌∙◌, sym, ap, rules}
use Rattle.rep_fields.specs.Moment.{moment_at}
use Rattle.rep_core.specs.declared.verdict.Verdict.TheVariants.{Fresh}
use Rattle.rep_core.proofs.Standing.{entries_of}
use Rattle.rep_print.proofs.KeepLemmas.{same_entries}
use Rattle.rep_print.proofs.DeskLemmas.{verdict_at, taken, untimed, whole-reserved}
use Rattle.rep_print.proofs.desk.PrintDesk.take.Goals as goal

pub invariant_of-self : goal.invariant_of-self
invariant_of-self g c =
    whole-reserved c.self.inside.core c.take_room.new.core c.self.inside.journal c.take_room.new.journal c.self.inside.zone c.take_room.ensures.core c.take_room.ensures.limit
    c.take_room.ensures.frames c.self.invariant

pub invariant_of-self-in_default : goal.invariant_of-self-in_default
invariant_of-self-in_default g c =
    whole-reserved c.self.inside.core c.take_room.new.core c.self.inside.journal c.take_room.new.journal c.self.inside.zone c.take_room.ensures.core c.take_room.ensures.limit
    c.take_room.ensures.frames c.self.invariant

pub invariant_of-self-2 : goal.invariant_of-self-2
invariant_of-self-2 g c =
    let whole =
    whole-reserved c.self.inside.core c.take_room.new.core c.self.inside.journal c.take_room.new.journal c.self.inside.zone c.take_room.ensures.core c.take_room.ensures.limit
    c.take_room.ensures.frames c.self.invariant in
    record { limit = c.put_entry.ensures.limit ∙ whole.limit; offset = whole.offset; frames = c.put_entry.ensures.frames whole.frames }

pub returns-then-is_err : goal.returns-then-is_err
returns-then-is_err g c = (
  c.requires.fresh,
  ap (λ h. record { history = h; clock = c.self.inside.clock; zone = c.self.inside.zone }) (same_entries c.self.inside.core c.take_room.new.core c.take_room.ensures.core) ∙ c.self.view_is,
)

pub returns-in_default : goal.returns-in_default
returns-in_default g c =
    untimed g.C.Clock.readings g.C.Clock.faults c.args.q.now c.args.self.now c.self.inside.core c.take_room.new.core c.self.inside.clock c.now.new.self c.self.inside.zone
    c.self.view_is c.requires.fresh c.take_room.ensures.core c.in_default.ensures.reading c.in_default.ensures.cause.later c.in_default.ensures.cause.failed

pub put_entry-requires-clause-limit : goal.put_entry-requires-clause-limit
put_entry-requires-clause-limit g c = c.take_room.ensures.limit ∙ c.self.invariant.limit

pub put_entry-requires-clause-fresh : goal.put_entry-requires-clause-fresh
put_entry-requires-clause-fresh g c h stands =
    verdict_at _ _ _ _ c.args.q.now Fresh c.requires.fresh (sym (c.take_room.ensures.limit ∙ c.self.invariant.limit))
    (sym (ap (λ s. s.history) c.self.view_is) ∙ sym (same_entries c.self.inside.core c.take_room.new.core c.take_room.ensures.core) ∙ entries_of c.take_room.new.core h stands)

pub returns : goal.returns
returns g c =
    let stamped : c.in-Some.now ≡ moment_at c.in-Ok.minute c.self.inside.zone = search rules in
    taken g.C.Clock.readings g.C.Clock.faults c.args.q.now c.args.self.now c.self.inside.core c.take_room.new.core c.put_entry.new.core c.self.inside.clock c.now.new.self c.self.inside.zone
    c.in-Ok.minute c.in-Some.now c.receipt.result c.self.view_is c.self.invariant.limit c.requires.fresh c.take_room.ensures.core c.take_room.ensures.limit
    c.in-Ok.ensures.reading.0 c.in-Ok.ensures.reading.1 c.in-Ok.ensures.cause.kept stamped c.put_entry.ensures.recorded c.put_entry.ensures.limit c.receipt.ensures
