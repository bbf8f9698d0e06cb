use Rattle.std.proofs.Common.{Ok, subst}
use Rattle.rep_world.specs.Events.{Does}
use Rattle.rep_world.specs.World.{World}
use Rattle.rep_world.specs.declared.event.Event.TheVariants.{Extract}
use Rattle.rep_world.specs.declared.event.Seen.TheVariants.{Extracted, Idle}
use Rattle.rep_world.proofs.Extractions.{extract_none, extract_some}
use Rattle.rep_world.proofs.world.World.extract.Goals as goal

pub returns-in_default-clause-does : goal.returns-in_default-clause-does
returns-in_default-clause-does c =
    let s = c.self.inside in
    subst (λ (w : World). Does (Extract c.args.from c.args.to c.args.minute) w w (Ok Idle)) c.self.view_is
    (extract_none s.site s.sent.items s.named.items s.issued.items s.recorder c.args.from c.args.to c.args.minute c.in_default.ensures)

pub returns-clause-does : goal.returns-clause-does
returns-clause-does c =
    let s = c.self.inside in
    subst (λ (w : World). Does (Extract c.args.from c.args.to c.args.minute) w w (Ok (Extracted c.in-Some.bytes))) c.self.view_is
    (extract_some s.site s.sent.items s.named.items s.issued.items s.recorder c.self.invariant c.args.from c.args.to c.args.minute c.in-Some.bytes c.in-Some.ensures)
