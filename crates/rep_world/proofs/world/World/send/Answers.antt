use Rattle.std.proofs.Common.{Ok, Err, refl, ap, subst, ◌∙◌, arith, List, [], ◌∷◌, ◌++◌}
use Rattle.rep_wire.specs.declared.request.Request.{Request}
use Rattle.rep_world.specs.Events.{Does}
use Rattle.rep_world.specs.Fields.{world_of}
use Rattle.rep_world.specs.World.{World}
use Rattle.rep_world.specs.declared.event.Event.TheVariants.{Send}
use Rattle.rep_world.specs.declared.event.Seen.TheVariants.{Sent}
use Rattle.rep_world.specs.declared.event.WorldStop.TheVariants.{OutOfMemory}
use Rattle.rep_world.proofs.Events.{send_does, send_kept}
use Rattle.rep_world.proofs.Rooms.{no_memory, room_does, room_kept}
use Rattle.rep_world.proofs.Trials.{left_alone-refl}
use Rattle.rep_world.proofs.world.World.send.Goals as goal

pub returns-in_default-clause-does : goal.returns-in_default-clause-does
returns-in_default-clause-does c =
    let s = c.self.inside in
    subst (λ (w : World). Does (Send c.args.request.now) w w (Err OutOfMemory)) c.self.view_is
    (no_memory s.site s.sent.items s.named.items s.issued.items s.recorder c.self.invariant (Send c.args.request.now) (λ none. none))

pub invariant_of-self : goal.invariant_of-self
invariant_of-self c =
    let s = c.self.inside in
    room_kept s.site s.sent.items c.reserve.new.self.items s.named.items s.named.items s.issued.items s.issued.items c.reserve.ensures.items refl refl s.recorder s.recorder c.self.invariant (left_alone-refl s.recorder)

pub returns-then-is_err-clause-does : goal.returns-then-is_err-clause-does
returns-then-is_err-clause-does c =
    let s = c.self.inside in
    subst (λ (w : World). Does (Send c.args.request.now) w (world_of s.site c.reserve.new.self.items s.named.items s.issued.items s.recorder) (Err OutOfMemory)) c.self.view_is
    (room_does s.site s.sent.items c.reserve.new.self.items s.named.items s.named.items s.issued.items s.issued.items c.reserve.ensures.items refl refl s.recorder s.recorder c.self.invariant (Send c.args.request.now) (λ none. none) (left_alone-refl s.recorder))

pub invariant_of-self-2 : goal.invariant_of-self-2
invariant_of-self-2 c =
    let s = c.self.inside in
    let is = c.add.ensures ∙ ap (λ (qs : List Request). qs ++ c.args.request.now ∷ []) c.reserve.ensures.items in
    send_kept s.site s.sent.items s.named.items s.issued.items s.recorder c.self.invariant c.args.request.now c.add.new.sent.items is c.requires

pub returns-clause-does : goal.returns-clause-does
returns-clause-does c =
    let s = c.self.inside in
    let is = c.add.ensures ∙ ap (λ (qs : List Request). qs ++ c.args.request.now ∷ []) c.reserve.ensures.items in
    subst (λ (w : World). Does (Send c.args.request.now) w (world_of s.site c.add.new.sent.items s.named.items s.issued.items s.recorder) (Ok (Sent c.in-Ok.k))) c.self.view_is
    (send_does s.site s.sent.items s.named.items s.issued.items s.recorder c.self.invariant c.args.request.now c.in-Ok.k c.add.new.sent.items is (omega (arith, c.in-Ok.ensures, s.sent.ok.0)))

pub returns-clause-holds : goal.returns-clause-holds
returns-clause-holds c =
    let s = c.self.inside in
    let is = c.add.ensures ∙ ap (λ (qs : List Request). qs ++ c.args.request.now ∷ []) c.reserve.ensures.items in
    (send_kept s.site s.sent.items s.named.items s.issued.items s.recorder c.self.invariant c.args.request.now c.add.new.sent.items is c.requires).world
