use Rattle.std.proofs.Common.{Ok, Err, sym, subst, ◌∙◌}
use Rattle.rep_world.specs.Events.{Does}
use Rattle.rep_world.specs.Fields.{world_of}
use Rattle.rep_world.specs.Trial.{IsOpened}
use Rattle.rep_world.specs.World.{World}
use Rattle.rep_world.specs.declared.event.Event.TheVariants.{Reopen}
use Rattle.rep_world.specs.declared.event.Seen.TheVariants.{Idle, Opened}
use Rattle.rep_world.specs.declared.event.WorldStop.TheVariants.{OutOfMemory}
use Rattle.rep_world.specs.declared.recorder.Recorder.TheVariants.{Up}
use Rattle.rep_world.proofs.Events.{reopen_does, reopen_idle, reopen_kept}
use Rattle.rep_world.proofs.Rooms.{no_memory}
use Rattle.rep_world.proofs.world.World.reopen.Goals as goal

pub open-requires : goal.open-requires
open-requires c = c.self.invariant.is_site

pub returns-then-is_running-clause-does : goal.returns-then-is_running-clause-does
returns-then-is_running-clause-does c =
    let s = c.self.inside in
    subst (λ (w : World). Does Reopen w w (Ok Idle)) c.self.view_is
    (reopen_idle (world_of s.site s.sent.items s.named.items s.issued.items s.recorder) (sym c.is_running.ensures ∙ c.if-is_running.true))

pub returns-in_default-clause-does : goal.returns-in_default-clause-does
returns-in_default-clause-does c =
    let s = c.self.inside in
    subst (λ (w : World). Does Reopen w w (Err OutOfMemory)) c.self.view_is
    (no_memory s.site s.sent.items s.named.items s.issued.items s.recorder c.self.invariant Reopen (λ none. none))

pub invariant_of-self : goal.invariant_of-self
invariant_of-self c =
    let s = c.self.inside in
    let opened = subst (λ bytes. IsOpened s.site bytes c.in-Ok.store) c.bytes_of-bytes.ensures c.in-Ok.ensures.opened in
    reopen_kept s.site s.sent.items s.named.items s.issued.items s.recorder c.self.invariant (sym c.is_running.ensures ∙ c.if-is_running.false) c.in-Ok.store opened

pub returns-clause-does : goal.returns-clause-does
returns-clause-does c =
    let s = c.self.inside in
    let opened = subst (λ bytes. IsOpened s.site bytes c.in-Ok.store) c.bytes_of-bytes.ensures c.in-Ok.ensures.opened in
    subst (λ (old : World). Does Reopen old (world_of s.site s.sent.items s.named.items s.issued.items (Up c.in-Ok.store)) (Ok (Opened c.count-n.result))) c.self.view_is
    (reopen_does s.site s.sent.items s.named.items s.issued.items s.recorder c.self.invariant (sym c.is_running.ensures ∙ c.if-is_running.false) c.in-Ok.store opened c.count-n.result c.count-n.ensures.value)

pub returns-clause-holds : goal.returns-clause-holds
returns-clause-holds c =
    let s = c.self.inside in
    let opened = subst (λ bytes. IsOpened s.site bytes c.in-Ok.store) c.bytes_of-bytes.ensures c.in-Ok.ensures.opened in
    (reopen_kept s.site s.sent.items s.named.items s.issued.items s.recorder c.self.invariant (sym c.is_running.ensures ∙ c.if-is_running.false) c.in-Ok.store opened).world
