use Rattle.std.proofs.Common.{◌≡◌, true, Option, List, ℕ, [], ◌∷◌, ◌++◌, Some, Ok, Err, refl, ap, subst, ◌∙◌}
use Rattle.rep_wire.specs.declared.request.Request.{Request}
use Rattle.rep_world.specs.declared.naming.Naming.{Naming}
use Rattle.rep_world.specs.Events.{Does, IsUnsent}
use Rattle.rep_world.specs.Fields.{world_of}
use Rattle.rep_world.specs.Trial.{FailsOn, FailsOrSettles, SettledOn}
use Rattle.rep_world.specs.World.{World, IsMessage}
use Rattle.rep_world.specs.declared.event.Event.TheVariants.{Fail}
use Rattle.rep_world.specs.declared.event.Seen.TheVariants.{Failed, Idle}
use Rattle.rep_world.specs.declared.event.WorldStop.TheVariants.{NotSent, OutOfMemory}
use Rattle.rep_world.specs.declared.recorder.Left.{Left}
use Rattle.rep_world.specs.declared.recorder.Recorder.TheVariants.{Down}
use Rattle.rep_world.proofs.Events.{fail_does, fail_idle, fail_kept, settled_fail}
use Rattle.rep_world.proofs.Messages.{asked_of}
use Rattle.rep_world.proofs.Rooms.{no_memory, room_does, room_kept}
use Rattle.rep_world.proofs.Trials.{left_alone-refl}
use Rattle.rep_world.proofs.Worlds.{does_not, is_sent}
use Rattle.rep_world.proofs.world.World.fail.Goals as goal

pub returns-in_default-clause-does : goal.returns-in_default-clause-does
returns-in_default-clause-does c =
    let s = c.self.inside in
    subst (λ (w : World). Does (Fail c.args.k c.args.minute c.args.call) w w (Err NotSent)) c.self.view_is
    (does_not (Fail c.args.k c.args.minute c.args.call) (world_of s.site s.sent.items s.named.items s.issued.items s.recorder) (subst (λ (qs : List Request). IsUnsent qs c.args.k) c.deref.ensures.value c.in_default.ensures))

pub returns-in_default-bytes_while_up-clause-does : goal.returns-in_default-bytes_while_up-clause-does
returns-in_default-bytes_while_up-clause-does c =
    let s = c.self.inside in
    let message = subst (λ (qs : List Request). IsMessage qs c.args.k c.in-Some.request.now) c.deref.ensures.value c.in-Some.ensures in
    subst (λ (w : World). Does (Fail c.args.k c.args.minute c.args.call) w w (Ok Idle)) c.self.view_is
    (fail_idle (world_of s.site s.sent.items s.named.items s.issued.items s.recorder) c.args.k c.args.minute c.args.call c.in-Some.request.now message c.in_default-bytes_while_up.ensures)

pub fail-requires-clause-asked : goal.fail-requires-clause-asked
fail-requires-clause-asked c =
    let s = c.self.inside in
    let message = subst (λ (qs : List Request). IsMessage qs c.args.k c.in-Some.request.now) c.deref.ensures.value c.in-Some.ensures in
    asked_of s.sent.items c.args.k c.in-Some.request.now c.self.invariant.asked message

pub returns-in_default-fail-clause-does : goal.returns-in_default-fail-clause-does
returns-in_default-fail-clause-does c =
    let s = c.self.inside in
    let message = subst (λ (qs : List Request). IsMessage qs c.args.k c.in-Some.request.now) c.deref.ensures.value c.in-Some.ensures in
    subst (λ (w : World). Does (Fail c.args.k c.args.minute c.args.call) w w (Err OutOfMemory)) c.self.view_is
    (no_memory s.site s.sent.items s.named.items s.issued.items s.recorder c.self.invariant (Fail c.args.k c.args.minute c.args.call) (is_sent s.sent.items c.args.k c.in-Some.request.now message))

pub returns-in_default-tried-clause-does : goal.returns-in_default-tried-clause-does
returns-in_default-tried-clause-does c =
    let s = c.self.inside in
    let message = subst (λ (qs : List Request). IsMessage qs c.args.k c.in-Some.request.now) c.deref.ensures.value c.in-Some.ensures in
    let settled : SettledOn s.site c.in-Some.request.now c.in-Some-bytes_while_up.bytes.now = subst (λ (o : Option Left). FailsOrSettles s.site c.args.minute c.args.call c.in-Some.request.now c.in-Some-bytes_while_up.bytes.now o) c.in_default-tried.is c.in-Ok.ensures in
    let on = subst (λ (bytes : List ℕ). SettledOn s.site c.in-Some.request.now bytes) c.in-Some-bytes_while_up.ensures.1 settled in
    settled_fail c.args.self.now c.deliver.new.self c.args.k c.args.minute c.args.call c.in-Some.request.now c.deliver.result
    (subst (λ (w : World). w.up ≡ true) c.self.view_is c.in-Some-bytes_while_up.ensures.0)
    (subst (λ (w : World). IsMessage w.sent c.args.k c.in-Some.request.now) c.self.view_is message)
    (subst (λ (w : World). SettledOn w.site c.in-Some.request.now w.disk.bytes) c.self.view_is on)
    c.deliver.ensures.does

pub invariant_of-self : goal.invariant_of-self
invariant_of-self c =
    let s = c.self.inside in
    room_kept s.site s.sent.items s.sent.items s.named.items c.reserve.new.self.items s.issued.items s.issued.items refl c.reserve.ensures.items refl s.recorder s.recorder c.self.invariant (left_alone-refl s.recorder)

pub returns-then-is_err-clause-does : goal.returns-then-is_err-clause-does
returns-then-is_err-clause-does c =
    let s = c.self.inside in
    let message = subst (λ (qs : List Request). IsMessage qs c.args.k c.in-Some.request.now) c.deref.ensures.value c.in-Some.ensures in
    subst (λ (w : World). Does (Fail c.args.k c.args.minute c.args.call) w (world_of s.site s.sent.items c.reserve.new.self.items s.issued.items s.recorder) (Err OutOfMemory)) c.self.view_is
    (room_does s.site s.sent.items s.sent.items s.named.items c.reserve.new.self.items s.issued.items s.issued.items refl c.reserve.ensures.items refl s.recorder s.recorder c.self.invariant (Fail c.args.k c.args.minute c.args.call) (is_sent s.sent.items c.args.k c.in-Some.request.now message) (left_alone-refl s.recorder))

pub invariant_of-self-2 : goal.invariant_of-self-2
invariant_of-self-2 c =
    let s = c.self.inside in
    let message = subst (λ (qs : List Request). IsMessage qs c.args.k c.in-Some.request.now) c.deref.ensures.value c.in-Some.ensures in
    let named = c.push_reserved.ensures.items ∙ ap (λ (ns : List Naming). ns ++ record { message = c.args.k; minute = c.args.minute } ∷ []) c.reserve.ensures.items in
    let left = c.in-Some-tried.left in
    let tried : FailsOrSettles s.site c.args.minute c.args.call c.in-Some.request.now c.in-Some-bytes_while_up.bytes.now (Some left) =
    subst (λ (o : Option Left). FailsOrSettles s.site c.args.minute c.args.call c.in-Some.request.now c.in-Some-bytes_while_up.bytes.now o) c.in-Some-tried.is c.in-Ok.ensures in
    let fails = subst (λ (bytes : List ℕ). FailsOn s.site c.args.minute c.args.call c.in-Some.request.now bytes left.disk) c.in-Some-bytes_while_up.ensures.1 tried.0 in
    fail_kept s.site s.sent.items s.named.items s.issued.items s.recorder c.self.invariant c.in-Some-bytes_while_up.ensures.0 c.args.k c.args.minute c.args.call c.in-Some.request.now message c.push_reserved.new.self.items named left.disk fails left.entries tried.1

pub returns-clause-does : goal.returns-clause-does
returns-clause-does c =
    let s = c.self.inside in
    let message = subst (λ (qs : List Request). IsMessage qs c.args.k c.in-Some.request.now) c.deref.ensures.value c.in-Some.ensures in
    let named = c.push_reserved.ensures.items ∙ ap (λ (ns : List Naming). ns ++ record { message = c.args.k; minute = c.args.minute } ∷ []) c.reserve.ensures.items in
    let left = c.in-Some-tried.left in
    let tried : FailsOrSettles s.site c.args.minute c.args.call c.in-Some.request.now c.in-Some-bytes_while_up.bytes.now (Some left) =
    subst (λ (o : Option Left). FailsOrSettles s.site c.args.minute c.args.call c.in-Some.request.now c.in-Some-bytes_while_up.bytes.now o) c.in-Some-tried.is c.in-Ok.ensures in
    let fails = subst (λ (bytes : List ℕ). FailsOn s.site c.args.minute c.args.call c.in-Some.request.now bytes left.disk) c.in-Some-bytes_while_up.ensures.1 tried.0 in
    subst (λ (w : World). Does (Fail c.args.k c.args.minute c.args.call) w (world_of s.site s.sent.items c.push_reserved.new.self.items s.issued.items (Down left.disk)) (Ok (Failed left.entries))) c.self.view_is
    (fail_does s.site s.sent.items s.named.items s.issued.items s.recorder c.self.invariant c.in-Some-bytes_while_up.ensures.0 c.args.k c.args.minute c.args.call c.in-Some.request.now message c.push_reserved.new.self.items named left.disk fails left.entries tried.1)

pub returns-clause-holds : goal.returns-clause-holds
returns-clause-holds c =
    let s = c.self.inside in
    let message = subst (λ (qs : List Request). IsMessage qs c.args.k c.in-Some.request.now) c.deref.ensures.value c.in-Some.ensures in
    let named = c.push_reserved.ensures.items ∙ ap (λ (ns : List Naming). ns ++ record { message = c.args.k; minute = c.args.minute } ∷ []) c.reserve.ensures.items in
    let left = c.in-Some-tried.left in
    let tried : FailsOrSettles s.site c.args.minute c.args.call c.in-Some.request.now c.in-Some-bytes_while_up.bytes.now (Some left) =
    subst (λ (o : Option Left). FailsOrSettles s.site c.args.minute c.args.call c.in-Some.request.now c.in-Some-bytes_while_up.bytes.now o) c.in-Some-tried.is c.in-Ok.ensures in
    let fails = subst (λ (bytes : List ℕ). FailsOn s.site c.args.minute c.args.call c.in-Some.request.now bytes left.disk) c.in-Some-bytes_while_up.ensures.1 tried.0 in
    (fail_kept s.site s.sent.items s.named.items s.issued.items s.recorder c.self.invariant c.in-Some-bytes_while_up.ensures.0 c.args.k c.args.minute c.args.call c.in-Some.request.now message c.push_reserved.new.self.items named left.disk fails left.entries tried.1).world
