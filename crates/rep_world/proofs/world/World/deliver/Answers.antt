use Rattle.std.proofs.Common.{Option, List, [], ◌∷◌, ◌++◌, Ok, Err, refl, ap, subst, ◌∙◌}
use Rattle.rep_wire.specs.declared.request.Request.{Request}
use Rattle.rep_wire.specs.declared.reply.Reply.{Reply}
use Rattle.rep_wire.specs.declared.reply.Slip.{Slip}
use Rattle.rep_world.specs.declared.naming.Naming.{Naming}
use Rattle.rep_world.specs.Events.{Does, IsUnsent, receipts_in}
use Rattle.rep_world.specs.Fields.{world_of}
use Rattle.rep_world.specs.Trial.{AnswersBy}
use Rattle.rep_world.specs.World.{World, IsMessage}
use Rattle.rep_world.specs.declared.event.Event.TheVariants.{Deliver}
use Rattle.rep_world.specs.declared.event.Seen.TheVariants.{Idle}
use Rattle.rep_world.specs.declared.event.WorldStop.TheVariants.{NotSent, OutOfMemory}
use Rattle.rep_world.proofs.Deliveries.{unanswered_does, unanswered_kept}
use Rattle.rep_world.proofs.Events.{answered_does, answered_kept}
use Rattle.rep_world.proofs.Messages.{asked_of}
use Rattle.rep_world.proofs.Rooms.{room_does, room_kept}
use Rattle.rep_world.proofs.Trials.{left_alone-refl}
use Rattle.rep_world.proofs.Worlds.{does_not, is_sent}
use Rattle.rep_world.proofs.world.World.deliver.Goals as goal

pub returns-in_default-clause-does : goal.returns-in_default-clause-does
returns-in_default-clause-does c =
    let s = c.self.inside in
    subst (λ (w : World). Does (Deliver c.args.k c.args.minute c.args.lost) w w (Err NotSent)) c.self.view_is
    (does_not (Deliver c.args.k c.args.minute c.args.lost) (world_of s.site s.sent.items s.named.items s.issued.items s.recorder) (subst (λ (qs : List Request). IsUnsent qs c.args.k) c.deref.ensures.value c.in_default.ensures))

pub invariant_of-self : goal.invariant_of-self
invariant_of-self c =
    let s = c.self.inside in
    room_kept s.site s.sent.items s.sent.items s.named.items c.reserve.new.self.items s.issued.items s.issued.items refl c.reserve.ensures.items refl s.recorder s.recorder c.self.invariant (left_alone-refl s.recorder)

pub returns-then-is_err-clause-does : goal.returns-then-is_err-clause-does
returns-then-is_err-clause-does c =
    let s = c.self.inside in
    let message = subst (λ (qs : List Request). IsMessage qs c.args.k c.in-Some.request.now) c.deref.ensures.value c.in-Some.ensures in
    subst (λ (w : World). Does (Deliver c.args.k c.args.minute c.args.lost) w (world_of s.site s.sent.items c.reserve.new.self.items s.issued.items s.recorder) (Err OutOfMemory)) c.self.view_is
    (room_does s.site s.sent.items s.sent.items s.named.items c.reserve.new.self.items s.issued.items s.issued.items refl c.reserve.ensures.items refl s.recorder s.recorder c.self.invariant (Deliver c.args.k c.args.minute c.args.lost) (is_sent s.sent.items c.args.k c.in-Some.request.now message) (left_alone-refl s.recorder))

pub invariant_of-self-then-is_err-2 : goal.invariant_of-self-then-is_err-2
invariant_of-self-then-is_err-2 c =
    let s = c.self.inside in
    room_kept s.site s.sent.items s.sent.items s.named.items c.reserve.new.self.items s.issued.items c.reserve-2.new.self.items refl c.reserve.ensures.items c.reserve-2.ensures.items s.recorder s.recorder c.self.invariant (left_alone-refl s.recorder)

pub returns-then-is_err-2-clause-does : goal.returns-then-is_err-2-clause-does
returns-then-is_err-2-clause-does c =
    let s = c.self.inside in
    let message = subst (λ (qs : List Request). IsMessage qs c.args.k c.in-Some.request.now) c.deref.ensures.value c.in-Some.ensures in
    subst (λ (w : World). Does (Deliver c.args.k c.args.minute c.args.lost) w (world_of s.site s.sent.items c.reserve.new.self.items c.reserve-2.new.self.items s.recorder) (Err OutOfMemory)) c.self.view_is
    (room_does s.site s.sent.items s.sent.items s.named.items c.reserve.new.self.items s.issued.items c.reserve-2.new.self.items refl c.reserve.ensures.items c.reserve-2.ensures.items s.recorder s.recorder c.self.invariant (Deliver c.args.k c.args.minute c.args.lost) (is_sent s.sent.items c.args.k c.in-Some.request.now message) (left_alone-refl s.recorder))

pub answer-requires-clause-asked : goal.answer-requires-clause-asked
answer-requires-clause-asked c =
    let s = c.self.inside in
    let message = subst (λ (qs : List Request). IsMessage qs c.args.k c.in-Some.request.now) c.deref.ensures.value c.in-Some.ensures in
    asked_of s.sent.items c.args.k c.in-Some.request.now c.self.invariant.asked message

pub answer-requires-clause-runs : goal.answer-requires-clause-runs
answer-requires-clause-runs c = c.self.invariant.runs

pub invariant_of-self-in_default-answer : goal.invariant_of-self-in_default-answer
invariant_of-self-in_default-answer c =
    let s = c.self.inside in
    room_kept s.site s.sent.items s.sent.items s.named.items c.reserve.new.self.items s.issued.items c.reserve-2.new.self.items refl c.reserve.ensures.items c.reserve-2.ensures.items s.recorder c.answer.new.recorder c.self.invariant c.in_default-answer.ensures.left

pub returns-in_default-answer-clause-does : goal.returns-in_default-answer-clause-does
returns-in_default-answer-clause-does c =
    let s = c.self.inside in
    let message = subst (λ (qs : List Request). IsMessage qs c.args.k c.in-Some.request.now) c.deref.ensures.value c.in-Some.ensures in
    subst (λ (w : World). Does (Deliver c.args.k c.args.minute c.args.lost) w (world_of s.site s.sent.items c.reserve.new.self.items c.reserve-2.new.self.items c.answer.new.recorder) (Err OutOfMemory)) c.self.view_is
    (room_does s.site s.sent.items s.sent.items s.named.items c.reserve.new.self.items s.issued.items c.reserve-2.new.self.items refl c.reserve.ensures.items c.reserve-2.ensures.items s.recorder c.answer.new.recorder c.self.invariant (Deliver c.args.k c.args.minute c.args.lost) (is_sent s.sent.items c.args.k c.in-Some.request.now message) c.in_default-answer.ensures.left)

pub returns-in_default-answer-clause-holds : goal.returns-in_default-answer-clause-holds
returns-in_default-answer-clause-holds c =
    let s = c.self.inside in
    (room_kept s.site s.sent.items s.sent.items s.named.items c.reserve.new.self.items s.issued.items c.reserve-2.new.self.items refl c.reserve.ensures.items c.reserve-2.ensures.items s.recorder c.answer.new.recorder c.self.invariant c.in_default-answer.ensures.left).world

pub invariant_of-self-in_default-answered : goal.invariant_of-self-in_default-answered
invariant_of-self-in_default-answered c =
    let s = c.self.inside in
    unanswered_kept s.site s.sent.items s.named.items c.reserve.new.self.items s.issued.items c.reserve-2.new.self.items c.reserve.ensures.items c.reserve-2.ensures.items c.args.minute c.in-Some.request.now s.recorder c.answer.new.recorder (subst (λ (o : Option Reply). AnswersBy s.site c.args.minute c.in-Some.request.now s.recorder c.answer.new.recorder o) c.in_default-answered.is c.in-Ok.ensures.answers) c.self.invariant

pub returns-in_default-answered-clause-does : goal.returns-in_default-answered-clause-does
returns-in_default-answered-clause-does c =
    let s = c.self.inside in
    let message = subst (λ (qs : List Request). IsMessage qs c.args.k c.in-Some.request.now) c.deref.ensures.value c.in-Some.ensures in
    subst (λ (w : World). Does (Deliver c.args.k c.args.minute c.args.lost) w (world_of s.site s.sent.items c.reserve.new.self.items c.reserve-2.new.self.items c.answer.new.recorder) (Ok Idle)) c.self.view_is
    (unanswered_does s.site s.sent.items s.named.items c.reserve.new.self.items s.issued.items c.reserve-2.new.self.items c.reserve.ensures.items c.reserve-2.ensures.items c.args.minute c.in-Some.request.now s.recorder c.answer.new.recorder (subst (λ (o : Option Reply). AnswersBy s.site c.args.minute c.in-Some.request.now s.recorder c.answer.new.recorder o) c.in_default-answered.is c.in-Ok.ensures.answers) c.args.k c.args.lost message)

pub invariant_of-self-2 : goal.invariant_of-self-2
invariant_of-self-2 c =
    let s = c.self.inside in
    let message = subst (λ (qs : List Request). IsMessage qs c.args.k c.in-Some.request.now) c.deref.ensures.value c.in-Some.ensures in
    let named = c.push_reserved.ensures.items ∙ ap (λ (ns : List Naming). ns ++ record { message = c.args.k; minute = c.args.minute } ∷ []) c.reserve.ensures.items in
    let issued = c.issue.ensures ∙ ap (λ (slips : List Slip). slips ++ receipts_in c.in-Some-answered.reply.answer) c.reserve-2.ensures.items in
    answered_kept s.site s.sent.items s.named.items s.issued.items s.recorder c.answer.new.recorder c.self.invariant c.args.k c.args.minute c.in-Some.request.now c.in-Some-answered.reply message (subst (λ (o : Option Reply). AnswersBy s.site c.args.minute c.in-Some.request.now s.recorder c.answer.new.recorder o) c.in-Some-answered.is c.in-Ok.ensures.answers) c.push_reserved.new.self.items c.issue.new.issued.items named issued

pub returns-clause-does : goal.returns-clause-does
returns-clause-does c =
    let s = c.self.inside in
    let message = subst (λ (qs : List Request). IsMessage qs c.args.k c.in-Some.request.now) c.deref.ensures.value c.in-Some.ensures in
    let named = c.push_reserved.ensures.items ∙ ap (λ (ns : List Naming). ns ++ record { message = c.args.k; minute = c.args.minute } ∷ []) c.reserve.ensures.items in
    let issued = c.issue.ensures ∙ ap (λ (slips : List Slip). slips ++ receipts_in c.in-Some-answered.reply.answer) c.reserve-2.ensures.items in
    subst (λ (w : World). Does (Deliver c.args.k c.args.minute c.args.lost) w (world_of s.site s.sent.items c.push_reserved.new.self.items c.issue.new.issued.items c.answer.new.recorder) (Ok c.seen_of.result)) c.self.view_is
    (answered_does s.site s.sent.items s.named.items s.issued.items s.recorder c.answer.new.recorder c.self.invariant c.args.k c.args.minute c.in-Some.request.now c.in-Some-answered.reply message (subst (λ (o : Option Reply). AnswersBy s.site c.args.minute c.in-Some.request.now s.recorder c.answer.new.recorder o) c.in-Some-answered.is c.in-Ok.ensures.answers) c.push_reserved.new.self.items c.issue.new.issued.items named issued c.args.lost c.seen_of.result c.seen_of.ensures)

pub returns-clause-holds : goal.returns-clause-holds
returns-clause-holds c =
    let s = c.self.inside in
    let message = subst (λ (qs : List Request). IsMessage qs c.args.k c.in-Some.request.now) c.deref.ensures.value c.in-Some.ensures in
    let named = c.push_reserved.ensures.items ∙ ap (λ (ns : List Naming). ns ++ record { message = c.args.k; minute = c.args.minute } ∷ []) c.reserve.ensures.items in
    let issued = c.issue.ensures ∙ ap (λ (slips : List Slip). slips ++ receipts_in c.in-Some-answered.reply.answer) c.reserve-2.ensures.items in
    (answered_kept s.site s.sent.items s.named.items s.issued.items s.recorder c.answer.new.recorder c.self.invariant c.args.k c.args.minute c.in-Some.request.now c.in-Some-answered.reply message (subst (λ (o : Option Reply). AnswersBy s.site c.args.minute c.in-Some.request.now s.recorder c.answer.new.recorder o) c.in-Some-answered.is c.in-Ok.ensures.answers) c.push_reserved.new.self.items c.issue.new.issued.items named issued).world
