-- A message that arrives, by what the recorder did.
use Rattle.std.proofs.Common.{◌≡◌, ℕ, List, Bool, None, Ok, refl, sym, ap, subst, ◌∙◌}
use Rattle.rep_wire.specs.declared.request.Request.{Request}
use Rattle.rep_wire.specs.declared.reply.Slip.{Slip}
use Rattle.rep_site.specs.declared.site.Site.{Site}
use Rattle.rep_world.specs.declared.naming.Naming.{Naming}
use Rattle.rep_world.specs.declared.recorder.Recorder.{Recorder}
use Rattle.rep_world.specs.declared.event.Event.TheVariants.{Deliver}
use Rattle.rep_world.specs.declared.event.Seen.TheVariants.{Idle}
use Rattle.rep_world.specs.World.{World, IsMessage}
use Rattle.rep_world.specs.Events.{Does}
use Rattle.rep_world.specs.Fields.{IsKept, world_of}
use Rattle.rep_world.specs.Trial.{AnswersBy}
use Rattle.rep_world.proofs.Events.{deliver_idle, unanswered}
use Rattle.rep_world.proofs.Rooms.{same_kept, same_world}

-- the recorder was down, and lists were given room
module _ (site : Site) (sent : List Request) (named named' : List Naming) (issued issued' : List Slip) (same_named : named' ≡ named) (same_issued : issued' ≡ issued) (minute : ℕ) (q : Request) (old new : Recorder) (answers : AnswersBy site minute q old new None) where
  pub unanswered_kept : IsKept site sent named issued old → IsKept site sent named' issued' new
  unanswered_kept kept =
      same_kept site sent sent named named' issued issued' refl same_named same_issued new
      (subst (IsKept site sent named issued) (sym (unanswered site minute q old new answers).0) kept)

  pub unanswered_does : (k : ℕ) (lost : Bool) → IsMessage sent k q → Does (Deliver k minute lost) (world_of site sent named issued old) (world_of site sent named' issued' new) (Ok Idle)
  unanswered_does k lost message =
      subst (λ (w : World). Does (Deliver k minute lost) (world_of site sent named issued old) w (Ok Idle))
      (sym (same_world site sent sent named named' issued issued' refl same_named same_issued new ∙ ap (λ (r : Recorder). world_of site sent named issued r) (unanswered site minute q old new answers).0))
      (deliver_idle (world_of site sent named issued old) k minute lost q message (unanswered site minute q old new answers).1)
