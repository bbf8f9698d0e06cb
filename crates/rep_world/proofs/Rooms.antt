-- A world whose lists were given room.
use Rattle.std.proofs.Common.{◌≡◌, List, Err, sym, ap, subst}
use Rattle.rep_wire.specs.declared.request.Request.{Request}
use Rattle.rep_wire.specs.declared.reply.Slip.{Slip}
use Rattle.rep_site.specs.declared.site.Site.{Site}
use Rattle.rep_world.specs.declared.naming.Naming.{Naming}
use Rattle.rep_world.specs.declared.recorder.Recorder.{Recorder}
use Rattle.rep_world.specs.declared.event.Event.{Event}
use Rattle.rep_world.specs.declared.event.WorldStop.TheVariants.{OutOfMemory}
use Rattle.rep_world.specs.World.{World}
use Rattle.rep_world.specs.Events.{Does, NamesUnsent}
use Rattle.rep_world.specs.Fields.{IsKept, world_of}
use Rattle.rep_world.specs.Trial.{IsLeftAlone}
use Rattle.rep_world.proofs.Trials.{left_alone-refl}
use Rattle.rep_world.proofs.Events.{alone_kept, memory_does}

module _ (site : Site) (sent sent' : List Request) (named named' : List Naming) (issued issued' : List Slip) (same_sent : sent' ≡ sent) (same_named : named' ≡ named) (same_issued : issued' ≡ issued) where
  pub same_world : (recorder : Recorder) → world_of site sent' named' issued' recorder ≡ world_of site sent named issued recorder
  same_world recorder =
      subst (λ (s : List Request). world_of site s named' issued' recorder ≡ world_of site sent named issued recorder) (sym same_sent)
      (subst (λ (n : List Naming). world_of site sent n issued' recorder ≡ world_of site sent named issued recorder) (sym same_named)
      (ap (λ (i : List Slip). world_of site sent named i recorder) same_issued))

  pub same_kept : (recorder : Recorder) → IsKept site sent named issued recorder → IsKept site sent' named' issued' recorder
  same_kept recorder kept =
      subst (λ (s : List Request). IsKept site s named' issued' recorder) (sym same_sent)
      (subst (λ (n : List Naming). IsKept site sent n issued' recorder) (sym same_named)
      (subst (λ (i : List Slip). IsKept site sent named i recorder) (sym same_issued) kept))

  pub room_does : (recorder after : Recorder) → IsKept site sent named issued recorder → (event : Event) → (NamesUnsent event (world_of site sent named issued recorder) → ⊥) → IsLeftAlone recorder after → Does event (world_of site sent named issued recorder) (world_of site sent' named' issued' after) (Err OutOfMemory)
  room_does recorder after kept event names alone =
      subst (λ (w : World). Does event (world_of site sent named issued recorder) w (Err OutOfMemory)) (sym (same_world after))
      (memory_does site sent named issued recorder kept event after names alone)

  pub room_kept : (recorder after : Recorder) → IsKept site sent named issued recorder → IsLeftAlone recorder after → IsKept site sent' named' issued' after
  room_kept recorder after kept alone = same_kept after (alone_kept site sent named issued recorder kept after alone)

-- nothing was done for want of memory
pub no_memory : (site : Site) (sent : List Request) (named : List Naming) (issued : List Slip) (recorder : Recorder) → IsKept site sent named issued recorder → (event : Event) → (NamesUnsent event (world_of site sent named issued recorder) → ⊥) → Does event (world_of site sent named issued recorder) (world_of site sent named issued recorder) (Err OutOfMemory)
no_memory site sent named issued recorder kept event names = memory_does site sent named issued recorder kept event recorder names (left_alone-refl recorder)
