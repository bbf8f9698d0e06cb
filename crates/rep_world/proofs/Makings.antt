-- A world that was just made, by its lists.
use Rattle.std.proofs.Common.{◌≡◌, List, [], sym, subst}
use Rattle.rep_disk.specs.Memory.{Memory}
use Rattle.rep_wire.specs.declared.request.Request.{Request}
use Rattle.rep_wire.specs.declared.reply.Slip.{Slip}
use Rattle.rep_site.specs.Site.{IsSite}
use Rattle.rep_site.specs.declared.site.Site.{Site}
use Rattle.rep_store.specs.State.{State}
use Rattle.rep_world.specs.declared.dial.Dial.{Dial}
use Rattle.rep_world.specs.declared.naming.Naming.{Naming}
use Rattle.rep_world.specs.declared.recorder.Recorder.TheVariants.{Up}
use Rattle.rep_world.specs.Events.{IsNewWorld}
use Rattle.rep_world.specs.Fields.{IsKept, world_of}
use Rattle.rep_world.specs.Trial.{IsMade}
use Rattle.rep_world.proofs.Events.{new_kept, new_world}

module _ (site : Site) (sent : List Request) (named : List Naming) (issued : List Slip) (store : State Memory Dial) (no_sent : sent ≡ []) (no_named : named ≡ []) (no_issued : issued ≡ []) (made : IsMade site store) where
  pub empty_kept : IsSite site → IsKept site sent named issued (Up store)
  empty_kept is_site =
      subst (λ (s : List Request). IsKept site s named issued (Up store)) (sym no_sent)
      (subst (λ (n : List Naming). IsKept site [] n issued (Up store)) (sym no_named)
      (subst (λ (i : List Slip). IsKept site [] [] i (Up store)) (sym no_issued) (new_kept site store is_site made)))

  pub empty_world : IsNewWorld site (world_of site sent named issued (Up store))
  empty_world =
      subst (λ (s : List Request). IsNewWorld site (world_of site s named issued (Up store))) (sym no_sent)
      (subst (λ (n : List Naming). IsNewWorld site (world_of site [] n issued (Up store))) (sym no_named)
      (subst (λ (i : List Slip). IsNewWorld site (world_of site [] [] i (Up store))) (sym no_issued) (new_world site store made)))
