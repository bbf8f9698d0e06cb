-- A store of a world that was given another clock, and was asked then.
use Rattle.std.proofs.Common.{◌≡◌, ℕ, true, false, Option, Some, None, Result, Ok, Err, is_some, refl, sym, subst, arith}
use Rattle.std.specs.Prelude.{IfOk, is_err}
use Rattle.rep_disk.specs.Memory.{Memory}
use Rattle.rep_wire.specs.declared.request.Request.{Request}
use Rattle.rep_wire.specs.declared.reply.Reply.{Reply}
use Rattle.rep_core.specs.Verdict.{IsVerdict}
use Rattle.rep_core.specs.declared.verdict.Verdict.TheVariants.{Fresh}
use Rattle.rep_site.specs.declared.site.Site.{Site}
use Rattle.rep_store.specs.State.{State}
use Rattle.rep_store.specs.Steps.{IsKeptAsWas, LeavesAll, MissesTime, Stops}
use Rattle.rep_store.specs.declared.error.Stop.{Stop}
use Rattle.rep_store.specs.declared.error.Stop.TheVariants.{Stopped, DeviceFault, ClockFault, OutOfMemory}
use Rattle.sure_disk.specs.Sure.{sure_shown}
use Rattle.rep_world.specs.declared.dial.Dial.{Dial}
use Rattle.rep_world.specs.Fields.{Runs}
use Rattle.rep_world.specs.Trial.{ServedAt}
use Rattle.rep_world.proofs.Trials.{faults, readings}

module _ (old mid : State Memory Dial) (d : Dial) (set : mid ≡ record old { clock = d }) where
  pub set_runs : (site : Site) → Runs site old → Runs site mid
  set_runs site r = subst (Runs site) (sym set) (record {
    of_site = r.of_site;
    limit = r.limit;
    offset = r.offset;
    running = r.running;
    settled = r.settled;
    own = r.own;
  })

  pub set_kept : (new : State Memory Dial) → IsKeptAsWas sure_shown mid new → IsKeptAsWas sure_shown old new
  set_kept new k =
      let kept : IsKeptAsWas sure_shown (record old { clock = d }) new = subst (λ (s : State Memory Dial). IsKeptAsWas sure_shown s new) set k in
      record {
        site = kept.site;
        history = kept.history;
        limit = kept.limit;
        offset = kept.offset;
        faults = kept.faults;
        stopped = kept.stopped;
        disk = kept.disk;
      }

  pub set_served : (site : Site) (minute : ℕ) (q : Request) (new : State Memory Dial) (reply : Reply) → ServedAt site minute q mid new reply → ServedAt site minute q old new reply
  set_served site minute q new reply s =
      let served : ServedAt site minute q (record old { clock = d }) new reply = subst (λ (s : State Memory Dial). ServedAt site minute q s new reply) set s in
      record { runs = served.runs; recorded = served.recorded; answered = served.answered }

-- whatever stopped the call over a disk that doesn't fail, nothing has changed but what was read
module _ (q : Request) (old new : State Memory Dial) (result : Result Reply Stop)
    (stopped : (count : ℕ) → result ≡ Err (Stopped count) → LeavesAll sure_shown old new)
    (device : result ≡ Err DeviceFault → Stops sure_shown readings faults q old new)
    (clock : result ≡ Err ClockFault → IsVerdict old.limit old.history q Fresh × MissesTime sure_shown readings faults old new)
    (memory : result ≡ Err OutOfMemory → IsVerdict old.limit old.history q Fresh × LeavesAll sure_shown old new) where
  pub stop_kept : (stop : Stop) → result ≡ Err stop → IsKeptAsWas sure_shown old new
  stop_kept (Stopped count) is = (stopped count is).kept
  stop_kept DeviceFault is = absurd (omega (arith, (device is).cause))
  stop_kept ClockFault is = (clock is).1.kept
  stop_kept OutOfMemory is = (memory is).1.kept

-- a call that didn't fail
pub ok_of : {X E : Type 0} (P : X → Type 0) (r : Result X E) → is_err r ≡ false → IfOk r P → (x : X) × P x
ok_of P (Ok x) ok p = (x, p)
ok_of P (Err e) ok p = absurd cc

pub none_of : {X : Type 0} (o : Option X) → is_some o ≡ false → o ≡ None
none_of None none = refl
none_of (Some x) none = absurd cc

pub some_of : {X : Type 0} (o : Option X) → is_some o ≡ true → o ≡ None → ⊥
some_of None some none = absurd cc
some_of (Some x) some none = absurd cc
