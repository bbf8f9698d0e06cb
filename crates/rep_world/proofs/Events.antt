-- The clauses of an event, by how the call ends.
use Rattle.std.proofs.Common.{◌≡◌, ℕ, ◌+◌, ◌≤◌, ◌⊎◌, inl, inr, true, false, List, [], ◌∷◌, ◌++◌, length, get_or, Some, None, Result, Ok, Err, refl, sym, ap, subst, ◌∙◌, arith}
use Rattle.std.specs.Prelude.{All, Bool, IfOk}
use Rattle.std.proofs.lemmas.List.Elements.{All-append, All-cons, All-nil}
use Rattle.rep_disk.specs.Disk.{IsAtRest}
use Rattle.rep_disk.specs.Memory.{Memory, Listed, fresh, memory_shown}
use Rattle.rep_disk.specs.Record.{FitsCells, IsImage, at_rest, rested}
use Rattle.rep_disk.specs.declared.image.Image.{Image}
use Rattle.rep_wire.specs.Request.{IsRequest}
use Rattle.rep_wire.specs.declared.request.Request.{Request}
use Rattle.rep_wire.specs.declared.request.Entry.{Entry}
use Rattle.rep_wire.specs.declared.reply.Reply.{Reply}
use Rattle.rep_wire.specs.declared.reply.Slip.{Slip}
use Rattle.rep_core.specs.Verdict.{IsVerdict}
use Rattle.rep_core.specs.declared.verdict.Verdict.TheVariants.{Fresh}
use Rattle.rep_core.proofs.Splits.{split_at}
use Rattle.rep_ledger.specs.Ledger.{IsLedgerOf}
use Rattle.rep_ledger.proofs.ContentLemmas.{one_ledger}
use Rattle.rep_site.specs.Site.{IsSite}
use Rattle.rep_site.specs.declared.site.Site.{Site}
use Rattle.rep_store.specs.State.{State}
use Rattle.rep_world.specs.declared.dial.Dial.{Dial}
use Rattle.rep_world.specs.declared.naming.Naming.{Naming}
use Rattle.rep_world.specs.declared.recorder.Recorder.{Recorder}
use Rattle.rep_world.specs.declared.recorder.Recorder.TheVariants.{Up, Down}
use Rattle.rep_world.specs.declared.event.Event.{Event}
use Rattle.rep_world.specs.declared.event.Event.TheVariants.{Send, Deliver, Fail, Crash, Rest, Reopen}
use Rattle.rep_world.specs.declared.event.Seen.{Seen}
use Rattle.rep_world.specs.declared.event.Seen.TheVariants.{Sent, Failed, Crashed, AtRest, Opened, Idle}
use Rattle.rep_world.specs.declared.event.WorldStop.{WorldStop}
use Rattle.rep_world.specs.declared.event.WorldStop.TheVariants.{OutOfMemory}
use Rattle.rep_world.specs.World.{World, BehindFirst, IsNamed, IsReceiptIn, IsMessage, Keeps, KeepsFrom}
use Rattle.rep_world.specs.Events.{Counts, CrashesAtCall, Delivers, DeliversSettled, Does, FailsAtCall, IsNewWorld, NamesUnsent, Opens, SeesReply, Serves, StaysIdle, Steps, WhileUp, receipts_in}
use Rattle.rep_world.specs.Fields.{IsImageNow, IsKept, Runs, RunsWhileUp, disk_of, is_up, world_of}
use Rattle.rep_world.specs.Trial.{AnswersBy, CrashesOn, FailsOn, IsLeftAlone, IsMade, IsOpened, ServedAt, SettledOn}
use Rattle.rep_world.proofs.Disks.{own_cells}
use Rattle.rep_world.proofs.Histories.{pairs_once}
use Rattle.rep_world.proofs.Trials.{left_as_before, left_runs}
use Rattle.rep_world.proofs.Worlds.{GoesOn-refl, Keeps-more, as_before-world, crashes_goes_on, crashes_world, does_nothing, does_step, fails_goes_on, fails_world, is_sent, nothing_more, rests_goes_on, rests_world, serves_goes_on, serves_world, whole_is_sure, world_at_rest}

-- a disk that was just made is at rest
pub fresh_rest : (bytes : List ℕ) (listed : Listed) → IsAtRest (memory_shown (fresh bytes listed))
fresh_rest bytes listed below image = (
  λ is. fits bytes image is.no_shorter is.fits,
  λ is. subst (IsImage (at_rest bytes)) (sym is) (record { no_shorter = omega arith; fits = own_cells bytes }),
)
  where
    fits : (bytes image : List ℕ) → length bytes ≤ length image → FitsCells (rested bytes) image → image ≡ bytes
    fits [] [] longer all = refl
    fits [] (y ∷ image) longer all = absurd all
    fits (x ∷ bytes) [] longer all = absurd (omega (arith, longer))
    fits (x ∷ bytes) (y ∷ image) longer all =
        let head : y ≡ x = all.0 refl in
        let tail : image ≡ bytes = fits bytes image (omega (arith, longer)) all.1 in
        cc

-- a number names one message
pub one_message : (sent : List Request) (k : ℕ) (q other : Request) → IsMessage sent k q → IsMessage sent k other → q ≡ other
one_message sent k q other a b =
    let same : length a.before ≡ length b.before = omega (arith, a.number, b.number) in
    sym (split_at sent a.before a.behind q q a.split)
    ∙ ap (λ (i : ℕ). get_or sent i q) same
    ∙ split_at sent b.before b.behind other q b.split

-- a world that was just made
pub new_kept : (site : Site) (store : State Memory Dial) → IsSite site → IsMade site store → IsKept site [] [] [] (Up store)
new_kept site store is_site made = record {
  is_site = is_site;
  asked = All-nil IsRequest;
  runs = made.runs;
  world = world_at_rest (world_of site [] [] [] (Up store)) made.runs.settled.rest (record {
    history = store.history;
    ledger = made.runs.settled.holds;
    once = pairs_once store.history made.runs.settled.holds.founded;
    is_history = record {
      receipts = All-nil (IsReceiptIn store.history);
      of_messages = subst (BehindFirst (IsNamed (world_of site [] [] [] (Up store)))) (sym made.history) (All-nil (IsNamed (world_of site [] [] [] (Up store))));
    };
  });
}

pub new_world : (site : Site) (store : State Memory Dial) → IsMade site store → IsNewWorld site (world_of site [] [] [] (Up store))
new_world site store made = record {
  of_site = refl;
  sent = refl;
  named = refl;
  issued = refl;
  up = refl;
  ledger = subst (λ (h : List Entry). IsLedgerOf store.disk.bytes h) made.history made.runs.settled.holds;
  rest = made.runs.settled.rest;
}

-- a recorder that is up, or down
pub runs_up : (site : Site) (recorder : Recorder) → is_up recorder ≡ true → RunsWhileUp site recorder → (store : State Memory Dial) × (recorder ≡ Up store) × Runs site store
runs_up site (Up store) up runs = (store, refl, runs)
runs_up site (Down disk) up runs = absurd cc

module _ (site : Site) (sent : List Request) (named : List Naming) (issued : List Slip) (recorder : Recorder) (kept : IsKept site sent named issued recorder) where
  -- a message was sent
  pub send_does : (request : Request) (k : ℕ) (now : List Request) → now ≡ sent ++ request ∷ [] → k ≡ length sent + 1 → Does (Send request) (world_of site sent named issued recorder) (world_of site now named issued recorder) (Ok (Sent k))
  send_does request k now is number =
      does_step (Send request) (world_of site sent named issued recorder) (world_of site now named issued recorder) (Sent k)
      (record { added = ap (λ (s : List Request). world_of site s named issued recorder) is; sees = ap (λ (n : ℕ). Sent n) number })
      (λ none. none)
      (record {
        site = refl;
        sent = (request ∷ [], is);
        named = nothing_more named named refl;
        issued = nothing_more issued issued refl;
        sure = λ h sure. record { bytes = sure.bytes; images = sure.images };
      })

  pub send_kept : (request : Request) (now : List Request) → now ≡ sent ++ request ∷ [] → IsRequest request → IsKept site now named issued recorder
  send_kept request now is asked = record {
    is_site = kept.is_site;
    asked = subst (All IsRequest) (sym is) (All-append IsRequest sent (request ∷ []) kept.asked (All-cons IsRequest request [] asked (All-nil IsRequest)));
    runs = kept.runs;
    world = record {
      bytes = more (disk_of recorder).bytes kept.world.bytes;
      images = λ below image leaves. more image (kept.world.images below image leaves);
      rest = kept.world.rest;
    };
  }
    where
      more : (bytes : List ℕ) → Keeps (world_of site sent named issued recorder) bytes → Keeps (world_of site now named issued recorder) bytes
      more = Keeps-more (world_of site sent named issued recorder) (world_of site now named issued recorder) refl (request ∷ [], is) (nothing_more named named refl) refl

  -- what stays as it was, but for room and for what was read
  pub memory_does : (event : Event) (after : Recorder) → (NamesUnsent event (world_of site sent named issued recorder) → ⊥) → IsLeftAlone recorder after → Does event (world_of site sent named issued recorder) (world_of site sent named issued after) (Err OutOfMemory)
  memory_does event after names alone =
      does_nothing event (world_of site sent named issued recorder) (world_of site sent named issued after) names (left_as_before site sent named issued recorder after alone)

  pub alone_kept : (after : Recorder) → IsLeftAlone recorder after → IsKept site sent named issued after
  alone_kept after alone = record {
    is_site = kept.is_site;
    asked = kept.asked;
    runs = left_runs site recorder after kept.runs alone;
    world = as_before-world (world_of site sent named issued recorder) (world_of site sent named issued after) (left_as_before site sent named issued recorder after alone) kept.world;
  }

-- a message was served
module _ (site : Site) (sent : List Request) (named : List Naming) (issued : List Slip) (old new : State Memory Dial) (kept : IsKept site sent named issued (Up old)) (k minute : ℕ) (q : Request) (reply : Reply) (message : IsMessage sent k q) (served : ServedAt site minute q old new reply) (named' : List Naming) (issued' : List Slip) (is_named : named' ≡ named ++ record { message = k; minute = minute } ∷ []) (is_issued : issued' ≡ issued ++ receipts_in reply.answer) where
  the_serving : Serves k minute (world_of site sent named issued (Up old)) (world_of site sent named' issued' (Up new)) reply
  the_serving = record {
    request = q;
    message = message;
    before = old.history;
    kept = kept.runs.settled.holds;
    after = new.history;
    keeps = served.runs.settled.holds;
    recorded = served.recorded;
    answered = served.answered;
    issued = is_issued;
    named = is_named;
    sure = whole_is_sure (world_of site sent named' issued' (Up new)) new.history served.runs.settled.rest served.runs.settled.holds;
    up = refl;
    people = record { site = refl; sent = refl };
  }

  pub deliver_does : (lost : Bool) (seen : Seen) → SeesReply lost q.seq reply seen → Does (Deliver k minute lost) (world_of site sent named issued (Up old)) (world_of site sent named' issued' (Up new)) (Ok seen)
  unfolding the_serving
  deliver_does lost seen sees =
      does_step (Deliver k minute lost) (world_of site sent named issued (Up old)) (world_of site sent named' issued' (Up new)) seen
      (record { reply = reply; serves = the_serving; sees = sees })
      (is_sent sent k q message)
      (serves_goes_on k minute (world_of site sent named issued (Up old)) (world_of site sent named' issued' (Up new)) reply the_serving served.runs.settled.rest)

  pub deliver_kept : IsKept site sent named' issued' (Up new)
  deliver_kept = record {
    is_site = kept.is_site;
    asked = kept.asked;
    runs = served.runs;
    world = serves_world k minute (world_of site sent named issued (Up old)) (world_of site sent named' issued' (Up new)) reply the_serving served.runs.settled.rest kept.world;
  }

-- the same for a recorder that answered
pub answered_does : (site : Site) (sent : List Request) (named : List Naming) (issued : List Slip) (old new : Recorder) (kept : IsKept site sent named issued old) (k minute : ℕ) (q : Request) (reply : Reply) → IsMessage sent k q → AnswersBy site minute q old new (Some reply) → (named' : List Naming) (issued' : List Slip) → named' ≡ named ++ record { message = k; minute = minute } ∷ [] → issued' ≡ issued ++ receipts_in reply.answer → (lost : Bool) (seen : Seen) → SeesReply lost q.seq reply seen → Does (Deliver k minute lost) (world_of site sent named issued old) (world_of site sent named' issued' new) (Ok seen)
answered_does site sent named issued (Up old) (Up new) kept k minute q reply message served named' issued' is_named is_issued lost seen sees = deliver_does site sent named issued old new kept k minute q reply message served named' issued' is_named is_issued lost seen sees
answered_does site sent named issued (Up old) (Down new) kept k minute q reply message served named' issued' is_named is_issued lost seen sees = absurd served
answered_does site sent named issued (Down old) (Up new) kept k minute q reply message served named' issued' is_named is_issued lost seen sees = absurd served
answered_does site sent named issued (Down old) (Down new) kept k minute q reply message served named' issued' is_named is_issued lost seen sees = absurd served

pub answered_kept : (site : Site) (sent : List Request) (named : List Naming) (issued : List Slip) (old new : Recorder) (kept : IsKept site sent named issued old) (k minute : ℕ) (q : Request) (reply : Reply) → IsMessage sent k q → AnswersBy site minute q old new (Some reply) → (named' : List Naming) (issued' : List Slip) → named' ≡ named ++ record { message = k; minute = minute } ∷ [] → issued' ≡ issued ++ receipts_in reply.answer → IsKept site sent named' issued' new
answered_kept site sent named issued (Up old) (Up new) kept k minute q reply message served named' issued' is_named is_issued = deliver_kept site sent named issued old new kept k minute q reply message served named' issued' is_named is_issued
answered_kept site sent named issued (Up old) (Down new) kept k minute q reply message served named' issued' is_named is_issued = absurd served
answered_kept site sent named issued (Down old) (Up new) kept k minute q reply message served named' issued' is_named is_issued = absurd served
answered_kept site sent named issued (Down old) (Down new) kept k minute q reply message served named' issued' is_named is_issued = absurd served

-- a recorder that is down answers nothing
pub unanswered : (site : Site) (minute : ℕ) (q : Request) (old new : Recorder) → AnswersBy site minute q old new None → (new ≡ old) × (is_up old ≡ false)
unanswered site minute q (Up old) (Up new) is = absurd is
unanswered site minute q (Up old) (Down new) is = absurd is
unanswered site minute q (Down old) (Up new) is = absurd is
unanswered site minute q (Down old) (Down new) is = (ap (λ (d : Memory). Down d) is, refl)

-- what is done while the recorder is up, or down
pub while_up : (up : Bool) (P Q : Type 0) → up ≡ true → P → WhileUp up P Q
while_up true P Q is p = p
while_up false P Q is p = absurd cc

pub while_down : (up : Bool) (P Q : Type 0) → up ≡ false → Q → WhileUp up P Q
while_down true P Q is q = absurd cc
while_down false P Q is q = q

-- an event that asks for a recorder that is up does nothing where it is down
pub deliver_idle : (w : World) (k minute : ℕ) (lost : Bool) (q : Request) → IsMessage w.sent k q → w.up ≡ false → Does (Deliver k minute lost) w w (Ok Idle)
deliver_idle w k minute lost q message down = does_step (Deliver k minute lost) w w Idle (while_down w.up (Delivers k minute lost w w Idle) (StaysIdle w w Idle) down (record { same = refl; sees = refl })) (is_sent w.sent k q message) (GoesOn-refl w)

pub fail_idle : (w : World) (k minute call : ℕ) (q : Request) → IsMessage w.sent k q → w.up ≡ false → Does (Fail k minute call) w w (Ok Idle)
fail_idle w k minute call q message down = does_step (Fail k minute call) w w Idle (while_down w.up (FailsAtCall k minute call w w Idle ⊎ DeliversSettled k minute w w Idle) (StaysIdle w w Idle) down (record { same = refl; sees = refl })) (is_sent w.sent k q message) (GoesOn-refl w)

pub crash_idle : (w : World) (k minute call : ℕ) (image : Image) (q : Request) → IsMessage w.sent k q → w.up ≡ false → Does (Crash k minute call image) w w (Ok Idle)
crash_idle w k minute call image q message down = does_step (Crash k minute call image) w w Idle (while_down w.up (CrashesAtCall k minute call image w w Idle ⊎ DeliversSettled k minute w w Idle) (StaysIdle w w Idle) down (record { same = refl; sees = refl })) (is_sent w.sent k q message) (GoesOn-refl w)

pub reopen_idle : (w : World) → w.up ≡ true → Does Reopen w w (Ok Idle)
reopen_idle w up = does_step Reopen w w Idle (while_up w.up (StaysIdle w w Idle) (Opens w w Idle) up (record { same = refl; sees = refl })) (λ none. none) (GoesOn-refl w)

-- a device call failed
module _ (site : Site) (sent : List Request) (named : List Naming) (issued : List Slip) (recorder : Recorder) (kept : IsKept site sent named issued recorder) (up : is_up recorder ≡ true) (k minute call : ℕ) (q : Request) (message : IsMessage sent k q) (named' : List Naming) (is_named : named' ≡ named ++ record { message = k; minute = minute } ∷ []) where
  module _ (left : Memory) (fails : FailsOn site minute call q (disk_of recorder).bytes left) (n : ℕ) (counts : Counts left.bytes n) where
    the_failure : FailsAtCall k minute call (world_of site sent named issued recorder) (world_of site sent named' issued (Down left)) (Failed n)
    the_failure = record {
      due = record { request = q; message = message; before = fails.before; kept = fails.due.kept; fresh = fails.due.fresh; whole = fails.whole; is_whole = fails.due.is_whole };
      down = record { down = refl; issued = refl; people = record { site = refl; sent = refl } };
      named = is_named;
      left = fails.is_left;
      images = fails.images;
      closed = fails.closed;
      by_name = fails.by_name;
      entries = n;
      counted = counts;
      sees = refl;
    }

    pub fail_does : Does (Fail k minute call) (world_of site sent named issued recorder) (world_of site sent named' issued (Down left)) (Ok (Failed n))
    fail_does =
        does_step (Fail k minute call) (world_of site sent named issued recorder) (world_of site sent named' issued (Down left)) (Failed n)
        (while_up (is_up recorder) (FailsAtCall k minute call (world_of site sent named issued recorder) (world_of site sent named' issued (Down left)) (Failed n) ⊎ DeliversSettled k minute (world_of site sent named issued recorder) (world_of site sent named' issued (Down left)) (Failed n)) (StaysIdle (world_of site sent named issued recorder) (world_of site sent named' issued (Down left)) (Failed n)) up (inl the_failure))
        (is_sent sent k q message)
        (fails_goes_on k minute call (world_of site sent named issued recorder) (world_of site sent named' issued (Down left)) (Failed n) the_failure)

    pub fail_kept : IsKept site sent named' issued (Down left)
    fail_kept = record {
      is_site = kept.is_site;
      asked = kept.asked;
      runs = tt;
      world = fails_world k minute call (world_of site sent named issued recorder) (world_of site sent named' issued (Down left)) (Failed n) the_failure kept.world;
    }

  module _ (image : Image) (left : List ℕ) (crashes : CrashesOn site minute call image q (disk_of recorder).bytes left) (listed : Listed) (n : ℕ) (counts : Counts left n) where
    the_crash : CrashesAtCall k minute call image (world_of site sent named issued recorder) (world_of site sent named' issued (Down (fresh left listed))) (Crashed n)
    the_crash = record {
      due = record { request = q; message = message; before = crashes.before; kept = crashes.due.kept; fresh = crashes.due.fresh; whole = crashes.whole; is_whole = crashes.due.is_whole };
      down = record { down = refl; issued = refl; people = record { site = refl; sent = refl } };
      named = is_named;
      during = crashes.during;
      begun = crashes.begun;
      puts = crashes.puts;
      left = crashes.is_left;
      allowed = crashes.allowed;
      keeps = crashes.keeps;
      rest = fresh_rest left listed;
      entries = n;
      counted = counts;
      sees = refl;
    }

    pub crash_does : Does (Crash k minute call image) (world_of site sent named issued recorder) (world_of site sent named' issued (Down (fresh left listed))) (Ok (Crashed n))
    crash_does =
        does_step (Crash k minute call image) (world_of site sent named issued recorder) (world_of site sent named' issued (Down (fresh left listed))) (Crashed n)
        (while_up (is_up recorder) (CrashesAtCall k minute call image (world_of site sent named issued recorder) (world_of site sent named' issued (Down (fresh left listed))) (Crashed n) ⊎ DeliversSettled k minute (world_of site sent named issued recorder) (world_of site sent named' issued (Down (fresh left listed))) (Crashed n)) (StaysIdle (world_of site sent named issued recorder) (world_of site sent named' issued (Down (fresh left listed))) (Crashed n)) up (inl the_crash))
        (is_sent sent k q message)
        (crashes_goes_on k minute call image (world_of site sent named issued recorder) (world_of site sent named' issued (Down (fresh left listed))) (Crashed n) the_crash)

    pub crash_kept : IsKept site sent named' issued (Down (fresh left listed))
    crash_kept = record {
      is_site = kept.is_site;
      asked = kept.asked;
      runs = tt;
      world = crashes_world k minute call image (world_of site sent named issued recorder) (world_of site sent named' issued (Down (fresh left listed))) (Crashed n) the_crash kept.world;
    }

-- a request that isn't to be recorded is served as it is delivered
settled_step : (old new : World) (k minute : ℕ) (q : Request) (seen : Seen) → IsMessage old.sent k q → SettledOn old.site q old.disk.bytes → Delivers k minute false old new seen → DeliversSettled k minute old new seen
settled_step old new k minute q seen message settled d = record {
  delivers = d;
  settled = λ fresh. settled.settled
      (subst (λ (r : Request). IsVerdict old.site.last_nsr settled.before r Fresh) (one_message old.sent k d.serves.request q d.serves.message message)
      (subst (λ (h : List Entry). IsVerdict old.site.last_nsr h d.serves.request Fresh) (one_ledger old.disk.bytes d.serves.before settled.before d.serves.kept settled.kept) fresh));
}

pub settled_fail : (old new : World) (k minute call : ℕ) (q : Request) (result : Result Seen WorldStop) → old.up ≡ true → IsMessage old.sent k q → SettledOn old.site q old.disk.bytes → Does (Deliver k minute false) old new result → Does (Fail k minute call) old new result
settled_fail old new k minute call q result up message settled d = record {
  steps = as_failed result d.steps;
  not_sent = d.not_sent;
  as_before = d.as_before;
  goes_on = d.goes_on;
}
  where
    while_is : (u : Bool) (P Q : Type 0) → u ≡ true → WhileUp u P Q → P
    while_is true P Q is p = p
    while_is false P Q is p = absurd cc

    as_failed : (r : Result Seen WorldStop) → IfOk r (Steps (Deliver k minute false) old new) → IfOk r (Steps (Fail k minute call) old new)
    as_failed (Ok seen) step = record {
      sent = step.sent;
      happens = while_up old.up (FailsAtCall k minute call old new seen ⊎ DeliversSettled k minute old new seen) (StaysIdle old new seen) up (inr (settled_step old new k minute q seen message settled (while_is old.up (Delivers k minute false old new seen) (StaysIdle old new seen) up step.happens)));
    }
    as_failed (Err stop) step = tt

pub settled_crash : (old new : World) (k minute call : ℕ) (image : Image) (q : Request) (result : Result Seen WorldStop) → old.up ≡ true → IsMessage old.sent k q → SettledOn old.site q old.disk.bytes → Does (Deliver k minute false) old new result → Does (Crash k minute call image) old new result
settled_crash old new k minute call image q result up message settled d = record {
  steps = as_crashed result d.steps;
  not_sent = d.not_sent;
  as_before = d.as_before;
  goes_on = d.goes_on;
}
  where
    while_is : (u : Bool) (P Q : Type 0) → u ≡ true → WhileUp u P Q → P
    while_is true P Q is p = p
    while_is false P Q is p = absurd cc

    as_crashed : (r : Result Seen WorldStop) → IfOk r (Steps (Deliver k minute false) old new) → IfOk r (Steps (Crash k minute call image) old new)
    as_crashed (Ok seen) step = record {
      sent = step.sent;
      happens = while_up old.up (CrashesAtCall k minute call image old new seen ⊎ DeliversSettled k minute old new seen) (StaysIdle old new seen) up (inr (settled_step old new k minute q seen message settled (while_is old.up (Delivers k minute false old new seen) (StaysIdle old new seen) up step.happens)));
    }
    as_crashed (Err stop) step = tt

-- a crash at rest, and a reopening
module _ (site : Site) (sent : List Request) (named : List Naming) (issued : List Slip) (recorder : Recorder) (kept : IsKept site sent named issued recorder) where
  module _ (image : Image) (left : List ℕ) (is_image : IsImageNow image recorder left) (listed : Listed) (n : ℕ) (counts : Counts left n) where
    pub rest_does : Does (Rest image) (world_of site sent named issued recorder) (world_of site sent named issued (Down (fresh left listed))) (Ok (AtRest n))
    rest_does =
        does_step (Rest image) (world_of site sent named issued recorder) (world_of site sent named issued (Down (fresh left listed))) (AtRest n)
        (record {
          down = record { down = refl; issued = refl; people = record { site = refl; sent = refl } };
          named = refl;
          left = is_image.named;
          allowed = is_image.allowed;
          rest = fresh_rest left listed;
          entries = n;
          counted = counts;
          sees = refl;
        })
        (λ none. none)
        (rests_goes_on (world_of site sent named issued recorder) (world_of site sent named issued (Down (fresh left listed))) (record { site = refl; sent = refl }) refl refl (fresh_rest left listed) (λ h sure. sure.images is_image.early left is_image.allowed))

    pub rest_kept : IsKept site sent named issued (Down (fresh left listed))
    rest_kept = record {
      is_site = kept.is_site;
      asked = kept.asked;
      runs = tt;
      world = rests_world (world_of site sent named issued recorder) (world_of site sent named issued (Down (fresh left listed))) (record { site = refl; sent = refl }) refl refl (fresh_rest left listed) (kept.world.images is_image.early left is_image.allowed);
    }

  module _ (down : is_up recorder ≡ false) (store : State Memory Dial) (opened : IsOpened site (disk_of recorder).bytes store) where
    pub reopen_does : (n : ℕ) → n ≡ length store.history → Does Reopen (world_of site sent named issued recorder) (world_of site sent named issued (Up store)) (Ok (Opened n))
    reopen_does n is =
        does_step Reopen (world_of site sent named issued recorder) (world_of site sent named issued (Up store)) (Opened n)
        (while_down (is_up recorder) (StaysIdle (world_of site sent named issued recorder) (world_of site sent named issued (Up store)) (Opened n)) (Opens (world_of site sent named issued recorder) (world_of site sent named issued (Up store)) (Opened n)) down
        (record {
          up = refl;
          bytes = opened.same;
          rest = opened.runs.settled.rest;
          issued = refl;
          named = refl;
          people = record { site = refl; sent = refl };
          history = store.history;
          ledger = opened.runs.settled.holds;
          sure = whole_is_sure (world_of site sent named issued (Up store)) store.history opened.runs.settled.rest opened.runs.settled.holds;
          sees = ap (λ (m : ℕ). Opened m) is;
        }))
        (λ none. none)
        (rests_goes_on (world_of site sent named issued recorder) (world_of site sent named issued (Up store)) (record { site = refl; sent = refl }) refl refl opened.runs.settled.rest (λ h sure. subst (KeepsFrom h) (sym opened.same) sure.bytes))

    pub reopen_kept : IsKept site sent named issued (Up store)
    reopen_kept = record {
      is_site = kept.is_site;
      asked = kept.asked;
      runs = opened.runs;
      world = rests_world (world_of site sent named issued recorder) (world_of site sent named issued (Up store)) (record { site = refl; sent = refl }) refl refl opened.runs.settled.rest (subst (Keeps (world_of site sent named issued recorder)) (sym opened.same) kept.world.bytes);
    }
