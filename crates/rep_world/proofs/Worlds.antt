-- What an event does to a world, from what it does to its parts.
use Rattle.std.proofs.Common.{◌≡◌, ℕ, ◌<◌, inl, inr, true, false, List, [], ◌∷◌, ◌++◌, Ok, Err, refl, sym, ap, subst, ◌∙◌, arith, append-nil, append_assoc}
use Rattle.std.specs.Prelude.{All, Bool, Contains, if◌then◌else◌, nat_le}
use Rattle.std.proofs.lemmas.List.Elements.{All-append, Contains-push}
use Rattle.rep_fields.specs.Moment.{moment_at}
use Rattle.rep_disk.specs.Disk.{IsAtRest, last_moment}
use Rattle.rep_disk.specs.Memory.{memory_shown}
use Rattle.rep_disk.specs.declared.image.Image.{Image}
use Rattle.rep_disk.specs.declared.image.Image.TheVariants.{Old, New, Odd}
use Rattle.rep_wire.specs.declared.request.Request.{Request}
use Rattle.rep_wire.specs.declared.request.Entry.{Entry}
use Rattle.rep_wire.specs.declared.reply.Reply.{Reply}
use Rattle.rep_wire.specs.declared.reply.Slip.{Slip}
use Rattle.rep_core.specs.Answered.{entry_of, recorded_after}
use Rattle.rep_core.specs.Valid.{IsFounded}
use Rattle.rep_core.proofs.Splits.{split_in}
use Rattle.rep_ledger.specs.Ledger.{IsLedgerOf}
use Rattle.rep_ledger.specs.Safety.{IsFrontOf}
use Rattle.rep_ledger.proofs.ContentLemmas.{one_ledger}
use Rattle.rep_ledger.proofs.SafetyLemmas.{IsFrontOf-push, IsFrontOf-refl, IsFrontOf-trans, founded_some}
use Rattle.rep_site.specs.declared.site.Site.{Site}
use Rattle.rep_world.specs.declared.naming.Naming.{Naming}
use Rattle.rep_world.specs.declared.event.Event.{Event}
use Rattle.rep_world.specs.declared.event.Seen.{Seen}
use Rattle.rep_world.specs.declared.event.WorldStop.TheVariants.{NotSent, OutOfMemory}
use Rattle.rep_world.specs.World.{World, BehindFirst, HasMadeSure, IsHistory, IsImage, IsMessage, IsNamed, IsReceiptIn, IsWorld, Keeps, KeepsFrom}
use Rattle.rep_world.specs.Events.{CrashesAtCall, Does, FailsAtCall, GoesOn, Happens, IsAsBefore, IsDue, IsUnsent, KeepsBetween, NamesUnsent, SamePeople, Serves, history_at, history_left, named_by, receipts_in}
use Rattle.rep_world.specs.Play.{StaysSure}
use Rattle.rep_world.proofs.Histories.{BehindFirst-push, BehindFirst-weaker, IsHistory-more, IsHistory-push, IsNamed-more, between_two, pairs_once, receipt_of_answer, receipts-more}

-- a world whose disk is at rest
pub world_at_rest : (w : World) → IsAtRest (memory_shown w.disk) → Keeps w w.disk.bytes → IsWorld w
world_at_rest w rest keeps = record {
  bytes = keeps;
  images = λ below image is. subst (Keeps w) (sym ((rest below image).0 is)) keeps;
  rest = λ up. rest;
}

pub sure_at_rest : (w : World) (h : List Entry) → IsAtRest (memory_shown w.disk) → KeepsFrom h w.disk.bytes → HasMadeSure w h
sure_at_rest w h rest keeps = record {
  bytes = keeps;
  images = λ below image is. subst (KeepsFrom h) (sym ((rest below image).0 is)) keeps;
}

-- at rest the whole history is sure
pub whole_is_sure : (w : World) (h : List Entry) → IsAtRest (memory_shown w.disk) → IsLedgerOf w.disk.bytes h → HasMadeSure w h
whole_is_sure w h rest kept = sure_at_rest w h rest (h, kept, IsFrontOf-refl h)

-- what is sure is a front of the history that the bytes keep
pub sure_kept : (w : World) (before h : List Entry) → IsLedgerOf w.disk.bytes before → HasMadeSure w h → IsFrontOf h before
sure_kept w before h kept sure =
    subst (IsFrontOf h) (one_ledger w.disk.bytes sure.bytes.0 before sure.bytes.1 kept) sure.bytes.2

pub history_kept : (w : World) (before : List Entry) → IsLedgerOf w.disk.bytes before → IsWorld w → IsHistory w before
history_kept w before kept world =
    subst (IsHistory w) (one_ledger w.disk.bytes world.bytes.history before world.bytes.ledger kept) world.bytes.is_history

-- what was sure while the recorder was up stays sure
pub stays_sure : (old new : World) → IsWorld old → GoesOn old new → StaysSure old new
stays_sure old new world goes_on up h kept = goes_on.sure h (whole_is_sure old h (world.rest up) kept)

-- nothing is added
pub nothing_more : {X : Type 0} (old new : List X) → new ≡ old → (more : List X) × (new ≡ old ++ more)
nothing_more old new same = ([], same ∙ sym (append-nil old))

pub Keeps-more : (old new : World) → new.site ≡ old.site → (sent : (more : List Request) × (new.sent ≡ old.sent ++ more)) → (named : (more : List Naming) × (new.named ≡ old.named ++ more)) → new.issued ≡ old.issued → (bytes : List ℕ) → Keeps old bytes → Keeps new bytes
Keeps-more old new site sent named issued bytes keeps = record {
  history = keeps.history;
  ledger = keeps.ledger;
  once = keeps.once;
  is_history = IsHistory-more old new site sent named issued keeps.history keeps.is_history;
}

-- as before
pub as_before-refl : (w : World) → IsAsBefore w w
as_before-refl w = record {
  people = record { site = refl; sent = refl };
  named = refl;
  issued = refl;
  up = refl;
  bytes = refl;
  images = λ below image. (λ is. is, λ is. is);
  time = omega arith;
}

module _ (old new : World) (same : IsAsBefore old new) where
  pub as_before-goes_on : GoesOn old new
  as_before-goes_on = record {
    site = same.people.site;
    sent = nothing_more old.sent new.sent same.people.sent;
    named = nothing_more old.named new.named same.named;
    issued = nothing_more old.issued new.issued same.issued;
    sure = λ h sure. record {
      bytes = subst (KeepsFrom h) (sym same.bytes) sure.bytes;
      images = λ below image is. sure.images (omega (arith, same.time)) image ((same.images below image).0 is);
    };
  }

  pub as_before-world : IsWorld old → IsWorld new
  as_before-world world = record {
    bytes = subst (Keeps new) (sym same.bytes) (kept old.disk.bytes world.bytes);
    images = λ below image is. kept image (world.images (omega (arith, same.time)) image ((same.images below image).0 is));
    rest = λ up below image.
        let leaves = same.images below image in
        let only = world.rest (sym same.up ∙ up) (omega (arith, same.time)) image in
        (λ is. only.0 (leaves.0 is) ∙ sym same.bytes, λ is. leaves.1 (only.1 (is ∙ same.bytes)));
  }
    where
      kept : (bytes : List ℕ) → Keeps old bytes → Keeps new bytes
      kept = Keeps-more old new same.people.site (nothing_more old.sent new.sent same.people.sent) (nothing_more old.named new.named same.named) same.issued

-- an event that named a message
module _ (old new : World) (k minute : ℕ) (request : Request) (message : IsMessage old.sent k request) (people : SamePeople old new) (named : new.named ≡ named_by old k minute) where
  sent_on : (more : List Request) × (new.sent ≡ old.sent ++ more)
  sent_on = nothing_more old.sent new.sent people.sent

  named_on : (more : List Naming) × (new.named ≡ old.named ++ more)
  named_on = (record { message = k; minute = minute } ∷ [], named)

  is_named : IsNamed new (entry_of request (moment_at minute old.site.offset))
  is_named = record {
    naming = record { message = k; minute = minute };
    listed = subst (λ (ns : List Naming). Contains ns (record { message = k; minute = minute })) (sym named)
        (Contains-push old.named (record { message = k; minute = minute }));
    request = request;
    message = subst (λ (qs : List Request). IsMessage qs k request) (sym people.sent) message;
    made = ap (λ (s : Site). entry_of request (moment_at minute s.offset)) (sym people.site);
  }

  -- the bytes keep the history from before, or the one with the entry
  keeps_between : (before whole : List Entry) → whole ≡ recorded_after before request (moment_at minute old.site.offset) → IsFounded before → IsHistory old before → new.issued ≡ old.issued → (bytes : List ℕ) → KeepsBetween before whole bytes → Keeps new bytes
  keeps_between before whole is_whole founded is issued bytes between = record {
    history = between.0;
    ledger = between.1;
    once = pairs_once between.0 between.1.founded;
    is_history = elim (between_two before between.0 (entry_of request (moment_at minute old.site.offset)) between.2 (subst (IsFrontOf between.0) is_whole between.3)) [
      | inl same ↦ subst (IsHistory new) (sym same) now
      | inr more ↦ subst (IsHistory new) (sym more) (IsHistory-push new before (entry_of request (moment_at minute old.site.offset)) (founded_some before founded) is_named now)
    ];
  }
    where
      now : IsHistory new before
      now = IsHistory-more old new people.site sent_on named_on issued before is

  goes_down : (before whole : List Entry) → IsLedgerOf old.disk.bytes before → new.issued ≡ old.issued → KeepsBetween before whole new.disk.bytes → (new.disk.moment < last_moment → (image : List ℕ) → IsImage new image → KeepsBetween before whole image) → GoesOn old new
  goes_down before whole kept issued between images = record {
    site = people.site;
    sent = sent_on;
    named = named_on;
    issued = nothing_more old.issued new.issued issued;
    sure = λ h sure. record {
      bytes = from h (sure_kept old before h kept sure) new.disk.bytes between;
      images = λ below image is. from h (sure_kept old before h kept sure) image (images below image is);
    };
  }
    where
      from : (h : List Entry) → IsFrontOf h before → (bytes : List ℕ) → KeepsBetween before whole bytes → KeepsFrom h bytes
      from h front bytes keeps = (keeps.0, keeps.1, IsFrontOf-trans h before keeps.0 front keeps.2)

-- a message was served
module _ (k minute : ℕ) (old new : World) (reply : Reply) (s : Serves k minute old new reply) where
  before_after : IsFrontOf s.before s.after
  before_after = elim s.recorded [
    | inl records ↦ subst (IsFrontOf s.before) (sym records.recorded) (IsFrontOf-push s.before (entry_of s.request (moment_at minute old.site.offset)))
    | inr settles ↦ subst (IsFrontOf s.before) (sym settles.same) (IsFrontOf-refl s.before)
  ]

  messages_after : IsWorld old → BehindFirst (IsNamed new) s.after
  messages_after world =
      let all = BehindFirst-weaker (IsNamed old) (IsNamed new) (IsNamed-more old new s.people.site (nothing_more old.sent new.sent s.people.sent) (record { message = k; minute = minute } ∷ [], s.named)) s.before (history_kept old s.before s.kept world).of_messages in
      elim s.recorded [
        | inl records ↦ subst (BehindFirst (IsNamed new)) (sym records.recorded)
            (BehindFirst-push (IsNamed new) s.before (entry_of s.request (moment_at minute old.site.offset)) (founded_some s.before s.kept.founded) all (is_named old new k minute s.request s.message s.people s.named))
        | inr settles ↦ subst (BehindFirst (IsNamed new)) (sym settles.same) all
      ]

  receipts_after : IsWorld old → All (IsReceiptIn s.after) new.issued
  receipts_after world =
      let was = (history_kept old s.before s.kept world).receipts in
      let now : All (IsReceiptIn s.after) old.issued = subst (λ (h : List Entry). All (IsReceiptIn h) old.issued) (sym before_after.1) (receipts-more s.before before_after.0 old.issued was) in
      subst (All (IsReceiptIn s.after)) (sym s.issued)
      (All-append (IsReceiptIn s.after) old.issued (receipts_in reply.answer) now (receipt_of_answer old.site.last_nsr s.after s.request reply.answer s.answered.answer))

  pub serves_world : IsAtRest (memory_shown new.disk) → IsWorld old → IsWorld new
  serves_world rest world = world_at_rest new rest (record {
    history = s.after;
    ledger = s.keeps;
    once = pairs_once s.after s.keeps.founded;
    is_history = record { receipts = receipts_after world; of_messages = messages_after world };
  })

  pub serves_goes_on : IsAtRest (memory_shown new.disk) → GoesOn old new
  serves_goes_on rest = record {
    site = s.people.site;
    sent = nothing_more old.sent new.sent s.people.sent;
    named = (record { message = k; minute = minute } ∷ [], s.named);
    issued = (receipts_in reply.answer, s.issued);
    sure = λ h sure. sure_at_rest new h rest (s.after, s.keeps, IsFrontOf-trans h s.before s.after (sure_kept old s.before h s.kept sure) before_after);
  }

-- bytes that keep the history from before, or another one, keep one between
either_between : (first : Bool) (before whole h : List Entry) (bytes : List ℕ) → IsFrontOf before whole → IsFrontOf before h → IsFrontOf h whole → IsLedgerOf bytes (if first then before else h) → KeepsBetween before whole bytes
either_between true before whole h bytes front one two kept = (before, kept, IsFrontOf-refl before, front)
either_between false before whole h bytes front one two kept = (h, kept, one, two)

-- so where a device call failed, and in each image that is named
pub left_between : (call : ℕ) (before whole : List Entry) (bytes : List ℕ) → IsFrontOf before whole → IsLedgerOf bytes (history_left call before whole) → KeepsBetween before whole bytes
left_between call before whole bytes front = either_between (nat_le call 3) before whole whole bytes front front (IsFrontOf-refl whole)

pub named_between : (call : ℕ) (name : Image) (before whole : List Entry) (bytes : List ℕ) → IsFrontOf before whole → IsLedgerOf bytes (history_at call name before whole) → KeepsBetween before whole bytes
named_between call Old before whole bytes front = either_between (nat_le call 2) before whole before bytes front (IsFrontOf-refl before) front
named_between call New before whole bytes front = either_between (nat_le call 2) before whole whole bytes front front (IsFrontOf-refl whole)
named_between call Odd before whole bytes front = either_between (nat_le call 2) before whole before bytes front (IsFrontOf-refl before) front

pub due_front : (k minute : ℕ) (w : World) (due : IsDue k minute w) → IsFrontOf due.before due.whole
due_front k minute w due =
    subst (IsFrontOf due.before) (sym due.is_whole) (IsFrontOf-push due.before (entry_of due.request (moment_at minute w.site.offset)))

-- a device call failed
module _ (k minute call : ℕ) (old new : World) (seen : Seen) (f : FailsAtCall k minute call old new seen) where
  pub fails_world : IsWorld old → IsWorld new
  fails_world world = record {
    bytes = kept new.disk.bytes (left_between call f.due.before f.due.whole new.disk.bytes (due_front k minute old f.due) f.left);
    images = λ below image is. kept image (f.images below image is);
    rest = λ up. absurd (false_true (sym f.down.down ∙ up));
  }
    where
      false_true : false ≡ true → ⊥
      false_true same = absurd cc

      kept : (bytes : List ℕ) → KeepsBetween f.due.before f.due.whole bytes → Keeps new bytes
      kept = keeps_between old new k minute f.due.request f.due.message f.down.people f.named f.due.before f.due.whole f.due.is_whole f.due.kept.founded (history_kept old f.due.before f.due.kept world) f.down.issued

  pub fails_goes_on : GoesOn old new
  fails_goes_on = goes_down old new k minute f.due.request f.due.message f.down.people f.named f.due.before f.due.whole f.due.kept f.down.issued (left_between call f.due.before f.due.whole new.disk.bytes (due_front k minute old f.due) f.left) f.images

-- a crash came
module _ (k minute call : ℕ) (image : Image) (old new : World) (seen : Seen) (f : CrashesAtCall k minute call image old new seen) where
  keeps : KeepsBetween f.due.before f.due.whole new.disk.bytes
  keeps = named_between call image f.due.before f.due.whole new.disk.bytes (due_front k minute old f.due) f.keeps

  pub crashes_world : IsWorld old → IsWorld new
  crashes_world world = world_at_rest new f.rest
      (keeps_between old new k minute f.due.request f.due.message f.down.people f.named f.due.before f.due.whole f.due.is_whole f.due.kept.founded (history_kept old f.due.before f.due.kept world) f.down.issued new.disk.bytes keeps)

  pub crashes_goes_on : GoesOn old new
  crashes_goes_on = goes_down old new k minute f.due.request f.due.message f.down.people f.named f.due.before f.due.whole f.due.kept f.down.issued keeps (λ below bytes is. subst (KeepsBetween f.due.before f.due.whole) (sym ((f.rest below bytes).0 is)) keeps)

-- the disk is at rest with bytes that the old one had or might have been left with, and nothing else changed
module _ (old new : World) (people : SamePeople old new) (named : new.named ≡ old.named) (issued : new.issued ≡ old.issued) (rest : IsAtRest (memory_shown new.disk)) where
  pub rests_world : Keeps old new.disk.bytes → IsWorld new
  rests_world keeps = world_at_rest new rest (Keeps-more old new people.site (nothing_more old.sent new.sent people.sent) (nothing_more old.named new.named named) issued new.disk.bytes keeps)

  pub rests_goes_on : ((h : List Entry) → HasMadeSure old h → KeepsFrom h new.disk.bytes) → GoesOn old new
  rests_goes_on keeps = record {
    site = people.site;
    sent = nothing_more old.sent new.sent people.sent;
    named = nothing_more old.named new.named named;
    issued = nothing_more old.issued new.issued issued;
    sure = λ h sure. sure_at_rest new h rest (keeps h sure);
  }

-- what goes on and on goes on
pub GoesOn-trans : (a b c : World) → GoesOn a b → GoesOn b c → GoesOn a c
GoesOn-trans a b c one two = record {
  site = two.site ∙ one.site;
  sent = (one.sent.0 ++ two.sent.0, two.sent.1 ∙ ap (λ (xs : List Request). xs ++ two.sent.0) one.sent.1 ∙ append_assoc a.sent one.sent.0 two.sent.0);
  named = (one.named.0 ++ two.named.0, two.named.1 ∙ ap (λ (xs : List Naming). xs ++ two.named.0) one.named.1 ∙ append_assoc a.named one.named.0 two.named.0);
  issued = (one.issued.0 ++ two.issued.0, two.issued.1 ∙ ap (λ (xs : List Slip). xs ++ two.issued.0) one.issued.1 ∙ append_assoc a.issued one.issued.0 two.issued.0);
  sure = λ h sure. two.sure h (one.sure h sure);
}

pub GoesOn-refl : (w : World) → GoesOn w w
GoesOn-refl w = as_before-goes_on w w (as_before-refl w)

-- a message with a number was sent
pub is_sent : (sent : List Request) (k : ℕ) (q : Request) → IsMessage sent k q → IsUnsent sent k → ⊥
is_sent sent k q m (inl none) = omega (arith, m.number, none)
is_sent sent k q m (inr less) = omega (arith, m.number, less, split_in sent m.before m.behind q m.split)

-- how a call ends
module _ (event : Event) (old new : World) where
  pub does_step : (seen : Seen) → Happens event old new seen → (NamesUnsent event old → ⊥) → GoesOn old new → Does event old new (Ok seen)
  does_step seen happens named goes_on = record {
    steps = record { sent = named; happens = happens };
    not_sent = (λ is. absurd cc, λ unsent. absurd (named unsent));
    as_before = tt;
    goes_on = goes_on;
  }

  pub does_nothing : (NamesUnsent event old → ⊥) → IsAsBefore old new → Does event old new (Err OutOfMemory)
  does_nothing named same = record {
    steps = tt;
    not_sent = (λ is. absurd cc, λ unsent. absurd (named unsent));
    as_before = same;
    goes_on = as_before-goes_on old new same;
  }

pub does_not : (event : Event) (w : World) → NamesUnsent event w → Does event w w (Err NotSent)
does_not event w unsent = record {
  steps = tt;
  not_sent = (λ is. unsent, λ is. refl);
  as_before = as_before-refl w;
  goes_on = GoesOn-refl w;
}
