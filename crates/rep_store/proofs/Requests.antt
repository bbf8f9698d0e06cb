-- What a request does to a store, from what it does to the parts.
use Rattle.std.proofs.Common.{◌≡◌, ℕ, true, false, ◌+◌, ◌*◌, ◌<◌, ◌≤◌, inl, List, [], length, Option, Some, None, Result, Ok, Err, refl, sym, ap, subst, ◌∙◌, arith}
use Rattle.std.specs.Prelude.{◌↔◌, All, IfSome, IsSome, OnErr, OnOk, is_err}
use Rattle.std.proofs.lemmas.List.Elements.{All-cons, All-nil, All-weaker}
use Rattle.rep_fields.specs.Moment.{Moment, IsMoment, moment_at}
use Rattle.rep_io.specs.Causes.{Rose}
use Rattle.rep_disk.specs.Memory.{counted}
use Rattle.rep_disk.specs.Disk.{Shown, AdvancesBy, Changes, last_moment}
use Rattle.rep_wire.specs.Request.{IsRequest}
use Rattle.rep_wire.specs.declared.request.Entry.{Entry}
use Rattle.rep_wire.specs.declared.request.Request.{Request}
use Rattle.rep_wire.specs.declared.reply.Answer.{Answer}
use Rattle.rep_wire.specs.declared.reply.Answer.TheVariants.{Receipt, Refused}
use Rattle.rep_wire.specs.declared.reply.Reply.{Reply}
use Rattle.rep_wire.specs.declared.reply.Slip.{Slip}
use Rattle.rep_core.specs.Answered.{entry_of, recorded_after, IsAnswer, IsReply}
use Rattle.rep_core.specs.Core.{Kept}
use Rattle.rep_core.specs.Valid.{IsFounded}
use Rattle.rep_core.specs.Verdict.{IsVerdict}
use Rattle.rep_core.specs.declared.verdict.Verdict.TheVariants.{Fresh}
use Rattle.rep_core.proofs.Splits.{split_in}
use Rattle.rep_journal.specs.Format.{IsJournalOf}
use Rattle.rep_journal.specs.State.{IsRead, Leaves}
use Rattle.rep_journal.specs.Recovery.{OpensGate, PutMoments, Puts}
use Rattle.rep_ledger.specs.Ledger.{IsLedgerOf, frames_of, next_frame}
use Rattle.rep_ledger.specs.Safety.{IsImageOf, IsSafe, IsSure, Receipted, Secures, receipted_at}
use Rattle.rep_ledger.specs.Leaving.{ChangesAtEnd, IsOpenBefore, OpensBefore}
use Rattle.rep_ledger.proofs.DiskSteps.{IsRead-untouched}
use Rattle.rep_ledger.proofs.SafetyLemmas.{Secures-read, Secures-put, Secures-untouched, sure_by_length}
use Rattle.rep_site.specs.declared.site.Site.{Site}
use Rattle.rep_store.specs.Device.{Device, PutsFrame, Reserves, StopsAtFrame}
use Rattle.rep_store.specs.Fields.{IsWhole, state_of}
use Rattle.rep_store.specs.State.{IsSettledOn}
use Rattle.rep_store.specs.Steps.{IsLeftAt, Records, StaysClosed, Stops, TakesReading, Ticks, recorded_at}
use Rattle.rep_store.proofs.Contents.{told_after}
use Rattle.rep_store.proofs.Parts.{IsWhole-put, IsWhole-stopped, around_stopped, contents_put, contents_stopped, entry_fits, opens_put, settled_of, text_put}

-- what a result that is no error, or is one, brings
pub of_ok : {T E : Type 0} (result : Result T E) (P : Type 0) → is_err result ≡ false → OnOk result P → P
of_ok (Ok v) P ok p = p
of_ok (Err e) P ok p = absurd cc

pub of_err : {T E : Type 0} (result : Result T E) (P : Type 0) → is_err result ≡ true → OnErr result P → P
of_err (Ok v) P err p = absurd cc
of_err (Err e) P err p = p

-- each image of a settled disk keeps its history, where the contents are told
pub settled_images : (h : List Entry) (s : Shown) → IsSettledOn h s → IsSome s.contents → s.moment < last_moment → (image : List ℕ) → s.may_leave s.moment image → IsImageOf image h
settled_images h s settled told below image leaves =
    told_image s.contents (settled.rest below image) settled.holds told
  where
    told_image : (o : Option (List ℕ)) → IfSome o (λ bytes. s.may_leave s.moment image ↔ image ≡ bytes) → IfSome o (λ bytes. IsLedgerOf bytes h) → IsSome o → IsImageOf image h
    told_image None same holds told = absurd cc
    told_image (Some bytes) same holds told = inl (subst (λ x. IsLedgerOf x h) (sym (same.0 leaves)) holds)

-- a reply's receipt is of an entry of the history
pub receipts_within : (limit : ℕ) (h : List Entry) (q : Request) (reply : Reply) (moment : ℕ) → IsReply limit h q reply → All (λ r. (r.moment ≡ moment) × (r.nsr ≤ length h)) (receipted_at moment reply.answer)
receipts_within limit h q reply moment answered = by_answer reply.answer answered.answer
  where
    by_answer : (answer : Answer) → IsAnswer limit h q answer → All (λ r. (r.moment ≡ moment) × (r.nsr ≤ length h)) (receipted_at moment answer)
    by_answer (Receipt slip) is =
        let numbered = is.3 in
        let inside = split_in h numbered.before numbered.behind is.1 numbered.split in
        All-cons (λ r. (r.moment ≡ moment) × (r.nsr ≤ length h)) (record { moment = moment; nsr = slip.nsr }) []
        (refl, omega (arith, inside, numbered.number, ap (λ (s : Slip). s.nsr) is.4)) (All-nil (λ r. (r.moment ≡ moment) × (r.nsr ≤ length h)))
    by_answer (Refused code) is = All-nil (λ r. (r.moment ≡ moment) × (r.nsr ≤ length h))

-- receipts of entries of a history that a settled disk keeps
sure_settled : (h : List Entry) (s : Shown) (receipts : List Receipted) → IsSettledOn h s → IsSome s.contents → s.moment < last_moment → All (λ r. (r.moment ≡ s.moment) × (r.nsr ≤ length h)) receipts → All (IsSure s) receipts
sure_settled h s receipts settled told below given =
    All-weaker (λ r. (r.moment ≡ s.moment) × (r.nsr ≤ length h)) (IsSure s)
    (λ r at. sure_by_length h r.nsr s r.moment at.1
    (λ image leaves. settled_images h s settled told below image (subst (λ m. s.may_leave m image) at.0 leaves)))
    receipts given

-- nothing was put, and a reply was given or not
pub IsSafe-read : (h : List Entry) (receipts : List Receipted) (a b : Shown) → IsSettledOn h a → IsRead a b → All (λ r. (r.moment ≡ b.moment) × (r.nsr ≤ length h)) receipts → IsSafe a.moment h h receipts a b
IsSafe-read h receipts a b settled read given told below =
    Secures-read h receipts a b (settled_images h a settled told (omega (arith, read.later))) read below given

-- the same of a disk that showed the same before
OpensBefore-along : (without whole : List Entry) (a b c : Shown) (until : ℕ) → b.contents ≡ a.contents → b.moment ≡ a.moment → OpensBefore without whole b c until → OpensBefore without whole a c until
OpensBefore-along without whole a b c until contents moment opens =
    subst (λ o. IfSome o (λ was. c.moment < last_moment → (m : ℕ) → a.moment + 4 < m → m ≤ until → m ≤ c.moment → IsOpenBefore without whole was c m)) contents
    (subst (λ n. IfSome b.contents (λ was. c.moment < last_moment → (m : ℕ) → n + 4 < m → m ≤ until → m ≤ c.moment → IsOpenBefore without whole was c m)) moment opens)

module _ {D C : Type 0} (shown : D → Shown) (readings_of : C → Option (List ℕ)) (faults_of : C → ℕ) (core core' core'' : Kept) (device device' device'' : Device D) (clock clock' : C) (site : Site) (reading : Option ℕ) (q : Request) (minute : ℕ) (now : Moment) (whole : IsWhole shown core' device' site) (same : core'.entries ≡ core.entries) (limit' : core'.limit ≡ core.limit) (reserved : Reserves shown device device') (ticks : Ticks readings_of faults_of minute clock clock') (at : now ≡ moment_at minute site.offset) (asked : IsRequest q) (stamp : IsMoment now) (fresh : IsVerdict core.limit core.entries q Fresh) (limit'' : core''.limit ≡ core'.limit) where
  fresh' : IsVerdict core'.limit core'.entries q Fresh
  fresh' = subst (λ n. IsVerdict n core'.entries q Fresh) (sym limit') (subst (λ h. IsVerdict core.limit h q Fresh) (sym same) fresh)

  -- the history with the entry
  with_entry : recorded_after core'.entries q now ≡ recorded_at core.entries q site.offset (Some minute)
  with_entry = ap (λ h. recorded_after h q now) same ∙ ap (λ m. recorded_after core.entries q m) at

  takes : TakesReading readings_of faults_of (state_of core device clock site reading) (state_of core'' device'' clock' site (Some minute))
  takes = record { minute = minute; clock = ticks; reading = refl; site = refl; limit = limit'' ∙ limit'; offset = refl }

  -- until its gate is opened a crash leaves the history from before
  StaysClosed-puts : Puts device'.frames (next_frame core'.entries (entry_of q now)) (shown device'.disk) (shown device''.disk) → StaysClosed core.entries (shown device.disk) (shown device''.disk)
  StaysClosed-puts crash told below m image from early within leaves =
      let told' = subst IsSome (sym reserved.disk.contents) told in
      let closed = (crash told' below).closed m image (omega (arith, reserved.disk.moment)) (omega (arith, reserved.disk.moment)) within leaves in
      record {
        founded = subst IsFounded same whole.founded;
        journal = subst (λ fs. IsJournalOf image fs) (whole.frames reserved.running told' ∙ ap frames_of same) closed;
      }

  -- while its gate is pending, that gate alone is
  opens_from : (until : ℕ) → OpensGate device'.frames (next_frame core'.entries (entry_of q now)) (shown device'.disk) (shown device''.disk) until → OpensBefore core.entries (recorded_after core'.entries q now) (shown device.disk) (shown device''.disk) until
  opens_from until opens =
      OpensBefore-along core.entries (recorded_after core'.entries q now) (shown device.disk) (shown device'.disk) (shown device''.disk) until reserved.disk.contents reserved.disk.moment
      (subst (λ h. OpensBefore h (recorded_after core'.entries q now) (shown device'.disk) (shown device''.disk) until) same
      (opens_put shown core' core'' device' device'' site q now whole reserved.running asked stamp fresh' limit'' until opens))

  module _ (put : PutsFrame shown (next_frame core'.entries (entry_of q now)) device' device'') (entries : core''.entries ≡ recorded_after core'.entries q now) where
    pub whole_put : IsWhole shown core'' device'' site
    whole_put = IsWhole-put shown core' core'' device' device'' site q now whole reserved.running asked stamp fresh' limit'' entries put

    pub contents_recorded : Changes (λ _ bytes. IsLedgerOf bytes core''.entries) (shown device.disk).contents (shown device''.disk).contents
    contents_recorded =
        let contents = contents_put shown core' core'' device' device'' site q now whole reserved.running asked stamp fresh' limit'' put in
        subst (λ o. Changes (λ _ bytes. IsLedgerOf bytes core''.entries) o (shown device''.disk).contents) reserved.disk.contents
        (subst (λ h. Changes (λ _ bytes. IsLedgerOf bytes h) (shown device'.disk).contents (shown device''.disk).contents) (sym entries) contents)

    text_recorded : Leaves (frames_of core''.entries) (shown device.disk).contents (shown device''.disk).contents
    text_recorded =
        let text = text_put shown core' core'' device' device'' site q now whole reserved.running asked stamp fresh' limit'' put in
        subst (λ o. Leaves (frames_of core''.entries) o (shown device''.disk).contents) reserved.disk.contents
        (subst (λ h. Leaves (frames_of h) (shown device'.disk).contents (shown device''.disk).contents) (sym entries) text)

    pub Records-put : Records shown readings_of faults_of q (state_of core device clock site reading) (state_of core'' device'' clock' site (Some minute))
    Records-put =
        record {
          takes = takes;
          history = entries ∙ with_entry;
          faults = put.appends.faults ∙ reserved.faults;
          running = put.running;
          contents = contents_recorded;
          text = text_recorded;
          rest = put.appends.rest;
          closed = StaysClosed-puts put.crash;
          at_gate = subst (λ h. OpensBefore core.entries h (shown device.disk) (shown device''.disk) ((shown device.disk).moment + 7)) (sym entries)
              (subst (λ n. OpensBefore core.entries (recorded_after core'.entries q now) (shown device.disk) (shown device''.disk) (n + 7)) reserved.disk.moment
              (opens_from ((shown device'.disk).moment + 7) put.at_gate));
          calls = subst (λ m. AdvancesBy (2 * 4) m (shown device''.disk).moment) reserved.disk.moment put.appends.calls;
          own = (
            λ own. put.appends.own.0 ((IsRead-untouched (shown device.disk) (shown device'.disk) reserved.disk).own.0 own),
            λ own. (IsRead-untouched (shown device.disk) (shown device'.disk) reserved.disk).own.1 (put.appends.own.1 own),
          );
          no_fault = put.appends.no_fault ∙ reserved.disk.faults;
        }

  -- a crash leaves the history before, or that one
  module _ (crash : Puts device'.frames (next_frame core'.entries (entry_of q now)) (shown device'.disk) (shown device''.disk)) where
    IsSafe-puts : (receipts : List Receipted) → (IsSome (shown device.disk).contents → (shown device''.disk).moment < last_moment → All (IsSure (shown device''.disk)) receipts) → IsSafe (shown device.disk).moment core.entries (recorded_at core.entries q site.offset (Some minute)) receipts (shown device.disk) (shown device''.disk)
    IsSafe-puts receipts given told below =
        let told' = subst IsSome (sym reserved.disk.contents) told in
        let frames = whole.frames reserved.running told' in
        let moments = subst (λ fs. PutMoments fs (next_frame core'.entries (entry_of q now)) (shown device'.disk) (shown device''.disk)) frames (crash told' below) in
        let fits = entry_fits shown core' core'' device' device'' site q now whole reserved.running asked stamp fresh' limit'' in
        let put = Secures-put core'.entries (entry_of q now) receipts (shown device'.disk) (shown device''.disk) whole.founded fits moments (given told below) in
        let all = Secures-untouched core'.entries (recorded_after core'.entries q now) receipts (shown device.disk) (shown device'.disk) (shown device''.disk) reserved.disk put in
        subst (λ h. Secures (shown device.disk).moment core.entries h receipts (shown device.disk) (shown device''.disk)) with_entry
        (subst (λ h. Secures (shown device.disk).moment h (recorded_after core'.entries q now) receipts (shown device.disk) (shown device''.disk)) same all)

    pub IsSafe-stopped : IsSafe (shown device.disk).moment core.entries (recorded_at core.entries q site.offset (Some minute)) [] (shown device.disk) (shown device''.disk)
    IsSafe-stopped = IsSafe-puts [] (λ told below. All-nil (IsSure (shown device''.disk)))

    pub IsSafe-recorded : (reply : Reply) → IsWhole shown core'' device'' site → device''.stopped ≡ None → Changes (λ _ bytes. IsLedgerOf bytes core''.entries) (shown device.disk).contents (shown device''.disk).contents → IsReply core.limit core''.entries q reply → IsSafe (shown device.disk).moment core.entries (recorded_at core.entries q site.offset (Some minute)) (receipted_at (shown device''.disk).moment reply.answer) (shown device.disk) (shown device''.disk)
    IsSafe-recorded reply whole'' running changes answered =
        IsSafe-puts (receipted_at (shown device''.disk).moment reply.answer)
        (λ told below.
        sure_settled core''.entries (shown device''.disk) (receipted_at (shown device''.disk).moment reply.answer)
        (settled_of shown core'' device'' site whole'' running)
        (told_after (shown device.disk).contents (shown device''.disk).contents (λ _ bytes. IsLedgerOf bytes core''.entries) changes told) below
        (receipts_within core.limit core''.entries q reply (shown device''.disk).moment answered))

  module _ (stops : StopsAtFrame shown (next_frame core'.entries (entry_of q now)) device' device'') (entries : core''.entries ≡ core'.entries) where
    pub whole_stopped : IsWhole shown core'' device'' site
    whole_stopped = IsWhole-stopped shown core' core'' device' device'' site q now whole reserved.running asked stamp fresh' limit'' entries stops

    pub Stops-put : Stops shown readings_of faults_of q (state_of core device clock site reading) (state_of core'' device'' clock' site (Some minute))
    Stops-put =
        let contents = contents_stopped shown core' core'' device' device'' site q now whole reserved.running asked stamp fresh' limit'' stops in
        record {
          takes = takes;
          fresh = fresh;
          history = entries ∙ same;
          counts = stops.stops.counts ∙ ap counted reserved.faults;
          stopped = stops.stopped;
          cause = subst (λ n. Rose n (shown device''.disk).faults) reserved.disk.faults stops.stops.cause;
          failed = stops.stops.fails.failed;
          some = stops.stops.fails.some;
          within = stops.stops.fails.within;
          calls = subst (λ m. AdvancesBy (2 * stops.stops.fails.failed) m (shown device''.disk).moment) reserved.disk.moment stops.stops.fails.calls;
          contents = subst (λ o. Changes (λ _ bytes. IsLeftAt stops.stops.fails.failed core.entries (recorded_at core.entries q site.offset (Some minute)) bytes) o (shown device''.disk).contents) reserved.disk.contents
              (subst (λ h. Changes (λ _ bytes. IsLeftAt stops.stops.fails.failed core.entries h bytes) (shown device'.disk).contents (shown device''.disk).contents) with_entry
              (subst (λ h. Changes (λ _ bytes. IsLeftAt stops.stops.fails.failed h (recorded_after core'.entries q now) bytes) (shown device'.disk).contents (shown device''.disk).contents) same contents));
          around =
              let around = around_stopped shown core' core'' device' device'' site q now whole reserved.running asked stamp fresh' limit'' stops in
              subst (λ o. Changes (ChangesAtEnd stops.stops.fails.failed core.entries (recorded_at core.entries q site.offset (Some minute))) o (shown device''.disk).contents) reserved.disk.contents
              (subst (λ h. Changes (ChangesAtEnd stops.stops.fails.failed core.entries h) (shown device'.disk).contents (shown device''.disk).contents) with_entry
              (subst (λ h. Changes (ChangesAtEnd stops.stops.fails.failed h (recorded_after core'.entries q now)) (shown device'.disk).contents (shown device''.disk).contents) same around));
          closed = StaysClosed-puts stops.crash;
          at_gate = subst (λ h. OpensBefore core.entries h (shown device.disk) (shown device''.disk) (shown device''.disk).moment) with_entry
              (opens_from (shown device''.disk).moment stops.at_gate);
          own = (
            λ own. stops.stops.own.0 ((IsRead-untouched (shown device.disk) (shown device'.disk) reserved.disk).own.0 own),
            λ own. (IsRead-untouched (shown device.disk) (shown device'.disk) reserved.disk).own.1 (stops.stops.own.1 own),
          );
        }
