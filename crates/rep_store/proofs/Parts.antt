-- The parts of a store after each kind of step.
use Rattle.std.proofs.Common.{◌≡◌, ℕ, ◌+◌, ◌<◌, ◌≤◌, ◌↔◌, List, [], ◌∷◌, ◌++◌, length, drop, Option, Some, None, refl, sym, ap, subst, ◌∙◌, arith, length-append}
use Rattle.std.specs.Prelude.{IfSome, IsSome}
use Rattle.rep_fields.specs.Moment.{Moment, IsMoment}
use Rattle.afd_records.specs.Record.{last_nsr}
use Rattle.rep_disk.specs.Disk.{Shown, Changes, last_moment}
use Rattle.rep_wire.specs.Request.{IsRequest}
use Rattle.rep_wire.specs.declared.request.Entry.{Entry}
use Rattle.rep_wire.specs.declared.request.Request.{Request}
use Rattle.rep_core.specs.Answered.{entry_of, recorded_after}
use Rattle.rep_core.specs.Core.{Kept, Stands, IsLimit}
use Rattle.rep_core.specs.Valid.{Fits, IsFounded}
use Rattle.rep_core.specs.Verdict.{IsVerdict}
use Rattle.rep_core.specs.declared.verdict.Verdict.TheVariants.{Fresh}
use Rattle.rep_core.proofs.Standing.{Stands-own, entries_of}
use Rattle.rep_core.proofs.Validity.{Fits-recorded, IsFounded-push}
use Rattle.rep_core.proofs.Verdicts.{fresh_within}
use Rattle.rep_journal.specs.Format.{Framed, IsJournalOf, closed_gate, end_of, front_text}
use Rattle.rep_journal.specs.State.{IsWithOrWithout, Leaves}
use Rattle.rep_journal.specs.State as journal
use Rattle.rep_journal.specs.Recovery.{IsOpenAtGate, OpensGate}
use Rattle.rep_ledger.specs.Ledger.{IsLedgerOf, IsLedgerWithin, frames_of, next_frame}
use Rattle.rep_ledger.specs.Leaving.{ChangesAtEnd, OpensBefore}
use Rattle.rep_ledger.proofs.DiskSteps.{Changes-weaker, IsAtRest-untouched, IsRead-untouched}
use Rattle.rep_ledger.proofs.LeavingLemmas.{ChangesAtEnd-around, OpensBefore-gate}
use Rattle.rep_ledger.proofs.LedgerLemmas.{frames_of-push}
use Rattle.rep_ledger.proofs.SafetyLemmas.{ledger_around}
use Rattle.rep_site.specs.declared.site.Site.{Site}
use Rattle.rep_store.specs.Device.{Device, PutsFrame, Reserves, StopsAtFrame}
use Rattle.rep_store.specs.Fields.{IsWhole, state_of}
use Rattle.rep_store.specs.State.{CountsStop, IsKept, IsOpenAfter, IsSettledOn, IsSound}
use Rattle.rep_store.specs.Steps.{IsKeptAsWas, IsLeftAt}
use Rattle.rep_store.proofs.Contents.{after_change, told_before, told_as, where_told, ledger_with, left_ledger, within_ledger}

-- a store that goes on has a disk that keeps its history, and a crash leaves nothing else
pub settled_of : {D : Type 0} (shown : D → Shown) (core : Kept) (device : Device D) (site : Site) → IsWhole shown core device site → device.stopped ≡ None → IsSettledOn core.entries (shown device.disk)
settled_of shown core device site whole running = subst (λ o. IsKept o core.entries (shown device.disk)) running whole.disk

-- what holds of each store holds of one with these parts
pub IsSound-whole : {D C : Type 0} (shown : D → Shown) (core : Kept) (device : Device D) (clock : C) (site : Site) (reading : Option ℕ) → IsWhole shown core device site → IsSound shown (state_of core device clock site reading)
IsSound-whole shown core device clock site reading whole = record {
  founded = whole.founded;
  site = whole.is_site;
  of_site = whole.of_site;
  offset = refl;
  numbers = whole.numbers;
  limit = whole.limit;
  disk = whole.disk;
  count = whole.count;
}

module _ {D : Type 0} (shown : D → Shown) (core core' : Kept) (device device' : Device D) (site : Site) (same : (h : List Entry) → Stands core h ↔ Stands core' h) (limit : core'.limit ≡ core.limit) (reserved : Reserves shown device device') (running : device.stopped ≡ None) where
  pub same_entries : core'.entries ≡ core.entries
  same_entries = entries_of core' core.entries ((same core.entries).0 (Stands-own core))

  -- room was made, and nothing else was done
  pub IsWhole-reserved : IsWhole shown core device site → IsWhole shown core' device' site
  IsWhole-reserved whole =
      let settled = settled_of shown core device site whole running in
      record {
        founded = subst IsFounded (sym same_entries) whole.founded;
        numbers = omega (arith, ap length same_entries, whole.numbers);
        limit = (omega (arith, whole.limit.0), omega (arith, whole.limit.1));
        of_site = limit ∙ whole.of_site;
        is_site = whole.is_site;
        disk = subst (λ o. IsKept o core'.entries (shown device'.disk)) (sym reserved.running)
            (subst (λ h. IsSettledOn h (shown device'.disk)) (sym same_entries) (record {
              holds = subst (λ o. IfSome o (λ bytes. IsLedgerOf bytes core.entries)) (sym reserved.disk.contents) settled.holds;
              rest = IsAtRest-untouched (shown device.disk) (shown device'.disk) settled.rest reserved.disk;
            }));
        count = subst (λ o. CountsStop o device'.faults) (sym reserved.running) tt;
        as_many = λ runs. ap length reserved.frames ∙ whole.as_many running ∙ sym (ap length same_entries);
        frames = λ runs told.
            reserved.frames ∙ whole.frames running (subst IsSome reserved.disk.contents told) ∙ ap frames_of (sym same_entries);
      }

  pub IsKeptAsWas-reserved : {C : Type 0} (clock clock' : C) (reading reading' : Option ℕ) → IsKeptAsWas shown (state_of core device clock site reading) (state_of core' device' clock' site reading')
  IsKeptAsWas-reserved clock clock' reading reading' = record {
    history = same_entries;
    limit = limit;
    site = refl;
    offset = refl;
    faults = reserved.faults;
    stopped = reserved.running ∙ sym running;
    disk = IsRead-untouched (shown device.disk) (shown device'.disk) reserved.disk;
  }

-- the entry of a request that is to be recorded was put
module _ {D : Type 0} (shown : D → Shown) (core core' : Kept) (device device' : Device D) (site : Site) (q : Request) (now : Moment) (whole : IsWhole shown core device site) (running : device.stopped ≡ None) (asked : IsRequest q) (stamp : IsMoment now) (fresh : IsVerdict core.limit core.entries q Fresh) (limit : core'.limit ≡ core.limit) where
  pub entry_fits : Fits core.entries (entry_of q now)
  entry_fits = Fits-recorded core.entries q now asked stamp (fresh_within core.limit last_nsr core.entries q whole.limit.1 fresh)

  limit_kept : IsLimit core'.limit
  limit_kept = subst IsLimit (sym limit) whole.limit

  -- the disk keeps the history with the entry
  pub contents_put : PutsFrame shown (next_frame core.entries (entry_of q now)) device device' → Changes (λ _ bytes. IsLedgerOf bytes (recorded_after core.entries q now)) (shown device.disk).contents (shown device'.disk).contents
  contents_put put =
      Changes-weaker (shown device.disk).contents (shown device'.disk).contents
      (λ _ bytes. IsJournalOf bytes device'.frames) (λ _ bytes. IsLedgerOf bytes (recorded_after core.entries q now))
      (λ was bytes told journal.
      ledger_with core.entries (entry_of q now) whole.founded entry_fits device.frames bytes (whole.frames running (told_as _ was told))
      (subst (IsJournalOf bytes) put.appends.frames journal))
      put.appends.contents

  frames_put : PutsFrame shown (next_frame core.entries (entry_of q now)) device device' → IsSome (shown device.disk).contents → device'.frames ≡ frames_of (recorded_after core.entries q now)
  frames_put put told =
      put.appends.frames
      ∙ ap (λ fs. fs ++ next_frame core.entries (entry_of q now) ∷ []) (whole.frames running told)
      ∙ sym (frames_of-push core.entries (entry_of q now))

  -- and it is written so, with the old bytes behind it
  pub text_put : PutsFrame shown (next_frame core.entries (entry_of q now)) device device' → Leaves (frames_of (recorded_after core.entries q now)) (shown device.disk).contents (shown device'.disk).contents
  text_put put =
      Changes-weaker (shown device.disk).contents (shown device'.disk).contents
      (λ was bytes. bytes ≡ front_text device'.frames ++ closed_gate ∷ drop (1 + end_of device'.frames) was)
      (λ was bytes. bytes ≡ front_text (frames_of (recorded_after core.entries q now)) ++ closed_gate ∷ drop (1 + end_of (frames_of (recorded_after core.entries q now))) was)
      (λ was bytes told text.
      subst (λ (fs : List Framed). bytes ≡ front_text fs ++ closed_gate ∷ drop (1 + end_of fs) was) (frames_put put (told_as (shown device.disk).contents was told)) text)
      put.appends.text

  pub IsWhole-put : core'.entries ≡ recorded_after core.entries q now → PutsFrame shown (next_frame core.entries (entry_of q now)) device device' → IsWhole shown core' device' site
  IsWhole-put entries put = record {
    founded = subst IsFounded (sym entries) (IsFounded-push core.entries (entry_of q now) whole.founded entry_fits);
    numbers = omega (arith, ap length entries, length-append core.entries (entry_of q now ∷ []), fresh.2, whole.limit.1);
    limit = limit_kept;
    of_site = limit ∙ whole.of_site;
    is_site = whole.is_site;
    disk = subst (λ o. IsKept o core'.entries (shown device'.disk)) (sym put.running)
        (subst (λ h. IsSettledOn h (shown device'.disk)) (sym entries) (record {
          holds = after_change (shown device.disk).contents (shown device'.disk).contents (λ bytes. IsLedgerOf bytes (recorded_after core.entries q now)) (contents_put put);
          rest = put.appends.rest;
        }));
    count = subst (λ o. CountsStop o device'.faults) (sym put.running) tt;
    as_many = λ runs.
        omega (
          arith,
          ap length put.appends.frames,
          length-append device.frames (next_frame core.entries (entry_of q now) ∷ []),
          whole.as_many running,
          ap length entries,
          length-append core.entries (entry_of q now ∷ []),
        );
    frames = λ runs told.
        frames_put put (told_before (shown device.disk).contents (shown device'.disk).contents (λ _ bytes. IsLedgerOf bytes (recorded_after core.entries q now)) (contents_put put) told)
        ∙ ap frames_of (sym entries);
  }

  -- the disk keeps the history with the entry or without it
  pub contents_stopped : (stops : StopsAtFrame shown (next_frame core.entries (entry_of q now)) device device') → Changes (λ _ bytes. IsLeftAt stops.stops.fails.failed core.entries (recorded_after core.entries q now) bytes) (shown device.disk).contents (shown device'.disk).contents
  contents_stopped stops =
      Changes-weaker (shown device.disk).contents (shown device'.disk).contents
      (λ _ bytes. journal.IsLeftAt stops.stops.fails.failed device.frames (next_frame core.entries (entry_of q now)) bytes)
      (λ _ bytes. IsLeftAt stops.stops.fails.failed core.entries (recorded_after core.entries q now) bytes)
      (λ was bytes told left.
      left_ledger core.entries (entry_of q now) whole.founded entry_fits stops.stops.fails.failed device.frames bytes (whole.frames running (told_as _ was told)) left)
      stops.stops.fails.contents

  -- where a device call failed, what was changed lies behind the history
  pub around_stopped : (stops : StopsAtFrame shown (next_frame core.entries (entry_of q now)) device device') → Changes (ChangesAtEnd stops.stops.fails.failed core.entries (recorded_after core.entries q now)) (shown device.disk).contents (shown device'.disk).contents
  around_stopped stops =
      let failed = stops.stops.fails.failed in
      let frame = next_frame core.entries (entry_of q now) in
      Changes-weaker (shown device.disk).contents (shown device'.disk).contents
      (λ was bytes. journal.IsLeftAround failed device.frames frame was bytes)
      (ChangesAtEnd failed core.entries (recorded_after core.entries q now))
      (λ was bytes told left.
      ChangesAtEnd-around failed core.entries (entry_of q now) was bytes
      (subst (λ (fs : List Framed). journal.IsLeftAround failed fs frame was bytes) (whole.frames running (told_as _ was told)) left))
      stops.stops.fails.around

  -- while its gate is pending, that gate alone is
  pub opens_put : (until : ℕ) → OpensGate device.frames (next_frame core.entries (entry_of q now)) (shown device.disk) (shown device'.disk) until → OpensBefore core.entries (recorded_after core.entries q now) (shown device.disk) (shown device'.disk) until
  opens_put until opens =
      let frame = next_frame core.entries (entry_of q now) in
      let settled = settled_of shown core device site whole running in
      OpensBefore-gate core.entries (entry_of q now) (shown device.disk) (shown device'.disk) until settled.holds entry_fits
      (where_told (shown device.disk).contents
      (λ (was : List ℕ). (shown device'.disk).moment < last_moment → (m : ℕ) → (shown device.disk).moment + 4 < m → m ≤ until → m ≤ (shown device'.disk).moment → IsOpenAtGate (frames_of core.entries) frame was (shown device'.disk) m)
      (λ told. subst (λ (fs : List Framed). OpensGate fs frame (shown device.disk) (shown device'.disk) until) (whole.frames running told) opens))

  later_stopped : (stops : StopsAtFrame shown (next_frame core.entries (entry_of q now)) device device') → (shown device.disk).moment ≤ (shown device'.disk).moment
  later_stopped stops = let calls = stops.stops.fails.calls in omega arith

  open_after : StopsAtFrame shown (next_frame core.entries (entry_of q now)) device device' → IsOpenAfter core.entries (shown device'.disk)
  open_after stops =
      let changes = contents_stopped stops in
      let within = within_ledger core.entries (entry_of q now) whole.founded entry_fits in
      record {
        holds = after_change (shown device.disk).contents (shown device'.disk).contents (IsLedgerWithin core.entries)
            (Changes-weaker (shown device.disk).contents (shown device'.disk).contents
            (λ _ bytes. IsLeftAt stops.stops.fails.failed core.entries (recorded_after core.entries q now) bytes) (λ _ bytes. IsLedgerWithin core.entries bytes)
            (λ was bytes told left. within bytes left.either) changes);
        images = λ told below image leaves.
            let before = told_before (shown device.disk).contents (shown device'.disk).contents (λ _ bytes. IsLeftAt stops.stops.fails.failed core.entries (recorded_after core.entries q now) bytes) changes told in
            let frames = whole.frames running before in
            let around = (stops.crash before below).opened (shown device'.disk).moment image (later_stopped stops) (omega arith) leaves in
            within image
            (ledger_around core.entries (entry_of q now) image whole.founded entry_fits
            (subst (λ fs. IsWithOrWithout fs (next_frame core.entries (entry_of q now)) image) frames around));
      }

  pub IsWhole-stopped : core'.entries ≡ core.entries → StopsAtFrame shown (next_frame core.entries (entry_of q now)) device device' → IsWhole shown core' device' site
  IsWhole-stopped entries stops = record {
    founded = subst IsFounded (sym entries) whole.founded;
    numbers = omega (arith, ap length entries, whole.numbers);
    limit = limit_kept;
    of_site = limit ∙ whole.of_site;
    is_site = whole.is_site;
    disk = subst (λ o. IsKept o core'.entries (shown device'.disk)) (sym stops.stopped)
        (subst (λ h. IsOpenAfter h (shown device'.disk)) (sym entries) (open_after stops));
    count = subst (λ o. CountsStop o device'.faults) (sym stops.stopped) (refl, omega (arith, stops.stops.counts));
    as_many = λ runs. let no : Some device'.faults ≡ None = sym stops.stopped ∙ runs in absurd cc;
    frames = λ runs told. let no : Some device'.faults ≡ None = sym stops.stopped ∙ runs in absurd cc;
  }
