-- a store as the desk of a lane
use Rattle.std.proofs.Common.{◌≡◌, ◌≢◌, ◌↔◌, ℕ, ℤ, inl, inr, List, [], ◌∷◌, ◌++◌, length, Option, Some, None, Result, Ok, Err, refl, sym, ap, subst, ◌∙◌}
use Rattle.std.proofs.lemmas.List.{append_cancel_left}
use Rattle.std.specs.Prelude.{IfOk, IsSome}
use Rattle.std.specs.Io.KnownBytes.{append_known}
use Rattle.afd_records.specs.File.{file_text}
use Rattle.afd_extract.specs.Extract.{counts_of_lines}
use Rattle.rep_fields.specs.Moment.{moment_at}
use Rattle.rep_io.specs.Causes.{Rose}
use Rattle.rep_disk.specs.Disk.{Shown}
use Rattle.rep_wire.specs.Reply.{extract_text}
use Rattle.rep_wire.specs.declared.request.Entry.{Entry}
use Rattle.rep_wire.specs.declared.request.Request.{Request}
use Rattle.rep_wire.specs.declared.reply.Reply.{Reply}
use Rattle.rep_core.specs.Verdict.{IsVerdict}
use Rattle.rep_core.specs.Answered.{recorded_after, IsReply}
use Rattle.rep_core.specs.declared.verdict.Verdict.TheVariants.{Fresh}
use Rattle.rep_ledger.specs.Safety.{IsSafe, Receipted}
use Rattle.rep_site.specs.declared.site.Site.{Site}
use Rattle.rep_store.specs.Extracting.{IsAfdOf, IsPutOf, IsPutOfLines, Extracts as StoreExtracts}
use Rattle.rep_store.specs.State.{State}
use Rattle.rep_store.specs.Steps.{LeavesAll, MissesTime, Serves, Stops, recorded_at, receipts_of as store_receipts}
use Rattle.rep_store.specs.declared.error.ExtractFail.{ExtractFail}
use Rattle.rep_store.specs.declared.error.ExtractFail.TheVariants as extract
use Rattle.rep_store.specs.declared.error.Stop.{Stop}
use Rattle.rep_store.specs.declared.error.Stop.TheVariants.{Stopped, DeviceFault, ClockFault, OutOfMemory}
use Rattle.rep_report.proofs.KnownBytes.{append_known-nil}
use Rattle.rep_lane.specs.Answers.{Extracted, extract_bytes}
use Rattle.rep_lane.specs.Desk.{Steps, PutsExtract, steps_of}
use Rattle.rep_lane.specs.Serving.{rules_of, ServesRequest, ServesPeriod, IsServing}
use Rattle.rep_lane.specs.declared.desk.DeskFail.{DeskFail}
use Rattle.rep_lane.specs.declared.desk.DeskFail.TheVariants as fail
use Rattle.rep_lane.proofs.LineLemmas.{puts_nothing}
use Rattle.rep_ledger.specs.Ledger.{IsLedgerOf}
use Rattle.rep_report.specs.Saying.{IsStrictFront}
use Rattle.rep_run.specs.Extraction.{IsExtraction, IsExtractOf}
use Rattle.rep_run.specs.Desk.{Asks, AsksBy, Extracts, Files, Shows, receipts_of}
use Rattle.rep_run.specs.Steps.{extract_fail, fail_of}
use Rattle.rep_run.proofs.Known.{told_on}

-- the desk's answer, by its store's
abbrev pub answer_of : Result Reply Stop → Result Reply DeskFail
answer_of (Ok reply) = Ok reply
answer_of (Err stop) = Err (fail_of stop)

same_receipts : (moment : ℕ) (result : Result Reply Stop) → receipts_of moment (answer_of result) ≡ store_receipts moment result
same_receipts moment (Ok reply) = refl
same_receipts moment (Err stop) = refl

module _ {D C : Type 0} (shown : D → Shown) (readings : C → Option (List ℕ)) (faults : C → ℕ) (q : Request) (old new : State D C) where
  asks_by : (result : Result Reply Stop) → IfOk result (λ reply. Serves shown readings faults q reply old new)
      → ((count : ℕ) → (result ≡ Err (Stopped count)) ↔ (old.stopped ≡ Some count)) → (result ≡ Err DeviceFault → Stops shown readings faults q old new)
      → (result ≡ Err ClockFault → IsVerdict old.limit old.history q Fresh × MissesTime shown readings faults old new)
      → (result ≡ Err OutOfMemory → IsVerdict old.limit old.history q Fresh × LeavesAll shown old new)
      → ((count : ℕ) → result ≡ Err (Stopped count) → LeavesAll shown old new) → AsksBy shown readings faults old q (answer_of result) new
  asks_by (Ok reply) served stopped device clock memory left = served
  asks_by (Err (Stopped count)) served stopped device clock memory left = (count, (stopped count).0 refl, left count refl)
  asks_by (Err DeviceFault) served stopped device clock memory left = device refl
  asks_by (Err ClockFault) served stopped device clock memory left = clock refl
  asks_by (Err OutOfMemory) served stopped device clock memory left = memory refl

  pub asks_of : (result : Result Reply Stop) → IfOk result (λ reply. Serves shown readings faults q reply old new)
      → ((count : ℕ) → (result ≡ Err (Stopped count)) ↔ (old.stopped ≡ Some count)) → (result ≡ Err DeviceFault → Stops shown readings faults q old new)
      → (result ≡ Err ClockFault → IsVerdict old.limit old.history q Fresh × MissesTime shown readings faults old new)
      → (result ≡ Err OutOfMemory → IsVerdict old.limit old.history q Fresh × LeavesAll shown old new)
      → ((count : ℕ) → result ≡ Err (Stopped count) → LeavesAll shown old new)
      → (old.stopped ≡ None → IsSafe (shown old.disk).moment old.history (recorded_at old.history q old.offset new.reading)
      (store_receipts (shown new.disk).moment result) (shown old.disk) (shown new.disk))
      → (answer : Result Reply DeskFail) → answer ≡ answer_of result → Asks shown readings faults old q answer new
  asks_of result served stopped device clock memory left safe answer is = subst (λ (r : Result Reply DeskFail). Asks shown readings faults old q r new) (sym is) (record {
    answered = asks_by result served stopped device clock memory left;
    safe = λ running. subst (λ (receipts : List Receipted). IsSafe (shown old.disk).moment old.history (recorded_at old.history q old.offset new.reading)
        receipts (shown old.disk) (shown new.disk)) (sym (same_receipts (shown new.disk).moment result)) (safe running);
  })

-- the desk's answer to an extraction, by its store's
abbrev pub extract_answer : Result ℕ ExtractFail → Result (Unit {0}) DeskFail
extract_answer (Ok size) = Ok tt
extract_answer (Err why) = Err (extract_fail why)

-- of an extraction that was cut, what was due
record Cut (site : Site) (h : List Entry) (line seq from to minute : ℕ) (Told : Type 0) (put : List ℕ) : Type 0 where
  due : Extracted
  front : due.front ≡ length h
  made : Told → IsExtractOf site h from to minute due.size due.afd
  cut : IsStrictFront put (extract_bytes line seq due)

cut_of : (site : Site) (h : List Entry) (line seq from to minute : ℕ) (why : ExtractFail) (o : Option (List ℕ)) (put : List ℕ)
    → IsPutOfLines site h (Some (record { line = line; seq = seq })) from to minute put (Err why)
    → (IsSome o → IsPutOf site h (Some (record { line = line; seq = seq })) from to minute put (Err why)) → Cut site h line seq from to minute (IsSome o) put
cut_of site h line seq from to minute why None put lines told = record {
  due = record { size = lines.size; front = length h; afd = file_text lines.head lines.lines (counts_of_lines lines.lines) };
  front = refl;
  made = λ some. absurd cc;
  cut = lines.is_put;
}
cut_of site h line seq from to minute why (Some bytes) put lines told =
    let t = told refl in
    let d = t.2 in
    record {
      due = record { size = length d.afd; front = length h; afd = d.afd };
      front = refl;
      made = λ some. (d.is_afd, refl);
      cut = subst (IsStrictFront put) d.text t.3;
    }

module _ {D C : Type 0} (shown : D → Shown) (readings : C → Option (List ℕ)) (faults : C → ℕ) (line seq from to : ℕ) (old new : State D C) (was now : Option (List ℕ)) where
  made_wholly : (size : ℕ) → StoreExtracts shown readings faults (Some (record { line = line; seq = seq })) from to old new was now (Ok size)
      → (shown new.disk).faults ≡ (shown old.disk).faults
      → (old.stopped ≡ None → IsSafe (shown old.disk).moment old.history old.history [] (shown old.disk) (shown new.disk))
      → PutsExtract (Files shown readings faults) line seq from to old new was now (Ok tt)
  made_wholly size e unfailed safe =
      let l = e.of_lines in
      let afd = file_text l.head l.lines (counts_of_lines l.lines) in
      let sized : (then : ℕ) (whole : List ℕ) → IsAfdOf old.site old.history from to then whole → l.size ≡ length whole = l.is_size refl in
      record {
        due = record { size = l.size; front = length old.history; afd = afd };
        step = record {
          answered = record {
            takes = record { running = e.running; kept = e.kept; minute = e.minute; clock = e.clock; no_fault = λ _. unfailed };
            front = refl;
            made = record {
              range = l.range;
              period = l.period;
              head = l.head;
              headed = l.headed;
              lines = l.lines;
              as_many = l.as_many;
              text = refl;
              size_is = sized;
              told = λ told.
                  let d = e.is_put told in
                  let same : l.size ≡ length d.afd = sized e.minute d.afd d.is_afd in
                  let both : extract_text line seq (length d.afd) (length old.history) ++ afd ≡ extract_text line seq (length d.afd) (length old.history) ++ d.afd =
                  ap (λ (n : ℕ). extract_text line seq n (length old.history) ++ afd) (sym same) ∙ sym l.is_put.0 ∙ d.text in
                  let is : afd ≡ d.afd = append_cancel_left (extract_text line seq (length d.afd) (length old.history)) afd d.afd both in
                  (subst (IsAfdOf old.site old.history from to e.minute) (sym is) d.is_afd, same ∙ ap length (sym is));
            };
          };
          safe = safe;
        };
        put = e.put;
        appended = e.appended;
        is_put = l.is_put.0;
        nothing = tt;
      }

  pub extracts_of : (result : Result ℕ ExtractFail)
      → IfOk result (λ size. StoreExtracts shown readings faults (Some (record { line = line; seq = seq })) from to old new was now result)
      → ((count : ℕ) → (result ≡ Err (extract.Stopped count)) ↔ (old.stopped ≡ Some count))
      → ((count : ℕ) → result ≡ Err (extract.Stopped count) → LeavesAll shown old new × (now ≡ was))
      → (result ≡ Err extract.ClockFault → MissesTime shown readings faults old new × (now ≡ was))
      → (result ≡ Err extract.SinkFault → StoreExtracts shown readings faults (Some (record { line = line; seq = seq })) from to old new was now result)
      → (result ≡ Err extract.DeviceFault → StoreExtracts shown readings faults (Some (record { line = line; seq = seq })) from to old new was now result
      × Rose (shown old.disk).faults (shown new.disk).faults)
      → (result ≢ Err extract.DeviceFault → (shown new.disk).faults ≡ (shown old.disk).faults)
      → (old.stopped ≡ None → IsSafe (shown old.disk).moment old.history old.history [] (shown old.disk) (shown new.disk))
      → PutsExtract (Files shown readings faults) line seq from to old new was now (extract_answer result)
  extracts_of (Ok size) made stopped left clock sink device unfailed safe = made_wholly size made (unfailed (λ failed. absurd cc)) safe
  extracts_of (Err (extract.Stopped count)) made stopped left clock sink device unfailed safe =
      let l = left count refl in
      subst (λ (o : Option (List ℕ)). PutsExtract (Files shown readings faults) line seq from to old new was o (Err fail.Stopped)) (sym l.1)
      (puts_nothing (Files shown readings faults) line seq from to old new was (record { size = 0; front = 0; afd = [] }) fail.Stopped
      (record { answered = (count, (stopped count).0 refl, l.0); safe = safe }))
  extracts_of (Err extract.ClockFault) made stopped left clock sink device unfailed safe =
      let l = clock refl in
      subst (λ (o : Option (List ℕ)). PutsExtract (Files shown readings faults) line seq from to old new was o (Err fail.ClockFault)) (sym l.1)
      (puts_nothing (Files shown readings faults) line seq from to old new was (record { size = 0; front = 0; afd = [] }) fail.ClockFault
      (record { answered = l.0; safe = safe }))
  extracts_of (Err extract.SinkFault) made stopped left clock sink device unfailed safe =
      let e = sink refl in
      let c = cut_of old.site old.history line seq from to e.minute extract.SinkFault (shown old.disk).contents e.put e.of_lines e.is_put in
      record {
        due = c.due;
        step = record {
          answered = record { takes = record { running = e.running; kept = e.kept; minute = e.minute; clock = e.clock; no_fault = λ _. unfailed (λ failed. absurd cc) }; front = c.front; made = c.made };
          safe = safe;
        };
        put = e.put;
        appended = e.appended;
        is_put = c.cut;
        nothing = λ other device_. absurd (other refl);
      }
  extracts_of (Err extract.DeviceFault) made stopped left clock sink device unfailed safe =
      let d = device refl in
      let e = d.0 in
      let c = cut_of old.site old.history line seq from to e.minute extract.DeviceFault (shown old.disk).contents e.put e.of_lines e.is_put in
      record {
        due = c.due;
        step = record {
          answered = (record { takes = record { running = e.running; kept = e.kept; minute = e.minute; clock = e.clock; no_fault = λ never. absurd cc }; front = c.front; made = c.made }, d.1);
          safe = safe;
        };
        put = e.put;
        appended = e.appended;
        is_put = c.cut;
        nothing = λ sink_ other. absurd (other refl);
      }

-- a store that goes on, of this site, whose disk tells its contents if that of the start does
pub record IsOpen {D C : Type 0} (shown : D → Shown) (Told : Type 0) (site : Site) (s : State D C) : Type 0 where
  pub running : s.stopped ≡ None
  pub of_site : s.site ≡ site
  pub limit : s.limit ≡ site.last_nsr
  pub offset : s.offset ≡ site.offset
  pub told : Told → IsSome (shown s.disk).contents

-- the steps of a store as a desk
abbrev pub store_steps : {D C : Type 0} → (D → Shown) → (C → Option (List ℕ)) → (C → ℕ) → Steps (State D C)
store_steps shown readings faults = steps_of (Asks shown readings faults) (Files shown readings faults) Shows

-- it serves over its history
module _ {D C : Type 0} (shown : D → Shown) (readings : C → Option (List ℕ)) (faults : C → ℕ) (Told : Type 0) (site : Site) where
  serves_by : (old new : State D C) (q : Request) (reply : Reply) → IsOpen shown Told site old → Serves shown readings faults q reply old new
      → IsOpen shown Told site new × ((given : List ℕ) × (readings new.clock ≡ append_known (readings old.clock) given)
      × ServesRequest (rules_of site.last_nsr site.offset (IsExtraction Told site)) old.history q given reply new.history)
  serves_by old new q reply holds serves = elim serves.served [
    | inl t ↦
        let takes = t.1.takes in
        let history : new.history ≡ recorded_after old.history q (moment_at takes.minute site.offset) =
        t.1.history ∙ ap (λ (r : Option ℕ). recorded_at old.history q old.offset r) takes.reading ∙ ap (λ (o : ℤ). recorded_after old.history q (moment_at takes.minute o)) holds.offset in (
          record {
            running = t.1.running;
            of_site = takes.site ∙ holds.of_site;
            limit = takes.limit ∙ holds.limit;
            offset = takes.offset ∙ holds.offset;
            told = λ told. told_on (λ _ bytes. IsLedgerOf bytes new.history) (shown old.disk).contents (shown new.disk).contents t.1.contents (holds.told told);
          },
          (
            takes.minute ∷ [],
            takes.clock.given,
            record {
              recording = (subst (λ (n : ℕ). IsVerdict n old.history q Fresh) holds.limit t.0, takes.clock.in_range, history);
              replies = subst (λ (n : ℕ). IsReply n new.history q reply) holds.limit serves.answered;
            },
          ),
        )
    | inr t ↦
        let kept = t.1.kept in (
          record {
            running = kept.stopped ∙ holds.running;
            of_site = kept.site ∙ holds.of_site;
            limit = kept.limit ∙ holds.limit;
            offset = kept.offset ∙ holds.offset;
            told = λ told. subst IsSome (sym kept.disk.contents) (holds.told told);
          },
          (
            [],
            ap readings t.1.clock ∙ sym (append_known-nil (readings old.clock)),
            record {
              recording = (λ fresh. t.0 (subst (λ (n : ℕ). IsVerdict n old.history q Fresh) (sym holds.limit) fresh), kept.history);
              replies = subst (λ (n : ℕ). IsReply n new.history q reply) holds.limit serves.answered;
            },
          ),
        )
  ]

  -- an extraction of a store of the site is one of the site
  of_the_site : (s : State D C) (from to minute : ℕ) (x : Extracted) → IsOpen shown Told site s
      → IsExtraction (IsSome (shown s.disk).contents) s.site s.history from to minute x.size x.afd → IsExtraction Told site s.history from to minute x.size x.afd
  of_the_site s from to minute x holds made =
      let m : IsExtraction (IsSome (shown s.disk).contents) site s.history from to minute x.size x.afd =
      subst (λ (t : Site). IsExtraction (IsSome (shown s.disk).contents) t s.history from to minute x.size x.afd) holds.of_site made in
      record {
        range = m.range;
        period = m.period;
        head = m.head;
        headed = m.headed;
        lines = m.lines;
        as_many = m.as_many;
        text = m.text;
        size_is = m.size_is;
        told = λ told. m.told (holds.told told);
      }

  extracts_by : (old new : State D C) (from to : ℕ) (x : Extracted) → IsOpen shown Told site old → Extracts shown readings faults old from to x new
      → IsOpen shown Told site new × ((given : List ℕ) × (readings new.clock ≡ append_known (readings old.clock) given)
      × ServesPeriod (rules_of site.last_nsr site.offset (IsExtraction Told site)) old.history from to given x new.history)
  extracts_by old new from to x holds made =
      let takes = made.takes in
      let kept = takes.kept in (
        record {
          running = kept.stopped ∙ holds.running;
          of_site = kept.site ∙ holds.of_site;
          limit = kept.limit ∙ holds.limit;
          offset = kept.offset ∙ holds.offset;
          told = λ told. subst IsSome (sym kept.disk.contents) (holds.told told);
        },
        (
          takes.minute ∷ [],
          takes.clock.given,
          record {
            minute = takes.minute;
            is_reading = takes.clock.in_range;
            one_reading = refl;
            front = made.front;
            written = of_the_site old from to takes.minute x holds made.made;
            same = kept.history;
          },
        ),
      )

  pub store_serves : IsServing {Q = State D C} (store_steps shown readings faults) (rules_of site.last_nsr site.offset (IsExtraction Told site))
      (λ (s : State D C). s.history) (λ (s : State D C). readings s.clock) (IsOpen shown Told site)
  store_serves = record {
    serves = λ old new q reply holds asked. serves_by old new q reply holds asked.answered;
    extracts = λ old new from to x holds done. extracts_by old new from to x holds done.answered;
    looks = λ old new front holds shown_. (
      subst (λ (s : State D C). IsOpen shown Told site s) (sym shown_.1) holds,
      shown_.0,
      ap (λ (s : State D C). s.history) shown_.1,
      ap (λ (s : State D C). readings s.clock) shown_.1,
    );
  }
