-- what the recorder's calls leave, by the history that its core stands for
use Rattle.std.proofs.Common.{◌≡◌, ◌≢◌, ◌<◌, ◌≤◌, ◌↔◌, ℕ, ℤ, List, [], ◌∷◌, length, Option, Ok, Err, refl, sym, ap, subst, ◌∙◌, append-nil, length-append, None, Some, is_some, true, false, arith}
use Rattle.std.specs.Io.KnownBytes.{append_known}
use Rattle.rep_io.specs.Causes.{Rose}
use Rattle.rep_io.specs.Streams.{IsReading}
use Rattle.rep_fields.specs.Moment.{Moment, moment_at}
use Rattle.afd_records.specs.File.{file_text, counts_of}
use Rattle.afd_records.specs.Record.{last_nsr}
use Rattle.afd_records.specs.declared.header.Head.{Head}
use Rattle.rep_wire.specs.declared.request.Request.{Request}
use Rattle.rep_wire.specs.declared.request.Entry.{Entry}
use Rattle.rep_wire.specs.declared.reply.Reply.{Reply}
use Rattle.rep_core.specs.Chained.{history_lines}
use Rattle.rep_core.specs.History.{bodies_of}
use Rattle.rep_core.specs.Core.{Kept, Stands}
use Rattle.rep_core.specs.Verdict.{IsVerdict}
use Rattle.rep_core.specs.Answered.{recorded_after, IsReply}
use Rattle.rep_core.specs.declared.verdict.Verdict.{Verdict}
use Rattle.rep_core.specs.declared.verdict.Verdict.TheVariants.{Fresh}
use Rattle.rep_core.specs.Lookup.{FindsEmployer}
use Rattle.rep_core.proofs.Standing.{Stands-own, entries_of}
use Rattle.rep_core.proofs.Verdicts.{IsVerdict-unique}
use Rattle.rep_wire.specs.Reply.{extract_text}
use Rattle.rep_lane.specs.Answers.{Extracted, extract_bytes}
use Rattle.rep_lane.specs.Desk.{PutsExtract}
use Rattle.rep_lane.specs.declared.desk.DeskFail.{DeskFail}
use Rattle.rep_lane.specs.declared.desk.DeskFail.TheVariants.{SinkFault, DeviceFault}
use Rattle.rep_ledger.specs.Ledger.{frames_of}
use Rattle.rep_print.specs.Desk.{State, Served, Untimed, Takes, MissesTime, Extracts}
use Rattle.rep_print.specs.Afd.{IsAskedHead}
use Rattle.rep_print.specs.Extraction.{IsExtraction}
use Rattle.rep_print.specs.FileSteps.{PutsAll, led_text}
use Rattle.rep_print.specs.Fields.{IsWhole}
use Rattle.rep_print.specs.Journal.{KeptFrames}
use Rattle.rep_print.specs.Writing.{HasEmployer}
use Rattle.rep_print.proofs.FileLemmas.{no_employer}
use Rattle.rep_print.proofs.KeepLemmas.{same_entries}

-- the parts belong together still, where only room was taken
pub whole-reserved : (old new : Kept) (before after : KeptFrames) (zone : ℤ) → ((h : List Entry) → Stands old h ↔ Stands new h) → new.limit ≡ old.limit
    → after.frames ≡ before.frames → IsWhole old before zone → IsWhole new after zone
whole-reserved old new before after zone same limit frames whole = record {
  limit = limit ∙ whole.limit;
  offset = whole.offset;
  frames = frames ∙ whole.frames ∙ ap (λ (h : List Entry). frames_of h) (sym (same_entries old new same));
}

-- a verdict under an equal limit, over an equal history
pub verdict_at : (limit other : ℕ) (h d : List Entry) (q : Request) (v : Verdict) → IsVerdict limit h q v → limit ≡ other → h ≡ d → IsVerdict other d q v
verdict_at limit other h d q v is limits histories =
    subst (λ (n : ℕ). IsVerdict n d q v) limits (subst (λ (x : List Entry). IsVerdict limit x q v) histories is)

append_known-nil : (o : Option (List ℕ)) → append_known o [] ≡ o
append_known-nil None = refl
append_known-nil (Some z) = ap Some (append-nil z)

module _ {C : Type 0} (readings : C → Option (List ℕ)) (faults : C → ℕ) (q : Request) where
  -- a request that isn't to be recorded was answered
  pub settled : (state : State C) (core : Kept) (verdict : Verdict) (reply : Reply) → core.entries ≡ state.history → core.limit ≡ last_nsr
      → ((h : List Entry) → Stands core h → IsVerdict core.limit h q verdict) → (verdict ≡ Fresh → ⊥) → ((h : List Entry) → Stands core h → IsReply core.limit h q reply)
      → Served readings faults state q reply state
  settled state core verdict reply history limit decided other replied =
      let decided_here = verdict_at core.limit last_nsr core.entries state.history q verdict (decided core.entries (Stands-own core)) limit history in
      record {
        given = [];
        readings_are = sym (append_known-nil (readings state.clock));
        serves = record {
          recording = ((λ fresh. other (IsVerdict-unique last_nsr state.history q verdict Fresh decided_here fresh)), refl);
          replies = subst (λ (n : ℕ). IsReply n state.history q reply) limit
              (subst (λ (h : List Entry). IsReply core.limit h q reply) history (replied core.entries (Stands-own core)));
        };
        zone = refl;
        kept = refl;
      }

  -- a request was recorded at a reading of the clock
  pub taken : (state : State C) (core room new : Kept) (clock now : C) (zone : ℤ) (minute : ℕ) (stamp : Moment) (reply : Reply)
      → record { history = core.entries; clock = clock; zone = zone } ≡ state → core.limit ≡ last_nsr
      → IsVerdict last_nsr state.history q Fresh → ((h : List Entry) → Stands core h ↔ Stands room h) → room.limit ≡ core.limit
      → IsReading minute → readings now ≡ append_known (readings clock) (minute ∷ []) → faults now ≡ faults clock → stamp ≡ moment_at minute zone
      → ((h : List Entry) → Stands room h → Stands new (recorded_after h q stamp)) → new.limit ≡ room.limit
      → ((h : List Entry) → Stands new h → IsReply new.limit h q reply)
      → Served readings faults state q reply (record { history = new.entries; clock = now; zone = zone })
  taken state core room new clock now zone minute stamp reply is limit fresh same room_limit is_reading tick later stamped recorded new_limit replied =
      let history : core.entries ≡ state.history = ap (λ (s : State C). s.history) is in
      let entries : room.entries ≡ state.history = same_entries core room same ∙ history in
      let zones : zone ≡ state.zone = ap (λ (s : State C). s.zone) is in
      let limits : new.limit ≡ last_nsr = new_limit ∙ room_limit ∙ limit in
      record {
        given = minute ∷ [];
        readings_are = tick ∙ ap (λ (s : State C). append_known (readings s.clock) (minute ∷ [])) is;
        serves = record {
          recording = (
            fresh,
            is_reading,
            entries_of new (recorded_after room.entries q stamp) (recorded room.entries (Stands-own room))
                ∙ ap (λ (h : List Entry). recorded_after h q stamp) entries
                ∙ ap (λ (m : Moment). recorded_after state.history q m) stamped
                ∙ ap (λ (z : ℤ). recorded_after state.history q (moment_at minute z)) zones,
          );
          replies = subst (λ (n : ℕ). IsReply n new.entries q reply) limits (replied new.entries (Stands-own new));
        };
        zone = zones;
        kept = subst (λ (s : State C). faults now ≡ faults s.clock) is later;
      }

  -- the clock failed before a request was recorded
  pub untimed : (state : State C) (core room : Kept) (clock now : C) (zone : ℤ)
      → record { history = core.entries; clock = clock; zone = zone } ≡ state
      → IsVerdict last_nsr state.history q Fresh → ((h : List Entry) → Stands core h ↔ Stands room h)
      → readings now ≡ readings clock → faults clock ≤ faults now → Rose (faults clock) (faults now)
      → Untimed readings faults state q (record { history = room.entries; clock = now; zone = zone })
  untimed state core room clock now zone is fresh same none later cause = record {
    fresh = fresh;
    history = same_entries core room same ∙ ap (λ (s : State C). s.history) is;
    zone = ap (λ (s : State C). s.zone) is;
    readings_are = none ∙ ap (λ (s : State C). readings s.clock) is;
    later = subst (λ (s : State C). faults s.clock ≤ faults now) is later;
    cause = subst (λ (s : State C). Rose (faults s.clock) (faults now)) is cause;
  }

-- an extraction

-- what is due by a reading of the clock
abbrev pub due_by : ℕ → List ℕ → Extracted
due_by front text = record { size = length text; front = front; afd = text }

pub due_of : (zone : ℤ) (h : List Entry) (from to minute : ℕ) (head : Head) (text : List ℕ) → IsAskedHead zone h from to minute head
    → text ≡ file_text head (history_lines h) (counts_of (bodies_of h)) → IsExtraction zone h from to minute (length text) text
due_of zone h from to minute head text headed is = record {
  asked = record { head = head; headed = headed; text = is };
  sized = refl;
}

module _ {C : Type 0} (readings : C → Option (List ℕ)) (faults : C → ℕ) (from to : ℕ) (state : State C) (h : List Entry) (clock now : C) (zone : ℤ)
    (is : record { history = h; clock = clock; zone = zone } ≡ state) where
  abbrev pub ticked : State C
  ticked = record { history = h; clock = now; zone = zone }

  pub takes_of : (minute front : ℕ) (text : List ℕ) → IsReading minute → readings now ≡ append_known (readings clock) (minute ∷ []) → faults now ≡ faults clock
      → front ≡ length h → IsExtraction zone h from to minute (length text) text → Takes readings faults state from to (due_by front text) ticked
  takes_of minute front text is_reading tick later count is_due = record {
    minute = minute;
    is_reading = is_reading;
    readings_are = tick ∙ ap (λ (s : State C). append_known (readings s.clock) (minute ∷ [])) is;
    history = ap (λ (s : State C). s.history) is;
    zone = ap (λ (s : State C). s.zone) is;
    kept = subst (λ (s : State C). faults now ≡ faults s.clock) is later;
    front = count ∙ ap (λ (s : State C). length s.history) is;
    is_due = subst (λ (s : State C). IsExtraction s.zone s.history from to minute (length text) text) is is_due;
  }

  -- the clock failed
  pub missed : readings now ≡ readings clock → faults clock ≤ faults now → Rose (faults clock) (faults now) → MissesTime readings faults state ticked
  missed none later cause = record {
    history = ap (λ (s : State C). s.history) is;
    zone = ap (λ (s : State C). s.zone) is;
    readings_are = none ∙ ap (λ (s : State C). readings s.clock) is;
    later = subst (λ (s : State C). faults s.clock ≤ faults now) is later;
    cause = subst (λ (s : State C). Rose (faults s.clock) (faults now)) is cause;
  }

-- the line of an extraction isn't empty
some_line : (line seq size front : ℕ) → 0 < length (extract_text line seq size front)
unfolding extract_text
some_line line seq size front = omega arith

-- nothing of an extraction was put
pub nothing_put : {C : Type 0} (readings : C → Option (List ℕ)) (faults : C → ℕ) (line seq from to : ℕ) (old new : State C) (was : Option (List ℕ)) (why : DeskFail)
    → why ≢ SinkFault → why ≢ DeviceFault → Extracts readings faults old from to (due_by 0 []) (Err why) new
    → PutsExtract (Extracts readings faults) line seq from to old new was was (Err why)
nothing_put readings faults line seq from to old new was why sink device step =
    let text = extract_bytes line seq (due_by 0 []) in
    record {
      due = due_by 0 [];
      step = step;
      put = [];
      appended = sym (append_known-nil was);
      is_put = (text, (λ none. (let some = some_line line seq 0 0 in let size = length-append (extract_text line seq 0 0) [] in let nothing : length text ≡ 0 = ap length none in omega arith)), refl);
      nothing = λ one two. refl;
    }

-- an extraction was put, or a front of it
module _ {C E : Type 0} (readings : C → Option (List ℕ)) (faults : C → ℕ) (line seq from to : ℕ) (old new : State C) (was now : Option (List ℕ)) (front : ℕ) (text : List ℕ)
    (takes : Takes readings faults old from to (due_by front text) new) where
  pub put_all_of : (v : Unit {0}) → PutsAll {E = E} was now (led_text line seq front text) (Ok v)
      → PutsExtract (Extracts readings faults) line seq from to old new was now (Ok tt)
  put_all_of v puts = record { due = due_by front text; step = takes; put = puts.put; appended = puts.appended; is_put = puts.is_put; nothing = tt }

  pub put_front_of : (e : E) → PutsAll {T = Unit {0}} was now (led_text line seq front text) (Err e)
      → PutsExtract (Extracts readings faults) line seq from to old new was now (Err SinkFault)
  put_front_of e puts =
      record { due = due_by front text; step = takes; put = puts.put; appended = puts.appended; is_put = puts.is_put; nothing = λ sink device. absurd (sink refl) }

-- whether there is an employer's record, by the search for it
pub has_by : (found : Option ℕ) (h : List Entry) → is_some found ≡ true → FindsEmployer h found → HasEmployer h
has_by None h some finds = absurd cc
has_by (Some nsr) h some finds = (nsr, finds.0, finds.1)

pub lacks_by : (found : Option ℕ) (h d : List Entry) → is_some found ≡ false → FindsEmployer h found → h ≡ d → HasEmployer d → ⊥
lacks_by None h d none finds same has = no_employer h finds (subst HasEmployer (sym same) has)
lacks_by (Some nsr) h d none finds same has = absurd cc
