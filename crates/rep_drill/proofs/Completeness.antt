-- where each line can be played, none is refused
use Rattle.std.proofs.Common.{◌≡◌, ℕ, ◌+◌, ◌<◌, ◌≤◌, ◌⊎◌, inl, inr, List, [], ◌∷◌, ◌++◌, length, Option, refl, sym, ap, subst, ◌∙◌, length-append, arith}
use Rattle.std.specs.Prelude.{Bool, true, false}
use Rattle.rep_io.specs.Causes.{Rose}
use Rattle.rep_io.specs.Lines.{longest_line, longest_text}
use Rattle.rep_io.specs.Cutter.{Cutter}
use Rattle.rep_lane.specs.LaneText.{HasRead}
use Rattle.rep_wire.specs.Fields.{fields_of}
use Rattle.rep_wire.specs.declared.request.Request.{Request}
use Rattle.rep_world.specs.World.{World}
use Rattle.rep_world.specs.Events.{Delivers, DeliversSettled, CrashesAtCall, ExtractsAt, FailsAtCall, Happens, IsUnsent, NamesUnsent, Opens, StaysIdle, WhileUp}
use Rattle.rep_world.specs.declared.event.Event.{Event}
use Rattle.rep_world.specs.declared.event.Event.TheVariants.{Send, Deliver, Fail, Crash, Rest, Reopen, Extract}
use Rattle.rep_world.specs.declared.event.Seen.{Seen}
use Rattle.rep_drill.specs.Playing.{CanPlay, CanPlayLines, DrillsOver, EndsSchedule, IsAmong, IsRefusedLine, NamesOnly, PlaysLines, SaysCounts, TellsCounts, sent_after, status_of}
use Rattle.rep_drill.specs.declared.ending.DrillEnding.{DrillEnding}
use Rattle.rep_drill.specs.declared.ending.DrillEnding.TheVariants.{AllPlayed, SomeRefused, Refused, SourceFault, SinkFault, OutOfMemory, InputLimit}
use Rattle.rep_drill.proofs.Events.{one_event}

-- one of the two holds, up or down
while_up : (up : Bool) (Up Down : Type 0) → WhileUp up Up Down → Up ⊎ Down
while_up true Up Down is = inl is
while_up false Up Down is = inr is

-- worlds of the same messages
idle : (old new : World) (seen : Seen) → StaysIdle old new seen → length new.sent ≡ length old.sent
idle old new seen i = ap (λ (w : World). length w.sent) i.same

settled : (k minute : ℕ) (old new : World) (seen : Seen) → DeliversSettled k minute old new seen → length new.sent ≡ length old.sent
settled k minute old new seen d = ap (length {A = Request}) d.delivers.serves.people.sent

-- how many messages were sent after an event
sent_by : (event : Event) (old new : World) (seen : Seen) → Happens event old new seen → length new.sent ≡ sent_after (length old.sent) event
sent_by (Send request) old new seen happens =
    let longer : length (old.sent ++ request ∷ []) ≡ length old.sent + 1 = length-append old.sent (request ∷ []) in
    let added : length new.sent ≡ length (old.sent ++ request ∷ []) = ap (λ (w : World). length w.sent) happens.added in
    omega arith
sent_by (Deliver k minute lost) old new seen happens =
    elim (while_up old.up (Delivers k minute lost old new seen) (StaysIdle old new seen) happens) [
      | inl d ↦ ap (length {A = Request}) d.serves.people.sent
      | inr i ↦ idle old new seen i
    ]
sent_by (Fail k minute call) old new seen happens =
    elim (while_up old.up (FailsAtCall k minute call old new seen ⊎ DeliversSettled k minute old new seen) (StaysIdle old new seen) happens) [
      | inl (inl f) ↦ ap (length {A = Request}) f.down.people.sent
      | inl (inr d) ↦ settled k minute old new seen d
      | inr i ↦ idle old new seen i
    ]
sent_by (Crash k minute call image) old new seen happens =
    elim (while_up old.up (CrashesAtCall k minute call image old new seen ⊎ DeliversSettled k minute old new seen) (StaysIdle old new seen) happens) [
      | inl (inl f) ↦ ap (length {A = Request}) f.down.people.sent
      | inl (inr d) ↦ settled k minute old new seen d
      | inr i ↦ idle old new seen i
    ]
sent_by (Rest image) old new seen happens = ap (length {A = Request}) happens.down.people.sent
sent_by Reopen old new seen happens =
    elim (while_up old.up (StaysIdle old new seen) (Opens old new seen) happens) [
      | inl i ↦ idle old new seen i
      | inr o ↦ ap (length {A = Request}) o.people.sent
    ]
sent_by (Extract from to minute) old new seen happens =
    elim (while_up old.up (ExtractsAt from to minute old new seen) (StaysIdle old new seen) happens) [
      | inl x ↦ ap (λ (w : World). length w.sent) x.same
      | inr i ↦ idle old new seen i
    ]

-- a message among those that were sent isn't unsent
among : (sent : List Request) (k : ℕ) → IsAmong (length sent) k → IsUnsent sent k → ⊥
among sent k is (inl none) = let least : 1 ≤ k = is.0 in omega arith
among sent k is (inr past) = let most : k ≤ length sent = is.1 in let past : length sent < k = past in omega arith

names_sent : (event : Event) (w : World) → NamesOnly (length w.sent) event → NamesUnsent event w → ⊥
names_sent (Send request) w only unsent = unsent
names_sent (Deliver k minute lost) w only unsent = among w.sent k only unsent
names_sent (Fail k minute call) w only unsent = among w.sent k only unsent
names_sent (Crash k minute call image) w only unsent = among w.sent k only unsent
names_sent (Rest image) w only unsent = unsent
names_sent Reopen w only unsent = unsent
names_sent (Extract from to minute) w only unsent = unsent

-- a line that can be played isn't refused
not_refused : (w : World) (line : List ℕ) (lines : List (List ℕ)) → CanPlayLines (length w.sent) (line ∷ lines) → IsRefusedLine w line → ⊥
not_refused w line lines can (inl long) = let short : length line ≤ longest_line = can.2 in let long : longest_line < length line = long in omega arith
not_refused w line lines can (inr (inl none)) = none can.0 can.1
not_refused w line lines can (inr (inr unsent)) =
    let same : can.0 ≡ unsent.0 = one_event (fields_of line) can.0 unsent.0 can.1 unsent.1 in
    names_sent unsent.0 w (subst (NamesOnly (length w.sent)) same can.3) unsent.2

-- once lines were played, those that are left can be
left_playable : (first : World) (sent : ℕ) (lines rest : List (List ℕ)) (seen : List Seen) (last : World) → PlaysLines first lines seen last → length first.sent ≡ sent
    → CanPlayLines sent (lines ++ rest) → CanPlayLines (length last.sent) rest
left_playable first sent [] rest [] last plays is can =
    subst (λ (n : ℕ). CanPlayLines n rest) (sym is ∙ ap (λ (w : World). length w.sent) (sym plays)) can
left_playable first sent (line ∷ lines) rest (one ∷ seen) last plays is can =
    let p = plays.1 in
    let same : p.event ≡ can.0 = one_event (fields_of line) p.event can.0 p.says can.1 in
    let counted : length plays.0.sent ≡ sent_after sent can.0 =
    sent_by p.event first plays.0 one p.steps.happens ∙ ap (λ (n : ℕ). sent_after n p.event) is ∙ ap (sent_after sent) same in
    left_playable plays.0 (sent_after sent can.0) lines rest seen last plays.2 counted can.4
left_playable first sent [] rest (one ∷ seen) last plays is can = absurd plays
left_playable first sent (line ∷ lines) rest [] last plays is can = absurd plays

-- the statuses of a drill of lines that can be played
abbrev pub IsFair : ℕ → Type 0
IsFair status = (status ≡ 0) ⊎ (status ≡ 1) ⊎ (status ≡ 8) ⊎ (status ≡ 4) ⊎ (status ≡ 5)

ends_fairly : (text : List ℕ) (played : ℕ) (rest : List (List ℕ)) (w : World) (ended : DrillEnding) → length text ≤ longest_text → CanPlayLines (length w.sent) rest
    → EndsSchedule text played rest w ended → IsFair (status_of ended)
ends_fairly text played rest w AllPlayed short can ends = inl refl
ends_fairly text played rest w SomeRefused short can ends = inr (inl refl)
ends_fairly text played rest w (Refused line) short can ends =
    let x = ends.1 in
    absurd (not_refused w x.0 x.1 (subst (CanPlayLines (length w.sent)) x.2 can) x.3)
ends_fairly text played rest w SourceFault short can ends = inr (inr (inr (inl refl)))
ends_fairly text played rest w SinkFault short can ends = inr (inr (inr (inr refl)))
ends_fairly text played rest w OutOfMemory short can ends = inr (inr (inl refl))
ends_fairly text played rest w InputLimit short can ends = let long : longest_text < length text = ends.0 in absurd (omega arith)

-- what is told at the counts is the ending, a fault of the output or want of memory
counts_fairly : (events : ℕ) (w : World) (ended told : DrillEnding) (put : List ℕ) (Failed : Type 0) → TellsCounts events w ended put Failed told → IsFair (status_of ended)
    → IsFair (status_of told)
counts_fairly events w ended told put Failed (inl (entries, counts, inl t)) fair = subst (λ (e : DrillEnding). IsFair (status_of e)) (sym t.1) fair
counts_fairly events w ended told put Failed (inl (entries, counts, inr t)) fair = inr (inr (inr (inr (ap status_of t.2))))
counts_fairly events w ended told put Failed (inr t) fair = inr (inr (inl (ap status_of t.1)))

told_fairly : (events : ℕ) (w : World) (ended told : DrillEnding) (put : List ℕ) (Failed : Type 0) → SaysCounts events w ended put Failed told → IsFair (status_of ended)
    → IsFair (status_of told)
told_fairly events w AllPlayed told put Failed c fair = counts_fairly events w AllPlayed told put Failed (c.whole tt) fair
told_fairly events w SomeRefused told put Failed c fair = counts_fairly events w SomeRefused told put Failed (c.whole tt) fair
told_fairly events w (Refused line) told put Failed c fair = subst (λ (e : DrillEnding). IsFair (status_of e)) (sym (c.other (λ whole. whole)).1) fair
told_fairly events w SourceFault told put Failed c fair = subst (λ (e : DrillEnding). IsFair (status_of e)) (sym (c.other (λ whole. whole)).1) fair
told_fairly events w SinkFault told put Failed c fair = subst (λ (e : DrillEnding). IsFair (status_of e)) (sym (c.other (λ whole. whole)).1) fair
told_fairly events w OutOfMemory told put Failed c fair = subst (λ (e : DrillEnding). IsFair (status_of e)) (sym (c.other (λ whole. whole)).1) fair
told_fairly events w InputLimit told put Failed c fair = subst (λ (e : DrillEnding). IsFair (status_of e)) (sym (c.other (λ whole. whole)).1) fair

-- where nothing of the outside fails, all are played, unless memory is short
pub completes : {S : Type 0} (left : S → Option (List ℕ)) (lines : Cutter S) (first : World) (out_old out_new : Option (List ℕ)) (before now status : ℕ) (Source Sink : Type 0)
    → DrillsOver left lines first out_old out_new before now status → (status ≡ 4 → Source) → (status ≡ 5 → Sink)
    → (text : List ℕ) → HasRead left lines text [] → first.sent ≡ [] → CanPlay text → (Source → ⊥) → (Sink → ⊥)
    → (status ≡ 0) ⊎ (status ≡ 1) ⊎ (status ≡ 8)
completes left lines first out_old out_new before now status Source Sink d source_fault sink_fault text read none can no_source no_sink =
    let p = d.plays.text text read in
    let playable : CanPlayLines (length d.last.sent) p.rest =
    left_playable first 0 d.plays.lines p.rest d.plays.seen d.last d.plays.plays (ap (length {A = Request}) none) (subst (CanPlayLines 0) p.whole can.lines) in
    let ended : IsFair (status_of d.ended) = ends_fairly text (length d.plays.lines) p.rest d.last d.ended can.short playable p.ends in
    let c = d.concludes in
    let told : IsFair status =
    subst IsFair (sym d.status_is) (told_fairly (length d.plays.lines) d.last d.ended d.told c.put (Rose d.middle c.middle) c.counts ended) in
    elim told [
      | inl is ↦ inl is
      | inr (inl is) ↦ inr (inl is)
      | inr (inr (inl is)) ↦ inr (inr is)
      | inr (inr (inr (inl is))) ↦ absurd (no_source (source_fault is))
      | inr (inr (inr (inr is))) ↦ absurd (no_sink (sink_fault is))
    ]
