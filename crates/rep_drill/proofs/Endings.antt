-- how a drill ends, and what is said then
use Rattle.std.proofs.Common.{◌≡◌, ℕ, ◌<◌, ◌≤◌, ◌⊎◌, inl, inr, List, [], length, take, Option, refl, sym, ap, subst, ◌∙◌, arith}
use Rattle.std.specs.Io.KnownBytes.{append_known}
use Rattle.rep_io.specs.Causes.{Rose}
use Rattle.rep_report.specs.Saying.{SaysLine}
use Rattle.rep_report.proofs.KnownBytes.{append_known-nil, append_known-append}
use Rattle.rep_report.proofs.SayingLemmas.{cut_line, rose-wider}
use Rattle.rep_world.specs.World.{World}
use Rattle.rep_world.specs.Events.{Counts}
use Rattle.rep_drill.specs.Saying.{drill_text}
use Rattle.rep_drill.specs.Playing.{Concludes, DrillsOver, IsWhole, PlaysOut, SaysCounts, SaysIts, TellsCounts, closing_text, status_of}
use Rattle.rep_io.specs.Cutter.{Cutter}
use Rattle.rep_drill.specs.declared.ending.DrillEnding.{DrillEnding}
use Rattle.rep_drill.specs.declared.ending.DrillEnding.TheVariants.{AllPlayed, SomeRefused, Refused, SourceFault, SinkFault, OutOfMemory, InputLimit}

-- no line is said of an ending with which all was played
pub closing-whole : (ended : DrillEnding) → IsWhole ended → closing_text ended ≡ []
closing-whole AllPlayed whole = refl
closing-whole SomeRefused whole = refl
closing-whole (Refused line) whole = absurd whole
closing-whole SourceFault whole = absurd whole
closing-whole SinkFault whole = absurd whole
closing-whole OutOfMemory whole = absurd whole
closing-whole InputLimit whole = absurd whole

pub says_nothing : (line : List ℕ) (out : Option (List ℕ)) (Failed : Type 0) → line ≡ [] → SaysLine line out out Failed
says_nothing line out Failed none = record {
  put = [];
  said = sym (append_known-nil out);
  front = ([], none);
  whole = λ _. sym none;
}

-- where not all was played nothing is counted
pub counts_not : (events : ℕ) (w : World) (ended : DrillEnding) (out : Option (List ℕ)) (Failed : Type 0) → (IsWhole ended → ⊥)
    → SaysIts (SaysCounts events w ended) out out Failed ended
counts_not events w ended out Failed none = record {
  put = [];
  said = sym (append_known-nil out);
  says = record { whole = λ whole. absurd (none whole); other = λ _. (refl, refl) };
}

pub counts_memory : (events : ℕ) (w : World) (ended : DrillEnding) (out : Option (List ℕ)) (Failed : Type 0) → IsWhole ended
    → SaysIts (SaysCounts events w ended) out out Failed OutOfMemory
counts_memory events w ended out Failed is = record {
  put = [];
  said = sym (append_known-nil out);
  says = record { whole = λ whole. inr (refl, refl); other = λ none. absurd (none is) };
}

pub counts_whole : (events entries : ℕ) (w : World) (ended : DrillEnding) (piece : List ℕ) (old new : Option (List ℕ)) (Failed : Type 0) → IsWhole ended
    → Counts w.disk.bytes entries → piece ≡ drill_text events entries → new ≡ append_known old piece
    → SaysIts (SaysCounts events w ended) old new Failed ended
counts_whole events entries w ended piece old new Failed is counts text said = record {
  put = piece;
  said = said;
  says = record { whole = λ whole. inl (entries, counts, inl (text, refl)); other = λ none. absurd (none is) };
}

pub counts_cut : (events entries : ℕ) (w : World) (ended : DrillEnding) (piece : List ℕ) (n : ℕ) (old new : Option (List ℕ)) (Failed : Type 0) → IsWhole ended
    → Counts w.disk.bytes entries → piece ≡ drill_text events entries → n < length piece → new ≡ append_known old (take n piece) → Failed
    → SaysIts (SaysCounts events w ended) old new Failed SinkFault
counts_cut events entries w ended piece n old new Failed is counts text less said failed = record {
  put = take n piece;
  said = said;
  says = record {
    whole = λ whole. inl (entries, counts, inr (cut_line (drill_text events entries) piece n text less, failed, refl));
    other = λ none. absurd (none is);
  };
}

-- the line of the counts, then that of a fault
pub concludes : (events : ℕ) (w : World) (ended : DrillEnding) (old mid new : Option (List ℕ)) (before middle now : ℕ) (told result : DrillEnding)
    → before ≤ middle → middle ≤ now → SaysIts (SaysCounts events w ended) old mid (Rose before middle) told
    → result ≡ told → SaysLine (closing_text told) mid new (Rose middle now)
    → Concludes events w ended old new before now result
concludes events w ended old mid new before middle now told result since until c same l =
    subst (λ (e : DrillEnding). Concludes events w ended old new before now e) (sym same) (record {
      put = c.put;
      closing = l.put;
      said = l.said ∙ ap (λ (o : Option (List ℕ)). append_known o l.put) c.said ∙ append_known-append old c.put l.put;
      middle = middle;
      since = since;
      until = until;
      counts = c.says;
      front = l.front;
      whole = l.whole;
    })

-- where all lines were played, the world is as after the last
counts_as : (events count : ℕ) (now last : World) (ended : DrillEnding) (put : List ℕ) (Failed : Type 0) (told : DrillEnding)
    → (IsWhole ended → (now ≡ last) × (events ≡ count)) → SaysCounts events now ended put Failed told → SaysCounts count last ended put Failed told
counts_as events count now last ended put Failed told same c = record {
  whole = λ whole.
      subst (λ (n : ℕ). TellsCounts n last ended put Failed told) (same whole).1
      (subst (λ (w : World). TellsCounts events w ended put Failed told) (same whole).0 (c.whole whole));
  other = c.other;
}

pub drills_over : {S : Type 0} (left : S → Option (List ℕ)) (lines : Cutter S) (first now : World) (out_old between out_new : Option (List ℕ)) (ended told : DrillEnding) (events : ℕ)
    (before middle after : ℕ) (status : ℕ) → PlaysOut left lines first now out_old between ended events → before ≤ middle → (ended ≡ SinkFault → Rose before middle)
    → Concludes events now ended between out_new middle after told → status ≡ status_of told
    → DrillsOver left lines first out_old out_new before after status
drills_over left lines first now out_old between out_new ended told events before middle after status p since failed c is = record {
  last = p.last;
  between = between;
  ended = ended;
  plays = p.plays;
  middle = middle;
  since = since;
  failed = failed;
  told = told;
  concludes = record {
    put = c.put;
    closing = c.closing;
    said = c.said;
    middle = c.middle;
    since = c.since;
    until = c.until;
    counts = counts_as events (length p.plays.lines) now p.last ended c.put (Rose middle c.middle) told p.whole c.counts;
    front = c.front;
    whole = c.whole;
  };
  status_is = is;
}

-- what the statuses of faults say of the ending
pub source_status : (told : DrillEnding) → status_of told ≡ 4 → told ≡ SourceFault
source_status SourceFault is = refl
source_status AllPlayed is = absurd (omega arith)
source_status SomeRefused is = absurd (omega arith)
source_status (Refused line) is = absurd (omega arith)
source_status SinkFault is = absurd (omega arith)
source_status OutOfMemory is = absurd (omega arith)
source_status InputLimit is = absurd (omega arith)

pub sink_status : (told : DrillEnding) → status_of told ≡ 5 → told ≡ SinkFault
sink_status SinkFault is = refl
sink_status AllPlayed is = absurd (omega arith)
sink_status SomeRefused is = absurd (omega arith)
sink_status (Refused line) is = absurd (omega arith)
sink_status SourceFault is = absurd (omega arith)
sink_status OutOfMemory is = absurd (omega arith)
sink_status InputLimit is = absurd (omega arith)

-- a fault of the source is told where the lines ended by it
told_source : (events : ℕ) (w : World) (ended : DrillEnding) (put : List ℕ) (Failed : Type 0) → SaysCounts events w ended put Failed SourceFault → ended ≡ SourceFault
told_source events w AllPlayed put Failed c = told (c.whole tt)
  where
    told : TellsCounts events w AllPlayed put Failed SourceFault → AllPlayed ≡ SourceFault
    told (inl (entries, counts, inl t)) = absurd (let same = t.1 in cc)
    told (inl (entries, counts, inr t)) = absurd (let same = t.2 in cc)
    told (inr t) = absurd (let same = t.1 in cc)
told_source events w SomeRefused put Failed c = told (c.whole tt)
  where
    told : TellsCounts events w SomeRefused put Failed SourceFault → SomeRefused ≡ SourceFault
    told (inl (entries, counts, inl t)) = absurd (let same = t.1 in cc)
    told (inl (entries, counts, inr t)) = absurd (let same = t.2 in cc)
    told (inr t) = absurd (let same = t.1 in cc)
told_source events w (Refused line) put Failed c = sym (c.other (λ whole. whole)).1
told_source events w SourceFault put Failed c = refl
told_source events w SinkFault put Failed c = sym (c.other (λ whole. whole)).1
told_source events w OutOfMemory put Failed c = sym (c.other (λ whole. whole)).1
told_source events w InputLimit put Failed c = sym (c.other (λ whole. whole)).1

-- a fault of the output is told where the lines ended by it, or the line of the counts did
told_sink : (events : ℕ) (w : World) (ended : DrillEnding) (put : List ℕ) (Failed : Type 0) → SaysCounts events w ended put Failed SinkFault → (ended ≡ SinkFault) ⊎ Failed
told_sink events w AllPlayed put Failed c = told (c.whole tt)
  where
    told : TellsCounts events w AllPlayed put Failed SinkFault → (AllPlayed ≡ SinkFault) ⊎ Failed
    told (inl (entries, counts, inl t)) = absurd (let same = t.1 in cc)
    told (inl (entries, counts, inr t)) = inr t.1
    told (inr t) = absurd (let same = t.1 in cc)
told_sink events w SomeRefused put Failed c = told (c.whole tt)
  where
    told : TellsCounts events w SomeRefused put Failed SinkFault → (SomeRefused ≡ SinkFault) ⊎ Failed
    told (inl (entries, counts, inl t)) = absurd (let same = t.1 in cc)
    told (inl (entries, counts, inr t)) = inr t.1
    told (inr t) = absurd (let same = t.1 in cc)
told_sink events w (Refused line) put Failed c = inl (sym (c.other (λ whole. whole)).1)
told_sink events w SourceFault put Failed c = inl (sym (c.other (λ whole. whole)).1)
told_sink events w SinkFault put Failed c = inl refl
told_sink events w OutOfMemory put Failed c = inl (sym (c.other (λ whole. whole)).1)
told_sink events w InputLimit put Failed c = inl (sym (c.other (λ whole. whole)).1)

-- status 4 comes only where the source failed
pub source_failed : (events : ℕ) (w : World) (ended told : DrillEnding) (old new : Option (List ℕ)) (before now : ℕ) (Failed : Type 0) (status : ℕ)
    → (ended ≡ SourceFault → Failed) → Concludes events w ended old new before now told → status ≡ status_of told → status ≡ 4 → Failed
source_failed events w ended told old new before now Failed status cause c is four =
    cause (told_source events w ended c.put (Rose before c.middle)
    (subst (λ (e : DrillEnding). SaysCounts events w ended c.put (Rose before c.middle) e) (source_status told (sym is ∙ four)) c.counts))

-- status 5 comes only where the output failed
pub sink_failed : (events : ℕ) (w : World) (ended told : DrillEnding) (old new : Option (List ℕ)) (first before now : ℕ) (status : ℕ)
    → first ≤ before → (ended ≡ SinkFault → Rose first before) → Concludes events w ended old new before now told → status ≡ status_of told → status ≡ 5
    → Rose first now
sink_failed events w ended told old new first before now status since cause c is five =
    let begun = c.since in
    let done = c.until in
    elim (told_sink events w ended c.put (Rose before c.middle)
    (subst (λ (e : DrillEnding). SaysCounts events w ended c.put (Rose before c.middle) e) (sink_status told (sym is ∙ five)) c.counts)) [
      | inl by_lines ↦ let rose = cause by_lines in rose-wider first first before now (omega arith) (omega arith) rose
      | inr by_counts ↦ rose-wider first before c.middle now since done by_counts
    ]

-- where the source's fault isn't told, the lines didn't end by one
pub source_kept : (events : ℕ) (w : World) (ended told : DrillEnding) (old new : Option (List ℕ)) (before now : ℕ) (Kept : Type 0) (status : ℕ)
    → ((ended ≡ SourceFault → ⊥) → Kept) → Concludes events w ended old new before now told → status ≡ status_of told → (status ≡ 4 → ⊥) → Kept
source_kept events w ended told old new before now Kept status kept c is other =
    kept (λ source.
    let not_whole : IsWhole ended → ⊥ = λ whole. subst IsWhole source whole in
    other (is ∙ ap status_of ((c.counts.other not_whole).1 ∙ source)))
