-- which statuses `print` has, and when it ends well
use Rattle.std.proofs.Common.{◌≡◌, ◌≢◌, ℕ, ◌⊎◌, inl, inr, List, [], ◌∷◌, ◌++◌, get_or, decimal, ℤ, Option, None, Some, refl, sym, ap, subst, ◌∙◌, arith}
use Rattle.std.proofs.lemmas.Fmt.{decimal_injective}
use Rattle.rep_wire.specs.declared.head.LaneHead.{LaneHead}
use Rattle.rep_wire.specs.declared.request.Entry.{Entry}
use Rattle.rep_wire.proofs.HeadLemmas.{head_fields}
use Rattle.rep_report.specs.declared.ending.Ending.TheVariants.{AllAnswered, SomeRefused, SourceFault, SinkFault, DeviceFault, ClockFault, OutOfMemory, InputLimit}
use Rattle.rep_lane.specs.Answers.{LineAnswer}
use Rattle.rep_lane.specs.Head.{IsHeadLine}
use Rattle.rep_lane.specs.declared.lane.Tally.{Tally}
use Rattle.rep_print.specs.Desk.{State}
use Rattle.rep_print.specs.Ending.{status_of}
use Rattle.rep_print.specs.Printing.{HasNoOperatorHead, IsEmployerLine, LacksEmployer, Run, EndsBy, LacksLineTwo, IsPrintable, Prints}
use Rattle.rep_print.specs.Steps.{HasAnswers, Laned, IsDone, Closes, Told}
use Rattle.rep_print.specs.Writing.{HasEmployer}
use Rattle.rep_print.specs.declared.ending.PrintEnding.{PrintEnding}
use Rattle.rep_print.specs.declared.ending.PrintEnding.TheVariants.{NoHead, NoEmployer, Served}
use Rattle.rep_print.proofs.HeadLines.{one_kind}
use Rattle.rep_print.proofs.EmployerLemmas.{run_employer}

-- a lane that came to its end has answers
done_some : (answers : List LineAnswer) (ended : PrintEnding) → HasAnswers answers ended → IsDone ended → answers ≢ []
done_some answers NoHead has done = absurd done
done_some answers NoEmployer has done = absurd done
done_some answers (Served AllAnswered) has done = has.0
done_some answers (Served SomeRefused) has done = has.0
done_some answers (Served SourceFault) has done = absurd done
done_some answers (Served SinkFault) has done = absurd done
done_some answers (Served DeviceFault) has done = absurd done
done_some answers (Served ClockFault) has done = absurd done
done_some answers (Served OutOfMemory) has done = absurd done
done_some answers (Served InputLimit) has done = absurd done

-- so its history has an employer's record
pub done_employer : {C : Type 0} (readings : C → Option (List ℕ)) (old new : State C) (out_old out_new : Option (List ℕ)) (tally : Tally) (ended : PrintEnding) (IsText : List ℕ → Type 0)
    → Laned readings old new out_old out_new tally ended IsText → IsDone ended → HasEmployer new.history
done_employer readings old new out_old out_new tally ended IsText l done =
    let some = done_some l.answers ended l.has done in
    let r = (l.of_lane None tt).ran in
    subst HasEmployer (sym r.history) (run_employer r.run (λ none. some (sym r.answers_are ∙ none)))

-- it isn't the device that fails
module _ (answers : List LineAnswer) (zone : ℤ) (h : List Entry) (old new file_old file_new : Option (List ℕ)) (ended closed told : PrintEnding) (has : HasAnswers answers ended)
    (told_is : (told ≡ closed) ⊎ (told ≡ Served SinkFault)) (device : told ≡ Served DeviceFault) where
  not_sink : told ≡ Served SinkFault → ⊥
  not_sink sink = let clash : Served SinkFault ≡ Served DeviceFault = sym sink ∙ device in absurd cc

  closed_device : (told ≡ closed) ⊎ (told ≡ Served SinkFault) → closed ≡ Served DeviceFault
  closed_device (inl same) = sym same ∙ device
  closed_device (inr sink) = absurd (not_sink sink)

  pub no_device : Closes ended zone h old new file_old file_new closed → ⊥
  no_device (inl c) = subst (HasAnswers answers) (sym c.1 ∙ closed_device told_is) has
  no_device (inr (inl c)) = subst IsDone (sym c.1 ∙ closed_device told_is) c.0
  no_device (inr (inr (inl c))) = let clash : Served SinkFault ≡ Served DeviceFault = sym c.1 ∙ closed_device told_is in absurd cc
  no_device (inr (inr (inr c))) = let clash : Served ClockFault ≡ Served DeviceFault = sym c.1 ∙ closed_device told_is in absurd cc

pub told_kind : (ended : PrintEnding) (counts : List ℕ) (old new : Option (List ℕ)) (before now : ℕ) (told : PrintEnding) → Told ended counts old new before now told
    → (told ≡ ended) ⊎ (told ≡ Served SinkFault)
told_kind ended counts old new before now told t = elim t.told [ inl same ↦ inl same | inr cut ↦ inr cut.0 ]

-- a fault of the source is told, unless the output failed at the counts
pub source_told : (zone : ℤ) (h : List Entry) (old new file_old file_new : Option (List ℕ)) (ended closed told : PrintEnding) (status : ℕ)
    → Closes ended zone h old new file_old file_new closed → (told ≡ closed) ⊎ (told ≡ Served SinkFault) → status ≡ status_of told → ended ≡ Served SourceFault
    → (status ≡ 4) ⊎ (status ≡ 5)
source_told zone h old new file_old file_new ended closed told status (inl c) (inl same) is source = inl (is ∙ ap status_of (same ∙ c.1 ∙ source))
source_told zone h old new file_old file_new ended closed told status (inl c) (inr sink) is source = inr (is ∙ ap status_of sink)
source_told zone h old new file_old file_new ended closed told status (inr (inl c)) t is source = absurd (subst IsDone source c.0)
source_told zone h old new file_old file_new ended closed told status (inr (inr (inl c))) t is source = absurd (subst IsDone source c.0)
source_told zone h old new file_old file_new ended closed told status (inr (inr (inr c))) t is source = absurd (subst IsDone source c.0)

-- a fault of the file is told
pub sink_told : (closed told : PrintEnding) (status : ℕ) → (told ≡ closed) ⊎ (told ≡ Served SinkFault) → status ≡ status_of told → closed ≡ Served SinkFault → status ≡ 5
sink_told closed told status (inl same) is sink = is ∙ ap status_of (same ∙ sink)
sink_told closed told status (inr same) is sink = is ∙ ap status_of same

-- a fault of the clock is told, unless the output failed at the counts
pub clock_told : (closed told : PrintEnding) (status : ℕ) → (told ≡ closed) ⊎ (told ≡ Served SinkFault) → status ≡ status_of told → closed ≡ Served ClockFault
    → (status ≡ 7) ⊎ (status ≡ 5)
clock_told closed told status (inl same) is clock = inl (is ∙ ap status_of (same ∙ clock))
clock_told closed told status (inr same) is clock = inr (is ∙ ap status_of same)

-- a lane that ended at the clock stays so
pub clock_stays : (zone : ℤ) (h : List Entry) (old new file_old file_new : Option (List ℕ)) (ended closed : PrintEnding)
    → Closes ended zone h old new file_old file_new closed → ended ≡ Served ClockFault → closed ≡ Served ClockFault
clock_stays zone h old new file_old file_new ended closed (inl c) clock = c.1 ∙ clock
clock_stays zone h old new file_old file_new ended closed (inr (inl c)) clock = absurd (subst IsDone clock c.0)
clock_stays zone h old new file_old file_new ended closed (inr (inr (inl c))) clock = absurd (subst IsDone clock c.0)
clock_stays zone h old new file_old file_new ended closed (inr (inr (inr c))) clock = absurd (subst IsDone clock c.0)

-- the other statuses
pub statuses : (status : ℕ) (e : PrintEnding) → status ≡ status_of e → (e ≡ Served DeviceFault → ⊥) → (status ≢ 2) × (status ≢ 6) × (status ≢ 9)
statuses status NoHead is other = (λ at. omega arith, λ at. omega arith, λ at. omega arith)
statuses status NoEmployer is other = (λ at. omega arith, λ at. omega arith, λ at. omega arith)
statuses status (Served AllAnswered) is other = (λ at. omega arith, λ at. omega arith, λ at. omega arith)
statuses status (Served SomeRefused) is other = (λ at. omega arith, λ at. omega arith, λ at. omega arith)
statuses status (Served SourceFault) is other = (λ at. omega arith, λ at. omega arith, λ at. omega arith)
statuses status (Served SinkFault) is other = (λ at. omega arith, λ at. omega arith, λ at. omega arith)
statuses status (Served DeviceFault) is other = absurd (other refl)
statuses status (Served ClockFault) is other = (λ at. omega arith, λ at. omega arith, λ at. omega arith)
statuses status (Served OutOfMemory) is other = (λ at. omega arith, λ at. omega arith, λ at. omega arith)
statuses status (Served InputLimit) is other = (λ at. omega arith, λ at. omega arith, λ at. omega arith)

-- a line is one head at most
same_head : (a b : LaneHead) (line : List ℕ) → IsHeadLine a line → IsHeadLine b line → a ≡ b
same_head a b line is_a is_b =
    let fields = sym (head_fields a line is_a.in_range is_a.spelled) ∙ head_fields b line is_b.in_range is_b.spelled in
    let numbers : decimal a.origin ≡ decimal b.origin = ap (λ (fs : List (List ℕ)). get_or fs 1 []) fields in
    let small_a = is_a.in_range.origin in
    let small_b = is_b.in_range.origin in
    let origins : a.origin ≡ b.origin = decimal_injective a.origin b.origin (omega arith) (omega arith) numbers in
    let kinds : a.kind ≡ b.kind = one_kind a b line is_a is_b in
    let scripts : a.script ≡ b.script = is_a.in_range.script ∙ sym is_b.in_range.script in
    λ i. record { origin = origins i; kind = kinds i; script = scripts i }

abbrev first_of : List (List ℕ) → List ℕ
first_of [] = []
first_of (x ∷ xs) = x

abbrev rest_of : List (List ℕ) → List (List ℕ)
rest_of [] = []
rest_of (x ∷ xs) = xs

module _ (text : List ℕ) (status : ℕ) (p : IsPrintable text) (source : status ≡ 4 → ⊥) (sink : status ≡ 5 → ⊥) (clock : status ≡ 7 → ⊥) where
  -- line 2 asks for the employer's record
  founded : {zone : ℤ} (run : Run zone) → [] ≡ run.lines → LacksLineTwo text run → ⊥
  founded run none u =
      let lines : u.of_text.first ∷ ([] ++ u.of_text.behind) ≡ p.first ∷ p.second ∷ p.behind =
      ap (λ (x : List (List ℕ)). u.of_text.first ∷ (x ++ u.of_text.behind)) none ∙ sym u.of_text.lines ∙ p.lines in
      let first : u.of_text.first ≡ p.first = ap first_of lines in
      let behind : u.of_text.behind ≡ p.second ∷ p.behind = ap rest_of lines in
      let head : run.head ≡ p.head = same_head run.head p.head p.first (subst (λ (x : List ℕ). IsHeadLine run.head x) first u.of_text.headed.head_line) p.headed.head_line in
      subst (λ (x : List (List ℕ)). LacksEmployer run.head x) behind u.lacks (subst (λ (x : LaneHead). IsEmployerLine x p.second) (sym head) p.employer)

  ends_well : {zone : ℤ} (run : Run zone) (whole : ℕ) (given written next counts : List ℕ) (e : PrintEnding) → status ≡ status_of e → EndsBy (Some text) run whole given written next counts e
      → (status ≡ 0) ⊎ (status ≡ 1) ⊎ (status ≡ 8)
  ends_well run whole given written next counts NoHead is ends = absurd (subst HasNoOperatorHead p.lines ends.1.no_head.no_head p.head p.headed)
  ends_well run whole given written next counts NoEmployer is ends = absurd (founded run (sym ends.1.none) ends.1.lacks)
  ends_well run whole given written next counts (Served AllAnswered) is ends = inl is
  ends_well run whole given written next counts (Served SomeRefused) is ends = inr (inl is)
  ends_well run whole given written next counts (Served SourceFault) is ends = absurd (source is)
  ends_well run whole given written next counts (Served SinkFault) is ends = absurd (sink is)
  ends_well run whole given written next counts (Served DeviceFault) is ends = absurd ends
  ends_well run whole given written next counts (Served ClockFault) is ends = absurd (clock is)
  ends_well run whole given written next counts (Served OutOfMemory) is ends = inr (inr is)
  ends_well run whole given written next counts (Served InputLimit) is ends = let long = ends.1.long in let short = p.short in absurd (omega arith)

  pub completes : {zone : ℤ} (given written said : List ℕ) (FileUntouched FileFailed : Type 0) (before now : ℕ) → Prints zone (Some text) status given written said FileUntouched FileFailed before now
      → (status ≡ 0) ⊎ (status ≡ 1) ⊎ (status ≡ 8)
  completes given written said FileUntouched FileFailed before now r = ends_well r.run r.whole given written r.says.next r.says.counts r.ending r.status_is r.ends
