-- the counts' line of a run, and what its replies are
use Rattle.std.proofs.Common.{◌≡◌, ◌≢◌, ℕ, zero, suc, ◌≤◌, inl, inr, List, [], ◌∷◌, ◌++◌, length, take, drop, ℤ, refl, sym, ap, ◌∙◌, arith}
use Rattle.std.specs.List.{concat}
use Rattle.std.proofs.lemmas.List.{length-take-le}
use Rattle.rep_wire.specs.declared.request.Entry.{Entry}
use Rattle.rep_report.specs.Report.{run_text}
use Rattle.rep_report.specs.Saying.{IsFront}
use Rattle.rep_report.specs.declared.ending.Ending.TheVariants.{SinkFault}
use Rattle.rep_lane.specs.Answers.{LineAnswer, replies_from, receipts_in}
use Rattle.rep_lane.specs.Lane.{IsTally}
use Rattle.rep_lane.specs.declared.lane.Tally.{Tally}
use Rattle.rep_print.specs.Printing.{Run, counts_text, first_line}
use Rattle.rep_print.specs.Steps.{counts_line, HasReplied}
use Rattle.rep_print.specs.declared.ending.PrintEnding.{PrintEnding}
use Rattle.rep_print.specs.declared.ending.PrintEnding.TheVariants.{Served}
use Rattle.rep_print.proofs.LaneLemmas.{never_nil}
use Rattle.rep_print.proofs.EmployerLemmas.{run_employer, employer_entries, run_empty}

-- so many replies were written wholly, at most all of them
pub whole_within : (answers : List LineAnswer) (whole : ℕ) (next : List ℕ) (ended : PrintEnding) → HasReplied answers whole next ended → whole ≤ length answers
whole_within answers whole next ended (inl r) = let is = r.0 in omega arith
whole_within answers whole next ended (inr r) = let is = r.0 in omega arith

-- what stands of the next reply is a front of it
pub next_front : (answers : List LineAnswer) (whole : ℕ) (next : List ℕ) (ended : PrintEnding) → HasReplied answers whole next ended
    → IsFront next (concat (drop whole (replies_from first_line answers)))
next_front answers whole next ended (inl r) = (concat (drop whole (replies_from first_line answers)), ap (λ (x : List ℕ). x ++ concat (drop whole (replies_from first_line answers))) (sym r.1))
next_front answers whole next ended (inr r) = (r.1.0, r.1.2)

-- each reply was written wholly, unless the output failed at one
pub replied_all : (answers : List LineAnswer) (whole : ℕ) (next : List ℕ) (ended : PrintEnding) → HasReplied answers whole next ended → (ended ≡ Served SinkFault → ⊥)
    → (whole ≡ length answers) × (next ≡ [])
replied_all answers whole next ended (inl r) other = (r.0, r.1)
replied_all answers whole next ended (inr r) other = absurd (other r.2)

counted_by : (answers : List LineAnswer) (whole last : ℕ) (tally : Tally) → answers ≢ [] → 1 ≤ last → IsTally (take whole answers) tally → whole ≤ length answers
    → counts_line last tally ≡ counts_text answers whole last
counted_by [] whole last tally some one t within = absurd (some refl)
counted_by (a ∷ answers) whole zero tally some one t within = absurd (omega arith)
counted_by (a ∷ answers) whole (suc n) tally some one t within =
    ap (λ (lines : ℕ). run_text 1 lines tally.receipts tally.refused (suc n)) (t.lines ∙ length-take-le whole (a ∷ answers) within)
    ∙ ap (λ (receipts : ℕ). run_text 1 whole receipts tally.refused (suc n)) t.receipts
    ∙ ap (λ (refused : ℕ). run_text 1 whole (receipts_in (take whole (a ∷ answers))) refused (suc n)) t.refused

counts_by : (zone : ℤ) (run : Run zone) (answers : List LineAnswer) (whole : ℕ) (tally : Tally) → run.answers ≡ answers → IsTally (take whole answers) tally → whole ≤ length answers
    → counts_line (length run.history) tally ≡ counts_text answers whole (length run.history)
counts_by zone run [] whole tally is t within = ap (λ (h : List Entry). counts_line (length h) tally) (run_empty run is)
counts_by zone run (a ∷ answers) whole tally is t within =
    let some : run.answers ≢ [] = λ none. never_nil a answers (sym is ∙ none) in
    counted_by (a ∷ answers) whole (length run.history) tally (never_nil a answers) (employer_entries run.history (run_employer run some)) t within

-- the counts' line is that of the run
pub counts_are : (zone : ℤ) (run : Run zone) (answers : List LineAnswer) (whole recorded : ℕ) (tally : Tally) → run.answers ≡ answers → IsTally (take whole answers) tally → whole ≤ length answers
    → recorded ≡ length run.history → counts_line recorded tally ≡ counts_text run.answers whole (length run.history)
counts_are zone run answers whole recorded tally is t within count =
    ap (λ (n : ℕ). counts_line n tally) count ∙ counts_by zone run answers whole tally is t within
    ∙ ap (λ (x : List LineAnswer). counts_text x whole (length run.history)) (sym is)
