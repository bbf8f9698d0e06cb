-- The runs of a text: they make it up, each stands between its bounds, and there are no more of them than bytes.
use Rattle.std.proofs.Common.{◌≡◌, ◌≢◌, ℕ, zero, suc, ◌+◌, ◌-◌, ◌<◌, ◌≤◌, Bool, true, false, eqb, cond, List, [], ◌∷◌, ◌++◌, length, get_or, drop, All, refl, sym, ap, ◌∙◌, subst, arith, append_assoc, length-append, add-one}
use Rattle.std.proofs.lemmas.Bool.{true≢false, eqb-true, eqb-false}
use Rattle.std.proofs.lemmas.List.{take_at, drop_at}
use Rattle.std.proofs.lemmas.List.Elements.{All-nil, All-cons, All-head, All-tail}
use Rattle.rep_io.specs.Lines.{Run, run_text, runs_of, in_front, line_feed}
use Rattle.afd_read.specs.Index.{bounds_from, bounds_of, IsBetween}
use Rattle.afd_read.specs.LineEnds.{IsRun}

abbrev no_run : Run
no_run = record { bytes = []; ended = false }

-- the runs one behind the other
abbrev joined : List Run → List ℕ
joined [] = []
joined (run ∷ runs) = run_text run ++ joined runs

joined-in_front : (byte : ℕ) (runs : List Run) → joined (in_front byte runs) ≡ byte ∷ joined runs
joined-in_front byte [] = refl
joined-in_front byte (run ∷ runs) = refl

joined-first : (byte : ℕ) (bytes : List ℕ) (b : Bool) → eqb byte line_feed ≡ b → joined (runs_of bytes) ≡ bytes
    → joined (cond b (record { bytes = []; ended = true } ∷ runs_of bytes) (in_front byte (runs_of bytes))) ≡ byte ∷ bytes
joined-first byte bytes true is later =
    let feed : line_feed ≡ byte = sym (eqb-true byte line_feed is) in
    ap (λ (rest : List ℕ). line_feed ∷ rest) later ∙ ap (λ (b : ℕ). b ∷ bytes) feed
joined-first byte bytes false is later =
    joined-in_front byte (runs_of bytes) ∙ ap (λ (rest : List ℕ). byte ∷ rest) later

-- a text is made of its runs
joined-runs : (text : List ℕ) → joined (runs_of text) ≡ text
joined-runs [] = refl
joined-runs (byte ∷ bytes) = joined-first byte bytes (eqb byte line_feed) refl (joined-runs bytes)

-- the first bound
first_bound : (at : ℕ) (runs : List Run) → get_or (bounds_from at runs) 0 0 ≡ at
first_bound at [] = refl
first_bound at (run ∷ runs) = refl

pub length-bounds : (at : ℕ) (runs : List Run) → length (bounds_from at runs) ≡ length runs + 1
length-bounds at [] = refl
length-bounds at (run ∷ runs) = omega (arith, length-bounds (at + length (run_text run)) runs)

-- a run stands between its bounds
between : (runs : List Run) (at : ℕ) (front : List ℕ) (k : ℕ) → length front ≡ at → k < length runs
    → IsBetween (front ++ joined runs) (get_or (bounds_from at runs) k 0) (get_or (bounds_from at runs) (suc k) 0) (get_or runs k no_run)
between [] at front k size within = absurd (omega arith)
between (run ∷ runs) at front zero size within =
    let end = first_bound (at + length (run_text run)) runs in
    let behind : drop at (front ++ (run_text run ++ joined runs)) ≡ run_text run ++ joined runs =
    drop_at front (run_text run ++ joined runs) at size in
    let wide : at + length (run_text run) - at ≡ length (run_text run) = omega arith in
    rw end (record {
      ordered = omega arith;
      within = omega (arith, length-append front (run_text run ++ joined runs), length-append (run_text run) (joined runs));
      cut = rw (wide, behind) (take_at (run_text run) (joined runs) (length (run_text run)) refl);
    })
between (run ∷ runs) at front (suc k) size within =
    let more : length (front ++ run_text run) ≡ at + length (run_text run) = omega (arith, length-append front (run_text run)) in
    let later = between runs (at + length (run_text run)) (front ++ run_text run) k more (omega arith) in
    rw (append_assoc front (run_text run) (joined runs)) at later

-- the run of this number in a text
pub run_between : (text : List ℕ) (k : ℕ) → k < length (runs_of text)
    → IsBetween text (get_or (bounds_of text) k 0) (get_or (bounds_of text) (k + 1) 0) (get_or (runs_of text) k no_run)
run_between text k within =
    rw (add-one k) (subst (λ (whole : List ℕ). IsBetween whole (get_or (bounds_of text) k 0) (get_or (bounds_of text) (suc k) 0) (get_or (runs_of text) k no_run)) (joined-runs text) (between (runs_of text) 0 [] k refl within))

-- the runs of a text are such as a text has them
runs-in_front : (byte : ℕ) (runs : List Run) → byte ≢ line_feed → All IsRun runs → All IsRun (in_front byte runs)
runs-in_front byte [] other are =
    let P : ℕ → Type 0 = λ b. b ≢ line_feed in
    let run : IsRun (record { bytes = byte ∷ []; ended = false }) =
    record { clean = All-cons P byte [] other (All-nil P); some = λ _. omega arith } in
    All-cons IsRun (record { bytes = byte ∷ []; ended = false }) [] run (All-nil IsRun)
runs-in_front byte (run ∷ runs) other are =
    let P : ℕ → Type 0 = λ b. b ≢ line_feed in
    let first = All-head IsRun run runs are in
    let longer : IsRun (record { bytes = byte ∷ run.bytes; ended = run.ended }) =
    record { clean = All-cons P byte run.bytes other first.clean; some = λ _. omega arith } in
    All-cons IsRun (record { bytes = byte ∷ run.bytes; ended = run.ended }) runs longer (All-tail IsRun run runs are)

runs-first : (byte : ℕ) (bytes : List ℕ) (b : Bool) → eqb byte line_feed ≡ b → All IsRun (runs_of bytes)
    → All IsRun (cond b (record { bytes = []; ended = true } ∷ runs_of bytes) (in_front byte (runs_of bytes)))
runs-first byte bytes true is later =
    let P : ℕ → Type 0 = λ b. b ≢ line_feed in
    let run : IsRun (record { bytes = []; ended = true }) =
    record { clean = All-nil P; some = λ no. absurd (true≢false no) } in
    All-cons IsRun (record { bytes = []; ended = true }) (runs_of bytes) run later
runs-first byte bytes false is later = runs-in_front byte (runs_of bytes) (eqb-false byte line_feed is) later

pub runs_are : (text : List ℕ) → All IsRun (runs_of text)
runs_are [] = All-nil IsRun
runs_are (byte ∷ bytes) = runs-first byte bytes (eqb byte line_feed) refl (runs_are bytes)

-- no more runs than bytes
length-in_front : (byte : ℕ) (runs : List Run) → length (in_front byte runs) ≤ length runs + 1
length-in_front byte [] = omega arith
length-in_front byte (run ∷ runs) = omega arith

few-first : (byte : ℕ) (bytes : List ℕ) (b : Bool) → length (runs_of bytes) ≤ length bytes
    → length (cond b (record { bytes = []; ended = true } ∷ runs_of bytes) (in_front byte (runs_of bytes)))
    ≤ length (byte ∷ bytes)
few-first byte bytes true later = omega arith
few-first byte bytes false later = omega (arith, length-in_front byte (runs_of bytes))

pub few_runs : (text : List ℕ) → length (runs_of text) ≤ length text
few_runs [] = omega arith
few_runs (byte ∷ bytes) = few-first byte bytes (eqb byte line_feed) (few_runs bytes)

-- the run at a place is such as a text has it
pub run_is : (text : List ℕ) (k : ℕ) → k < length (runs_of text) → IsRun (get_or (runs_of text) k no_run)
run_is text k within = runs_are text k no_run within
