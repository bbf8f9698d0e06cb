-- The end of a line, as it is found and taken off.
use Rattle.std.proofs.Common.{◌≡◌, inl, inr, ℕ, ◌+◌, ◌-◌, ◌<◌, ◌≤◌, Bool, true, false, eqb, List, [], ◌∷◌, ◌++◌, length, get_or, take, drop, refl, sym, ap, ◌∙◌, subst, arith, append-nil, length-append, length-take}
use Rattle.std.proofs.lemmas.Bool.{true≢false, eqb-true, eq-eqb, ne_eqb}
use Rattle.std.proofs.lemmas.List.{append_cancel_right, get_or_push, take_all, take_at, drop_all, take_more}
use Rattle.afd_records.specs.Fields.{EndsIn}
use Rattle.rep_io.specs.Cutter.{HasNoLineFeed}
use Rattle.rep_io.specs.Lines.{Run, run_text, runs_of, line_of, has_return, ends_in_return, line_feed}
use Rattle.rep_io.specs.Steps.{EndsAt}
use Rattle.rep_io.proofs.CutterLemmas.{split_at_feed}
use Rattle.rep_io.proofs.LineLemmas.{runs_of-ended, runs_of-whole, ends_in_return-last}
use Rattle.afd_read.specs.LineEnds.{IsRun, IsFirstRun, IsWithoutLast}

abbrev run_of : List ℕ → Bool → Run
run_of bytes ended = record { bytes = bytes; ended = ended }

-- a text is split at its first line feed
pub split_at : (text : List ℕ) (at : ℕ) → EndsAt text at
    → HasNoLineFeed (take at text) × (text ≡ take at text ++ line_feed ∷ drop (at + 1) text)
split_at text at ends =
    let all = subst (λ (bytes : List ℕ). EndsAt bytes at) (sym (take_all (length text) text (omega arith))) ends in
    let split = split_at_feed text (length text) at all in
    (split.2, split.3)

-- a text with a line feed: its first run ends there
pub first_run-ended : (text : List ℕ) (at : ℕ) → EndsAt text at → IsFirstRun text (at + 1)
first_run-ended text at ends =
    let split = split_at text at ends in
    let feed = ends.feed in
    record {
      run = run_of (take at text) true;
      is_run = record { clean = split.0; some = λ no. absurd (true≢false no) };
      first = ap runs_of split.1 ∙ runs_of-ended (take at text) (drop (at + 1) text) split.0;
      whole = take_more text at 0 ends.within ∙ ap (λ (byte : ℕ). take at text ++ byte ∷ []) feed;
      some = omega arith;
      within = omega (arith, ends.within);
    }

-- a text without one is a run
pub first_run-last : (text : List ℕ) → 0 < length text → HasNoLineFeed text → IsFirstRun text (length text)
first_run-last text some none = record {
  run = run_of text false;
  is_run = record { clean = none; some = λ _. some };
  first = runs_of-whole text some none
      ∙ ap (λ (rest : List ℕ). run_of text false ∷ runs_of rest) (sym (drop_all (length text) text (omega arith)));
  whole = take_all (length text) text (omega arith) ∙ sym (append-nil text);
  some = some;
  within = omega arith;
}

-- no line feed ends a run's bytes
no_feed_behind : (front text : List ℕ) → HasNoLineFeed text → text ≡ front ++ line_feed ∷ [] → ⊥
no_feed_behind front text clean is =
    let size : length text ≡ length front + 1 = ap length is ∙ length-append front (line_feed ∷ []) in
    let here : get_or text (length front) 0 ≡ line_feed =
    ap (λ (bytes : List ℕ). get_or bytes (length front) 0) is ∙ get_or_push front line_feed 0 (length front) refl in
    clean (length front) 0 (omega (arith, size)) here

-- a run whose line feed wasn't found has none, and is its line
pub line-without_feed : (text : List ℕ) (ended : Bool) (bytes front : List ℕ) → IsRun (run_of text ended)
    → bytes ≡ run_text (run_of text ended) → IsWithoutLast line_feed bytes front → length front ≡ length bytes
    → bytes ≡ line_of (run_of text ended)
line-without_feed text true bytes front is_run is (inl ends) size =
    absurd (omega (arith, size, ap length ends, length-append front (line_feed ∷ [])))
line-without_feed text true bytes front is_run is (inr kept) size = absurd (kept.1 (text, is))
line-without_feed text false bytes front is_run is without size = is ∙ append-nil text

-- one whose line feed was found has it behind its bytes
bytes-without_feed : (text : List ℕ) (ended : Bool) (bytes front : List ℕ) → IsRun (run_of text ended)
    → bytes ≡ run_text (run_of text ended) → IsWithoutLast line_feed bytes front → (length front ≡ length bytes → ⊥)
    → (ended ≡ true) × (front ≡ text)
bytes-without_feed text true bytes front is_run is (inl ends) other =
    (refl, append_cancel_right front text (line_feed ∷ []) (sym ends ∙ is))
bytes-without_feed text true bytes front is_run is (inr kept) other = absurd (other (ap length kept.0))
bytes-without_feed text false bytes front is_run is (inl ends) other =
    absurd (no_feed_behind front text is_run.clean (sym (is ∙ append-nil text) ∙ ends))
bytes-without_feed text false bytes front is_run is (inr kept) other = absurd (other (ap length kept.0))

-- a carriage return at the end of the bytes
returns : (text front : List ℕ) → text ≡ front ++ 13 ∷ [] → (ends_in_return text ≡ true) × (take (length text - 1) text ≡ front)
returns text front is =
    let size : length text ≡ length front + 1 = ap length is ∙ length-append front (13 ∷ []) in
    let last : length text - 1 ≡ length front = omega (arith, size) in
    let byte : get_or text (length text - 1) 0 ≡ 13 =
    ap (λ (bytes : List ℕ). get_or bytes (length text - 1) 0) is ∙ get_or_push front 13 0 (length text - 1) (sym last) in (
      ends_in_return-last text (omega (arith, size)) ∙ ap (λ (b : ℕ). eqb b 13) byte,
      ap (take (length text - 1)) is ∙ take_at front (13 ∷ []) (length text - 1) (sym last),
    )

not_true : (b : Bool) → (b ≡ true → ⊥) → b ≡ false
not_true true none = absurd (none refl)
not_true false none = refl

no_returns : (text : List ℕ) → (EndsIn 13 text → ⊥) → ends_in_return text ≡ false
no_returns [] none = refl
no_returns (byte ∷ bytes) none =
    let text = byte ∷ bytes in
    let last = length text - 1 in
    not_true (ends_in_return text) (λ yes.
    let is : get_or text last 0 ≡ 13 = eqb-true _ 13 (sym (ends_in_return-last text (omega arith)) ∙ yes) in
    let all : last + 1 ≡ length text = omega arith in
    none (take last text, sym (take_all (last + 1) text (omega arith)) ∙ take_more text last 0 (omega arith) ∙ ap (λ (b : ℕ). take last text ++ b ∷ []) is))

-- so its line is its bytes without a carriage return at their end
pub line-without_return : (text : List ℕ) (ended : Bool) (bytes front line : List ℕ) → IsRun (run_of text ended)
    → bytes ≡ run_text (run_of text ended) → IsWithoutLast line_feed bytes front → (length front ≡ length bytes → ⊥)
    → IsWithoutLast 13 front line → line ≡ line_of (run_of text ended)
line-without_return text ended bytes front line is_run is without other (inl ends) =
    let found = bytes-without_feed text ended bytes front is_run is without other in
    let last = returns text line (sym found.1 ∙ ends) in
    rw (found.0, last.0) (sym last.1)
line-without_return text ended bytes front line is_run is without other (inr kept) =
    let found = bytes-without_feed text ended bytes front is_run is without other in
    let none = no_returns text (λ ends. kept.1 (ends.0, found.1 ∙ ends.1)) in
    rw (found.0, none) (kept.0 ∙ found.1)

-- what is taken off is a byte at most
pub length-without_last : (byte : ℕ) (bytes front : List ℕ) → IsWithoutLast byte bytes front → length front ≤ length bytes
length-without_last byte bytes front (inl ends) = omega (arith, ap length ends, length-append front (byte ∷ []))
length-without_last byte bytes front (inr kept) = omega (arith, ap length kept.0)

with_feed : (text : List ℕ) (r : Bool) → ends_in_return text ≡ r
    → eqb (length (run_text (run_of text true)) - length (line_of (run_of text true))) 2 ≡ has_return (run_of text true)
with_feed [] true is = absurd (true≢false (sym is))
with_feed (byte ∷ bytes) true is =
    let text = byte ∷ bytes in
    rw is (eq-eqb (length (text ++ line_feed ∷ []) - length (take (length text - 1) text)) 2 (omega (arith, length-append text (line_feed ∷ []), length-take (length text - 1) text)))
with_feed text false is =
    rw is (ne_eqb (length (text ++ line_feed ∷ []) - length text) 2 (omega (arith, length-append text (line_feed ∷ []))))

-- a run is longer than its line by two bytes exactly where CR and LF end it
pub return-by_length : (text : List ℕ) (ended : Bool)
    → eqb (length (run_text (run_of text ended)) - length (line_of (run_of text ended))) 2 ≡ has_return (run_of text ended)
return-by_length text true = with_feed text (ends_in_return text) refl
return-by_length text false =
    ne_eqb (length (text ++ []) - length text) 2 (omega (arith, ap length (append-nil text)))
