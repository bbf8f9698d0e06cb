-- how the cutter's answers go on from the lines that were read
use Rattle.std.proofs.Common.{◌≡◌, ◌≢◌, ℕ, suc, ◌+◌, ◌-◌, ◌<◌, ◌≤◌, ◌⊎◌, inl, inr, ◌==◌, Bool, true, false, cond, List, [], ◌∷◌, ◌++◌, length, take, map, Option, refl, sym, ap, subst, ◌∙◌, append_assoc, append-nil, length-append, arith}
use Rattle.std.proofs.lemmas.List.{append_cancel_left}
use Rattle.std.proofs.lemmas.List.Elements.{recursion_from_All}
use Rattle.std.specs.List.{AllByRecursion}
use Rattle.std.proofs.Math.Seq.{take-append-add}
use Rattle.std.proofs.lemmas.Bool.{false≢true, cases_lt}
use Rattle.std.proofs.lemmas.Bool.Decides.{nat_tests}
use Rattle.rep_io.specs.Lines.{Run, run_text, runs_of, in_front, line_of, lines_of, line_feed, longest_text}
use Rattle.rep_io.specs.Cutter.{Cutter, line_start, room_of, IsCutter, GoesOnPast}
use Rattle.rep_io.specs.Next.{TakesLine, KeepsLine, Gives}
use Rattle.rep_io.specs.declared.next.Next.{Next}
use Rattle.rep_io.specs.declared.next.Next.TheVariants.{Line, TooLong, End, SourceFault, InputLimit}
use Rattle.rep_lane.specs.LaneText.{feeds_in, ended_lines, IsWithin, HasRead, Comes}

-- the feeds of two lists one behind the other
pub feeds-append : (xs ys : List ℕ) → feeds_in (xs ++ ys) ≡ feeds_in xs + feeds_in ys
feeds-append [] ys = omega arith
feeds-append (x ∷ xs) ys = feeds-append-cons x (x == line_feed) refl xs ys (feeds-append xs ys)
  where
    feeds-append-cons : (x : ℕ) (b : Bool) → (x == line_feed) ≡ b → (xs ys : List ℕ) → feeds_in (xs ++ ys) ≡ feeds_in xs + feeds_in ys
        → cond (x == line_feed) (suc (feeds_in (xs ++ ys))) (feeds_in (xs ++ ys)) ≡ cond (x == line_feed) (suc (feeds_in xs)) (feeds_in xs) + feeds_in ys
    feeds-append-cons x true e xs ys h = rw e (omega arith)
    feeds-append-cons x false e xs ys h = rw e h

-- bytes without a line feed have none
pub feeds-none : (bytes : List ℕ) → AllByRecursion (λ b. b ≢ line_feed) bytes → feeds_in bytes ≡ 0
feeds-none [] all = refl
feeds-none (b ∷ bytes) all = by_test b (b == line_feed) refl bytes all (feeds-none bytes all.1)
  where
    by_test : (b : ℕ) (t : Bool) → (b == line_feed) ≡ t → (bytes : List ℕ) → AllByRecursion (λ c. c ≢ line_feed) (b ∷ bytes) → feeds_in bytes ≡ 0
        → cond (b == line_feed) (suc (feeds_in bytes)) (feeds_in bytes) ≡ 0
    by_test b true e bytes all none = absurd (grind (arith, nat_tests, all.0))
    by_test b false e bytes all none = rw e none

-- a run of a text holds no line feed, and one that isn't ended is all of its text
pub record IsRunHead (text : List ℕ) (run : Run) : Type 0 where
  pub feedless : feeds_in run.bytes ≡ 0
  pub unended : run.ended ≡ false → text ≡ run.bytes

-- behind a byte that is no line feed
run_head-front : (b : ℕ) (bytes : List ℕ) (run : Run) (runs others : List Run) → runs_of bytes ≡ others → (b == line_feed) ≡ false
    → ((other : Run) (rest : List Run) → runs_of bytes ≡ other ∷ rest → IsRunHead bytes other) → in_front b others ≡ run ∷ runs → IsRunHead (b ∷ bytes) run
run_head-front b bytes run runs [] o n ih e =
    let none : bytes ≡ [] = no_runs bytes o in
    let is : run.bytes ≡ b ∷ [] = ap (λ (rs : List Run). first_bytes rs) (sym e) in
    record {
      feedless = ap feeds_in is ∙ (rw n refl);
      unended = λ _. ap (λ bs. b ∷ bs) none ∙ sym is;
    }
  where
    first_bytes : List Run → List ℕ
    first_bytes [] = []
    first_bytes (r ∷ rs) = r.bytes

    no_runs : (bytes : List ℕ) → runs_of bytes ≡ [] → bytes ≡ []
    no_runs [] o = refl
    no_runs (c ∷ bytes) o = no_runs-cons c (c == line_feed) refl bytes (runs_of bytes) refl o
      where
        no_runs-cons : (c : ℕ) (t : Bool) → (c == line_feed) ≡ t → (bytes : List ℕ) (others : List Run) → runs_of bytes ≡ others
            → cond (c == line_feed) (record { bytes = []; ended = true } ∷ runs_of bytes) (in_front c (runs_of bytes)) ≡ [] → c ∷ bytes ≡ []
        no_runs-cons c true t bytes others p o = let q = rw t at o in cc
        no_runs-cons c false t bytes [] p o = let q = rw (t, p) at o in cc
        no_runs-cons c false t bytes (r ∷ rs) p o = let q = rw (t, p) at o in cc
run_head-front b bytes run runs (other ∷ others) o n ih e =
    let inner = ih other others o in
    let is : run ≡ record { bytes = b ∷ other.bytes; ended = other.ended } = cc in
    let bytes_is : run.bytes ≡ b ∷ other.bytes = ap (λ (r : Run). r.bytes) is in
    let ended_is : run.ended ≡ other.ended = ap (λ (r : Run). r.ended) is in
    record {
      feedless = ap feeds_in bytes_is ∙ (rw n inner.feedless);
      unended = λ u. ap (λ bs. b ∷ bs) (inner.unended (sym ended_is ∙ u)) ∙ sym bytes_is;
    }

run_head-cons : (b : ℕ) (t : Bool) → (b == line_feed) ≡ t → (bytes : List ℕ) (run : Run) (runs : List Run)
    → ((other : Run) (rest : List Run) → runs_of bytes ≡ other ∷ rest → IsRunHead bytes other)
    → cond (b == line_feed) (record { bytes = []; ended = true } ∷ runs_of bytes) (in_front b (runs_of bytes)) ≡ run ∷ runs → IsRunHead (b ∷ bytes) run
run_head-cons b true t bytes run runs ih e =
    let q : record { bytes = []; ended = true } ∷ runs_of bytes ≡ run ∷ runs = rw t at e in
    let is : run ≡ record { bytes = []; ended = true } = cc in
    record {
      feedless = ap (λ (r : Run). feeds_in r.bytes) is;
      unended = λ u. absurd (false≢true (sym u ∙ ap (λ (r : Run). r.ended) is));
    }
run_head-cons b false t bytes run runs ih e = run_head-front b bytes run runs (runs_of bytes) refl t ih (rw t at e)

pub run_head : (text : List ℕ) (run : Run) (runs : List Run) → runs_of text ≡ run ∷ runs → IsRunHead text run
run_head [] run runs e = cc
run_head (b ∷ bytes) run runs e = run_head-cons b (b == line_feed) refl bytes run runs (run_head bytes) e

-- the feeds of a run's text
pub feeds-run : (run : Run) → feeds_in run.bytes ≡ 0 → run.ended ≡ true → feeds_in (run_text run) ≡ 1
feeds-run run none ended = rw ended (feeds-append run.bytes (line_feed ∷ []) ∙ ap (λ n. n + 1) none)

-- a front of a text that isn't longer than a text may be has no more line feeds than end lines
pub feeds-front : (front rest : List ℕ) → length front ≤ longest_text → feeds_in front ≤ ended_lines (front ++ rest)
unfolding ended_lines
feeds-front front rest short =
    let all : length front + (longest_text - length front) ≡ longest_text = omega arith in
    let cut : take longest_text (front ++ rest) ≡ front ++ take (longest_text - length front) rest =
    ap (λ n. take n (front ++ rest)) (sym all) ∙ take-append-add front rest (longest_text - length front) in
    rw (cut, feeds-append) (omega arith)

-- a cutter begins its lines within the bytes that a text may have
pub start-within : {S : Type 0} (left : S → Option (List ℕ)) (c : Cutter S) → IsCutter left c → line_start c ≤ longest_text
start-within left c sound = start-below c.taken (c.passed + length c.held) sound.taken (λ long. let held = sound.past long in omega arith)
  where
    start-below : (taken kept : ℕ) → taken ≤ longest_text + 1 → (longest_text < taken → 0 < kept) → taken - kept ≤ longest_text
    start-below taken kept most past = elim (cases_lt longest_text taken) [ inl long ↦ (let some = past long in omega arith) | inr short ↦ omega arith ]

-- a run that isn't ended is the last
pub unended-last : (text rest : List ℕ) (run : Run) → text ≡ run_text run ++ rest → runs_of text ≡ run ∷ runs_of rest → run.ended ≡ false → rest ≡ []
unended-last text rest run whole first open_end =
    let head = run_head text run (runs_of rest) first in
    let all : text ≡ run.bytes = head.unended open_end in
    let split : text ≡ run.bytes ++ rest = whole ∙ (rw (open_end, append-nil) refl) in
    sym (append_cancel_left run.bytes [] rest (append-nil run.bytes ∙ sym all ∙ split))

-- what a text's lines are behind a run
pub lines-first : (text rest : List ℕ) (run : Run) (before whole : List (List ℕ)) → runs_of text ≡ run ∷ runs_of rest
    → whole ≡ before ++ lines_of text → whole ≡ (before ++ line_of run ∷ []) ++ lines_of rest
lines-first text rest run before whole first e =
    let behind : lines_of text ≡ line_of run ∷ lines_of rest = ap (λ (runs : List Run). map line_of runs) first in
    e ∙ ap (λ ls. before ++ ls) behind ∙ sym (append_assoc before (line_of run ∷ []) (lines_of rest))

-- what was read goes on by a line
pub record GoesOn {S : Type 0} (left : S → Option (List ℕ)) (new : Cutter S) (text : List ℕ) (before : List (List ℕ)) (line : List ℕ) : Type 0 where
  pub within : IsWithin (suc (length before)) text
  pub read : HasRead left new text (before ++ line ∷ [])

module _ {S : Type 0} (left : S → Option (List ℕ)) (old new : Cutter S) (next : Next) (text : List ℕ) (before : List (List ℕ)) where
  goes_on-by : (h : HasRead left old text before) → IsCutter left new → (g : TakesLine left old new next h.rest) → (ended : Bool) → g.run.ended ≡ ended
      → GoesOn left new text before (line_of g.run)
  goes_on-by h sound g true e =
      let head = run_head h.rest g.run (runs_of g.rest) g.takes.first in
      let whole : text ≡ (h.front ++ run_text g.run) ++ g.rest =
      h.whole ∙ ap (λ t. h.front ++ t) g.takes.whole ∙ sym (append_assoc h.front (run_text g.run) g.rest) in
      let size : length (h.front ++ run_text g.run) ≡ length h.front + length (run_text g.run) = length-append h.front (run_text g.run) in
      let start = h.start in
      let begins = start-within left old h.cutter in
      let room = g.takes.in_room in
      let counted : feeds_in (h.front ++ run_text g.run) ≡ feeds_in h.front + 1 =
      feeds-append h.front (run_text g.run) ∙ ap (λ n. feeds_in h.front + n) (feeds-run g.run head.feedless e) in
      let feeds : feeds_in h.front ≡ length before = feeds_so_far h.front h.rest g.run (runs_of g.rest) h.feeds g.takes.first in
      let short : length (h.front ++ run_text g.run) ≤ longest_text = omega arith in
      let most : feeds_in (h.front ++ run_text g.run) ≤ ended_lines ((h.front ++ run_text g.run) ++ g.rest) = feeds-front (h.front ++ run_text g.run) g.rest short in
      let longer : length (before ++ line_of g.run ∷ []) ≡ length before + 1 = length-append before (line_of g.run ∷ []) in
      record {
        within = inr (subst (λ (t : List ℕ). suc (length before) ≤ ended_lines t) (sym whole) (omega arith));
        read = record {
          cutter = sound;
          front = h.front ++ run_text g.run;
          rest = g.rest;
          whole = whole;
          start = size ∙ ap (λ n. n + length (run_text g.run)) h.start ∙ sym g.start;
          unread = g.unread;
          lines = lines-first h.rest g.rest g.run before (lines_of text) g.takes.first h.lines;
          feeds = inl (counted ∙ ap (λ n. n + 1) feeds ∙ sym longer);
        };
      }
    where
      feeds_so_far : (front rest : List ℕ) (run : Run) (runs : List Run) → (feeds_in front ≡ length before) ⊎ ((rest ≡ []) × (length text ≤ longest_text)) → runs_of rest ≡ run ∷ runs
          → feeds_in front ≡ length before
      feeds_so_far front rest run runs (inl e) first = e
      feeds_so_far front rest run runs (inr e) first =
          let none : [] ≡ run ∷ runs = ap runs_of (sym e.0) ∙ first in cc
  goes_on-by h sound g false e =
      let none : g.rest ≡ [] = unended-last h.rest g.rest g.run g.takes.whole g.takes.first e in
      let whole : text ≡ (h.front ++ run_text g.run) ++ g.rest =
      h.whole ∙ ap (λ t. h.front ++ t) g.takes.whole ∙ sym (append_assoc h.front (run_text g.run) g.rest) in
      let size : length (h.front ++ run_text g.run) ≡ length h.front + length (run_text g.run) = length-append h.front (run_text g.run) in
      let start = h.start in
      let begins = start-within left old h.cutter in
      let room = g.takes.in_room in
      let all : length text ≡ length (h.front ++ run_text g.run) + length g.rest = ap length whole ∙ length-append (h.front ++ run_text g.run) g.rest in
      let nothing : length g.rest ≡ 0 = ap length none in
      let short : length text ≤ longest_text = omega arith in
      record {
        within = inl short;
        read = record {
          cutter = sound;
          front = h.front ++ run_text g.run;
          rest = g.rest;
          whole = whole;
          start = size ∙ ap (λ n. n + length (run_text g.run)) h.start ∙ sym g.start;
          unread = g.unread;
          lines = lines-first h.rest g.rest g.run before (lines_of text) g.takes.first h.lines;
          feeds = inr (none, short);
        };
      }

  pub goes_on : (h : HasRead left old text before) → IsCutter left new → (g : TakesLine left old new next h.rest) → GoesOn left new text before (line_of g.run)
  goes_on h sound g = goes_on-by h sound g g.run.ended refl

  -- the line under way is kept
  pub keeps_on : (h : HasRead left old text before) → IsCutter left new → KeepsLine left old new h.rest → HasRead left new text before
  keeps_on h sound k = record {
    cutter = sound;
    front = h.front;
    rest = h.rest;
    whole = h.whole;
    start = h.start ∙ sym k.start;
    unread = k.unread;
    lines = h.lines;
    feeds = h.feeds;
  }

  -- the text goes on past its limit, and each line that ends before it was read
  pub cut_off : (h : HasRead left old text before) → GoesOnPast (room_of old) h.rest → (longest_text < length text) × (ended_lines text ≡ length before)
  unfolding ended_lines
  cut_off h past =
      let begins = start-within left old h.cutter in
      let start = h.start in
      let longer = past.longer in
      let size : length text ≡ length h.front + length h.rest = ap length h.whole ∙ length-append h.front h.rest in
      let room : length h.front + room_of old ≡ longest_text = omega arith in
      let cut : take longest_text text ≡ h.front ++ take (room_of old) h.rest =
      ap (take longest_text) h.whole ∙ ap (λ n. take n (h.front ++ h.rest)) (sym room) ∙ take-append-add h.front h.rest (room_of old) in
      let none = feeds-none (take (room_of old) h.rest) (recursion_from_All _ _ past.no_end) in
      let counted : ended_lines text ≡ feeds_in h.front =
      ap feeds_in cut ∙ feeds-append h.front (take (room_of old) h.rest) ∙ ap (λ n. feeds_in h.front + n) none ∙ (omega arith) in
      (omega arith, counted ∙ feeds_at_limit h.front h.rest (room_of old) h.feeds longer)
    where
      feeds_at_limit : (front rest : List ℕ) (room : ℕ) → (feeds_in front ≡ length before) ⊎ ((rest ≡ []) × (length text ≤ longest_text)) → room < length rest → feeds_in front ≡ length before
      feeds_at_limit front rest room (inl e) longer = e
      feeds_at_limit front rest room (inr e) longer = let none = ap length e.0 in absurd (omega arith)

  -- the lines that were read are all
  pub at_end : (h : HasRead left old text before) → h.rest ≡ [] → (lines_of text ≡ before) × (length text ≤ longest_text)
  at_end h none =
      let begins = start-within left old h.cutter in
      let start = h.start in
      let size : length text ≡ length h.front + length h.rest = ap length h.whole ∙ length-append h.front h.rest in
      let nothing : length h.rest ≡ 0 = ap length none in
      (h.lines ∙ ap (λ t. before ++ lines_of t) none ∙ append-nil before, omega arith)

pub comes : {S : Type 0} (left : S → Option (List ℕ)) (old new : Cutter S) (next : Next) (text : List ℕ) (before : List (List ℕ))
    → (h : HasRead left old text before) → IsCutter left new → Gives left old new next h.rest → Comes left new next text before
comes left old new (Line bytes crlf) text before h sound g =
    let on = goes_on left old new (Line bytes crlf) text before h sound g in
    (g.tells.1, on.within, rw g.tells.0 on.read)
comes left old new TooLong text before h sound g =
    let on = goes_on left old new TooLong text before h sound g in
    (line_of g.run, g.tells, on.within, on.read)
comes left old new End text before h sound g = at_end left old new End text before h g.0
comes left old new SourceFault text before h sound g = keeps_on left old new SourceFault text before h sound g
comes left old new InputLimit text before h sound g =
    let past = cut_off left old new InputLimit text before h g.0 in
    (past.0, past.1, keeps_on left old new InputLimit text before h sound g.1)
