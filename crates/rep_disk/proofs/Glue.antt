-- From the fields of a disk in memory to what its calls ensure.
use Rattle.std.proofs.Common.{◌≡◌, ℕ, ◌+◌, ◌<◌, ◌≤◌, min, Bool, true, false, cond, List, [], ◌∷◌, ◌++◌, length, take, drop, Some, None, Ok, Err, Result, Vec, refl, sym, ap, ◌∙◌, subst, inl, inr, arith, ⊎_elim, append_assoc, length-append, take-append-drop, add-zero, nat_eq}
use Rattle.std.specs.Prelude.{vec_len, vec_capacity, is_err, OnErr}
use Rattle.std.specs.declared.alloc.Global.{Global}
use Rattle.std.proofs.lemmas.List.{drop-drop, take_all, append-nil, nil_from_length}
use Rattle.std.proofs.lemmas.Bool.{cases_lt}
use Rattle.std.proofs.lemmas.Bool.Decides.{nat_tests}
use Rattle.rep_io.specs.Causes.{last_count, HasCause}
use Rattle.rep_io.specs.declared.cause.Failed.{Failed}
use Rattle.rep_disk.specs.Disk.{Same, Moves, Opens, Renames, Torn, CutBetween, Writes, Cuts, as_named, last_moment, written_by_name}
use Rattle.rep_disk.specs.Record.{Made, Put, Shorten, over, changed}
use Rattle.rep_disk.specs.Memory.{Memory, Counts, Listed, IsSound, fresh, memory_shown, counted, state_at}
use Rattle.rep_disk.specs.Fields.{memory_of, IsKept, log_of, made_of, size_of_all}
use Rattle.rep_disk.specs.Calls.{Goes, Looks, WritesAt, CutsAt, Syncs}
use Rattle.rep_disk.specs.Changes.{MakesSure, made_sure, noted, secured}
use Rattle.rep_disk.specs.declared.mem_disk.MemDisk.TheInside.{Inside}
use Rattle.rep_disk.specs.declared.mem_disk.Calls.{Calls}
use Rattle.rep_disk.specs.declared.change.Change.{Change}
use Rattle.rep_disk.specs.declared.change.Kind.TheVariants.{Write, Cut}
use Rattle.rep_disk.proofs.Replay.{IsStepOf, sound_rest}
use Rattle.rep_disk.proofs.Keeping.{Idles, Makes, Secures, own_both, idle_sound, idle_stays, idle_names, idle_opens, idle_surely, stays_moves, stays_opens, made_sound, made_moves, made_opens, made_names, secure_sound, secure_rest, secure_moves, secure_opens, secure_names}
use Rattle.rep_disk.proofs.Names.{named_nothing}
use Rattle.rep_disk.proofs.Log.{log_snoc, size_snoc, log_last}

pub faults_after : (before now : ℕ) (fails : Bool) → now ≡ cond fails (counted before) before → before ≤ last_count → (before ≤ now) × (now ≤ last_count)
faults_after before now true e le = (omega arith, omega arith)
faults_after before now false e le = (omega arith, omega arith)

-- the count of faults, by what the call answered
pub cause_of : {T : Type 0} (before now : ℕ) (fails : Bool) (result : Result T Failed) → is_err result ≡ fails → now ≡ cond fails (counted before) before → before ≤ last_count → HasCause before now result
cause_of before now true (Ok v) is e le = absurd (cc)
cause_of before now false (Ok v) is e le = record { later = omega arith; failed = tt; kept = e }
cause_of before now true (Err v) is e le = record { later = omega arith; failed = omega arith; kept = tt }
cause_of before now false (Err v) is e le = absurd (cc)

pub goes_with : {T : Type 0} (to_fail : Memory → Bool) (after : Counts → Counts) (a b : Inside) (old : Memory) (result : Result T Failed) (fails : Bool) → memory_of a ≡ old
    → IsSound (memory_of a) → IsSound (memory_of b) → is_err result ≡ fails → fails ≡ to_fail (memory_of a) → (memory_of b).counts ≡ after (memory_of a).counts → (memory_of b).listed ≡ (memory_of a).listed
    → b.moment ≡ min (a.moment + 2) last_moment → b.faults ≡ cond fails (counted a.faults) a.faults → Goes (to_fail old) (after old.counts) old (memory_of b) result
goes_with {T} to_fail after a b old result fails view_is before now answered by counts listed moment faults =
    subst (λ (o : Memory). Goes (to_fail o) (after o.counts) o (memory_of b) result) view_is (record {
      fails = answered ∙ by;
      counts = counts;
      listed = listed;
      time = (let r = before.in_range in omega arith);
      faults = faults ∙ ap (λ (f : Bool). cond f (counted a.faults) a.faults) by;
      cause = cause_of a.faults b.faults fails result answered faults before.faults_in_range;
      own = own_both (memory_of a) (memory_of b) before now;
    })

-- Calls that change nothing but counts.
abbrev pub idled : Inside → ℕ → ℕ → Calls → Inside
idled a moment faults calls = record a { moment = moment; faults = faults; calls = calls }

module _ (a : Inside) (moment faults : ℕ) (calls : Calls) (fails : Bool) (kept : IsKept a) (e : moment ≡ min (a.moment + 2) last_moment) (f : faults ≡ cond fails (counted a.faults) a.faults) where
  abbrev idle : Inside
  idle = idled a moment faults calls

  idles : Idles (memory_of a) (memory_of idle)
  idles =
      let r = faults_after a.faults faults fails f kept.sound.faults_in_range in
      let s = kept.sound.in_range in
      record { bytes = refl; first = refl; log = refl; later = omega arith; in_range = omega arith; faults = r.1 }

  pub idle_kept : IsKept idle
  idle_kept = record {
    bytes_room = kept.bytes_room;
    pieces_room = kept.pieces_room;
    log_room = kept.log_room;
    pieces = kept.pieces;
    untouched = kept.untouched;
    sound = idle_sound (memory_of a) (memory_of idle) idles kept.sound;
  }

  pub idle_looks : (old : Memory) → memory_of a ≡ old → Looks old (memory_of idle)
  idle_looks old view_is = subst (λ (o : Memory). Looks o (memory_of idle)) view_is (record {
    bytes = refl;
    spare = omega arith;
    crash = idle_stays (memory_of a) (memory_of idle) idles kept.sound;
    names = idle_names as_named (memory_of a) (memory_of idle) (λ name bytes. refl) idles kept.sound;
    first = refl;
    log = refl;
  })

  -- a sync that failed leaves what was pending as it was
  pub idle_syncs : (old : Memory) → memory_of a ≡ old → Syncs old (memory_of idle) (Err (record {}))
  idle_syncs old view_is = subst (λ (o : Memory). Syncs o (memory_of idle) (Err (record {}))) view_is (record {
    rest = tt;
    bytes = refl;
    spare = omega arith;
    crash = stays_moves Same (memory_of a) (memory_of idle) (λ image. refl) (idle_stays (memory_of a) (memory_of idle) idles kept.sound);
    opens = idle_opens (memory_of a) (memory_of idle) (record {}) (idle_stays (memory_of a) (memory_of idle) idles kept.sound);
    names = idle_surely (memory_of a) (memory_of idle) (record {}) idles kept.sound;
    first = refl;
    log = refl;
  })

-- a disk with spare room has its own copy of its first bytes
copied_when : (a : Inside) → IsKept a → 1 ≤ a.spare → a.is_copied ≡ true
copied_when a kept some = by a.is_copied kept.untouched
  where
    by : (b : Bool) → (b ≡ false → (a.log.items ≡ []) × (a.spare ≡ 0) × (a.first.items ≡ [])) → b ≡ true
    by true h = refl
    by false h = (let z : a.spare ≡ 0 = (h refl).1 in absurd (omega arith))

copied_first : (a : Inside) (bytes : List ℕ) → a.is_copied ≡ true → cond a.is_copied a.first.items bytes ≡ cond a.is_copied a.first.items a.bytes.items
copied_first a bytes e = ap (λ (b : Bool). cond b a.first.items bytes) e ∙ sym (ap (λ (b : Bool). cond b a.first.items a.bytes.items) e)

same_first : (a : Inside) (bytes : List ℕ) → bytes ≡ a.bytes.items → cond a.is_copied a.first.items bytes ≡ cond a.is_copied a.first.items a.bytes.items
same_first a bytes e = ap (λ (l : List ℕ). cond a.is_copied a.first.items l) e

over_written : (at : ℕ) (piece xs : List ℕ) → over at piece xs ≡ take at xs ++ piece ++ drop (at + length piece) xs
over_written at piece xs = ap (λ (l : List ℕ). take at xs ++ (piece ++ l)) (drop-drop (length piece) at xs) ∙ sym (append_assoc (take at xs) piece (drop (at + length piece) xs))

over_nothing : (at : ℕ) (xs : List ℕ) → over at [] xs ≡ xs
over_nothing at xs = take-append-drop at xs

torn_same : (at n : ℕ) (xs : List ℕ) → Torn at n xs xs
torn_same at n xs = record { before = refl; behind = refl; no_shorter = omega arith; no_longer = omega arith }

torn_nothing : (at n : ℕ) (was image : List ℕ) → n ≡ 0 → Torn at n was image → image ≡ was
torn_nothing at n was image none torn =
    let e : at + n ≡ at = omega arith in
    let behind : drop at image ≡ drop at was = ap (λ (k : ℕ). drop k image) (sym e) ∙ torn.behind ∙ ap (λ (k : ℕ). drop k was) e in
    sym (take-append-drop at image) ∙ ap (λ (l : List ℕ). l ++ drop at image) torn.before ∙ ap (λ (l : List ℕ). take at was ++ l) behind ∙ take-append-drop at was

-- what a write answers, by whether it fails
writes_contents : (at : ℕ) (piece old new : List ℕ) (fails : Bool) (result : Result (Unit {0}) Failed) → is_err result ≡ fails → new ≡ cond fails old (over at piece old) → Writes at piece (Some old) (Some new) result
writes_contents at piece old new true (Ok v) is e = absurd (cc)
writes_contents at piece old new false (Ok v) is e = e ∙ over_written at piece old
writes_contents at piece old new true (Err v) is e = subst (λ (x : List ℕ). Torn at (length piece) old x) (sym e) (torn_same at (length piece) old)
writes_contents at piece old new false (Err v) is e = absurd (cc)

unchanged_when : (old new other : List ℕ) (fails : Bool) (result : Result (Unit {0}) Failed) → is_err result ≡ fails → new ≡ cond fails old other → OnErr result (new ≡ old)
unchanged_when old new other true (Ok v) is e = tt
unchanged_when old new other false (Ok v) is e = tt
unchanged_when old new other true (Err v) is e = e
unchanged_when old new other false (Err v) is e = absurd (cc)

open_same : (n : ℕ) (xs : List ℕ) → CutBetween n xs xs
open_same n xs = record { front = sym (take_all (length xs) xs (omega arith)); no_shorter = omega arith }

cuts_contents : (n : ℕ) (old new : List ℕ) (fails : Bool) (result : Result (Unit {0}) Failed) → is_err result ≡ fails → new ≡ cond fails old (take n old) → Cuts n (Some old) (Some new) result
cuts_contents n old new true (Ok v) is e = absurd (cc)
cuts_contents n old new false (Ok v) is e = e
cuts_contents n old new true (Err v) is e = subst (λ (x : List ℕ). CutBetween n old x) (sym e) (open_same n old)
cuts_contents n old new false (Err v) is e = absurd (cc)

empty_when : (piece : List ℕ) → length piece ≡ 0 → piece ≡ []
empty_when piece e = nil_from_length piece e

abbrev pub wrote : Inside → Vec ℕ Global → Vec ℕ Global → Vec Change Global → ℕ → ℕ → ℕ → Calls → Inside
wrote a bytes pieces log spare moment faults calls =
    record a { bytes = bytes; pieces = pieces; log = log; spare = spare; moment = moment; faults = faults; calls = calls }

-- what a write does to the fields
pub record Wrote (a b : Inside) (at : ℕ) (piece : List ℕ) (begun : ℕ) (fails : Bool) : Type 0 where
  pub bytes : b.bytes.items ≡ cond fails a.bytes.items (over at piece a.bytes.items)
  pub bytes_len : vec_len b.bytes ≤ vec_len a.bytes + length piece
  pub bytes_capacity : vec_capacity a.bytes ≤ vec_capacity b.bytes
  pub pieces : b.pieces.items ≡ a.pieces.items ++ piece
  pub pieces_len : vec_len b.pieces ≡ vec_len a.pieces + length piece
  pub pieces_capacity : vec_capacity a.pieces ≤ vec_capacity b.pieces
  pub log : b.log.items ≡ cond (nat_eq (length piece) 0) a.log.items (a.log.items ++ record { begun = begun; synced = None; kind = Write at (length piece); failed = fails } ∷ [])
  pub log_len : vec_len b.log ≤ vec_len a.log + length piece
  pub log_capacity : vec_capacity a.log ≤ vec_capacity b.log
  pub begins : begun ≡ min (a.moment + 1) last_moment
  pub moment : b.moment ≡ min (a.moment + 2) last_moment
  pub faults : b.faults ≡ cond fails (counted a.faults) a.faults
  pub spare : b.spare + length piece ≡ a.spare
  pub first : b.first.items ≡ a.first.items
  pub copied : b.is_copied ≡ a.is_copied

module _ (a b : Inside) (at : ℕ) (piece : List ℕ) (begun : ℕ) (fails : Bool) (kept : IsKept a) (w : Wrote a b at piece begun fails) (within : at ≤ length a.bytes.items) where
  -- the record after a write of something
  abbrev with_noted : Bool → List Made
  with_noted failed = (memory_of a).log ++ noted a.moment (Put at piece) failed ∷ []

  -- how the write goes on: the record is sound, and the images move
  record WriteGoes : Type 0 where
    sound : IsSound (memory_of b)
    moves : Moves (Torn at (length piece)) (memory_shown (memory_of a)) (memory_shown (memory_of b))
    opens : Opens (Torn at (length piece)) (memory_shown (memory_of a)) (memory_shown (memory_of b))
    names : Renames (written_by_name at piece) (memory_shown (memory_of a)) (memory_shown (memory_of b))
    pieces : size_of_all b.log.items ≡ length b.pieces.items
    untouched : b.is_copied ≡ false → (b.log.items ≡ []) × (b.spare ≡ 0) × (b.first.items ≡ [])
    first : (memory_of b).first ≡ (memory_of a).first
    log : (memory_of b).log ≡ cond (nat_eq (length piece) 0) (memory_of a).log (with_noted fails)

  faults_fit : b.faults ≤ last_count
  faults_fit = (faults_after a.faults b.faults fails w.faults kept.sound.faults_in_range).1

  first_same : (e : b.bytes.items ≡ a.bytes.items) → cond b.is_copied b.first.items b.bytes.items ≡ cond a.is_copied a.first.items a.bytes.items
  first_same e = ap (λ (c : Bool). cond c b.first.items b.bytes.items) w.copied ∙ ap (λ (l : List ℕ). cond a.is_copied l b.bytes.items) w.first ∙ same_first a b.bytes.items e

  write_nothing : length piece ≡ 0 → WriteGoes
  write_nothing e =
      let none : piece ≡ [] = empty_when piece e in
      let bytes : b.bytes.items ≡ a.bytes.items = w.bytes ∙ same_cond fails none in
      let log : b.log.items ≡ a.log.items = w.log ∙ ap (λ (c : Bool). cond c a.log.items (a.log.items ++ record { begun = begun; synced = None; kind = Write at (length piece); failed = fails } ∷ [])) (is_zero (length piece) e) in
      let pieces : b.pieces.items ≡ a.pieces.items = w.pieces ∙ ap (λ (l : List ℕ). a.pieces.items ++ l) none ∙ append-nil a.pieces.items in
      let m = w.moment in
      let r = kept.sound.in_range in
      let idles : Idles (memory_of a) (memory_of b) = record {
        bytes = bytes;
        first = first_same bytes;
        log = ap (λ (l : List Change). log_of l b.pieces.items) log ∙ ap (λ (p : List ℕ). log_of a.log.items p) pieces;
        later = omega arith;
        in_range = omega arith;
        faults = faults_fit;
      } in
      let stays = idle_stays (memory_of a) (memory_of b) idles kept.sound in
      record {
        sound = idle_sound (memory_of a) (memory_of b) idles kept.sound;
        moves = stays_moves (Torn at (length piece)) (memory_of a) (memory_of b) (torn_same at (length piece)) stays;
        opens = stays_opens (Torn at (length piece)) (memory_of a) (memory_of b) (λ was image torn. torn_nothing at (length piece) was image e torn) stays;
        names = subst (λ (p : List ℕ). Renames (written_by_name at p) (memory_shown (memory_of a)) (memory_shown (memory_of b))) (sym none) (idle_names (written_by_name at []) (memory_of a) (memory_of b) (named_nothing at) idles kept.sound);
        pieces = ap size_of_all log ∙ kept.pieces ∙ sym (ap length pieces);
        untouched = (λ not. let u = kept.untouched (sym w.copied ∙ not) in (log ∙ u.0, (let z : a.spare ≡ 0 = u.1 in let s = w.spare in omega arith), w.first ∙ u.2));
        first = idles.first;
        log = idles.log ∙ sym (ap (λ (c : Bool). cond c (memory_of a).log (with_noted fails)) (is_zero (length piece) e));
      }
    where
      same_cond : (f : Bool) → piece ≡ [] → cond f a.bytes.items (over at piece a.bytes.items) ≡ a.bytes.items
      same_cond true none = refl
      same_cond false none = ap (λ (l : List ℕ). over at l a.bytes.items) none ∙ over_nothing at a.bytes.items

      is_zero : (n : ℕ) → n ≡ 0 → nat_eq n 0 ≡ true
      is_zero n e = grind (arith, nat_tests)

  seen_is : (state_at (memory_of a) a.moment).seen ≡ a.bytes.items
  seen_is = kept.sound.seen

  write_something : 0 < length piece → WriteGoes
  write_something more =
      let s = w.spare in
      let copied : a.is_copied ≡ true = copied_when a kept (omega arith) in
      let log : b.log.items ≡ a.log.items ++ record { begun = begun; synced = None; kind = Write at (length piece); failed = fails } ∷ [] =
      w.log ∙ ap (λ (c : Bool). cond c a.log.items (a.log.items ++ record { begun = begun; synced = None; kind = Write at (length piece); failed = fails } ∷ [])) (not_zero (length piece) more) in
      let whole : take (length piece) piece ≡ piece = take_all (length piece) piece (omega arith) in
      let made : log_of b.log.items b.pieces.items ≡ log_of a.log.items a.pieces.items ++ record { begun = begun; synced = None; step = Put at piece; failed = fails } ∷ [] =
      ap (λ (l : List Change). log_of l b.pieces.items) log
      ∙ ap (λ (p : List ℕ). log_of (a.log.items ++ record { begun = begun; synced = None; kind = Write at (length piece); failed = fails } ∷ []) p) w.pieces
      ∙ log_snoc a.log.items (record { begun = begun; synced = None; kind = Write at (length piece); failed = fails }) a.pieces.items piece kept.pieces
      ∙ ap (λ (p : List ℕ). log_of a.log.items a.pieces.items ++ record { begun = begun; synced = None; step = Put at p; failed = fails } ∷ []) whole in
      let makes : Makes (Put at piece) fails (memory_of a) (memory_of b) = record {
        bytes = w.bytes ∙ seen_cond fails;
        first = ap (λ (c : Bool). cond c b.first.items b.bytes.items) w.copied ∙ ap (λ (l : List ℕ). cond a.is_copied l b.bytes.items) w.first ∙ copied_first a b.bytes.items copied;
        begun = begun;
        begins = w.begins;
        log = made;
        moment = w.moment;
        faults = faults_fit;
      } in
      let inside : IsStepOf (Put at piece) (state_at (memory_of a) a.moment) = subst (λ (l : List ℕ). at ≤ length l) (sym seen_is) within in
      record {
        sound = made_sound (Put at piece) fails (memory_of a) (memory_of b) makes kept.sound inside;
        moves = made_moves (Put at piece) fails (memory_of a) (memory_of b) makes kept.sound inside;
        opens = made_opens (Put at piece) fails (memory_of a) (memory_of b) makes kept.sound inside;
        names = made_names (Put at piece) fails (memory_of a) (memory_of b) makes kept.sound;
        pieces = ap size_of_all log ∙ size_snoc a.log.items (record { begun = begun; synced = None; kind = Write at (length piece); failed = fails }) ∙ ap (λ (n : ℕ). n + length piece) kept.pieces ∙ sym (length-append a.pieces.items piece) ∙ sym (ap length w.pieces);
        untouched = (λ not. let both : false ≡ true = sym not ∙ (w.copied ∙ copied) in absurd (cc));
        first = makes.first;
        log = made
            ∙ ap (λ (n : ℕ). (memory_of a).log ++ record { begun = n; synced = None; step = Put at piece; failed = fails } ∷ []) w.begins
            ∙ sym (ap (λ (c : Bool). cond c (memory_of a).log (with_noted fails)) (not_zero (length piece) more));
      }
    where
      not_zero : (n : ℕ) → 0 < n → nat_eq n 0 ≡ false
      not_zero n lt = grind (arith, nat_tests)

      seen_cond : (f : Bool) → cond f a.bytes.items (over at piece a.bytes.items) ≡ (changed (Put at piece) f (state_at (memory_of a) a.moment)).seen
      seen_cond true = sym seen_is
      seen_cond false = ap (λ (l : List ℕ). over at piece l) (sym seen_is)

  write_goes : WriteGoes
  write_goes = elim (cases_lt 0 (length piece)) [ inl more ↦ write_something more | inr none ↦ write_nothing (omega arith) ]

  pub wrote_kept : IsKept b
  wrote_kept =
      let g = write_goes in
      let s = w.spare in
      let b1 = kept.bytes_room in
      let b2 = w.bytes_len in
      let b3 = w.bytes_capacity in
      let p1 = kept.pieces_room in
      let p2 = w.pieces_len in
      let p3 = w.pieces_capacity in
      let l1 = kept.log_room in
      let l2 = w.log_len in
      let l3 = w.log_capacity in
      record {
        bytes_room = omega arith;
        pieces_room = omega arith;
        log_room = omega arith;
        pieces = g.pieces;
        untouched = g.untouched;
        sound = g.sound;
      }

  pub wrote_writes : (old : Memory) (result : Result (Unit {0}) Failed) → memory_of a ≡ old → is_err result ≡ fails → WritesAt at piece old (memory_of b) result
  wrote_writes old result view_is answered =
      let g = write_goes in
      let s = w.spare in
      subst (λ (o : Memory). WritesAt at piece o (memory_of b) result) view_is (record {
        contents = writes_contents at piece a.bytes.items b.bytes.items fails result answered w.bytes;
        unchanged = unchanged_when a.bytes.items b.bytes.items (over at piece a.bytes.items) fails result answered w.bytes;
        spare = omega arith;
        crash = g.moves;
        opens = g.opens;
        names = g.names;
        first = g.first;
        log = g.log ∙ ap (λ (f : Bool). cond (nat_eq (length piece) 0) (memory_of a).log (with_noted f)) (sym answered);
      })

-- what a cut does to the fields
pub record Shortened (a b : Inside) (size begun : ℕ) (fails : Bool) : Type 0 where
  pub bytes : b.bytes.items ≡ cond fails a.bytes.items (take size a.bytes.items)
  pub bytes_len : vec_len b.bytes ≤ vec_len a.bytes
  pub bytes_capacity : vec_capacity a.bytes ≤ vec_capacity b.bytes
  pub pieces : b.pieces.items ≡ a.pieces.items
  pub pieces_len : vec_len b.pieces ≡ vec_len a.pieces
  pub pieces_capacity : vec_capacity a.pieces ≤ vec_capacity b.pieces
  pub log : b.log.items ≡ a.log.items ++ record { begun = begun; synced = None; kind = Cut size; failed = fails } ∷ []
  pub log_len : vec_len b.log ≡ vec_len a.log + 1
  pub log_capacity : vec_capacity b.log ≡ vec_capacity a.log
  pub begins : begun ≡ min (a.moment + 1) last_moment
  pub moment : b.moment ≡ min (a.moment + 2) last_moment
  pub faults : b.faults ≡ cond fails (counted a.faults) a.faults
  pub spare : b.spare + 1 ≡ a.spare
  pub first : b.first.items ≡ a.first.items
  pub copied : b.is_copied ≡ a.is_copied

module _ (a b : Inside) (size begun : ℕ) (fails : Bool) (kept : IsKept a) (w : Shortened a b size begun fails) where
  cut_copied : a.is_copied ≡ true
  cut_copied = let s = w.spare in copied_when a kept (omega arith)

  cut_makes : Makes (Shorten size) fails (memory_of a) (memory_of b)
  cut_makes = record {
    bytes = w.bytes ∙ seen_cond fails;
    first = ap (λ (c : Bool). cond c b.first.items b.bytes.items) w.copied ∙ ap (λ (l : List ℕ). cond a.is_copied l b.bytes.items) w.first ∙ copied_first a b.bytes.items cut_copied;
    begun = begun;
    begins = w.begins;
    log = ap (λ (l : List Change). log_of l b.pieces.items) w.log
        ∙ ap (λ (p : List ℕ). log_of (a.log.items ++ record { begun = begun; synced = None; kind = Cut size; failed = fails } ∷ []) p) (w.pieces ∙ sym (append-nil a.pieces.items))
        ∙ log_snoc a.log.items (record { begun = begun; synced = None; kind = Cut size; failed = fails }) a.pieces.items [] kept.pieces;
    moment = w.moment;
    faults = (faults_after a.faults b.faults fails w.faults kept.sound.faults_in_range).1;
  }
    where
      seen_cond : (f : Bool) → cond f a.bytes.items (take size a.bytes.items) ≡ (changed (Shorten size) f (state_at (memory_of a) a.moment)).seen
      seen_cond true = sym kept.sound.seen
      seen_cond false = ap (λ (l : List ℕ). take size l) (sym kept.sound.seen)

  pub cut_kept : IsKept b
  cut_kept =
      let s = w.spare in
      let b1 = kept.bytes_room in
      let b2 = w.bytes_len in
      let b3 = w.bytes_capacity in
      let p1 = kept.pieces_room in
      let p2 = w.pieces_len in
      let p3 = w.pieces_capacity in
      let l1 = kept.log_room in
      let l2 = w.log_len in
      let l3 = w.log_capacity in
      record {
        bytes_room = omega arith;
        pieces_room = omega arith;
        log_room = omega arith;
        pieces = ap size_of_all w.log ∙ size_snoc a.log.items (record { begun = begun; synced = None; kind = Cut size; failed = fails }) ∙ add-zero (size_of_all a.log.items) ∙ kept.pieces ∙ sym (ap length w.pieces);
        untouched = (λ not. let both : false ≡ true = sym not ∙ (w.copied ∙ cut_copied) in absurd (cc));
        sound = made_sound (Shorten size) fails (memory_of a) (memory_of b) cut_makes kept.sound tt;
      }

  pub cut_cuts : (old : Memory) (result : Result (Unit {0}) Failed) → memory_of a ≡ old → is_err result ≡ fails → CutsAt size old (memory_of b) result
  cut_cuts old result view_is answered =
      let s = w.spare in
      subst (λ (o : Memory). CutsAt size o (memory_of b) result) view_is (record {
        contents = cuts_contents size a.bytes.items b.bytes.items fails result answered w.bytes;
        unchanged = unchanged_when a.bytes.items b.bytes.items (take size a.bytes.items) fails result answered w.bytes;
        spare = omega arith;
        crash = made_moves (Shorten size) fails (memory_of a) (memory_of b) cut_makes kept.sound tt;
        opens = made_opens (Shorten size) fails (memory_of a) (memory_of b) cut_makes kept.sound tt;
        names = made_names (Shorten size) fails (memory_of a) (memory_of b) cut_makes kept.sound;
        first = cut_makes.first;
        log = cut_makes.log
            ∙ ap (λ (n : ℕ). (memory_of a).log ++ record { begun = n; synced = None; step = Shorten size; failed = fails } ∷ []) cut_makes.begins
            ∙ ap (λ (f : Bool). (memory_of a).log ++ noted a.moment (Shorten size) f ∷ []) (sym answered);
      })

-- A sync that succeeds.
abbrev pub synced : Inside → Vec Change Global → ℕ → ℕ → Calls → Inside
synced a log moment faults calls = record a { log = log; moment = moment; faults = faults; calls = calls }

module _ (a : Inside) (log : Vec Change Global) (moment faults : ℕ) (calls : Calls) (kept : IsKept a) (e : moment ≡ min (a.moment + 2) last_moment) (f : faults ≤ last_count)
    (sure : MakesSure moment a.log.items log.items) (room : vec_capacity log ≡ vec_capacity a.log) (len : vec_len log ≡ vec_len a.log) where
  abbrev after : Inside
  after = synced a log moment faults calls

  secures : Secures (memory_of a) (memory_of after)
  secures = record { bytes = refl; first = refl; moment = e; faults = f; log = ⊎_elim (λ n. inl (none n.0 n.1)) (λ s. inr (some s.0 s.1 s.2 s.3)) sure }
    where
      none : a.log.items ≡ [] → log.items ≡ [] → (log_of a.log.items a.pieces.items ≡ []) × (log_of log.items a.pieces.items ≡ [])
      none before now = (ap (λ (l : List Change). log_of l a.pieces.items) before, ap (λ (l : List Change). log_of l a.pieces.items) now)

      some : (front : List Change) (last : Change) → a.log.items ≡ front ++ last ∷ [] → log.items ≡ front ++ made_sure moment last ∷ []
          → (fr : List Made) × (la : Made) × (log_of a.log.items a.pieces.items ≡ fr ++ la ∷ []) × (log_of log.items a.pieces.items ≡ fr ++ secured moment la ∷ [])
      some front last before now = (
        log_of front a.pieces.items,
        made_of last (drop (size_of_all front) a.pieces.items),
        ap (λ (l : List Change). log_of l a.pieces.items) before ∙ log_last front last a.pieces.items,
        ap (λ (l : List Change). log_of l a.pieces.items) now ∙ log_last front (made_sure moment last) a.pieces.items,
      )

  pub sync_kept : IsKept after
  sync_kept = record {
    bytes_room = kept.bytes_room;
    pieces_room = kept.pieces_room;
    log_room = (let l = kept.log_room in omega arith);
    pieces = ⊎_elim (λ n. ap size_of_all (n.1 ∙ sym n.0) ∙ kept.pieces) (λ s. same_size s.0 s.1 s.2 s.3 ∙ kept.pieces) sure;
    untouched = (λ not. let u = kept.untouched not in (⊎_elim (λ n. n.1) (λ s. absurd (not_nil s.0 s.1 (sym s.2 ∙ u.0))) sure, u.1, u.2));
    sound = secure_sound (memory_of a) (memory_of after) secures kept.sound;
  }
    where
      not_nil : (front : List Change) (last : Change) → front ++ last ∷ [] ≡ [] → ⊥
      not_nil [] last is = cc
      not_nil (x ∷ front) last is = cc

      same_size : (front : List Change) (last : Change) → a.log.items ≡ front ++ last ∷ [] → log.items ≡ front ++ made_sure moment last ∷ [] → size_of_all log.items ≡ size_of_all a.log.items
      same_size front last before now = ap size_of_all now ∙ size_snoc front (made_sure moment last) ∙ sym (size_snoc front last) ∙ sym (ap size_of_all before)

  pub sync_syncs : (old : Memory) → memory_of a ≡ old → Syncs old (memory_of after) (Ok tt)
  sync_syncs old view_is = subst (λ (o : Memory). Syncs o (memory_of after) (Ok tt)) view_is (record {
    rest = secure_rest (memory_of a) (memory_of after) secures kept.sound;
    bytes = refl;
    spare = omega arith;
    crash = secure_moves (memory_of a) (memory_of after) secures kept.sound;
    opens = secure_opens (memory_of a) (memory_of after) secures kept.sound;
    names = secure_names (memory_of a) (memory_of after) secures kept.sound;
    first = refl;
    log = secures.log;
  })

-- a disk that was just made
pub fresh_sound : (bytes : List ℕ) (listed : Listed) → IsSound (fresh bytes listed)
fresh_sound bytes listed = record {
  in_range = omega arith;
  faults_in_range = omega arith;
  dated = tt;
  seen = refl;
  sound = λ m. sound_rest bytes;
}
