-- What the steps of a cutter do to the text that is unread.
use Rattle.std.proofs.Common.{◌≡◌, ◌≢◌, inl, ℕ, suc, ◌+◌, ◌-◌, ◌<◌, ◌≤◌, Bool, true, false, List, [], ◌∷◌, ◌++◌, length, get_or, take, drop, refl, sym, ap, ◌∙◌, subst, arith, None, Some, append_assoc, append-nil, length-append, length-take, length-drop, add-one}
use Rattle.std.specs.Prelude.{Option}
use Rattle.std.specs.Io.KnownBytes.{prepend_known, IsAtEnd}
use Rattle.std.proofs.KnownBytes.{prepend_known-nil}
use Rattle.std.proofs.lemmas.List.{take-append-le, take-append-drop, get_or-take, take-take, nil_from_length}
use Rattle.std.proofs.lemmas.List.Elements.{All-nil, All-append}
use Rattle.std.proofs.Math.Seq.{take-append-add, drop-cons}
use Rattle.rep_io.specs.Lines.{run_text, runs_of, line_feed, longest_line, longest_text}
use Rattle.rep_io.specs.Cutter.{Cutter, IsCutter, room_of, HasNoLineFeed, IsUnread, TakesRun, GoesOnPast, IsOver, IsAtLimit}
use Rattle.rep_io.specs.Next.{Tells, TakesLine, IsOfLine, Gives}
use Rattle.rep_io.specs.Steps.{in_room, AsksOnce, EndsAt, NeedsMore, StepsTo, GivesNow, PassesOver}
use Rattle.rep_io.specs.declared.next.Next.{Next}
use Rattle.rep_io.specs.declared.next.Next.TheVariants.{Line, TooLong, End, SourceFault, InputLimit}
use Rattle.rep_io.proofs.KnownBytes.{prepend_known-append}
use Rattle.rep_io.proofs.LineLemmas.{runs_of-ended, runs_of-whole, length-line_of}
use Rattle.rep_io.proofs.AskingLemmas.{HasAsked, HasAsked-more}

-- ---- known bytes

-- what is left behind the bytes of a known front
pub known_rest : (held rest : List ℕ) (o : Option (List ℕ)) → prepend_known held o ≡ Some rest → (y : List ℕ) × (o ≡ Some y) × (rest ≡ held ++ y)
known_rest held rest None e = cc
known_rest held rest (Some y) e = let same : rest ≡ held ++ y = cc in (y, refl, same)

pub nothing_left : (y : List ℕ) (o : Option (List ℕ)) → o ≡ Some y → IsAtEnd o → y ≡ []
nothing_left y None e end = cc
nothing_left y (Some z) e end = let same : y ≡ z = cc in same ∙ end

-- ---- the first line feed

abbrev pub IsNoFeed : ℕ → Type 0
IsNoFeed b = b ≢ line_feed

-- a list is split at its first line feed, which may be sought in a front of it
pub split_at_feed : (held : List ℕ) (n at : ℕ) → EndsAt (take n held) at
    → (at < length held) × (at < n) × HasNoLineFeed (take at held) × (held ≡ take at held ++ line_feed ∷ drop (at + 1) held)
split_at_feed held n at ends =
    let long = ends.within in
    let within : at < length held = omega (arith, length-take n held) in
    let inside : at < n = omega (arith, length-take n held) in
    let is : get_or held at 0 ≡ line_feed = sym (get_or-take n held at 0 inside) ∙ ends.feed in
    let front : take at (take n held) ≡ take at held = take-take at n held (omega arith) in
    let P : List ℕ → Type 0 = HasNoLineFeed in (
      within,
      inside,
      subst P front ends.before,
      sym (take-append-drop at held)
          ∙ ap (λ xs. take at held ++ xs) (drop-cons held at 0 within ∙ ap (λ b. b ∷ drop (suc at) held) is)
          ∙ ap (λ k. take at held ++ line_feed ∷ drop k held) (sym (add-one at)),
    )

regroup : (p a b y : List ℕ) (l : ℕ) → p ++ ((a ++ l ∷ b) ++ y) ≡ (p ++ a) ++ l ∷ (b ++ y)
regroup p a b y l = simp append_assoc

regroup_text : (p a b : List ℕ) (l : ℕ) → (p ++ a) ++ l ∷ b ≡ ((p ++ a) ++ l ∷ []) ++ b
regroup_text p a b l = simp append_assoc

-- ---- steps

module _ {S : Type 0} (left : S → Option (List ℕ)) where
  -- a line that goes on was passed over
  pub unread-passed : (c d : Cutter S) → HasNoLineFeed c.held → d.source ≡ c.source → d.passed ≡ c.passed + length c.held → d.held ≡ []
      → (text : List ℕ) → IsUnread left c text → IsUnread left d text
  unread-passed c d none same_source passed empty text u =
      let known = known_rest c.held u.1 (left c.source) u.4 in (
        u.0 ++ c.held,
        known.0,
        length-append u.0 c.held ∙ ap (λ n. n + length c.held) u.2 ∙ sym passed,
        All-append IsNoFeed u.0 c.held u.3 none,
        ap (λ s. prepend_known d.held (left s)) same_source ∙ ap (λ h. prepend_known h (left c.source)) empty ∙ ap (prepend_known []) known.1,
        u.5 ∙ ap (λ r. u.0 ++ r) known.2 ∙ sym (append_assoc u.0 c.held known.0),
      )

  -- more is held
  pub unread-filled : (c d : Cutter S) (bytes : List ℕ) → d.passed ≡ c.passed → d.held ≡ c.held ++ bytes → left c.source ≡ prepend_known bytes (left d.source)
      → (text : List ℕ) → IsUnread left c text → IsUnread left d text
  unread-filled c d bytes passed held drawn text u = (
    u.0,
    u.1,
    u.2 ∙ sym passed,
    u.3,
    ap (λ h. prepend_known h (left d.source)) held ∙ prepend_known-append c.held bytes (left d.source)
        ∙ ap (prepend_known c.held) (sym drawn) ∙ u.4,
    u.5,
  )

  -- a line was given that a line feed ends
  pub takes-ended : (c d : Cutter S) (next : Next) (at : ℕ) → IsCutter left c → EndsAt (in_room c) at → d.source ≡ c.source → d.taken ≡ c.taken
      → d.passed ≡ 0 → d.held ≡ drop (at + 1) c.held
      → ((passed : List ℕ) → length passed ≡ c.passed → Tells next (record { bytes = passed ++ take at c.held; ended = true }))
      → (text : List ℕ) → IsUnread left c text → TakesLine left c d next text
  takes-ended c d next at sound ends same_source same_taken no_passed kept tells text u =
      let known = known_rest c.held u.1 (left c.source) u.4 in
      let split = split_at_feed c.held (length c.held - (c.taken - longest_text)) at ends in
      let front = take at c.held in
      let rest = drop (at + 1) c.held ++ known.0 in
      let shape = u.5 ∙ ap (λ r. u.0 ++ r) (known.2 ∙ ap (λ h. h ++ known.0) split.3) ∙ regroup u.0 front (drop (at + 1) c.held) known.0 line_feed in
      let long : length ((u.0 ++ front) ++ line_feed ∷ []) ≡ c.passed + at + 1 =
      simp (length-append, length-take) (omega (arith, u.2)) in
      record {
        run = record { bytes = u.0 ++ front; ended = true };
        rest = rest;
        takes = record {
          whole = shape ∙ regroup_text u.0 front rest line_feed;
          first = ap runs_of shape ∙ runs_of-ended (u.0 ++ front) rest (All-append IsNoFeed u.0 front u.3 split.2);
          in_room = omega (arith, sound.inside, sound.taken, sound.past);
        };
        tells = tells u.0 u.2;
        unread = (
          [],
          rest,
          sym no_passed,
          All-nil IsNoFeed,
          ap (λ s. prepend_known d.held (left s)) same_source ∙ ap (λ h. prepend_known h (left c.source)) kept
              ∙ ap (prepend_known (drop (at + 1) c.held)) known.1,
          refl,
        );
        start = omega (arith, sound.inside, ap length kept, length-drop (at + 1) c.held, u.2);
      }

  -- the last line was given
  pub takes-last : (c d : Cutter S) (next : Next) → IsCutter left c → c.ended ≡ true → HasNoLineFeed c.held → 0 < c.passed + length c.held
      → d.source ≡ c.source → d.taken ≡ c.taken → d.passed ≡ 0 → d.held ≡ []
      → ((passed : List ℕ) → length passed ≡ c.passed → Tells next (record { bytes = passed ++ c.held; ended = false }))
      → (text : List ℕ) → IsUnread left c text → TakesLine left c d next text
  takes-last c d next sound over none some same_source same_taken no_passed empty tells text u =
      let known = known_rest c.held u.1 (left c.source) u.4 in
      let end = nothing_left known.0 (left c.source) known.1 (sound.at_end over) in
      let in_room = sound.end_in_room over in
      let shape : text ≡ u.0 ++ c.held =
      u.5 ∙ ap (λ r. u.0 ++ r) (known.2 ∙ ap (λ y. c.held ++ y) end ∙ append-nil c.held) in
      let long : length (u.0 ++ c.held) ≡ c.passed + length c.held = length-append u.0 c.held ∙ ap (λ n. n + length c.held) u.2 in
      let long_text : length ((u.0 ++ c.held) ++ []) ≡ c.passed + length c.held = ap length (append-nil (u.0 ++ c.held)) ∙ long in
      let all_long : length text ≡ c.passed + length c.held = ap length shape ∙ long in
      record {
        run = record { bytes = u.0 ++ c.held; ended = false };
        rest = [];
        takes = record {
          whole = shape ∙ sym (append-nil ((u.0 ++ c.held) ++ []) ∙ append-nil (u.0 ++ c.held));
          first = ap runs_of shape ∙ runs_of-whole (u.0 ++ c.held) (omega arith) (All-append IsNoFeed u.0 c.held u.3 none);
          in_room = omega (arith, sound.inside);
        };
        tells = tells u.0 u.2;
        unread = (
          [],
          [],
          sym no_passed,
          All-nil IsNoFeed,
          ap (λ s. prepend_known d.held (left s)) same_source ∙ ap (λ h. prepend_known h (left c.source)) empty
              ∙ ap (prepend_known []) known.1 ∙ ap Some end,
          refl,
        );
        start = omega (arith, sound.inside, ap length empty);
      }

  -- nothing is left
  pub text-over : (c : Cutter S) → IsCutter left c → IsOver c → (text : List ℕ) → IsUnread left c text → text ≡ []
  text-over c sound over text u =
      let known = known_rest c.held u.1 (left c.source) u.4 in
      let end = nothing_left known.0 (left c.source) known.1 (sound.at_end over.ended) in
      let none = nil_from_length u.0 (u.2 ∙ over.none_passed) in
      u.5 ∙ ap (λ p. p ++ u.1) none ∙ known.2 ∙ ap (λ h. h ++ known.0) over.none_held ∙ end

  pub Gives-of_line : (c d : Cutter S) (next : Next) (text : List ℕ) → IsOfLine next → TakesLine left c d next text → Gives left c d next text
  Gives-of_line c d (Line bytes crlf) text kind takes = takes
  Gives-of_line c d TooLong text kind takes = takes
  Gives-of_line c d End text kind takes = absurd kind
  Gives-of_line c d SourceFault text kind takes = absurd kind
  Gives-of_line c d InputLimit text kind takes = absurd kind

  -- the text goes on past its limit
  pub goes_on-past : (c : Cutter S) → IsCutter left c → longest_text < c.taken → HasNoLineFeed (in_room c)
      → (text : List ℕ) → IsUnread left c text → GoesOnPast (room_of c) text
  goes_on-past c sound past none text u =
      let known = known_rest c.held u.1 (left c.source) u.4 in
      let shape : text ≡ u.0 ++ (c.held ++ known.0) = u.5 ∙ ap (λ r. u.0 ++ r) known.2 in
      let some = sound.past past in
      let front = length c.held - (c.taken - longest_text) in
      let room : room_of c ≡ length u.0 + front = omega (arith, sound.taken, sound.inside, u.2) in
      let cut : take (room_of c) text ≡ u.0 ++ take front c.held =
      ap (λ n. take n text) room ∙ ap (take (length u.0 + front)) shape ∙ take-append-add u.0 (c.held ++ known.0) front
      ∙ ap (λ xs. u.0 ++ xs) (take-append-le front c.held known.0 (omega arith)) in
      let long : length text ≡ length u.0 + (length c.held + length known.0) =
      ap length shape ∙ length-append u.0 (c.held ++ known.0) ∙ ap (λ n. length u.0 + n) (length-append c.held known.0) in
      let P : List ℕ → Type 0 = HasNoLineFeed in
      record {
        longer = omega (arith, sound.taken);
        no_end = subst P (sym cut) (All-append IsNoFeed u.0 (take front c.held) u.3 none);
      }

  pub PassesOver-of : (c d : Cutter S) → HasNoLineFeed c.held → d.source ≡ c.source → d.taken ≡ c.taken → d.ended ≡ c.ended
      → d.passed ≡ c.passed + length c.held → d.held ≡ [] → PassesOver left c d
  PassesOver-of c d none same_source same_taken same_ended passed empty = record {
    unread = unread-passed c d none same_source passed empty;
    start = omega (arith, ap length empty);
    nothing = record { source = same_source; taken = same_taken };
    ended = same_ended;
    few = omega (arith, ap length empty);
  }

-- a run of which so much was passed over has a line that is too long
pub Tells-long : (passed front : List ℕ) (ended : Bool) → longest_line + 2 ≤ length passed → Tells TooLong (record { bytes = passed ++ front; ended = ended })
Tells-long passed front ended long =
    omega (arith, length-append passed front, length-line_of (record { bytes = passed ++ front; ended = ended }))

-- a run of which nothing was passed over
pub Tells-short : (next : Next) (passed front : List ℕ) (ended : Bool) → length passed ≡ 0 → Tells next (record { bytes = front; ended = ended })
    → Tells next (record { bytes = passed ++ front; ended = ended })
Tells-short next passed front ended none tells =
    let P : List ℕ → Type 0 = λ p. Tells next (record { bytes = p ++ front; ended = ended }) in
    subst P (sym (nil_from_length passed none)) tells

module _ {S : Type 0} (left : S → Option (List ℕ)) where
  -- the limit is told
  pub GivesNow-limit : (c : Cutter S) → IsCutter left c → c.ended ≡ false → longest_text < c.taken → HasNoLineFeed (in_room c) → GivesNow left c c InputLimit
  GivesNow-limit c sound going_on past none =
      let all : c.taken ≡ longest_text + 1 = omega (arith, sound.taken) in
      let P : List ℕ → Type 0 = HasNoLineFeed in
      let front : length c.held - (c.taken - longest_text) ≡ length c.held - 1 = omega arith in
      let at_limit : IsAtLimit c = record { taken = all; under_way = omega (arith, sound.past past); no_end = subst P (ap (λ n. take n c.held) front) none } in
      record {
        gives = λ text u. (goes_on-past left c sound past none text u, record { unread = u; start = refl });
        advances = λ of_line. absurd of_line;
        nothing = record { source = refl; taken = refl };
        no_fault = λ e. cc;
        over = λ e. cc;
        stays_over = λ over. let both = over.ended in cc;
        limit = λ _. at_limit;
        stays_at_limit = λ _. (refl, at_limit);
      }

module _ {S : Type 0} (left : S → Option (List ℕ)) (faults : S → ℕ) where
  -- a step that passes over a line that is too long, and then reads
  pub StepsTo-filled : (b c d : Cutter S) (bytes : List ℕ) → PassesOver left b c → d.passed ≡ c.passed → d.held ≡ c.held ++ bytes
      → d.taken ≡ c.taken + length bytes → left c.source ≡ prepend_known bytes (left d.source) → faults c.source ≤ faults d.source → StepsTo left faults b d
  StepsTo-filled b c d bytes passes passed held taken drawn later = record {
    unread = λ text u. unread-filled left c d bytes passed held drawn text (passes.unread text u);
    start = omega (arith, passes.start, ap length held, length-append c.held bytes);
    draws = (bytes, omega (arith, passes.nothing.taken), ap left (sym passes.nothing.source) ∙ drawn);
    later = omega (arith, ap faults passes.nothing.source);
  }

  -- the read of a step failed
  pub StepsTo-failed : (b c d : Cutter S) → PassesOver left b c → d.passed ≡ c.passed → d.held ≡ c.held → d.taken ≡ c.taken
      → left d.source ≡ left c.source → faults c.source ≤ faults d.source → StepsTo left faults b d
  StepsTo-failed b c d passes passed held taken same later =
      StepsTo-filled b c d [] passes passed (held ∙ sym (append-nil c.held)) (omega arith)
      (sym same ∙ sym (prepend_known-nil (left d.source))) later

-- what the steps so far of a call of `next` have done
pub record HasStepped {S : Type 0} (left : S → Option (List ℕ)) (faults : S → ℕ) (old now : Cutter S) : Type 0 where
  pub steps : StepsTo left faults old now
  pub asked : HasAsked left old now
  pub kept : faults now.source ≡ faults old.source
  pub over : IsOver old → IsOver now
  pub limit : IsAtLimit old → IsAtLimit now

module _ {S : Type 0} (left : S → Option (List ℕ)) (faults : S → ℕ) where
  pub HasStepped-none : (c : Cutter S) → HasStepped left faults c c
  HasStepped-none c = record {
    steps = record {
      unread = λ text u. u;
      start = refl;
      draws = ([], omega arith, sym (prepend_known-nil (left c.source)));
      later = omega arith;
    };
    asked = inl refl;
    kept = refl;
    over = λ over. over;
    limit = λ limit. limit;
  }

  pub StepsTo-trans : (b c d : Cutter S) → StepsTo left faults b c → StepsTo left faults c d → StepsTo left faults b d
  StepsTo-trans b c d first second = record {
    unread = λ text u. second.unread text (first.unread text u);
    start = second.start ∙ first.start;
    draws = (
      first.draws.0 ++ second.draws.0,
      omega (arith, first.draws.1, second.draws.1, length-append first.draws.0 second.draws.0),
      first.draws.2 ∙ ap (prepend_known first.draws.0) second.draws.2
          ∙ sym (prepend_known-append first.draws.0 second.draws.0 (left d.source)),
    );
    later = omega (arith, first.later, second.later);
  }

  -- a further step, of a cutter that needs more and so is neither over nor at the limit
  pub HasStepped-more : (b c d : Cutter S) → HasStepped left faults b c → NeedsMore c → StepsTo left faults c d → AsksOnce left c d
      → faults d.source ≡ faults c.source → HasStepped left faults b d
  HasStepped-more b c d first needs second once kept = record {
    steps = StepsTo-trans b c d first.steps second;
    asked = HasAsked-more left b c d first.asked needs once;
    kept = kept ∙ first.kept;
    over = λ over. let ended = (first.over over).ended in let going_on = needs.going_on in cc;
    limit = λ limit. absurd (omega (arith, (first.limit limit).taken, needs.room));
  }

  TakesLine-after : (b c d : Cutter S) (next : Next) → StepsTo left faults b c → (text : List ℕ) → TakesLine left c d next text → TakesLine left b d next text
  TakesLine-after b c d next steps text takes =
      let room : room_of c ≡ room_of b = ap (λ n. longest_text - n) steps.start in
      let P : ℕ → Type 0 = λ n. TakesRun n text takes.run takes.rest in
      record {
        run = takes.run;
        rest = takes.rest;
        takes = subst P room takes.takes;
        tells = takes.tells;
        unread = takes.unread;
        start = takes.start ∙ ap (λ n. n + length (run_text takes.run)) steps.start;
      }

  -- what is given after some steps
  pub Gives-after : (b c d : Cutter S) (next : Next) → StepsTo left faults b c → (text : List ℕ) → Gives left c d next text → Gives left b d next text
  Gives-after b c d (Line bytes crlf) steps text gives = TakesLine-after b c d (Line bytes crlf) steps text gives
  Gives-after b c d TooLong steps text gives = TakesLine-after b c d TooLong steps text gives
  Gives-after b c d End steps text gives = gives
  Gives-after b c d SourceFault steps text gives = record { unread = gives.unread; start = gives.start ∙ steps.start }
  Gives-after b c d InputLimit steps text gives =
      let room : room_of c ≡ room_of b = ap (λ n. longest_text - n) steps.start in
      let P : ℕ → Type 0 = λ n. GoesOnPast n text in
      (subst P room gives.0, record { unread = gives.1.unread; start = gives.1.start ∙ steps.start })
