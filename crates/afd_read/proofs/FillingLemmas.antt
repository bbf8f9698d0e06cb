-- What was read of a source so far.
use Rattle.std.proofs.Common.{◌≡◌, ◌≢◌, inl, inr, Bool, true, false, append_assoc, ℕ, ◌+◌, ◌<◌, ◌≤◌, List, [], ◌++◌, length, refl, sym, ap, ◌∙◌, arith, length-append, append-nil}
use Rattle.std.specs.Prelude.{Option}
use Rattle.std.specs.Io.KnownBytes.{prepend_known, IsAtEnd}
use Rattle.std.proofs.KnownBytes.{prepend_known-nil}
use Rattle.std.proofs.lemmas.Bool.{true≢false}
use Rattle.std.proofs.lemmas.List.Elements.{All-nil}
use Rattle.rep_io.specs.Lines.{line_feed, longest_line, longest_text}
use Rattle.rep_io.specs.Transfer.{Takes}
use Rattle.rep_io.proofs.TransferLemmas.{taken-more}
use Rattle.afd_read.specs.Filling.{piece_size, most_before_refusal, ShowsFirst, TellsByLast, IsJudgedEarly, AppendsPiece, FillsFirst, FillsRest, IsPastLimit}

-- the bytes were read behind those that were there, a text's at most, and no read failed
pub record HasFilled (left left' : Option (List ℕ)) (before faults : ℕ) (old new : List ℕ) : Type 0 where
  pub bytes : List ℕ
  pub appended : new ≡ old ++ bytes
  pub taken : left ≡ prepend_known bytes left'
  pub in_room : length new ≤ longest_text
  pub sound : faults ≡ before

pub HasFilled-none : (left : Option (List ℕ)) (faults : ℕ) (old : List ℕ) → length old ≤ longest_text
    → HasFilled left left faults faults old old
HasFilled-none left faults old room = record {
  bytes = [];
  appended = sym (append-nil old);
  taken = sym (prepend_known-nil left);
  in_room = room;
  sound = refl;
}

-- those that were read first are all, no more than one piece behind a line
pub record HasFirst (left left' : Option (List ℕ)) (before faults : ℕ) (bytes piece : List ℕ) : Type 0 where
  pub taken : left ≡ prepend_known bytes left'
  pub few : length bytes ≤ most_before_refusal
  pub by_last : TellsByLast bytes
  pub sound : faults ≡ before
  pub size : length piece ≡ piece_size

-- no bytes show no line
nothing_shown : ShowsFirst [] → ⊥
nothing_shown (inl feed) = let P : ℕ → Type 0 = λ b. b ≢ line_feed in feed (All-nil P)
nothing_shown (inr long) = omega arith

pub HasFirst-none : (left : Option (List ℕ)) (faults : ℕ) (bytes piece : List ℕ) → bytes ≡ [] → length piece ≡ piece_size
    → HasFirst left left faults faults bytes piece
HasFirst-none left faults bytes piece empty size = record {
  taken = rw empty (sym (prepend_known-nil left));
  few = omega (arith, ap length empty);
  by_last = record {
    before = [];
    last = [];
    split = empty;
    untold = nothing_shown;
    few = omega arith;
  };
  sound = refl;
  size = size;
}

pub HasFirst-more : (left left' left'' : Option (List ℕ)) (before faults later : ℕ) (bytes new piece other : List ℕ) (came : Bool)
    → HasFirst left left' before faults bytes piece → (ShowsFirst bytes → ⊥)
    → AppendsPiece left' left'' bytes new came → length other ≡ piece_size → later ≡ faults
    → HasFirst left left'' before later new other
HasFirst-more left left' left'' before faults later bytes new piece other came so_far unclear more size same =
    let short : longest_line + 1 < length bytes → ⊥ = λ long. unclear (inr long) in
    record {
      taken = taken-more left left' left'' bytes more.bytes so_far.taken more.taken
          ∙ ap (λ (all : List ℕ). prepend_known all left'') (sym more.appended);
      few = omega (arith, more.few, ap length more.appended, length-append bytes more.bytes);
      by_last = record {
        before = bytes;
        last = more.bytes;
        split = more.appended;
        untold = unclear;
        few = more.few;
      };
      sound = same ∙ so_far.sound;
      size = size;
    }

pub HasFilled-more : (left left' left'' : Option (List ℕ)) (before faults later : ℕ) (old bytes new : List ℕ) (came : Bool)
    → HasFilled left left' before faults old bytes → AppendsPiece left' left'' bytes new came → length new ≤ longest_text
    → later ≡ faults → HasFilled left left'' before later old new
HasFilled-more left left' left'' before faults later old bytes new came so_far more in_room same = record {
  bytes = so_far.bytes ++ more.bytes;
  appended = more.appended ∙ ap (λ (all : List ℕ). all ++ more.bytes) so_far.appended
      ∙ append_assoc old so_far.bytes more.bytes;
  taken = taken-more left left' left'' so_far.bytes more.bytes so_far.taken more.taken;
  in_room = in_room;
  sound = same ∙ so_far.sound;
}

-- the source had nothing more
pub filled_all : (left left' left'' : Option (List ℕ)) (before faults : ℕ) (old bytes new : List ℕ) (ended : Bool)
    → HasFilled left left' before faults old bytes → AppendsPiece left' left'' bytes new false → ended ≡ false
    → FillsRest left left'' old new ended
filled_all left left' left'' before faults old bytes new ended so_far last going_on =
    let end = last.none refl in
    let same : new ≡ bytes = last.appended ∙ ap (λ (more : List ℕ). bytes ++ more) end.0 ∙ append-nil bytes in
    let none : left' ≡ left'' =
    last.taken ∙ ap (λ (more : List ℕ). prepend_known more left'') end.0 ∙ prepend_known-nil left'' in
    record {
      bytes = so_far.bytes;
      appended = same ∙ so_far.appended;
      taken = so_far.taken ∙ ap (prepend_known so_far.bytes) none;
      at_end = end.1;
      in_room = omega (arith, so_far.in_room, ap length same);
      none = λ yes. absurd (true≢false (sym yes ∙ going_on));
    }

-- it had ended before
pub filled_none : (left : Option (List ℕ)) (old : List ℕ) (ended : Bool) → length old ≤ longest_text → IsAtEnd left
    → FillsRest left left old old ended
filled_none left old ended room end = record {
  bytes = [];
  appended = sym (append-nil old);
  taken = sym (prepend_known-nil left);
  at_end = end;
  in_room = room;
  none = λ _. refl;
}

-- it had more than a text may have
pub past_limit : (left left' left'' : Option (List ℕ)) (before faults : ℕ) (old bytes new : List ℕ) (came : Bool)
    → HasFilled left left' before faults old bytes → AppendsPiece left' left'' bytes new came → longest_text < length new
    → IsPastLimit left left'' old
past_limit left left' left'' before faults old bytes new came so_far more past =
    let all = so_far.bytes ++ more.bytes in
    let same : new ≡ old ++ all =
    more.appended ∙ ap (λ (text : List ℕ). text ++ more.bytes) so_far.appended ∙ append_assoc old so_far.bytes more.bytes in (
      all,
      taken-more left left' left'' so_far.bytes more.bytes so_far.taken more.taken,
      omega (arith, more.in_room, ap length same),
    )

-- what was read first, at the source's end and before
pub first_at_end : (left left' left'' : Option (List ℕ)) (before faults : ℕ) (bytes new piece : List ℕ)
    → HasFirst left left' before faults bytes piece → AppendsPiece left' left'' bytes new false
    → FillsFirst left left'' new true
first_at_end left left' left'' before faults bytes new piece so_far last =
    let end = last.none refl in
    let same : new ≡ bytes = last.appended ∙ ap (λ (more : List ℕ). bytes ++ more) end.0 ∙ append-nil bytes in
    record {
      taken = taken-more left left' left'' bytes last.bytes so_far.taken last.taken
          ∙ ap (λ (all : List ℕ). prepend_known all left'') (sym last.appended);
      tells = inr refl;
      few = omega (arith, so_far.few, ap length same);
      at_end = λ _. end.1;
    }

pub first_shown : (left left' : Option (List ℕ)) (before faults : ℕ) (bytes piece : List ℕ)
    → HasFirst left left' before faults bytes piece → ShowsFirst bytes → FillsFirst left left' bytes false
first_shown left left' before faults bytes piece so_far shows = record {
  taken = so_far.taken;
  tells = inl shows;
  few = so_far.few;
  at_end = λ yes. absurd (true≢false (sym yes));
}

-- what was taken where nothing was read, until a line was shown, and where one read more was done before
pub taken_none : (left : Option (List ℕ)) → IsJudgedEarly left left
taken_none left = (
  [],
  sym (prepend_known-nil left),
  record {
    before = [];
    last = [];
    split = refl;
    untold = nothing_shown;
    few = omega arith;
  },
)

pub taken_early : (left left' : Option (List ℕ)) (before faults : ℕ) (bytes piece : List ℕ)
    → HasFirst left left' before faults bytes piece → IsJudgedEarly left left'
taken_early left left' before faults bytes piece so_far = (bytes, so_far.taken, so_far.by_last)

pub taken_early-more : (left left' left'' : Option (List ℕ)) (before faults : ℕ) (bytes piece : List ℕ)
    → HasFirst left left' before faults bytes piece → (ShowsFirst bytes → ⊥)
    → (n : ℕ) × (n ≤ piece_size) × Takes left' left'' n → IsJudgedEarly left left''
taken_early-more left left' left'' before faults bytes piece so_far unclear last = (
  bytes ++ last.2.0,
  taken-more left left' left'' bytes last.2.0 so_far.taken last.2.2,
  record {
    before = bytes;
    last = last.2.0;
    split = refl;
    untold = unclear;
    few = omega (arith, last.1, last.2.1);
  },
)

-- so many bytes were taken behind those that were kept
pub taken_behind : (left left' : Option (List ℕ)) (len : ℕ) (bytes : List ℕ) → left ≡ prepend_known bytes left'
    → length bytes + len ≤ longest_text + 1 → (n : ℕ) × (n + len ≤ longest_text + 1) × Takes left left' n
taken_behind left left' len bytes taken room = (length bytes, room, (bytes, refl, taken))

-- the same where a later read failed, which may have taken more
pub taken_before : (left left' left'' : Option (List ℕ)) (len kept : ℕ) (bytes : List ℕ) → left ≡ prepend_known bytes left'
    → kept ≡ len + length bytes → (n : ℕ) × (n + kept ≤ longest_text + 1) × Takes left' left'' n
    → (n : ℕ) × (n + len ≤ longest_text + 1) × Takes left left'' n
taken_before left left' left'' len kept bytes taken size last =
    taken_behind left left'' len (bytes ++ last.2.0) (taken-more left left' left'' bytes last.2.0 taken last.2.2)
    (omega (arith, length-append bytes last.2.0, last.2.1, last.1))

-- all that was taken in a loop of reads, the last of which is done
pub taken_all : (left left' left'' : Option (List ℕ)) (before faults len : ℕ) (old bytes new : List ℕ) (came : Bool)
    → HasFilled left left' before faults old bytes → AppendsPiece left' left'' bytes new came → len ≡ length old
    → (n : ℕ) × (n + len ≤ longest_text + 1) × Takes left left'' n
taken_all left left' left'' before faults len old bytes new came so_far more size =
    taken_behind left left'' len (so_far.bytes ++ more.bytes)
    (taken-more left left' left'' so_far.bytes more.bytes so_far.taken more.taken)
    (omega (arith, size, more.in_room, ap length more.appended, ap length so_far.appended, length-append old so_far.bytes, length-append bytes more.bytes, length-append so_far.bytes more.bytes))
