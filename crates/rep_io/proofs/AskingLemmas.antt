-- When a call of `next` asks its source.
use Rattle.std.proofs.Common.{◌≡◌, ◌≢◌, ◌⊎◌, inl, inr, ℕ, ◌+◌, ◌≤◌, List, [], ◌++◌, length, drop, refl, sym, ap, ◌∙◌, subst, arith, append_assoc, append-nil, length-append}
use Rattle.std.specs.Prelude.{Option}
use Rattle.std.specs.Io.KnownBytes.{prepend_known}
use Rattle.std.proofs.KnownBytes.{prepend_known-nil}
use Rattle.std.proofs.lemmas.List.{drop_at, nil_from_length}
use Rattle.std.proofs.lemmas.List.Elements.{All-append, All-drop}
use Rattle.rep_io.specs.Lines.{line_feed}
use Rattle.rep_io.specs.Cutter.{Cutter, CannotTell, HasNoLineFeed, TakesNothing, most_of_a_read}
use Rattle.rep_io.specs.Next.{AsksWhereDue}
use Rattle.rep_io.specs.Steps.{AsksOnce, GetsNothing, NeedsMore, PassesOver}
use Rattle.rep_io.specs.declared.next.Next.{Next}
use Rattle.rep_io.specs.declared.next.Next.TheVariants.{SourceFault}
use Rattle.rep_io.proofs.KnownBytes.{prepend_known-append}

-- these bytes were taken, and nothing can be told yet
pub record HasDrawn {S : Type 0} (left : S → Option (List ℕ)) (old now : Cutter S) : Type 0 where
  pub bytes : List ℕ
  pub draws : left old.source ≡ prepend_known bytes (left now.source)
  pub taken : now.taken ≡ old.taken + length bytes
  pub cannot : CannotTell old bytes

-- the source wasn't asked yet, or nothing could be told before the last read
abbrev pub HasAsked : {S : Type 0} → (S → Option (List ℕ)) → Cutter S → Cutter S → Type 0
HasAsked {S} left old now = (now ≡ old) ⊎ ((middle : Cutter S) × HasDrawn left old middle × AsksOnce left middle now)

-- what stands at the end of bytes without a line feed has none
none_behind : (front last held : List ℕ) → held ≡ front ++ last → HasNoLineFeed held → HasNoLineFeed last
none_behind front last held is none =
    let P : ℕ → Type 0 = λ byte. byte ≢ line_feed in
    let Q : List ℕ → Type 0 = HasNoLineFeed in
    subst Q (ap (drop (length front)) is ∙ drop_at front last (length front) refl) (All-drop P (length front) held none)

module _ {S : Type 0} (left : S → Option (List ℕ)) where
  -- a read behind a line that is passed over where it's too long
  pub AsksOnce-filled : (b c d : Cutter S) (bytes : List ℕ) → PassesOver left b c → d.held ≡ c.held ++ bytes → d.taken ≡ c.taken + length bytes
      → left c.source ≡ prepend_known bytes (left d.source) → length bytes ≤ most_of_a_read → AsksOnce left b d
  AsksOnce-filled b c d bytes passes held taken drawn few = record {
    front = c.held;
    last = bytes;
    held = held;
    draws = ap left (sym passes.nothing.source) ∙ drawn;
    taken = omega (arith, passes.nothing.taken);
    piece = few;
  }

  -- such a read that failed
  pub AsksOnce-failed : (b c d : Cutter S) → PassesOver left b c → d.held ≡ c.held → d.taken ≡ c.taken → left d.source ≡ left c.source → AsksOnce left b d
  AsksOnce-failed b c d passes held taken same =
      AsksOnce-filled b c d [] passes (held ∙ sym (append-nil c.held)) (omega arith) (sym same ∙ sym (prepend_known-nil (left d.source))) (omega arith)

  HasDrawn-none : (c : Cutter S) → NeedsMore c → HasDrawn left c c
  HasDrawn-none c needs =
      let P : List ℕ → Type 0 = HasNoLineFeed in
      record {
        bytes = [];
        draws = sym (prepend_known-nil (left c.source));
        taken = omega arith;
        cannot = record {
          no_end = subst P (sym (append-nil c.held)) needs.no_end;
          going_on = needs.going_on;
          room = omega (arith, needs.room);
        };
      }

  HasDrawn-more : (b c d : Cutter S) → HasDrawn left b c → AsksOnce left c d → NeedsMore d → HasDrawn left b d
  HasDrawn-more b c d drawn once needs =
      let P : ℕ → Type 0 = λ byte. byte ≢ line_feed in
      let Q : List ℕ → Type 0 = HasNoLineFeed in
      let none = none_behind once.front once.last d.held once.held needs.no_end in
      record {
        bytes = drawn.bytes ++ once.last;
        draws = drawn.draws ∙ ap (prepend_known drawn.bytes) once.draws ∙ sym (prepend_known-append drawn.bytes once.last (left d.source));
        taken = omega (arith, drawn.taken, once.taken, length-append drawn.bytes once.last);
        cannot = record {
          no_end = subst Q (append_assoc b.held drawn.bytes once.last) (All-append P (b.held ++ drawn.bytes) once.last drawn.cannot.no_end none);
          going_on = drawn.cannot.going_on;
          room = omega (arith, needs.room, drawn.taken, once.taken, length-append drawn.bytes once.last);
        };
      }

  drawn_of : (b c : Cutter S) → HasAsked left b c → NeedsMore c → HasDrawn left b c
  drawn_of b c (inl same) needs =
      let P : Cutter S → Type 0 = λ d. NeedsMore d → HasDrawn left b d in
      subst P (sym same) (HasDrawn-none b) needs
  drawn_of b c (inr asked) needs = HasDrawn-more b asked.0 c asked.1 asked.2 needs

  pub HasAsked-more : (b c d : Cutter S) → HasAsked left b c → NeedsMore c → AsksOnce left c d → HasAsked left b d
  HasAsked-more b c d asked needs once = inr (c, drawn_of b c asked needs, once)

  -- what was told needed no further read
  pub AsksWhereDue-told : (b c d : Cutter S) (next : Next) → HasAsked left b c → TakesNothing c d → (next ≡ SourceFault → ⊥) → AsksWhereDue left b d next
  AsksWhereDue-told b c d next (inl same) nothing told =
      let source = nothing.source ∙ ap (λ (e : Cutter S). e.source) same in
      let taken = nothing.taken ∙ ap (λ (e : Cutter S). e.taken) same in
      record {
        before = [];
        last = [];
        draws = ap left (sym source) ∙ sym (prepend_known-nil (left d.source));
        taken = omega (arith, taken);
        piece = omega arith;
        due = inl (record { source = source; taken = taken });
        failed = λ fault. absurd (told fault);
      }
  AsksWhereDue-told b c d next (inr asked) nothing told =
      let drawn = asked.1 in
      let once = asked.2 in
      record {
        before = drawn.bytes;
        last = once.last;
        draws = drawn.draws ∙ ap (prepend_known drawn.bytes) (once.draws ∙ ap (λ s. prepend_known once.last (left s)) (sym nothing.source))
            ∙ sym (prepend_known-append drawn.bytes once.last (left d.source));
        taken = omega (arith, nothing.taken, drawn.taken, once.taken, length-append drawn.bytes once.last);
        piece = once.piece;
        due = inr drawn.cannot;
        failed = λ fault. absurd (told fault);
      }

  -- a read that failed was due
  pub AsksWhereDue-failed : (b c d : Cutter S) → HasAsked left b c → NeedsMore c → AsksOnce left c d → GetsNothing c d → AsksWhereDue left b d SourceFault
  AsksWhereDue-failed b c d asked needs once nothing =
      let drawn = drawn_of b c asked needs in
      record {
        before = drawn.bytes;
        last = once.last;
        draws = drawn.draws ∙ ap (prepend_known drawn.bytes) once.draws ∙ sym (prepend_known-append drawn.bytes once.last (left d.source));
        taken = omega (arith, drawn.taken, once.taken, length-append drawn.bytes once.last);
        piece = once.piece;
        due = inr drawn.cannot;
        failed = λ _. (nil_from_length once.last (omega (arith, once.taken, nothing.taken)), nothing.going_on);
      }
