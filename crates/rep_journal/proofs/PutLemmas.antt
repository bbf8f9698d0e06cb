-- What the two writes of a `put` make of contents and images.
use Rattle.std.proofs.Common.{◌≡◌, ◌≢◌, inl, inr, ℕ, ◌+◌, ◌<◌, ◌≤◌, List, [], ◌∷◌, ◌++◌, length, take, drop, get_or, Some, None, Option, Ok, Err, Result, true, ◌*◌, refl, sym, ap, ◌∙◌, subst, arith, append_assoc, length-append, length-drop, length-take, take-append-drop}
use Rattle.std.specs.Prelude.{IfSome, IsSome, MatchResult, OnErr, OnOk, is_err}
use Rattle.std.proofs.lemmas.List.{take_at, drop_at, drop_more}
use Rattle.std.proofs.lemmas.Bool.{cases_eq}
use Rattle.rep_disk.specs.Disk.{Shown, Torn, Written, Changes, IsWithin}
use Rattle.rep_journal.specs.Format.{open_gate, closed_gate, Framed, IsFrame, AreFrames, frame_text, front_text, end_of, IsJournalOf}
use Rattle.rep_journal.specs.State.{StandsFor, Becomes, Leaves, IsWithOrWithout, IsLeftAt, IsLeftAround, FailsToAppend, MakesCalls, CountsCalls, with_gate}
use Rattle.rep_journal.specs.Putting.{FailsToWrite, WritesSurely}
use Rattle.rep_journal.proofs.KindLemmas.{journal_length}
use Rattle.rep_journal.proofs.FormatLemmas.{length-front_text, end_of-push, front_text-push, are_frames-push}

-- the front of a list as far as a place that it has
front_of : (old new p q : List ℕ) (n : ℕ) → old ≡ p ++ q → length p ≡ n → take n new ≡ take n old → new ≡ p ++ drop n new
front_of old new p q n e l same =
    sym (take-append-drop n new) ∙ ap (λ (front : List ℕ). front ++ drop n new) (same ∙ ap (λ (l : List ℕ). take n l) e ∙ take_at p q n l)

-- a list that is long enough, piece by piece
cons_of : (xs : List ℕ) (n : ℕ) → n < length xs → drop n xs ≡ get_or xs n 0 ∷ drop (n + 1) xs
cons_of xs n lt = drop_more xs n 0 lt

-- a piece that was written is one of the outcomes that a crash may leave of its write
written_torn : (at : ℕ) (piece old new : List ℕ) → at ≤ length old → Written at piece old new → Torn at (length piece) old new
written_torn at piece old new within w =
    let rest = drop (at + length piece) old in
    let front : length (take at old) ≡ at = omega (arith, length-take at old) in
    let both : length (take at old ++ piece) ≡ at + length piece = omega (arith, length-append (take at old) piece) in
    let size : length new ≡ at + length piece + length rest = omega (arith, ap length w, length-append (take at old ++ piece) rest) in
    let left = length-drop (at + length piece) old in
    record {
      before = ap (λ (l : List ℕ). take at l) (w ∙ append_assoc (take at old) piece rest) ∙ take_at (take at old) (piece ++ rest) at front;
      behind = ap (λ (l : List ℕ). drop (at + length piece) l) w ∙ drop_at (take at old ++ piece) rest (at + length piece) both;
      no_shorter = omega (arith, left);
      no_longer = omega (arith, left);
    }

-- the frame stands behind the closed gate
pub record IsStaged (bytes : List ℕ) (frames : List Framed) (frame : Framed) : Type 0 where
  pub well_formed : AreFrames frames
  pub fits : IsFrame frame
  pub gate : ℕ
  pub closed : gate ≢ open_gate
  pub rest : List ℕ
  pub text : bytes ≡ front_text frames ++ gate ∷ (frame_text frame ++ 0 ∷ rest)

module _ (fs : List Framed) where
  -- what is torn behind the closed gate leaves the frames
  pub torn_behind : (size : ℕ) (old new : List ℕ) → IsJournalOf old fs → Torn (end_of fs + 1) size old new → IsJournalOf new fs
  torn_behind size old new j torn = record {
    well_formed = j.well_formed;
    gate = j.gate;
    closed = j.closed;
    rest = drop (end_of fs + 1) new;
    text = front_of old new (front_text fs ++ j.gate ∷ []) j.rest (end_of fs + 1) (j.text ∙ sym (append_assoc (front_text fs) (j.gate ∷ []) j.rest)) (omega (arith, length-append (front_text fs) (j.gate ∷ []), length-front_text fs)) torn.before
        ∙ append_assoc (front_text fs) (j.gate ∷ []) (drop (end_of fs + 1) new);
  }

  -- the text after the first write
  written_text : (f : Framed) (old new : List ℕ) (j : IsJournalOf old fs) → Written (end_of fs + 1) (frame_text f ++ 0 ∷ []) old new
      → new ≡ front_text fs ++ j.gate ∷ (frame_text f ++ 0 ∷ drop (end_of fs + 1 + length (frame_text f ++ 0 ∷ [])) old)
  written_text f old new j w =
      let rest = drop (end_of fs + 1 + length (frame_text f ++ 0 ∷ [])) old in
      let before = ap (λ (l : List ℕ). take (end_of fs + 1) l) (j.text ∙ sym (append_assoc (front_text fs) (j.gate ∷ []) j.rest)) ∙ take_at (front_text fs ++ j.gate ∷ []) j.rest (end_of fs + 1) (omega (arith, length-append (front_text fs) (j.gate ∷ []), length-front_text fs)) in
      w
      ∙ ap (λ (l : List ℕ). l ++ (frame_text f ++ 0 ∷ []) ++ rest) before
      ∙ append_assoc (front_text fs ++ j.gate ∷ []) (frame_text f ++ 0 ∷ []) rest
      ∙ append_assoc (front_text fs) (j.gate ∷ []) ((frame_text f ++ 0 ∷ []) ++ rest)
      ∙ ap (λ (l : List ℕ). front_text fs ++ j.gate ∷ l) (append_assoc (frame_text f) (0 ∷ []) rest)

  pub written_behind : (f : Framed) (old new : List ℕ) → IsFrame f → IsJournalOf old fs → Written (end_of fs + 1) (frame_text f ++ 0 ∷ []) old new → IsStaged new fs f
  written_behind f old new h j w = record {
    well_formed = j.well_formed;
    fits = h;
    gate = j.gate;
    closed = j.closed;
    rest = drop (end_of fs + 1 + length (frame_text f ++ 0 ∷ [])) old;
    text = written_text f old new j w;
  }

  -- the frame behind any gate counts or it doesn't
  opened_or_not : (f : Framed) (bytes rest : List ℕ) (gate : ℕ) → AreFrames fs → IsFrame f → bytes ≡ front_text fs ++ gate ∷ (frame_text f ++ 0 ∷ rest) → IsWithOrWithout fs f bytes
  opened_or_not f bytes rest gate all h e = elim (cases_eq gate open_gate) [
    | inr shut ↦ inl (record { well_formed = all; gate = gate; closed = shut; rest = frame_text f ++ 0 ∷ rest; text = e })
    | inl is_open ↦ inr (opened f bytes rest all h (e ∙ ap (λ (n : ℕ). front_text fs ++ n ∷ (frame_text f ++ 0 ∷ rest)) is_open))
  ]
    where
      opened : (f : Framed) (bytes rest : List ℕ) → AreFrames fs → IsFrame f → bytes ≡ front_text fs ++ open_gate ∷ (frame_text f ++ 0 ∷ rest) → IsJournalOf bytes (fs ++ f ∷ [])
      opened f bytes rest all h e = record {
        well_formed = are_frames-push fs f all h;
        gate = 0;
        closed = λ zero. absurd (omega (arith, zero));
        rest = rest;
        text = e ∙ sym (append_assoc (front_text fs) (open_gate ∷ frame_text f) (0 ∷ rest)) ∙ ap (λ (l : List ℕ). l ++ 0 ∷ rest) (sym (front_text-push fs f));
      }

  -- with one byte more behind the frames
  gate_before : (gate n : ℕ) (rest : List ℕ) → n ≡ end_of fs → take n (front_text fs ++ gate ∷ rest) ≡ front_text fs
  gate_before gate n rest is = take_at (front_text fs) (gate ∷ rest) n (length-front_text fs ∙ sym is)

  gate_behind : (gate : ℕ) (rest : List ℕ) → drop (end_of fs + 1) (front_text fs ++ gate ∷ rest) ≡ rest
  gate_behind gate rest =
      ap (λ (l : List ℕ). drop (end_of fs + 1) l) (sym (append_assoc (front_text fs) (gate ∷ []) rest))
      ∙ drop_at (front_text fs ++ gate ∷ []) rest (end_of fs + 1) (omega (arith, length-append (front_text fs) (gate ∷ []), length-front_text fs))

  -- a torn gate leaves some byte in its place, and all else
  pub torn_text : (gate : ℕ) (rest old new : List ℕ) → old ≡ front_text fs ++ gate ∷ rest → Torn (end_of fs) 1 old new → new ≡ front_text fs ++ get_or new (end_of fs) 0 ∷ rest
  torn_text gate rest old new is torn =
      let behind : drop (end_of fs + 1) new ≡ rest = torn.behind ∙ ap (λ (l : List ℕ). drop (end_of fs + 1) l) is ∙ gate_behind gate rest in
      let long : end_of fs < length new = omega (arith, torn.no_shorter, ap length is, length-append (front_text fs) (gate ∷ rest), length-front_text fs) in
      front_of old new (front_text fs) (gate ∷ rest) (end_of fs) is (length-front_text fs) torn.before
      ∙ ap (λ (l : List ℕ). front_text fs ++ l) (cons_of new (end_of fs) long ∙ ap (λ (l : List ℕ). get_or new (end_of fs) 0 ∷ l) behind)

  -- and it may leave any
  pub gate_torn : (gate other : ℕ) (rest : List ℕ) → Torn (end_of fs) 1 (front_text fs ++ gate ∷ rest) (front_text fs ++ other ∷ rest)
  gate_torn gate other rest =
      let size : length (front_text fs ++ other ∷ rest) ≡ length (front_text fs ++ gate ∷ rest) = omega (arith, length-append (front_text fs) (gate ∷ rest), length-append (front_text fs) (other ∷ rest)) in
      record {
        before = gate_before other (end_of fs) rest refl ∙ sym (gate_before gate (end_of fs) rest refl);
        behind = gate_behind other rest ∙ sym (gate_behind gate rest);
        no_shorter = omega arith;
        no_longer = omega arith;
      }

  pub torn_gate : (f : Framed) (old new : List ℕ) → IsStaged old fs f → Torn (end_of fs) 1 old new → IsWithOrWithout fs f new
  torn_gate f old new s torn = opened_or_not f new s.rest (get_or new (end_of fs) 0) s.well_formed s.fits (torn_text s.gate (frame_text f ++ 0 ∷ s.rest) old new s.text torn)

  -- the text after a write of a gate
  gate_text : (gate byte : ℕ) (rest old new : List ℕ) → old ≡ front_text fs ++ gate ∷ rest → Written (end_of fs) (byte ∷ []) old new → new ≡ front_text fs ++ byte ∷ rest
  gate_text gate byte rest old new is w =
      w
      ∙ ap (λ (l : List ℕ). l ++ (byte ∷ []) ++ drop (end_of fs + 1) old) (ap (λ (l : List ℕ). take (end_of fs) l) is ∙ gate_before gate (end_of fs) rest refl)
      ∙ append_assoc (front_text fs) (byte ∷ []) (drop (end_of fs + 1) old)
      ∙ ap (λ (l : List ℕ). front_text fs ++ byte ∷ l) (ap (λ (l : List ℕ). drop (end_of fs + 1) l) is ∙ gate_behind gate rest)

  -- the text after the second write
  opened_text : (f : Framed) (gate : ℕ) (rest old new : List ℕ) → old ≡ front_text fs ++ gate ∷ (frame_text f ++ 0 ∷ rest) → Written (end_of fs) (open_gate ∷ []) old new → new ≡ front_text (fs ++ f ∷ []) ++ 0 ∷ rest
  opened_text f gate rest old new is w =
      gate_text gate open_gate (frame_text f ++ 0 ∷ rest) old new is w
      ∙ sym (append_assoc (front_text fs) (open_gate ∷ frame_text f) (0 ∷ rest))
      ∙ ap (λ (l : List ℕ). l ++ 0 ∷ rest) (sym (front_text-push fs f))

  pub written_gate : (f : Framed) (old new : List ℕ) → IsStaged old fs f → Written (end_of fs) (open_gate ∷ []) old new → IsJournalOf new (fs ++ f ∷ [])
  written_gate f old new s w = record {
    well_formed = are_frames-push fs f s.well_formed s.fits;
    gate = 0;
    closed = λ zero. absurd (omega (arith, zero));
    rest = s.rest;
    text = opened_text f s.gate s.rest old new s.text w;
  }

  -- the place behind the next gate
  behind_next : (f : Framed) → end_of fs + 1 + length (frame_text f ++ 0 ∷ []) ≡ 1 + end_of (fs ++ f ∷ [])
  behind_next f = omega (arith, end_of-push fs f, length-append (frame_text f) (0 ∷ []))

  -- the text after both
  pub put_text : (f : Framed) (old mid new : List ℕ) → IsJournalOf old fs → Written (end_of fs + 1) (frame_text f ++ 0 ∷ []) old mid → Written (end_of fs) (open_gate ∷ []) mid new
      → new ≡ front_text (fs ++ f ∷ []) ++ closed_gate ∷ drop (1 + end_of (fs ++ f ∷ [])) old
  put_text f old mid new j w v =
      opened_text f j.gate (drop (end_of fs + 1 + length (frame_text f ++ 0 ∷ [])) old) mid new (written_text f old mid j w) v
      ∙ ap (λ (n : ℕ). front_text (fs ++ f ∷ []) ++ 0 ∷ drop n old) (behind_next f)

  -- the same texts by the gate in front of the frame
  pub staged_text : (f : Framed) (old new : List ℕ) (j : IsJournalOf old fs) → Written (end_of fs + 1) (frame_text f ++ 0 ∷ []) old new → new ≡ with_gate fs f j.gate old
  staged_text f old new j w = written_text f old new j w ∙ ap (λ (n : ℕ). front_text fs ++ j.gate ∷ (frame_text f ++ 0 ∷ drop n old)) (behind_next f)

  pub torn_with_gate : (f : Framed) (gate : ℕ) (was old new : List ℕ) → old ≡ with_gate fs f gate was → Torn (end_of fs) 1 old new → (other : ℕ) × (new ≡ with_gate fs f other was)
  torn_with_gate f gate was old new is torn = (get_or new (end_of fs) 0, torn_text gate (frame_text f ++ 0 ∷ drop (1 + end_of (fs ++ f ∷ [])) was) old new is torn)

  pub opened_with_gate : (f : Framed) (gate : ℕ) (was old new : List ℕ) → old ≡ with_gate fs f gate was → Written (end_of fs) (open_gate ∷ []) old new → new ≡ with_gate fs f open_gate was
  opened_with_gate f gate was old new is w = gate_text gate open_gate (frame_text f ++ 0 ∷ drop (1 + end_of (fs ++ f ∷ [])) was) old new is w

  -- what the first write leaves where it or its sync failed
  pub torn_around : (f : Framed) (old new : List ℕ) → Torn (end_of fs + 1) (length (frame_text f ++ 0 ∷ [])) old new → IsLeftAround 1 fs f old new
  torn_around f old new torn = record {
    early = λ _. subst (λ (n : ℕ). Torn (end_of fs + 1) n old new) (length-append (frame_text f) (0 ∷ [])) torn;
    at_gate = λ le. absurd (omega arith);
    late = λ e. absurd (omega arith);
  }

  pub written_around : (f : Framed) (old new : List ℕ) → IsJournalOf old fs → Written (end_of fs + 1) (frame_text f ++ 0 ∷ []) old new → IsLeftAround 2 fs f old new
  written_around f old new j w =
      let within : end_of fs + 1 ≤ length old = (let h = journal_length old fs j in omega arith) in
      record {
        early = λ _. subst (λ (n : ℕ). Torn (end_of fs + 1) n old new) (length-append (frame_text f) (0 ∷ [])) (written_torn (end_of fs + 1) (frame_text f ++ 0 ∷ []) old new within w);
        at_gate = λ le. absurd (omega arith);
        late = λ e. absurd (omega arith);
      }

  -- the frame behind the closed gate doesn't count
  pub still_frames : (f : Framed) (bytes : List ℕ) → IsStaged bytes fs f → IsJournalOf bytes fs
  still_frames f bytes s = record { well_formed = s.well_formed; gate = s.gate; closed = s.closed; rest = frame_text f ++ 0 ∷ s.rest; text = s.text }

-- told contents before and after a step
pub changes_to : (P : List ℕ → Type 0) (step other : List ℕ → List ℕ → Type 0) (old new : Option (List ℕ)) → IfSome old P → ((a b : List ℕ) → P a → step a b → other a b) → Changes step old new → Changes other old new
changes_to P step other None None p f c = tt
changes_to P step other None (Some b) p f c = absurd c
changes_to P step other (Some a) None p f c = absurd c
changes_to P step other (Some a) (Some b) p f c = f a b p c

-- two steps, one after the other
pub changes_both : (P : List ℕ → Type 0) (step next other : List ℕ → List ℕ → Type 0) (old mid new : Option (List ℕ)) → IfSome old P → ((a b c : List ℕ) → P a → step a b → next b c → other a c) → Changes step old mid → Changes next mid new → Changes other old new
changes_both P step next other None None None p f c d = tt
changes_both P step next other None None (Some y) p f c d = absurd d
changes_both P step next other None (Some b) new p f c d = absurd c
changes_both P step next other (Some a) None new p f c d = absurd c
changes_both P step next other (Some a) (Some b) None p f c d = absurd d
changes_both P step next other (Some a) (Some b) (Some y) p f c d = f a b y p c d

-- What the calls answer.

pub ok_none : {T E : Type 0} (result : Result T E) (P : Type 0) → is_err result ≡ true → OnOk result P
ok_none (Ok v) P is = absurd (cc)
ok_none (Err e) P is = tt

pub err_match : {T E : Type 0} (result : Result T E) (P Q : Type 0) → is_err result ≡ true → Q → MatchResult result (λ _. P) (λ _. Q)
err_match (Ok v) P Q is q = absurd (cc)
err_match (Err e) P Q is q = q

pub err_only : {T E : Type 0} (result : Result T E) (P : Type 0) → P → OnErr result P
err_only (Ok v) P p = tt
err_only (Err e) P p = p

module _ (fs : List Framed) (f : Framed) (fits : IsFrame f) where
  pub is_staged : (old mid : Option (List ℕ)) → StandsFor old fs → Changes (Written (end_of fs + 1) (frame_text f ++ 0 ∷ [])) old mid → IsSome old → IsSome mid × IfSome mid (λ b. IsStaged b fs f)
  is_staged None mid stands c told = absurd (cc)
  is_staged (Some a) None stands c told = absurd c
  is_staged (Some a) (Some b) stands c told = (refl, written_behind fs f a b fits stands c)

  -- the first write or its sync failed
  pub fails_early : (old new : Shown) → StandsFor old.contents fs → FailsToWrite (end_of fs + 1) (frame_text f ++ 0 ∷ []) old new → FailsToAppend fs f old new
  fails_early old new stands (inl torn) = record {
    failed = 1;
    some = omega arith;
    within = omega arith;
    calls = torn.0;
    contents = changes_to (λ b. IsJournalOf b fs) (Torn (end_of fs + 1) (length (frame_text f ++ 0 ∷ []))) (λ _ bytes. IsLeftAt 1 fs f bytes) old.contents new.contents stands
        (λ a b j t. let k = torn_behind fs (length (frame_text f ++ 0 ∷ [])) a b j t in record { early = λ _. k; late = λ e. absurd (omega arith); either = inl k }) torn.1;
    around = changes_to (λ b. IsJournalOf b fs) (Torn (end_of fs + 1) (length (frame_text f ++ 0 ∷ []))) (λ was bytes. IsLeftAround 1 fs f was bytes) old.contents new.contents stands
        (λ a b j t. torn_around fs f a b t) torn.1;
  }
  fails_early old new stands (inr written) = record {
    failed = 2;
    some = omega arith;
    within = omega arith;
    calls = written.0;
    contents = changes_to (λ b. IsJournalOf b fs) (Written (end_of fs + 1) (frame_text f ++ 0 ∷ [])) (λ _ bytes. IsLeftAt 2 fs f bytes) old.contents new.contents stands
        (λ a b j w. let k = still_frames fs f b (written_behind fs f a b fits j w) in record { early = λ _. k; late = λ e. absurd (omega arith); either = inl k }) written.1;
    around = changes_to (λ b. IsJournalOf b fs) (Written (end_of fs + 1) (frame_text f ++ 0 ∷ [])) (λ was bytes. IsLeftAround 2 fs f was bytes) old.contents new.contents stands
        (λ a b j w. written_around fs f a b j w) written.1;
  }

  -- the second write or its sync failed
  pub fails_late : (old mid new : Shown) → StandsFor old.contents fs → MakesCalls 2 old mid → Changes (Written (end_of fs + 1) (frame_text f ++ 0 ∷ [])) old.contents mid.contents → FailsToWrite (end_of fs) (open_gate ∷ []) mid new → FailsToAppend fs f old new
  fails_late old mid new stands two c (inl torn) = record {
    failed = 3;
    some = omega arith;
    within = omega arith;
    calls = (let calls = torn.0 in omega arith);
    contents = changes_both (λ b. IsJournalOf b fs) (Written (end_of fs + 1) (frame_text f ++ 0 ∷ [])) (Torn (end_of fs) 1) (λ _ bytes. IsLeftAt 3 fs f bytes) old.contents mid.contents new.contents stands
        (λ a b y j w t. record { early = λ le. absurd (omega arith); late = λ e. absurd (omega arith); either = torn_gate fs f b y (written_behind fs f a b fits j w) t }) c torn.1;
    around = changes_both (λ b. IsJournalOf b fs) (Written (end_of fs + 1) (frame_text f ++ 0 ∷ [])) (Torn (end_of fs) 1) (λ was bytes. IsLeftAround 3 fs f was bytes) old.contents mid.contents new.contents stands
        (λ a b y j w t. record { early = λ le. absurd (omega arith); at_gate = λ _. torn_with_gate fs f j.gate a b y (staged_text fs f a b j w) t; late = λ e. absurd (omega arith) }) c torn.1;
  }
  fails_late old mid new stands two c (inr written) = record {
    failed = 4;
    some = omega arith;
    within = omega arith;
    calls = (let calls = written.0 in omega arith);
    contents = changes_both (λ b. IsJournalOf b fs) (Written (end_of fs + 1) (frame_text f ++ 0 ∷ [])) (Written (end_of fs) (open_gate ∷ [])) (λ _ bytes. IsLeftAt 4 fs f bytes) old.contents mid.contents new.contents stands
        (λ a b y j w v. let k = written_gate fs f b y (written_behind fs f a b fits j w) v in record { early = λ le. absurd (omega arith); late = λ e. k; either = inr k }) c written.1;
    around = changes_both (λ b. IsJournalOf b fs) (Written (end_of fs + 1) (frame_text f ++ 0 ∷ [])) (Written (end_of fs) (open_gate ∷ [])) (λ was bytes. IsLeftAround 4 fs f was bytes) old.contents mid.contents new.contents stands
        (λ a b y j w v. let is = opened_with_gate fs f j.gate a b y (staged_text fs f a b j w) v in record { early = λ le. absurd (omega arith); at_gate = λ _. (open_gate, is); late = λ e. is }) c written.1;
  }

  pub appends : {E : Type 0} (old mid new : Shown) (result : Result (Unit {0}) E) → StandsFor old.contents fs → Changes (Written (end_of fs + 1) (frame_text f ++ 0 ∷ [])) old.contents mid.contents → WritesSurely (end_of fs) (open_gate ∷ []) mid new result
      → OnOk result (Becomes (fs ++ f ∷ []) old.contents new.contents)
  appends old mid new (Ok v) stands c d =
      changes_both (λ b. IsJournalOf b fs) (Written (end_of fs + 1) (frame_text f ++ 0 ∷ [])) (Written (end_of fs) (open_gate ∷ [])) (λ _ bytes. IsJournalOf bytes (fs ++ f ∷ [])) old.contents mid.contents new.contents stands
      (λ a b y j w v. written_gate fs f b y (written_behind fs f a b fits j w) v) c d.1
  appends old mid new (Err e) stands c d = tt

  pub leaves : {E : Type 0} (old mid new : Shown) (result : Result (Unit {0}) E) → StandsFor old.contents fs → Changes (Written (end_of fs + 1) (frame_text f ++ 0 ∷ [])) old.contents mid.contents → WritesSurely (end_of fs) (open_gate ∷ []) mid new result
      → OnOk result (Leaves (fs ++ f ∷ []) old.contents new.contents)
  leaves old mid new (Ok v) stands c d =
      changes_both (λ b. IsJournalOf b fs) (Written (end_of fs + 1) (frame_text f ++ 0 ∷ [])) (Written (end_of fs) (open_gate ∷ [])) (λ was bytes. bytes ≡ front_text (fs ++ f ∷ []) ++ closed_gate ∷ drop (1 + end_of (fs ++ f ∷ [])) was) old.contents mid.contents new.contents stands
      (λ a b y j w v. put_text fs f a b y j w v) c d.1
  leaves old mid new (Err e) stands c d = tt

  pub fails : {E : Type 0} (old mid new : Shown) (result : Result (Unit {0}) E) → StandsFor old.contents fs → MakesCalls 2 old mid → Changes (Written (end_of fs + 1) (frame_text f ++ 0 ∷ [])) old.contents mid.contents → WritesSurely (end_of fs) (open_gate ∷ []) mid new result
      → OnErr result (FailsToAppend fs f old new)
  fails old mid new (Ok v) stands two c d = tt
  fails old mid new (Err e) stands two c d = fails_late old mid new stands two c d

-- how many calls there were
pub calls_of : {E : Type 0} (at : ℕ) (piece : List ℕ) (old new : Shown) (result : Result (Unit {0}) E) → WritesSurely at piece old new result → CountsCalls 2 old new result
calls_of at piece old new (Ok v) w = w.0
calls_of at piece old new (Err e) (inl torn) = (1, omega arith, omega arith, torn.0)
calls_of at piece old new (Err e) (inr written) = (2, omega arith, omega arith, written.0)

pub failed_calls : {T E : Type 0} (n at : ℕ) (piece : List ℕ) (old new : Shown) (result : Result T E) → is_err result ≡ true → 2 ≤ n → FailsToWrite at piece old new → CountsCalls n old new result
failed_calls n at piece old new (Ok v) is le fails = absurd (cc)
failed_calls n at piece old new (Err e) is le (inl torn) = (1, omega arith, omega arith, torn.0)
failed_calls n at piece old new (Err e) is le (inr written) = (2, omega arith, omega arith, written.0)

pub more_calls : {E : Type 0} (old mid new : Shown) (result : Result (Unit {0}) E) → MakesCalls 2 old mid → CountsCalls 2 mid new result → CountsCalls 4 old new result
more_calls old mid new (Ok v) a b = omega arith
more_calls old mid new (Err e) a b = let some = b.1 in let most = b.2 in let moment = b.3 in (b.0 + 2, omega arith, omega arith, omega arith)

pub calls_within : {T E : Type 0} (n : ℕ) (old new : Shown) (result : Result T E) → CountsCalls n old new result → (old.moment ≤ new.moment) × (new.moment ≤ old.moment + 2 * n)
calls_within n old new (Ok v) a = (omega arith, omega arith)
calls_within n old new (Err e) a = let most = a.2 in let moment = a.3 in (omega arith, omega arith)

-- the gate behind the frames lies in told contents
pub within_journal : (contents : Option (List ℕ)) (fs : List Framed) → StandsFor contents fs → IsWithin (end_of fs + 1) contents
within_journal None fs stands = tt
within_journal (Some bytes) fs stands = let h = journal_length bytes fs stands in omega arith
