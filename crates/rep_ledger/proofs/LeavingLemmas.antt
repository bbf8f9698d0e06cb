-- What the bytes of a ledger are while an entry is put, and once entries were put.
use Rattle.std.proofs.Common.{◌≡◌, ◌≢◌, ℕ, ◌+◌, ◌≤◌, inl, inr, List, [], ◌∷◌, ◌++◌, length, drop, Option, Some, None, refl, sym, ap, subst, ◌∙◌, arith, length-append, append-nil, append_assoc}
use Rattle.std.specs.Prelude.{IfSome}
use Rattle.std.proofs.lemmas.Bool.{cases_lt}
use Rattle.std.proofs.lemmas.Slice.{drop-append-drop}
use Rattle.rep_wire.specs.declared.request.Entry.{Entry}
use Rattle.rep_core.specs.Valid.{Fits, IsFounded}
use Rattle.rep_core.proofs.Validity.{IsFounded-push}
use Rattle.rep_disk.specs.Disk.{Shown, Changes}
use Rattle.rep_disk.specs.declared.image.Image.{Image}
use Rattle.rep_disk.specs.declared.image.Image.TheVariants.{Old, New, Odd}
use Rattle.rep_journal.specs.Format.{Framed, IsFrame, AreFrames, closed_gate, open_gate, end_of, frame_text, front_text}
use Rattle.rep_journal.specs.State.{FailsToAppend, IsLeftAround, Leaves, with_gate}
use Rattle.rep_journal.specs.Recovery.{IsGateOf, IsOpenAtGate, OpensGate}
use Rattle.rep_ledger.specs.Ledger.{IsLedgerOf, frames_of, next_frame}
use Rattle.rep_ledger.specs.Safety.{IsFrontOf}
use Rattle.rep_ledger.specs.Leaving.{GrowsTo, ChangesAtEnd, IsOpenBefore, OpensBefore, history_named}
use Rattle.rep_ledger.proofs.ContentLemmas.{frames_behind}
use Rattle.rep_ledger.proofs.DiskSteps.{Changes-weaker, IfSome-both}
use Rattle.rep_ledger.proofs.LedgerLemmas.{frames_of-push}
use Rattle.rep_ledger.proofs.Nexts.{origin, IsLineLength-next}
use Rattle.rep_ledger.proofs.SafetyLemmas.{IsFrontOf-refl, IsFrontOf-push, IsFrontOf-trans}
use Rattle.rep_ledger.proofs.TextLemmas.{are_frames-push, end_of-append, front_text-push, length-front_text}

-- the frame of an entry that fits is one that a journal can hold
pub IsFrame-next : (h : List Entry) (e : Entry) → IsFounded h → Fits h e → IsFrame (next_frame h e)
IsFrame-next [] e founded fits = absurd founded
IsFrame-next (first ∷ h) e founded fits =
    let made = origin (first ∷ h) e fits in
    let asked = fits.asked in
    record {
      origin = omega (arith, ap (λ (d : Entry). d.origin) fits.made, asked.origin.1);
      seq = omega (arith, ap (λ (d : Entry). d.seq) fits.made, asked.seq.1);
      line = IsLineLength-next (first ∷ h) e.body (next_frame (first ∷ h) e).line made.fresh.2 made.in_range refl;
    }

-- with a closed gate in front of the entry's frame the bytes keep the history without it
pub ledger_at_closed_gate : (h : List Entry) (e : Entry) (gate : ℕ) (was : List ℕ) → IsFounded h → AreFrames (frames_of h) → gate ≢ open_gate → IsLedgerOf (with_gate (frames_of h) (next_frame h e) gate was) h
ledger_at_closed_gate h e gate was founded frames closed = record {
  founded = founded;
  journal = record {
    well_formed = frames;
    gate = gate;
    closed = closed;
    rest = frame_text (next_frame h e) ++ closed_gate ∷ drop (1 + end_of (frames_of h ++ next_frame h e ∷ [])) was;
    text = refl;
  };
}

-- what is written of the history with the entry is what its put makes with an open gate
pub with_open_gate : (h : List Entry) (e : Entry) (was : List ℕ) → with_gate (frames_of h) (next_frame h e) open_gate was ≡ front_text (frames_of (h ++ e ∷ [])) ++ closed_gate ∷ drop (1 + end_of (frames_of (h ++ e ∷ []))) was
with_open_gate h e was =
    let frames = frames_of h in
    let frame = next_frame h e in
    let rest : List Framed → List ℕ = λ fs. closed_gate ∷ drop (1 + end_of fs) was in
    sym (append_assoc (front_text frames) (open_gate ∷ frame_text frame) (rest (frames ++ frame ∷ [])))
    ∙ ap (λ front. front ++ rest (frames ++ frame ∷ [])) (sym (front_text-push frames frame))
    ∙ ap (λ fs. front_text fs ++ rest fs) (sym (frames_of-push h e))

-- and with an open gate they keep the history with it
pub ledger_at_open_gate : (h : List Entry) (e : Entry) (was : List ℕ) → IsFounded h → AreFrames (frames_of h) → Fits h e → IsLedgerOf (with_gate (frames_of h) (next_frame h e) open_gate was) (h ++ e ∷ [])
ledger_at_open_gate h e was founded frames fits = record {
  founded = IsFounded-push h e founded fits;
  journal = record {
    well_formed = subst AreFrames (sym (frames_of-push h e)) (are_frames-push (frames_of h) (next_frame h e) frames (IsFrame-next h e founded fits));
    gate = closed_gate;
    closed = λ same. absurd (omega (arith, same));
    rest = drop (1 + end_of (frames_of (h ++ e ∷ []))) was;
    text = with_open_gate h e was;
  };
}

-- an image that a moment names by its gate keeps the history of that name
ledger_named : (h : List Entry) (e : Entry) (was : List ℕ) (name : Image) (gate : ℕ) → IsFounded h → AreFrames (frames_of h) → Fits h e → IsGateOf name gate → IsLedgerOf (with_gate (frames_of h) (next_frame h e) gate was) (history_named name h (h ++ e ∷ []))
ledger_named h e was Old gate founded frames fits is = ledger_at_closed_gate h e gate was founded frames is
ledger_named h e was New gate founded frames fits is =
    subst (λ g. IsLedgerOf (with_gate (frames_of h) (next_frame h e) g was) (h ++ e ∷ [])) (sym is) (ledger_at_open_gate h e was founded frames fits)
ledger_named h e was Odd gate founded frames fits is = ledger_at_closed_gate h e gate was founded frames (λ same. absurd (omega (arith, same, is)))

-- where only the gate in front of a fitting entry's frame is pending, each image that is named keeps its history
pub IsOpenBefore-gate : (h : List Entry) (e : Entry) (was : List ℕ) (s : Shown) (m : ℕ) → IsLedgerOf was h → Fits h e → IsOpenAtGate (frames_of h) (next_frame h e) was s m → IsOpenBefore h (h ++ e ∷ []) was s m
IsOpenBefore-gate h e was s m ledger fits opened = record {
  entry = e;
  is_whole = refl;
  at_gate = opened;
  named = λ name image told.
      let at = opened.named name image told in
      subst (λ bytes. IsLedgerOf bytes (history_named name h (h ++ e ∷ []))) (sym at.2)
      (ledger_named h e was name at.0 ledger.founded ledger.journal.well_formed fits at.1);
}

-- so at each moment of a put of which a journal says it
pub OpensBefore-gate : (h : List Entry) (e : Entry) (old new : Shown) (until : ℕ) → IfSome old.contents (λ was. IsLedgerOf was h) → Fits h e → OpensGate (frames_of h) (next_frame h e) old new until → OpensBefore h (h ++ e ∷ []) old new until
OpensBefore-gate h e old new until ledger fits opens =
    IfSome-both old.contents (λ was. IsLedgerOf was h) _ _
    (λ was keeps at below m after within until_new. IsOpenBefore-gate h e was new m keeps fits (at below m after within until_new))
    ledger opens

-- where a device call of a put failed, what was changed lies behind the history
pub ChangesAtEnd-around : (failed : ℕ) (h : List Entry) (e : Entry) (was bytes : List ℕ) → IsLeftAround failed (frames_of h) (next_frame h e) was bytes → ChangesAtEnd failed h (h ++ e ∷ []) was bytes
ChangesAtEnd-around failed h e was bytes around = record { entry = e; is_whole = refl; around = around }

pub ChangesAtEnd-put : (h : List Entry) (e : Entry) (old new : Shown) (fails : FailsToAppend (frames_of h) (next_frame h e) old new) → Changes (ChangesAtEnd fails.failed h (h ++ e ∷ [])) old.contents new.contents
ChangesAtEnd-put h e old new fails =
    Changes-weaker old.contents new.contents (IsLeftAround fails.failed (frames_of h) (next_frame h e)) (ChangesAtEnd fails.failed h (h ++ e ∷ []))
    (λ was bytes told. ChangesAtEnd-around fails.failed h e was bytes) fails.around

-- bytes that no entry was put behind are as they were
pub GrowsTo-refl : (h : List Entry) (bytes : List ℕ) → GrowsTo h h bytes bytes
GrowsTo-refl h bytes = record { goes_on = IsFrontOf-refl h; same = λ as_many. refl; grown = λ more. absurd (omega arith) }

-- one entry was put behind a history
pub GrowsTo-push : (h : List Entry) (e : Entry) (was bytes : List ℕ) → bytes ≡ front_text (frames_of (h ++ e ∷ [])) ++ closed_gate ∷ drop (1 + end_of (frames_of (h ++ e ∷ []))) was → GrowsTo h (h ++ e ∷ []) was bytes
GrowsTo-push h e was bytes text = record {
  goes_on = IsFrontOf-push h e;
  same = λ as_many. absurd (omega (arith, as_many, length-append h (e ∷ [])));
  grown = λ more. text;
}

pub GrowsTo-put : (h : List Entry) (e : Entry) (old new : Option (List ℕ)) → Leaves (frames_of (h ++ e ∷ [])) old new → Changes (GrowsTo h (h ++ e ∷ [])) old new
GrowsTo-put h e old new text =
    Changes-weaker old new (λ was bytes. bytes ≡ front_text (frames_of (h ++ e ∷ [])) ++ closed_gate ∷ drop (1 + end_of (frames_of (h ++ e ∷ []))) was) (GrowsTo h (h ++ e ∷ []))
    (λ was bytes told. GrowsTo-push h e was bytes) text

-- a front of a history has no more entries, and ends no later
length_of_front : (a b : List Entry) → IsFrontOf a b → length a ≤ length b
length_of_front a b front = omega (arith, ap length front.1, length-append a front.0)

end_of_front : (a b : List Entry) → IsFrontOf a b → end_of (frames_of a) ≤ end_of (frames_of b)
end_of_front a b front =
    let more = frames_behind a front.0 in
    omega (arith, ap (λ h. end_of (frames_of h)) front.1, ap end_of more.1, end_of-append (frames_of a) more.0)

same_front : (a b : List Entry) → IsFrontOf a b → length b ≡ length a → b ≡ a
same_front a b ([], is) as_many = is ∙ append-nil a
same_front a b (e ∷ behind, is) as_many = absurd (omega (arith, as_many, ap length is, length-append a (e ∷ behind)))

-- what stands behind a history that went on stands behind it where it was
behind_written : (a b : List Entry) (was bytes : List ℕ) → end_of (frames_of a) ≤ end_of (frames_of b) → bytes ≡ front_text (frames_of a) ++ closed_gate ∷ drop (1 + end_of (frames_of a)) was → drop (1 + end_of (frames_of b)) bytes ≡ drop (1 + end_of (frames_of b)) was
behind_written a b was bytes within text =
    let front = front_text (frames_of a) ++ closed_gate ∷ [] in
    ap (λ (l : List ℕ). drop (1 + end_of (frames_of b)) l)
    (text ∙ sym (append_assoc (front_text (frames_of a)) (closed_gate ∷ []) (drop (1 + end_of (frames_of a)) was)))
    ∙ drop-append-drop (1 + end_of (frames_of a)) was front (1 + end_of (frames_of b)) (omega (arith, within))
    (omega (arith, length-append (front_text (frames_of a)) (closed_gate ∷ []), length-front_text (frames_of a)))

behind_grown : (a b c : List Entry) (was bytes : List ℕ) → GrowsTo a b was bytes → IsFrontOf b c → drop (1 + end_of (frames_of c)) bytes ≡ drop (1 + end_of (frames_of c)) was
behind_grown a b c was bytes grows front = elim (cases_lt (length a) (length b)) [
  | inl more ↦ behind_written b c was bytes (end_of_front b c front) (grows.grown more)
  | inr none ↦ ap (λ (l : List ℕ). drop (1 + end_of (frames_of c)) l) (grows.same (omega (arith, none, length_of_front a b grows.goes_on)))
]

-- entries were put behind those that were put before
pub GrowsTo-trans : (a b c : List Entry) (first mid last : List ℕ) → GrowsTo a b first mid → GrowsTo b c mid last → GrowsTo a c first last
GrowsTo-trans a b c first mid last one two =
    let ab = length_of_front a b one.goes_on in
    let bc = length_of_front b c two.goes_on in
    record {
      goes_on = IsFrontOf-trans a b c one.goes_on two.goes_on;
      same = λ as_many. two.same (omega (arith, as_many, ab, bc)) ∙ one.same (omega (arith, as_many, ab, bc));
      grown = λ more. elim (cases_lt (length b) (length c)) [
        | inl later ↦
            two.grown later
            ∙ ap (λ (l : List ℕ). front_text (frames_of c) ++ closed_gate ∷ l) (behind_grown a b c first mid one two.goes_on)
        | inr none ↦
            let as_many : length c ≡ length b = omega (arith, none, bc) in
            two.same as_many ∙ one.grown (omega (arith, more, as_many))
            ∙ ap (λ h. front_text (frames_of h) ++ closed_gate ∷ drop (1 + end_of (frames_of h)) first) (sym (same_front b c two.goes_on as_many))
      ];
    }

-- the same of contents that may be told
pub GrowsTo-stay : (h : List Entry) (contents : Option (List ℕ)) → Changes (GrowsTo h h) contents contents
GrowsTo-stay h None = tt
GrowsTo-stay h (Some bytes) = GrowsTo-refl h bytes

pub GrowsTo-chain : (a b c : List Entry) (first mid last : Option (List ℕ)) → Changes (GrowsTo a b) first mid → Changes (GrowsTo b c) mid last → Changes (GrowsTo a c) first last
GrowsTo-chain a b c None None None one two = tt
GrowsTo-chain a b c None None (Some z) one two = absurd two
GrowsTo-chain a b c None (Some y) last one two = absurd one
GrowsTo-chain a b c (Some x) None last one two = absurd one
GrowsTo-chain a b c (Some x) (Some y) None one two = absurd two
GrowsTo-chain a b c (Some x) (Some y) (Some z) one two = GrowsTo-trans a b c x y z one two
