-- Bytes that are put to a sink one text after another.
use Rattle.std.proofs.Common.{◌≡◌, ◌≢◌, ℕ, ◌-◌, ◌<◌, List, [], ◌∷◌, ◌++◌, length, take, drop, Option, Some, None, refl, sym, ap, subst, ◌∙◌, append_assoc, append-nil, arith, true, false, Result, Ok, Err, IsErr, is_err, length-drop}
use Rattle.std.specs.Io.KnownBytes.{append_known}
use Rattle.std.proofs.lemmas.List.{take-append-drop}
use Rattle.rep_io.specs.Causes.{HasCause}
use Rattle.rep_io.specs.Streams.{WritesAll}
use Rattle.afd_records.specs.File.{ended}
use Rattle.afd_extract.specs.Steps.{PutsOn, PutsFront, PutsWithin, Puts}

append_known-append : (o : Option (List ℕ)) (xs ys : List ℕ) → append_known (append_known o xs) ys ≡ append_known o (xs ++ ys)
append_known-append None xs ys = refl
append_known-append (Some z) xs ys = ap Some (append_assoc z xs ys)

append_known-nil : (o : Option (List ℕ)) → append_known o [] ≡ o
append_known-nil None = refl
append_known-nil (Some z) = ap Some (append-nil z)

append_nil_left : (xs ys : List ℕ) → xs ++ ys ≡ [] → xs ≡ []
append_nil_left [] ys e = refl
append_nil_left (x ∷ xs) ys e = absurd cc

append_nil_right : (xs ys : List ℕ) → xs ++ ys ≡ [] → ys ≡ []
append_nil_right [] ys e = e
append_nil_right (x ∷ xs) ys e = absurd cc

-- what is left behind fewer bytes than there are
drop_some : (n : ℕ) (xs : List ℕ) → n < length xs → drop n xs ≢ []
drop_some n xs less none =
    let size : length (drop n xs) ≡ length xs - n = length-drop n xs in
    let nothing : length (drop n xs) ≡ 0 = ap length none in
    omega arith

-- bytes that are only held
pub PutsOn-held : (o : Option (List ℕ)) (held kept text : List ℕ) → kept ≡ held ++ text → PutsOn o o held kept text
PutsOn-held o held kept text e = record { put = []; appended = sym (append_known-nil o); whole = sym e }

-- all that was held is written
pub PutsOn-flush : (old new : Option (List ℕ)) (held : List ℕ) → new ≡ append_known old held → PutsOn old new held [] []
PutsOn-flush old new held e = record { put = held; appended = e; whole = refl }

-- one text behind another
pub PutsOn-more : (old mid new : Option (List ℕ)) (held kept last first second : List ℕ) → PutsOn old mid held kept first
    → PutsOn mid new kept last second → PutsOn old new held last (first ++ second)
PutsOn-more old mid new held kept last first second one two = record {
  put = one.put ++ two.put;
  appended = two.appended ∙ ap (λ o. append_known o two.put) one.appended ∙ append_known-append old one.put two.put;
  whole = sym (append_assoc held first second) ∙ ap (λ xs. xs ++ second) one.whole ∙ append_assoc one.put kept second
      ∙ ap (λ xs. one.put ++ xs) two.whole ∙ sym (append_assoc one.put two.put last);
}

pub PutsFront-more : (old mid new : Option (List ℕ)) (held kept first second : List ℕ) → PutsOn old mid held kept first
    → PutsFront mid new (kept ++ second) → PutsFront old new (held ++ (first ++ second))
PutsFront-more old mid new held kept first second one two =
    let rest = two.front.0 in record {
      put = one.put ++ two.put;
      appended = two.appended ∙ ap (λ o. append_known o two.put) one.appended ∙ append_known-append old one.put two.put;
      front = (
        rest,
        two.front.1,
        sym (append_assoc held first second) ∙ ap (λ xs. xs ++ second) one.whole ∙ append_assoc one.put kept second
            ∙ ap (λ xs. one.put ++ xs) two.front.2 ∙ sym (append_assoc one.put two.put rest),
      );
    }

-- a front of a text is one of each longer text
PutsFront-longer : (old new : Option (List ℕ)) (text more : List ℕ) → PutsFront old new text → PutsFront old new (text ++ more)
PutsFront-longer old new text more part = record {
  put = part.put;
  appended = part.appended;
  front = (
    part.front.0 ++ more,
    (λ none. part.front.1 (append_nil_left part.front.0 more none)),
    ap (λ xs. xs ++ more) part.front.2 ∙ append_assoc part.put part.front.0 more,
  );
}

pub PutsFront-first : (old new : Option (List ℕ)) (held first rest : List ℕ) → PutsFront old new (held ++ first) → PutsFront old new (held ++ (first ++ rest))
PutsFront-first old new held first rest part =
    subst (λ text. PutsFront old new text) (append_assoc held first rest) (PutsFront-longer old new (held ++ first) rest part)

-- what is put of a text is a strict front where the text goes on
pub PutsWithin-first : (old new : Option (List ℕ)) (held first rest : List ℕ) → rest ≢ [] → PutsWithin old new (held ++ first)
    → PutsFront old new (held ++ (first ++ rest))
PutsWithin-first old new held first rest more part = record {
  put = part.put;
  appended = part.appended;
  front = (
    part.rest ++ rest,
    (λ none. more (append_nil_right part.rest rest none)),
    sym (append_assoc held first rest) ∙ ap (λ xs. xs ++ rest) part.front ∙ append_assoc part.put part.rest rest,
  );
}

-- what was put behind what was held is a front of both, whatever follows
pub PutsWithin-on : (old new : Option (List ℕ)) (held kept first rest : List ℕ) → PutsOn old new held kept first
    → PutsWithin old new (held ++ (first ++ rest))
PutsWithin-on old new held kept first rest part = record {
  put = part.put;
  rest = kept ++ rest;
  appended = part.appended;
  front = sym (append_assoc held first rest) ∙ ap (λ xs. xs ++ rest) part.whole ∙ append_assoc part.put kept rest;
}

-- a front of a text is one of each longer text
pub PutsWithin-longer : (old new : Option (List ℕ)) (held first rest : List ℕ) → PutsWithin old new (held ++ first) → PutsWithin old new (held ++ (first ++ rest))
PutsWithin-longer old new held first rest part = record {
  put = part.put;
  rest = part.rest ++ rest;
  appended = part.appended;
  front = sym (append_assoc held first rest) ∙ ap (λ xs. xs ++ rest) part.front ∙ append_assoc part.put part.rest rest;
}

-- a strict front is one
pub PutsWithin-front : (old new : Option (List ℕ)) (text : List ℕ) → PutsFront old new text → PutsWithin old new text
PutsWithin-front old new text part =
    record { put = part.put; rest = part.front.0; appended = part.appended; front = part.front.2 }

pub Puts-failed : {E : Type 0} (old new : Option (List ℕ)) (held kept text : List ℕ) (result : Result (Unit {0}) E) → IsErr result
    → PutsFront old new (held ++ text) → Puts old new held kept text result
Puts-failed old new held kept text (Err e) failed part = part
Puts-failed old new held kept text (Ok v) failed part = cc

pub Puts-more : {E : Type 0} (old mid new : Option (List ℕ)) (held kept last first second : List ℕ) (result : Result (Unit {0}) E)
    → PutsOn old mid held kept first → Puts mid new kept last second result → Puts old new held last (first ++ second) result
Puts-more old mid new held kept last first second (Ok v) one two = PutsOn-more old mid new held kept last first second one two
Puts-more old mid new held kept last first second (Err e) one two = PutsFront-more old mid new held kept first second one two

-- by the test of an answer

pub HasCause-ok : {T E : Type 0} (before now : ℕ) (result : Result T E) → is_err result ≡ false → HasCause before now result → now ≡ before
HasCause-ok before now (Ok v) done cause = cause.kept
HasCause-ok before now (Err e) done cause = absurd cc

pub Puts-err : {E : Type 0} (old new : Option (List ℕ)) (held kept text : List ℕ) (result : Result (Unit {0}) E) → is_err result ≡ true
    → Puts old new held kept text result → PutsFront old new (held ++ text)
Puts-err old new held kept text (Err e) failed put = put
Puts-err old new held kept text (Ok v) failed put = absurd cc

pub Puts-ok : {E : Type 0} (old new : Option (List ℕ)) (held kept text : List ℕ) (result : Result (Unit {0}) E) → is_err result ≡ false
    → Puts old new held kept text result → PutsOn old new held kept text
Puts-ok old new held kept text (Ok v) done put = put
Puts-ok old new held kept text (Err e) done put = absurd cc

pub WritesAll-err : {E : Type 0} (old new : Option (List ℕ)) (result : Result (Unit {0}) E) (piece : List ℕ) → is_err result ≡ true
    → WritesAll old new result piece → (n : ℕ) × (n < length piece) × (new ≡ append_known old (take n piece))
WritesAll-err old new (Err e) piece failed writes = writes
WritesAll-err old new (Ok v) piece failed writes = absurd cc

pub WritesAll-ok : {E : Type 0} (old new : Option (List ℕ)) (result : Result (Unit {0}) E) (piece : List ℕ) → is_err result ≡ false
    → WritesAll old new result piece → new ≡ append_known old piece
WritesAll-ok old new (Ok v) piece done writes = writes
WritesAll-ok old new (Err e) piece done writes = absurd cc

-- all of what is held is written, or a front
pub PutsFront-held : (old new : Option (List ℕ)) (held piece : List ℕ) → piece ≡ held
    → (n : ℕ) × (n < length piece) × (new ≡ append_known old (take n piece)) → PutsFront old new (held ++ [])
PutsFront-held old new held piece same part = record {
  put = take part.0 piece;
  appended = part.2;
  front = (drop part.0 piece, drop_some part.0 piece part.1, append-nil held ∙ sym same ∙ sym (take-append-drop part.0 piece));
}

-- the last piece of a text was written
pub last-written : (old mid new : Option (List ℕ)) (none held piece text : List ℕ) → none ≡ [] → piece ≡ held
    → PutsOn old mid none held text → new ≡ append_known mid piece → new ≡ append_known old text
last-written old mid new none held piece text empty same one all =
    let whole : text ≡ one.put ++ held = ap (λ xs. xs ++ text) (sym empty) ∙ one.whole in
    all ∙ ap (λ p. append_known mid p) same ∙ ap (λ o. append_known o held) one.appended ∙ append_known-append old one.put held
    ∙ ap (λ t. append_known old t) (sym whole)

-- or a front of it
pub last-failed : (old mid new : Option (List ℕ)) (none held piece text : List ℕ) → none ≡ [] → piece ≡ held
    → PutsOn old mid none held text → (n : ℕ) × (n < length piece) × (new ≡ append_known mid (take n piece)) → PutsFront old new text
last-failed old mid new none held piece text empty same one part =
    let whole : text ≡ one.put ++ held = ap (λ xs. xs ++ text) (sym empty) ∙ one.whole in
    let n = part.0 in record {
      put = one.put ++ take n piece;
      appended = part.2 ∙ ap (λ o. append_known o (take n piece)) one.appended ∙ append_known-append old one.put (take n piece);
      front = (
        drop n piece,
        drop_some n piece part.1,
        whole ∙ ap (λ xs. one.put ++ xs) (sym same ∙ sym (take-append-drop n piece)) ∙ sym (append_assoc one.put (take n piece) (drop n piece)),
      );
    }

-- the last two lines

pub end-failed : (old new : Option (List ℕ)) (held line trailer signature : List ℕ) → line ≡ trailer → PutsFront old new (held ++ ended line)
    → PutsFront old new (held ++ (ended trailer ++ ended signature))
end-failed old new held line trailer signature is part =
    PutsFront-first old new held (ended trailer) (ended signature) (subst (λ l. PutsFront old new (held ++ ended l)) is part)

pub end-put : {E : Type 0} (old mid new : Option (List ℕ)) (held kept last line trailer sign signature : List ℕ) (result : Result (Unit {0}) E)
    → line ≡ trailer → sign ≡ signature → PutsOn old mid held kept (ended line) → Puts mid new kept last (ended sign) result
    → Puts old new held last (ended trailer ++ ended signature) result
end-put old mid new held kept last line trailer sign signature result is sign_is one two =
    Puts-more old mid new held kept last (ended trailer) (ended signature) result (subst (λ l. PutsOn old mid held kept (ended l)) is one)
    (subst (λ l. Puts mid new kept last (ended l) result) sign_is two)
