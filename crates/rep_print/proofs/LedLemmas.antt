-- An extraction is written: the line before an AFD, and the AFD.
use Rattle.std.proofs.Common.{◌≡◌, ◌≢◌, ℕ, ◌-◌, ◌<◌, List, [], ◌∷◌, ◌++◌, length, take, drop, Option, Result, Ok, Err, IsErr, refl, sym, ap, ◌∙◌, append_assoc, length-drop, arith}
use Rattle.std.specs.Io.KnownBytes.{append_known}
use Rattle.std.proofs.lemmas.List.{take-append-drop}
use Rattle.rep_wire.specs.Reply.{extract_text}
use Rattle.rep_report.specs.Saying.{IsStrictFront}
use Rattle.rep_report.proofs.KnownBytes.{append_known-append}
use Rattle.rep_print.specs.FileSteps.{PutsText, PutsAll, led_text}

append_nil_left : (xs ys : List ℕ) → xs ++ ys ≡ [] → xs ≡ []
append_nil_left [] ys e = refl
append_nil_left (x ∷ xs) ys e = absurd cc

-- what is left behind fewer bytes than there are
drop_some : (n : ℕ) (xs : List ℕ) → n < length xs → drop n xs ≢ []
drop_some n xs less none =
    let size : length (drop n xs) ≡ length xs - n = length-drop n xs in
    let nothing : length (drop n xs) ≡ 0 = ap length none in
    omega arith

of_front : {T E : Type 0} (old new : Option (List ℕ)) (text put : List ℕ) (result : Result T E) → IsErr result → new ≡ append_known old put → IsStrictFront put text
    → PutsAll old new text result
of_front old new text put (Ok v) failed appended front = cc
of_front old new text put (Err e) failed appended front = record { put = put; appended = appended; is_put = front }

-- a front of the line was written
pub line_cut : {T E : Type 0} (old new : Option (List ℕ)) (piece file : List ℕ) (result : Result T E) → IsErr result
    → (n : ℕ) × (n < length piece) × (new ≡ append_known old (take n piece)) → PutsAll old new (piece ++ file) result
line_cut old new piece file result failed part =
    let n = part.0 in
    of_front old new (piece ++ file) (take n piece) result failed part.2 (
      drop n piece ++ file,
      (λ none. drop_some n piece part.1 (append_nil_left (drop n piece) file none)),
      ap (λ xs. xs ++ file) (sym (take-append-drop n piece)) ∙ append_assoc (take n piece) (drop n piece) file,
    )

-- the line was written, and then a front of the AFD
pub file_left : {T E F : Type 0} (old mid new : Option (List ℕ)) (piece file : List ℕ) (e : F) (result : Result T E) → IsErr result → mid ≡ append_known old piece
    → PutsText mid new file (Err e) → PutsAll old new (piece ++ file) result
file_left old mid new piece file e result failed first puts =
    of_front old new (piece ++ file) (piece ++ puts.put) result failed
    (puts.appended ∙ ap (λ o. append_known o puts.put) first ∙ append_known-append old piece puts.put)
    (puts.is_put.0, puts.is_put.1, ap (λ xs. piece ++ xs) puts.is_put.2 ∙ sym (append_assoc piece puts.put puts.is_put.0))

-- both were written
pub all_led : {E F : Type 0} (old mid new : Option (List ℕ)) (piece file : List ℕ) (count : ℕ) → mid ≡ append_known old piece
    → PutsText {E = F} mid new file (Ok count) → PutsAll {T = Unit {0}} {E = E} old new (piece ++ file) (Ok tt)
all_led old mid new piece file count first puts = record {
  put = piece ++ file;
  appended = puts.appended ∙ ap (λ o. append_known o puts.put) first ∙ append_known-append old piece puts.put ∙ ap (λ xs. append_known old (piece ++ xs)) puts.is_put.0;
  is_put = refl;
}

-- the line is that of the AFD behind it
pub led : (line seq front size : ℕ) (piece file : List ℕ) → piece ≡ extract_text line seq size front → size ≡ length file → piece ++ file ≡ led_text line seq front file
led line seq front size piece file is sized = ap (λ xs. xs ++ file) (is ∙ ap (λ (n : ℕ). extract_text line seq n front) sized)
