-- The runs of a text, and the ends of lines.
use Rattle.std.proofs.Common.{◌≡◌, ◌≢◌, ℕ, suc, ◌+◌, ◌-◌, ◌<◌, ◌≤◌, Bool, true, false, eqb, cond, List, [], ◌∷◌, ◌++◌, length, get_or, take, refl, sym, ap, ◌∙◌, arith, length-take}
use Rattle.std.proofs.lemmas.Bool.{ne_eqb}
use Rattle.std.proofs.lemmas.List.Elements.{All-head, All-tail}
use Rattle.rep_io.specs.Lines.{Run, runs_of, line_of, has_return, ends_in_return, line_feed, carriage_return}
use Rattle.rep_io.specs.Cutter.{HasNoLineFeed}

-- the last byte tells
pub ends_in_return-last : (bytes : List ℕ) → 0 < length bytes → ends_in_return bytes ≡ eqb (get_or bytes (length bytes - 1) 0) carriage_return
ends_in_return-last [] some = absurd (omega arith)
ends_in_return-last (byte ∷ []) some = refl
ends_in_return-last (byte ∷ next ∷ bytes) some =
    let e : suc (suc (length bytes)) - 1 ≡ suc (suc (length bytes) - 1) = omega arith in
    ends_in_return-last (next ∷ bytes) (omega arith) ∙ ap (λ n. eqb (get_or (byte ∷ next ∷ bytes) n 0) carriage_return) (sym e)

-- a run without a line feed in it comes first, up to its line feed
pub runs_of-ended : (bytes rest : List ℕ) → HasNoLineFeed bytes
    → runs_of (bytes ++ line_feed ∷ rest) ≡ record { bytes = bytes; ended = true } ∷ runs_of rest
runs_of-ended [] rest none = refl
runs_of-ended (byte ∷ bytes) rest none =
    let P : ℕ → Type 0 = λ b. b ≢ line_feed in
    let differs = ne_eqb byte line_feed (All-head P byte bytes none) in
    rw (differs, runs_of-ended bytes rest (All-tail P byte bytes none)) refl

-- bytes without a line feed are the last run
pub runs_of-last : (byte : ℕ) (bytes : List ℕ) → HasNoLineFeed (byte ∷ bytes)
    → runs_of (byte ∷ bytes) ≡ record { bytes = byte ∷ bytes; ended = false } ∷ []
runs_of-last byte [] none =
    let P : ℕ → Type 0 = λ b. b ≢ line_feed in
    let differs = ne_eqb byte line_feed (All-head P byte [] none) in
    rw differs refl
runs_of-last byte (next ∷ bytes) none =
    let P : ℕ → Type 0 = λ b. b ≢ line_feed in
    let differs = ne_eqb byte line_feed (All-head P byte (next ∷ bytes) none) in
    rw (differs, runs_of-last next bytes (All-tail P byte (next ∷ bytes) none)) refl

pub runs_of-whole : (bytes : List ℕ) → 0 < length bytes → HasNoLineFeed bytes → runs_of bytes ≡ record { bytes = bytes; ended = false } ∷ []
runs_of-whole [] some none = absurd (omega arith)
runs_of-whole (byte ∷ bytes) some none = runs_of-last byte bytes none

length-cut : (b : Bool) (bytes : List ℕ) → length bytes ≤ length (cond b (take (length bytes - 1) bytes) bytes) + 1
length-cut true bytes = omega (arith, length-take (length bytes - 1) bytes)
length-cut false bytes = omega arith

-- a line is shorter than its run by one byte at most
pub length-line_of : (run : Run) → length run.bytes ≤ length (line_of run) + 1
length-line_of run = length-cut (has_return run) run.bytes
