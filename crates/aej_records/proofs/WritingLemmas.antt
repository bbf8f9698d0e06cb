-- Laws of what is written.
use Rattle.std.proofs.Common.{◌≡◌, ℕ, ◌+◌, ◌<◌, ◌≤◌, ◌^◌, List, [], ◌∷◌, ◌++◌, length, get_or, map, take, refl, sym, ap, ◌∙◌, decimal, arith, append_assoc, append-nil}
use Rattle.std.proofs.lemmas.Fmt.{length-decimal-le}
use Rattle.std.proofs.lemmas.List.{map-append, take_more}
use Rattle.rep_fields.specs.Identity.{bar}
use Rattle.aej_records.specs.Text.{behind_bars}

-- a number of 32 bits has at most 10 digits
pub length_decimal : (n : ℕ) → n < 2 ^ 32 → length (decimal n) ≤ 10
length_decimal n small = length-decimal-le 10 n (omega arith) (omega arith) (omega arith)

behind_bars-append : (front back : List (List ℕ)) → behind_bars (front ++ back) ≡ behind_bars front ++ behind_bars back
behind_bars-append [] back = refl
behind_bars-append (field ∷ fields) back =
    ap (λ rest. bar ∷ (field ++ rest)) (behind_bars-append fields back)
    ∙ ap (λ rest. bar ∷ rest) (sym (append_assoc field (behind_bars fields) (behind_bars back)))

-- one more field of a run is written
pub behind_bars-more : (text_of : ℕ → List ℕ) (values : List ℕ) (count : ℕ) (start row new : List ℕ) → count < length values
    → row ≡ start ++ behind_bars (map text_of (take count values)) → new ≡ row ++ bar ∷ text_of (get_or values count 0)
    → new ≡ start ++ behind_bars (map text_of (take (count + 1) values))
behind_bars-more text_of values count start row new within is written =
    let front = map text_of (take count values) in
    let next = text_of (get_or values count 0) in
    let more : map text_of (take (count + 1) values) ≡ front ++ next ∷ [] =
    ap (map text_of) (take_more values count 0 within) ∙ map-append text_of (take count values) (get_or values count 0 ∷ []) in
    let last : behind_bars (next ∷ []) ≡ bar ∷ next = ap (λ text. bar ∷ text) (append-nil next) in
    written ∙ ap (λ text. text ++ bar ∷ next) is ∙ append_assoc start (behind_bars front) (bar ∷ next)
    ∙ ap (λ text. start ++ text) (sym (ap behind_bars more ∙ behind_bars-append front (next ∷ []) ∙ ap (λ text. behind_bars front ++ text) last))
