-- What a window holds after a change of its bounds, and after a read behind what it held.
use Rattle.std.proofs.Common.{◌≡◌, ℕ, ◌+◌, ◌-◌, ◌≤◌, List, ◌++◌, length, take, drop, sym, ap, ◌∙◌, arith, length-take, length-drop}
use Rattle.std.proofs.lemmas.List.{drop-take, drop-drop, length-take-le, take-append-le}
use Rattle.std.proofs.lemmas.List.Edits.{take-paste}
use Rattle.std.proofs.Math.Seq.{take-append-add}
use Rattle.std.specs.List.{copy_within}
use borrow.Rule.Slice.PartMut.{put_mid}
use Rattle.rep_io.specs.Window.{IsWithin}

-- the window begins later
pub drop-held : (cells : List ℕ) (start end count : ℕ) → IsWithin cells start end → count ≤ length (take (end - start) (drop start cells))
    → take (end - (start + count)) (drop (start + count) cells) ≡ drop count (take (end - start) (drop start cells))
drop-held cells start end count within fits =
    let e : end - start ≡ count + (end - (start + count)) = omega (arith, simp (length-take, length-drop) at fits) in
    sym (ap (λ n. drop count (take n (drop start cells))) e ∙ drop-take count (end - (start + count)) (drop start cells)
    ∙ ap (take (end - (start + count))) (drop-drop count start cells))

pub length-held : (cells : List ℕ) (start end : ℕ) → IsWithin cells start end → length (take (end - start) (drop start cells)) ≡ end - start
length-held cells start end within = simp (length-take, length-drop) (omega arith)

-- what was held, at the front of the cells
pub take-moved : (cells : List ℕ) (start end : ℕ) → IsWithin cells start end
    → take (end - start) (copy_within cells start end 0) ≡ take (end - start) (drop start cells)
take-moved cells start end within =
    let fits : end - start ≤ length (drop start cells) = simp length-drop (omega arith) in
    ap (λ n. take n (copy_within cells start end 0)) (let e : end - start ≡ 0 + (end - start) = omega arith in e)
    ∙ take-paste cells 0 (drop start cells) (end - start) (omega arith) fits

-- the first bytes of a read stand behind a front
pub take-behind : (front into rest : List ℕ) (at count : ℕ) → length front ≡ at → count ≤ length into
    → take (at + count) (front ++ (into ++ rest)) ≡ front ++ take count into
take-behind front into rest at count e fits =
    ap (λ n. take (n + count) (front ++ (into ++ rest))) (sym e) ∙ take-append-add front (into ++ rest) count
    ∙ ap (λ xs. front ++ xs) (take-append-le count into rest fits)

-- what a window holds after a read behind the bytes that it held
pub take-filled : (cells into held : List ℕ) (start end room count : ℕ) → IsWithin cells start end
    → take (end - start) (drop start cells) ≡ held → length (copy_within cells start end 0) ≡ length cells → count ≤ length into
    → take (end - start + count - 0) (drop 0 (put_mid (end - start) room (copy_within cells start end 0) into)) ≡ held ++ take count into
take-filled cells into held start end room count within is same fits =
    let moved = copy_within cells start end 0 in
    let long : length (take (end - start) moved) ≡ end - start =
    length-take-le (end - start) moved (omega arith) in
    ap (λ n. take n (put_mid (end - start) room moved into)) (let e : end - start + count - 0 ≡ end - start + count = omega arith in e)
    ∙ take-behind (take (end - start) moved) into _ (end - start) count long fits
    ∙ ap (λ xs. xs ++ take count into) (take-moved cells start end within ∙ is)
