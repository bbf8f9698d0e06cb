-- What a write, a cut and a sync make of the images that are told by name.
use Rattle.std.proofs.Common.{◌≡◌, ℕ, ◌-◌, min, Bool, cond, List, [], ◌∷◌, ◌++◌, length, take, drop, map, refl, sym, ap, ◌∙◌, inl, inr, arith, length-take, length-drop, take-append-drop}
use Rattle.std.specs.Prelude.{replicate}
use Rattle.std.proofs.lemmas.Bool.{cases_lt}
use Rattle.std.proofs.lemmas.List.{length-map, map-append, take-map, drop-map, take-take, take_all}
use Rattle.rep_disk.specs.Disk.{ByName, written_by_name, cut_by_name}
use Rattle.rep_disk.specs.Record.{State, Step, Put, Shorten, over, pended, rested, opened, at_rest, changed, image_of, odd_byte}
use Rattle.rep_disk.specs.declared.image.Image.{Image}
use Rattle.rep_disk.specs.declared.image.Image.TheVariants.{Old, New, Odd}
use Rattle.rep_disk.specs.declared.standing.Cell.{Cell}

abbrev bytes_of : List Cell → List ℕ
bytes_of = map (λ (cell : Cell). cell.byte)

abbrev odd_of : List Cell → List ℕ
odd_of = map (λ (cell : Cell). cond cell.pending odd_byte cell.byte)

map_over : {A B : Type 0} (f : A → B) (at : ℕ) (piece xs : List A) → map f (over at piece xs) ≡ over at (map f piece) (map f xs)
map_over {A} {B} f at piece xs =
    let behind : map f (drop (length piece) (drop at xs)) ≡ drop (length (map f piece)) (drop at (map f xs)) =
    sym (drop-map f (length piece) (drop at xs))
    ∙ ap (λ (l : List B). drop (length piece) l) (sym (drop-map f at xs))
    ∙ ap (λ (n : ℕ). drop n (drop at (map f xs))) (sym (length-map piece f)) in
    map-append f (take at xs) (piece ++ drop (length piece) (drop at xs))
    ∙ ap (λ (l : List B). l ++ map f (piece ++ drop (length piece) (drop at xs))) (sym (take-map f at xs))
    ∙ ap (λ (l : List B). take at (map f xs) ++ l) (map-append f piece (drop (length piece) (drop at xs)) ∙ ap (λ (l : List B). map f piece ++ l) behind)

bytes_pended : (piece : List ℕ) → bytes_of (pended piece) ≡ piece
bytes_pended [] = refl
bytes_pended (byte ∷ piece) = ap (λ (l : List ℕ). byte ∷ l) (bytes_pended piece)

odd_pended : (piece : List ℕ) → odd_of (pended piece) ≡ replicate (length piece) odd_byte
odd_pended [] = refl
odd_pended (byte ∷ piece) = ap (λ (l : List ℕ). odd_byte ∷ l) (odd_pended piece)

bytes_opened : (cells : List Cell) → bytes_of (opened cells) ≡ bytes_of cells
bytes_opened [] = refl
bytes_opened (cell ∷ cells) = ap (λ (l : List ℕ). cell.byte ∷ l) (bytes_opened cells)

odd_opened : (cells : List Cell) → odd_of (opened cells) ≡ replicate (length cells) odd_byte
odd_opened [] = refl
odd_opened (cell ∷ cells) = ap (λ (l : List ℕ). odd_byte ∷ l) (odd_opened cells)

bytes_rested : (bytes : List ℕ) → bytes_of (rested bytes) ≡ bytes
bytes_rested [] = refl
bytes_rested (byte ∷ bytes) = ap (λ (l : List ℕ). byte ∷ l) (bytes_rested bytes)

odd_rested : (bytes : List ℕ) → odd_of (rested bytes) ≡ bytes
odd_rested [] = refl
odd_rested (byte ∷ bytes) = ap (λ (l : List ℕ). byte ∷ l) (odd_rested bytes)

take_twice : (m n : ℕ) (xs : List ℕ) → take (min m n) xs ≡ take n (take m xs)
take_twice m n xs = elim (cases_lt m n) [
  | inl lt ↦ (let e : min m n ≡ m = omega arith in ap (λ (k : ℕ). take k xs) e ∙ sym (take_all n (take m xs) (omega (arith, length-take m xs))))
  | inr ge ↦ (let e : min m n ≡ n = omega arith in ap (λ (k : ℕ). take k xs) e ∙ sym (take-take n m xs ge))
]

bytes_cut : (n : ℕ) (cells : List Cell) → bytes_of (take n cells ++ opened (drop n cells)) ≡ bytes_of cells
bytes_cut n cells =
    map-append (λ (cell : Cell). cell.byte) (take n cells) (opened (drop n cells))
    ∙ ap (λ (l : List ℕ). bytes_of (take n cells) ++ l) (bytes_opened (drop n cells))
    ∙ sym (map-append (λ (cell : Cell). cell.byte) (take n cells) (drop n cells))
    ∙ ap bytes_of (take-append-drop n cells)

odd_cut : (n : ℕ) (cells : List Cell) → odd_of (take n cells ++ opened (drop n cells)) ≡ take n (odd_of cells) ++ replicate (length (odd_of cells) - n) odd_byte
odd_cut n cells =
    let size : length (odd_of cells) ≡ length cells = length-map cells (λ (cell : Cell). cond cell.pending odd_byte cell.byte) in
    let past : length (drop n cells) ≡ length (odd_of cells) - n = omega (arith, length-drop n cells) in
    map-append (λ (cell : Cell). cond cell.pending odd_byte cell.byte) (take n cells) (opened (drop n cells))
    ∙ ap (λ (l : List ℕ). l ++ odd_of (opened (drop n cells))) (sym (take-map (λ (cell : Cell). cond cell.pending odd_byte cell.byte) n cells))
    ∙ ap (λ (l : List ℕ). take n (odd_of cells) ++ l) (odd_opened (drop n cells) ∙ ap (λ (k : ℕ). replicate k odd_byte) past)

-- what a change makes of an image by its name
abbrev pub by_step : Step → ByName
by_step (Put at piece) = written_by_name at piece
by_step (Shorten size) = cut_by_name size

pub named_changed : (name : Image) (step : Step) (failed : Bool) (s : State) → image_of name (changed step failed s) ≡ by_step step name (image_of name s)
named_changed Old (Put at piece) failed s = refl
named_changed New (Put at piece) failed s = map_over (λ (cell : Cell). cell.byte) at (pended piece) s.cells ∙ ap (λ (l : List ℕ). over at l (bytes_of s.cells)) (bytes_pended piece)
named_changed Odd (Put at piece) failed s = map_over (λ (cell : Cell). cond cell.pending odd_byte cell.byte) at (pended piece) s.cells ∙ ap (λ (l : List ℕ). over at l (odd_of s.cells)) (odd_pended piece)
named_changed Old (Shorten size) failed s = take_twice s.least size s.settled
named_changed New (Shorten size) failed s = bytes_cut size s.cells
named_changed Odd (Shorten size) failed s = odd_cut size s.cells

-- a disk at rest names its contents alone
pub named_rested : (name : Image) (bytes : List ℕ) → image_of name (at_rest bytes) ≡ bytes
named_rested Old bytes = take_all (length bytes) bytes (omega arith)
named_rested New bytes = bytes_rested bytes
named_rested Odd bytes = odd_rested bytes

-- a write of nothing
pub named_nothing : (at : ℕ) (name : Image) (bytes : List ℕ) → written_by_name at [] name bytes ≡ bytes
named_nothing at Old bytes = refl
named_nothing at New bytes = take-append-drop at bytes
named_nothing at Odd bytes = take-append-drop at bytes
