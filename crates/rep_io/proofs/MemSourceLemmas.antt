-- What is left of the pieces of a source in memory.
use Rattle.std.proofs.Common.{◌≡◌, ℕ, zero, suc, ◌+◌, ◌-◌, ◌<◌, ◌≤◌, List, [], ◌∷◌, ◌++◌, length, get_or, take, drop, refl, sym, ap, ◌∙◌, arith, add-one, append_assoc, take-append-drop, length-drop, min, Some}
use Rattle.std.specs.Prelude.{Vec, Option}
use Rattle.std.specs.List.{concat}
use Rattle.std.specs.declared.alloc.Global.{Global}
use Rattle.std.proofs.Math.Seq.{drop-cons}
use Rattle.std.proofs.lemmas.List.{get_or-map, drop_all, drop-drop, length-map}
use Rattle.rep_io.specs.MemSource.{texts_of, drop_first, from_unused, first_of, pieces_from, IsPlace}

drop_first-zero : (pieces : List (List ℕ)) → drop_first 0 pieces ≡ pieces
drop_first-zero [] = refl
drop_first-zero (piece ∷ pieces) = refl

drop_first-add : (m n : ℕ) (pieces : List (List ℕ)) → drop_first (m + n) pieces ≡ drop_first n (drop_first m pieces)
drop_first-add m n [] = refl
drop_first-add m n (piece ∷ pieces) = ap (λ p. p ∷ pieces) (sym (drop-drop n m piece))

from_unused-some : (piece : List ℕ) (pieces : List (List ℕ)) → 0 < length piece → from_unused (piece ∷ pieces) ≡ piece ∷ pieces
from_unused-some [] pieces some = absurd (omega arith)
from_unused-some (byte ∷ bytes) pieces some = refl

pub concat-from_unused : (pieces : List (List ℕ)) → concat (from_unused pieces) ≡ concat pieces
concat-from_unused [] = refl
concat-from_unused ([] ∷ pieces) = concat-from_unused pieces
concat-from_unused ((byte ∷ bytes) ∷ pieces) = refl

-- nothing is left where no piece is unused
pub from_unused-none : (pieces : List (List ℕ)) → length (first_of (from_unused pieces)) ≡ 0 → from_unused pieces ≡ []
from_unused-none [] none = refl
from_unused-none ([] ∷ pieces) none = from_unused-none pieces none
from_unused-none ((byte ∷ bytes) ∷ pieces) none = absurd (omega arith)

-- the first bytes of the first piece are taken off
pub concat-drop_first : (n : ℕ) (pieces : List (List ℕ)) → n ≤ length (first_of pieces) → concat pieces ≡ take n (first_of pieces) ++ concat (drop_first n pieces)
concat-drop_first zero [] within = refl
concat-drop_first (suc n) [] within = absurd (omega arith)
concat-drop_first n (piece ∷ pieces) within =
    ap (λ p. p ++ concat pieces) (sym (take-append-drop n piece)) ∙ append_assoc (take n piece) (drop n piece) (concat pieces)

length-first_of-drop_first : (n : ℕ) (pieces : List (List ℕ)) → length (first_of (drop_first n pieces)) ≡ length (first_of pieces) - n
length-first_of-drop_first n [] = omega arith
length-first_of-drop_first n (piece ∷ pieces) = length-drop n piece

module _ (pieces : List (Vec ℕ Global)) (piece at : ℕ) where
  -- the piece under way, and those behind it
  pub pieces_from-split : (v : Vec ℕ Global) → piece < length pieces → v ≡ get_or pieces piece v
      → pieces_from pieces piece at ≡ drop at v.items ∷ drop (suc piece) (texts_of pieces)
  pieces_from-split v within is =
      let inside : piece < length (texts_of pieces) = omega (arith, length-map pieces (λ (p : Vec ℕ Global). p.items)) in
      ap (drop_first at) (drop-cons (texts_of pieces) piece [] inside)
      ∙ ap (λ p. drop at p ∷ drop (suc piece) (texts_of pieces))
      (get_or-map (λ (p : Vec ℕ Global). p.items) pieces piece v [] within ∙ ap (λ (p : Vec ℕ Global). p.items) (sym is))

  pub pieces_from-past : length pieces ≤ piece → pieces_from pieces piece at ≡ []
  pieces_from-past past =
      ap (drop_first at) (drop_all piece (texts_of pieces) (omega (arith, length-map pieces (λ (p : Vec ℕ Global). p.items))))

  -- a piece that is used up
  pub from_unused-used : (v : Vec ℕ Global) → piece < length pieces → v ≡ get_or pieces piece v → length v.items ≤ at
      → from_unused (pieces_from pieces (piece + 1) 0) ≡ from_unused (pieces_from pieces piece at)
  from_unused-used v within is used =
      ap from_unused (drop_first-zero (drop (piece + 1) (texts_of pieces)))
      ∙ ap (λ n. from_unused (drop n (texts_of pieces))) (add-one piece)
      ∙ sym (ap from_unused (pieces_from-split v within is ∙ ap (λ p. p ∷ drop (suc piece) (texts_of pieces)) (drop_all at v.items used)))

  -- a piece of which some is left
  pub from_unused-left : (v : Vec ℕ Global) → piece < length pieces → v ≡ get_or pieces piece v → at < length v.items
      → pieces_from pieces piece at ≡ from_unused (pieces_from pieces piece at)
  from_unused-left v within is left =
      let split = pieces_from-split v within is in
      split ∙ sym (ap from_unused split
      ∙ from_unused-some (drop at v.items) (drop (suc piece) (texts_of pieces)) (omega (arith, length-drop at v.items)))

  -- the place in the piece under way is within it
  pub at_within : (v : Vec ℕ Global) → piece < length pieces → v ≡ get_or pieces piece v → IsPlace pieces piece at → at ≤ length v.items
  at_within v within is place =
      let inside : piece < length (texts_of pieces) = omega (arith, length-map pieces (λ (p : Vec ℕ Global). p.items)) in
      let first : first_of (drop piece (texts_of pieces)) ≡ v.items =
      ap first_of (drop-cons (texts_of pieces) piece [] inside)
      ∙ get_or-map (λ (p : Vec ℕ Global). p.items) pieces piece v [] within ∙ ap (λ (p : Vec ℕ Global). p.items) (sym is) in
      omega (arith, place.at_within, ap length first)

  pub IsPlace-next : piece < length pieces → IsPlace pieces (piece + 1) 0
  IsPlace-next within = record { piece_within = omega arith; at_within = omega arith }

  -- some more bytes of the piece under way are used up
  pub IsPlace-more : (count : ℕ) → IsPlace pieces piece at → count ≤ length (first_of (pieces_from pieces piece at)) → IsPlace pieces piece (at + count)
  IsPlace-more count place within = record {
    piece_within = place.piece_within;
    at_within = omega (arith, place.at_within, length-first_of-drop_first at (drop piece (texts_of pieces)));
  }

  pub pieces_from-more : (count : ℕ) → pieces_from pieces piece (at + count) ≡ drop_first count (pieces_from pieces piece at)
  pieces_from-more count = drop_first-add at count (drop piece (texts_of pieces))

-- a read of the first piece that isn't used up
pub reads-first : (old full new : List (List ℕ)) (into rest : List ℕ) (count : ℕ) → full ≡ from_unused old → rest ≡ first_of full → new ≡ drop_first count full
    → count ≡ min (length into) (length rest) → take count into ≡ take count rest
    → (count ≤ length into) × (◌≡◌ {A = Option (List ℕ)} (Some (concat old)) (Some (take count into ++ concat new))) × (count ≡ 0 → 0 < length into → concat new ≡ [])
reads-first old full new into rest count is first left amount same =
    let long : length rest ≡ length (first_of full) = ap length first in
    let front : take count (first_of full) ≡ take count into = sym (same ∙ ap (take count) first) in (
      omega arith,
      ap Some (sym (ap concat is ∙ concat-from_unused old) ∙ concat-drop_first count full (omega arith)
          ∙ ap (λ p. p ++ concat (drop_first count full)) front ∙ ap (λ n. take count into ++ concat n) (sym left)),
      λ none room.
          let empty : length (first_of (from_unused old)) ≡ 0 = omega (arith, ap (λ f. length (first_of f)) is) in
          let over : full ≡ [] = is ∙ from_unused-none old empty in
          ap concat (left ∙ ap (drop_first count) over),
    )
