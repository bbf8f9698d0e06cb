-- Which bytes fit the places of an image, and what a write and a cut make of that.
use Rattle.std.proofs.Common.{◌≡◌, ℕ, zero, suc, ◌+◌, ◌<◌, ◌≤◌, min, max, true, inl, inr, get_or, List, [], ◌∷◌, ◌++◌, length, take, drop, map, refl, sym, ap, ◌∙◌, subst, arith, length-append, length-take, length-drop}
use Rattle.std.proofs.lemmas.List.{length-map, drop-drop, drop_all}
use Rattle.std.proofs.lemmas.Bool.{cases_lt}
use Rattle.rep_disk.specs.Disk.{Torn, CutOpen}
use Rattle.rep_disk.specs.Record.{FitsCells, over, pended, rested, opened}
use Rattle.rep_disk.specs.declared.standing.Cell.{Cell}

abbrev bytes_of : List Cell → List ℕ
bytes_of = map (λ (cell : Cell). cell.byte)

-- bytes that fit are no longer than there are places
pub fits_length : (cells : List Cell) (bytes : List ℕ) → FitsCells cells bytes → length bytes ≤ length cells
fits_length cells [] fits = omega arith
fits_length [] (byte ∷ bytes) fits = absurd fits
fits_length (cell ∷ cells) (byte ∷ bytes) fits = let h = fits_length cells bytes fits.1 in omega arith

pub fits_bytes : (cells : List Cell) → FitsCells cells (bytes_of cells)
fits_bytes [] = tt
fits_bytes (cell ∷ cells) = (λ _. refl, fits_bytes cells)

pub fits_take : (n : ℕ) (cells : List Cell) (bytes : List ℕ) → FitsCells cells bytes → FitsCells cells (take n bytes)
fits_take zero cells bytes fits = tt
fits_take (suc n) cells [] fits = tt
fits_take (suc n) [] (byte ∷ bytes) fits = absurd fits
fits_take (suc n) (cell ∷ cells) (byte ∷ bytes) fits = (fits.0, fits_take n cells bytes fits.1)

pub fits_rested : (bytes : List ℕ) → FitsCells (rested bytes) bytes
fits_rested [] = tt
fits_rested (byte ∷ bytes) = (λ _. refl, fits_rested bytes)

-- a disk at rest has one image
pub fits_only : (bytes image : List ℕ) → FitsCells (rested bytes) image → length bytes ≤ length image → image ≡ bytes
fits_only [] [] fits long = refl
fits_only [] (byte ∷ image) fits long = absurd fits
fits_only (byte ∷ bytes) [] fits long = absurd (omega arith)
fits_only (byte ∷ bytes) (b ∷ image) fits long =
    let rest : image ≡ bytes = fits_only bytes image fits.1 (omega arith) in
    let here : b ≡ byte = fits.0 refl in
    ap (λ (x : ℕ). x ∷ image) here ∙ ap (λ (l : List ℕ). byte ∷ l) rest

-- A write: at its start first, then further on.

fits_pended : (piece : List ℕ) (cells : List Cell) (bytes : List ℕ) → FitsCells cells bytes → FitsCells (pended piece ++ drop (length piece) cells) bytes
fits_pended [] cells bytes fits = fits
fits_pended (p ∷ piece) cells [] fits = tt
fits_pended (p ∷ piece) [] (byte ∷ bytes) fits = absurd fits
fits_pended (p ∷ piece) (cell ∷ cells) (byte ∷ bytes) fits = ((λ h. absurd (cc)), fits_pended piece cells bytes fits.1)

pub fits_over : (at : ℕ) (piece : List ℕ) (cells : List Cell) (bytes : List ℕ) → FitsCells cells bytes → FitsCells (over at (pended piece) cells) bytes
fits_over zero piece cells bytes fits = subst (λ (n : ℕ). FitsCells (pended piece ++ drop n cells) bytes) (sym (length-map piece (λ (byte : ℕ). record { byte = byte; pending = true }))) (fits_pended piece cells bytes fits)
fits_over (suc at) piece cells [] fits = tt
fits_over (suc at) piece [] (byte ∷ bytes) fits = absurd fits
fits_over (suc at) piece (cell ∷ cells) (byte ∷ bytes) fits = (fits.0, fits_over at piece cells bytes fits.1)

fits_written : (piece : List ℕ) (cells : List Cell) (bytes : List ℕ) → FitsCells cells bytes → FitsCells (pended piece ++ drop (length piece) cells) (piece ++ drop (length piece) bytes)
fits_written [] cells bytes fits = fits
fits_written (p ∷ piece) cells [] fits = ((λ h. absurd (cc)), subst (λ (l : List ℕ). FitsCells (pended piece ++ drop (suc (length piece)) cells) (piece ++ l)) refl (fits_nothing piece (drop (suc (length piece)) cells)))
  where
    fits_nothing : (piece : List ℕ) (cells : List Cell) → FitsCells (pended piece ++ cells) (piece ++ [])
    fits_nothing [] cells = tt
    fits_nothing (p ∷ piece) cells = ((λ h. absurd (cc)), fits_nothing piece cells)
fits_written (p ∷ piece) [] (byte ∷ bytes) fits = absurd fits
fits_written (p ∷ piece) (cell ∷ cells) (byte ∷ bytes) fits = ((λ h. absurd (cc)), fits_written piece cells bytes fits.1)

pub fits_over_both : (at : ℕ) (piece : List ℕ) (cells : List Cell) (bytes : List ℕ) → at ≤ length bytes → FitsCells cells bytes → FitsCells (over at (pended piece) cells) (over at piece bytes)
fits_over_both zero piece cells bytes le fits = subst (λ (n : ℕ). FitsCells (pended piece ++ drop n cells) (piece ++ drop (length piece) bytes)) (sym (length-map piece (λ (byte : ℕ). record { byte = byte; pending = true }))) (fits_written piece cells bytes fits)
fits_over_both (suc at) piece cells [] le fits = absurd (omega arith)
fits_over_both (suc at) piece [] (byte ∷ bytes) le fits = absurd fits
fits_over_both (suc at) piece (cell ∷ cells) (byte ∷ bytes) le fits = (fits.0, fits_over_both at piece cells bytes (omega arith) fits.1)

pub length-over : {A : Type 0} (at : ℕ) (piece xs : List A) → at ≤ length xs → length xs ≤ length (over at piece xs)
length-over at piece xs le = omega (arith, length-append (take at xs) (piece ++ drop (length piece) (drop at xs)), length-append piece (drop (length piece) (drop at xs)), length-take at xs, length-drop (length piece) (drop at xs), length-drop at xs)

-- the image before a write, of which the image after it is a torn one: at the start first, then further on
abbrev before_piece : ℕ → List Cell → List ℕ → List ℕ
before_piece zero cells image = image
before_piece (suc n) [] image = []
before_piece (suc n) (cell ∷ cells) [] = []
before_piece (suc n) (cell ∷ cells) (byte ∷ image) = cell.byte ∷ before_piece n cells image

abbrev before_write : ℕ → ℕ → List Cell → List ℕ → List ℕ
before_write zero n cells image = before_piece n cells image
before_write (suc at) n [] image = []
before_write (suc at) n (cell ∷ cells) [] = []
before_write (suc at) n (cell ∷ cells) (byte ∷ image) = byte ∷ before_write at n cells image

-- how an image is torn by a write, by parts
record IsTorn (at n : ℕ) (old new : List ℕ) : Type 0 where
  before : take at new ≡ take at old
  behind : drop n (drop at new) ≡ drop n (drop at old)
  no_shorter : length old ≤ length new
  no_longer : length new ≤ max (length old) (at + n)

length-before_piece : (piece : List ℕ) (cells : List Cell) (image : List ℕ) → FitsCells (pended piece ++ drop (length piece) cells) image → length (before_piece (length piece) cells image) ≡ min (length image) (length cells)
length-before_piece [] cells image fits = let h = fits_length cells image fits in omega arith
length-before_piece (p ∷ piece) [] image fits = omega arith
length-before_piece (p ∷ piece) (cell ∷ cells) [] fits = omega arith
length-before_piece (p ∷ piece) (cell ∷ cells) (byte ∷ image) fits = let h = length-before_piece piece cells image fits.1 in omega arith

fits_before_piece : (piece : List ℕ) (cells : List Cell) (image : List ℕ) → FitsCells (pended piece ++ drop (length piece) cells) image → FitsCells cells (before_piece (length piece) cells image)
fits_before_piece [] cells image fits = fits
fits_before_piece (p ∷ piece) [] image fits = tt
fits_before_piece (p ∷ piece) (cell ∷ cells) [] fits = tt
fits_before_piece (p ∷ piece) (cell ∷ cells) (byte ∷ image) fits = (λ _. refl, fits_before_piece piece cells image fits.1)

pended_only : (piece image : List ℕ) → FitsCells (pended piece ++ []) image → length image ≤ length piece
pended_only [] [] fits = omega arith
pended_only [] (byte ∷ image) fits = absurd fits
pended_only (p ∷ piece) [] fits = omega arith
pended_only (p ∷ piece) (byte ∷ image) fits = let h = pended_only piece image fits.1 in omega arith

torn_piece : (piece : List ℕ) (cells : List Cell) (image : List ℕ) → FitsCells (pended piece ++ drop (length piece) cells) image → drop (length piece) image ≡ drop (length piece) (before_piece (length piece) cells image)
torn_piece [] cells image fits = refl
torn_piece (p ∷ piece) [] [] fits = refl
torn_piece (p ∷ piece) [] (byte ∷ image) fits = drop_all (length piece) image (pended_only piece image fits.1)
torn_piece (p ∷ piece) (cell ∷ cells) [] fits = refl
torn_piece (p ∷ piece) (cell ∷ cells) (byte ∷ image) fits = torn_piece piece cells image fits.1

covers_piece : (piece : List ℕ) (cells : List Cell) (image : List ℕ) → FitsCells (pended piece ++ drop (length piece) cells) image → length image ≤ max (length (before_piece (length piece) cells image)) (length piece)
covers_piece [] cells image fits = omega arith
covers_piece (p ∷ piece) [] [] fits = omega arith
covers_piece (p ∷ piece) [] (byte ∷ image) fits = let h = pended_only piece image fits.1 in omega arith
covers_piece (p ∷ piece) (cell ∷ cells) [] fits = omega arith
covers_piece (p ∷ piece) (cell ∷ cells) (byte ∷ image) fits = let h = covers_piece piece cells image fits.1 in omega arith

-- what is known of the image before a write
record ComesFrom (at n : ℕ) (cells : List Cell) (image was : List ℕ) : Type 0 where
  fits : FitsCells cells was
  size : length was ≡ min (length image) (length cells)
  torn : IsTorn at n was image

comes_from : (at : ℕ) (piece : List ℕ) (cells : List Cell) (image : List ℕ) → at ≤ length cells → FitsCells (take at cells ++ (pended piece ++ drop (length piece) (drop at cells))) image
    → ComesFrom at (length piece) cells image (before_write at (length piece) cells image)
comes_from zero piece cells image le fits = record {
  fits = fits_before_piece piece cells image fits;
  size = length-before_piece piece cells image fits;
  torn = record {
    before = refl;
    behind = torn_piece piece cells image fits;
    no_shorter = (let h = length-before_piece piece cells image fits in omega arith);
    no_longer = (let h = covers_piece piece cells image fits in omega arith);
  };
}
comes_from (suc at) piece [] image le fits = absurd (omega arith)
comes_from (suc at) piece (cell ∷ cells) [] le fits = record {
  fits = tt;
  size = omega arith;
  torn = record { before = refl; behind = refl; no_shorter = omega arith; no_longer = omega arith };
}
comes_from (suc at) piece (cell ∷ cells) (byte ∷ image) le fits =
    let h = comes_from at piece cells image (omega arith) fits.1 in
    record {
      fits = (fits.0, h.fits);
      size = (let s = h.size in omega arith);
      torn = record {
        before = ap (λ (l : List ℕ). byte ∷ l) h.torn.before;
        behind = h.torn.behind;
        no_shorter = (let s = h.torn.no_shorter in omega arith);
        no_longer = (let s = h.torn.no_longer in omega arith);
      };
    }

pub torn_write : (at : ℕ) (piece : List ℕ) (cells : List Cell) (image : List ℕ) → at ≤ length cells → FitsCells (over at (pended piece) cells) image
    → (was : List ℕ) × FitsCells cells was × (length was ≡ min (length image) (length cells)) × Torn at (length piece) was image
torn_write at piece cells image le fits =
    let e : length (pended piece) ≡ length piece = length-map piece (λ (byte : ℕ). record { byte = byte; pending = true }) in
    let h = comes_from at piece cells image le (subst (λ (n : ℕ). FitsCells (take at cells ++ (pended piece ++ drop n (drop at cells))) image) e fits) in (
      before_write at (length piece) cells image,
      h.fits,
      h.size,
      record {
        before = h.torn.before;
        behind = sym (drop-drop (length piece) at image) ∙ h.torn.behind ∙ drop-drop (length piece) at (before_write at (length piece) cells image);
        no_shorter = h.torn.no_shorter;
        no_longer = h.torn.no_longer;
      },
    )

-- the other way round: each torn image fits after the write
pended_short : (piece image : List ℕ) (cells : List Cell) → length image ≤ length piece → FitsCells (pended piece ++ cells) image
pended_short piece [] cells le = tt
pended_short [] (byte ∷ image) cells le = absurd (omega arith)
pended_short (p ∷ piece) (byte ∷ image) cells le = ((λ h. absurd (cc)), pended_short piece image cells (omega arith))

fits_torn_piece : (piece : List ℕ) (cells : List Cell) (was image : List ℕ) → FitsCells cells was → drop (length piece) image ≡ drop (length piece) was → length image ≤ max (length was) (length piece)
    → FitsCells (pended piece ++ drop (length piece) cells) image
fits_torn_piece [] cells was image fits behind le = subst (λ (l : List ℕ). FitsCells cells l) (sym behind) fits
fits_torn_piece (p ∷ piece) cells was [] fits behind le = tt
fits_torn_piece (p ∷ piece) cells [] (byte ∷ image) fits behind le = pended_short (p ∷ piece) (byte ∷ image) (drop (suc (length piece)) cells) (omega arith)
fits_torn_piece (p ∷ piece) [] (w ∷ was) (byte ∷ image) fits behind le = absurd fits
fits_torn_piece (p ∷ piece) (cell ∷ cells) (w ∷ was) (byte ∷ image) fits behind le = ((λ h. absurd (cc)), fits_torn_piece piece cells was image fits.1 behind (omega arith))

fits_torn_by_parts : (at : ℕ) (piece : List ℕ) (cells : List Cell) (was image : List ℕ) → at ≤ length cells → FitsCells cells was → IsTorn at (length piece) was image
    → FitsCells (take at cells ++ (pended piece ++ drop (length piece) (drop at cells))) image
fits_torn_by_parts zero piece cells was image le fits torn = fits_torn_piece piece cells was image fits torn.behind (let l = torn.no_longer in omega arith)
fits_torn_by_parts (suc at) piece cells was [] le fits torn = tt
fits_torn_by_parts (suc at) piece [] was (byte ∷ image) le fits torn = absurd (omega arith)
fits_torn_by_parts (suc at) piece (cell ∷ cells) [] (byte ∷ image) le fits torn = (let e = torn.before in absurd (cc))
fits_torn_by_parts (suc at) piece (cell ∷ cells) (w ∷ was) (byte ∷ image) le fits torn =
    let here : byte ≡ w = ap (λ (l : List ℕ). get_or l 0 0) torn.before in (
      (λ h. here ∙ fits.0 h),
      fits_torn_by_parts at piece cells was image (omega arith) fits.1 (record {
        before = ap (λ (l : List ℕ). drop 1 l) torn.before;
        behind = torn.behind;
        no_shorter = (let l = torn.no_shorter in omega arith);
        no_longer = (let l = torn.no_longer in omega arith);
      }),
    )

pub fits_torn : (at : ℕ) (piece : List ℕ) (cells : List Cell) (was image : List ℕ) → at ≤ length cells → FitsCells cells was → Torn at (length piece) was image → FitsCells (over at (pended piece) cells) image
fits_torn at piece cells was image le fits torn =
    let e : length (pended piece) ≡ length piece = length-map piece (λ (byte : ℕ). record { byte = byte; pending = true }) in
    subst (λ (n : ℕ). FitsCells (take at cells ++ (pended piece ++ drop n (drop at cells))) image) (sym e) (fits_torn_by_parts at piece cells was image le fits (record {
      before = torn.before;
      behind = drop-drop (length piece) at image ∙ torn.behind ∙ sym (drop-drop (length piece) at was);
      no_shorter = torn.no_shorter;
      no_longer = torn.no_longer;
    }))

-- A cut.

pub fits_cut : (n : ℕ) (cells : List Cell) (bytes : List ℕ) → FitsCells cells bytes → FitsCells (take n cells ++ opened (drop n cells)) bytes
fits_cut zero [] bytes fits = fits
fits_cut zero (cell ∷ cells) [] fits = tt
fits_cut zero (cell ∷ cells) (byte ∷ bytes) fits = ((λ h. absurd (cc)), fits_cut zero cells bytes fits.1)
fits_cut (suc n) cells [] fits = tt
fits_cut (suc n) [] (byte ∷ bytes) fits = absurd fits
fits_cut (suc n) (cell ∷ cells) (byte ∷ bytes) fits = (fits.0, fits_cut n cells bytes fits.1)

abbrev before_cut : ℕ → List Cell → List ℕ → List ℕ
before_cut zero cells image = bytes_of cells
before_cut (suc n) [] image = []
before_cut (suc n) (cell ∷ cells) [] = []
before_cut (suc n) (cell ∷ cells) (byte ∷ image) = byte ∷ before_cut n cells image

record ComesFromCut (n : ℕ) (cells : List Cell) (image was : List ℕ) : Type 0 where
  fits : FitsCells cells was
  short : length image < n → length was ≡ length image
  long : n ≤ length image → length was ≡ length cells
  is_open : CutOpen n was image

opened_length : (cells : List Cell) (image : List ℕ) → FitsCells (opened cells) image → length image ≤ length cells
opened_length cells image fits =
    let e : length (opened cells) ≡ length cells = length-map cells (λ (cell : Cell). record { byte = cell.byte; pending = true }) in
    let h = fits_length (opened cells) image fits in
    omega arith

comes_from_cut : (n : ℕ) (cells : List Cell) (image : List ℕ) → FitsCells (take n cells ++ opened (drop n cells)) image → ComesFromCut n cells image (before_cut n cells image)
comes_from_cut zero cells image fits =
    let e : length (bytes_of cells) ≡ length cells = length-map cells (λ (cell : Cell). cell.byte) in
    let h = opened_length cells image fits in
    record {
      fits = fits_bytes cells;
      short = λ lt. absurd (omega arith);
      long = λ _. e;
      is_open = record { front = refl; no_shorter = omega arith; no_longer = omega arith };
    }
comes_from_cut (suc n) [] [] fits = record {
  fits = tt;
  short = λ _. refl;
  long = λ _. refl;
  is_open = record { front = refl; no_shorter = omega arith; no_longer = omega arith };
}
comes_from_cut (suc n) [] (byte ∷ image) fits = absurd fits
comes_from_cut (suc n) (cell ∷ cells) [] fits = record {
  fits = tt;
  short = λ _. refl;
  long = λ le. absurd (omega arith);
  is_open = record { front = refl; no_shorter = omega arith; no_longer = omega arith };
}
comes_from_cut (suc n) (cell ∷ cells) (byte ∷ image) fits =
    let h = comes_from_cut n cells image fits.1 in
    record {
      fits = (fits.0, h.fits);
      short = (λ lt. ap suc (h.short (omega arith)));
      long = (λ le. ap suc (h.long (omega arith)));
      is_open = record {
        front = ap (λ (l : List ℕ). byte ∷ l) h.is_open.front;
        no_shorter = (let s = h.is_open.no_shorter in omega arith);
        no_longer = (let s = h.is_open.no_longer in omega arith);
      };
    }

pub open_cut : (n least : ℕ) (cells : List Cell) (image : List ℕ) → least ≤ length cells → min least n ≤ length image → FitsCells (take n cells ++ opened (drop n cells)) image
    → (was : List ℕ) × FitsCells cells was × (least ≤ length was) × CutOpen n was image
open_cut n least cells image le no_shorter fits =
    let h = comes_from_cut n cells image fits in (
      before_cut n cells image,
      h.fits,
      elim (cases_lt (length image) n) [
        | inl lt ↦ (let s = h.short lt in omega arith)
        | inr ge ↦ (let s = h.long ge in omega arith)
      ],
      h.is_open,
    )

-- the other way round: each open image fits after the cut
opened_short : (cells : List Cell) (image : List ℕ) → length image ≤ length cells → FitsCells (opened cells) image
opened_short cells [] le = tt
opened_short [] (byte ∷ image) le = absurd (omega arith)
opened_short (cell ∷ cells) (byte ∷ image) le = ((λ h. absurd (cc)), opened_short cells image (omega arith))

pub fits_open : (n : ℕ) (cells : List Cell) (was image : List ℕ) → FitsCells cells was → take n image ≡ take n was → length image ≤ length was → FitsCells (take n cells ++ opened (drop n cells)) image
fits_open zero cells was image fits front le = opened_short cells image (let l = fits_length cells was fits in omega arith)
fits_open (suc n) cells was [] fits front le = tt
fits_open (suc n) cells [] (byte ∷ image) fits front le = absurd (omega arith)
fits_open (suc n) [] (w ∷ was) (byte ∷ image) fits front le = absurd fits
fits_open (suc n) (cell ∷ cells) (w ∷ was) (byte ∷ image) fits front le =
    let here : byte ≡ w = ap (λ (l : List ℕ). get_or l 0 0) front in
    ((λ h. here ∙ fits.0 h), fits_open n cells was image fits.1 (ap (λ (l : List ℕ). drop 1 l) front) (omega arith))
