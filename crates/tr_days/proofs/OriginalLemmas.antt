-- Laws of the originals among the lines read so far.
use Rattle.std.proofs.Common.{◌≡◌, ℕ, ◌+◌, ◌<◌, ◌≤◌, true, false, List, [], ◌∷◌, ◌++◌, length, get_or, All, Option, Some, None, Result, Ok, Err, inl, inr, refl, sym, ap, ◌∙◌, subst, arith}
use Rattle.std.specs.Prelude.{Contains, IfNone}
use Rattle.std.specs.Option.{is_some}
use Rattle.std.specs.List.{AllZip}
use Rattle.std.specs.List.Sorted.{IsStrictlyIncreasing}
use Rattle.std.proofs.Math.ListN.{get_or-append}
use Rattle.std.proofs.Math.Seq.{get_or-append_seam}
use Rattle.std.proofs.lemmas.Bool.{cases_lt, false≢true}
use Rattle.std.proofs.lemmas.List.{length_push}
use Rattle.std.proofs.lemmas.List.Elements.{All-push, Contains-push, Contains-append_left}
use Rattle.rep_fields.specs.Decoding.{Decodes}
use Rattle.afd_records.specs.File.{HasTrailerText, trailer_text}
use Rattle.afd_records.specs.declared.error.BadLine.{BadLine}
use Rattle.afd_records.specs.declared.reading.ReadLine.{ReadLine}
use Rattle.afd_records.specs.declared.record.Body.TheVariants.{Clocking as ClockingBody}
use Rattle.afd_records.specs.declared.trailer.Trailer.{Trailer}
use Rattle.afd_read.specs.Numbered.{IsLineNumber, line_count, run_at, shown_line}
use Rattle.tr_days.specs.Index.{AddsRead, clocking_of}
use Rattle.tr_days.specs.Originals.{IsTrailer, ReadsAs, IsOriginal, AreOriginals}
use Rattle.tr_days.specs.declared.clocking.Clocking.{Clocking}

-- the originals among the lines below that number, of which none is a trailer
pub record AreOriginalsBelow (text : List ℕ) (end : ℕ) (clockings : List Clocking) : Type 0 where
  pub numbers : List ℕ
  pub in_order : IsStrictlyIncreasing numbers
  pub each : AllZip (IsOriginal text) numbers clockings
  pub below : All (λ n. n < end) numbers
  pub all : (number : ℕ) (clocking : Clocking) → number < end → IsOriginal text number clocking → Contains numbers number
  pub clear : (earlier : ℕ) → 1 ≤ earlier → earlier < end → IsTrailer (shown_line (run_at text earlier)) → ⊥

pub below_none : (text : List ℕ) → AreOriginalsBelow text 1 []
below_none text = record {
  numbers = [];
  in_order = λ k within. absurd (omega arith);
  each = tt;
  below = λ k d within. absurd (omega arith);
  all = λ number clocking less is. absurd (omega (arith, is.numbered.from_one));
  clear = λ earlier low high _. absurd (omega arith);
}

zip_push : {A B : Type 0} (R : A → B → Type 0) (xs : List A) (ys : List B) (x : A) (y : B) → AllZip R xs ys → R x y → AllZip R (xs ++ x ∷ []) (ys ++ y ∷ [])
zip_push R [] [] x y all r = (r, tt)
zip_push R [] (z ∷ ys) x y all r = absurd all
zip_push R (w ∷ xs) [] x y all r = absurd all
zip_push R (w ∷ xs) (z ∷ ys) x y all r = (all.0, zip_push R xs ys x y all.1 r)

increasing_push : (xs : List ℕ) (x : ℕ) → IsStrictlyIncreasing xs → All (λ n. n < x) xs → IsStrictlyIncreasing (xs ++ x ∷ [])
increasing_push xs x up below k within =
    let long = length_push xs x in
    let here = get_or-append xs (x ∷ []) 0 k (omega (arith, within, long)) in
    elim (cases_lt (k + 1) (length xs)) [
      | inl less ↦ omega (arith, here, get_or-append xs (x ∷ []) 0 (k + 1) less, up k less)
      | inr more ↦
          let last : k + 1 ≡ length xs = omega (arith, within, long) in
          let end : get_or (xs ++ x ∷ []) (k + 1) 0 ≡ x = ap (λ n. get_or (xs ++ x ∷ []) n 0) last ∙ get_or-append_seam xs x [] 0 in
          omega (arith, here, end, below k 0 (omega (arith, last)))
    ]

-- one line more, which is no trailer
pub below_more : (text : List ℕ) (number : ℕ) (old new : List Clocking) → AreOriginalsBelow text number old → IsLineNumber text number
    → (IsTrailer (shown_line (run_at text number)) → ⊥) → AddsRead (shown_line (run_at text number)) old new → AreOriginalsBelow text (number + 1) new
below_more text number old new are numbered no_trailer adds = elim adds [
  | inl (clocking, reads, is) ↦ subst (AreOriginalsBelow text (number + 1)) (sym is) (record {
    numbers = are.numbers ++ number ∷ [];
    in_order = increasing_push are.numbers number are.in_order are.below;
    each = zip_push (IsOriginal text) are.numbers old number clocking are.each (record { numbered = numbered; in_front = λ earlier low high. clear earlier low (omega arith); reads = reads });
    below = All-push (λ n. n < number + 1) are.numbers number (λ k d within. omega (arith, are.below k d within)) (omega arith);
    all = λ n c less original. elim (cases_lt n number) [
      | inl before ↦ Contains-append_left are.numbers (number ∷ []) n (are.all n c before original)
      | inr not ↦ let here : number ≡ n = omega arith in subst (Contains (are.numbers ++ number ∷ [])) here (Contains-push are.numbers number)
    ];
    clear = clear;
  })
  | inr (none, is) ↦ subst (AreOriginalsBelow text (number + 1)) (sym is) (record {
    numbers = are.numbers;
    in_order = are.in_order;
    each = are.each;
    below = λ k d within. omega (arith, are.below k d within);
    all = λ n c less original. elim (cases_lt n number) [
      | inl before ↦ are.all n c before original
      | inr not ↦ let here : n ≡ number = omega arith in absurd (none c (subst (λ m. ReadsAs (shown_line (run_at text m)) c) here original.reads))
    ];
    clear = clear;
  })
]
  where
    clear : (earlier : ℕ) → 1 ≤ earlier → earlier < number + 1 → IsTrailer (shown_line (run_at text earlier)) → ⊥
    clear earlier low high trailer = elim (cases_lt earlier number) [
      | inl before ↦ are.clear earlier low before trailer
      | inr not ↦ let here : earlier ≡ number = omega arith in no_trailer (subst (λ m. IsTrailer (shown_line (run_at text m))) here trailer)
    ]

-- from the trailer on there is none
pub up_to_trailer : (text : List ℕ) (number : ℕ) (clockings : List Clocking) → AreOriginalsBelow text number clockings → 1 ≤ number
    → IsTrailer (shown_line (run_at text number)) → AreOriginals text clockings
up_to_trailer text number clockings are low trailer = record {
  numbers = are.numbers;
  in_order = are.in_order;
  each = are.each;
  all = λ n c original. elim (cases_lt n number) [
    | inl before ↦ are.all n c before original
    | inr not ↦ absurd (original.in_front number low (omega arith) trailer)
  ];
}

-- and behind the last line there is none
pub up_to_end : (text : List ℕ) (end : ℕ) (clockings : List Clocking) → AreOriginalsBelow text end clockings → line_count text < end
    → AreOriginals text clockings
up_to_end text end clockings are high = record {
  numbers = are.numbers;
  in_order = are.in_order;
  each = are.each;
  all = λ n c original. are.all n c (omega (arith, original.numbered.within, high)) original;
}

-- what is found where there is none
pub none_from : {X : Type 0} (o : Option X) (P : Type 0) → (o ≡ None → P) → IfNone o P
none_from None P from = from refl
none_from (Some x) P from = tt

-- a line that reads as a clocking has it
pub read_is : {line : List ℕ} (found : ReadLine) (clocking : Clocking) (reads : ReadsAs line clocking)
    → ◌≡◌ {A = Result ReadLine BadLine} (Ok found)
    (Ok (record { nsr = clocking.nsr; body = ClockingBody clocking.at clocking.cpf reads.recorded reads.collector reads.offline; hash = reads.hash; notes = reads.notes }))
    → clocking_of found.nsr found.body ≡ Some clocking
read_is found clocking reads is =
    ap (λ (r : Result ReadLine BadLine). elim r [ Ok f ↦ clocking_of f.nsr f.body | Err e ↦ None ]) is

-- what the reader of trailers finds is one, and where it finds none there is none
pub trailer_from : (line : List ℕ) (o : Option Trailer) → Decodes (λ (t : Trailer). HasTrailerText t.counts) (λ t. trailer_text t.counts) line o
    → is_some o ≡ true → IsTrailer line
trailer_from line (Some t) found is = (t.counts, found.0, found.1)
trailer_from line None found is = absurd (false≢true is)

pub no_trailer_from : (line : List ℕ) (o : Option Trailer)
    → ((counts : List ℕ) → HasTrailerText counts → line ≡ trailer_text counts → o ≡ Some (record { counts = counts }))
    → is_some o ≡ false → IsTrailer line → ⊥
no_trailer_from line o only is trailer = false≢true (sym is ∙ ap is_some (only trailer.0 trailer.1 trailer.2))
