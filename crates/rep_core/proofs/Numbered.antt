-- Entries by their numbers.
use Rattle.std.proofs.Common.{◌≡◌, ℕ, suc, ◌-◌, ◌<◌, ◌≤◌, inl, inr, List, [], ◌∷◌, ◌++◌, length, get_or, take, drop, All, refl, sym, ap, ◌∙◌, subst, arith}
use Rattle.std.proofs.lemmas.List.{length-take-le}
use Rattle.std.proofs.lemmas.Bool.{cases_order}
use Rattle.rep_wire.specs.declared.request.Entry.{Entry}
use Rattle.rep_core.specs.History.{IsNumbered, CameBy, IsFound, IsNew}
use Rattle.rep_core.proofs.Splits.{split_at, split_before, split_in, split_of}

-- the entry at each place has the next number
pub number_of_place : (h : List Entry) (i : ℕ) (d : Entry) → i < length h → IsNumbered h (suc i) (get_or h i d)
number_of_place h i d inside = record {
  before = take i h;
  behind = drop (suc i) h;
  split = split_of h i d inside;
  number = ap suc (sym (length-take-le i h (omega arith)));
}

-- a number names a place
pub place_of_number : (h : List Entry) (nsr : ℕ) (e d : Entry) → IsNumbered h nsr e → (0 < nsr) × (nsr ≤ length h) × (get_or h (nsr - 1) d ≡ e)
place_of_number h nsr e d numbered =
    let inside = split_in h numbered.before numbered.behind e numbered.split in
    let place : nsr - 1 ≡ length numbered.before = omega (arith, numbered.number) in
    (omega (arith, numbered.number), omega (arith, numbered.number), ap (λ i. get_or h i d) place ∙ split_at h numbered.before numbered.behind e d numbered.split)

-- the last of the entries has their count as its number
pub number_of_last : (h : List Entry) (e : Entry) → IsNumbered (h ++ e ∷ []) (suc (length h)) e
number_of_last h e = record { before = h; behind = []; split = refl; number = refl }

-- a number has one entry
pub IsNumbered-unique : (h : List Entry) (nsr : ℕ) (e d : Entry) → IsNumbered h nsr e → IsNumbered h nsr d → e ≡ d
IsNumbered-unique h nsr e d first second =
    sym (place_of_number h nsr e e first).2 ∙ (place_of_number h nsr d e second).2

-- what is looked for is found before no other one
found_before : (P : Entry → Type 0) (h : List Entry) (before behind other rest : List Entry) (e d : Entry) → h ≡ before ++ e ∷ behind → h ≡ other ++ d ∷ rest → P e → All (λ x. P x → ⊥) other → length before < length other → ⊥
found_before P h before behind other rest e d split split' holds none less =
    none (length before) e less
    (subst P (sym (split_at h before behind e e split) ∙ split_before h other rest d e (length before) split' less) holds)

-- a pair's first entry is one
pub IsFound-unique : (origin seq : ℕ) (h : List Entry) (m n : ℕ) (e d : Entry) → IsFound origin seq h m e → IsFound origin seq h n d → (m ≡ n) × (e ≡ d)
IsFound-unique origin seq h m n e d one two =
    let a = one.numbered in
    let b = two.numbered in
    elim (cases_order (length a.before) (length b.before)) [
      | inl same ↦
          let number : m ≡ n = omega (arith, a.number, b.number) in
          (number, IsNumbered-unique h n e d (subst (λ k. IsNumbered h k e) number a) b)
      | inr apart ↦ elim apart [
        | inl less ↦ absurd (found_before (CameBy origin seq) h a.before a.behind b.before b.behind e d a.split b.split one.came two.first less)
        | inr more ↦ absurd (found_before (CameBy origin seq) h b.before b.behind a.before a.behind d e b.split a.split two.came one.first more)
      ]
    ]

-- a pair that is new has no entry
pub not_found : (origin seq : ℕ) (h : List Entry) (nsr : ℕ) (e : Entry) → IsNew origin seq h → IsFound origin seq h nsr e → ⊥
not_found origin seq h nsr e new found =
    let w = found.numbered in
    new (length w.before) e (split_in h w.before w.behind e w.split)
    (subst (CameBy origin seq) (sym (split_at h w.before w.behind e e w.split)) found.came)

-- the entry at a place, as code reads it
pub IsNumbered-at : (h items : List Entry) (nsr place : ℕ) (e : Entry) → items ≡ h → 1 ≤ nsr → nsr ≤ length h → place ≡ nsr - 1 → e ≡ get_or items place e → IsNumbered h nsr e
IsNumbered-at h items nsr place e same low high at is =
    let number : suc place ≡ nsr = omega arith in
    let entry : get_or h place e ≡ e = ap (λ xs. get_or xs place e) (sym same) ∙ sym is in
    subst (IsNumbered h nsr) entry
    (subst (λ n. IsNumbered h n (get_or h place e)) number (number_of_place h place e (omega arith)))
