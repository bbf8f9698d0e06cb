-- Lists that are split at an element.
use Rattle.std.proofs.Common.{◌≡◌, ℕ, suc, ◌<◌, ◌⊎◌, inl, inr, List, [], ◌∷◌, ◌++◌, length, get_or, take, drop, refl, sym, ap, ◌∙◌, arith, length-append, take-append-drop, append_assoc}
use Rattle.std.proofs.lemmas.List.{get_or_at, get_or_append_left, take_at}
use Rattle.std.proofs.Math.Seq.{drop-cons}

-- the element stands at its place
pub split_at : {X : Type 0} (h before behind : List X) (e d : X) → h ≡ before ++ e ∷ behind → get_or h (length before) d ≡ e
split_at h before behind e d split =
    ap (λ xs. get_or xs (length before) d) split ∙ get_or_at before e behind d (length before) refl

-- what stands before it stands there in the whole list too
pub split_before : {X : Type 0} (h before behind : List X) (e d : X) (k : ℕ) → h ≡ before ++ e ∷ behind → k < length before → get_or h k d ≡ get_or before k d
split_before h before behind e d k split below =
    ap (λ xs. get_or xs k d) split ∙ get_or_append_left before (e ∷ behind) d k below

-- the place is in the list
pub split_in : {X : Type 0} (h before behind : List X) (e : X) → h ≡ before ++ e ∷ behind → length before < length h
split_in h before behind e split = omega (arith, ap length split, length-append before (e ∷ behind))

-- each place of a list splits it
pub split_of : {X : Type 0} (h : List X) (i : ℕ) (d : X) → i < length h → h ≡ take i h ++ get_or h i d ∷ drop (suc i) h
split_of h i d inside = sym (take-append-drop i h) ∙ ap (λ xs. take i h ++ xs) (drop-cons h i d inside)

-- the front up to the element
pub split_take : {X : Type 0} (h before behind : List X) (e : X) → h ≡ before ++ e ∷ behind → take (suc (length before)) h ≡ before ++ e ∷ []
split_take h before behind e split =
    ap (λ xs. take (suc (length before)) xs) (split ∙ sym (append_assoc before (e ∷ []) behind))
    ∙ take_at (before ++ e ∷ []) behind (suc (length before)) (omega (arith, length-append before (e ∷ [])))

-- An element of a list with one more behind is the last, or one of the list.
pub split_push : {X : Type 0} (h before behind : List X) (last e : X) → h ++ last ∷ [] ≡ before ++ e ∷ behind → ((h ≡ before) × (last ≡ e) × (behind ≡ [])) ⊎ ((rest : List X) × (h ≡ before ++ e ∷ rest) × (behind ≡ rest ++ last ∷ []))
split_push [] [] [] last e split = inl (refl, cc, refl)
split_push [] [] (b ∷ bs) last e split = absurd cc
split_push [] (a ∷ []) behind last e split = absurd cc
split_push [] (a ∷ (b ∷ bs)) behind last e split = absurd cc
split_push (x ∷ h) [] behind last e split = inr (h, cc, cc)
split_push (x ∷ h) (a ∷ before) behind last e split =
    let tail : h ++ last ∷ [] ≡ before ++ e ∷ behind = cc in
    let head : x ≡ a = cc in
    elim (split_push h before behind last e tail) [
      | inl w ↦ inl (cc, w.1, w.2)
      | inr w ↦ inr (w.0, cc, w.2)
    ]
