-- Laws of the first key that is off.
use Rattle.std.proofs.Common.{◌≡◌, List, [], ◌∷◌, ◌++◌, inl, inr, sym, ◌∙◌}
use Rattle.toml_fields.specs.Answering.{IsFirstOff}

-- each of the keys is sound
abbrev pub AreSound : {K : Type 0} → (K → Type 0) → List K → Type 0
AreSound IsSound [] = Unit {0}
AreSound IsSound (key ∷ keys) = IsSound key × AreSound IsSound keys

pub AreSound-append : {K : Type 0} (IsSound : K → Type 0) (front behind : List K) → AreSound IsSound front → AreSound IsSound behind
    → AreSound IsSound (front ++ behind)
AreSound-append IsSound [] behind here there = there
AreSound-append IsSound (key ∷ front) behind here there = (here.0, AreSound-append IsSound front behind here.1 there)

-- among keys that are sound none is off
pub first_off-sound : {K : Type 0} (IsSound : K → Type 0) (keys : List K) (first : K) → AreSound IsSound keys → IsFirstOff IsSound keys first → ⊥
first_off-sound IsSound [] first sound off = off
first_off-sound IsSound (key ∷ keys) first sound (inl here) = here.0 sound.0
first_off-sound IsSound (key ∷ keys) first sound (inr later) = first_off-sound IsSound keys first sound.1 later.1

pub first_off-front : {K : Type 0} (IsSound : K → Type 0) (front behind : List K) (first : K) → IsFirstOff IsSound front first
    → IsFirstOff IsSound (front ++ behind) first
first_off-front IsSound [] behind first off = absurd off
first_off-front IsSound (key ∷ front) behind first (inl here) = inl here
first_off-front IsSound (key ∷ front) behind first (inr later) = inr (later.0, first_off-front IsSound front behind first later.1)

pub first_off-behind : {K : Type 0} (IsSound : K → Type 0) (front behind : List K) (first : K) → AreSound IsSound front
    → IsFirstOff IsSound behind first → IsFirstOff IsSound (front ++ behind) first
first_off-behind IsSound [] behind first sound off = off
first_off-behind IsSound (key ∷ front) behind first sound off = inr (sound.0, first_off-behind IsSound front behind first sound.1 off)

-- there is one first key that is off
pub first_off-unique : {K : Type 0} (IsSound : K → Type 0) (keys : List K) (first other : K) → IsFirstOff IsSound keys first
    → IsFirstOff IsSound keys other → first ≡ other
first_off-unique IsSound [] first other off other_off = absurd off
first_off-unique IsSound (key ∷ keys) first other (inl here) (inl there) = here.1 ∙ sym there.1
first_off-unique IsSound (key ∷ keys) first other (inl here) (inr later) = absurd (here.0 later.0)
first_off-unique IsSound (key ∷ keys) first other (inr later) (inl there) = absurd (there.0 later.0)
first_off-unique IsSound (key ∷ keys) first other (inr later) (inr afterwards) = first_off-unique IsSound keys first other later.1 afterwards.1
