-- Numbers by their keys: this project's own.
use Rattle.std.specs.Prelude.{◌≡◌, ◌≢◌, ℕ, ◌<◌, ◌≤◌, ◌==◌, if◌then◌else◌, List, [], ◌∷◌, length, slice_index_or, Option, Some, None}

-- a key, then its number
abbrev pub Pairs : Type 0
Pairs = List (ℕ × ℕ)

-- numbers by their keys, and for how many keys more there is room
pub record Keyed : Type 0 where
  pub pairs : Pairs
  pub room : ℕ

-- the number of the first pair that has the key
abbrev pub number_of : Pairs → ℕ → Option ℕ
number_of [] key = None
number_of ((k, n) ∷ rest) key = if k == key then Some n else number_of rest key

-- the key of the pair at place i
abbrev pub key_at : Pairs → ℕ → ℕ
key_at l i = let pair = slice_index_or l i (0, 0) in pair.0

-- the keys rise, so no key comes twice
abbrev pub IsStrictlySorted : Pairs → Type 0
IsStrictlySorted l = (i j : ℕ) → i < j → j < length l → key_at l i < key_at l j

-- the pair at place i has the key
pub record IsAt (l : Pairs) (key i : ℕ) : Type 0 where
  pub in_range : i < length l
  pub has_key : key_at l i ≡ key

-- the key would go at place i: smaller keys before it, and greater keys from it on
pub record IsGapFor (l : Pairs) (key i : ℕ) : Type 0 where
  pub in_range : i ≤ length l
  pub smaller_before : (j : ℕ) → j < i → key_at l j < key
  pub greater_after : (j : ℕ) → i ≤ j → j < length l → key < key_at l j

-- new has the number at the key, and at every other key what old has
pub record SetsOnly (old new : Pairs) (key number : ℕ) : Type 0 where
  pub this_key : number_of new key ≡ Some number
  pub other_keys : (k : ℕ) → k ≢ key → number_of new k ≡ number_of old k
