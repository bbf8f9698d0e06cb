-- Laws of the keys of a table and of lists of keys.
use Rattle.std.proofs.Common.{◌≡◌, ℕ, zero, suc, List, [], ◌∷◌, map, true, ◌||◌, Option, Some, Ordering, Less, Equal, Greater, String, Global, Bor, string_bytes, nat_cmp, refl, sym, ap, subst, arith, inl, inr, ◌⊎◌}
use Rattle.std.proofs.lemmas.Bool.{cases_Bool}
use Rattle.std.proofs.lemmas.Cmp.{nat_list_cmp_total, tied_itself}
use Rattle.std.proofs.lemmas.Map.Lookups.{exact_bytes}
use Rattle.std.proofs.lemmas.Slice.Eq.{bytes_eq-Decides}
use Rattle.std.specs.Prelude.{Contains}
use Rattle.std.specs.List.{list_any}
use Rattle.std.specs.Str.{bytes_eq}
use Rattle.std.specs.Map.{keys_of}
use Rattle.std.specs.Cmp.Lexicographic.{slice_cmp}
use Rattle.std.specs.Ordering.{match_ordering}
use Rattle.toml.specs.Data.{Data, get_member}
use Rattle.toml.specs.View.{view, members_view}
use Rattle.toml.proofs.Views.{Entry}

Contains-first : {X : Type 0} (xs : List X) (x : X) → Contains (x ∷ xs) x
Contains-first xs x = (0, omega arith, refl)

Contains-more : {X : Type 0} (xs : List X) (y x : X) → Contains xs x → Contains (y ∷ xs) x
Contains-more xs y x (k, within, is) = (suc k, omega arith, is)

Contains-cases : {X : Type 0} (xs : List X) (y x : X) → Contains (y ∷ xs) x → (y ≡ x) ⊎ Contains xs x
Contains-cases xs y x (zero, within, is) = inl is
Contains-cases xs y x (suc k, within, is) = inr (k, omega arith, is)

Contains-none : {X : Type 0} (x : X) → Contains [] x → ⊥
Contains-none x (k, within, is) = omega arith

pub known_from_any : (keys : List (Bor (List ℕ))) (key : List ℕ) → list_any (λ known. bytes_eq known.now key) keys ≡ true
    → Contains (map (λ known. known.now) keys) key
known_from_any [] key some = absurd (cc)
known_from_any (k ∷ ks) key some =
    elim (cases_Bool (bytes_eq k.now key)) [
      | inl same ↦ subst (λ (x : List ℕ). Contains (k.now ∷ map (λ known. known.now) ks) x) ((bytes_eq-Decides k.now key).0 same) (Contains-first (map (λ known. known.now) ks) k.now)
      | inr other ↦ Contains-more (map (λ known. known.now) ks) k.now key (known_from_any ks key (rw (← ap (λ b. b || list_any (λ known. bytes_eq known.now key) ks) other) some))
    ]

pub any_from_known : (keys : List (Bor (List ℕ))) (key : List ℕ) → Contains (map (λ known. known.now) keys) key
    → list_any (λ known. bytes_eq known.now key) keys ≡ true
any_from_known [] key known = absurd (Contains-none key known)
any_from_known (k ∷ ks) key known =
    elim (cases_Bool (bytes_eq k.now key)) [
      | inl same ↦ rw same refl
      | inr other ↦ elim (Contains-cases (map (λ known. known.now) ks) k.now key known) [
        | inl is ↦ let same = (bytes_eq-Decides k.now key).1 is in absurd (cc)
        | inr more ↦ rw (other, any_from_known ks key more) refl
      ]
    ]

some_either_way : (o : Ordering) (d : Data) (rest : Option Data) (found : Data) → rest ≡ Some found
    → (other : Data) × (match_ordering o rest (Some d) rest ≡ Some other)
some_either_way Less d rest found is = (found, is)
some_either_way Equal d rest found is = (d, refl)
some_either_way Greater d rest found is = (found, is)

-- something stands at the key of an entry
pub something_at_key : (es : List Entry) (k : String Global) → Contains (keys_of es) k
    → (found : Data) × (get_member (string_bytes k) (members_view es) ≡ Some found)
something_at_key [] k there = absurd (Contains-none k there)
something_at_key (e ∷ es) k there =
    elim (Contains-cases (keys_of es) e.0 k there) [
      | inl same ↦ (view e.1, rw same (rw (tied_itself nat_list_cmp_total (string_bytes k)) refl))
      | inr more ↦ let rest = something_at_key es k more in
          some_either_way (slice_cmp nat_cmp (string_bytes k) (string_bytes e.0)) (view e.1) (get_member (string_bytes k) (members_view es)) rest.0 rest.1
    ]

this_or_rest : (key name : List ℕ) (o : Ordering) (d : Data) (rest : Option Data) (found : Data) → slice_cmp nat_cmp key name ≡ o
    → match_ordering o rest (Some d) rest ≡ Some found → (name ≡ key) ⊎ (rest ≡ Some found)
this_or_rest key name Less d rest found is there = inr there
this_or_rest key name Equal d rest found is there = inl (sym (exact_bytes key name is))
this_or_rest key name Greater d rest found is there = inr there

-- a key at which something stands is that of an entry
pub entry_at_key : (es : List Entry) (key : List ℕ) (found : Data) → get_member key (members_view es) ≡ Some found
    → Contains (map string_bytes (keys_of es)) key
entry_at_key [] key found there = absurd (cc)
entry_at_key (e ∷ es) key found there =
    elim (this_or_rest key (string_bytes e.0) (slice_cmp nat_cmp key (string_bytes e.0)) (view e.1) (get_member key (members_view es)) found refl there) [
      | inl this ↦ subst (λ (x : List ℕ). Contains (string_bytes e.0 ∷ map string_bytes (keys_of es)) x) this (Contains-first (map string_bytes (keys_of es)) (string_bytes e.0))
      | inr rest ↦ Contains-more (map string_bytes (keys_of es)) (string_bytes e.0) key (entry_at_key es key found rest)
    ]
