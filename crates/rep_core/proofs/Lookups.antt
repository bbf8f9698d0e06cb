-- Look-ups by a search through the list.
use Rattle.std.proofs.Common.{◌≡◌, ℕ, suc, ◌+◌, ◌-◌, ◌<◌, inl, inr, ltb, cond, Bool, true, false, List, [], ◌∷◌, length, get_or, take, drop, reverse, Some, None, position, sym, ap, ◌∙◌, subst, arith}
use Rattle.std.proofs.lemmas.Bool.{false≢true, cases_lt, lt-ltb}
use Rattle.std.proofs.lemmas.List.{get_or-drop, get_or-reverse, length-reverse, length-take-le, length-drop}
use Rattle.std.proofs.lemmas.List.Quantifiers.{position-Some}
use Rattle.std.proofs.lemmas.List.Sums.{fails_before_first}
use Rattle.std.specs.List.{position_or_len}
use Rattle.afd_records.specs.declared.record.Body.{Body}
use Rattle.afd_records.specs.declared.record.Body.TheVariants.{Employer, Adjust, Worker, Event, Clocking}
use Rattle.rep_wire.specs.declared.request.Entry.{Entry}
use Rattle.rep_core.specs.History.{IsEmployer, IsLastEmployer}
use Rattle.rep_core.specs.Lookup.{is_employer, FindsEmployer}
use Rattle.rep_core.proofs.Splits.{split_of}

-- nothing passes where no first place is found
pub position-None : {X : Type 0} (p : X → Bool) (xs : List X) → position p xs ≡ None → (k : ℕ) (d : X) → k < length xs → p (get_or xs k d) ≡ false
position-None p xs none k d inside =
    let n = position_or_len p xs in
    elim (cases_lt n (length xs)) [
      | inl below ↦
          let found : cond (ltb n (length xs)) (Some n) None ≡ Some n = ap (λ b. cond b (Some n) None) (lt-ltb n (length xs) below) in
          let both : Some n ≡ None = sym found ∙ none in
          absurd cc
      | inr above ↦ fails_before_first p xs k d (omega arith)
    ]

pub is_employer-true : (body : Body) → is_employer body ≡ true → IsEmployer body
is_employer-true (Employer at resp id cno name place) passed = tt
is_employer-true (Adjust before after resp) passed = absurd (false≢true passed)
is_employer-true (Worker at op cpf name extra resp) passed = absurd (false≢true passed)
is_employer-true (Event at code) passed = absurd (false≢true passed)
is_employer-true (Clocking marked cpf recorded collector offline) passed = absurd (false≢true passed)

pub is_employer-false : (body : Body) → is_employer body ≡ false → IsEmployer body → ⊥
is_employer-false (Employer at resp id cno name place) failed employs = false≢true (sym failed)
is_employer-false (Adjust before after resp) failed employs = employs
is_employer-false (Worker at op cpf name extra resp) failed employs = employs
is_employer-false (Event at code) failed employs = employs
is_employer-false (Clocking marked cpf recorded collector offline) failed employs = employs

-- the test for an employer record
abbrev pub employs : Entry → Bool
employs e = is_employer e.body

from_behind : (h : List Entry) (i k : ℕ) (d : Entry) → i + k + 1 ≡ length h → get_or (reverse h) i d ≡ get_or h k d
from_behind h i k d sum =
    let place : length h - 1 - i ≡ k = omega arith in
    get_or-reverse h i d (omega arith) ∙ ap (λ n. get_or h n d) place

pub no_employer : (h : List Entry) → position employs (reverse h) ≡ None → FindsEmployer h None
no_employer h none = λ k d inside.
    let failed = position-None employs (reverse h) none (length h - 1 - k) d (omega (arith, length-reverse h)) in
    is_employer-false (get_or h k d).body (ap employs (sym (from_behind h (length h - 1 - k) k d (omega arith))) ∙ failed)

-- the first place from behind that passes is the last employer record
pub employer_at : (h : List Entry) (i place : ℕ) (d : Entry) → position employs (reverse h) ≡ Some i → i + place + 1 ≡ length h → IsLastEmployer h (suc place) (get_or h place d)
employer_at h i place d at sum =
    let facts = position-Some employs (reverse h) i d at in
    record {
      numbered = record {
        before = take place h;
        behind = drop (suc place) h;
        split = split_of h place d (omega arith);
        number = ap suc (sym (length-take-le place h (omega arith)));
      };
      employer = is_employer-true (get_or h place d).body (ap employs (sym (from_behind h i place d sum)) ∙ facts.1);
      last = λ k e inside.
          let short : suc place + k < length h = omega (arith, length-drop (suc place) h) in
          let behind = length h - 1 - (suc place + k) in
          let failed = (position-Some employs (reverse h) i e at).2 behind (omega arith) in
          let same : get_or (drop (suc place) h) k e ≡ get_or (reverse h) behind e =
          get_or-drop (suc place) h k e ∙ sym (from_behind h behind (suc place + k) e (omega arith)) in
          is_employer-false (get_or (drop (suc place) h) k e).body (ap employs same ∙ failed);
    }

pub employer_found : (h : List Entry) (i : ℕ) → position employs (reverse h) ≡ Some i → FindsEmployer h (Some (length h - i))
employer_found [] i at = absurd cc
employer_found (x ∷ h) i at =
    let facts = position-Some employs (reverse (x ∷ h)) i x at in
    let inside : i < length (x ∷ h) = omega (arith, facts.0, length-reverse (x ∷ h)) in
    let place = length (x ∷ h) - 1 - i in
    let found = employer_at (x ∷ h) i place x at (omega arith) in
    let number : suc place ≡ length (x ∷ h) - i = omega arith in
    (get_or (x ∷ h) place x, subst (λ n. IsLastEmployer (x ∷ h) n (get_or (x ∷ h) place x)) number found)
