-- A journal that is read several times.
use Rattle.std.proofs.Common.{◌≡◌, ℕ, ◌≤◌, ◌↔◌, inl, inr, Bool, false, if◌then◌else◌, List, refl, ap, subst, ◌∙◌, arith}
use Rattle.std.proofs.lemmas.Bool.{cases_lt}
use Rattle.rep_disk.specs.Disk.{Shown, IsOwnImage, Stays, Stayed}
use Rattle.rep_disk.specs.Memory.{counted}
use Rattle.rep_journal.specs.State.{State, IsRead, IsSame}

both_same : (P : Type 0) → P ↔ P
both_same P = (λ p. p, λ p. p)

both_on : {P Q R : Type 0} → P ↔ Q → Q ↔ R → P ↔ R
both_on one two = (λ p. two.0 (one.0 p), λ r. one.1 (two.1 r))

Stays-refl : (a : Shown) → Stays a a
Stays-refl a below = record {
  past = λ m image within. both_same (a.may_leave m image);
  images = λ m image after within. absurd (omega arith);
}

Stayed-at : (a b : Shown) → Stayed a b → (m : ℕ) (image : List ℕ) → a.moment ≤ m → m ≤ b.moment → b.may_leave m image ↔ a.may_leave a.moment image
Stayed-at a b stayed m image from within = elim (cases_lt a.moment m) [
  | inl before ↦ stayed.images m image before within
  | inr at ↦
      let same : m ≡ a.moment = omega arith in
      subst (λ n. b.may_leave m image ↔ a.may_leave n image) same (stayed.past m image at)
]

Stays-trans : (a b c : Shown) → a.moment ≤ b.moment → b.moment ≤ c.moment → Stays a b → Stays b c → Stays a c
Stays-trans a b c earlier later first second below =
    let one = first (omega arith) in
    let two = second below in
    record {
      past = λ m image within. both_on (two.past m image (omega arith)) (one.past m image within);
      images = λ m image after within. elim (cases_lt b.moment m) [
        | inl late ↦ both_on (two.images m image late within) (Stayed-at a b one b.moment image earlier (omega arith))
        | inr early ↦ both_on (two.past m image early) (one.images m image after early)
      ];
    }

IsRead-refl : (a : Shown) → IsRead a a
IsRead-refl a = record {
  contents = refl;
  later = omega arith;
  crash = Stays-refl a;
  own = both_same (IsOwnImage a);
  faults = omega arith;
}

IsRead-trans : (a b c : Shown) → IsRead a b → IsRead b c → IsRead a c
IsRead-trans a b c one two = record {
  contents = two.contents ∙ one.contents;
  later = omega (arith, one.later, two.later);
  crash = Stays-trans a b c one.later two.later one.crash two.crash;
  own = both_on one.own two.own;
  faults = omega (arith, one.faults, two.faults);
}

-- a journal that isn't read is as before
pub IsSame-refl : {D : Type 0} (shown : D → Shown) (a : State D) → IsSame shown false a a
IsSame-refl shown a = record { frames = refl; spare = refl; faults = refl; disk = IsRead-refl (shown a.disk); no_fault = λ ok. refl }

-- one reading behind others that didn't fail
pub IsSame-trans : {D : Type 0} (shown : D → Shown) (failed : Bool) (a b c : State D) → IsSame shown false a b → IsSame shown failed b c → IsSame shown failed a c
IsSame-trans shown failed a b c one two = record {
  frames = two.frames ∙ one.frames;
  spare = two.spare ∙ one.spare;
  faults = two.faults ∙ ap (λ n. if failed then counted n else n) one.faults;
  disk = IsRead-trans (shown a.disk) (shown b.disk) (shown c.disk) one.disk two.disk;
  no_fault = λ ok. two.no_fault ok ∙ one.no_fault refl;
}
