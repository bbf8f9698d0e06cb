-- What several calls of a disk do, one after another.
use Rattle.std.proofs.Common.{◌≡◌, ℕ, ◌<◌, ◌≤◌, ◌↔◌, inl, inr, List, Option, Some, None, refl, sym, subst, ◌∙◌, arith}
use Rattle.std.proofs.lemmas.Bool.{cases_lt}
use Rattle.std.specs.Prelude.{IfSome}
use Rattle.rep_disk.specs.Disk.{Shown, Changes, IsAtRest, IsOwnImage, IsUntouched, Moved, Same, Stays, Stayed, last_moment}
use Rattle.rep_journal.specs.State.{IsKeptBy, IsRead}
use Rattle.rep_journal.specs.Recovery.{RestsFrom}

both_same : (P : Type 0) → P ↔ P
both_same P = (λ p. p, λ p. p)

both_on : {P Q R : Type 0} → P ↔ Q → Q ↔ R → P ↔ R
both_on one two = (λ p. two.0 (one.0 p), λ r. one.1 (two.1 r))

Stays-refl : (a : Shown) → Stays a a
Stays-refl a below = record {
  past = λ m image within. both_same (a.may_leave m image);
  images = λ m image after within. absurd (omega arith);
}

-- at each moment of the calls a crash leaves what it left before them
pub Stayed-at : (a b : Shown) → Stayed a b → (m : ℕ) (image : List ℕ) → a.moment ≤ m → m ≤ b.moment → b.may_leave m image ↔ a.may_leave a.moment image
Stayed-at a b stayed m image from within = elim (cases_lt a.moment m) [
  | inl before ↦ stayed.images m image before within
  | inr at ↦
      let same : m ≡ a.moment = omega arith in
      subst (λ n. b.may_leave m image ↔ a.may_leave n image) same (stayed.past m image at)
]

Stays-trans : (a b c : Shown) → a.moment ≤ b.moment → b.moment ≤ c.moment → Stays a b → Stays b c → Stays a c
Stays-trans a b c earlier later first second below =
    let one = first (omega arith) in
    let two = second below in
    record {
      past = λ m image within. both_on (two.past m image (omega arith)) (one.past m image within);
      images = λ m image after within. elim (cases_lt b.moment m) [
        | inl late ↦ both_on (two.images m image late within) (Stayed-at a b one b.moment image earlier (omega arith))
        | inr early ↦ both_on (two.past m image early) (one.images m image after early)
      ];
    }

pub IsRead-refl : (a : Shown) → IsRead a a
IsRead-refl a = record {
  contents = refl;
  later = omega arith;
  crash = Stays-refl a;
  own = both_same (IsOwnImage a);
  faults = omega arith;
}

pub IsRead-trans : (a b c : Shown) → IsRead a b → IsRead b c → IsRead a c
IsRead-trans a b c one two = record {
  contents = two.contents ∙ one.contents;
  later = omega (arith, one.later, two.later);
  crash = Stays-trans a b c one.later two.later one.crash two.crash;
  own = both_on one.own two.own;
  faults = omega (arith, one.faults, two.faults);
}

-- each image of calls that take no step was one before them
pub Moved-same : (a b : Shown) → Moved Same a b → (m : ℕ) (image : List ℕ) → a.moment ≤ m → m ≤ b.moment → b.may_leave m image → a.may_leave a.moment image
Moved-same a b moved m image from within leaves = elim (cases_lt a.moment m) [
  | inl before ↦
      let was = moved.images m image before within leaves in
      subst (λ x. a.may_leave a.moment x) (sym was.2) was.1
  | inr at ↦
      let same : m ≡ a.moment = omega arith in
      subst (λ n. a.may_leave n image) same ((moved.past m image at).0 leaves)
]

-- what holds of a value that is told holds of it by a weaker word
pub IfSome-weaker : {X : Type 0} (o : Option X) (P Q : X → Type 0) → ((x : X) → P x → Q x) → IfSome o P → IfSome o Q
IfSome-weaker None P Q weaker holds = tt
IfSome-weaker (Some x) P Q weaker holds = weaker x holds

-- what holds of a value that is told by one word and by another holds of it by both
pub IfSome-both : {X : Type 0} (o : Option X) (P Q R : X → Type 0) → ((x : X) → P x → Q x → R x) → IfSome o P → IfSome o Q → IfSome o R
IfSome-both None P Q R both one two = tt
IfSome-both (Some x) P Q R both one two = both x one two

-- a step of contents that are told is one by a weaker word
pub Changes-weaker : (old new : Option (List ℕ)) (P Q : List ℕ → List ℕ → Type 0) → ((a b : List ℕ) → old ≡ Some a → P a b → Q a b) → Changes P old new → Changes Q old new
Changes-weaker None None P Q weaker changes = tt
Changes-weaker None (Some new) P Q weaker changes = absurd changes
Changes-weaker (Some old) None P Q weaker changes = absurd changes
Changes-weaker (Some old) (Some new) P Q weaker changes = weaker old new refl changes

-- the only image stays the only one
only_along : (old new : Option (List ℕ)) (P Q : Type 0) (image : List ℕ) → old ≡ new → Q ↔ P → IfSome old (λ bytes. P ↔ image ≡ bytes) → IfSome new (λ bytes. Q ↔ image ≡ bytes)
only_along old new P Q image same leaves only =
    subst (λ o. IfSome o (λ bytes. Q ↔ image ≡ bytes)) same
    (IfSome-weaker old (λ bytes. P ↔ image ≡ bytes) (λ bytes. Q ↔ image ≡ bytes) (λ bytes one. both_on leaves one) only)

own_along : (a b : Shown) → a.moment ≡ b.moment → a.contents ≡ b.contents → ((m : ℕ) (image : List ℕ) → a.may_leave m image → b.may_leave m image) → IsOwnImage a → IsOwnImage b
own_along a b same contents along own below =
    subst (λ o. IfSome o (b.may_leave b.moment)) contents
    (IfSome-weaker a.contents (a.may_leave a.moment) (b.may_leave b.moment)
    (λ image leaves. subst (λ n. b.may_leave n image) same (along a.moment image leaves))
    (own (subst (λ n. n < last_moment) (sym same) below)))

-- what is no device call counts as a read
pub IsRead-untouched : (a b : Shown) → IsUntouched a b → IsRead a b
IsRead-untouched a b same = record {
  contents = same.contents;
  later = omega (arith, same.moment);
  crash = λ below. record {
    past = λ m image within. same.images m image;
    images = λ m image after within. absurd (omega (arith, same.moment));
  };
  own = (
    own_along a b (sym same.moment) (sym same.contents) (λ m image. (same.images m image).1),
    own_along b a same.moment same.contents (λ m image. (same.images m image).0),
  );
  faults = omega (arith, same.faults);
}

-- a disk at rest stays so by what is no device call
pub IsAtRest-untouched : (a b : Shown) → IsAtRest a → IsUntouched a b → IsAtRest b
IsAtRest-untouched a b rest same below image =
    let leaves = subst (λ n. b.may_leave b.moment image ↔ a.may_leave n image) same.moment (same.images b.moment image) in
    only_along a.contents b.contents _ _ image (sym same.contents) leaves (rest (subst (λ n. n < last_moment) same.moment below) image)

-- a disk at rest stays so when it is read
pub IsAtRest-read : (a b : Shown) → IsAtRest a → IsRead a b → IsAtRest b
IsAtRest-read a b rest read below image =
    only_along a.contents b.contents _ _ image (sym read.contents)
    (Stayed-at a b (read.crash below) b.moment image read.later (omega arith)) (rest (omega (arith, read.later)) image)

pub RestsFrom-read : (from : ℕ) (a b : Shown) → RestsFrom from a → IsRead a b → RestsFrom from b
RestsFrom-read from a b rests read below =
    let stayed = read.crash below in
    let before = rests (omega (arith, read.later)) in (
      omega (arith, read.later, before.0),
      λ m image late within. elim (cases_lt a.moment m) [
        | inl after ↦
            only_along a.contents b.contents _ _ image (sym read.contents) (stayed.images m image after within)
            (before.1 a.moment image before.0 (omega arith))
        | inr soon ↦ only_along a.contents b.contents _ _ image (sym read.contents) (stayed.past m image soon) (before.1 m image late soon)
      ],
    )

pub IsAtRest-rests : (from : ℕ) (s : Shown) → RestsFrom from s → IsAtRest s
IsAtRest-rests from s rests below image = let at = rests below in at.1 s.moment image at.0 (omega arith)

-- what a crash leaves of a disk at rest is what it tells
pub image_at_rest : (s : Shown) → IsAtRest s → s.moment < last_moment → (image : List ℕ) → s.may_leave s.moment image → IfSome s.contents (λ bytes. image ≡ bytes)
image_at_rest s rest below image leaves =
    IfSome-weaker s.contents (λ bytes. s.may_leave s.moment image ↔ image ≡ bytes) (λ bytes. image ≡ bytes) (λ bytes only. only.0 leaves) (rest below image)

pub image_from_rest : (from : ℕ) (s : Shown) → RestsFrom from s → s.moment < last_moment → (m : ℕ) (image : List ℕ) → from ≤ m → m ≤ s.moment → s.may_leave m image → IfSome s.contents (λ bytes. image ≡ bytes)
image_from_rest from s rests below m image late within leaves =
    IfSome-weaker s.contents (λ bytes. s.may_leave m image ↔ image ≡ bytes) (λ bytes. image ≡ bytes) (λ bytes only. only.0 leaves)
    ((rests below).1 m image late within)

-- contents and images are as before or a sync made sure of them, and then the disk was read
pub IsKeptBy-read : (a b c : Shown) → IsKeptBy a b → IsRead b c → IsKeptBy a c
IsKeptBy-read a b c kept read = record {
  contents = read.contents ∙ kept.contents;
  later = omega (arith, kept.later, read.later);
  crash = λ below.
      let moved = kept.crash (omega (arith, read.later)) in
      let stayed = read.crash below in
      let before = λ (m : ℕ) (image : List ℕ) (within : m ≤ c.moment) (leaves : c.may_leave m image).
      kept_image m image moved stayed within leaves in
      record {
        past = λ m image within. both_on (stayed.past m image (omega (arith, kept.later))) (moved.past m image within);
        images = λ m image after within leaves. (image, before m image within leaves after, refl);
        settles = λ m later image after on within leaves. elim (cases_lt b.moment later) [
          | inl late ↦ elim (cases_lt b.moment m) [
            | inl m_late ↦ (stayed.images m image m_late (omega arith)).1 ((stayed.images later image late within).0 leaves)
            | inr m_soon ↦
                (stayed.past m image m_soon).1
                (moved.settles m b.moment image after m_soon (omega arith) ((stayed.images later image late within).0 leaves))
          ]
          | inr soon ↦
              (stayed.past m image (omega arith)).1
              (moved.settles m later image after on soon ((stayed.past later image soon).0 leaves))
        ];
      };
  own = both_on kept.own read.own;
  faults = omega (arith, kept.faults, read.faults);
}
  where
    kept_image : (m : ℕ) (image : List ℕ) → Moved Same a b → Stayed b c → m ≤ c.moment → c.may_leave m image → a.moment < m → a.may_leave a.moment image
    kept_image m image moved stayed within leaves after = elim (cases_lt b.moment m) [
      | inl late ↦ Moved-same a b moved b.moment image kept.later (omega arith) ((stayed.images m image late within).0 leaves)
      | inr soon ↦ Moved-same a b moved m image (omega arith) soon ((stayed.past m image soon).0 leaves)
    ]
