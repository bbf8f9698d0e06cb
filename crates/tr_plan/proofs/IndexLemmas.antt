-- Laws of what is known of the rows read so far.
use Rattle.std.proofs.Common.{◌≡◌, ℕ, ◌<◌, ◌⊎◌, true, false, cond, List, [], ◌∷◌, ◌++◌, length, get_or, All, Option, Some, None, IsSome, Ordering, Less, Equal, Greater, is_eq, nat_cmp, inl, inr, refl, sym, ap, ◌∙◌, subst, arith}
use Rattle.std.specs.Prelude.{Any, Contains}
use Rattle.std.specs.BTreeMap as tree
use Rattle.std.specs.BTreeMap.{BTreeMap}
use Rattle.std.specs.BTreeSet as set
use Rattle.std.specs.BTreeSet.{BTreeSet}
use Rattle.std.specs.Cmp.{IsTotalOrder}
use Rattle.std.specs.Cmp.Lexicographic.{slice_cmp}
use Rattle.std.specs.List.{list_any}
use Rattle.std.proofs.Math.ListN.{get_or-append}
use Rattle.std.proofs.Math.Seq.{get_or-append_seam}
use Rattle.std.proofs.lemmas.Bool.{cases_Bool, cases_order, false≢true}
use Rattle.std.proofs.lemmas.Cmp.{tied_itself, nat_list_cmp_total}
use Rattle.std.proofs.lemmas.List.{length_push, get_or_default}
use Rattle.std.proofs.lemmas.Option.{same_Some}
use Rattle.std.specs.Map.{lookup}
use Rattle.std.proofs.lemmas.List.Elements.{Contains-get_or, Contains-push_cases, Contains-append_left}
use Rattle.std.proofs.lemmas.List.Quantifiers.{Any-push}
use Rattle.std.proofs.lemmas.Map.Lookups.{CmpEqualImpliesEq, exact_bytes}
use Rattle.rep_fields.specs.Latin.{IsText, padded}
use Rattle.rep_fields.proofs.Texts.{padded-injective}
use Rattle.tr_plan.specs.Index.{HasPlacesBy, HasCodes}
use Rattle.rep_fields.specs.Moment.{Moment}
use Rattle.tr_plan.specs.Include.{IsLinkId, IsInForce}
use Rattle.tr_plan.specs.Link.{IsNewId, IsInDates, journey_day}
use Rattle.tr_plan.specs.Plan.{HaveDifferentIds}
use Rattle.tr_plan.specs.Schedule.{IsNewCode}
use Rattle.tr_plan.specs.declared.link.Link.{Link}
use Rattle.tr_plan.specs.declared.schedule.Schedule.{Schedule}

pub Any-at : {X : Type 0} (P : X → Type 0) (xs : List X) (k : ℕ) (d : X) → k < length xs → P (get_or xs k d) → Any P xs
Any-at P xs k d within p = let there = Contains-get_or xs k d within in (there.0, get_or xs k d, there.1, there.2, p)

pub none-from_not_any : {X : Type 0} (P : X → Type 0) (xs : List X) → (Any P xs → ⊥) → All (λ x. P x → ⊥) xs
none-from_not_any P xs none = λ k d within p. none (Any-at P xs k d within p)

pub not_any-from_none : {X : Type 0} (P : X → Type 0) (xs : List X) → All (λ x. P x → ⊥) xs → Any P xs → ⊥
not_any-from_none P xs none (k, x, within, is, p) = none k x within (subst P (sym is) p)

pub Any-more : {X : Type 0} (P : X → Type 0) (xs : List X) (y : X) → Any P xs → Any P (xs ++ y ∷ [])
Any-more P xs y (k, x, within, is, p) =
    let there = Contains-append_left xs (y ∷ []) x (k, within, is) in (there.0, x, there.1, there.2, p)

pub Any-push_cases : {X : Type 0} (P : X → Type 0) (xs : List X) (y : X) → Any P (xs ++ y ∷ []) → Any P xs ⊎ P y
Any-push_cases P xs y (k, x, within, is, p) = elim (Contains-push_cases xs y x (k, within, is)) [
  | inl before ↦ inl (before.0, x, before.1, before.2, p)
  | inr last ↦ inr (subst P (sym last) p)
]

-- a set after an insertion has the new key and those before it
module _ {K : Type 0} (R : K → K → Ordering) (total : IsTotalOrder R) (exact : CmpEqualImpliesEq R) where
  pub contains-inserted : (old new : BTreeSet K) (key q : K) → set.Updates R old new key true → set.contains R new q ≡ true
      → (key ≡ q) ⊎ (set.contains R old q ≡ true)
  contains-inserted old new key q updates there = by_order (R key q) refl
    where
      by_order : (o : Ordering) → R key q ≡ o → (key ≡ q) ⊎ (set.contains R old q ≡ true)
      by_order Equal same = inl (exact key q same)
      by_order Less less = inr (sym (updates.0 q ∙ ap (λ o. cond (is_eq o) true (set.contains R old q)) less) ∙ there)
      by_order Greater more = inr (sym (updates.0 q ∙ ap (λ o. cond (is_eq o) true (set.contains R old q)) more) ∙ there)

  pub contains-kept : (old new : BTreeSet K) (key q : K) → set.Updates R old new key true → set.contains R old q ≡ true
      → set.contains R new q ≡ true
  contains-kept old new key q updates there =
      updates.0 q ∙ elim (cases_Bool (is_eq (R key q))) [
        | inl same ↦ ap (λ b. cond b true (set.contains R old q)) same
        | inr other ↦ ap (λ b. cond b true (set.contains R old q)) other ∙ there
      ]

  pub contains-new : (old new : BTreeSet K) (key : K) → set.Updates R old new key true → set.contains R new key ≡ true
  contains-new old new key updates = updates.0 key ∙ ap (λ o. cond (is_eq o) true (set.contains R old key)) (tied_itself total key)

-- the codes of schedules
pub HasCodes-none : (codes : BTreeSet (List ℕ)) → set.IsEmpty codes → HasCodes codes []
HasCodes-none codes empty code is_text =
    (λ there. absurd (false≢true (sym (ap (list_any _) empty) ∙ there)), λ (k, x, within, is, p). absurd (omega arith))

pub HasCodes-more : (old new : BTreeSet (List ℕ)) (schedules : List Schedule) (schedule : Schedule) → HasCodes old schedules
    → IsText 30 schedule.code → set.Updates (slice_cmp nat_cmp) old new (padded 30 schedule.code) true → HasCodes new (schedules ++ schedule ∷ [])
HasCodes-more old new schedules schedule has is_code updates code is_text = (
  λ there. elim (contains-inserted (slice_cmp nat_cmp) nat_list_cmp_total exact_bytes old new (padded 30 schedule.code) (padded 30 code) updates there) [
    | inl same ↦ Any-push (λ s. s.code ≡ code) schedules schedule (padded-injective 30 schedule.code code is_code is_text same)
    | inr before ↦ Any-more (λ s. s.code ≡ code) schedules schedule ((has code is_text).0 before)
  ],
  λ any. elim (Any-push_cases (λ s. s.code ≡ code) schedules schedule any) [
    | inl before ↦ contains-kept (slice_cmp nat_cmp) nat_list_cmp_total exact_bytes old new (padded 30 schedule.code) (padded 30 code) updates ((has code is_text).1 before)
    | inr last ↦ subst (λ c. set.contains (slice_cmp nat_cmp) new (padded 30 c) ≡ true) last
        (contains-new (slice_cmp nat_cmp) nat_list_cmp_total exact_bytes old new (padded 30 schedule.code) updates)
  ],
)

-- a code that is filed is used
pub code_used : (codes : BTreeSet (List ℕ)) (schedules : List Schedule) (code : List ℕ) → HasCodes codes schedules → IsText 30 code
    → set.contains (slice_cmp nat_cmp) codes (padded 30 code) ≡ true → IsNewCode schedules code → ⊥
code_used codes schedules code has is_text there new = not_any-from_none (λ s. s.code ≡ code) schedules new ((has code is_text).0 there)

-- and another is new
pub code_new : (codes : BTreeSet (List ℕ)) (schedules : List Schedule) (code : List ℕ) → HasCodes codes schedules → IsText 30 code
    → set.contains (slice_cmp nat_cmp) codes (padded 30 code) ≡ false → IsNewCode schedules code
code_new codes schedules code has is_text none =
    none-from_not_any (λ s. s.code ≡ code) schedules (λ any. false≢true (sym none ∙ (has code is_text).1 any))

-- the places of rows by their keys
module _ {X K : Type 0} (R : K → K → Ordering) (key : X → K) where
  pub HasPlacesBy-none : (places : BTreeMap K ℕ) → tree.IsEmpty places → HasPlacesBy R key places []
  HasPlacesBy-none places empty = record {
    known = λ k (j, x, within, is, p). absurd (omega arith);
    found = λ k place there. let none : tree.get R places k ≡ None = ap (lookup (tree.is_at (R k))) empty in
        let same = sym none ∙ there in absurd (cc);
  }

  -- a key that has a place is used, and one that has none isn't
  pub key_used : (places : BTreeMap K ℕ) (rows : List X) (k : K) → HasPlacesBy R key places rows → IsSome (tree.get R places k) → Any (λ x. key x ≡ k) rows
  key_used places rows k has some = at_place (tree.get R places k) refl some rows (λ place there. has.found k place there)
    where
      at_place : (o : Option ℕ) → tree.get R places k ≡ o → IsSome o → (xs : List X)
          → ((place : ℕ) → tree.get R places k ≡ Some place → (place < length xs) × ((x : X) → key (get_or xs place x) ≡ k)) → Any (λ x. key x ≡ k) xs
      at_place None is none xs found = absurd (false≢true none)
      at_place (Some place) is there [] found = absurd (omega (arith, (found place is).0))
      at_place (Some place) is there (x ∷ xs) found = let at = found place is in Any-at (λ y. key y ≡ k) (x ∷ xs) place x at.0 (at.1 x)

  pub key_new : (places : BTreeMap K ℕ) (rows : List X) (k : K) → HasPlacesBy R key places rows → (IsSome (tree.get R places k) → ⊥)
      → All (λ x. key x ≡ k → ⊥) rows
  key_new places rows k has none = none-from_not_any (λ x. key x ≡ k) rows (λ used. none (has.known k used))

-- links with one id are one link
pub same_link : (links : List Link) (a b : Link) → HaveDifferentIds links → Contains links a → Contains links b → a.id ≡ b.id → a ≡ b
same_link links a b differ (j, within_a, is_a) (k, within_b, is_b) same =
    elim (cases_order j k) [
      | inl one ↦ sym is_a ∙ ap (λ n. get_or links n a) one ∙ get_or_default links k a b within_b ∙ is_b
      | inr order ↦ elim order [
        | inl less ↦ absurd (differ j k a less within_b (ap (λ l. l.id) is_a ∙ same ∙ sym (ap (λ l. l.id) (get_or_default links k a b within_b ∙ is_b))))
        | inr more ↦ absurd (differ k j b more within_a (ap (λ l. l.id) is_b ∙ sym same ∙ sym (ap (λ l. l.id) (get_or_default links j b a within_a ∙ is_a))))
      ]
    ]

module _ {X K : Type 0} (R : K → K → Ordering) (total : IsTotalOrder R) (exact : CmpEqualImpliesEq R) (key : X → K) where
  pub HasPlacesBy-more : (old new : BTreeMap K ℕ) (rows : List X) (row : X) (place : ℕ) → HasPlacesBy R key old rows → place ≡ length rows
      → tree.Updates R old new (key row) (Some place) → HasPlacesBy R key new (rows ++ row ∷ [])
  HasPlacesBy-more old new rows row place has last updates = record {
    known = λ k any. elim (Any-push_cases (λ x. key x ≡ k) rows row any) [
      | inl before ↦ elim (cases_Bool (is_eq (R (key row) k))) [
        | inl same ↦ rw (updates.0 k, same) refl
        | inr other ↦ rw (updates.0 k, other) (has.known k before)
      ]
      | inr same ↦ subst (λ q. IsSome (tree.get R new q)) same (rw (updates.0 (key row), tied_itself total (key row)) refl)
    ];
    found = λ k at there. by_order k at there (R (key row) k) refl;
  }
    where
      kept : (k : K) (at : ℕ) → (at < length rows) × ((other : X) → key (get_or rows at other) ≡ k)
          → (at < length (rows ++ row ∷ [])) × ((other : X) → key (get_or (rows ++ row ∷ []) at other) ≡ k)
      kept k at before =
          (omega (arith, length_push rows row, before.0), λ other. ap key (get_or-append rows (row ∷ []) other at before.0) ∙ before.1 other)

      by_order : (k : K) (at : ℕ) → tree.get R new k ≡ Some at → (o : Ordering) → R (key row) k ≡ o
          → (at < length (rows ++ row ∷ [])) × ((other : X) → key (get_or (rows ++ row ∷ []) at other) ≡ k)
      by_order k at there Equal same =
          let is : Some place ≡ Some at = sym (ap (λ o. cond (is_eq o) (Some place) (tree.get R old k)) same) ∙ sym (updates.0 k) ∙ there in
          let here : at ≡ length rows = sym (same_Some place at is) ∙ last in
          (omega (arith, length_push rows row), λ other. rw here (ap key (get_or-append_seam rows row [] other) ∙ exact (key row) k same))
      by_order k at there Less less =
          kept k at (has.found k at (sym (ap (λ o. cond (is_eq o) (Some place) (tree.get R old k)) less) ∙ sym (updates.0 k) ∙ there))
      by_order k at there Greater more =
          kept k at (has.found k at (sym (ap (λ o. cond (is_eq o) (Some place) (tree.get R old k)) more) ∙ sym (updates.0 k) ∙ there))

-- an id that is used isn't new
pub id_not_new : (links : List Link) (id : ℕ) → IsLinkId links id → IsNewId links id → ⊥
id_not_new links id used new = not_any-from_none (λ link. link.id ≡ id) links new used

-- a link is in force where the day lies in its dates
pub in_force : (links : List Link) (link : Link) (moment : Moment) → Contains links link → IsInDates link (journey_day link moment)
    → IsInForce links link.id moment
in_force links link moment there dates = (there.0, link, there.1, there.2, (refl, dates))

-- and where its id is in force, it is that link which is so
pub dates_in_force : (links : List Link) (link : Link) (id : ℕ) (moment : Moment) → HaveDifferentIds links → Contains links link → id ≡ link.id
    → IsInForce links id moment → IsInDates link (journey_day link moment)
dates_in_force links link id moment differ there same (k, x, within, is, p) =
    subst (λ (l : Link). IsInDates l (journey_day l moment)) (same_link links x link differ (k, within, is) there (p.0 ∙ same)) p.1
