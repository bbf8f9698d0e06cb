-- Laws of the last days of links by their CPFs and first days.
use Rattle.std.proofs.Common.{◌≡◌, ℕ, ◌<◌, ◌≤◌, ◌⊎◌, false, cond, List, [], ◌∷◌, ◌++◌, length, get_or, All, Some, None, IsSome, Ordering, Less, Equal, Greater, is_eq, is_lt, is_gt, nat_cmp, inl, inr, refl, sym, ap, ◌∙◌, subst, arith}
use Rattle.std.specs.Prelude.{Any, AllPairs}
use Rattle.std.specs.BTreeMap as tree
use Rattle.std.specs.BTreeMap.{BTreeMap}
use Rattle.std.specs.BTreeMap.Range.{IsRangeOf}
use Rattle.std.specs.declared.ops.Bound.TheVariants.{Included, Unbounded}
use Rattle.std.specs.Map.{lookup}
use Rattle.std.specs.Ordering.{ordering_then}
use Rattle.std.proofs.lemmas.Bool.{cases_order, false≢true}
use Rattle.std.proofs.lemmas.Cmp.{ranked, by_ranked, tied_itself, nat_cmp_total, on_total, then_total}
use Rattle.std.proofs.lemmas.List.{get_or_default}
use Rattle.std.proofs.lemmas.List.Elements.{All-push}
use Rattle.std.proofs.lemmas.List.Quantifiers.{Any-push}
use Rattle.std.proofs.lemmas.Map.Lookups.{CmpEqualImpliesEq, exact_unsigned, exact_pairs}
use Rattle.std.proofs.lemmas.Option.{same_Some}
use Rattle.std.specs.Cmp.{IsTotalOrder}
use Rattle.tr_plan.specs.Index.{HasEnds, day_cmp}
use Rattle.tr_plan.specs.Link.{BeginsFirst, DoOverlap, AreApart}
use Rattle.tr_plan.specs.declared.link.Link.{Link}
use Rattle.tr_plan.proofs.IndexLemmas.{Any-more}

pub day_cmp_total : IsTotalOrder day_cmp
day_cmp_total = then_total (on_total (λ (x : ℕ × ℕ). x.0) nat_cmp_total) (on_total (λ (x : ℕ × ℕ). x.1) nat_cmp_total)

pub exact_days : CmpEqualImpliesEq day_cmp
exact_days = exact_pairs nat_cmp nat_cmp exact_unsigned exact_unsigned

-- what the order says of two pairs
abbrev pub IsUpTo : ℕ × ℕ → ℕ × ℕ → Type 0
IsUpTo a b = (a.0 < b.0) ⊎ ((a.0 ≡ b.0) × (a.1 ≤ b.1))

pub up_to : (a b : ℕ × ℕ) → is_gt (day_cmp a b) ≡ false → IsUpTo a b
up_to a b upto =
    by_ranked (a.0 < b.0) (a.0 ≡ b.0) (b.0 < a.0) (nat_cmp a.0 b.0) (ranked a.0 b.0 (nat_cmp a.0 b.0) refl)
    (λ _ less. inl less)
    (λ is same. by_ranked (a.1 < b.1) (a.1 ≡ b.1) (b.1 < a.1) (nat_cmp a.1 b.1) (ranked a.1 b.1 (nat_cmp a.1 b.1) refl)
    (λ _ less. inr (same, omega arith))
    (λ _ alike. inr (same, omega arith))
    (λ more _. absurd (false≢true (sym upto ∙ ap (λ o. is_gt (ordering_then o (nat_cmp a.1 b.1))) is ∙ ap is_gt more))))
    (λ more _. absurd (false≢true (sym upto ∙ ap (λ o. is_gt (ordering_then o (nat_cmp a.1 b.1))) more)))

pub not_below : (a b : ℕ × ℕ) → is_lt (day_cmp a b) ≡ false → IsUpTo b a
not_below a b above =
    by_ranked (a.0 < b.0) (a.0 ≡ b.0) (b.0 < a.0) (nat_cmp a.0 b.0) (ranked a.0 b.0 (nat_cmp a.0 b.0) refl)
    (λ less _. absurd (false≢true (sym above ∙ ap (λ o. is_lt (ordering_then o (nat_cmp a.1 b.1))) less)))
    (λ is same. by_ranked (a.1 < b.1) (a.1 ≡ b.1) (b.1 < a.1) (nat_cmp a.1 b.1) (ranked a.1 b.1 (nat_cmp a.1 b.1) refl)
    (λ less _. absurd (false≢true (sym above ∙ ap (λ o. is_lt (ordering_then o (nat_cmp a.1 b.1))) is ∙ ap is_lt less)))
    (λ _ alike. inr (sym same, omega arith))
    (λ _ more. inr (sym same, omega arith)))
    (λ _ more. inl more)

pub within_cpf : (cpf since until : ℕ) → since ≤ until → is_gt (day_cmp (cpf, since) (cpf, until)) ≡ false
within_cpf cpf since until order =
    by_ranked (since < until) (since ≡ until) (until < since) (nat_cmp since until) (ranked since until (nat_cmp since until) refl)
    (λ less _. ap (λ o. is_gt (ordering_then o (nat_cmp since until))) (tied_itself nat_cmp_total cpf) ∙ ap is_gt less)
    (λ alike _. ap (λ o. is_gt (ordering_then o (nat_cmp since until))) (tied_itself nat_cmp_total cpf) ∙ ap is_gt alike)
    (λ _ more. absurd (omega arith))

pub HasEnds-none : (ends : BTreeMap (ℕ × ℕ) ℕ) → tree.IsEmpty ends → HasEnds ends []
HasEnds-none ends empty = record {
  known = λ k d within. absurd (omega arith);
  found = λ cpf since until there. let none : tree.get day_cmp ends (cpf, since) ≡ None = ap (lookup (tree.is_at (day_cmp (cpf, since)))) empty in
      let same = sym none ∙ there in absurd (cc);
}

-- two links of one CPF with one first day have it in common
one_first_day : (other link : Link) → BeginsFirst other → BeginsFirst link → link.cpf ≡ other.cpf → link.since ≡ other.since
    → AreApart other link → ⊥
one_first_day other link first first_too cpf since apart =
    apart (sym cpf, record { begins = omega (arith, since, first, first_too); ends = omega (arith, since, first, first_too) })

pub HasEnds-more : (old new : BTreeMap (ℕ × ℕ) ℕ) (links : List Link) (link : Link) → HasEnds old links → All BeginsFirst links
    → BeginsFirst link → All (λ other. AreApart other link) links
    → tree.Updates day_cmp old new (link.cpf, link.since) (Some link.until) → HasEnds new (links ++ link ∷ [])
HasEnds-more old new links link has firsts first apart updates = record {
  known = All-push (λ l. tree.get day_cmp new (l.cpf, l.since) ≡ Some l.until) links link
      (λ k d within. kept (get_or links k d) (firsts k d within) (apart k d within) (has.known k d within)
      (day_cmp (link.cpf, link.since) ((get_or links k d).cpf, (get_or links k d).since)) refl)
      (updates.0 (link.cpf, link.since) ∙ ap (λ o. cond (is_eq o) (Some link.until) (tree.get day_cmp old (link.cpf, link.since)))
      (tied_itself day_cmp_total (link.cpf, link.since)));
  found = λ cpf since until there. by_order cpf since until there (day_cmp (link.cpf, link.since) (cpf, since)) refl;
}
  where
    is_that : ℕ → ℕ → ℕ → Link → Type 0
    is_that cpf since until l = (l.cpf ≡ cpf) × (l.since ≡ since) × (l.until ≡ until)

    kept : (other : Link) → BeginsFirst other → AreApart other link → tree.get day_cmp old (other.cpf, other.since) ≡ Some other.until
        → (o : Ordering) → day_cmp (link.cpf, link.since) (other.cpf, other.since) ≡ o
        → tree.get day_cmp new (other.cpf, other.since) ≡ Some other.until
    kept other other_first other_apart was Equal is =
        let same = exact_days (link.cpf, link.since) (other.cpf, other.since) is in
        absurd (one_first_day other link other_first first (ap (λ (p : ℕ × ℕ). p.0) same) (ap (λ (p : ℕ × ℕ). p.1) same) other_apart)
    kept other other_first other_apart was Less is =
        updates.0 (other.cpf, other.since) ∙ ap (λ o. cond (is_eq o) (Some link.until) (tree.get day_cmp old (other.cpf, other.since))) is ∙ was
    kept other other_first other_apart was Greater is =
        updates.0 (other.cpf, other.since) ∙ ap (λ o. cond (is_eq o) (Some link.until) (tree.get day_cmp old (other.cpf, other.since))) is ∙ was

    by_order : (cpf since until : ℕ) → tree.get day_cmp new (cpf, since) ≡ Some until → (o : Ordering)
        → day_cmp (link.cpf, link.since) (cpf, since) ≡ o → Any (is_that cpf since until) (links ++ link ∷ [])
    by_order cpf since until there Equal is =
        let same = exact_days (link.cpf, link.since) (cpf, since) is in
        let last : Some link.until ≡ Some until = sym (updates.0 (cpf, since) ∙ ap (λ o. cond (is_eq o) (Some link.until) (tree.get day_cmp old (cpf, since))) is) ∙ there in
        Any-push (is_that cpf since until) links link (ap (λ (p : ℕ × ℕ). p.0) same, ap (λ (p : ℕ × ℕ). p.1) same, same_Some link.until until last)
    by_order cpf since until there Less is =
        Any-more (is_that cpf since until) links link (has.found cpf since until
        (sym (updates.0 (cpf, since) ∙ ap (λ o. cond (is_eq o) (Some link.until) (tree.get day_cmp old (cpf, since))) is) ∙ there))
    by_order cpf since until there Greater is =
        Any-more (is_that cpf since until) links link (has.found cpf since until
        (sym (updates.0 (cpf, since) ∙ ap (λ o. cond (is_eq o) (Some link.until) (tree.get day_cmp old (cpf, since))) is) ∙ there))

-- the entry is the last one of the CPF that begins by the day, or one of a lower CPF
pub record IsLatest (ends : BTreeMap (ℕ × ℕ) ℕ) (bound : ℕ × ℕ) (latest : (ℕ × ℕ) × ℕ) : Type 0 where
  pub within : is_gt (day_cmp latest.0 bound) ≡ false
  pub there : tree.get day_cmp ends latest.0 ≡ Some latest.1
  pub last : (q : ℕ × ℕ) → is_gt (day_cmp q bound) ≡ false → IsSome (tree.get day_cmp ends q) → is_lt (day_cmp latest.0 q) ≡ false

-- the last one of a range is it
pub latest_of : (ends : BTreeMap (ℕ × ℕ) ℕ) (bound : ℕ × ℕ) (entries before : List ((ℕ × ℕ) × ℕ)) (latest : (ℕ × ℕ) × ℕ)
    → IsRangeOf day_cmp Unbounded (Included bound) ends entries → entries ≡ before ++ latest ∷ [] → IsLatest ends bound latest
latest_of ends bound entries before latest range is =
    let entry = range.3 latest before is in
    record {
      within = entry.0.1;
      there = entry.1;
      last = λ q within there. range.4 latest before is q (tt, within) there;
    }

-- a link that holds on the last day of the latest one, or before it, meets it
pub meets_latest : (ends : BTreeMap (ℕ × ℕ) ℕ) (links : List Link) (link : Link) (latest : (ℕ × ℕ) × ℕ) → HasEnds ends links
    → IsLatest ends (link.cpf, link.until) latest → latest.0.0 ≡ link.cpf → link.since ≤ latest.1 → Any (λ other. DoOverlap other link) links
meets_latest ends links link latest has is same order = found (has.found latest.0.0 latest.0.1 latest.1 is.there)
  where
    meets : (other : Link) → (other.cpf ≡ latest.0.0) × (other.since ≡ latest.0.1) × (other.until ≡ latest.1)
        → IsUpTo latest.0 (link.cpf, link.until) → DoOverlap other link
    meets other those (inl less) = absurd (omega (arith, less, same))
    meets other those (inr upto) = (
      those.0 ∙ same,
      record { begins = omega (arith, those.1, upto.1); ends = omega (arith, those.2, order) },
    )

    found : Any (λ other. (other.cpf ≡ latest.0.0) × (other.since ≡ latest.0.1) × (other.until ≡ latest.1)) links
        → Any (λ other. DoOverlap other link) links
    found (k, x, within, here, those) = (k, x, within, here, meets x those (up_to latest.0 (link.cpf, link.until) is.within))

-- what begins by the link's last day, for a link that meets it
begins_within : (other link : Link) → DoOverlap other link → is_gt (day_cmp (other.cpf, other.since) (link.cpf, link.until)) ≡ false
begins_within other link met =
    subst (λ cpf. is_gt (day_cmp (other.cpf, other.since) (cpf, link.until)) ≡ false) met.0 (within_cpf other.cpf other.since link.until met.1.begins)

-- where the link lies behind the latest one's last day, it meets none
pub behind_latest : (ends : BTreeMap (ℕ × ℕ) ℕ) (links : List Link) (link : Link) (latest : (ℕ × ℕ) × ℕ) → HasEnds ends links
    → All BeginsFirst links → AllPairs AreApart links → IsLatest ends (link.cpf, link.until) latest → (latest.0.0 ≡ link.cpf → latest.1 < link.since)
    → All (λ other. AreApart other link) links
behind_latest ends links link latest has firsts apart is behind = λ k d within met.
    let other = get_or links k d in
    let known : tree.get day_cmp ends (other.cpf, other.since) ≡ Some other.until = has.known k d within in
    let upto = not_below latest.0 (other.cpf, other.since) (is.last (other.cpf, other.since) (begins_within other link met) (subst IsSome (sym known) refl)) in
    found k d within met (has.found latest.0.0 latest.0.1 latest.1 is.there) upto (up_to latest.0 (link.cpf, link.until) is.within)
  where
    is_latest : Link → Type 0
    is_latest l = (l.cpf ≡ latest.0.0) × (l.since ≡ latest.0.1) × (l.until ≡ latest.1)

    -- one that meets the link would meet the latest one too
    meets : (other y : Link) → BeginsFirst y → is_latest y → DoOverlap other link → other.cpf ≡ latest.0.0 → other.since ≤ latest.0.1
        → DoOverlap other y
    meets other y first those met same upto =
        let less = behind (sym same ∙ met.0) in
        let ends = met.1.ends in (
          same ∙ sym those.0,
          record { begins = omega (arith, first, those.1, upto); ends = omega (arith, first, those.2, less, ends) },
        )

    back : (other y : Link) → DoOverlap other y → DoOverlap y other
    back other y met = (sym met.0, record { begins = met.1.ends; ends = met.1.begins })

    found : (k : ℕ) (d : Link) → k < length links → DoOverlap (get_or links k d) link → Any is_latest links
        → IsUpTo ((get_or links k d).cpf, (get_or links k d).since) latest.0 → IsUpTo latest.0 (link.cpf, link.until) → ⊥
    found k d within met any (inl less) (inl below) = absurd (omega (arith, less, below, met.0))
    found k d within met any (inl less) (inr upto) = absurd (omega (arith, less, upto.0, met.0))
    found k d within met (j, y, here, is_y, those) (inr same) _ =
        let at : get_or links j d ≡ y = get_or_default links j d y here ∙ is_y in
        let first : BeginsFirst y = subst BeginsFirst at (firsts j d here) in
        let both = meets (get_or links k d) y first those met same.0 same.1 in
        elim (cases_order j k) [
          | inl one ↦
              let until : (get_or links k d).until ≡ latest.1 = ap (λ n. (get_or links n d).until) (sym one) ∙ ap (λ l. l.until) at ∙ those.2 in
              let less = behind (sym same.0 ∙ met.0) in
              let ends = met.1.ends in absurd (omega (arith, until, less, ends))
          | inr order ↦ elim order [
            | inl less ↦ apart j k d less within (subst (λ l. DoOverlap l (get_or links k d)) (sym at) (back (get_or links k d) y both))
            | inr more ↦ apart k j d more here (subst (λ l. DoOverlap (get_or links k d) l) (sym at) both)
          ]
        ]

-- where none of its CPF begins by the link's last day, it meets none
pub behind_none : (ends : BTreeMap (ℕ × ℕ) ℕ) (links : List Link) (link : Link) → HasEnds ends links
    → ((q : ℕ × ℕ) → is_gt (day_cmp q (link.cpf, link.until)) ≡ false → IsSome (tree.get day_cmp ends q) → tree.get day_cmp ends q ≡ None)
    → All (λ other. AreApart other link) links
behind_none ends links link has none = λ k d within met.
    let other = get_or links k d in
    let known : tree.get day_cmp ends (other.cpf, other.since) ≡ Some other.until = has.known k d within in
    let missing = none (other.cpf, other.since) (begins_within other link met) (subst IsSome (sym known) refl) in
    let same = sym missing ∙ known in absurd (cc)
