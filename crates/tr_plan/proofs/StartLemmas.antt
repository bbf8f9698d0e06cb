-- Laws of the link of a CPF that is in force on a day.
use Rattle.std.proofs.Common.{◌≡◌, ℕ, ◌<◌, ◌≤◌, false, List, [], ◌∷◌, length, get_or, None, IsSome, is_gt, inl, inr, sym, ap, ◌∙◌, subst, arith}
use Rattle.std.specs.BTreeMap as tree
use Rattle.std.specs.BTreeMap.{BTreeMap}
use Rattle.std.proofs.lemmas.Bool.{cases_order, false≢true}
use Rattle.tr_plan.specs.Index.{AreStarts, day_cmp}
use Rattle.tr_plan.specs.Link.{IsOn, DoOverlap}
use Rattle.tr_plan.specs.declared.link.Link.{Link}
use Rattle.tr_plan.proofs.EndLemmas.{IsLatest, IsUpTo, up_to, not_below, within_cpf}
use Rattle.tr_plan.proofs.IndexLemmas.{Any-at}

-- some element of a list that has one
some_of : {X : Type 0} (xs : List X) (i : ℕ) → i < length xs → X
some_of [] i within = absurd (omega arith)
some_of (x ∷ xs) i within = x

module _ (starts : BTreeMap (ℕ × ℕ) ℕ) (links : List Link) (are : AreStarts starts links) (cpf day : ℕ) where
  both_on : (a b : Link) → a.cpf ≡ cpf → b.cpf ≡ cpf → a.since ≤ day → day ≤ a.until → b.since ≤ day → day ≤ b.until → DoOverlap a b
  both_on a b cpf_a cpf_b since_a until_a since_b until_b =
      (cpf_a ∙ sym cpf_b, record { begins = omega (arith, since_a, until_b); ends = omega (arith, since_b, until_a) })

  -- one link of a CPF alone is in force on a day
  pub one_on : (a b : ℕ) → IsOn links cpf day a → IsOn links cpf day b → a ≡ b
  one_on a b on_a on_b =
      let d = some_of links a on_a.within in
      let in_a = on_a.in_dates d in
      let in_b = on_b.in_dates d in
      elim (cases_order a b) [
        | inl same ↦ same
        | inr order ↦ elim order [
          | inl less ↦ absurd (are.apart a b d less on_b.within (both_on (get_or links a d) (get_or links b d) (on_a.person d) (on_b.person d) in_a.since in_a.until in_b.since in_b.until))
          | inr more ↦ absurd (are.apart b a d more on_a.within (both_on (get_or links b d) (get_or links a d) (on_b.person d) (on_a.person d) in_b.since in_b.until in_a.since in_a.until))
        ]
      ]

  -- the latest one's place
  pub latest_within : (latest : (ℕ × ℕ) × ℕ) → IsLatest starts (cpf, day) latest → latest.1 < length links
  latest_within latest is = (are.places.found latest.0 latest.1 is.there).0

  -- is in force where it is the CPF's and doesn't end before the day
  pub latest_on : (latest : (ℕ × ℕ) × ℕ) → IsLatest starts (cpf, day) latest → latest.0.0 ≡ cpf
      → ((link : Link) → day ≤ (get_or links latest.1 link).until) → IsOn links cpf day latest.1
  latest_on latest is same until =
      let there = are.places.found latest.0 latest.1 is.there in
      record {
        within = there.0;
        person = λ link. ap (λ (p : ℕ × ℕ). p.0) (there.1 link) ∙ same;
        in_dates = λ link. record {
          since = begun (up_to latest.0 (cpf, day) is.within) (get_or links latest.1 link) (ap (λ (p : ℕ × ℕ). p.1) (there.1 link));
          until = until link;
        };
      }
    where
      begun : IsUpTo latest.0 (cpf, day) → (link : Link) → link.since ≡ latest.0.1 → link.since ≤ day
      begun (inl less) link is_since = absurd (omega (arith, less, same))
      begun (inr upto) link is_since = omega (arith, upto.1, is_since)

  -- a link that is in force has begun by the day
  known_on : (place : ℕ) → IsOn links cpf day place → (link : Link) → IsSome (tree.get day_cmp starts (cpf, (get_or links place link).since))
  known_on place on link =
      are.places.known (cpf, (get_or links place link).since)
      (Any-at (λ (l : Link). (l.cpf, l.since) ≡ (cpf, (get_or links place link).since)) links place link on.within (ap (λ n. (n, (get_or links place link).since)) (on.person link)))

  begun_on : (place : ℕ) → IsOn links cpf day place → (link : Link) → is_gt (day_cmp (cpf, (get_or links place link).since) (cpf, day)) ≡ false
  begun_on place on link = within_cpf cpf (get_or links place link).since day (on.in_dates link).since

  -- and where the latest one is another CPF's, or ends before the day, none is in force
  pub none_on : (latest : (ℕ × ℕ) × ℕ) → IsLatest starts (cpf, day) latest
      → (latest.0.0 ≡ cpf → (link : Link) → (get_or links latest.1 link).until < day) → (place : ℕ) → IsOn links cpf day place → ⊥
  none_on latest is ended place on =
      let d = some_of links place on.within in
      let last = is.last (cpf, (get_or links place d).since) (begun_on place on d) (known_on place on d) in
      found d (are.places.found latest.0 latest.1 is.there) (not_below latest.0 (cpf, (get_or links place d).since) last) (up_to latest.0 (cpf, day) is.within)
    where
      found : (d : Link) → (latest.1 < length links) × ((link : Link) → ((get_or links latest.1 link).cpf, (get_or links latest.1 link).since) ≡ latest.0)
          → IsUpTo (cpf, (get_or links place d).since) latest.0 → IsUpTo latest.0 (cpf, day) → ⊥
      found d there (inl less) (inl below) = absurd (omega (arith, less, below))
      found d there (inl less) (inr upto) = absurd (omega (arith, less, upto.0))
      found d there (inr upto) _ =
          let cpf_is : (get_or links latest.1 d).cpf ≡ cpf = ap (λ (p : ℕ × ℕ). p.0) (there.1 d) ∙ sym upto.0 in
          let since_is : (get_or links latest.1 d).since ≡ latest.0.1 = ap (λ (p : ℕ × ℕ). p.1) (there.1 d) in
          let first : (get_or links latest.1 d).since ≤ (get_or links latest.1 d).until = are.in_order latest.1 d there.0 in
          let end : (get_or links latest.1 d).until < day = ended (sym upto.0) d in
          let dates = on.in_dates d in
          let order : (get_or links place d).since ≤ latest.0.1 = upto.1 in
          elim (cases_order latest.1 place) [
            | inl one ↦ absurd (omega (arith, end, dates.until, ap (λ n. (get_or links n d).until) one))
            | inr apart ↦ elim apart [
              | inl less ↦ are.apart latest.1 place d less on.within
                  (cpf_is ∙ sym (on.person d), record { begins = omega (arith, first, end, dates.until); ends = omega (arith, order, since_is, first) })
              | inr more ↦ are.apart place latest.1 d more there.0
                  (on.person d ∙ sym cpf_is, record { begins = omega (arith, order, since_is, first); ends = omega (arith, first, end, dates.until) })
            ]
          ]

  -- nor where no link begins by the day
  pub none_begun : ((q : ℕ × ℕ) → is_gt (day_cmp q (cpf, day)) ≡ false → IsSome (tree.get day_cmp starts q) → tree.get day_cmp starts q ≡ None)
      → (place : ℕ) → IsOn links cpf day place → ⊥
  none_begun none place on =
      let d = some_of links place on.within in
      let known = known_on place on d in
      let missing = none (cpf, (get_or links place d).since) (begun_on place on d) known in
      absurd (false≢true (subst IsSome missing known))
