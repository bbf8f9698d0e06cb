-- The first and the last recording day of a history that gets one entry more.
use Rattle.std.proofs.Common.{◌≡◌, ℕ, ◌≤◌, inl, inr, min, max, List, [], ◌∷◌, ◌++◌, All, sym, ap, subst, ◌∙◌, arith}
use Rattle.std.proofs.lemmas.List.{map-append}
use Rattle.std.proofs.lemmas.List.Elements.{All-from_recursion, All-append, Contains-append_left, Contains-push}
use Rattle.std.proofs.lemmas.Bool.{cases_lt}
use Rattle.afd_records.specs.Record.{recording_day_of}
use Rattle.rep_wire.specs.declared.request.Entry.{Entry}
use Rattle.rep_core.specs.History.{days_of}
use Rattle.rep_print.specs.Afd.{IsLeast, IsGreatest}
use Rattle.rep_print.specs.FileSteps.{IsSpan}

All-one : (P : ℕ → Type 0) (x : ℕ) → P x → All P (x ∷ [])
All-one P x holds = All-from_recursion P (x ∷ []) (holds, tt)

All-wider : (P Q : ℕ → Type 0) (xs : List ℕ) → ((n : ℕ) → P n → Q n) → All P xs → All Q xs
All-wider P Q xs wider all k other inside = wider _ (all k other inside)

IsLeast-push : (least day : ℕ) (days : List ℕ) (next : ℕ) → next ≡ min least day → IsLeast least days → IsLeast next (days ++ day ∷ [])
IsLeast-push least day days next is before = elim (cases_lt day least) [
  | inl earlier ↦ (
      let same : next ≡ day = omega (arith, is) in
      subst (λ n. IsLeast n (days ++ day ∷ [])) (sym same) (record {
        there = Contains-push days day;
        least = All-append (λ n. day ≤ n) days (day ∷ []) (All-wider (λ n. least ≤ n) (λ n. day ≤ n) days (λ n within. omega arith) before.least) (All-one (λ n. day ≤ n) day (omega arith));
      })
      )
  | inr later ↦ (
      let same : next ≡ least = omega (arith, is) in
      subst (λ n. IsLeast n (days ++ day ∷ [])) (sym same) (record {
        there = Contains-append_left days (day ∷ []) least before.there;
        least = All-append (λ n. least ≤ n) days (day ∷ []) before.least (All-one (λ n. least ≤ n) day later);
      })
      )
]

IsGreatest-push : (greatest day : ℕ) (days : List ℕ) (next : ℕ) → next ≡ max greatest day → IsGreatest greatest days → IsGreatest next (days ++ day ∷ [])
IsGreatest-push greatest day days next is before = elim (cases_lt greatest day) [
  | inl later ↦ (
      let same : next ≡ day = omega (arith, is) in
      subst (λ n. IsGreatest n (days ++ day ∷ [])) (sym same) (record {
        there = Contains-push days day;
        greatest = All-append (λ n. n ≤ day) days (day ∷ []) (All-wider (λ n. n ≤ greatest) (λ n. n ≤ day) days (λ n within. omega arith) before.greatest) (All-one (λ n. n ≤ day) day (omega arith));
      })
      )
  | inr earlier ↦ (
      let same : next ≡ greatest = omega (arith, is) in
      subst (λ n. IsGreatest n (days ++ day ∷ [])) (sym same) (record {
        there = Contains-append_left days (day ∷ []) greatest before.there;
        greatest = All-append (λ n. n ≤ greatest) days (day ∷ []) before.greatest (All-one (λ n. n ≤ greatest) day earlier);
      })
      )
]

pub IsSpan-push : (h : List Entry) (e : Entry) (first last first' last' day : ℕ) → day ≡ recording_day_of e.body
    → first' ≡ min first day → last' ≡ max last day → IsSpan h first last → IsSpan (h ++ e ∷ []) first' last'
IsSpan-push h e first last first' last' day day_is earlier later before =
    let days : days_of (h ++ e ∷ []) ≡ days_of h ++ day ∷ [] =
    map-append (λ (d : Entry). recording_day_of d.body) h (e ∷ []) ∙ ap (λ n. days_of h ++ n ∷ []) (sym day_is) in
    record {
      first_is = subst (λ ds. IsLeast first' ds) (sym days) (IsLeast-push first day (days_of h) first' earlier before.first_is);
      last_is = subst (λ ds. IsGreatest last' ds) (sym days) (IsGreatest-push last day (days_of h) last' later before.last_is);
    }

pub IsSpan-first : (e : Entry) (day : ℕ) → day ≡ recording_day_of e.body → IsSpan (e ∷ []) day day
IsSpan-first e day day_is = record {
  first_is = subst (λ n. IsLeast day (n ∷ [])) day_is (record { there = Contains-push [] day; least = All-one (λ n. day ≤ n) day (omega arith) });
  last_is = subst (λ n. IsGreatest day (n ∷ [])) day_is (record { there = Contains-push [] day; greatest = All-one (λ n. n ≤ day) day (omega arith) });
}
