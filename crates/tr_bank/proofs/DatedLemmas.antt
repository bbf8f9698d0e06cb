-- Absences with their days: found place by place, and in their order.
use Rattle.std.proofs.Common.{◌≡◌, ◌+◌, ◌<◌, ◌≤◌, ℕ, List, [], ◌∷◌, ◌++◌, length, get_or, Some, refl, sym, subst, ◌∙◌, arith, below_more}
use Rattle.std.proofs.lemmas.Grind.{common_steps}
use Rattle.std.proofs.lemmas.List.Elements.{All-push, All-weaker}
use Rattle.std.proofs.lemmas.List.Quantifiers.{Any-push, all_pairs_push}
use Rattle.std.proofs.lemmas.Option.{slice_get_read, slice_get_within}
use Rattle.std.specs.Prelude.{All, AllPairs, Any}
use Rattle.tr_plan.specs.declared.absence.Absence.{Absence}
use Rattle.tr_plan.specs.declared.link.Link.{Link}
use Rattle.tr_plan.specs.declared.plan.Plan.{Plan}
use Rattle.tr_bank.specs.Absences.{IsAbsenceAt, IsAbsenceOf}
use Rattle.tr_bank.specs.Dated.{IsDated, AreDated}
use Rattle.tr_bank.specs.declared.listing.Dated.{Dated}

-- those that stand at a place below n
pub record AreDatedBelow (plan : Plan) (link from to n : ℕ) (dated : List Dated) : Type 0 where
  pub only : All (IsDated plan link from to) dated
  pub all : (place : ℕ) → place < n → IsAbsenceAt plan link from to place → Any (λ one. one.place ≡ place) dated
  pub below : All (λ one. one.place < n) dated
  pub rising : AllPairs (λ one other. one.place < other.place) dated

-- none stands below the first place
pub AreDatedBelow-nil : (plan : Plan) (link from to : ℕ) → AreDatedBelow plan link from to 0 []
AreDatedBelow-nil plan link from to = record {
  only = λ k d within. absurd (omega arith);
  all = λ place below _. absurd (omega arith);
  below = λ k d within. absurd (omega arith);
  rising = λ i j d order within. absurd (omega arith);
}

any_kept : (dated : List Dated) (one : Dated) (place : ℕ) → Any (λ d. d.place ≡ place) dated → Any (λ d. d.place ≡ place) (dated ++ one ∷ [])
any_kept dated one place found = grind (arith, common_steps)

-- one stands at the next place
pub AreDatedBelow-push : (plan : Plan) (link from to n : ℕ) (dated : List Dated) (one : Dated)
    → AreDatedBelow plan link from to n dated → IsDated plan link from to one → one.place ≡ n
    → AreDatedBelow plan link from to (n + 1) (dated ++ one ∷ [])
AreDatedBelow-push plan link from to n dated one known dates here = record {
  only = All-push (IsDated plan link from to) dated one known.only dates;
  all = λ place below is.
      below_more (λ p. IsAbsenceAt plan link from to p → Any (λ d. d.place ≡ p) (dated ++ one ∷ [])) n
      (λ p less there. any_kept dated one p (known.all p less there))
      (λ _. Any-push (λ d. d.place ≡ n) dated one here) place below is;
  below = All-push (λ d. d.place < n + 1) dated one (All-weaker (λ d. d.place < n) (λ d. d.place < n + 1) (λ d less. omega arith) dated known.below) (omega arith);
  rising = all_pairs_push (λ a b. a.place < b.place) dated one known.rising (λ k d within. let less : (get_or dated k d).place < n = known.below k d within in omega arith);
}

-- none stands there
pub AreDatedBelow-skip : (plan : Plan) (link from to n : ℕ) (dated : List Dated)
    → AreDatedBelow plan link from to n dated → (IsAbsenceAt plan link from to n → ⊥)
    → AreDatedBelow plan link from to (n + 1) dated
AreDatedBelow-skip plan link from to n dated known none = record {
  only = known.only;
  all = λ place below is.
      below_more (λ p. IsAbsenceAt plan link from to p → Any (λ d. d.place ≡ p) dated) n known.all
      (λ there. absurd (none there)) place below is;
  below = All-weaker (λ d. d.place < n) (λ d. d.place < n + 1) (λ d less. omega arith) dated known.below;
  rising = known.rising;
}

-- no absence stands behind the last place
pub AreDated-from_below : (plan : Plan) (link from to n : ℕ) (dated : List Dated)
    → AreDatedBelow plan link from to n dated → length plan.absences ≤ n → AreDated plan link from to dated
AreDated-from_below plan link from to n dated known last = record {
  only = known.only;
  all = λ place is. known.all place (let within = slice_get_within plan.absences place is.absence is.absence_there in omega arith) is;
  rising = known.rising;
}

-- what stands at the place is the absence that was read there
pub IsDated-read : (plan : Plan) (link from to : ℕ) (dated : Dated) (holder : Link) (absence : Absence)
    → link < length plan.links → holder ≡ get_or plan.links link holder
    → dated.place < length plan.absences → absence ≡ get_or plan.absences dated.place absence
    → IsAbsenceOf holder.id from to absence → dated.day ≡ absence.date → IsDated plan link from to dated
IsDated-read plan link from to dated holder absence in_links holder_is in_absences absence_is is day = record {
  absence = record {
    holder = holder;
    absence = absence;
    holder_there = slice_get_read plan.links (length plan.links) link holder refl in_links holder_is;
    absence_there = slice_get_read plan.absences (length plan.absences) dated.place absence refl in_absences absence_is;
    is = is;
  };
  day = day;
}

pub IsAbsenceOf-read : (plan : Plan) (link from to place : ℕ) (holder : Link) (absence : Absence)
    → link < length plan.links → holder ≡ get_or plan.links link holder
    → place < length plan.absences → absence ≡ get_or plan.absences place absence
    → IsAbsenceAt plan link from to place → IsAbsenceOf holder.id from to absence
IsAbsenceOf-read plan link from to place holder absence in_links holder_is in_absences absence_is there =
    let one : there.holder ≡ holder = same_some (sym there.holder_there ∙ slice_get_read plan.links (length plan.links) link holder refl in_links holder_is) in
    let two : there.absence ≡ absence =
    same_some (sym there.absence_there ∙ slice_get_read plan.absences (length plan.absences) place absence refl in_absences absence_is) in
    subst (λ (a : Absence). IsAbsenceOf holder.id from to a) two (subst (λ (l : Link). IsAbsenceOf l.id from to there.absence) one there.is)
  where
    same_some : {X : Type 0} {x y : X} → Some x ≡ Some y → x ≡ y
    same_some e = cc
