-- Valid and founded histories, one entry on.
use Rattle.std.proofs.Common.{◌≡◌, inl, inr, List, [], ◌∷◌, ◌++◌, refl, subst}
use Rattle.rep_fields.specs.Moment.{Moment, IsMoment}
use Rattle.afd_records.specs.Record.{last_nsr}
use Rattle.rep_wire.specs.Request.{IsRequest, IsFounding}
use Rattle.rep_wire.specs.declared.request.Request.{Request}
use Rattle.rep_wire.specs.declared.request.Entry.{Entry}
use Rattle.rep_core.specs.Verdict.{IsVerdict}
use Rattle.rep_core.specs.Answered.{entry_of}
use Rattle.rep_core.specs.Valid.{Fits, IsValid, IsFounded}
use Rattle.rep_core.specs.declared.verdict.Verdict.TheVariants.{Fresh}
use Rattle.rep_core.proofs.Splits.{split_push}

-- the entry of a request that is to be recorded fits the entries before
pub Fits-recorded : (h : List Entry) (q : Request) (now : Moment) → IsRequest q → IsMoment now → IsVerdict last_nsr h q Fresh → Fits h (entry_of q now)
Fits-recorded h q now asked stamp fresh = record { q = q; now = now; asked = asked; stamp = stamp; made = refl; fresh = fresh }

-- what holds of each entry and those before it holds one entry on
each_push : (P : List Entry → Entry → Type 0) (h : List Entry) (last : Entry) → P h last → ((before : List Entry) (e : Entry) (behind : List Entry) → h ≡ before ++ e ∷ behind → P before e) → (before : List Entry) (e : Entry) (behind : List Entry) → h ++ last ∷ [] ≡ before ++ e ∷ behind → P before e
each_push P h last new each before e behind split = elim (split_push h before behind last e split) [
  | inl w ↦ subst (λ xs. P xs e) w.0 (subst (λ x. P h x) w.1 new)
  | inr w ↦ each before e w.0 w.1
]

pub IsValid-push : (h : List Entry) (e : Entry) → IsValid h → Fits h e → IsValid (h ++ e ∷ [])
IsValid-push h e valid fits = each_push Fits h e fits valid

pub IsFounded-push : (h : List Entry) (e : Entry) → IsFounded h → Fits h e → IsFounded (h ++ e ∷ [])
IsFounded-push [] e founded fits = absurd founded
IsFounded-push (first ∷ h) e founded fits = (founded.0, each_push (λ xs x. Fits (first ∷ xs) x) h e fits founded.1)

pub IsFounded-first : (q : Request) (now : Moment) → IsFounding q → IsMoment now → IsFounded (entry_of q now ∷ [])
IsFounded-first q now founding stamp = (record { q = q; now = now; founding = founding; stamp = stamp; made = refl }, none)
  where
    none : (before : List Entry) (e : Entry) (behind : List Entry) → [] ≡ before ++ e ∷ behind → Fits (entry_of q now ∷ before) e
    none [] e behind split = absurd cc
    none (b ∷ before) e behind split = absurd cc

pub IsValid-nil : IsValid []
IsValid-nil [] e behind split = absurd cc
IsValid-nil (b ∷ before) e behind split = absurd cc
