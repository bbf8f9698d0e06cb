-- What stands on a disk after a frame was put.
use Rattle.std.proofs.Common.{◌≡◌, ℕ, ◌⊎◌, inl, inr, List, [], ◌∷◌, ◌++◌, Option, Some, None, refl, sym, ap, subst, ◌∙◌}
use Rattle.std.specs.Prelude.{IfSome, IsSome}
use Rattle.rep_disk.specs.Disk.{Changes}
use Rattle.rep_wire.specs.declared.request.Entry.{Entry}
use Rattle.rep_core.specs.Valid.{Fits, IsFounded}
use Rattle.rep_core.proofs.Validity.{IsFounded-push}
use Rattle.rep_journal.specs.Format.{Framed, IsJournalOf}
use Rattle.rep_journal.specs.State as journal
use Rattle.rep_ledger.specs.Ledger.{IsLedgerOf, IsLedgerWithin, frames_of, next_frame}
use Rattle.rep_ledger.proofs.LedgerLemmas.{frames_of-push}
use Rattle.rep_store.specs.Steps.{IsLeftAt}

-- what holds of contents after a step
pub after_change : (old new : Option (List ℕ)) (P : List ℕ → Type 0) → Changes (λ _ bytes. P bytes) old new → IfSome new P
after_change None None P changes = tt
after_change None (Some b) P changes = absurd changes
after_change (Some a) None P changes = absurd changes
after_change (Some a) (Some b) P changes = changes

-- what is told after a step was told before
pub told_before : (old new : Option (List ℕ)) (P : List ℕ → List ℕ → Type 0) → Changes P old new → IsSome new → IsSome old
told_before None None P changes told = told
told_before None (Some b) P changes told = absurd changes
told_before (Some a) None P changes told = refl
told_before (Some a) (Some b) P changes told = refl

pub told_after : (old new : Option (List ℕ)) (P : List ℕ → List ℕ → Type 0) → Changes P old new → IsSome old → IsSome new
told_after None None P changes told = told
told_after None (Some b) P changes told = refl
told_after (Some a) None P changes told = absurd changes
told_after (Some a) (Some b) P changes told = refl

-- what holds of contents that are told holds where it was shown of such
pub where_told : (o : Option (List ℕ)) (P : List ℕ → Type 0) → (IsSome o → IfSome o P) → IfSome o P
where_told None P holds = tt
where_told (Some bytes) P holds = holds refl

pub told_as : (o : Option (List ℕ)) (bytes : List ℕ) → o ≡ Some bytes → IsSome o
told_as o bytes is = subst IsSome (sym is) refl

module _ (h : List Entry) (e : Entry) (founded : IsFounded h) (fits : Fits h e) where
  -- a journal with the entry's frame keeps the history with the entry
  pub ledger_with : (frames : List Framed) (bytes : List ℕ) → frames ≡ frames_of h → IsJournalOf bytes (frames ++ next_frame h e ∷ []) → IsLedgerOf bytes (h ++ e ∷ [])
  ledger_with frames bytes same journal = record {
    founded = IsFounded-push h e founded fits;
    journal = subst (IsJournalOf bytes) (ap (λ fs. fs ++ next_frame h e ∷ []) same ∙ sym (frames_of-push h e)) journal;
  }

  pub ledger_without : (frames : List Framed) (bytes : List ℕ) → frames ≡ frames_of h → IsJournalOf bytes frames → IsLedgerOf bytes h
  ledger_without frames bytes same journal = record { founded = founded; journal = subst (IsJournalOf bytes) same journal }

  -- the same of what a failed put leaves
  pub left_ledger : (failed : ℕ) (frames : List Framed) (bytes : List ℕ) → frames ≡ frames_of h → journal.IsLeftAt failed frames (next_frame h e) bytes → IsLeftAt failed h (h ++ e ∷ []) bytes
  left_ledger failed frames bytes same left = record {
    early = λ soon. ledger_without frames bytes same (left.early soon);
    late = λ last. ledger_with frames bytes same (left.late last);
    either = elim left.either [
      | inl without ↦ inl (ledger_without frames bytes same without)
      | inr with_entry ↦ inr (ledger_with frames bytes same with_entry)
    ];
  }

  pub within_ledger : (image : List ℕ) → IsLedgerOf image h ⊎ IsLedgerOf image (h ++ e ∷ []) → IsLedgerWithin h image
  within_ledger image (inl without) = inl without
  within_ledger image (inr with_entry) = inr (e, fits, with_entry)
