-- What the calls that make a store answer, from what the calls of the journal answer.
use Rattle.std.proofs.Common.{◌≡◌, ◌≢◌, ℕ, ◌<◌, ◌⊎◌, inl, inr, List, [], Option, Some, None, Result, Ok, Err, refl, sym, ap, subst, ◌∙◌}
use Rattle.std.specs.Prelude.{◌↔◌, IfSome, IsOkAnd, IsSome}
use Rattle.rep_disk.specs.Disk.{Shown, IsAtRest, last_moment}
use Rattle.rep_wire.specs.declared.request.Entry.{Entry}
use Rattle.rep_core.specs.Valid.{IsFounded}
use Rattle.rep_journal.specs.Format.{Framed, IsJournalOf, IsBlank, IsForeign, BrokenAt}
use Rattle.rep_journal.specs.Outcome as journal
use Rattle.rep_journal.specs.declared.error.NotMade.{NotMade}
use Rattle.rep_journal.specs.declared.error.WhyNot.{WhyNot}
use Rattle.rep_journal.specs.declared.error.WhyNot.TheVariants as why
use Rattle.rep_ledger.specs.Ledger.{IsLedgerOf, IsDamagedAt, MisfitAmong, frames_of, Blank, Foreign, Damaged, Keeps}
use Rattle.rep_ledger.specs.Safety.{IsImageOf}
use Rattle.rep_ledger.specs.declared.replaying.NotReplayed.{NotReplayed}
use Rattle.rep_ledger.specs.declared.replaying.NotReplayed.TheVariants as replayed
use Rattle.rep_journal.proofs.KindLemmas.{journal_magic, kept_not_blank}
use Rattle.rep_ledger.proofs.ContentLemmas.{broken_alone, ledger_not_damaged, misfit_frames, one_content, one_ledger}
use Rattle.rep_ledger.proofs.DiskSteps.{IfSome-weaker}
use Rattle.rep_ledger.proofs.SafetyLemmas.{founded_frames}
use Rattle.rep_store.specs.Making.{RestsUnlessFailed}
use Rattle.rep_store.specs.Outcome.{IsCutShort, IsRefused, Refuses, RefusesWhere, why_of}
use Rattle.rep_store.specs.declared.error.NoStore.{NoStore}
use Rattle.rep_store.specs.declared.error.StoreWhy.{StoreWhy}
use Rattle.rep_store.specs.declared.error.StoreWhy.TheVariants.{Journal}

same_why : (a b : WhyNot) → Journal a ≡ Journal b → a ≡ b
same_why a b same = cc

-- a refusal of the journal is one of the store, for the same reason
lift_where : {A E D C : Type 0} (IsSo : Type 0) (reason : WhyNot) (e : NotMade D) (none : NoStore D C) → none.why ≡ Journal e.why → journal.RefusesWhere {A = A} {D = D} IsSo reason (Err e) → RefusesWhere {A = E} {D = D} {C = C} IsSo (Journal reason) (Err none)
lift_where IsSo reason e none is refuses = record {
  only = λ same. refuses.only (same_why e.why reason (sym is ∙ same));
  all = λ so. elim (refuses.all so) [
    | inl same ↦ inl (is ∙ ap Journal same)
    | inr short ↦ elim short [
      | inl same ↦ inr (inl (is ∙ ap Journal same))
      | inr same ↦ inr (inr (is ∙ ap Journal same))
    ]
  ];
}

pub lift : (A E : Type 0) {D C : Type 0} (Is : List ℕ → Type 0) (reason : WhyNot) (contents : Option (List ℕ)) (e : NotMade D) (none : NoStore D C) → none.why ≡ Journal e.why → journal.Refuses {A = A} {D = D} Is reason contents (Err e) → Refuses {A = E} {D = D} {C = C} Is (Journal reason) contents (Err none)
lift A E Is reason None e none is refuses = tt
lift A E Is reason (Some bytes) e none is refuses = lift_where {A = A} {E = E} (Is bytes) reason e none is refuses

-- a journal with a frame is refused only where the disk failed or memory was short
cut_short : (bytes : List ℕ) (frames : List Framed) → IsJournalOf bytes frames → frames ≢ [] → (reason : WhyNot) → (reason ≡ why.Blank → IsBlank bytes) → (reason ≡ why.Foreign → IsForeign bytes) → ((at : ℕ) → reason ≡ why.Damaged at → BrokenAt bytes at) → reason ≢ why.Present → (reason ≡ why.DeviceFault) ⊎ (reason ≡ why.OutOfMemory)
cut_short bytes frames journal some why.Foreign blank foreign damaged not_present = absurd ((foreign refl).no_magic (journal_magic bytes frames journal))
cut_short bytes frames journal some why.Present blank foreign damaged not_present = absurd (not_present refl)
cut_short bytes frames journal some why.Blank blank foreign damaged not_present = absurd (kept_not_blank bytes frames journal some (blank refl))
cut_short bytes frames journal some (why.Damaged at) blank foreign damaged not_present = absurd (broken_alone bytes at frames (damaged at refl) journal some)
cut_short bytes frames journal some why.DeviceFault blank foreign damaged not_present = inl refl
cut_short bytes frames journal some why.OutOfMemory blank foreign damaged not_present = inr refl

is_cut_short : (E : Type 0) {D C : Type 0} (reason : WhyNot) (none : NoStore D C) → none.why ≡ Journal reason → (reason ≡ why.DeviceFault) ⊎ (reason ≡ why.OutOfMemory) → IsCutShort {A = E} {D = D} {C = C} (Err none)
is_cut_short E reason none is (inl fault) = inl (is ∙ ap Journal fault)
is_cut_short E reason none is (inr short) = inr (is ∙ ap Journal short)

-- the journal gave none
module _ (A E : Type 0) {D C : Type 0} (e : NotMade D) (none : NoStore D C) (is : none.why ≡ Journal e.why) where
  pub damaged_refused : (o : Option (List ℕ)) (at : ℕ) → journal.Refuses {A = A} {D = D} IsBlank why.Blank o (Err e) → journal.Refuses {A = A} {D = D} IsForeign why.Foreign o (Err e) → ((n : ℕ) → journal.Refuses {A = A} {D = D} (λ bytes. BrokenAt bytes n) (why.Damaged n) o (Err e)) → e.why ≢ why.Present → Refuses {A = E} {D = D} {C = C} (IsDamagedAt at) (Journal (why.Damaged at)) o (Err none)
  damaged_refused None at blank foreign damaged not_present = tt
  damaged_refused (Some bytes) at blank foreign damaged not_present = record {
    only = λ same. inl ((damaged at).only (same_why e.why (why.Damaged at) (sym is ∙ same)));
    all = λ so. elim so [
      | inl broken ↦ (lift_where {A = A} {E = E} {D = D} {C = C} (BrokenAt bytes at) (why.Damaged at) e none is (damaged at)).all broken
      | inr misfit ↦
          inr (is_cut_short E e.why none is
          (cut_short bytes misfit.0 misfit.1 (misfit_frames misfit.0 at misfit.2) e.why blank.only foreign.only (λ n. (damaged n).only) not_present))
    ];
  }

  pub found_refused : (o : Option (List ℕ)) (P : E → Type 0) (h : List Entry) → journal.Refuses {A = A} {D = D} IsBlank why.Blank o (Err e) → journal.Refuses {A = A} {D = D} IsForeign why.Foreign o (Err e) → ((n : ℕ) → journal.Refuses {A = A} {D = D} (λ bytes. BrokenAt bytes n) (why.Damaged n) o (Err e)) → e.why ≢ why.Present → let result : Result E (NoStore D C) = Err none in IfSome o (λ bytes. IsLedgerOf bytes h → IsOkAnd result P ⊎ IsCutShort result)
  found_refused None P h blank foreign damaged not_present = tt
  found_refused (Some bytes) P h blank foreign damaged not_present = λ ledger.
      inr (is_cut_short E e.why none is
      (cut_short bytes (frames_of h) ledger.journal (founded_frames h ledger.founded) e.why blank.only foreign.only (λ n. (damaged n).only) not_present))

-- contents that keep frames are neither blank nor foreign
pub kept_not_blank_told : (o : Option (List ℕ)) (frames : List Framed) → IfSome o (λ bytes. IsJournalOf bytes frames × (frames ≢ [])) → IfSome o (λ bytes. IsBlank bytes → ⊥)
kept_not_blank_told o frames kept =
    IfSome-weaker o (λ bytes. IsJournalOf bytes frames × (frames ≢ [])) (λ bytes. IsBlank bytes → ⊥) (λ bytes k. kept_not_blank bytes frames k.0 k.1) kept

pub kept_not_foreign_told : (o : Option (List ℕ)) (frames : List Framed) → IfSome o (λ bytes. IsJournalOf bytes frames × (frames ≢ [])) → IfSome o (λ bytes. IsForeign bytes → ⊥)
kept_not_foreign_told o frames kept =
    IfSome-weaker o (λ bytes. IsJournalOf bytes frames × (frames ≢ [])) (λ bytes. IsForeign bytes → ⊥) (λ bytes k alien. alien.no_magic (journal_magic bytes frames k.0)) kept

pub ledger_not_damaged_told : (o : Option (List ℕ)) (h : List Entry) (at : ℕ) → IfSome o (λ bytes. IsLedgerOf bytes h) → IfSome o (λ bytes. IsDamagedAt at bytes → ⊥)
ledger_not_damaged_told o h at kept =
    IfSome-weaker o (λ bytes. IsLedgerOf bytes h) (λ bytes. IsDamagedAt at bytes → ⊥) (λ bytes ledger. ledger_not_damaged bytes h at ledger) kept

-- the frames that contents keep are those of the history
pub ledger_told : (o : Option (List ℕ)) (frames : List Framed) (h : List Entry) → IfSome o (λ bytes. IsJournalOf bytes frames × (frames ≢ [])) → IsFounded h → (IsSome o → frames ≡ frames_of h) → IfSome o (λ bytes. IsLedgerOf bytes h)
ledger_told None frames h kept founded same = tt
ledger_told (Some bytes) frames h kept founded same = record { founded = founded; journal = subst (IsJournalOf bytes) (same refl) kept.0 }

-- a store was made, and contents of this kind give none
pub made_refuses : (D C : Type 0) {E : Type 0} (Is : List ℕ → Type 0) (reason : StoreWhy) (o : Option (List ℕ)) (made : E) → IfSome o (λ bytes. Is bytes → ⊥) → Refuses {A = E} {D = D} {C = C} Is reason o (Ok made)
made_refuses D C Is reason None made none = tt
made_refuses D C Is reason (Some bytes) made none = record { only = λ refused. absurd refused; all = λ so. absurd (none so) }

pub made_found : (D C : Type 0) {E : Type 0} (o : Option (List ℕ)) (P : List Entry → E → Type 0) (h g : List Entry) (made : E) → IfSome o (λ bytes. IsLedgerOf bytes g) → (g ≡ h → P h made) → let result : Result E (NoStore D C) = Ok made in IfSome o (λ bytes. IsLedgerOf bytes h → IsOkAnd result (P h) ⊎ IsCutShort result)
made_found D C None P h g made kept same = tt
made_found D C (Some bytes) P h g made kept same = λ ledger. inl (same (one_ledger bytes g h kept ledger))

-- the journal keeps no history, or it wasn't read to its end
module _ {D C : Type 0} (reason : NotReplayed) (none : NoStore D C) (is : none.why ≡ Journal (why_of reason)) where
  -- it is refused for no other reason
  other_reason : (other : WhyNot) → (why_of reason ≡ other → ⊥) → none.why ≡ Journal other → ⊥
  other_reason other differ same = differ (same_why (why_of reason) other (sym is ∙ same))

  pub unread_refuses : (E : Type 0) (Is : List ℕ → Type 0) (other : WhyNot) (o : Option (List ℕ)) → (why_of reason ≡ other → ⊥) → IfSome o (λ bytes. Is bytes → ⊥) → Refuses {A = E} {D = D} {C = C} Is (Journal other) o (Err none)
  unread_refuses E Is other None differ excluded = tt
  unread_refuses E Is other (Some bytes) differ excluded = record {
    only = λ same. absurd (other_reason other differ same);
    all = λ so. absurd (excluded so);
  }

pub why_of-blank : (reason : NotReplayed) → why_of reason ≡ why.Blank → ⊥
why_of-blank (replayed.Misfit at) same = absurd cc
why_of-blank replayed.DeviceFault same = absurd cc
why_of-blank replayed.OutOfMemory same = absurd cc

pub why_of-foreign : (reason : NotReplayed) → why_of reason ≡ why.Foreign → ⊥
why_of-foreign (replayed.Misfit at) same = absurd cc
why_of-foreign replayed.DeviceFault same = absurd cc
why_of-foreign replayed.OutOfMemory same = absurd cc

pub why_of-present : (reason : NotReplayed) → why_of reason ≡ why.Present → ⊥
why_of-present (replayed.Misfit at) same = absurd cc
why_of-present replayed.DeviceFault same = absurd cc
why_of-present replayed.OutOfMemory same = absurd cc

pub why_of-fault : (reason : NotReplayed) → why_of reason ≡ why.DeviceFault → reason ≡ replayed.DeviceFault
why_of-fault (replayed.Misfit at) same = absurd cc
why_of-fault replayed.DeviceFault same = refl
why_of-fault replayed.OutOfMemory same = absurd cc

why_of-misfit : (reason : NotReplayed) (at : ℕ) → why_of reason ≡ why.Damaged at → reason ≡ replayed.Misfit at
why_of-misfit (replayed.Misfit n) at same = let here : n ≡ at = cc in ap replayed.Misfit here
why_of-misfit replayed.DeviceFault at same = absurd cc
why_of-misfit replayed.OutOfMemory at same = absurd cc

-- contents that keep frames of which one doesn't fit
misfit_damage : (bytes : List ℕ) (frames : List Framed) (at : ℕ) → IsJournalOf bytes frames → MisfitAmong frames at → IsDamagedAt at bytes
misfit_damage bytes frames at journal misfit = inr (frames, journal, misfit)

unread_all : (E : Type 0) {D C : Type 0} (reason : NotReplayed) (none : NoStore D C) (bytes : List ℕ) (frames : List Framed) (at : ℕ) → none.why ≡ Journal (why_of reason) → IsJournalOf bytes frames → ((n : ℕ) → reason ≡ replayed.Misfit n → MisfitAmong frames n) → IsDamagedAt at bytes → IsRefused {A = E} (Journal (why.Damaged at)) (Err none) ⊎ IsCutShort {A = E} {D = D} {C = C} (Err none)
unread_all E (replayed.Misfit n) none bytes frames at is journal misfit so =
    let same = one_content bytes (Damaged n) (Damaged at) (misfit_damage bytes frames n journal (misfit n refl)) so in
    let here : n ≡ at = cc in
    inl (is ∙ ap (λ m. Journal (why.Damaged m)) here)
unread_all E replayed.DeviceFault none bytes frames at is journal misfit so = inr (inl is)
unread_all E replayed.OutOfMemory none bytes frames at is journal misfit so = inr (inr is)

pub unread_damaged : (E : Type 0) {D C : Type 0} (reason : NotReplayed) (none : NoStore D C) (o : Option (List ℕ)) (frames : List Framed) (at : ℕ) → none.why ≡ Journal (why_of reason) → IfSome o (λ bytes. IsJournalOf bytes frames × (frames ≢ [])) → ((n : ℕ) → reason ≡ replayed.Misfit n → IsSome o → MisfitAmong frames n) → Refuses {A = E} {D = D} {C = C} (IsDamagedAt at) (Journal (why.Damaged at)) o (Err none)
unread_damaged E reason none None frames at is kept misfit = tt
unread_damaged E reason none (Some bytes) frames at is kept misfit = record {
  only = λ same. misfit_damage bytes frames at kept.0 (misfit at (why_of-misfit reason at (same_why (why_of reason) (why.Damaged at) (sym is ∙ same))) refl);
  all = unread_all E reason none bytes frames at is kept.0 (λ n same. misfit n same refl);
}

unread_ledger : (E : Type 0) {D C : Type 0} (reason : NotReplayed) (none : NoStore D C) (bytes : List ℕ) (frames : List Framed) (h : List Entry) → none.why ≡ Journal (why_of reason) → IsJournalOf bytes frames → ((n : ℕ) → reason ≡ replayed.Misfit n → MisfitAmong frames n) → IsLedgerOf bytes h → IsCutShort {A = E} {D = D} {C = C} (Err none)
unread_ledger E (replayed.Misfit n) none bytes frames h is journal misfit ledger =
    let same = one_content bytes (Damaged n) (Keeps h) (misfit_damage bytes frames n journal (misfit n refl)) ledger in absurd cc
unread_ledger E replayed.DeviceFault none bytes frames h is journal misfit ledger = inl is
unread_ledger E replayed.OutOfMemory none bytes frames h is journal misfit ledger = inr is

pub unread_found : {E D C : Type 0} (reason : NotReplayed) (none : NoStore D C) (o : Option (List ℕ)) (frames : List Framed) (P : E → Type 0) (h : List Entry) → none.why ≡ Journal (why_of reason) → IfSome o (λ bytes. IsJournalOf bytes frames × (frames ≢ [])) → ((n : ℕ) → reason ≡ replayed.Misfit n → IsSome o → MisfitAmong frames n) → let result : Result E (NoStore D C) = Err none in IfSome o (λ bytes. IsLedgerOf bytes h → IsOkAnd result P ⊎ IsCutShort result)
unread_found reason none None frames P h is kept misfit = tt
unread_found {E = E} reason none (Some bytes) frames P h is kept misfit = λ ledger. inr (unread_ledger E reason none bytes frames h is kept.0 (λ n same. misfit n same refl) ledger)

-- what a journal that was refused leaves of the disk's rest
pub rest_refused : (reason : WhyNot) (old new : Shown) → journal.RestsUnlessFailed reason old new → RestsUnlessFailed (Journal reason) old new
rest_refused reason old new (inl failed) = inl (ap Journal failed.0, failed.1)
rest_refused reason old new (inr rests) = inr rests

-- each image of a blank disk at rest keeps the empty history
pub blank_images : (s : Shown) → IsAtRest s → IfSome s.contents IsBlank → IsSome s.contents → s.moment < last_moment → (image : List ℕ) → s.may_leave s.moment image → IsImageOf image []
blank_images s rest blank told below image leaves = blank_image s.contents (rest below image) blank told
  where
    blank_image : (o : Option (List ℕ)) → IfSome o (λ bytes. s.may_leave s.moment image ↔ image ≡ bytes) → IfSome o IsBlank → IsSome o → IsImageOf image []
    blank_image None same blank' told' = absurd cc
    blank_image (Some bytes) same blank' told' = inr (refl, subst IsBlank (sym (same.0 leaves)) blank')
