-- A store over a journal that was found and replayed.
use Rattle.std.proofs.Common.{◌≡◌, ◌≢◌, ℕ, ◌+◌, ◌≤◌, ◌↔◌, inl, inr, List, [], ◌∷◌, ◌++◌, length, Option, Some, None, refl, sym, ap, subst, ◌∙◌, arith, length-append}
use Rattle.std.specs.Prelude.{IfSome, IsSome}
use Rattle.std.proofs.lemmas.Bool.{cases_lt}
use Rattle.std.proofs.lemmas.List.Elements.{All-nil}
use Rattle.afd_records.specs.Record.{last_nsr}
use Rattle.rep_disk.specs.Disk.{Shown, IsAtRest, Moved, Same}
use Rattle.rep_wire.specs.declared.request.Entry.{Entry}
use Rattle.rep_core.specs.Core.{Kept, Stands, IsLimit}
use Rattle.rep_core.specs.Valid.{IsFounded}
use Rattle.rep_core.proofs.Standing.{Stands-own, entries_of}
use Rattle.rep_site.specs.Site.{IsSite}
use Rattle.rep_site.specs.declared.site.Site.{Site}
use Rattle.rep_journal.specs.Format.{IsJournalOf}
use Rattle.rep_journal.specs.State.{IsKeptBy, IsRead}
use Rattle.rep_journal.specs.State as journal
use Rattle.rep_journal.specs.Recovery.{RestsFrom}
use Rattle.rep_ledger.specs.Ledger.{IsLedgerOf, frames_of}
use Rattle.rep_ledger.specs.Safety.{IsSafe, IsSure, Secures}
use Rattle.rep_ledger.proofs.DiskSteps.{IsAtRest-rests, IsKeptBy-read, Moved-same, RestsFrom-read, image_at_rest, image_from_rest}
use Rattle.rep_ledger.proofs.SafetyLemmas.{IsFrontOf-refl, Secures-rested}
use Rattle.rep_store.specs.Device.{Device, running}
use Rattle.rep_store.specs.Fields.{IsWhole, state_of}
use Rattle.rep_store.specs.Making.{Reopens}
use Rattle.rep_store.proofs.Openings.{ledger_told}

-- a list that isn't empty ends in an element
last_of : {X : Type 0} (x : X) (xs : List X) → (front : List X) × (last : X) × (x ∷ xs ≡ front ++ last ∷ [])
last_of x [] = ([], x, refl)
last_of x (y ∷ xs) = let rest = last_of y xs in (x ∷ rest.0, rest.1, ap (λ zs. x ∷ zs) rest.2)

-- a founded history has no more entries than there are numbers
pub founded_numbers : (h : List Entry) → IsFounded h → length h ≤ last_nsr
founded_numbers [] founded = absurd founded
founded_numbers (first ∷ []) founded = omega arith
founded_numbers (first ∷ x ∷ h) founded =
    let w = last_of x h in
    let fits = founded.1 w.0 w.1 [] w.2 in
    omega (arith, fits.fresh.2, ap length w.2, length-append w.0 (w.1 ∷ []))

ledger_image : (o : Option (List ℕ)) (h : List Entry) (image : List ℕ) → IfSome o (λ bytes. image ≡ bytes) → IfSome o (λ bytes. IsLedgerOf bytes h) → IsSome o → IsLedgerOf image h
ledger_image None h image same holds told = absurd cc
ledger_image (Some bytes) h image same holds told = subst (λ x. IsLedgerOf x h) (sym same) holds

-- a sync may have made sure of a history that each image kept
Secures-kept : (h : List Entry) (a b : Shown) → Moved Same a b → ((m : ℕ) (image : List ℕ) → a.moment ≤ m → m ≤ b.moment → b.may_leave m image → IsLedgerOf image h) → Secures a.moment h h [] a b
Secures-kept h a b moved keeps = record {
  past = moved.past;
  early = λ m image from before within leaves. absurd (omega arith);
  images = λ m image from within leaves. (h, inl (keeps m image from within leaves), IsFrontOf-refl h, IsFrontOf-refl h);
  sure = λ least m later from on within has image g leaves stands. elim (cases_lt a.moment m) [
    | inl after ↦ has image g (moved.settles m later image after on within leaves) stands
    | inr at ↦
        let same : a.moment ≡ m = omega arith in
        let was = Moved-same a b moved later image (omega arith) within leaves in
        has image g (subst (λ n. b.may_leave n image) same ((moved.past a.moment image (omega arith)).1 was)) stands
  ];
  receipted = All-nil (IsSure b);
}

module _ {D : Type 0} (shown : D → Shown) (disk : D) (site : Site) (is_site : IsSite site) (found read : journal.State D) (core core' : Kept) (device : Device D) (copy : Site) (kept : IfSome (shown disk).contents (λ bytes. IsJournalOf bytes found.frames × (found.frames ≢ []))) (by : IsKeptBy (shown disk) (shown found.disk)) (rest : RestsFrom ((shown disk).moment + 2) (shown found.disk)) (no_faults : found.faults ≡ 0) (founded : (h : List Entry) → Stands core h → IsFounded h) (replayed : (h : List Entry) → Stands core h → IsSome (shown found.disk).contents → found.frames ≡ frames_of h) (counted : (h : List Entry) → Stands core h → length h ≡ length found.frames) (frames : read.frames ≡ found.frames) (faults : read.faults ≡ found.faults) (was_read : IsRead (shown found.disk) (shown read.disk)) (found_no_fault : (shown found.disk).faults ≡ (shown disk).faults) (read_no_fault : (shown read.disk).faults ≡ (shown found.disk).faults) (same : (h : List Entry) → Stands core h ↔ Stands core' h) (limit : core'.limit ≡ site.last_nsr) (is_running : device ≡ running read) (is_copy : copy ≡ site) where
  entries : core'.entries ≡ core.entries
  entries = entries_of core' core.entries ((same core.entries).0 (Stands-own core))

  is_founded : IsFounded core'.entries
  is_founded = subst IsFounded (sym entries) (founded core.entries (Stands-own core))

  frames_held : IsSome (shown found.disk).contents → found.frames ≡ frames_of core'.entries
  frames_held told = replayed core.entries (Stands-own core) told ∙ ap frames_of (sym entries)

  pub ledger_held : IfSome (shown disk).contents (λ bytes. IsLedgerOf bytes core'.entries)
  ledger_held =
      ledger_told (shown disk).contents found.frames core'.entries kept is_founded
      (λ told. frames_held (subst IsSome (sym by.contents) told))

  ledger_read : IfSome (shown read.disk).contents (λ bytes. IsLedgerOf bytes core'.entries)
  ledger_read = subst (λ o. IfSome o (λ bytes. IsLedgerOf bytes core'.entries)) (sym (was_read.contents ∙ by.contents)) ledger_held

  rests : RestsFrom ((shown disk).moment + 2) (shown read.disk)
  rests = RestsFrom-read ((shown disk).moment + 2) (shown found.disk) (shown read.disk) rest was_read

  kept_by : IsKeptBy (shown disk) (shown read.disk)
  kept_by = IsKeptBy-read (shown disk) (shown found.disk) (shown read.disk) by was_read

  pub IsWhole-reopened : IsWhole shown core' device copy
  IsWhole-reopened =
      subst (λ (d : Device D). IsWhole shown core' d copy) (sym is_running) (record {
        founded = is_founded;
        numbers = founded_numbers core'.entries is_founded;
        limit = subst IsLimit (sym limit) (is_site.some_nsr, is_site.last_nsr);
        of_site = limit ∙ ap (λ (s : Site). s.last_nsr) (sym is_copy);
        is_site = subst IsSite (sym is_copy) is_site;
        disk = record { holds = ledger_read; rest = IsAtRest-rests ((shown disk).moment + 2) (shown read.disk) rests };
        count = tt;
        as_many = λ runs. ap length frames ∙ sym (counted core.entries (Stands-own core)) ∙ sym (ap length entries);
        frames = λ runs told. frames ∙ frames_held (subst IsSome was_read.contents told);
      })

  pub Reopens-reopened : {C : Type 0} (clock : C) → Reopens shown site disk clock (state_of core' device clock copy None)
  Reopens-reopened clock =
      subst (λ (d : Device D). Reopens shown site disk clock (state_of core' d clock copy None)) (sym is_running) (record {
        is_new = record { of_site = is_copy; limit = limit; offset = ap (λ (s : Site). s.offset) is_copy; faults = faults ∙ no_faults; running = refl; reading = refl };
        holds = ledger_held;
        same_clock = refl;
        kept = kept_by;
        rest = rests;
        no_fault = read_no_fault ∙ found_no_fault;
      })

  pub IsSafe-reopened : IsSafe ((shown disk).moment + 2) core'.entries core'.entries [] (shown disk) (shown device.disk)
  IsSafe-reopened =
      subst (λ (d : Device D). IsSafe ((shown disk).moment + 2) core'.entries core'.entries [] (shown disk) (shown d.disk)) (sym is_running)
      (λ told below.
      Secures-rested core'.entries (shown disk) (shown read.disk) (kept_by.crash below)
      (λ m image late within leaves.
      ledger_image (shown read.disk).contents core'.entries image (image_from_rest ((shown disk).moment + 2) (shown read.disk) rests below m image late within leaves) ledger_read
      (subst IsSome (sym (was_read.contents ∙ by.contents)) told)))

  -- where the disk was at rest before, from then on
  pub IsSafe-reopened_from_rest : IsAtRest (shown disk) → IsSafe (shown disk).moment core'.entries core'.entries [] (shown disk) (shown device.disk)
  IsSafe-reopened_from_rest at_rest =
      subst (λ (d : Device D). IsSafe (shown disk).moment core'.entries core'.entries [] (shown disk) (shown d.disk)) (sym is_running)
      (λ told below.
      let moved = kept_by.crash below in
      Secures-kept core'.entries (shown disk) (shown read.disk) moved
      (λ m image from within leaves.
      ledger_image (shown disk).contents core'.entries image
      (image_at_rest (shown disk) at_rest (omega (arith, kept_by.later)) image (Moved-same (shown disk) (shown read.disk) moved m image from within leaves))
      ledger_held told))
