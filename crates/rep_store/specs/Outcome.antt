-- When a call over a disk gives no store: this project's own.
use Rattle.std.specs.Prelude.{◌≡◌, ◌⊎◌, ℕ, List, IfSome, IsErrAnd, Option, Result}
use Rattle.rep_ledger.specs.declared.replaying.NotReplayed.{NotReplayed}
use Rattle.rep_ledger.specs.declared.replaying.NotReplayed.TheVariants as replayed
use Rattle.rep_journal.specs.declared.error.WhyNot.{WhyNot}
use Rattle.rep_journal.specs.declared.error.WhyNot.TheVariants.{Damaged, DeviceFault, OutOfMemory}
use Rattle.rep_journal.specs.declared.error.NotMade.{NotMade}
use Rattle.rep_store.specs.declared.error.NoStore.{NoStore}
use Rattle.rep_store.specs.declared.error.StoreWhy.{StoreWhy}
use Rattle.rep_store.specs.declared.error.StoreWhy.TheVariants.{Journal}

-- the call answers that it made none, for this reason
abbrev pub IsRefused : {A D C : Type 0} → StoreWhy → Result A (NoStore D C) → Type 0
IsRefused why result = IsErrAnd result (λ none. none.why ≡ why)

-- the disk failed, or memory was short
abbrev pub IsCutShort : {A D C : Type 0} → Result A (NoStore D C) → Type 0
IsCutShort result = IsRefused (Journal DeviceFault) result ⊎ IsRefused (Journal OutOfMemory) result

-- The call refuses for this reason only where this is so; and where it is so, then for this reason, unless it was cut
-- short before.
pub record RefusesWhere {A D C : Type 0} (IsSo : Type 0) (why : StoreWhy) (result : Result A (NoStore D C)) : Type 0 where
  pub only : IsRefused why result → IsSo
  pub all : IsSo → IsRefused why result ⊎ IsCutShort result

-- the same of contents that are told
abbrev pub Refuses : {A D C : Type 0} → (List ℕ → Type 0) → StoreWhy → Option (List ℕ) → Result A (NoStore D C) → Type 0
Refuses Is why contents result = IfSome contents (λ bytes. RefusesWhere (Is bytes) why result)

-- why a journal that keeps no history is no store's
abbrev pub why_of : NotReplayed → WhyNot
why_of (replayed.Misfit at) = Damaged at
why_of replayed.DeviceFault = DeviceFault
why_of replayed.OutOfMemory = OutOfMemory

-- the store is refused as the journal was
abbrev pub refusal_of : {D C : Type 0} → NotMade D → C → NoStore D C
refusal_of none clock = record { disk = none.disk; clock = clock; why = Journal none.why }
