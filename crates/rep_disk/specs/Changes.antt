-- what the calls do to the record
use Rattle.std.specs.Prelude.{◌≡◌, ◌⊎◌, ℕ, ◌+◌, min, Bool, List, [], ◌∷◌, ◌++◌, Some, None, Option}
use Rattle.rep_disk.specs.Disk.{last_moment}
use Rattle.rep_disk.specs.Record.{Made, Step}
use Rattle.rep_disk.specs.declared.change.Change.{Change}

-- the moment of the first sync, which is this one where there was none
abbrev pub first_sync : ℕ → Option ℕ → Option ℕ
first_sync moment None = Some moment
first_sync moment (Some t) = Some t

abbrev pub made_sure : ℕ → Change → Change
made_sure moment c = record { begun = c.begun; synced = first_sync moment c.synced; kind = c.kind; failed = c.failed }

-- the last change, if there is one, has a sync behind it
abbrev pub MakesSure : ℕ → List Change → List Change → Type 0
MakesSure moment old new =
    ((old ≡ []) × (new ≡ []))
    ⊎ ((front : List Change) × (last : Change) × (old ≡ front ++ last ∷ []) × (new ≡ front ++ made_sure moment last ∷ []))

-- the change that a call at this moment notes: it begins within the call, and no sync has made sure of it
abbrev pub noted : ℕ → Step → Bool → Made
noted moment step failed = record { begun = min (moment + 1) last_moment; synced = None; step = step; failed = failed }

abbrev pub secured : ℕ → Made → Made
secured t made = record { begun = made.begun; synced = first_sync t made.synced; step = made.step; failed = made.failed }

-- the last change, if there is one, has a sync behind it
abbrev pub Secured : ℕ → List Made → List Made → Type 0
Secured moment old new =
    ((old ≡ []) × (new ≡ []))
    ⊎ ((front : List Made) × (last : Made) × (old ≡ front ++ last ∷ []) × (new ≡ front ++ secured moment last ∷ []))
