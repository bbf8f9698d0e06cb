-- What a store is, as contracts see it, and what its disk holds between two calls: this project's own.
use Rattle.std.specs.Prelude.{◌≡◌, ℕ, ◌<◌, ◌≤◌, ℤ, List, length, IfSome, IsSome, Option, Some, None}
use Rattle.rep_disk.specs.Disk.{Shown, IsAtRest, last_moment}
use Rattle.afd_records.specs.Record.{last_nsr}
use Rattle.rep_wire.specs.declared.request.Entry.{Entry}
use Rattle.rep_core.specs.Core.{IsLimit}
use Rattle.rep_core.specs.Valid.{IsFounded}
use Rattle.rep_site.specs.Site.{IsSite}
use Rattle.rep_site.specs.declared.site.Site.{Site}
use Rattle.rep_ledger.specs.Ledger.{IsLedgerOf, IsLedgerWithin}
use Rattle.rep_ledger.specs.Safety.{IsFrontOf, IsImageOf}

pub record State (D C : Type 0) : Type 0 where
  pub disk : D
  pub clock : C
  -- whose recorder it is, and what it may do
  pub site : Site
  -- the entries, by number
  pub history : List Entry
  -- the last number that is given out
  pub limit : ℕ
  -- how many minutes the recorder's clock is ahead of UTC
  pub offset : ℤ
  -- how often the disk has failed for it
  pub faults : ℕ
  -- that count, where a failure stopped it
  pub stopped : Option ℕ
  -- the reading of the clock that the last request or extraction took
  pub reading : Option ℕ

-- contents that are told keep the history
abbrev pub Holds : List Entry → Shown → Type 0
Holds h s = IfSome s.contents (λ bytes. IsLedgerOf bytes h)

-- the disk keeps the history, and a crash leaves nothing else
pub record IsSettledOn (h : List Entry) (s : Shown) : Type 0 where
  pub holds : Holds h s
  pub rest : IsAtRest s

-- the disk keeps the history, with one entry more or without it, and so does each image that a crash leaves
pub record IsOpenAfter (h : List Entry) (s : Shown) : Type 0 where
  pub holds : IfSome s.contents (IsLedgerWithin h)
  pub images : IsSome s.contents → s.moment < last_moment → (image : List ℕ) → s.may_leave s.moment image
      → IsLedgerWithin h image

-- the image keeps a history that goes on from the one kept, and is a front of the whole one
abbrev pub KeepsAFront : List Entry → List Entry → List ℕ → Type 0
KeepsAFront kept whole image = (h : List Entry) × IsImageOf image h × IsFrontOf kept h × IsFrontOf h whole

-- what the disk holds, by whether the store has stopped
abbrev pub IsKept : Option ℕ → List Entry → Shown → Type 0
IsKept None h s = IsSettledOn h s
IsKept (Some faults) h s = IsOpenAfter h s

-- the count of a store that has stopped
abbrev pub CountsStop : Option ℕ → ℕ → Type 0
CountsStop None faults = Unit {0}
CountsStop (Some count) faults = (count ≡ faults) × (1 ≤ count)

-- what holds of each store
pub record IsSound {D C : Type 0} (shown : D → Shown) (s : State D C) : Type 0 where
  pub founded : IsFounded s.history
  pub site : IsSite s.site
  -- limit and offset are the site's
  pub of_site : s.limit ≡ s.site.last_nsr
  pub offset : s.offset ≡ s.site.offset
  pub numbers : length s.history ≤ last_nsr
  pub limit : IsLimit s.limit
  pub disk : IsKept s.stopped s.history (shown s.disk)
  pub count : CountsStop s.stopped s.faults
