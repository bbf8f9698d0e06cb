-- What `receipt` leaves: this project's own. What is said of a text or of contents holds where they are told.
use Rattle.std.specs.Prelude.{◌≡◌, ◌⊎◌, ℕ, List, Option}
use Rattle.rep_io.specs.Causes.{Rose}
use Rattle.rep_wire.specs.declared.request.Entry.{Entry}
use Rattle.rep_site.specs.declared.site.Site.{Site}
use Rattle.rep_report.specs.Saying.{SaysLine}
use Rattle.rep_run.specs.Creating.{status_of, last_text}
use Rattle.rep_run.specs.declared.stopping.Stopping.{Stopping}
use Rattle.rep_query.specs.Opening.{Inputs, Meanings, Opens, StopsOpening}
use Rattle.rep_query.specs.Receipt.{IsReceiptOf, IsWhyNone, SaysNone, SaysReceipt}
use Rattle.rep_query.specs.declared.finding.NoReceipt.{NoReceipt}

-- The journal wasn't opened, and the reason is said.
pub record StopsEarly {S D : Type 0} (m : Meanings S D) (old new : Inputs S D) (out_old out_new : Option (List ℕ)) (before now status : ℕ) : Type 0 where
  pub stopping : Stopping
  pub status_is : status ≡ status_of stopping
  pub stops : StopsOpening m old new stopping
  pub says : SaysLine (last_text stopping) out_old out_new (Rose before now)

-- The receipt was written, or the output failed at it.
pub record Gives {S D : Type 0} (m : Meanings S D) (nsr : ℕ) (old new : Inputs S D) (out_old out_new : Option (List ℕ)) (before now status : ℕ) : Type 0 where
  pub site : Site
  pub history : List Entry
  pub opens : Opens m old new site history
  pub text : List ℕ
  pub is_receipt : IsReceiptOf site history nsr text
  pub says : SaysReceipt text out_old out_new before now status

-- There is no receipt, and the reason is said.
pub record GivesNone {S D : Type 0} (m : Meanings S D) (nsr : ℕ) (old new : Inputs S D) (out_old out_new : Option (List ℕ)) (before now status : ℕ) : Type 0 where
  pub site : Site
  pub history : List Entry
  pub opens : Opens m old new site history
  pub why : NoReceipt
  pub is_why : IsWhyNone history nsr (m.shown old.disk).faults (m.shown new.disk).faults why
  pub says : SaysNone why nsr out_old out_new (Rose before now) status

-- A whole call of `receipt`: what it left, what it said and its status.
abbrev pub Answered : {S D : Type 0} → Meanings S D → ℕ → Inputs S D → Inputs S D → Option (List ℕ) → Option (List ℕ) → ℕ → ℕ → ℕ → Type 0
Answered m nsr old new out_old out_new before now status =
    StopsEarly m old new out_old out_new before now status
    ⊎ Gives m nsr old new out_old out_new before now status
    ⊎ GivesNone m nsr old new out_old out_new before now status
