-- What `create` leaves, by how it ended: this project's own. What is said of a text or of contents holds where they are
-- told.
use Rattle.std.specs.Prelude.{◌≡◌, ◌⊎◌, ℕ, ◌≤◌, ◌++◌, List, [], IfSome, Option, Some}
use Rattle.std.specs.Io.KnownBytes.{append_known}
use Rattle.rep_io.specs.Causes.{Rose}
use Rattle.rep_wire.specs.declared.request.Entry.{Entry}
use Rattle.rep_disk.specs.Disk.{Shown, Changes, IsAtRest}
use Rattle.rep_journal.specs.Format.{IsBlank, IsForeign, IsPresent}
use Rattle.rep_journal.specs.State.{IsRead, Leaves}
use Rattle.rep_ledger.specs.Ledger.{IsLedgerOf, frames_of}
use Rattle.rep_ledger.specs.Safety.{IsSafe}
use Rattle.rep_site.specs.Site.{IsSite}
use Rattle.rep_site.specs.declared.site.Site.{Site}
use Rattle.rep_store.specs.Founding.{founding_request}
use Rattle.rep_store.specs.Steps.{Ticks, recorded_at}
use Rattle.rep_report.specs.Report.{created_text}
use Rattle.rep_report.specs.Saying.{IsFront, IsStrictFront, closing_text, status_of as ending_status}
use Rattle.rep_report.specs.declared.ending.Ending.TheVariants.{AllAnswered, SomeRefused, SourceFault, SinkFault, DeviceFault, ClockFault, OutOfMemory, InputLimit}
use Rattle.rep_run.specs.Command.{status_of as refusal_status, refusal_text}
use Rattle.rep_run.specs.Settings.{SaysSite, RefusesSite, EndsReading}
use Rattle.rep_run.specs.declared.refusal.Refusal.{Refusal}
use Rattle.rep_run.specs.declared.refusal.Refusal.TheVariants.{SiteText, SiteField, NoHead, Foreign, Blank, Present, Damaged}
use Rattle.rep_run.specs.declared.stopping.Stopping.{Stopping}
use Rattle.rep_run.specs.declared.stopping.Stopping.TheVariants.{Refused, Ended}

-- what a call is handed, and what it hands back
pub record Parts (S D C : Type 0) : Type 0 where
  pub source : S
  pub disk : D
  pub clock : C

-- the meanings of the parts
pub record Meanings (S D C : Type 0) : Type 1 where
  pub left : S → Option (List ℕ)
  pub source_faults : S → ℕ
  pub shown : D → Shown
  pub readings : C → Option (List ℕ)
  pub clock_faults : C → ℕ

-- a site was read from the text
pub record HasSite {S D C : Type 0} (m : Meanings S D C) (old : Parts S D C) (site : Site) : Type 0 where
  pub in_range : IsSite site
  pub said : IfSome (m.left old.source) (λ text. SaysSite text site)

-- disk and clock are as they were
pub record StaysBeyond {S D C : Type 0} (old new : Parts S D C) : Type 0 where
  pub disk : new.disk ≡ old.disk
  pub clock : new.clock ≡ old.clock

-- the disk was read at most, and the clock not looked at
pub record LooksAtDisk {S D C : Type 0} (m : Meanings S D C) (old new : Parts S D C) : Type 0 where
  pub disk : IsRead (m.shown old.disk) (m.shown new.disk)
  pub clock : new.clock ≡ old.clock

-- The journal was made on a blank disk: it keeps the site's employer record alone, recorded at the clock's reading.
pub record MakesJournal {S D C : Type 0} (m : Meanings S D C) (old new : Parts S D C) : Type 0 where
  pub site : Site
  pub has_site : HasSite m old site
  pub minute : ℕ
  pub ticks : Ticks m.readings m.clock_faults minute old.clock new.clock
  pub contents : Changes
      (λ was now. IsBlank was × IsLedgerOf now (recorded_at [] (founding_request site) site.offset (Some minute)))
      (m.shown old.disk).contents (m.shown new.disk).contents
  pub text : Leaves (frames_of (recorded_at [] (founding_request site) site.offset (Some minute)))
      (m.shown old.disk).contents (m.shown new.disk).contents
  pub rest : IsAtRest (m.shown new.disk)

-- The disk failed while the journal was made: it is blank still, or keeps that record.
pub record MakesPart {S D C : Type 0} (m : Meanings S D C) (old new : Parts S D C) : Type 0 where
  pub site : Site
  pub has_site : HasSite m old site
  pub minute : ℕ
  pub ticks : Ticks m.readings m.clock_faults minute old.clock new.clock
  pub cause : Rose (m.shown old.disk).faults (m.shown new.disk).faults
  pub contents : Changes
      (λ was now. IsBlank was × (IsBlank now ⊎ IsLedgerOf now (recorded_at [] (founding_request site) site.offset (Some minute))))
      (m.shown old.disk).contents (m.shown new.disk).contents

-- a site was read, and the disk failed when it was looked at
pub record FailsToLook {S D C : Type 0} (m : Meanings S D C) (old new : Parts S D C) : Type 0 where
  pub site : Site
  pub has_site : HasSite m old site
  pub looks : LooksAtDisk m old new
  pub cause : Rose (m.shown old.disk).faults (m.shown new.disk).faults

-- the disk's contents are refused, for this reason
pub record RefusesContents {S D C : Type 0} (m : Meanings S D C) (old new : Parts S D C) (IsSo : List ℕ → Type 0) : Type 0 where
  pub site : Site
  pub has_site : HasSite m old site
  pub contents : IfSome (m.shown old.disk).contents IsSo
  pub looks : LooksAtDisk m old new

-- the text is refused, and the disk isn't looked at
pub record RefusesText {S D C : Type 0} (m : Meanings S D C) (old new : Parts S D C) (why : Refusal) : Type 0 where
  pub text : IfSome (m.left old.source) (λ text. RefusesSite text why)
  pub stays : StaysBeyond old new

-- the clock failed, over a disk that may have a journal made on it
pub record MissesTime {S D C : Type 0} (m : Meanings S D C) (old new : Parts S D C) : Type 0 where
  pub site : Site
  pub has_site : HasSite m old site
  pub blank : IfSome (m.shown old.disk).contents IsBlank
  pub cause : Rose (m.clock_faults old.clock) (m.clock_faults new.clock)
  pub readings : m.readings new.clock ≡ m.readings old.clock
  pub disk : IsRead (m.shown old.disk) (m.shown new.disk)

-- what a call leaves, by how it stopped; nothing but the disk's contents is refused beside the text
abbrev pub Creates : {S D C : Type 0} → Meanings S D C → Parts S D C → Parts S D C → Stopping → Type 0
Creates m old new (Refused SiteText) = RefusesText m old new SiteText
Creates m old new (Refused (SiteField key)) = RefusesText m old new (SiteField key)
Creates m old new (Refused NoHead) = ⊥
Creates m old new (Refused Foreign) = RefusesContents m old new IsForeign
Creates m old new (Refused Blank) = ⊥
Creates m old new (Refused Present) = RefusesContents m old new IsPresent
Creates m old new (Refused (Damaged at)) = ⊥
Creates m old new (Ended AllAnswered) = MakesJournal m old new
Creates m old new (Ended SomeRefused) = ⊥
Creates m old new (Ended SourceFault) =
    EndsReading m.left m.source_faults old.source new.source SourceFault × StaysBeyond old new
Creates m old new (Ended InputLimit) =
    EndsReading m.left m.source_faults old.source new.source InputLimit × StaysBeyond old new
Creates m old new (Ended OutOfMemory) = LooksAtDisk m old new
Creates m old new (Ended ClockFault) = MissesTime m old new
Creates m old new (Ended DeviceFault) = FailsToLook m old new ⊎ MakesPart m old new
Creates m old new (Ended SinkFault) = MakesJournal m old new

-- the line that is due where the command did all it was to do, and else none
abbrev pub done_text : Stopping → List ℕ
done_text (Refused why) = []
done_text (Ended AllAnswered) = created_text
done_text (Ended SinkFault) = created_text
done_text (Ended SomeRefused) = []
done_text (Ended SourceFault) = []
done_text (Ended DeviceFault) = []
done_text (Ended ClockFault) = []
done_text (Ended OutOfMemory) = []
done_text (Ended InputLimit) = []

abbrev pub status_of : Stopping → ℕ
status_of (Refused why) = refusal_status why
status_of (Ended e) = ending_status e

-- the line of a refusal or of a fault
abbrev pub last_text : Stopping → List ℕ
last_text (Refused why) = refusal_text why
last_text (Ended e) = closing_text e

-- What is said: that the journal was made, where it was, and then the last line. The output's faults are counted before,
-- between the two lines and now: each line was said wholly, or the output failed at it. That it failed at the first is told.
pub record SaysMade (stopping : Stopping) (old new : Option (List ℕ)) (before now : ℕ) : Type 0 where
  pub put : List ℕ
  pub closing : List ℕ
  pub said : new ≡ append_known old (put ++ closing)
  pub middle : ℕ
  pub since : before ≤ middle
  pub until : middle ≤ now
  pub put_front : IsFront put (done_text stopping)
  pub closing_front : IsFront closing (last_text stopping)
  pub made : stopping ≡ Ended AllAnswered → put ≡ created_text
  pub cut : stopping ≡ Ended SinkFault → IsStrictFront put created_text × Rose before middle
  pub put_whole : (Rose before middle → ⊥) → put ≡ done_text stopping
  pub closing_whole : (Rose middle now → ⊥) → closing ≡ last_text stopping

-- A whole call of `create`: how it stopped, what it left, what it said and its status.
pub record Created {S D C : Type 0} (m : Meanings S D C) (old new : Parts S D C) (out_old out_new : Option (List ℕ)) (before now : ℕ) (status : ℕ) : Type 0 where
  pub stopping : Stopping
  pub status_is : status ≡ status_of stopping
  pub creates : Creates m old new stopping
  pub says : SaysMade stopping out_old out_new before now

-- the history of which a crash leaves a front: none, or the site's record, recorded at the reading that the clock gave
abbrev pub IsBegun : {S D C : Type 0} → Meanings S D C → Parts S D C → Parts S D C → List Entry → Type 0
IsBegun m old new whole =
    (whole ≡ []) ⊎ ((site : Site) × (minute : ℕ) × HasSite m old site × Ticks m.readings m.clock_faults minute old.clock new.clock
    × (whole ≡ recorded_at [] (founding_request site) site.offset (Some minute)))

-- A crash leaves a blank disk, or one that keeps the site's record alone.
pub record CrashesSafely {S D C : Type 0} (m : Meanings S D C) (old new : Parts S D C) : Type 0 where
  pub whole : List Entry
  pub begun : IsBegun m old new whole
  pub safe : IsSafe (m.shown old.disk).moment [] whole [] (m.shown old.disk) (m.shown new.disk)
