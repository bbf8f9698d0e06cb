-- What the steps of a command leave: this project's own.
use Rattle.std.specs.Prelude.{◌≡◌, ◌⊎◌, ℕ, ◌<◌, List, [], length, IfSome, Option, Result, Ok, Err}
use Rattle.rep_io.specs.Causes.{Rose}
use Rattle.rep_io.specs.Cutter.{Cutter}
use Rattle.rep_io.specs.Lines.{lines_of, longest_text}
use Rattle.rep_wire.specs.LaneGrammar.{IsLaneHead}
use Rattle.rep_site.specs.Site.{IsSite}
use Rattle.rep_site.specs.declared.site.Site.{Site}
use Rattle.rep_site.specs.declared.fault.SiteFault.{SiteFault}
use Rattle.rep_site.specs.declared.fault.SiteFault.TheVariants as site
use Rattle.rep_io.specs.declared.transfer.ReadFault.{ReadFault}
use Rattle.rep_io.specs.declared.transfer.ReadFault.TheVariants as fault
use Rattle.rep_lane.specs.declared.head.NoHead.{NoHead}
use Rattle.rep_lane.specs.declared.head.NoHead.TheVariants as head
use Rattle.rep_lane.specs.declared.desk.DeskFail.{DeskFail}
use Rattle.rep_lane.specs.declared.desk.DeskFail.TheVariants as fail
use Rattle.rep_store.specs.declared.error.Stop.{Stop}
use Rattle.rep_store.specs.declared.error.Stop.TheVariants as stop
use Rattle.rep_store.specs.declared.error.ExtractFail.{ExtractFail}
use Rattle.rep_store.specs.declared.error.ExtractFail.TheVariants as extract
use Rattle.rep_journal.specs.declared.error.WhyNot.TheVariants as why
use Rattle.rep_store.specs.declared.error.StoreWhy.{StoreWhy}
use Rattle.rep_store.specs.declared.error.StoreWhy.TheVariants as store
use Rattle.rep_report.specs.declared.ending.Ending.{Ending}
use Rattle.rep_report.specs.declared.ending.Ending.TheVariants as ending
use Rattle.rep_lane.specs.LaneText.{ended_lines, IsWithin, HasRead}
use Rattle.rep_lane.specs.Head.{Heads, HasNoHead}
use Rattle.rep_run.specs.Settings.{SaysSite, RefusesSite, IsOfSite}
use Rattle.rep_run.specs.declared.refusal.Refusal.TheVariants as refusal
use Rattle.rep_run.specs.declared.stopping.Stopping.{Stopping}
use Rattle.rep_run.specs.declared.stopping.Stopping.TheVariants.{Refused, Ended}
use Rattle.rep_run.specs.declared.texts.Texts.{Texts}

-- how a command stops where there is no store
abbrev pub stopping_of : StoreWhy → Stopping
stopping_of (store.Journal why.Foreign) = Refused refusal.Foreign
stopping_of (store.Journal why.Blank) = Refused refusal.Blank
stopping_of (store.Journal why.Present) = Refused refusal.Present
stopping_of (store.Journal (why.Damaged at)) = Refused (refusal.Damaged at)
stopping_of (store.Journal why.DeviceFault) = Ended ending.DeviceFault
stopping_of (store.Journal why.OutOfMemory) = Ended ending.OutOfMemory
stopping_of store.ClockFault = Ended ending.ClockFault

-- how a command ends where a text can't be read, and how it stops where it is no site's or the lane has no head
abbrev pub reading_ending : ReadFault → Ending
reading_ending fault.SourceFault = ending.SourceFault
reading_ending fault.InputLimit = ending.InputLimit
reading_ending fault.OutOfMemory = ending.OutOfMemory

abbrev pub site_stopping : SiteFault → Stopping
site_stopping site.SiteText = Refused refusal.SiteText
site_stopping (site.SiteField key) = Refused (refusal.SiteField key)
site_stopping site.OutOfMemory = Ended ending.OutOfMemory

abbrev pub head_stopping : NoHead → Stopping
head_stopping head.OffGrammar = Refused refusal.NoHead
head_stopping head.SourceFault = Ended ending.SourceFault
head_stopping head.InputLimit = Ended ending.InputLimit

-- why a desk didn't answer, or didn't write the whole of an extraction, by its store
abbrev pub fail_of : Stop → DeskFail
fail_of (stop.Stopped faults) = fail.Stopped
fail_of stop.DeviceFault = fail.DeviceFault
fail_of stop.ClockFault = fail.ClockFault
fail_of stop.OutOfMemory = fail.OutOfMemory

abbrev pub extract_fail : ExtractFail → DeskFail
extract_fail (extract.Stopped faults) = fail.Stopped
extract_fail extract.DeviceFault = fail.DeviceFault
extract_fail extract.ClockFault = fail.ClockFault
extract_fail extract.SinkFault = fail.SinkFault

-- a site's text can't be read: memory is short, or the source failed
abbrev pub FailsToRead : {T : Type 0} → ℕ → ℕ → Result T Stopping → Type 0
FailsToRead before now result =
    (result ≡ Err (Ended ending.OutOfMemory)) ⊎ ((result ≡ Err (Ended ending.SourceFault)) × Rose before now)

-- a site was read
pub record ReadsSiteOf {S : Type 0} (left : S → Option (List ℕ)) (source : S) (site : Site) : Type 0 where
  pub in_range : IsSite site
  pub said : IfSome (left source) (λ text. SaysSite text site)

-- both texts were read as far as they are before the store is opened
pub record BeginsTexts {S : Type 0} (left : S → Option (List ℕ)) (site : S) (lines lines' : Cutter S) (texts : Texts) : Type 0 where
  pub reads : ReadsSiteOf left site texts.site
  pub headed_in_range : IsLaneHead texts.head
  pub headed : (text : List ℕ) → HasRead left lines text [] → Heads left lines' text (Ok texts.head)

-- the lane has no head, behind a site
pub record LacksHead {S : Type 0} (left : S → Option (List ℕ)) (source : S) (lines : Cutter S) : Type 0 where
  pub site : Site
  pub reads : ReadsSiteOf left source site
  pub no_head : (text : List ℕ) → HasRead left lines text [] → HasNoHead (lines_of text) × IsWithin 1 text

-- how a command stops at its texts
abbrev pub StopsAtTexts : {S : Type 0} → (S → Option (List ℕ)) → (S → ℕ) → S → S → Cutter S → Cutter S → Stopping → Type 0
StopsAtTexts left faults site site' lines lines' (Refused refusal.SiteText) =
    IfSome (left site) (λ text. RefusesSite text refusal.SiteText)
StopsAtTexts left faults site site' lines lines' (Refused (refusal.SiteField key)) =
    IfSome (left site) (λ text. RefusesSite text (refusal.SiteField key))
StopsAtTexts left faults site site' lines lines' (Refused refusal.NoHead) = LacksHead left site lines
StopsAtTexts left faults site site' lines lines' (Refused refusal.Foreign) = ⊥
StopsAtTexts left faults site site' lines lines' (Refused refusal.Blank) = ⊥
StopsAtTexts left faults site site' lines lines' (Refused refusal.Present) = ⊥
StopsAtTexts left faults site site' lines lines' (Refused (refusal.Damaged at)) = ⊥
StopsAtTexts left faults site site' lines lines' (Ended ending.SourceFault) =
    Rose (faults site) (faults site')
    ⊎ ((said : Site) × ReadsSiteOf left site said × Rose (faults lines.source) (faults lines'.source))
StopsAtTexts left faults site site' lines lines' (Ended ending.InputLimit) =
    IfSome (left site) (λ text. longest_text < length text)
    ⊎ ((said : Site) × ReadsSiteOf left site said
    × ((text : List ℕ) → HasRead left lines text [] → (longest_text < length text) × (ended_lines text ≡ 0)))
StopsAtTexts left faults site site' lines lines' (Ended ending.OutOfMemory) = Unit {0}
StopsAtTexts left faults site site' lines lines' (Ended ending.AllAnswered) = ⊥
StopsAtTexts left faults site site' lines lines' (Ended ending.SomeRefused) = ⊥
StopsAtTexts left faults site site' lines lines' (Ended ending.SinkFault) = ⊥
StopsAtTexts left faults site site' lines lines' (Ended ending.DeviceFault) = ⊥
StopsAtTexts left faults site site' lines lines' (Ended ending.ClockFault) = ⊥

-- the text of the site is refused
abbrev pub IsSiteRefusal : Stopping → Type 0
IsSiteRefusal (Refused why) = IsOfSite why
IsSiteRefusal (Ended e) = ⊥

-- the journal was made, or the outside failed, or memory was short
abbrev pub IsMadeOrFails : Stopping → Type 0
IsMadeOrFails stopping =
    (stopping ≡ Ended ending.AllAnswered) ⊎ (stopping ≡ Ended ending.OutOfMemory) ⊎ (stopping ≡ Ended ending.SourceFault)
    ⊎ (stopping ≡ Ended ending.DeviceFault) ⊎ (stopping ≡ Ended ending.ClockFault)
