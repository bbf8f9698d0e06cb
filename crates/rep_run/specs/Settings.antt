-- The text of a site that a command reads: this project's own. What is said of it holds where the source tells it.
use Rattle.std.specs.Prelude.{ℕ, ◌<◌, ◌≤◌, List, length, IfSome, Option, Result, Ok, Err}
use Rattle.rep_io.specs.Causes.{Rose}
use Rattle.rep_io.specs.Lines.{longest_text}
use Rattle.rep_site.specs.Site.{IsSite}
use Rattle.toml_fields.specs.Table.{IsNoToml}
use Rattle.rep_site.specs.Reading.{IsSiteText, IsOffAt}
use Rattle.rep_site.specs.declared.site.Site.{Site}
use Rattle.rep_report.specs.declared.ending.Ending.{Ending}
use Rattle.rep_report.specs.declared.ending.Ending.TheVariants as ending
use Rattle.rep_run.specs.declared.refusal.Refusal.{Refusal}
use Rattle.rep_run.specs.declared.refusal.Refusal.TheVariants.{SiteText, SiteField, NoHead, Foreign, Blank, Present, Damaged}
use Rattle.rep_run.specs.declared.stopping.Stopping.{Stopping}
use Rattle.rep_run.specs.declared.stopping.Stopping.TheVariants.{Refused, Ended}

-- the text is this site's
pub record SaysSite (text : List ℕ) (site : Site) : Type 0 where
  pub said : IsSiteText text site
  pub short : length text ≤ longest_text

-- why a text is no site's; nothing else is refused while it is read
abbrev pub RefusesSite : List ℕ → Refusal → Type 0
RefusesSite text SiteText = IsNoToml text × (length text ≤ longest_text)
RefusesSite text (SiteField key) = IsOffAt text key × (length text ≤ longest_text)
RefusesSite text NoHead = ⊥
RefusesSite text Foreign = ⊥
RefusesSite text Blank = ⊥
RefusesSite text Present = ⊥
RefusesSite text (Damaged at) = ⊥

-- how reading a text may end, where memory, the source or the text's length is the cause
abbrev pub EndsReading : {S : Type 0} → (S → Option (List ℕ)) → (S → ℕ) → S → S → Ending → Type 0
EndsReading left faults old new ending.SourceFault = Rose (faults old) (faults new)
EndsReading left faults old new ending.InputLimit = IfSome (left old) (λ text. longest_text < length text)
EndsReading left faults old new ending.OutOfMemory = Unit {0}
EndsReading left faults old new ending.AllAnswered = ⊥
EndsReading left faults old new ending.SomeRefused = ⊥
EndsReading left faults old new ending.SinkFault = ⊥
EndsReading left faults old new ending.DeviceFault = ⊥
EndsReading left faults old new ending.ClockFault = ⊥

-- the refusals of a site's text
abbrev pub IsOfSite : Refusal → Type 0
IsOfSite SiteText = Unit {0}
IsOfSite (SiteField key) = Unit {0}
IsOfSite NoHead = ⊥
IsOfSite Foreign = ⊥
IsOfSite Blank = ⊥
IsOfSite Present = ⊥
IsOfSite (Damaged at) = ⊥

-- what reading a site's text leaves
abbrev pub ReadsSite : {S : Type 0} → (S → Option (List ℕ)) → (S → ℕ) → S → S → Result Site Stopping → Type 0
ReadsSite left faults old new (Ok site) = IsSite site × IfSome (left old) (λ text. SaysSite text site)
ReadsSite left faults old new (Err (Refused why)) = IsOfSite why × IfSome (left old) (λ text. RefusesSite text why)
ReadsSite left faults old new (Err (Ended e)) = EndsReading left faults old new e
