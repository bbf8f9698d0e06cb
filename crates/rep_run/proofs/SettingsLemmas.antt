-- how the text of a site is read
use Rattle.std.proofs.Common.{◌≡◌, ℕ, ◌+◌, ◌<◌, ◌≤◌, ◌⊎◌, inl, inr, List, length, Option, Some, Result, Ok, Err, refl, sym, ap, subst, arith}
use Rattle.rep_io.specs.Causes.{Rose}
use Rattle.rep_io.specs.Lines.{longest_text}
use Rattle.rep_io.specs.Transfer.{Takes, ReadsWhole}
use Rattle.rep_io.specs.declared.transfer.ReadFault.{ReadFault}
use Rattle.rep_io.specs.declared.transfer.ReadFault.TheVariants.{SourceFault, InputLimit, OutOfMemory}
use Rattle.toml_fields.specs.Table.{IsNoToml}
use Rattle.rep_site.specs.Reading.{IsSiteText, IsOffAt}
use Rattle.rep_site.specs.declared.key.SiteKey.{SiteKey}
use Rattle.rep_site.specs.declared.site.Site.{Site}
use Rattle.rep_site.specs.declared.fault.SiteFault.{SiteFault}
use Rattle.rep_site.specs.declared.fault.SiteFault.TheVariants as site
use Rattle.rep_report.specs.declared.ending.Ending.TheVariants as ending
use Rattle.rep_run.specs.declared.stopping.Stopping.{Stopping}
use Rattle.rep_run.specs.declared.stopping.Stopping.TheVariants.{Ended}
use Rattle.rep_run.specs.Settings.{ReadsSite, SaysSite, EndsReading}
use Rattle.rep_run.specs.Steps.{FailsToRead, IsMadeOrFails, IsSiteRefusal, reading_ending, site_stopping}
use Rattle.rep_run.proofs.Known.{if_some, whole_text, past_room, same_err, same_ok}

module _ {S : Type 0} (left : S → Option (List ℕ)) (faults : S → ℕ) (old new : S) where
  pub ends_reading : (why : ReadFault) → (why ≡ InputLimit → Takes (left old) (left new) (longest_text + 1)) → (why ≡ SourceFault → Rose (faults old) (faults new))
      → EndsReading left faults old new (reading_ending why)
  ends_reading SourceFault limit cause = cause refl
  ends_reading InputLimit limit cause =
      let t = limit refl in
      if_some (λ text. longest_text < length text) (left old) (λ text told. past_room t.0 text (left old) (left new) t.1 t.2 told)
  ends_reading OutOfMemory limit cause = tt

  pub fails_reading : (why : ReadFault) → (why ≡ InputLimit → Takes (left old) (left new) (longest_text + 1)) → (why ≡ SourceFault → Rose (faults old) (faults new))
      → (text : List ℕ) (said : Site) → left old ≡ Some text → SaysSite text said → FailsToRead {T = Site} (faults old) (faults new) (Err (Ended (reading_ending why)))
  fails_reading SourceFault limit cause text said told says = inr (refl, cause refl)
  fails_reading InputLimit limit cause text said told says =
      let t = limit refl in
      let past : longest_text < length text = past_room t.0 text (left old) (left new) t.1 t.2 told in
      let short : length text ≤ longest_text = says.short in
      absurd (omega arith)
  fails_reading OutOfMemory limit cause text said told says = inl refl

  pub refuses_site : (bytes : List ℕ) (why : SiteFault) → ReadsWhole (left old) (left new) bytes → (why ≡ site.SiteText → IsNoToml bytes)
      → ((key : SiteKey) → why ≡ site.SiteField key → IsOffAt bytes key) → ReadsSite left faults old new (Err (site_stopping why))
  refuses_site bytes site.SiteText whole bad off = (
    tt,
    if_some (λ text. IsNoToml text × (length text ≤ longest_text)) (left old) (λ text told.
        let same : bytes ≡ text = whole_text bytes text (left old) (left new) whole.all whole.at_end told in
        (subst IsNoToml same (bad refl), subst (λ (t : List ℕ). length t ≤ longest_text) same whole.in_room)),
  )
  refuses_site bytes (site.SiteField key) whole bad off = (
    tt,
    if_some (λ text. IsOffAt text key × (length text ≤ longest_text)) (left old) (λ text told.
        let same : bytes ≡ text = whole_text bytes text (left old) (left new) whole.all whole.at_end told in
        (subst (λ (t : List ℕ). IsOffAt t key) same (off key refl), subst (λ (t : List ℕ). length t ≤ longest_text) same whole.in_room)),
  )
  refuses_site bytes site.OutOfMemory whole bad off = tt

-- the site of a text that is a site's
pub found_site : (bytes text : List ℕ) (said : Site) (result : Result Site SiteFault) → bytes ≡ text → SaysSite text said
    → ((s : Site) → IsSiteText bytes s → (result ≡ Ok s) ⊎ (result ≡ Err site.OutOfMemory)) → (result ≡ Ok said) ⊎ (result ≡ Err site.OutOfMemory)
found_site bytes text said result same says found = found said (subst (λ (t : List ℕ). IsSiteText t said) (sym same) says.said)

pub read_ok : (result : Result Site SiteFault) (s said : Site) → result ≡ Ok s → (result ≡ Ok said) ⊎ (result ≡ Err site.OutOfMemory) → s ≡ said
read_ok result s said is (inl same) = same_ok result s said is same
read_ok result s said is (inr short) = absurd cc

pub read_err : (result : Result Site SiteFault) (why : SiteFault) (said : Site) → result ≡ Err why → (result ≡ Ok said) ⊎ (result ≡ Err site.OutOfMemory) → why ≡ site.OutOfMemory
read_err result why said is (inl same) = absurd cc
read_err result why said is (inr short) = same_err result why site.OutOfMemory is short

pub memory_fails : (before now : ℕ) (s : Stopping) → s ≡ Ended ending.OutOfMemory → FailsToRead {T = Site} before now (Err s)
memory_fails before now s is = inl (ap Err is)

-- a site's text was read as no site
pub not_refused : (result : Result Site Stopping) (s : Stopping) (said : Site) (a b : ℕ) → result ≡ Err s → (result ≡ Ok said) ⊎ FailsToRead {T = Site} a b result → IsSiteRefusal s → ⊥
not_refused result s said a b is (inl same) refused = absurd cc
not_refused result s said a b is (inr (inl short)) refused = subst IsSiteRefusal (same_err result s (Ended ending.OutOfMemory) is short) refused
not_refused result s said a b is (inr (inr failed)) refused = subst IsSiteRefusal (same_err result s (Ended ending.SourceFault) is failed.0) refused

pub fails_made : (result : Result Site Stopping) (s : Stopping) (said : Site) (a b : ℕ) → result ≡ Err s → (result ≡ Ok said) ⊎ FailsToRead {T = Site} a b result → IsMadeOrFails s
fails_made result s said a b is (inl same) = absurd cc
fails_made result s said a b is (inr (inl short)) = subst IsMadeOrFails (sym (same_err result s (Ended ending.OutOfMemory) is short)) (inr (inl refl))
fails_made result s said a b is (inr (inr failed)) = subst IsMadeOrFails (sym (same_err result s (Ended ending.SourceFault) is failed.0)) (inr (inr (inl refl)))
