use Rattle.std.proofs.Common.{inl, inr, Err, Ok, sym, ap, subst, ◌∙◌}
use Rattle.rep_site.specs.declared.site.Site.{Site}
use Rattle.toml_fields.specs.Table.{IsNoToml}
use Rattle.rep_site.specs.Reading.{IsOffAt}
use Rattle.rep_report.specs.declared.ending.Ending.{Ending}
use Rattle.rep_run.specs.declared.stopping.Stopping.{Stopping}
use Rattle.rep_run.specs.declared.stopping.Stopping.TheVariants.{Ended}
use Rattle.rep_run.specs.Settings.{ReadsSite, EndsReading}
use Rattle.rep_run.specs.Steps.{FailsToRead, site_stopping}
use Rattle.rep_run.proofs.Known.{err_is, whole_text}
use Rattle.rep_run.proofs.SettingsLemmas.{ends_reading, fails_reading, refuses_site, found_site, read_ok, read_err, memory_fails}
use Rattle.rep_run.proofs.settings.read_site.Goals as goal

pub returns-in-Err-clause-reads : goal.returns-in-Err-clause-reads
returns-in-Err-clause-reads g c =
    subst (λ (e : Ending). EndsReading g.S.Source.left g.S.Source.faults c.args.source.now c.read_whole.new.source e) (sym c.reading_ending.ensures)
    (ends_reading g.S.Source.left g.S.Source.faults c.args.source.now c.read_whole.new.source c.in-Err.fault
    (λ same. c.read_whole.ensures.limit (err_is c.in-Err.is same)) (λ same. c.read_whole.ensures.source_fault (err_is c.in-Err.is same)))

pub returns-in-Err-clause-found : goal.returns-in-Err-clause-found
returns-in-Err-clause-found g c = λ text site told said.
    inr (subst (λ (e : Ending). FailsToRead {T = Site} (g.S.Source.faults c.args.source.now) (g.S.Source.faults c.read_whole.new.source) (Err (Ended e))) (sym c.reading_ending.ensures)
    (fails_reading g.S.Source.left g.S.Source.faults c.args.source.now c.read_whole.new.source c.in-Err.fault
    (λ same. c.read_whole.ensures.limit (err_is c.in-Err.is same)) (λ same. c.read_whole.ensures.source_fault (err_is c.in-Err.is same)) text site told said))

pub returns-in-Ok-read-clause-found : goal.returns-in-Ok-read-clause-found
returns-in-Ok-read-clause-found g c = λ text site told said.
    let whole = c.in-Ok.ensures.whole in
    let same = c.deref.ensures.value ∙ whole_text c.in-Ok.text.items text (g.S.Source.left c.args.source.now) (g.S.Source.left c.read_whole.new.source) whole.all whole.at_end told in
    inl (ap Ok (read_ok c.read.result c.in-Ok-read.site site c.in-Ok-read.is (found_site c.deref.result.now text site c.read.result same said c.read.ensures.found)))

pub returns-clause-reads : goal.returns-clause-reads
returns-clause-reads g c =
    let same = c.deref.ensures.value in
    subst (λ (s : Stopping). ReadsSite g.S.Source.left g.S.Source.faults c.args.source.now c.read_whole.new.source (Err s)) (sym c.site_stopping.ensures)
    (refuses_site g.S.Source.left g.S.Source.faults c.args.source.now c.read_whole.new.source c.in-Ok.text.items c.in-Err-read.fault c.in-Ok.ensures.whole
    (λ is. subst IsNoToml same (c.read.ensures.not_toml (err_is c.in-Err-read.is is)))
    (λ key is. subst (λ (t : _). IsOffAt t key) same (c.read.ensures.first_bad_key key (err_is c.in-Err-read.is is))))

pub returns-clause-found : goal.returns-clause-found
returns-clause-found g c = λ text site told said.
    let whole = c.in-Ok.ensures.whole in
    let same = c.deref.ensures.value ∙ whole_text c.in-Ok.text.items text (g.S.Source.left c.args.source.now) (g.S.Source.left c.read_whole.new.source) whole.all whole.at_end told in
    let why = read_err c.read.result c.in-Err-read.fault site c.in-Err-read.is (found_site c.deref.result.now text site c.read.result same said c.read.ensures.found) in
    inr (memory_fails (g.S.Source.faults c.args.source.now) (g.S.Source.faults c.read_whole.new.source) c.site_stopping.result (c.site_stopping.ensures ∙ ap site_stopping why))
