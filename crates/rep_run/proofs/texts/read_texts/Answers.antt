use Rattle.std.proofs.Common.{sym, subst}
use Rattle.rep_run.specs.declared.stopping.Stopping.{Stopping}
use Rattle.rep_run.specs.Steps.{StopsAtTexts}
use Rattle.rep_run.proofs.Known.{err_is}
use Rattle.rep_run.proofs.SettingsLemmas.{not_refused}
use Rattle.rep_run.proofs.TextLemmas.{stops_at_head}
use Rattle.rep_run.proofs.texts.read_texts.Goals as goal

pub returns-in-Err-clause-found : goal.returns-in-Err-clause-found
returns-in-Err-clause-found g c = λ text said told says refused.
    not_refused c.read_site.result c.in-Err.stopping said (g.S.Source.faults c.args.site.now) (g.S.Source.faults c.read_site.new.source) c.in-Err.is
    (c.read_site.ensures.found text said told says) refused

pub returns-in-Err-read_head-clause-stops : goal.returns-in-Err-read_head-clause-stops
returns-in-Err-read_head-clause-stops g c =
    let reads = c.in-Ok.ensures.reads in
    subst (λ (s : Stopping). StopsAtTexts g.S.Source.left g.S.Source.faults c.args.site.now c.read_site.new.source c.args.lines.now c.read_head.new.lines s)
    (sym c.head_stopping.ensures)
    (stops_at_head g.S.Source.left g.S.Source.faults c.args.site.now c.read_site.new.source c.args.lines.now c.read_head.new.lines c.in-Ok.settings
    (record { in_range = reads.0; said = reads.1 }) c.in-Err-read_head.why c.in-Err-read_head.ensures.heads
    (λ is. c.read_head.ensures.source_fault (err_is c.in-Err-read_head.is is)))
