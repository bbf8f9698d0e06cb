use Rattle.rep_query.proofs.Finds.{looks_same, safe_looked}
use Rattle.rep_query.proofs.finding.find.Goals as goal

pub returns-then-nsr-count-clause-safe : goal.returns-then-nsr-count-clause-safe
returns-then-nsr-count-clause-safe g c = safe_looked g.D.Disk.shown c.args.store.now c.args.store.now c.count.ensures.sound c.requires.running (looks_same g.D.Disk.shown c.args.store.now)

pub returns-clause-safe : goal.returns-clause-safe
returns-clause-safe g c = safe_looked g.D.Disk.shown c.args.store.now c.found_at.new.store c.count.ensures.sound c.requires.running c.found_at.ensures.looks
