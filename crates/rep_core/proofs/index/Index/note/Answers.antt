use Rattle.rep_core.proofs.Indexes.{IsIndexOf-push}
use Rattle.rep_core.proofs.index.Index.note.Goals as goal

pub returns-clause-noted : goal.returns-clause-noted
returns-clause-noted c = λ h is fresh number.
    IsIndexOf-push h c.args.entry.now c.args.nsr c.args.self.now
    (record { origins = c.set.new.self; workers = c.note_worker.new.workers; employer = c.employer_after-self.result })
    is fresh number c.set.ensures c.note_worker.ensures.noted c.note_worker.ensures.kept c.employer_after-self.ensures
