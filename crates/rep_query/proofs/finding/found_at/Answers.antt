use Rattle.std.proofs.Common.{◌≡◌, ◌∙◌, ℕ, List, Some, ap, subst, rules}
use Rattle.rep_wire.specs.declared.request.Entry.{Entry}
use Rattle.rep_core.specs.History.{IsEmployer}
use Rattle.rep_site.specs.declared.site.Site.{Site}
use Rattle.rep_receipt.specs.Receipt.{receipt_text}
use Rattle.rep_query.specs.Receipt.{IsLastBefore, IsWorkerOf, name_in}
use Rattle.rep_query.proofs.Finds.{employer_why, looks_on, named_last, receipt_of_parts, worker_why}
use Rattle.rep_query.proofs.finding.found_at.Goals as goal

pub returns-in-Err-clause-none : goal.returns-in-Err-clause-none
returns-in-Err-clause-none g c =
    employer_why g.D.Disk.shown c.args.store.now c.filed_at.new.store c.last_employer.new.store c.args.nsr c.in-Some-worker_of.cpf c.in-Ok.filed.entry c.in-Err.why
    c.filed_at.ensures.looks c.requires.founded c.in-Ok.ensures.filed.numbered c.in-Some-worker_of.ensures.found c.in-Err.ensures.lacks

pub returns-in-Err-last_name-clause-none : goal.returns-in-Err-last_name-clause-none
returns-in-Err-last_name-clause-none g c =
    worker_why g.D.Disk.shown c.args.store.now c.last_employer.new.store c.last_name.new.store c.args.nsr c.in-Some-worker_of.cpf c.in-Ok.filed.entry c.in-Err-last_name.why
    (looks_on g.D.Disk.shown c.args.store.now c.filed_at.new.store c.last_employer.new.store c.filed_at.ensures.looks c.last_employer.ensures.looks) c.requires.founded c.in-Ok.ensures.filed.numbered c.in-Some-worker_of.ensures.found c.in-Err-last_name.ensures.lacks

pub returns-in-Err-last_name-clause-looks : goal.returns-in-Err-last_name-clause-looks
returns-in-Err-last_name-clause-looks g c = looks_on g.D.Disk.shown c.args.store.now c.last_employer.new.store c.last_name.new.store (looks_on g.D.Disk.shown c.args.store.now c.filed_at.new.store c.last_employer.new.store c.filed_at.ensures.looks c.last_employer.ensures.looks) c.last_name.ensures.looks

pub receipt-requires-clause-employer : goal.receipt-requires-clause-employer
receipt-requires-clause-employer g c =
    named_last c.args.store.now.history c.args.nsr c.in-Ok-last_employer.employer c.requires.founded
    (subst (λ (h : List Entry). (e : Entry) × IsLastBefore IsEmployer h c.args.nsr e × (c.in-Ok-last_employer.employer ≡ e.body)) c.filed_at.ensures.looks.history c.in-Ok-last_employer.ensures.found)

pub returns-in-Ok-receipt-clause-found : goal.returns-in-Ok-receipt-clause-found
returns-in-Ok-receipt-clause-found g c =
    let hashed : c.in-Ok.filed.hash ≡ Some c.in-Some.hash = search rules in
    let looks = looks_on g.D.Disk.shown c.args.store.now c.filed_at.new.store c.last_employer.new.store c.filed_at.ensures.looks c.last_employer.ensures.looks in
    receipt_of_parts c.args.store.now.site c.args.store.now.history c.args.nsr c.in-Some-worker_of.cpf c.in-Ok.filed c.in-Some.hash c.in-Ok-last_employer.employer c.in-Ok-last_name.name c.in-Ok-receipt.text.items
    c.in-Ok.ensures.filed hashed c.in-Some-worker_of.ensures.found
    (subst (λ (h : List Entry). (e : Entry) × IsLastBefore IsEmployer h c.args.nsr e × (c.in-Ok-last_employer.employer ≡ e.body)) c.filed_at.ensures.looks.history c.in-Ok-last_employer.ensures.found)
    (subst (λ (h : List Entry). (e : Entry) × IsLastBefore (IsWorkerOf c.in-Some-worker_of.cpf) h c.args.nsr e × (c.in-Ok-last_name.name ≡ name_in e.body)) looks.history c.in-Ok-last_name.ensures.found)
    (c.in-Ok-receipt.ensures.text
    ∙ ap (λ (n : List ℕ). receipt_text c.in-Ok-last_employer.employer n c.in-Ok.filed.entry.body c.args.nsr c.args.site.now.rep c.in-Some.hash) c.bytes.ensures.value
    ∙ ap (λ (s : Site). receipt_text c.in-Ok-last_employer.employer c.in-Ok-last_name.name c.in-Ok.filed.entry.body c.args.nsr s.rep c.in-Some.hash) c.requires.site)

pub returns-in-Ok-receipt-clause-looks : goal.returns-in-Ok-receipt-clause-looks
returns-in-Ok-receipt-clause-looks g c = looks_on g.D.Disk.shown c.args.store.now c.last_employer.new.store c.last_name.new.store (looks_on g.D.Disk.shown c.args.store.now c.filed_at.new.store c.last_employer.new.store c.filed_at.ensures.looks c.last_employer.ensures.looks) c.last_name.ensures.looks

pub returns-in-Err-OutOfMemory-clause-looks : goal.returns-in-Err-OutOfMemory-clause-looks
returns-in-Err-OutOfMemory-clause-looks g c = looks_on g.D.Disk.shown c.args.store.now c.last_employer.new.store c.last_name.new.store (looks_on g.D.Disk.shown c.args.store.now c.filed_at.new.store c.last_employer.new.store c.filed_at.ensures.looks c.last_employer.ensures.looks) c.last_name.ensures.looks
