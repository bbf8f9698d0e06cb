use Rattle.std.proofs.Common.{refl}
use Rattle.rep_core.proofs.Standing.{Stands-own}
use Rattle.rep_print.proofs.FileLemmas.{no_employer, employer_form, IsLastEmployer-numbered, IsAskedHead-of}
use Rattle.rep_print.proofs.afd.head_of.Goals as goal

pub unreachable-requires : goal.unreachable-requires
unreachable-requires c =
    let stands = Stands-own c.args.core.now in
    no_employer c.args.core.now.entries (c.in_default.ensures c.args.core.now.entries stands)
    (c.requires.employer c.args.core.now.entries stands)

pub unreachable-requires-in_default-body : goal.unreachable-requires-in_default-body
unreachable-requires-in_default-body c =
    let h = c.args.core.now.entries in
    let stands = Stands-own c.args.core.now in
    let found = c.in-Some.ensures h stands in
    let last = IsLastEmployer-numbered h c.in-Some.nsr found.0 c.entry-entry.result.now found.1 (c.entry-entry.ensures.numbered h stands) in
    employer_form c.entry-entry.result.now.body last.employer c.in_default-body.not-Employer

pub returns-clause-head : goal.returns-clause-head
returns-clause-head c h zone minute stands made =
    let found = c.in-Some.ensures h stands in
    let last = IsLastEmployer-numbered h c.in-Some.nsr found.0 c.entry-entry.result.now found.1 (c.entry-entry.ensures.numbered h stands) in
    IsAskedHead-of zone h c.args.first c.args.last minute c.in-Some.nsr c.entry-entry.result.now _ last c.in-Employer.is refl refl refl refl refl refl made refl refl c.empty.ensures
