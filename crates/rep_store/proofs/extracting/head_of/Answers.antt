use Rattle.std.proofs.Common.{ℕ, ◌-◌, List, refl, sym, subst}
use Rattle.std.specs.Prelude.{All}
use Rattle.rep_fields.specs.Digits.{IsDigitByte}
use Rattle.afd_records.specs.Record.{HasText}
use Rattle.afd_records.specs.declared.header.Head.{Head}
use Rattle.afd_records.specs.declared.record.Body.{Body}
use Rattle.rep_core.proofs.Standing.{Stands-own}
use Rattle.rep_store.specs.Extracting.{NamesEmployer}
use Rattle.rep_store.proofs.Employers.{IsLastEmployer-numbered, employer_form, founded_employer, id_digits, kind_of}
use Rattle.rep_store.proofs.extracting.head_of.Goals as goal

pub unreachable-requires : goal.unreachable-requires
unreachable-requires c =
    let h = c.args.core.now.entries in
    let stands = Stands-own c.args.core.now in
    founded_employer h (c.requires.founded h stands) (c.in_default.ensures h stands)

pub unreachable-requires-in_default-body : goal.unreachable-requires-in_default-body
unreachable-requires-in_default-body c =
    let h = c.args.core.now.entries in
    let stands = Stands-own c.args.core.now in
    let found = c.in-Some.ensures h stands in
    let last = IsLastEmployer-numbered h c.in-Some.nsr found.0 c.entry-entry.result.now found.1 (c.entry-entry.ensures.numbered h stands) in
    employer_form c.entry-entry.result.now.body last.employer c.in_default-body.not-Employer

pub returns-clause-head : goal.returns-clause-head
returns-clause-head c = λ h minute stands made.
    let found = c.in-Some.ensures h stands in
    let last = IsLastEmployer-numbered h c.in-Some.nsr found.0 c.entry-entry.result.now found.1 (c.entry-entry.ensures.numbered h stands) in
    let head : Head = record {
      id = c.in-Employer.id;
      cno = c.in-Employer.cno;
      name = c.in-Employer.name;
      rep = c.args.site.now.rep;
      first = c.args.from;
      last = c.args.to;
      made = c.args.made;
      dev_kind = c.kind.result - 48;
      dev = c.write.result;
      model = c.empty.result;
    } in
    record {
      employer = (c.in-Some.nsr, c.entry-entry.result.now, last, subst (λ (b : Body). NamesEmployer head b) (sym c.in-Employer.is) (refl, refl, refl));
      rep = refl;
      first = refl;
      last = refl;
      made = made;
      dev_kind = (kind_of c.args.site.now.developer c.kind.result c.kind.ensures).0;
      dev = c.write.ensures;
      model = c.empty.ensures;
    }

pub returns-clause-text : goal.returns-clause-text
returns-clause-text c =
    let text = subst HasText c.in-Employer.is c.entry-entry.ensures.text in
    record {
      id = text.0;
      cno = text.1;
      dev_kind = (kind_of c.args.site.now.developer c.kind.result c.kind.ensures).1;
      dev = subst (λ (digits : List ℕ). All IsDigitByte digits) (sym c.write.ensures) (id_digits c.args.site.now.developer);
    }
