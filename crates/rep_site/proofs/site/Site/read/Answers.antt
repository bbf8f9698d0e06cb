use Rattle.std.proofs.Common.{Ok, Err, inl, ap, subst}
use Rattle.toml.specs.View.{table_view}
use Rattle.rep_site.specs.Reading.{IsFirstBadKey}
use Rattle.rep_site.proofs.SiteLemmas.{site_in_range, IsSiteText-unique, no_key_off, same_key_named, IsOffAt-unique, refused_at}
use Rattle.rep_site.proofs.site.Site.read.Goals as goal

pub returns-in-Err-NotToml-clause-found : goal.returns-in-Err-NotToml-clause-found
returns-in-Err-NotToml-clause-found c = λ site is.
    absurd (c.in-Err-NotToml.ensures.not_toml (ap Err c.in-Err-NotToml.field-0-is) is.members is.toml)

pub returns-in-Ok-site_of-clause-in_range : goal.returns-in-Ok-site_of-clause-in_range
returns-in-Ok-site_of-clause-in_range c =
    site_in_range (table_view c.in-Ok.table) c.in-Ok-site_of.site c.in-Ok-site_of.ensures.ok

pub returns-in-Ok-site_of-clause-found : goal.returns-in-Ok-site_of-clause-found
returns-in-Ok-site_of-clause-found c = λ site is.
    inl (ap Ok (IsSiteText-unique c.args.text.now c.in-Ok-site_of.site site
    (record { members = table_view c.in-Ok.table; toml = c.in-Ok.ensures.ok; said = c.in-Ok-site_of.ensures.ok }) is))

pub returns-clause-first_bad_key : goal.returns-clause-first_bad_key
returns-clause-first_bad_key c = λ key same. record {
  members = table_view c.in-Ok.table;
  toml = c.in-Ok.ensures.ok;
  first = subst (IsFirstBadKey (table_view c.in-Ok.table)) (same_key_named c.in-Err.name key same) c.in-Err.ensures.off;
}

pub returns-clause-found : goal.returns-clause-found
returns-clause-found c = λ site is.
    absurd (no_key_off c.args.text.now site c.in-Err.name is
    (record { members = table_view c.in-Ok.table; toml = c.in-Ok.ensures.ok; first = c.in-Err.ensures.off }))

pub returns-in-Ok-site_of-clause-no_toml : goal.returns-in-Ok-site_of-clause-no_toml
returns-in-Ok-site_of-clause-no_toml c = λ none. absurd (none (table_view c.in-Ok.table) c.in-Ok.ensures.ok)

pub returns-clause-no_toml : goal.returns-clause-no_toml
returns-clause-no_toml c = λ none. absurd (none (table_view c.in-Ok.table) c.in-Ok.ensures.ok)

pub returns-in-Err-NotToml-clause-refused : goal.returns-in-Err-NotToml-clause-refused
returns-in-Err-NotToml-clause-refused c = λ key off.
    absurd (c.in-Err-NotToml.ensures.not_toml (ap Err c.in-Err-NotToml.field-0-is) off.members off.toml)

pub returns-in-Ok-site_of-clause-refused : goal.returns-in-Ok-site_of-clause-refused
returns-in-Ok-site_of-clause-refused c = λ key off.
    absurd (no_key_off c.args.text.now c.in-Ok-site_of.site key
    (record { members = table_view c.in-Ok.table; toml = c.in-Ok.ensures.ok; said = c.in-Ok-site_of.ensures.ok }) off)

pub returns-clause-refused : goal.returns-clause-refused
returns-clause-refused c = λ key off.
    inl (ap refused_at (IsOffAt-unique c.args.text.now c.in-Err.name key
    (record { members = table_view c.in-Ok.table; toml = c.in-Ok.ensures.ok; first = c.in-Err.ensures.off }) off))
