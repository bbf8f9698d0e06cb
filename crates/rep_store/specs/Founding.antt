-- The request that founds the journal of a site: this project's own.
use Rattle.rep_wire.specs.declared.request.Ask.TheVariants.{Employer}
use Rattle.rep_wire.specs.declared.request.Request.{Request}
use Rattle.rep_site.specs.declared.site.Site.{Site}

-- the site's employer, under the origin 0 and the number 0, which no lane has
abbrev pub founding_request : Site → Request
founding_request site = record {
  origin = 0;
  seq = 0;
  ask = Employer site.responsible site.employer site.cno site.name site.place;
}
