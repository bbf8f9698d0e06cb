use Rattle.tr_days.proofs.MarkLemmas.{drop_is}
use Rattle.tr_days.proofs.listing.dropped.Goals as goal

pub returns : goal.returns
returns c =
    drop_is c.args.plan.now.disregards c.args.nsr c.place_of.result c.requires.nsrs_differ c.place_of.ensures.found c.place_of.ensures.none
