use Rattle.std.proofs.Common.{◌≡◌, map, rules}
use Rattle.tr_bank.specs.declared.listing.Dated.{Dated}
use Rattle.tr_bank.proofs.OrderLemmas.{AreAbsencesOf-from_sorted, places_within}
use Rattle.tr_bank.proofs.listing.absences.Goals as goal

pub returns-clause-listed : goal.returns-clause-listed
returns-clause-listed c =
    let places : c.in_ok-places.places.items ≡ map (λ (one : Dated). one.place) c.sort_unstable.new.self.items = search rules in
    AreAbsencesOf-from_sorted c.args.plan.now c.args.link c.args.from c.args.to c.in_ok-dated.dated.items c.sort_unstable.new.self.items
    c.in_ok-places.places.items c.in_ok-dated.ensures c.sort_unstable.ensures.permutation c.sort_unstable.ensures.sorted places

pub returns-clause-within : goal.returns-clause-within
returns-clause-within c =
    let places : c.in_ok-places.places.items ≡ map (λ (one : Dated). one.place) c.sort_unstable.new.self.items = search rules in
    places_within c.args.plan.now c.args.link c.args.from c.args.to c.in_ok-places.places.items
    (AreAbsencesOf-from_sorted c.args.plan.now c.args.link c.args.from c.args.to c.in_ok-dated.dated.items c.sort_unstable.new.self.items
    c.in_ok-places.places.items c.in_ok-dated.ensures c.sort_unstable.ensures.permutation c.sort_unstable.ensures.sorted places)
