use Rattle.std.proofs.Common.{rules}
use Rattle.std.proofs.lemmas.List.Sorted.{answers_always}
use Rattle.rep_fields.specs.Moment.{instant_of}
use Rattle.tr_days.specs.Journey.{JourneyMark}
use Rattle.tr_days.specs.Marks.{kind_of, number_of}
use Rattle.tr_days.proofs.MarkLemmas.{in_order_from, ties_from}
use Rattle.tr_days.proofs.listing.put_in_order.Goals as goal

pub returns-clause-in_order : goal.returns-clause-in_order
returns-clause-in_order c =
    in_order_from c.sort_by_key.new.self.items
    (c.in_ok-sort_by_key.ensures.sorted (λ (m : JourneyMark). (m.day, instant_of m.at, kind_of m.from, number_of m.from))
    (answers_always _ _ _ (λ f a r g h. search rules)))

pub returns-clause-ties : goal.returns-clause-ties
returns-clause-ties c =
    ties_from c.args.marks.now.items c.sort_by_key.new.self.items
    (c.sort_by_key.ensures.stable (λ (m : JourneyMark). (m.day, instant_of m.at, kind_of m.from, number_of m.from))
    (answers_always _ _ _ (λ f a r g h. search rules)))
