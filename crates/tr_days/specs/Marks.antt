-- The marks of a link: the clockings of an AFD that it covers, and what the plan includes for it. This project's own
-- rules for the lines of type 05 of an AEJ (Portaria MTP 671/2021, annex VI).
use Rattle.std.specs.Prelude.{◌≡◌, ℕ, Bool, false, ◌&&◌, ◌==◌, nat_le, if◌then◌else◌, List, ◌++◌, Option, Some, None, slice_get, position, filter, filter_map, IsPermutation, IsSorted}
use Rattle.std.specs.List.{enumerate_from}
use Rattle.std.specs.List.Sorted.{IsStable}
use Rattle.std.specs.Ordering.{nat_cmp, int_cmp, ordering_then}
use Rattle.std.specs.declared.cmp.Ordering.{Ordering}
use Rattle.rep_fields.specs.Moment.{instant_of}
use Rattle.tr_plan.specs.Link.{journey_day}
use Rattle.tr_plan.specs.declared.disregard.Disregard.{Disregard}
use Rattle.tr_plan.specs.declared.include.Include.{Include}
use Rattle.tr_plan.specs.declared.link.Link.{Link}
use Rattle.tr_plan.specs.declared.plan.Plan.{Plan}
use Rattle.tr_days.specs.Cover.{cover_of}
use Rattle.tr_days.specs.Journey.{JourneyMark}
use Rattle.tr_days.specs.Originals.{AreOriginals}
use Rattle.tr_days.specs.declared.clocking.Clocking.{Clocking}
use Rattle.tr_days.specs.declared.root.Root.{Root}
use Rattle.tr_days.specs.declared.root.Root.TheVariants.{Original, Included}

-- the place of the disregard that names the number of a clocking
abbrev pub drop_of : List Disregard → ℕ → Option ℕ
drop_of disregards nsr = position (λ disregard. disregard.nsr == nsr) disregards

-- that place was found
abbrev pub is_at : ℕ → Option ℕ → Bool
is_at place None = false
is_at place (Some found) = found == place

-- a clocking as a mark of the link at the place, where that is its covering link
abbrev pub original_mark : Plan → ℕ → Link → Clocking → Option JourneyMark
original_mark plan place link clocking =
    if is_at place (cover_of plan.links clocking.cpf clocking.at) then Some (record {
      at = clocking.at;
      day = journey_day link clocking.at;
      from = Original clocking.nsr (drop_of plan.disregards clocking.nsr);
    }) else None

-- an inclusion at its place as a mark of the link, where it names the link
abbrev pub included_mark : Link → ℕ × Include → Option JourneyMark
included_mark link row =
    if row.1.link == link.id then Some (record {
      at = row.1.at;
      day = journey_day link row.1.at;
      from = Included row.0;
    }) else None

-- the journey day lies in the period
abbrev pub is_in_period : ℕ → ℕ → JourneyMark → Bool
is_in_period from to mark = nat_le from mark.day && nat_le mark.day to

-- the marks of the link at the place in the period, in no order yet: those of clockings, and then those included
abbrev pub gathered : Plan → ℕ → Link → ℕ → ℕ → List Clocking → List JourneyMark
gathered plan place link from to clockings =
    filter (is_in_period from to)
    (filter_map (original_mark plan place link) clockings ++ filter_map (included_mark link) (enumerate_from 0 plan.includes))

-- originals stand before included marks, and each kind by its number: the NSR, or the place in the plan
abbrev pub kind_of : Root → ℕ
kind_of (Original nsr dropped) = 0
kind_of (Included place) = 1

abbrev pub number_of : Root → ℕ
number_of (Original nsr dropped) = nsr
number_of (Included place) = place

-- marks stand by journey day, then by instant, and then by where they come from
abbrev pub mark_cmp : JourneyMark → JourneyMark → Ordering
mark_cmp a b =
    ordering_then (nat_cmp a.day b.day)
    (ordering_then (int_cmp (instant_of a.at) (instant_of b.at))
    (ordering_then (nat_cmp (kind_of a.from) (kind_of b.from)) (nat_cmp (number_of a.from) (number_of b.from))))

-- the marks of the link at the place in the period, in their order
pub record AreMarksOf (text : List ℕ) (plan : Plan) (place from to : ℕ) (marks : List JourneyMark) : Type 0 where
  pub link : Link
  pub there : slice_get plan.links place ≡ Some link
  pub clockings : List Clocking
  pub originals : AreOriginals text clockings
  pub same : IsPermutation (gathered plan place link from to clockings) marks
  pub in_order : IsSorted mark_cmp marks
  -- clockings of one number and instant, which only a faulty file has, stand as in the file
  pub ties : IsStable mark_cmp (gathered plan place link from to clockings) marks
