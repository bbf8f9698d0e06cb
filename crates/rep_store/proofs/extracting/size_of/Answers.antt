use Rattle.std.proofs.Common.{◌≡◌, ◌∙◌, ℕ, List, length, Option, Some, None, ap, subst, sym, arith, refl}
use Rattle.std.specs.List.{flat_map}
use Rattle.afd_records.specs.File.{ended}
use Rattle.rep_core.specs.Chained.{history_lines}
use Rattle.rep_core.proofs.Standing.{Stands-own, entries_of}
use Rattle.afd_extract.specs.Period.{IsPeriod, Range, in_range}
use Rattle.rep_store.proofs.Dates.{length-days_of}
use Rattle.rep_store.proofs.Sizes.{length-afd, range_within}
use Rattle.rep_store.proofs.extracting.size_of.Goals as goal

pub bytes_of-requires-clause-range : goal.bytes_of-requires-clause-range
bytes_of-requires-clause-range c = λ h stands.
    let entries = c.args.core.now.entries in
    let within = range_within c.list.result.now c.args.from c.args.to c.in-Some.first c.in-Some.last c.in-Some.ensures in
    let many : length c.list.result.now ≡ length h =
    ap length (c.list.ensures ∙ c.requires.days.same) ∙ length-days_of entries ∙ ap length (entries_of c.args.core.now h stands) in
    (within.0, within.1, omega (arith, within.2, many))

pub returns-in-Some : goal.returns-in-Some
returns-in-Some c = λ site minute text is_site founded afd.
    let entries = c.args.core.now.entries in
    let range : Range = Some (c.in-Some.first, c.in-Some.last) in
    let period = subst (λ (xs : List ℕ). IsPeriod xs c.args.from c.args.to range) (c.list.ensures ∙ c.requires.days.same) c.in-Some.ensures in
    let size = length-afd site entries c.args.from c.args.to minute range text is_site founded period afd in
    let bytes = c.bytes_of.ensures.bytes entries (Stands-own c.args.core.now) in
    omega (arith, size, bytes)

pub returns-in-None : goal.returns-in-None
returns-in-None c = λ site minute text is_site founded afd.
    let entries = c.args.core.now.entries in
    let range : Range = None in
    let period = subst (λ (xs : List ℕ). IsPeriod xs c.args.from c.args.to range) (c.list.ensures ∙ c.requires.days.same) c.in-None.ensures in
    let size = length-afd site entries c.args.from c.args.to minute range text is_site founded period afd in
    let none : length (flat_map ended (in_range range (history_lines entries))) ≡ 0 = refl in
    omega (arith, size, none)
