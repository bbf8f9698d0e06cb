use Rattle.std.proofs.Common.{List, All, inl, inr, refl, sym, ap, subst, arith, length}
use Rattle.std.specs.Prelude.{AllPairs, IfSome, IfNone}
use Rattle.toml.specs.View.{table_view}
use Rattle.tr_plan.specs.Schedule.{HasSchedules}
use Rattle.tr_plan.specs.Link.{HasLinks, BeginsFirst, AreApart}
use Rattle.tr_plan.specs.Disregard.{HasDisregards}
use Rattle.tr_plan.specs.Include.{HasIncludes}
use Rattle.tr_plan.specs.Absence.{HasAbsences}
use Rattle.tr_plan.specs.Plan.{HasKnownCode}
use Rattle.tr_plan.specs.Reading.{IsFirstUnknownCode, IsFirstOverlap}
use Rattle.tr_plan.specs.declared.link.Link.{Link}
use Rattle.tr_plan.specs.declared.schedule.Schedule.{Schedule}
use Rattle.tr_plan.proofs.RangeLemmas.{links_begin_first}
use Rattle.tr_plan.proofs.plan.plan_of.Goals as goal

pub unknown_code-requires : goal.unknown_code-requires
unknown_code-requires c = record { few = omega (arith, ap length c.deref.ensures.value, c.in_ok-links.ensures.few) }

pub overlap-requires : goal.overlap-requires
overlap-requires c = record {
  in_order = subst (All BeginsFirst) (sym c.deref-2.ensures.value)
      (links_begin_first (table_view c.args.table.now) c.in_ok-links.links.links.items c.in_ok-links.ensures.ok);
}

pub returns-in-Some-clause-off : goal.returns-in-Some-clause-off
returns-in-Some-clause-off c =
    let schedules = c.in_ok-schedules.schedules.schedules.items in
    let links = c.in_ok-links.links.links.items in
    let only = c.has_only.ensures.0 c.if-not-has_only.false in
    let first = subst (λ (ls : List Link). IsFirstUnknownCode schedules ls c.in-Some.place) c.deref.ensures.value
    (c.in-Some.ensures.found schedules c.in_ok-schedules.ensures.codes) in
    inr (inr (
      (c.in-Ok.program, c.in-Ok.ensures.ok),
      inr (
        (schedules, c.in_ok-schedules.ensures.ok),
        inr (
          (links, c.in_ok-links.ensures.ok),
          inr (
            (c.in_ok-disregards.disregards.disregards.items, c.in_ok-disregards.ensures.ok),
            inr (
              (links, c.in_ok-includes.includes.items, c.in_ok-links.ensures.ok, c.in_ok-includes.ensures.ok),
              inr (
                (links, c.in_ok-absences.absences.items, c.in_ok-links.ensures.ok, c.in_ok-absences.ensures.ok),
                inr (only, inl (schedules, links, c.in-Some.place, c.in_ok-schedules.ensures.ok, c.in_ok-links.ensures.ok, first, refl)),
              ),
            ),
          ),
        ),
      ),
    ))

pub returns-in-Some-met-clause-off : goal.returns-in-Some-met-clause-off
returns-in-Some-met-clause-off c =
    let schedules = c.in_ok-schedules.schedules.schedules.items in
    let links = c.in_ok-links.links.links.items in
    let only = c.has_only.ensures.0 c.if-not-has_only.false in
    let known = subst (All (HasKnownCode schedules)) c.deref.ensures.value (c.in_default.ensures.none schedules c.in_ok-schedules.ensures.codes) in
    let first = subst (λ (ls : List Link). IsFirstOverlap ls c.in-Some-met.cpf) c.deref-2.ensures.value
    (subst (λ met. IfSome met (IsFirstOverlap c.deref-2.result.now)) c.in-Some-met.is c.in-Ok-overlap.ensures.found) in
    inr (inr (
      (c.in-Ok.program, c.in-Ok.ensures.ok),
      inr (
        (schedules, c.in_ok-schedules.ensures.ok),
        inr (
          (links, c.in_ok-links.ensures.ok),
          inr (
            (c.in_ok-disregards.disregards.disregards.items, c.in_ok-disregards.ensures.ok),
            inr (
              (links, c.in_ok-includes.includes.items, c.in_ok-links.ensures.ok, c.in_ok-includes.ensures.ok),
              inr (
                (links, c.in_ok-absences.absences.items, c.in_ok-links.ensures.ok, c.in_ok-absences.ensures.ok),
                inr (
                  only,
                  inr (
                    (schedules, links, c.in_ok-schedules.ensures.ok, c.in_ok-links.ensures.ok, known),
                    inl (links, c.in-Some-met.cpf, c.in_ok-links.ensures.ok, first, refl),
                  ),
                ),
              ),
            ),
          ),
        ),
      ),
    ))

pub returns-clause-ok : goal.returns-clause-ok
returns-clause-ok c =
    let ms = table_view c.args.table.now in
    let schedules = c.in_ok-schedules.schedules.schedules.items in
    let links = c.in_ok-links.links.links.items in
    let same_schedules = sym c.in_ok-rows_of.ensures.ok in
    let same_links = sym c.in_ok-links_from.ensures.ok in
    let known = subst (All (HasKnownCode schedules)) c.deref.ensures.value (c.in_default.ensures.none schedules c.in_ok-schedules.ensures.codes) in
    let apart = subst (AllPairs AreApart) c.deref-2.ensures.value
    (subst (λ met. IfNone met (AllPairs AreApart c.deref-2.result.now)) c.in_default-met.is c.in-Ok-overlap.ensures.none) in
    record {
      program = c.in-Ok.ensures.ok;
      schedules = subst (HasSchedules ms) same_schedules c.in_ok-schedules.ensures.ok;
      links = subst (HasLinks ms) same_links c.in_ok-links.ensures.ok;
      disregards = subst (HasDisregards ms) (sym c.in_ok-disregards_from.ensures.ok) c.in_ok-disregards.ensures.ok;
      includes = subst (λ (ls : List Link). HasIncludes ls ms c.in_ok-rows_of-2.field-0) same_links
          (subst (HasIncludes links ms) (sym c.in_ok-rows_of-2.ensures.ok) c.in_ok-includes.ensures.ok);
      absences = subst (λ (ls : List Link). HasAbsences ls ms c.in_ok-rows_of-3.field-0) same_links
          (subst (HasAbsences links ms) (sym c.in_ok-rows_of-3.ensures.ok) c.in_ok-absences.ensures.ok);
      known = c.has_only.ensures.0 c.if-not-has_only.false;
      known_codes = subst (λ (ss : List Schedule). All (HasKnownCode ss) c.in_ok-links_from.field-0) same_schedules
          (subst (All (HasKnownCode schedules)) same_links known);
      apart = subst (AllPairs AreApart) same_links apart;
    }

pub links_from-requires : goal.links_from-requires
links_from-requires c = record {
  in_order = links_begin_first (table_view c.args.table.now) c.in_ok-links.links.links.items c.in_ok-links.ensures.ok;
  apart = subst (AllPairs AreApart) c.deref-2.ensures.value
      (subst (λ met. IfNone met (AllPairs AreApart c.deref-2.result.now)) c.in_default-met.is c.in-Ok-overlap.ensures.none);
}
