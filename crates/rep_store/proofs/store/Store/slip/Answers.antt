use Rattle.std.proofs.Common.{◌≡◌, ◌∙◌, ◌<◌, ℕ, None, length, inl, inr, refl, ap, sym, subst, arith, ◌⊎◌}
use Rattle.rep_wire.specs.declared.reply.Slip.{Slip}
use Rattle.rep_core.proofs.Standing.{Stands-own}
use Rattle.rep_store.specs.Filing.{IsFiled}
use Rattle.rep_store.specs.State.{State}
use Rattle.rep_store.specs.declared.filing.Filed.{Filed}
use Rattle.rep_store.proofs.store.Store.slip.Goals as goal
use Rattle.rep_store.proofs.store.Store.slip.Goals.{then-nsr-eq0-via-then-nsr-eq0, then-nsr-eq0-via-else-nsr-eq0+then-nsr-count}

pub returns-then-nsr-eq0-clause-none : goal.returns-then-nsr-eq0-clause-none
returns-then-nsr-eq0-clause-none g c =
    let core = c.self.inside.core in
    let runs = sym c.stopped.ensures ∙ c.in_default.is in
    let none : (c.args.nsr ≡ 0) ⊎ (length core.entries < c.args.nsr) = elim c.then-nsr-eq0.branch [
      | then-nsr-eq0-via-then-nsr-eq0 w ↦ inl w.if-nsr-eq0.true
      | then-nsr-eq0-via-else-nsr-eq0+then-nsr-count w ↦ inr (omega (arith, w.count.ensures.value core.entries (Stands-own core), w.if-nsr-count.true))
    ] in (
      λ same. subst (λ (s : State g.row.D.Denot g.row.C.Denot). (s.stopped ≡ None) × ((c.args.nsr ≡ 0) ⊎ (length s.history < c.args.nsr))) c.self.view_is (runs, none),
      λ so. refl,
    )

pub returns-clause-found : goal.returns-clause-found
returns-clause-found g c =
    let core = c.self.inside.core in
    let numbered = c.entry.ensures.numbered core.entries (Stands-own core) in
    let filed : Filed = record { entry = c.entry.result.now; hash = c.slip.result.hash } in
    subst (λ (s : State g.row.D.Denot g.row.C.Denot). IsFiled s.history c.args.nsr filed) c.self.view_is (record {
      numbered = numbered;
      hash = ap (λ (slip : Slip). slip.hash) (c.slip.ensures core.entries c.entry.result.now (Stands-own core) numbered);
    })

pub returns-clause-none : goal.returns-clause-none
returns-clause-none g c =
    let core = c.self.inside.core in
    let size = ap (λ (s : State g.row.D.Denot g.row.C.Denot). length s.history) c.self.view_is in (
      λ is. absurd cc,
      λ so. absurd (elim so.1 [
        | inl is ↦ c.if-nsr-eq0.false is
        | inr more ↦ omega (arith, size, more, c.count.ensures.value core.entries (Stands-own core), c.if-nsr-count.false)
      ]),
    )
