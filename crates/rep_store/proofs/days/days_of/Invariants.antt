use Rattle.std.proofs.Common.{◌≡◌, List, take}
use Rattle.rep_wire.specs.declared.request.Entry.{Entry}
use Rattle.rep_core.specs.Core.{Stands}
use Rattle.rep_core.specs.History.{days_of}
use Rattle.rep_store.proofs.days.days_of.Given as goal

abbrev pub invariant-loop-place : goal.invariant-loop-place
invariant-loop-place l = (h : List Entry) → Stands l.core h → l.list.days ≡ take l.place (days_of h)
