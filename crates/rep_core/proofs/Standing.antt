-- Which history the core stands for.
use Rattle.std.proofs.Common.{◌≡◌, List, refl, sym, ◌∙◌}
use Rattle.rep_wire.specs.declared.request.Entry.{Entry}
use Rattle.rep_core.specs.Core.{Kept, Stands}

-- a core stands for its own entries, and for nothing else
pub Stands-own : (kept : Kept) → Stands kept kept.entries
unfolding Stands
Stands-own kept = refl

pub entries_of : (kept : Kept) (h : List Entry) → Stands kept h → kept.entries ≡ h
unfolding Stands
entries_of kept h stands = stands

pub Stands-unique : (kept : Kept) (h other : List Entry) → Stands kept h → Stands kept other → h ≡ other
unfolding Stands
Stands-unique kept h other one two = sym one ∙ two

pub Stands-from : (kept : Kept) (h : List Entry) → kept.entries ≡ h → Stands kept h
unfolding Stands
Stands-from kept h is = is
