use Rattle.std.proofs.Common.{◌≡◌, ◌≤◌, ◌++◌, ◌-◌, length, take}
use Rattle.rep_fields.specs.Latin.{spaces}
use Rattle.rep_fields.proofs.latin.trimmed.Given as goal

-- only spaces stand from here on
abbrev pub invariant-loop-len : goal.invariant-loop-len
invariant-loop-len l =
    (l.len ≤ length l.bytes) × (l.bytes ≡ take l.len l.bytes ++ spaces (length l.bytes - l.len))

abbrev pub decreases-loop-len : goal.decreases-loop-len
decreases-loop-len l = l.len
