use Rattle.std.proofs.Common.{◌≡◌, ℕ, ◌+◌, ◌<◌, length, slice_index, decimal}
use Rattle.aej_records.specs.Fields.{field_at}
use Rattle.aej_records.specs.Line.{IsCount}
use Rattle.aej_records.proofs.reading.read_counts.Given as goal

abbrev pub invariant-loop-place : goal.invariant-loop-place
invariant-loop-place l =
    (length l.counts ≡ 8)
    × ((k : ℕ) → k < l.place → IsCount (slice_index l.counts k))
    × ((k : ℕ) → k < l.place → field_at (2 + k) l.fields ≡ decimal (slice_index l.counts k))
