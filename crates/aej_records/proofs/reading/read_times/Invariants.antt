use Rattle.std.proofs.Common.{◌≡◌, ℕ, ◌+◌, ◌<◌, length, slice_index}
use Rattle.rep_fields.specs.Moment.{IsMinuteOfDay, hours_text}
use Rattle.aej_records.specs.Fields.{field_at}
use Rattle.aej_records.proofs.reading.read_times.Given as goal

abbrev pub invariant-loop-place : goal.invariant-loop-place
invariant-loop-place l =
    (length l.minutes ≡ 20)
    × ((k : ℕ) → k < l.place → IsMinuteOfDay (slice_index l.minutes k))
    × ((k : ℕ) → k < l.place → field_at (4 + k) l.fields ≡ hours_text (slice_index l.minutes k))
