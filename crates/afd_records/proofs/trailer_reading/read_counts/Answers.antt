use Rattle.std.proofs.Common.{arith}
use Rattle.afd_records.proofs.TrailerParts.{trailer_line, trailer_from_fields, six_counts}
use Rattle.afd_records.proofs.trailer_reading.read_counts.Goals as goal
use Rattle.afd_records.proofs.trailer_reading.read_counts.Goals.{then-line-ne-TRAILER_LEN-via-then-line-ne-TRAILER_LEN, then-line-ne-TRAILER_LEN-via-else-line-ne-TRAILER_LEN+then-not-is_literal, then-line-ne-TRAILER_LEN-via-else-line-ne-TRAILER_LEN+else-not-is_literal+then-line-ne-TYPE}

pub returns-then-line-ne-TRAILER_LEN : goal.returns-then-line-ne-TRAILER_LEN
returns-then-line-ne-TRAILER_LEN c trailer fits is =
    let parts = trailer_line c.args.line.now trailer.counts fits is in
    elim c.then-line-ne-TRAILER_LEN.branch [
      | then-line-ne-TRAILER_LEN-via-then-line-ne-TRAILER_LEN w ↦ w.if-line-ne-TRAILER_LEN.true parts.size
      | then-line-ne-TRAILER_LEN-via-else-line-ne-TRAILER_LEN+then-not-is_literal w ↦ absurd (cc (w.is_literal.ensures.1 parts.nines, w.if-not-is_literal.true))
      | then-line-ne-TRAILER_LEN-via-else-line-ne-TRAILER_LEN+else-not-is_literal+then-line-ne-TYPE w ↦ w.if-line-ne-TYPE.true parts.type
    ]

pub returns-in_default : goal.returns-in_default
returns-in_default c trailer fits is =
    let parts = trailer_line c.args.line.now trailer.counts fits is in
    c.in_default.ensures parts.employers.0 parts.employers.1.0 parts.employers.1.1

pub returns-in_default-read_count : goal.returns-in_default-read_count
returns-in_default-read_count c trailer fits is =
    let parts = trailer_line c.args.line.now trailer.counts fits is in
    c.in_default-read_count.ensures parts.device_clockings.0 parts.device_clockings.1.0 parts.device_clockings.1.1

pub returns-in_default-read_count-2 : goal.returns-in_default-read_count-2
returns-in_default-read_count-2 c trailer fits is =
    let parts = trailer_line c.args.line.now trailer.counts fits is in
    c.in_default-read_count-2.ensures parts.adjustments.0 parts.adjustments.1.0 parts.adjustments.1.1

pub returns-in_default-read_count-3 : goal.returns-in_default-read_count-3
returns-in_default-read_count-3 c trailer fits is =
    let parts = trailer_line c.args.line.now trailer.counts fits is in
    c.in_default-read_count-3.ensures parts.workers.0 parts.workers.1.0 parts.workers.1.1

pub returns-in_default-read_count-4 : goal.returns-in_default-read_count-4
returns-in_default-read_count-4 c trailer fits is =
    let parts = trailer_line c.args.line.now trailer.counts fits is in
    c.in_default-read_count-4.ensures parts.events.0 parts.events.1.0 parts.events.1.1

pub returns-in_default-read_count-5 : goal.returns-in_default-read_count-5
returns-in_default-read_count-5 c trailer fits is =
    let parts = trailer_line c.args.line.now trailer.counts fits is in
    c.in_default-read_count-5.ensures parts.clockings.0 parts.clockings.1.0 parts.clockings.1.1

pub returns : goal.returns
returns c =
    let employers = c.in-Some.ensures in
    let device_clockings = c.in-Some-read_count.ensures in
    let adjustments = c.in-Some-read_count-2.ensures in
    let workers = c.in-Some-read_count-3.ensures in
    let events = c.in-Some-read_count-4.ensures in
    let clockings = c.in-Some-read_count-5.ensures in (
      six_counts _ _ _ _ _ _ employers.0 device_clockings.0 adjustments.0 workers.0 events.0 clockings.0,
      trailer_from_fields c.args.line.now c.in-Some.employers c.in-Some-read_count.clockings_of_devices
          c.in-Some-read_count-2.adjustments c.in-Some-read_count-3.workers c.in-Some-read_count-4.events
          c.in-Some-read_count-5.clockings (omega arith) (c.is_literal.ensures.0 c.if-not-is_literal.false) employers.1
          device_clockings.1 adjustments.1 workers.1 events.1 clockings.1 c.if-line-ne-TYPE.false,
    )
