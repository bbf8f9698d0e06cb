use Rattle.std.proofs.Common.{refl, arith}
use Rattle.afd_records.specs.Fields.{event_layout}
use Rattle.afd_records.proofs.RecordParts.{event_cut}
use Rattle.afd_records.proofs.TypeFields.{type_field}
use Rattle.afd_records.proofs.reading.read_event_line.Goals as goal

pub returns-in_default-read-clause-first : goal.returns-in_default-read-clause-first
returns-in_default-read-clause-first c = (
  (c.in-Some.nsr, c.in-Some.ensures),
  (
    type_field event_layout c.args.line.now 54 c.requires (omega arith) refl,
    λ spelled. c.in_default-read.ensures spelled.0 spelled.1.0 spelled.1.1,
  ),
)

pub returns-in_default-read_event-clause-first : goal.returns-in_default-read_event-clause-first
returns-in_default-read_event-clause-first c = (
  (c.in-Some.nsr, c.in-Some.ensures),
  (
    type_field event_layout c.args.line.now 54 c.requires (omega arith) refl,
    (
      (c.in-Some-read.at, c.in-Some-read.ensures),
      λ spelled. c.in_default-read_event.ensures spelled.0 spelled.1.0 spelled.1.1,
    ),
  ),
)

pub returns-clause-found : goal.returns-clause-found
returns-clause-found c =
    let type = type_field event_layout c.args.line.now 54 c.requires (omega arith) refl in
    record {
      line_of = record {
        numbered = c.in-Some.ensures.0;
        in_range = (c.in-Some-read.ensures.0, c.in-Some-read_event.ensures.0);
        hashed = refl;
        written = event_cut c.in-Some.nsr c.in-Some-read.at c.in-Some-read_event.code c.args.line.now c.requires.size
            (rw (c.in-Some.ensures.1, type, c.in-Some-read.ensures.1, c.in-Some-read_event.ensures.1) refl);
      };
      plain = refl;
    }
