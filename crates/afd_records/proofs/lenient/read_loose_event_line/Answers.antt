use Rattle.std.proofs.Common.{[], ◌∷◌, take, drop, false, sym, refl, arith}
use Rattle.std.proofs.lemmas.Bool.{true≢false}
use Rattle.rep_fields.proofs.Layouts.{text_of_parts}
use Rattle.afd_records.specs.Fields.{event_layout}
use Rattle.afd_records.specs.Lenient.{worded_payload, Wording}
use Rattle.afd_records.specs.declared.record.Body.TheVariants.{Event}
use Rattle.afd_records.proofs.TypeFields.{type_field}
use Rattle.afd_records.proofs.lenient.read_loose_event_line.Goals as goal

pub returns-in_default-read_stamp-clause-first : goal.returns-in_default-read_stamp-clause-first
returns-in_default-read_stamp-clause-first c =
    let type = type_field event_layout c.args.line.now 54 c.requires (omega arith) refl in
    ((c.in-Some.nsr, c.in-Some.ensures), (type, λ spelled. c.in_default-read_stamp.ensures (record { stamp = spelled.0; odd = spelled.1 }) spelled.2.2.in_range spelled.2))

pub returns-in_default-read_loose_event-clause-first : goal.returns-in_default-read_loose_event-clause-first
returns-in_default-read_loose_event-clause-first c =
    let type = type_field event_layout c.args.line.now 54 c.requires (omega arith) refl in
    let stamp = c.in-Some-read_stamp.at in
    ((c.in-Some.nsr, c.in-Some.ensures), (type, ((stamp.stamp, stamp.odd, c.in-Some-read_stamp.ensures.1), λ spelled. c.in_default-read_loose_event.ensures spelled.0 spelled.1.0 spelled.1.1)))

pub returns-clause-found : goal.returns-clause-found
returns-clause-found c =
    let line = c.args.line.now in
    let type = type_field event_layout line 54 c.requires (omega arith) refl in
    let at = c.in-Some-read_stamp.at in
    let stamp = c.in-Some-read_stamp.ensures in
    let event = c.in-Some-read_loose_event in
    let words : Wording = record { first = take 24 (drop 10 line); first_odd = at.odd; second = []; second_odd = false; cno = []; checksum = [] } in
    record {
      numbered = c.in-Some.ensures.0;
      in_range = (stamp.0, event.ensures.0);
      hashed = refl;
      words = words;
      worded = stamp.1;
      noted = record { crc = (λ yes. true≢false (sym yes), λ no. absurd no); stamp = refl; rep = refl };
      written = text_of_parts (9 ∷ 1 ∷ 24 ∷ 2 ∷ []) (worded_payload c.in-Some.nsr (Event at.stamp event.code) words) line
          (sym c.requires.size) (rw (c.in-Some.ensures.1, type, event.ensures.1) refl);
    }
