use Rattle.std.proofs.Common.{[], ◌∷◌, ◌++◌, take, drop, sym, refl, arith}
use Rattle.std.proofs.lemmas.Bool.{true≢false}
use Rattle.rep_fields.proofs.Layouts.{text_of_parts}
use Rattle.afd_records.specs.Fields.{clocking_layout}
use Rattle.afd_records.specs.Lenient.{worded_payload, Wording}
use Rattle.afd_records.specs.declared.record.Body.TheVariants.{Clocking}
use Rattle.afd_records.proofs.TypeFields.{type_field}
use Rattle.afd_records.proofs.lenient.read_loose_clocking.Goals as goal

pub returns-in_default-read_stamp-clause-first : goal.returns-in_default-read_stamp-clause-first
returns-in_default-read_stamp-clause-first c =
    let type = type_field clocking_layout c.args.line.now 55 c.requires (omega arith) refl in
    ((c.in-Some.nsr, c.in-Some.ensures), (type, λ spelled. c.in_default-read_stamp.ensures (record { stamp = spelled.0; odd = spelled.1 }) spelled.2.2.in_range spelled.2))

pub returns-in_default-read_cpf-clause-first : goal.returns-in_default-read_cpf-clause-first
returns-in_default-read_cpf-clause-first c =
    let type = type_field clocking_layout c.args.line.now 55 c.requires (omega arith) refl in
    ((c.in-Some.nsr, c.in-Some.ensures), (type, ((c.in-Some-read_stamp.marked.stamp, c.in-Some-read_stamp.marked.odd, c.in-Some-read_stamp.ensures.1), λ spelled. c.in_default-read_cpf.ensures spelled.0 spelled.1.0 spelled.1.1)))

pub returns-in_default-read_stamp_again-clause-first : goal.returns-in_default-read_stamp_again-clause-first
returns-in_default-read_stamp_again-clause-first c =
    let type = type_field clocking_layout c.args.line.now 55 c.requires (omega arith) refl in
    ((c.in-Some.nsr, c.in-Some.ensures), (type, ((c.in-Some-read_stamp.marked.stamp, c.in-Some-read_stamp.marked.odd, c.in-Some-read_stamp.ensures.1), ((c.in-Some-read_cpf.cpf, c.in-Some-read_cpf.ensures), λ spelled. c.in_default-read_stamp_again.ensures (record { stamp = spelled.0; odd = spelled.1 }) spelled.2.2.in_range spelled.2))))

pub returns-in_default-read_collector-clause-first : goal.returns-in_default-read_collector-clause-first
returns-in_default-read_collector-clause-first c =
    let type = type_field clocking_layout c.args.line.now 55 c.requires (omega arith) refl in
    ((c.in-Some.nsr, c.in-Some.ensures), (type, ((c.in-Some-read_stamp.marked.stamp, c.in-Some-read_stamp.marked.odd, c.in-Some-read_stamp.ensures.1), ((c.in-Some-read_cpf.cpf, c.in-Some-read_cpf.ensures), ((c.in-Some-read_stamp_again.recorded.stamp, c.in-Some-read_stamp_again.recorded.odd, c.in-Some-read_stamp_again.ensures.1), λ spelled. c.in_default-read_collector.ensures spelled.0 spelled.1.0 spelled.1.1)))))

pub returns-in_default-read_offline-clause-first : goal.returns-in_default-read_offline-clause-first
returns-in_default-read_offline-clause-first c =
    let type = type_field clocking_layout c.args.line.now 55 c.requires (omega arith) refl in
    ((c.in-Some.nsr, c.in-Some.ensures), (type, ((c.in-Some-read_stamp.marked.stamp, c.in-Some-read_stamp.marked.odd, c.in-Some-read_stamp.ensures.1), ((c.in-Some-read_cpf.cpf, c.in-Some-read_cpf.ensures), ((c.in-Some-read_stamp_again.recorded.stamp, c.in-Some-read_stamp_again.recorded.odd, c.in-Some-read_stamp_again.ensures.1), ((c.in-Some-read_collector.collector, c.in-Some-read_collector.ensures), λ spelled. c.in_default-read_offline.ensures spelled.0 spelled.1.0 spelled.1.1))))))

pub returns-in_default-read_loose_hash-clause-first : goal.returns-in_default-read_loose_hash-clause-first
returns-in_default-read_loose_hash-clause-first c =
    let type = type_field clocking_layout c.args.line.now 55 c.requires (omega arith) refl in
    ((c.in-Some.nsr, c.in-Some.ensures), (type, ((c.in-Some-read_stamp.marked.stamp, c.in-Some-read_stamp.marked.odd, c.in-Some-read_stamp.ensures.1), ((c.in-Some-read_cpf.cpf, c.in-Some-read_cpf.ensures), ((c.in-Some-read_stamp_again.recorded.stamp, c.in-Some-read_stamp_again.recorded.odd, c.in-Some-read_stamp_again.ensures.1), ((c.in-Some-read_collector.collector, c.in-Some-read_collector.ensures), ((c.in-Some-read_offline.offline, c.in-Some-read_offline.ensures), λ hash. c.in_default-read_loose_hash.ensures _ hash refl)))))))

pub returns-clause-found : goal.returns-clause-found
returns-clause-found c =
    let line = c.args.line.now in
    let type = type_field clocking_layout line 55 c.requires (omega arith) refl in
    let marked = c.in-Some-read_stamp.marked in
    let recorded = c.in-Some-read_stamp_again.recorded in
    let cpf = c.in-Some-read_cpf in
    let collector = c.in-Some-read_collector in
    let offline = c.in-Some-read_offline in
    let hash = c.in-Some-read_loose_hash in
    let words : Wording = record {
      first = take 24 (drop 10 line);
      first_odd = marked.odd;
      second = take 24 (drop 46 line);
      second_odd = recorded.odd;
      cno = [];
      checksum = [];
    } in
    let body = Clocking marked.stamp cpf.cpf recorded.stamp collector.collector offline.offline in
    record {
      numbered = c.in-Some.ensures.0;
      in_range = (c.in-Some-read_stamp.ensures.0, cpf.ensures.0, c.in-Some-read_stamp_again.ensures.0, collector.ensures.0);
      hashed = hash.ensures.0;
      words = words;
      worded = (c.in-Some-read_stamp.ensures.1, c.in-Some-read_stamp_again.ensures.1);
      noted = record { crc = (λ yes. true≢false (sym yes), λ no. absurd no); stamp = refl; rep = refl };
      written = text_of_parts (9 ∷ 1 ∷ 24 ∷ 12 ∷ 24 ∷ 2 ∷ 1 ∷ 64 ∷ []) (worded_payload c.in-Some.nsr body words ++ hash.hash ∷ [])
          line (sym c.requires.size)
          (rw (c.in-Some.ensures.1, type, cpf.ensures.1, collector.ensures.1, offline.ensures.1, hash.ensures.1) refl);
    }
