use Rattle.std.proofs.Common.{refl, arith}
use Rattle.afd_records.specs.Fields.{clocking_layout}
use Rattle.afd_records.proofs.RecordParts.{clocking_cut}
use Rattle.afd_records.proofs.TypeFields.{type_field}
use Rattle.afd_records.proofs.reading.read_clocking.Goals as goal

pub returns-in_default-read-clause-first : goal.returns-in_default-read-clause-first
returns-in_default-read-clause-first c =
    let type = type_field clocking_layout c.args.line.now 55 c.requires (omega arith) refl in
    ((c.in-Some.nsr, c.in-Some.ensures), (type, λ spelled. c.in_default-read.ensures spelled.0 spelled.1.0 spelled.1.1))

pub returns-in_default-read_cpf-clause-first : goal.returns-in_default-read_cpf-clause-first
returns-in_default-read_cpf-clause-first c =
    let type = type_field clocking_layout c.args.line.now 55 c.requires (omega arith) refl in
    ((c.in-Some.nsr, c.in-Some.ensures), (type, ((c.in-Some-read.marked, c.in-Some-read.ensures), λ spelled. c.in_default-read_cpf.ensures spelled.0 spelled.1.0 spelled.1.1)))

pub returns-in_default-read-2-clause-first : goal.returns-in_default-read-2-clause-first
returns-in_default-read-2-clause-first c =
    let type = type_field clocking_layout c.args.line.now 55 c.requires (omega arith) refl in
    ((c.in-Some.nsr, c.in-Some.ensures), (type, ((c.in-Some-read.marked, c.in-Some-read.ensures), ((c.in-Some-read_cpf.cpf, c.in-Some-read_cpf.ensures), λ spelled. c.in_default-read-2.ensures spelled.0 spelled.1.0 spelled.1.1))))

pub returns-in_default-read_collector-clause-first : goal.returns-in_default-read_collector-clause-first
returns-in_default-read_collector-clause-first c =
    let type = type_field clocking_layout c.args.line.now 55 c.requires (omega arith) refl in
    ((c.in-Some.nsr, c.in-Some.ensures), (type, ((c.in-Some-read.marked, c.in-Some-read.ensures), ((c.in-Some-read_cpf.cpf, c.in-Some-read_cpf.ensures), ((c.in-Some-read-2.recorded, c.in-Some-read-2.ensures), λ spelled. c.in_default-read_collector.ensures spelled.0 spelled.1.0 spelled.1.1)))))

pub returns-in_default-read_offline-clause-first : goal.returns-in_default-read_offline-clause-first
returns-in_default-read_offline-clause-first c =
    let type = type_field clocking_layout c.args.line.now 55 c.requires (omega arith) refl in
    ((c.in-Some.nsr, c.in-Some.ensures), (type, ((c.in-Some-read.marked, c.in-Some-read.ensures), ((c.in-Some-read_cpf.cpf, c.in-Some-read_cpf.ensures), ((c.in-Some-read-2.recorded, c.in-Some-read-2.ensures), ((c.in-Some-read_collector.collector, c.in-Some-read_collector.ensures), λ spelled. c.in_default-read_offline.ensures spelled.0 spelled.1.0 spelled.1.1))))))

pub returns-in_default-read_hash-clause-first : goal.returns-in_default-read_hash-clause-first
returns-in_default-read_hash-clause-first c =
    let type = type_field clocking_layout c.args.line.now 55 c.requires (omega arith) refl in
    ((c.in-Some.nsr, c.in-Some.ensures), (type, ((c.in-Some-read.marked, c.in-Some-read.ensures), ((c.in-Some-read_cpf.cpf, c.in-Some-read_cpf.ensures), ((c.in-Some-read-2.recorded, c.in-Some-read-2.ensures), ((c.in-Some-read_collector.collector, c.in-Some-read_collector.ensures), ((c.in-Some-read_offline.offline, c.in-Some-read_offline.ensures), λ hash. c.in_default-read_hash.ensures _ hash refl)))))))

pub returns-clause-found : goal.returns-clause-found
returns-clause-found c =
    let line = c.args.line.now in
    let type = type_field clocking_layout line 55 c.requires (omega arith) refl in
    record {
      line_of = record {
        numbered = c.in-Some.ensures.0;
        in_range = (c.in-Some-read.ensures.0, c.in-Some-read_cpf.ensures.0, c.in-Some-read-2.ensures.0, c.in-Some-read_collector.ensures.0);
        hashed = c.in-Some-read_hash.ensures.0;
        written = clocking_cut c.in-Some.nsr c.in-Some-read.marked c.in-Some-read-2.recorded c.in-Some-read_cpf.cpf c.in-Some-read_collector.collector c.in-Some-read_offline.offline
            c.in-Some-read_hash.hash line c.requires.size
            (rw (c.in-Some.ensures.1, type, c.in-Some-read.ensures.1, c.in-Some-read_cpf.ensures.1, c.in-Some-read-2.ensures.1, c.in-Some-read_collector.ensures.1, c.in-Some-read_offline.ensures.1) refl)
            c.in-Some-read_hash.ensures.1;
      };
      plain = refl;
    }
