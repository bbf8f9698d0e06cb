use Rattle.std.proofs.Common.{◌≡◌, [], ◌∷◌, ◌++◌, take, drop, false, sym, refl, arith}
use Rattle.rep_fields.proofs.Layouts.{text_of_parts}
use Rattle.afd_records.specs.Fields.{worker_layout}
use Rattle.afd_records.specs.Lenient.{worded_payload, Wording}
use Rattle.afd_records.specs.declared.record.Body.TheVariants.{Worker}
use Rattle.afd_records.proofs.TypeFields.{type_field}
use Rattle.rep_fields.proofs.Layouts.{cuts}
use Rattle.afd_records.proofs.LooseCuts.{checksum_noted, checksum_size}
use Rattle.afd_records.proofs.lenient.read_loose_worker.Goals as goal

pub returns-in_default-read_stamp-clause-first : goal.returns-in_default-read_stamp-clause-first
returns-in_default-read_stamp-clause-first c =
    let type = type_field worker_layout c.args.line.now 53 c.requires (omega arith) refl in
    ((c.in-Some.nsr, c.in-Some.ensures), (type, λ spelled. c.in_default-read_stamp.ensures (record { stamp = spelled.0; odd = spelled.1 }) spelled.2.2.in_range spelled.2))

pub returns-in_default-read_op-clause-first : goal.returns-in_default-read_op-clause-first
returns-in_default-read_op-clause-first c =
    let type = type_field worker_layout c.args.line.now 53 c.requires (omega arith) refl in
    ((c.in-Some.nsr, c.in-Some.ensures), (type, ((c.in-Some-read_stamp.at.stamp, c.in-Some-read_stamp.at.odd, c.in-Some-read_stamp.ensures.1), λ spelled. c.in_default-read_op.ensures spelled.0 spelled.1.0 spelled.1.1)))

pub returns-in_default-read_cpf-clause-first : goal.returns-in_default-read_cpf-clause-first
returns-in_default-read_cpf-clause-first c =
    let type = type_field worker_layout c.args.line.now 53 c.requires (omega arith) refl in
    ((c.in-Some.nsr, c.in-Some.ensures), (type, ((c.in-Some-read_stamp.at.stamp, c.in-Some-read_stamp.at.odd, c.in-Some-read_stamp.ensures.1), ((c.in-Some-read_op.op, c.in-Some-read_op.ensures), λ spelled. c.in_default-read_cpf.ensures spelled.0 spelled.1.0 spelled.1.1))))

pub returns-in_default-read_text-clause-first : goal.returns-in_default-read_text-clause-first
returns-in_default-read_text-clause-first c =
    let type = type_field worker_layout c.args.line.now 53 c.requires (omega arith) refl in
    ((c.in-Some.nsr, c.in-Some.ensures), (type, ((c.in-Some-read_stamp.at.stamp, c.in-Some-read_stamp.at.odd, c.in-Some-read_stamp.ensures.1), ((c.in-Some-read_op.op, c.in-Some-read_op.ensures), ((c.in-Some-read_cpf.cpf, c.in-Some-read_cpf.ensures), λ spelled. c.in_default-read_text.ensures spelled.0 spelled.1.0 spelled.1.1)))))

pub returns-in_default-read_text-2-clause-first : goal.returns-in_default-read_text-2-clause-first
returns-in_default-read_text-2-clause-first c =
    let type = type_field worker_layout c.args.line.now 53 c.requires (omega arith) refl in
    ((c.in-Some.nsr, c.in-Some.ensures), (type, ((c.in-Some-read_stamp.at.stamp, c.in-Some-read_stamp.at.odd, c.in-Some-read_stamp.ensures.1), ((c.in-Some-read_op.op, c.in-Some-read_op.ensures), ((c.in-Some-read_cpf.cpf, c.in-Some-read_cpf.ensures), ((c.in-Some-read_text.name, c.in-Some-read_text.ensures), λ spelled. c.in_default-read_text-2.ensures spelled.0 spelled.1.0 spelled.1.1))))))

pub returns-in_default-read_cpf-2-clause-first : goal.returns-in_default-read_cpf-2-clause-first
returns-in_default-read_cpf-2-clause-first c =
    let type = type_field worker_layout c.args.line.now 53 c.requires (omega arith) refl in
    ((c.in-Some.nsr, c.in-Some.ensures), (type, ((c.in-Some-read_stamp.at.stamp, c.in-Some-read_stamp.at.odd, c.in-Some-read_stamp.ensures.1), ((c.in-Some-read_op.op, c.in-Some-read_op.ensures), ((c.in-Some-read_cpf.cpf, c.in-Some-read_cpf.ensures), ((c.in-Some-read_text.name, c.in-Some-read_text.ensures), ((c.in-Some-read_text-2.extra, c.in-Some-read_text-2.ensures), λ spelled. c.in_default-read_cpf-2.ensures spelled.0 spelled.1.0 spelled.1.1)))))))

pub returns-clause-found : goal.returns-clause-found
returns-clause-found c =
    let line = c.args.line.now in
    let type = type_field worker_layout line 53 c.requires (omega arith) refl in
    let at = c.in-Some-read_stamp.at in
    let op = c.in-Some-read_op in
    let cpf = c.in-Some-read_cpf in
    let name = c.in-Some-read_text in
    let extra = c.in-Some-read_text-2 in
    let resp = c.in-Some-read_cpf-2 in
    let words : Wording = record { first = take 24 (drop 10 line); first_odd = at.odd; second = []; second_odd = false; cno = []; checksum = take 4 (drop 114 line) } in
    let body = Worker at.stamp op.op cpf.cpf name.name extra.extra resp.resp in
    let payload = worded_payload c.in-Some.nsr body words in
    let cut : cuts 0 (9 ∷ 1 ∷ 24 ∷ 1 ∷ 12 ∷ 52 ∷ 4 ∷ 11 ∷ []) line ≡ payload = rw (c.in-Some.ensures.1, type, op.ensures.1, cpf.ensures.1, name.ensures.1, extra.ensures.1, resp.ensures.1) refl in
    record {
      numbered = c.in-Some.ensures.0;
      in_range = (c.in-Some-read_stamp.ensures.0, cpf.ensures.0, name.ensures.0, extra.ensures.0, resp.ensures.0);
      hashed = refl;
      words = words;
      worded = (c.in-Some-read_stamp.ensures.1, checksum_size line 114 c.requires.size);
      noted = record {
        crc = checksum_noted line (9 ∷ 1 ∷ 24 ∷ 1 ∷ 12 ∷ 52 ∷ 4 ∷ 11 ∷ []) payload 114 c.ends_in_checksum.result c.ends_in_checksum.ensures cut refl;
        stamp = refl;
        rep = refl;
      };
      written = text_of_parts (9 ∷ 1 ∷ 24 ∷ 1 ∷ 12 ∷ 52 ∷ 4 ∷ 11 ∷ 4 ∷ []) (payload ++ words.checksum ∷ []) line (sym c.requires.size)
          (rw (c.in-Some.ensures.1, type, op.ensures.1, cpf.ensures.1, name.ensures.1, extra.ensures.1, resp.ensures.1) refl);
    }
