use Rattle.std.proofs.Common.{◌≡◌, [], ◌∷◌, ◌++◌, take, drop, sym, refl, arith}
use Rattle.rep_fields.proofs.Layouts.{text_of_parts}
use Rattle.afd_records.specs.Fields.{adjust_layout}
use Rattle.afd_records.specs.Lenient.{worded_payload, Wording}
use Rattle.afd_records.specs.declared.record.Body.TheVariants.{Adjust}
use Rattle.afd_records.proofs.TypeFields.{type_field}
use Rattle.rep_fields.proofs.Layouts.{cuts}
use Rattle.afd_records.proofs.LooseCuts.{checksum_noted, checksum_size}
use Rattle.afd_records.proofs.lenient.read_loose_adjust.Goals as goal

pub returns-in_default-read_stamp-clause-first : goal.returns-in_default-read_stamp-clause-first
returns-in_default-read_stamp-clause-first c =
    let type = type_field adjust_layout c.args.line.now 52 c.requires (omega arith) refl in
    ((c.in-Some.nsr, c.in-Some.ensures), (type, λ spelled. c.in_default-read_stamp.ensures (record { stamp = spelled.0; odd = spelled.1 }) spelled.2.2.in_range spelled.2))

pub returns-in_default-read_stamp-2-clause-first : goal.returns-in_default-read_stamp-2-clause-first
returns-in_default-read_stamp-2-clause-first c =
    let type = type_field adjust_layout c.args.line.now 52 c.requires (omega arith) refl in
    ((c.in-Some.nsr, c.in-Some.ensures), (type, ((c.in-Some-read_stamp.before.stamp, c.in-Some-read_stamp.before.odd, c.in-Some-read_stamp.ensures.1), λ spelled. c.in_default-read_stamp-2.ensures (record { stamp = spelled.0; odd = spelled.1 }) spelled.2.2.in_range spelled.2)))

pub returns-in_default-read_cpf-clause-first : goal.returns-in_default-read_cpf-clause-first
returns-in_default-read_cpf-clause-first c =
    let type = type_field adjust_layout c.args.line.now 52 c.requires (omega arith) refl in
    ((c.in-Some.nsr, c.in-Some.ensures), (type, ((c.in-Some-read_stamp.before.stamp, c.in-Some-read_stamp.before.odd, c.in-Some-read_stamp.ensures.1), ((c.in-Some-read_stamp-2.after.stamp, c.in-Some-read_stamp-2.after.odd, c.in-Some-read_stamp-2.ensures.1), λ spelled. c.in_default-read_cpf.ensures spelled.0 spelled.1.0 spelled.1.1))))

pub returns-clause-found : goal.returns-clause-found
returns-clause-found c =
    let line = c.args.line.now in
    let type = type_field adjust_layout line 52 c.requires (omega arith) refl in
    let before = c.in-Some-read_stamp.before in
    let after = c.in-Some-read_stamp-2.after in
    let resp = c.in-Some-read_cpf in
    let words : Wording = record { first = take 24 (drop 10 line); first_odd = before.odd; second = take 24 (drop 34 line); second_odd = after.odd; cno = []; checksum = take 4 (drop 69 line) } in
    let body = Adjust before.stamp after.stamp resp.resp in
    let payload = worded_payload c.in-Some.nsr body words in
    let cut : cuts 0 (9 ∷ 1 ∷ 24 ∷ 24 ∷ 11 ∷ []) line ≡ payload = rw (c.in-Some.ensures.1, type, resp.ensures.1) refl in
    record {
      numbered = c.in-Some.ensures.0;
      in_range = (c.in-Some-read_stamp.ensures.0, c.in-Some-read_stamp-2.ensures.0, resp.ensures.0);
      hashed = refl;
      words = words;
      worded = (c.in-Some-read_stamp.ensures.1, c.in-Some-read_stamp-2.ensures.1, checksum_size line 69 c.requires.size);
      noted = record {
        crc = checksum_noted line (9 ∷ 1 ∷ 24 ∷ 24 ∷ 11 ∷ []) payload 69 c.ends_in_checksum.result c.ends_in_checksum.ensures cut refl;
        stamp = refl;
        rep = refl;
      };
      written = text_of_parts (9 ∷ 1 ∷ 24 ∷ 24 ∷ 11 ∷ 4 ∷ []) (payload ++ words.checksum ∷ []) line (sym c.requires.size)
          (rw (c.in-Some.ensures.1, type, resp.ensures.1) refl);
    }
