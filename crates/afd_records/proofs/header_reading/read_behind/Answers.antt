use Rattle.std.proofs.Common.{◌≡◌, [], ◌∷◌, ◌++◌, take, drop, refl, sym, arith}
use Rattle.rep_fields.specs.Employer.{kind_byte, id_text}
use Rattle.rep_fields.proofs.Layouts.{cuts, one_byte, text_of_parts}
use Rattle.afd_records.specs.LenientHead.{worded_head, HeadWording}
use Rattle.afd_records.specs.declared.header.Head.{Head}
use Rattle.afd_records.proofs.HeadLines.{behind_owner, head_widths}
use Rattle.afd_records.proofs.IdFields.{id_cuts}
use Rattle.afd_records.proofs.LooseCuts.{checksum_noted, checksum_size, not_flag}
use Rattle.afd_records.proofs.header_reading.read_behind.Goals as goal

pub returns-in_default-clause-first : goal.returns-in_default-clause-first
returns-in_default-clause-first c =
    behind_owner c.args.line.now c.args.owner.now 0 c.requires.laid_out c.requires.owner
    (λ spelled. c.in_default.ensures spelled.0 spelled.1.0 spelled.1.1)

pub returns-in_default-read-clause-first : goal.returns-in_default-read-clause-first
returns-in_default-read-clause-first c =
    behind_owner c.args.line.now c.args.owner.now 1 c.requires.laid_out c.requires.owner
    ((c.in-Some.first, c.in-Some.ensures), λ spelled. c.in_default-read.ensures spelled.0 spelled.1.0 spelled.1.1)

pub returns-in_default-read_stamp-clause-first : goal.returns-in_default-read_stamp-clause-first
returns-in_default-read_stamp-clause-first c =
    behind_owner c.args.line.now c.args.owner.now 2 c.requires.laid_out c.requires.owner
    ((c.in-Some.first, c.in-Some.ensures), ((c.in-Some-read.last, c.in-Some-read.ensures), λ spelled. c.in_default-read_stamp.ensures (record { stamp = spelled.0; odd = spelled.1 }) spelled.2.2.in_range spelled.2))

pub returns-then-not-is_literal-clause-first : goal.returns-then-not-is_literal-clause-first
returns-then-not-is_literal-clause-first c =
    let made = c.in-Some-read_stamp in
    behind_owner c.args.line.now c.args.owner.now 3 c.requires.laid_out c.requires.owner
    ((c.in-Some.first, c.in-Some.ensures), ((c.in-Some-read.last, c.in-Some-read.ensures), ((made.made.stamp, made.made.odd, made.ensures.1), λ version. absurd (cc (c.is_literal.ensures.1 version, c.if-not-is_literal.true)))))

pub returns-in_default-read_maker_kind-clause-first : goal.returns-in_default-read_maker_kind-clause-first
returns-in_default-read_maker_kind-clause-first c =
    let made = c.in-Some-read_stamp in
    let version = c.is_literal.ensures.0 c.if-not-is_literal.false in
    behind_owner c.args.line.now c.args.owner.now 4 c.requires.laid_out c.requires.owner
    ((c.in-Some.first, c.in-Some.ensures), ((c.in-Some-read.last, c.in-Some-read.ensures), ((made.made.stamp, made.made.odd, made.ensures.1), (version, λ spelled. c.in_default-read_maker_kind.ensures spelled.0 spelled.1.0 spelled.1.1))))

pub returns-in_default-read_maker-clause-first : goal.returns-in_default-read_maker-clause-first
returns-in_default-read_maker-clause-first c =
    let made = c.in-Some-read_stamp in
    let version = c.is_literal.ensures.0 c.if-not-is_literal.false in
    let kind = c.in-Some-read_maker_kind in
    behind_owner c.args.line.now c.args.owner.now 5 c.requires.laid_out c.requires.owner
    ((c.in-Some.first, c.in-Some.ensures), ((c.in-Some-read.last, c.in-Some-read.ensures), ((made.made.stamp, made.made.odd, made.ensures.1), (version, ((kind.dev_kind, kind.ensures), λ maker. c.in_default-read_maker.ensures _ maker refl)))))

pub returns-in_default-read_text-clause-first : goal.returns-in_default-read_text-clause-first
returns-in_default-read_text-clause-first c =
    let made = c.in-Some-read_stamp in
    let version = c.is_literal.ensures.0 c.if-not-is_literal.false in
    let kind = c.in-Some-read_maker_kind in
    let maker = c.in-Some-read_maker.ensures in
    behind_owner c.args.line.now c.args.owner.now 6 c.requires.laid_out c.requires.owner
    ((c.in-Some.first, c.in-Some.ensures), ((c.in-Some-read.last, c.in-Some-read.ensures), ((made.made.stamp, made.made.odd, made.ensures.1), (version, ((kind.dev_kind, kind.ensures), (rw (maker.1) maker.0, λ spelled. c.in_default-read_text.ensures spelled.0 spelled.1.0 spelled.1.1))))))

pub returns-clause-found : goal.returns-clause-found
returns-clause-found c =
    let line = c.args.line.now in
    let owner = c.args.owner.now in
    let is = c.requires.owner in
    let size = c.requires.laid_out.size in
    let type = one_byte line 9 49 (omega (arith, size)) c.requires.laid_out.type in
    let id_parts = id_cuts 10 line (kind_byte owner.id) (id_text owner.id) is.id_is in
    let first = c.in-Some in
    let last = c.in-Some-read in
    let made = c.in-Some-read_stamp in
    let version = c.is_literal.ensures.0 c.if-not-is_literal.false in
    let kind = c.in-Some-read_maker_kind in
    let maker = c.in-Some-read_maker in
    let model = c.in-Some-read_text in
    let words : HeadWording = record {
      cno = take 14 (drop 25 line);
      made = take 24 (drop 226 line);
      made_odd = made.made.odd;
      checksum = take 4 (drop 298 line);
    } in
    let head : Head = record {
      id = owner.id;
      cno = owner.cno;
      name = owner.name;
      rep = owner.rep;
      first = first.first;
      last = last.last;
      made = made.made.stamp;
      dev_kind = kind.dev_kind;
      dev = maker.dev;
      model = model.model;
    } in
    let zeros = is.zeros in
    let name_is = is.name_is in
    let rep_is = is.rep_is in
    let payload = worded_head head words in
    let cut : cuts 0 (9 ∷ 1 ∷ 1 ∷ 14 ∷ 14 ∷ 150 ∷ 17 ∷ 10 ∷ 10 ∷ 24 ∷ 3 ∷ 1 ∷ 14 ∷ 30 ∷ []) line ≡ payload =
    rw (zeros, type, id_parts.0, id_parts.1, name_is, rep_is, first.ensures.1, last.ensures.1, version, kind.ensures.1, maker.ensures.1, model.ensures.1) refl in
    record {
      in_range = record {
        id = is.id;
        cno = is.cno;
        name = is.name;
        rep = is.rep;
        first = first.ensures.0;
        last = last.ensures.0;
        made = made.ensures.0;
        dev_kind = kind.ensures.0;
        dev = maker.ensures.0;
        model = model.ensures.0;
      };
      words = words;
      worded = record { cno = is.cno_is; made = made.ensures.1; checksum = checksum_size line 298 size };
      noted = record {
        crc = checksum_noted line (9 ∷ 1 ∷ 1 ∷ 14 ∷ 14 ∷ 150 ∷ 17 ∷ 10 ∷ 10 ∷ 24 ∷ 3 ∷ 1 ∷ 14 ∷ 30 ∷ []) payload 298
            c.ends_in_checksum.result c.ends_in_checksum.ensures cut refl;
        stamp = refl;
        rep = not_flag c.is_digits.result _ _ c.is_digits.ensures (λ digits. digits) (λ digits. digits);
      };
      written = text_of_parts head_widths (payload ++ words.checksum ∷ []) line (sym size)
          (rw (zeros, type, id_parts.0, id_parts.1, name_is, rep_is, first.ensures.1, last.ensures.1, version, kind.ensures.1, maker.ensures.1, model.ensures.1) refl);
    }
