use Rattle.std.proofs.Common.{◌≡◌, w16, to_z, of_z, refl, rules, inl, [], ◌∷◌, ◌∙◌, sym}
use Rattle.std.proofs.lemmas.Bool.{false≢true}
use Rattle.toml.specs.View.{table_view}
use Rattle.toml_fields.proofs.FirstOff.{AreSound-append, first_off-behind}
use Rattle.tr_plan.specs.Program.{IsProgramKeySound, software_keys, recorder_keys, program_keys}
use Rattle.tr_plan.specs.declared.program.ProgramKey.TheVariants.{Unknown}
use Rattle.tr_plan.proofs.TableLemmas.{software_sound, recorder_sound}
use Rattle.tr_plan.proofs.program.program_in.Goals as goal

pub returns-then-not-has_only-clause-off : goal.returns-then-not-has_only-clause-off
returns-then-not-has_only-clause-off c =
    let row = table_view c.args.row.now in
    first_off-behind (IsProgramKeySound row) program_keys (Unknown ∷ []) Unknown
    (AreSound-append (IsProgramKeySound row) software_keys recorder_keys (software_sound row c.in-Ok.software c.in-Ok.ensures.ok)
    (recorder_sound row c.in-Ok-recorder_of.recorder c.in-Ok-recorder_of.ensures.ok))
    (inl (λ only. false≢true (sym c.if-not-has_only.true ∙ c.has_only.ensures.1 only), refl))

pub returns-clause-ok : goal.returns-clause-ok
returns-clause-ok c =
    let first = c.in-Ok.ensures.ok in
    let second = c.in-Ok-recorder_of.ensures.ok in
    let offset : to_z w16 (of_z w16 c.in-Ok-recorder_of.recorder.offset) ≡ c.in-Ok-recorder_of.recorder.offset = search rules in
    record {
      name = first.name;
      version = first.version;
      developer = first.developer;
      developer_name = first.developer_name;
      email = first.email;
      offset = rw offset second.offset;
      rep_kind = second.rep_kind;
      caepf = second.caepf;
      cno = second.cno;
      known = c.has_only.ensures.0 c.if-not-has_only.false;
    }
