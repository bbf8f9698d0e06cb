use Rattle.std.proofs.Common.{◌≡◌, w16, to_z, of_z, refl, rules, inl, [], ◌∷◌, ◌∙◌, sym}
use Rattle.std.proofs.lemmas.Bool.{false≢true}
use Rattle.toml.specs.View.{table_view}
use Rattle.toml_fields.proofs.FirstOff.{AreSound-append, first_off-behind}
use Rattle.rep_site.specs.Key.{employing_keys, recording_keys, site_keys}
use Rattle.rep_site.specs.Reading.{IsSound}
use Rattle.rep_site.specs.declared.key.SiteKey.TheVariants.{Unknown}
use Rattle.rep_site.proofs.SiteLemmas.{employing_sound, recording_sound}
use Rattle.rep_site.proofs.reading.site_of.Goals as goal

pub returns-then-not-has_only-clause-off : goal.returns-then-not-has_only-clause-off
returns-then-not-has_only-clause-off c =
    let ms = table_view c.args.table.now in
    first_off-behind (IsSound ms) site_keys (Unknown ∷ []) Unknown
    (AreSound-append (IsSound ms) employing_keys recording_keys (employing_sound ms c.in-Ok.employing c.in-Ok.ensures.ok)
    (recording_sound ms c.in-Ok-recording_of.recording c.in-Ok-recording_of.ensures.ok))
    (inl (λ only. false≢true (sym c.if-not-has_only.true ∙ c.has_only.ensures.1 only), refl))

pub returns-clause-ok : goal.returns-clause-ok
returns-clause-ok c =
    let first = c.in-Ok.ensures.ok in
    let second = c.in-Ok-recording_of.ensures.ok in
    let offset : to_z w16 (of_z w16 c.in-Ok-recording_of.recording.offset) ≡ c.in-Ok-recording_of.recording.offset = search rules in
    record {
      employer = first.employer;
      cno = first.cno;
      name = first.name;
      place = first.place;
      responsible = first.responsible;
      rep = second.rep;
      developer = second.developer;
      offset = rw offset second.offset;
      last_nsr = second.last_nsr;
      restarts = second.restarts;
      known = c.has_only.ensures.0 c.if-not-has_only.false;
    }
