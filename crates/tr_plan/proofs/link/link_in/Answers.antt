use Rattle.std.proofs.Common.{refl, inl, ◌∙◌, sym, [], ◌∷◌}
use Rattle.std.proofs.lemmas.Bool.{false≢true}
use Rattle.toml.specs.View.{table_view}
use Rattle.toml_fields.proofs.FirstOff.{AreSound-append, first_off-front, first_off-behind}
use Rattle.tr_plan.specs.Link.{IsLinkKeySound, person_keys, terms_keys, link_keys}
use Rattle.tr_plan.specs.declared.link.LinkKey.TheVariants.{Unknown}
use Rattle.tr_plan.proofs.TableLemmas.{person_sound, terms_sound}
use Rattle.tr_plan.proofs.link.link_in.Goals as goal

pub returns-in-Err-terms_of-clause-off : goal.returns-in-Err-terms_of-clause-off
returns-in-Err-terms_of-clause-off c = λ earlier has.
    let IsSound = IsLinkKeySound earlier (table_view c.args.row.now) in
    first_off-front IsSound link_keys (Unknown ∷ []) c.in-Err-terms_of.key
    (first_off-behind IsSound person_keys terms_keys c.in-Err-terms_of.key
    (person_sound earlier (table_view c.args.row.now) c.in-Ok.person (c.in-Ok.ensures.ok earlier has)) (c.in-Err-terms_of.ensures.off earlier))

pub returns-then-not-has_only-clause-off : goal.returns-then-not-has_only-clause-off
returns-then-not-has_only-clause-off c = λ earlier has.
    let row = table_view c.args.row.now in
    let IsSound = IsLinkKeySound earlier row in
    first_off-behind IsSound link_keys (Unknown ∷ []) Unknown
    (AreSound-append IsSound person_keys terms_keys (person_sound earlier row c.in-Ok.person (c.in-Ok.ensures.ok earlier has))
    (terms_sound earlier row c.in-Ok-terms_of.terms c.in-Ok-terms_of.ensures.ok))
    (inl (λ only. false≢true (sym c.if-not-has_only.true ∙ c.has_only.ensures.1 only), refl))
