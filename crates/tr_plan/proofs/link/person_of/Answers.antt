use Rattle.std.proofs.Common.{◌≡◌, inl, inr, refl, sym, ◌∙◌, subst}
use Rattle.std.specs.Ordering.{nat_cmp}
use Rattle.std.proofs.lemmas.Bool.{false≢true}
use Rattle.toml.specs.View.{table_view}
use Rattle.toml_fields.proofs.Found.{HasNumber-unique}
use Rattle.tr_plan.specs.Link.{IsNewId, link_key_text, greatest_id}
use Rattle.tr_plan.specs.declared.link.Link.{Link}
use Rattle.tr_plan.specs.declared.link.LinkKey.TheVariants.{Id}
use Rattle.tr_plan.proofs.IndexLemmas.{key_used, key_new, id_not_new}
use Rattle.tr_plan.proofs.link.person_of.Goals as goal

pub returns-then-contains_key-clause-off : goal.returns-then-contains_key-clause-off
returns-then-contains_key-clause-off c = λ earlier has.
    let row = table_view c.args.row.now in
    let id = c.in-Some.id in
    inl (
      λ sound.
          let same : sound.0 ≡ id = HasNumber-unique 1 greatest_id 1 greatest_id row (link_key_text Id) sound.0 id sound.1.0 c.in-Some.ensures in
          id_not_new earlier id (key_used nat_cmp (λ (l : Link). l.id) c.args.places.now earlier id has (sym c.contains_key.ensures ∙ c.if-contains_key.true))
          (subst (IsNewId earlier) same sound.1.1),
      refl,
    )

pub returns-in_default-cpf_at-clause-off : goal.returns-in_default-cpf_at-clause-off
returns-in_default-cpf_at-clause-off c = λ earlier has.
    let new = key_new nat_cmp (λ (l : Link). l.id) c.args.places.now earlier c.in-Some.id has (λ some. false≢true (sym c.if-contains_key.false ∙ c.contains_key.ensures ∙ some)) in
    inr ((c.in-Some.id, (c.in-Some.ensures, new)), inl (λ sound. c.in_default-cpf_at.ensures sound.0 sound.1, refl))

pub returns-in_default-plain_text_at-clause-off : goal.returns-in_default-plain_text_at-clause-off
returns-in_default-plain_text_at-clause-off c = λ earlier has.
    let new = key_new nat_cmp (λ (l : Link). l.id) c.args.places.now earlier c.in-Some.id has (λ some. false≢true (sym c.if-contains_key.false ∙ c.contains_key.ensures ∙ some)) in
    inr (
      (c.in-Some.id, (c.in-Some.ensures, new)),
      inr (
        (_, c.in-Some-cpf_at.ensures),
        inl (λ sound. c.in_default-plain_text_at.ensures sound.0 sound.1, refl),
      ),
    )

pub returns-in_default-plain_text_at-2-clause-off : goal.returns-in_default-plain_text_at-2-clause-off
returns-in_default-plain_text_at-2-clause-off c = λ earlier has.
    let new = key_new nat_cmp (λ (l : Link). l.id) c.args.places.now earlier c.in-Some.id has (λ some. false≢true (sym c.if-contains_key.false ∙ c.contains_key.ensures ∙ some)) in
    inr (
      (c.in-Some.id, (c.in-Some.ensures, new)),
      inr (
        (_, c.in-Some-cpf_at.ensures),
        inr (
          (_, c.in-Some-plain_text_at.ensures),
          inl (λ sound. c.in_default-plain_text_at-2.ensures sound.0 sound.1, refl),
        ),
      ),
    )

pub returns-clause-ok : goal.returns-clause-ok
returns-clause-ok c = λ earlier has.
    let new = key_new nat_cmp (λ (l : Link). l.id) c.args.places.now earlier c.in-Some.id has (λ some. false≢true (sym c.if-contains_key.false ∙ c.contains_key.ensures ∙ some)) in
    record {
      id = (c.in-Some.ensures, new);
      cpf = c.in-Some-cpf_at.ensures;
      name = c.in-Some-plain_text_at.ensures;
      schedule = c.in-Some-plain_text_at-2.ensures;
    }
