use Rattle.std.proofs.Common.{rules, ◌≡◌, List, ◌∷◌, [], Some, ◌∙◌, sym, refl, subst, map, string_bytes, String, Global}
use Rattle.rep_words.specs.Words.{Asks}
use Rattle.rep_words.specs.Rigged.{IsRigged}
use Rattle.rep_words.specs.declared.words.Asked.{Asked}
use Rattle.rep_words.specs.declared.words.Asked.TheVariants.{Run}
use Rattle.rep_cases.proofs.acting.run.Goals as goal

pub top-requires : goal.top-requires
top-requires c = record {
  rigged = λ asked asks.
      let words : c.deref-3.result.now ≡ c.deref-2.result.now = c.deref-3.ensures.value ∙ sym c.deref-2.ensures.value in
      let both = sym c.in-Some-Run.is ∙ c.asked_of.ensures.only asked (subst (λ (ws : List (String Global)). Asks (map string_bytes ws) asked) words asks) in
      let same : Run ≡ asked = search rules in
      let texts : c.in_ok-vec.field-0.items ≡ c.in_ok-site.site ∷ c.in_ok-lane.lane ∷ [] = search rules in
      let outs : c.in_ok-vec-2.field-0.items ≡ c.in_ok-file.field-0 ∷ [] = search rules in
      subst (λ (a : Asked). IsRigged a c.in_ok-vec.field-0.items c.in_ok-vec-2.field-0.items (Some c.in_ok-disk.field-0) (Some c.in_ok-clock.field-0)) same (record {
        site = c.in_ok-site.site;
        lane = c.in_ok-lane.lane;
        replies = c.in_ok-file.field-0;
        drive = c.in_ok-disk.field-0;
        watch = c.in_ok-clock.field-0;
        text_is = texts;
        out_is = outs;
        disk_is = refl;
        clock_is = refl;
      });
}
