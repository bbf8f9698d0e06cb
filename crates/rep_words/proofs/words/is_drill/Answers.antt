use Rattle.std.proofs.Common.{◌≡◌, [], ◌∷◌, map, codes, string_bytes, Global, ap, ◌∙◌, rules, arith}
use Rattle.std.proofs.lemmas.Grind.{common_steps}
use Rattle.rep_words.proofs.Lists.{two_from_reads}
use Rattle.rep_words.proofs.words.is_drill.Goals as goal

pub returns-then-eq-clause-found : goal.returns-then-eq-clause-found
returns-then-eq-clause-found c named =
    let two = two_from_reads c.args.words.now c.command-item.result c.schedule-item.result (omega arith) c.command-item.is c.schedule-item.is in
    let command : string_bytes c.command-item.result ≡ codes "drill" = search rules in
    record {
      schedule = string_bytes c.schedule-item.result;
      spelled = ap (map (string_bytes {Z = Global})) two ∙ ap (λ w. w ∷ string_bytes c.schedule-item.result ∷ []) command;
      schedule_named = grind (arith, common_steps);
    }
