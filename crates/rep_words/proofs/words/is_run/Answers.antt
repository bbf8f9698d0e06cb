use Rattle.std.proofs.Common.{◌≡◌, [], ◌∷◌, map, codes, string_bytes, Global, ap, ◌∙◌, rules, arith}
use Rattle.std.proofs.lemmas.Grind.{common_steps}
use Rattle.rep_words.proofs.Lists.{four_from_reads}
use Rattle.rep_words.proofs.words.is_run.Goals as goal

pub returns-then-not-is_empty-2-clause-found : goal.returns-then-not-is_empty-2-clause-found
returns-then-not-is_empty-2-clause-found c named =
    let four = four_from_reads c.args.words.now c.command-item.result c.site-item.result c.journal-item.result c.lane-item.result (omega arith) c.command-item.is c.site-item.is c.journal-item.is c.lane-item.is in
    let command : string_bytes c.command-item.result ≡ codes "run" = search rules in
    record {
      site = string_bytes c.site-item.result;
      journal = string_bytes c.journal-item.result;
      lane = string_bytes c.lane-item.result;
      spelled = ap (map (string_bytes {Z = Global})) four
          ∙ ap (λ w. w ∷ string_bytes c.site-item.result ∷ string_bytes c.journal-item.result ∷ string_bytes c.lane-item.result ∷ []) command;
      site_named = grind (arith, common_steps);
      journal_named = grind (arith, common_steps);
      lane_named = grind (arith, common_steps);
    }
