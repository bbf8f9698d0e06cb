use Rattle.std.proofs.Common.{◌≡◌, ◌≢◌, [], ◌∷◌, map, codes, string_bytes, Global, ap, ◌∙◌, rules, arith}
use Rattle.std.proofs.lemmas.Grind.{common_steps}
use Rattle.rep_words.proofs.Lists.{four_from_reads}
use Rattle.rep_words.proofs.PeriodWords.{receipt_found, receipt_only}
use Rattle.rep_words.proofs.words.receipt_nsr.Goals as goal

pub returns-then-not-is_empty-2-clause-found : goal.returns-then-not-is_empty-2-clause-found
returns-then-not-is_empty-2-clause-found c =
    let four = four_from_reads c.args.words.now c.command-item.result c.site-item.result c.journal-item.result c.number-item.result (omega arith) c.command-item.is c.site-item.is c.journal-item.is c.number-item.is in
    let command : string_bytes c.command-item.result ≡ codes "receipt" = search rules in
    let site : string_bytes c.site-item.result ≢ [] = grind (arith, common_steps) in
    let journal : string_bytes c.journal-item.result ≢ [] = grind (arith, common_steps) in
    let number = c.as_bytes.ensures.value in
    let spelled : string_bytes c.command-item.result ∷ string_bytes c.site-item.result ∷ string_bytes c.journal-item.result ∷ string_bytes c.number-item.result ∷ []
    ≡ codes "receipt" ∷ string_bytes c.site-item.result ∷ string_bytes c.journal-item.result ∷ c.as_bytes.result.now ∷ [] = cc in
    receipt_found _ _ _ _ _ c.read_nsr.ensures.found (ap (map (string_bytes {Z = Global})) four ∙ spelled) site journal

pub returns-then-not-is_empty-2-clause-only : goal.returns-then-not-is_empty-2-clause-only
returns-then-not-is_empty-2-clause-only c =
    let four = four_from_reads c.args.words.now c.command-item.result c.site-item.result c.journal-item.result c.number-item.result (omega arith) c.command-item.is c.site-item.is c.journal-item.is c.number-item.is in
    let number = c.as_bytes.ensures.value in
    let spelled : string_bytes c.command-item.result ∷ string_bytes c.site-item.result ∷ string_bytes c.journal-item.result ∷ string_bytes c.number-item.result ∷ []
    ≡ string_bytes c.command-item.result ∷ string_bytes c.site-item.result ∷ string_bytes c.journal-item.result ∷ c.as_bytes.result.now ∷ [] = cc in
    receipt_only _ _ _ _ _ _ c.read_nsr.ensures.only (ap (map (string_bytes {Z = Global})) four ∙ spelled)
