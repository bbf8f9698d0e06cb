use Rattle.std.proofs.Common.{◌≡◌, ◌≢◌, [], ◌∷◌, Some, List, ℕ, map, codes, string_bytes, Global, ap, subst, ◌∙◌, rules, arith}
use Rattle.std.proofs.lemmas.Grind.{common_steps}
use Rattle.rep_words.specs.Words.{NamesSome}
use Rattle.rep_words.proofs.Lists.{six_from_reads}
use Rattle.rep_words.proofs.PeriodWords.{extract_only}
use Rattle.rep_words.proofs.words.extract_period.Goals as goal

pub returns-then-not-is_empty-3-clause-found : goal.returns-then-not-is_empty-3-clause-found
returns-then-not-is_empty-3-clause-found c =
    let six = six_from_reads c.args.words.now c.command-item.result c.site-item.result c.journal-item.result c.first-item.result c.last-item.result c.out-item.result (omega arith)
    c.command-item.is c.site-item.is c.journal-item.is c.first-item.is c.last-item.is c.out-item.is in
    let command : string_bytes c.command-item.result ≡ codes "extract" = search rules in
    let first : c.as_bytes.result.now ≡ string_bytes c.first-item.result = c.as_bytes.ensures.value in
    let last : c.as_bytes-then-not-is_empty-3.result.now ≡ string_bytes c.last-item.result = c.as_bytes-then-not-is_empty-3.ensures.value in
    record {
      site = string_bytes c.site-item.result;
      journal = string_bytes c.journal-item.result;
      first = string_bytes c.first-item.result;
      last = string_bytes c.last-item.result;
      out = string_bytes c.out-item.result;
      spelled = ap (map (string_bytes {Z = Global})) six
          ∙ ap (λ w. w ∷ string_bytes c.site-item.result ∷ string_bytes c.journal-item.result ∷ string_bytes c.first-item.result ∷ string_bytes c.last-item.result ∷ string_bytes c.out-item.result ∷ []) command;
      site_named = grind (arith, common_steps);
      journal_named = grind (arith, common_steps);
      out_named = grind (arith, common_steps);
      named = subst (λ (w : List ℕ). NamesSome (string_bytes c.first-item.result) w c.read_period.result) last
          (subst (λ (w : List ℕ). NamesSome w c.as_bytes-then-not-is_empty-3.result.now c.read_period.result) first c.read_period.ensures);
    }

pub returns-then-not-is_empty-3-clause-only : goal.returns-then-not-is_empty-3-clause-only
returns-then-not-is_empty-3-clause-only c period is =
    let six = six_from_reads c.args.words.now c.command-item.result c.site-item.result c.journal-item.result c.first-item.result c.last-item.result c.out-item.result (omega arith)
    c.command-item.is c.site-item.is c.journal-item.is c.first-item.is c.last-item.is c.out-item.is in
    let first : c.as_bytes.result.now ≡ string_bytes c.first-item.result = c.as_bytes.ensures.value in
    let last : c.as_bytes-then-not-is_empty-3.result.now ≡ string_bytes c.last-item.result = c.as_bytes-then-not-is_empty-3.ensures.value in
    ap Some (extract_only _ (string_bytes c.command-item.result) (string_bytes c.site-item.result) (string_bytes c.journal-item.result) (string_bytes c.first-item.result) (string_bytes c.last-item.result) (string_bytes c.out-item.result)
    c.read_period.result period
    (subst (λ (w : List ℕ). NamesSome (string_bytes c.first-item.result) w c.read_period.result) last
    (subst (λ (w : List ℕ). NamesSome w c.as_bytes-then-not-is_empty-3.result.now c.read_period.result) first c.read_period.ensures))
    (ap (map (string_bytes {Z = Global})) six) is)
