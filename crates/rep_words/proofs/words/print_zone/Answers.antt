use Rattle.std.proofs.Common.{◌≡◌, ◌≢◌, [], ◌∷◌, map, codes, string_bytes, Global, ap, ◌∙◌, rules, arith}
use Rattle.std.proofs.lemmas.Grind.{common_steps}
use Rattle.rep_words.proofs.Lists.{four_from_reads}
use Rattle.rep_words.proofs.PrintWords.{zone_found, zone_only}
use Rattle.rep_words.proofs.words.print_zone.Goals as goal

pub returns-then-not-is_empty-2-clause-found : goal.returns-then-not-is_empty-2-clause-found
returns-then-not-is_empty-2-clause-found c =
    let four = four_from_reads c.args.words.now c.command-item.result c.lane-item.result c.out-item.result c.zone-item.result (omega arith) c.command-item.is c.lane-item.is c.out-item.is c.zone-item.is in
    let command : string_bytes c.command-item.result ≡ codes "print" = search rules in
    let lane : string_bytes c.lane-item.result ≢ [] = grind (arith, common_steps) in
    let out : string_bytes c.out-item.result ≢ [] = grind (arith, common_steps) in
    let zone = c.as_bytes.ensures.value in
    let spelled : string_bytes c.command-item.result ∷ string_bytes c.lane-item.result ∷ string_bytes c.out-item.result ∷ string_bytes c.zone-item.result ∷ []
    ≡ codes "print" ∷ string_bytes c.lane-item.result ∷ string_bytes c.out-item.result ∷ c.as_bytes.result.now ∷ [] = cc in
    zone_found _ _ _ _ _ c.read_offset.ensures (ap (map (string_bytes {Z = Global})) four ∙ spelled) lane out

pub returns-then-not-is_empty-2-clause-only : goal.returns-then-not-is_empty-2-clause-only
returns-then-not-is_empty-2-clause-only c =
    let four = four_from_reads c.args.words.now c.command-item.result c.lane-item.result c.out-item.result c.zone-item.result (omega arith) c.command-item.is c.lane-item.is c.out-item.is c.zone-item.is in
    let command : string_bytes c.command-item.result ≡ codes "print" = search rules in
    let zone = c.as_bytes.ensures.value in
    let spelled : string_bytes c.command-item.result ∷ string_bytes c.lane-item.result ∷ string_bytes c.out-item.result ∷ string_bytes c.zone-item.result ∷ []
    ≡ codes "print" ∷ string_bytes c.lane-item.result ∷ string_bytes c.out-item.result ∷ c.as_bytes.result.now ∷ [] = cc in
    zone_only _ _ _ _ _ c.read_offset.ensures (ap (map (string_bytes {Z = Global})) four ∙ spelled)
