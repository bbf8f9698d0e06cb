-- the offset that the words of `print` name
use Rattle.std.proofs.Common.{◌≡◌, ◌≢◌, ℕ, List, [], ◌∷◌, codes, Option, None, Some, IfSome, ℤ, ap, ◌∙◌}
use Rattle.rep_fields.specs.Decoding.{Decodes}
use Rattle.rep_fields.specs.Moment.{IsOffset, offset_text}
use Rattle.rep_fields.proofs.StampTexts.{offset_text-injective}
use Rattle.rep_words.specs.Words.{IsPrint}

-- the offset that the last word is, is the zone
pub zone_found : (ws : List (List ℕ)) (lane out zone : List ℕ) (found : Option ℤ) → Decodes IsOffset offset_text zone found
    → ws ≡ codes "print" ∷ lane ∷ out ∷ zone ∷ [] → lane ≢ [] → out ≢ [] → IfSome found (λ z. IsPrint ws z)
zone_found ws lane out zone None read all named written = tt
zone_found ws lane out zone (Some z) read all named written = record {
  lane = lane;
  out = out;
  spelled = all ∙ ap (λ t. codes "print" ∷ lane ∷ out ∷ t ∷ []) read.1;
  lane_named = named;
  out_named = written;
  offset = read.0;
}

-- and there is no other
pub zone_only : (ws : List (List ℕ)) (lane out zone : List ℕ) (found : Option ℤ) → Decodes IsOffset offset_text zone found
    → ws ≡ codes "print" ∷ lane ∷ out ∷ zone ∷ [] → (z : ℤ) → IsPrint ws z → found ≡ Some z
zone_only ws lane out zone None read all z print = absurd (read z print.offset (let e = print.spelled in cc))
zone_only ws lane out zone (Some w) read all z print =
    let same : offset_text w ≡ offset_text z = (let e = print.spelled in let f = read.1 in cc) in
    ap Some (offset_text-injective w z read.0 print.offset same)
