use Rattle.std.proofs.Common.{◌≡◌, ℕ, List, [], ◌∷◌, Option, length, get_or, sym, ap, ◌∙◌, subst, codes, decimal, rules}
use Rattle.rep_fields.specs.Decoding.{Decodes}
use Rattle.rep_fields.specs.Digits.{numeral}
use Rattle.rep_wire.specs.Fields.{fields_of}
use Rattle.rep_wire.specs.LaneGrammar.{IsLaneHead, head_text}
use Rattle.rep_wire.specs.declared.head.LaneHead.{LaneHead}
use Rattle.rep_wire.proofs.HeadLemmas.{head_fields, head_text-fields}
use Rattle.rep_wire.proofs.head.read_lane_head.Goals as goal

pub returns-in_err-first : goal.returns-in_err-first
returns-in_err-first c =
    let P : Option LaneHead → Type 0 = λ result. Decodes IsLaneHead head_text c.args.line.now result in
    subst P (sym c.from_residual.ensures)
    (λ head in_range is. c.in_err-first.ensures (ap length (head_fields head c.args.line.now in_range is)))

pub returns-in_err-origin : goal.returns-in_err-origin
returns-in_err-origin c =
    let P : Option LaneHead → Type 0 = λ result. Decodes IsLaneHead head_text c.args.line.now result in
    subst P (sym c.from_residual-in_err-origin.ensures)
    (λ head in_range is.
    let fields = sym c.in_ok-first.ensures ∙ head_fields head c.args.line.now in_range is in
    c.in_err-origin.ensures head.origin in_range.origin (ap (λ (fs : List (List ℕ)). get_or fs 1 []) fields))

pub returns-in_err-kind : goal.returns-in_err-kind
returns-in_err-kind c =
    let P : Option LaneHead → Type 0 = λ result. Decodes IsLaneHead head_text c.args.line.now result in
    subst P (sym c.from_residual-in_err-kind.ensures)
    (λ head in_range is.
    let fields = sym c.in_ok-first.ensures ∙ head_fields head c.args.line.now in_range is in
    c.in_err-kind.ensures head.kind in_range.kind (ap (λ (fs : List (List ℕ)). get_or fs 2 []) fields))

pub returns : goal.returns
returns c =
    let letter : c.in_ok-first.first.now ≡ codes "L" = search rules in
    let fields : fields_of c.args.line.now ≡ codes "L" ∷ decimal c.in_ok-origin.origin ∷ numeral 2 c.in_ok-kind.kind ∷ [] =
    rw (← letter, ← c.in_ok-origin.ensures.1, ← c.in_ok-kind.ensures.1) c.in_ok-first.ensures in (
      record { origin = c.in_ok-origin.ensures.0; kind = c.in_ok-kind.ensures.0; script = c.empty.ensures },
      head_text-fields (record { origin = c.in_ok-origin.origin; kind = c.in_ok-kind.kind; script = c.empty.result }) c.args.line.now fields,
    )
