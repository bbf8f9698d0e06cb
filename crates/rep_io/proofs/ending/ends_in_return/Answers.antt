use Rattle.std.proofs.Common.{◌≡◌, ◌<◌, ◌-◌, length, get_or, eqb, ap, sym, ◌∙◌}
use Rattle.rep_io.proofs.LineLemmas.{ends_in_return-last}
use Rattle.rep_io.proofs.ending.ends_in_return.Goals as goal

pub returns-in-Some-clause-value : goal.returns-in-Some-clause-value
returns-in-Some-clause-value c =
    let bytes = c.args.bytes.now in
    let some : 0 < length bytes = c.in-Some.ensures.item.3.0 in
    let is : c.in-Some.field-0.now ≡ get_or bytes (length bytes - 1) 0 = c.in-Some.ensures.item.3.1 0 in
    ap (λ b. eqb b 13) is ∙ sym (ends_in_return-last bytes some)
