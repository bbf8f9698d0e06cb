use Rattle.std.proofs.Common.{◌≡◌, ◌∷◌, List, ℕ, false, sym, ap, ◌∙◌, codes}
use Rattle.std.specs.Str.{bytes_eq}
use Rattle.rep_wire.proofs.AskLemmas.{no_fifth}
use Rattle.rep_wire.proofs.asking.read_mark.Goals as goal

pub returns-in-Some-rest-clause-fault : goal.returns-in-Some-rest-clause-fault
returns-in-Some-rest-clause-fault c =
    let more = rw c.in-Some-rest.is at c.in-Some-next.ensures in
    let online : bytes_eq c.in-Some-next.mode.now (codes "1") ≡ false =
    ap (λ (one : List ℕ). bytes_eq c.in-Some-next.mode.now one) (sym c.as_slice.ensures) ∙ sym c.eq.ensures ∙ c.if-eq.false in
    no_fifth _ c.in-Some.cpf.now c.in-Some-next.mode.now c.in-Some-rest.field-0.now
    (c.in-Some.ensures ∙ ap (λ (fields : List (List ℕ)). c.in-Some.cpf.now ∷ fields) more) online
