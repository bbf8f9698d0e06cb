use Rattle.std.proofs.Common.{◌≡◌, ℕ, subst}
use Rattle.std.specs.Option.{option_copied}
use Rattle.rep_wire.specs.Fields.{fields_behind}
use Rattle.rep_wire.specs.Asking.{OrdersBehind}
use Rattle.rep_wire.proofs.OrderLemmas.{orders_from}
use Rattle.rep_wire.proofs.reading.order_or_fault.Goals as goal

pub returns-in-Ok-Some-clause-found : goal.returns-in-Ok-Some-clause-found
returns-in-Ok-Some-clause-found c =
    let cuts = rw c.in-Ok-Some.is-1 at c.cut_seq-seq.ensures in
    let told : c.unwrap_or-told.result ≡ c.in-Ok-Some.field-0-1 = rw c.in-Ok-Some.is-1 at c.unwrap_or-told.ensures in
    orders_from c.args.head.now c.args.line.now _ _ c.in-Some.letter c.in-Ok-Some.field-0-1 _ c.in-Ok-Some.order
    c.requires.head c.requires.short c.cut.ensures c.in-Some.ensures.0 c.in-Some.ensures.1 cuts
    (subst (λ (seq : ℕ). OrdersBehind c.args.head.now c.in-Some.letter seq (fields_behind (option_copied c.cut_seq-seq.result.1)) c.in-Ok-Some.order) told c.in-Ok-Some.ensures.ordered)
