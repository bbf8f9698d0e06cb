use Rattle.std.proofs.Common.{◌≡◌, ℕ, List, ◌∷◌, length, ap, ◌∙◌, arith}
use Rattle.std.specs.Option.{option_copied}
use Rattle.rep_wire.specs.Fields.{fields_of, fields_behind}
use Rattle.rep_drill.proofs.Lines.{send_malformed, send_no_head, send_short}
use Rattle.rep_drill.proofs.schedule.read_send.Goals as goal

pub returns-in_default : goal.returns-in_default
returns-in_default c =
    let none = ap length c.in_default.ensures in
    send_short (fields_behind (option_copied c.args.fields)) (omega arith)

pub returns-in_default-next : goal.returns-in_default-next
returns-in_default-next c =
    let all = ap length c.in-Some.ensures in
    let none = ap length c.in_default-next.ensures in
    send_short (fields_behind (option_copied c.args.fields)) (omega arith)

pub returns-in_default-rest : goal.returns-in_default-rest
returns-in_default-rest c =
    let all = ap length c.in-Some.ensures in
    let cut = rw c.in_default-rest.is at c.in-Some-next.ensures in
    let more = ap length cut in
    send_short (fields_behind (option_copied c.args.fields)) (omega arith)

pub returns-in_default-head_of : goal.returns-in_default-head_of
returns-in_default-head_of c =
    let more = rw c.in-Some-rest.is at c.in-Some-next.ensures in
    let all : fields_behind (option_copied c.args.fields) ≡ c.in-Some.origin.now ∷ c.in-Some-next.kind.now ∷ fields_of c.in-Some-rest.line.now =
    c.in-Some.ensures ∙ ap (λ (fs : List (List ℕ)). c.in-Some.origin.now ∷ fs) more in
    send_no_head (fields_behind (option_copied c.args.fields)) c.in-Some.origin.now c.in-Some-next.kind.now c.in-Some-rest.line.now all c.in_default-head_of.ensures

pub returns-in-Err : goal.returns-in-Err
returns-in-Err c =
    let more = rw c.in-Some-rest.is at c.in-Some-next.ensures in
    let all : fields_behind (option_copied c.args.fields) ≡ c.in-Some.origin.now ∷ c.in-Some-next.kind.now ∷ fields_of c.in-Some-rest.line.now =
    c.in-Some.ensures ∙ ap (λ (fs : List (List ℕ)). c.in-Some.origin.now ∷ fs) more in
    send_malformed (fields_behind (option_copied c.args.fields)) c.in-Some.origin.now c.in-Some-next.kind.now c.in-Some-rest.line.now c.in-Some-head_of.head c.read_line.result c.in-Err.field-0
    all c.in-Some-head_of.ensures c.in-Err.is c.read_line.ensures.only
