use Rattle.rep_drill.proofs.schedule.head_of.Goals as goal

pub returns-in_default : goal.returns-in_default
returns-in_default c = λ head is. c.in_default.ensures head.origin is.is_head.origin is.origin_is

pub returns-in_default-read_kind : goal.returns-in_default-read_kind
returns-in_default-read_kind c = λ head is. c.in_default-read_kind.ensures head.kind is.is_head.kind is.kind_is

pub returns : goal.returns
returns c = record {
  is_head = record { origin = c.in-Some.ensures.0; kind = c.in-Some-read_kind.ensures.0; script = c.empty.ensures };
  origin_is = c.in-Some.ensures.1;
  kind_is = c.in-Some-read_kind.ensures.1;
}
