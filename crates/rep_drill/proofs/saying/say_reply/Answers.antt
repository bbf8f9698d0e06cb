use Rattle.std.proofs.Common.{List, ℕ, subst, ◌∙◌}
use Rattle.rep_io.specs.Streams.{WritesAll}
use Rattle.rep_drill.proofs.saying.say_reply.Goals as goal

pub returns-clause-bytes : goal.returns-clause-bytes
returns-clause-bytes g c =
    subst (λ (piece : List ℕ). WritesAll (g.K.Sink.written c.args.out.now) (g.K.Sink.written c.put_all.new.sink) c.put_all.result piece)
    (c.bytes.ensures.value ∙ c.reply_line.ensures) c.put_all.ensures.bytes
