use Rattle.rep_drill.proofs.Endings.{concludes}
use Rattle.rep_drill.proofs.playing.conclude.Goals as goal

pub returns : goal.returns
returns g c =
    concludes c.args.events c.args.world.now c.args.ending _ _ _ _ (g.K.Sink.faults c.say_counts-told.new.out) _ c.say_counts-told.result c.close.result
    c.say_counts-told.ensures.sink_later c.close.ensures.sink_later c.say_counts-told.ensures.says c.close.ensures.same c.close.ensures.says
