use Rattle.std.proofs.Common.{arith}
use Rattle.rep_world.proofs.Messages.{message_by}
use Rattle.rep_world.proofs.world.message.Goals as goal

pub returns : goal.returns
returns c = message_by c.args.sent.now c.args.k _ c.get.result (omega arith) c.get.ensures.lookup
