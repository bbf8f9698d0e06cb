use Rattle.std.proofs.Common.{◌≡◌, []}
use Rattle.rep_turn.proofs.Sessions.{Gathered}
use Rattle.rep_turn.proofs.turn.Turn.close.Given as goal

abbrev pub invariant-loop-pass : goal.invariant-loop-pass
invariant-loop-pass g l = record {
  here : l.seat.table_id ≡ l.initial.seat.table_id;
  bare : l.seat.me.1 ≡ [];
  gathered : Gathered g.B.Held.meaning l.fn.self l.fn.passes.items l.pass-index l.pass-items l.seat.me.0;
}
