use Rattle.std.proofs.Common.{◌≡◌, ◌+◌, [], vec_len, vec_capacity}
use Rattle.rep_turn.proofs.Sessions.{Seated, Issued}
use Rattle.rep_turn.proofs.turn.Turn.seat_all.Given as goal

abbrev pub invariant-loop : goal.invariant-loop
invariant-loop g l = record {
  count : vec_len l.passes + 1 ≡ l.counter;
  room : vec_capacity l.passes ≡ vec_capacity l.initial.passes;
  here : l.seat.table_id ≡ l.initial.seat.table_id;
  bare : l.seat.me.1 ≡ [];
  seated : Seated g.B.Held.meaning l.fn.self l.n l.number l.seat.me.0;
  issued : Issued g.B.Held.meaning l.fn.self l.number l.passes.items;
}
