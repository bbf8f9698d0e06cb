use Rattle.std.proofs.Common.{◌≡◌, false, [], length, refl, sym, ap, ◌∙◌, arith}
use Rattle.std.proofs.lemmas.Bool.{eqb-true, eqb-false}
use Rattle.std.proofs.lemmas.List.{nil_from_length}
use Rattle.rep_io.specs.Cutter.{Cutter}
use Rattle.rep_io.proofs.CutterLemmas.{takes-last, Gives-of_line, text-over, Tells-long, Tells-short}
use Rattle.rep_io.proofs.lines.Lines.give_last.Goals as goal
use Rattle.rep_io.proofs.lines.Lines.give_last.Goals.{then-self-gt0, else-self-gt0+then-is_empty, else-self-gt0+else-is_empty}

pub returns-clause-gives : goal.returns-clause-gives
returns-clause-gives g c =
    let s = c.self.inside in
    let left = g.S.Source.left in
    let none = rw (← c.self.view_is) at c.requires.no_end in
    let over = rw (← c.self.view_is) at c.requires.ended in
    let old : Cutter g.row.S.Denot = record { source = s.source; taken = s.taken; passed = s.passed; held = s.window; ended = s.ended } in
    let new : Cutter g.row.S.Denot = record { source = s.source; taken = s.taken; passed = 0; held = c.clear.new.self; ended = s.ended } in
    rw (← c.self.view_is) (λ text u. elim c.if-self-gt0.branch [
      | then-self-gt0 w ↦ rw w.next-is
          (takes-last left old new _ c.self.invariant over none (omega (arith, w.if-self-gt0.true)) refl refl refl c.clear.ensures
          (λ passed long. Tells-long passed s.window false (omega (arith, long, c.self.invariant.long w.if-self-gt0.true))) text u)
      | else-self-gt0+then-is_empty w ↦ rw w.next-is
          (let no_passed : s.passed ≡ 0 = omega (arith, w.if-self-gt0.false) in
          let none_held : s.window ≡ [] =
          nil_from_length s.window (ap length (sym w.bytes.ensures.value) ∙ eqb-true _ 0 (sym w.is_empty.ensures ∙ w.if-is_empty.true)) in (
            text-over left old c.self.invariant (record { ended = over; none_held = none_held; none_passed = no_passed }) text u,
            record { ended = over; none_held = c.clear.ensures; none_passed = refl },
          ))
      | else-self-gt0+else-is_empty w ↦ rw w.next-is
          (let some : length s.window ≡ 0 → ⊥ =
          λ none. eqb-false _ 0 (sym w.is_empty.ensures ∙ w.if-is_empty.false) (ap length w.bytes.ensures.value ∙ none) in
          Gives-of_line left old new w.last_line.result text w.last_line.ensures.of_line
          (takes-last left old new _ c.self.invariant over none (omega (arith, some)) refl refl refl c.clear.ensures
          (λ passed long. Tells-short _ passed s.window false (omega (arith, long, w.if-self-gt0.false))
          (rw w.bytes-else-is_empty.ensures.value at w.last_line.ensures.tells)) text u))
    ])
