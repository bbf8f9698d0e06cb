use Rattle.std.proofs.Common.{◌≤◌, length, map-id, sym, ap, ◌∙◌, subst, arith, inl, inr}
use Rattle.std.proofs.lemmas.Bool.{false≢true}
use Rattle.std.proofs.lemmas.List.{length-append}
use Rattle.rep_fields.specs.Latin.{spaces}
use Rattle.std.specs.Str.{chars}
use Rattle.std.proofs.lemmas.Iterator.{YieldsList-from_chars}
use Rattle.std.proofs.lemmas.Iterator.Consumers.{YieldsList-turn, YieldsList-end}
use Rattle.toml_fields.proofs.Spelled.{IsFrontOf, IsFrontOf-more, IsFrontOf-space, spelled_latin, spelled_space, spelled_from_front}
use Rattle.toml_fields.proofs.latin.read_latin.Goals as goal
use Rattle.toml_fields.proofs.latin.read_latin.Goals.{else-len-via-then-len+else-is_latin, else-len-via-else-len}

pub returns-in_default : goal.returns-in_default
returns-in_default g c = λ text is_text spelled.
    let turn = YieldsList-turn (YieldsList-from_chars c.args.text.now c.utf8.text cc) c.loop-c.yielded _ c.loop-c.yielded_by _ _ c.in-Some.c c.in-Some.is c.next.ensures.steps in
    let latin = spelled_latin g.row.N text c.args.text.now (length c.loop-c.yielded) c.in-Some.c c.utf8.text is_text spelled turn.0 turn.1 in
    c.in_default.ensures (elim latin [ inl ascii ↦ omega arith | inr upper ↦ omega arith ])

pub loop-c-preserved-then-is_latin : goal.loop-c-preserved-then-is_latin
loop-c-preserved-then-is_latin g c =
    rw (c.push.ensures.value, ← c.in-Ok.ensures.1)
    (IsFrontOf-more g.row.N c.loop-c.row c.loop-c.yielded c.in-Ok.byte c.loop-c.invariant (omega arith) (c.is_latin.ensures.0 c.if-is_latin.true))

pub returns-then-byte-ne-SPACE : goal.returns-then-byte-ne-SPACE
returns-then-byte-ne-SPACE g c = λ text is_text spelled.
    let turn = YieldsList-turn (YieldsList-from_chars c.args.text.now c.utf8.text cc) c.loop-c.yielded _ c.loop-c.yielded_by _ _ c.in-Some.c c.in-Some.is c.next.ensures.steps in
    let is_byte = c.in-Ok.ensures.1 in
    elim c.else-len.branch [
      | else-len-via-then-len+else-is_latin w ↦
          let latin = spelled_latin g.row.N text c.args.text.now (length c.loop-c.yielded) c.in-Some.c c.utf8.text is_text spelled turn.0 turn.1 in
          absurd (false≢true (sym w.if-is_latin.false ∙ w.is_latin.ensures.1 (rw is_byte latin)))
      | else-len-via-else-len w ↦
          let whole = ap length c.loop-c.invariant.whole in
          let sum = length-append c.loop-c.row (spaces c.loop-c.invariant.count) in
          c.if-byte-ne-SPACE.true (is_byte ∙ spelled_space g.row.N text c.args.text.now (length c.loop-c.yielded) c.in-Some.c c.utf8.text is_text spelled (omega arith) turn.0 turn.1)
    ]

pub loop-c-preserved : goal.loop-c-preserved
loop-c-preserved g c =
    let is_byte = c.in-Ok.ensures.1 in
    let is_space = c.if-byte-ne-SPACE.false in
    let full : g.row.N ≤ length c.loop-c.row = elim c.else-len.branch [
      | else-len-via-then-len+else-is_latin w ↦ absurd (false≢true (sym w.if-is_latin.false ∙ w.is_latin.ensures.1 (inl (omega arith, omega arith))))
      | else-len-via-else-len w ↦ omega arith
    ] in
    rw (sym is_byte ∙ is_space) (IsFrontOf-space g.row.N c.loop-c.row c.loop-c.yielded c.loop-c.invariant full)

pub returns : goal.returns
returns g c =
    let whole = YieldsList-end (YieldsList-from_chars c.args.text.now c.utf8.text cc) c.loop-c.yielded _ c.loop-c.yielded_by _ _ c.in-None.is c.next.ensures.steps in
    let front : IsFrontOf g.row.N c.loop-c.row (chars c.args.text.now) =
    subst (IsFrontOf g.row.N c.loop-c.row) (sym (map-id c.loop-c.yielded) ∙ whole.0) c.loop-c.invariant in
    spelled_from_front g.row.N c.loop-c.row c.args.text.now c.read.result c.utf8.text front (rw (← c.bytes.ensures.value) c.read.ensures)
