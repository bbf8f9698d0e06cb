use Rattle.std.proofs.Common.{refl}
use Rattle.rep_wire.specs.Fields.{fields_of}
use Rattle.rep_drill.proofs.NextLine.{cuts_one, playable, plays_one, refused_none, refused_unsent}
use Rattle.rep_drill.proofs.playing.play_line.Goals as goal

pub step-requires : goal.step-requires
step-requires g c = playable (fields_of c.args.line.now) c.in-Some.event c.in-Some.ensures.found

pub returns-in_default-clause-plays : goal.returns-in_default-clause-plays
returns-in_default-clause-plays g c = (refl, refl, refused_none c.args.world.now c.args.line.now c.read_event.result c.in_default.is c.read_event.ensures.only)

pub returns-in-Ok-say_seen-clause-plays : goal.returns-in-Ok-say_seen-clause-plays
returns-in-Ok-say_seen-clause-plays g c =
    plays_one c.args.number c.args.line.now c.args.world.now c.step.new.self _ _ c.in-Some.event c.in-Ok.seen c.requires c.in-Some.ensures.found
    c.in-Ok.ensures.does c.step.ensures.holds c.sees_refusal.result c.in-Ok-say_seen.ensures.bytes c.sees_refusal.ensures

pub returns-in-Err-clause-plays : goal.returns-in-Err-clause-plays
returns-in-Err-clause-plays g c =
    let b = c.in-Err.ensures.bytes in
    cuts_one c.args.number c.args.line.now c.args.world.now c.step.new.self _ _ c.in-Some.event c.in-Ok.seen c.requires c.in-Some.ensures.found
    c.in-Ok.ensures.does c.step.ensures.holds b.0 b.1 b.2

pub returns-in-Err-NotSent-clause-plays : goal.returns-in-Err-NotSent-clause-plays
returns-in-Err-NotSent-clause-plays g c =
    (refl, refl, refused_unsent c.args.world.now c.args.line.now c.in-Some.event c.in-Some.ensures.found (c.in-Err-NotSent.ensures.does.not_sent.0 (let is = c.in-Err-NotSent.field-0-is in cc)))
