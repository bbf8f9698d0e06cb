use Rattle.std.proofs.Common.{arith}
use Rattle.rep_journal.proofs.ReadLemmas.{settled_on}
use Rattle.rep_journal.proofs.journal.Journal.reserve.Goals as goal

pub invariant_of-self-in_err-reserve-2 : goal.invariant_of-self-in_err-reserve-2
invariant_of-self-in_err-reserve-2 g c =
    let list = c.self.invariant.list_room in
    let more = c.reserve.ensures.room in
    let disk = c.self.invariant.disk_room in
    let spare = c.reserve-2.ensures.spare in
    let settled = settled_on c.self.inside.list.frames c.reserve.new.self.frames (g.D.Disk.shown c.self.inside.disk) (g.D.Disk.shown c.reserve-2.new.self) c.reserve.ensures.frames c.reserve-2.ensures.untouched c.self.invariant.settled in
    record { settled = settled; list_room = omega arith; disk_room = omega arith }

pub invariant_of-self-2 : goal.invariant_of-self-2
invariant_of-self-2 g c =
    let list = c.in_ok-reserve.ensures.made in
    let disk = c.in_ok-reserve-2.ensures.made in
    let settled = settled_on c.self.inside.list.frames c.reserve.new.self.frames (g.D.Disk.shown c.self.inside.disk) (g.D.Disk.shown c.reserve-2.new.self) c.reserve.ensures.frames c.reserve-2.ensures.untouched c.self.invariant.settled in
    record { settled = settled; list_room = omega arith; disk_room = omega arith }
