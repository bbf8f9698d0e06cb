use Rattle.std.proofs.Common.{ap, arith}
use Rattle.afd_read.specs.Numbered.{line_count}
use Rattle.afd_read.proofs.AfdLemmas.{counted}
use Rattle.afd_read.proofs.afd.Afd.count.Goals as goal

pub overflow_sub-result : goal.overflow_sub-result
overflow_sub-result c =
    let is = counted c.self.inside.bytes.items c.self.inside.bounds.items c.self.inside.head c.self.invariant in
    omega (arith, is.bounds_are, is.some, c.len.ensures)

pub returns-clause-lines : goal.returns-clause-lines
returns-clause-lines c =
    let is = counted c.self.inside.bytes.items c.self.inside.bounds.items c.self.inside.head c.self.invariant in
    omega (arith, is.bounds_are, c.len.ensures, ap line_count c.self.view_is)

pub returns-clause-some : goal.returns-clause-some
returns-clause-some c =
    let is = counted c.self.inside.bytes.items c.self.inside.bounds.items c.self.inside.head c.self.invariant in
    omega (arith, is.bounds_are, is.some, c.len.ensures)

pub returns-clause-in_room : goal.returns-clause-in_room
returns-clause-in_room c =
    let is = counted c.self.inside.bytes.items c.self.inside.bounds.items c.self.inside.head c.self.invariant in
    omega (arith, is.bounds_are, is.in_room, c.len.ensures)
