use Rattle.rep_io.specs.MemSource.{pieces_from}
use Rattle.rep_io.proofs.MemSourceLemmas.{reads-first, pieces_from-more}
use Rattle.rep_io.proofs.mem_source.MemSourceSource.read.Goals as goal

pub returns-clause-bytes : goal.returns-clause-bytes
returns-clause-bytes c =
    let s = c.self.inside in
    let place = c.first_unused-piece.result in
    let full = pieces_from s.pieces.items place.0 place.1 in
    let same = rw c.deref.ensures.value at c.first_unused-piece.ensures.same in
    let first = rw c.deref-2.ensures.value at c.rest_of.ensures.value in
    rw (← c.self.view_is)
    (reads-first (pieces_from s.pieces.items s.piece s.at) full _ c.copy_front-count.new.into c.rest_of.result.now c.copy_front-count.result same first
    (pieces_from-more s.pieces.items place.0 place.1 c.copy_front-count.result) c.copy_front-count.ensures.count c.copy_front-count.ensures.copied)
