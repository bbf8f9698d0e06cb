use Rattle.afd_read.proofs.LineEndLemmas.{return-by_length}
use Rattle.afd_read.proofs.line_end.ends_in_return.Goals as goal

pub returns : goal.returns
returns c run is_run is =
    let line = c.without_end.ensures.line run is_run is in
    rw (is, line) (return-by_length run.bytes run.ended)
