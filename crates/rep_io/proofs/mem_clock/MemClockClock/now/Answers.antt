use Rattle.std.proofs.Common.{◌≡◌, ◌-◌, ◌<◌, min, length, get_or, sym, ap, ◌∙◌, arith, Some, ◌∷◌, [], ◌++◌, zero-add}
use Rattle.std.proofs.lemmas.List.{get_or_read}
use Rattle.std.proofs.lemmas.List.Elements.{All-get_or}
use Rattle.std.proofs.lemmas.List.FromFn.{map-range_with_len_more}
use Rattle.rep_io.specs.MemClock.{reading_at, readings_of}
use Rattle.rep_io.specs.Streams.{IsReading}
use Rattle.rep_io.proofs.mem_clock.MemClockClock.now.Goals as goal

pub returns-clause-reading : goal.returns-clause-reading
returns-clause-reading c =
    let script = c.self.inside.readings.items in
    let given = c.self.inside.given in
    let at = min (length script - 1) given in
    let within : at < length script = omega (arith, c.self.invariant.0, c.self.inside.readings.ok.0) in
    let count : c.len-last.result ≡ length script = omega (arith, c.self.inside.readings.ok.0) in
    let place : c.min-index.result ≡ at = c.min-index.ensures ∙ ap (λ n. min (n - 1) given) count in
    let read = c.index.ensures ∙ ap (λ n. get_or script n c.index.result.now) place in
    let is : c.index.result.now ≡ reading_at script given = get_or_read script at c.index.result.now within read 0 in
    rw (← c.self.view_is) (
      rw is (All-get_or IsReading script at 0 within c.self.invariant.1),
      ap Some (map-range_with_len_more (reading_at script) 0 given given (zero-add given) ∙ ap (λ m. readings_of script given ++ m ∷ []) (sym is)),
    )
