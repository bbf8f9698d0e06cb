use Rattle.std.proofs.Common.{◌≡◌, subst, sym, take, arith, List}
use Rattle.std.proofs.lemmas.List.{take_all}
use Rattle.rep_wire.specs.declared.request.Entry.{Entry}
use Rattle.rep_core.proofs.Standing.{Stands-own}
use Rattle.rep_print.specs.FileSteps.{IsSpan}
use Rattle.rep_print.proofs.FileLemmas.{take-numbered}
use Rattle.rep_print.proofs.afd.span_of.Goals as goal

pub loop-nsr-init : goal.loop-nsr-init
loop-nsr-init c =
    let stands = Stands-own c.args.core.now in
    let first = c.first_span-span.result in record {
      some = omega arith;
      within = omega (arith, c.requires.some c.args.core.now.entries stands, c.count-count.ensures.value c.args.core.now.entries stands);
      so_far = λ h stands. subst (λ hs. IsSpan hs first.first first.last) (sym (take-numbered h 0 c.entry.result.now (c.entry.ensures.numbered h stands)))
          c.first_span-span.ensures;
    }

pub loop-nsr-preserved : goal.loop-nsr-preserved
loop-nsr-preserved c =
    let next = c.add_entry.new.span in record {
      some = omega arith;
      within = omega (arith, c.loop-nsr-test.true);
      so_far = λ h stands. subst (λ hs. IsSpan hs next.first next.last)
          (sym (take-numbered h c.loop-nsr.nsr c.entry-in-loop-nsr.result.now (c.entry-in-loop-nsr.ensures.numbered h stands)))
          (c.add_entry.ensures (take c.loop-nsr.nsr h) (c.loop-nsr.invariant.so_far h stands));
    }

pub returns : goal.returns
returns c h stands =
    let all : take c.loop-nsr.nsr h ≡ h = take_all c.loop-nsr.nsr h (omega (arith, c.count-count.ensures.value h stands, c.loop-nsr-test.false)) in
    subst (λ (hs : List Entry). IsSpan hs c.loop-nsr.span.first c.loop-nsr.span.last) all (c.loop-nsr.invariant.so_far h stands)
