use Rattle.std.proofs.Common.{ap, ◌∙◌, arith, length-set}
use Rattle.std.specs.Option.{option_copied}
use Rattle.aej_records.specs.Fields.{fields_behind}
use Rattle.aej_records.proofs.FieldLemmas.{cut_more, cut_full, cut_all}
use Rattle.aej_records.proofs.fields.Fields.of.Goals as goal
use Rattle.aej_records.proofs.fields.Fields.of.Goals.{else-loop-count-test, then-loop-count-test+in_default}

pub loop-count-preserved : goal.loop-count-preserved
loop-count-preserved c =
    let kept = c.loop-count.invariant in
    let more = ap (λ text. fields_behind (option_copied text)) c.in-Some.is ∙ c.cut.ensures in (
      length-set c.loop-count.texts c.loop-count.count c.cut.result.0 ∙ kept.0,
      omega arith,
      cut_more (λ t. t.now) c.loop-count.texts c.loop-count.count c.cut.result.0 _ _ _ (omega arith) kept.2 more,
    )

pub returns : goal.returns
returns c =
    let kept = c.loop-count.invariant in
    elim c.loop-count-test.branch [
      | else-loop-count-test w ↦
          cut_full (λ t. t.now) c.loop-count.texts c.loop-count.count _ _ kept.0 (omega arith) kept.2
      | then-loop-count-test+in_default w ↦
          cut_all (λ t. t.now) c.loop-count.texts c.loop-count.count _ _ kept.0 kept.1
          (ap (λ text. fields_behind (option_copied text)) w.in_default.is) kept.2
    ]
