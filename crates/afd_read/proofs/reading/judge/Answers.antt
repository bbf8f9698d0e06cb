use Rattle.std.proofs.Common.{ℕ, List, refl, subst}
use Rattle.afd_read.specs.Beginning.{IsNoHead}
use Rattle.afd_read.proofs.reading.judge.Goals as goal

pub returns-in-Err-clause-refusal : goal.returns-in-Err-clause-refusal
returns-in-Err-clause-refusal c = (
  refl,
  subst (λ (line : List ℕ). IsNoHead line c.in-Err.bad.field) c.first_line.ensures
      (record {
        unknown = λ no. let same = c.in-Err.ensures.unknown no in cc;
        first = λ laid_out. c.in-Err.ensures.first laid_out;
      }),
)
