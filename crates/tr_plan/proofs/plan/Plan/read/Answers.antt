use Rattle.toml.specs.View.{table_view}
use Rattle.tr_plan.proofs.PlanLemmas.{answer_in_range, answer_not_toml, answer_first_fault, answer_found, answer_refused}
use Rattle.tr_plan.proofs.plan.Plan.read.Goals as goal

pub returns-clause-in_range : goal.returns-clause-in_range
returns-clause-in_range c =
    answer_in_range c.args.text.now (table_view c.in-Ok.table) c.in-Ok.ensures.ok c.plan_of.result c.plan_of.ensures.ok

pub returns-clause-not_toml : goal.returns-clause-not_toml
returns-clause-not_toml c =
    answer_not_toml c.args.text.now (table_view c.in-Ok.table) c.in-Ok.ensures.ok c.plan_of.result c.plan_of.ensures.off

pub returns-clause-first_fault : goal.returns-clause-first_fault
returns-clause-first_fault c =
    answer_first_fault c.args.text.now (table_view c.in-Ok.table) c.in-Ok.ensures.ok c.plan_of.result c.plan_of.ensures.off

pub returns-clause-found : goal.returns-clause-found
returns-clause-found c =
    answer_found c.args.text.now (table_view c.in-Ok.table) c.in-Ok.ensures.ok c.plan_of.result c.plan_of.ensures.ok c.plan_of.ensures.off

pub returns-clause-no_toml : goal.returns-clause-no_toml
returns-clause-no_toml c = λ none. absurd (none (table_view c.in-Ok.table) c.in-Ok.ensures.ok)

pub returns-clause-refused : goal.returns-clause-refused
returns-clause-refused c =
    answer_refused c.args.text.now (table_view c.in-Ok.table) c.in-Ok.ensures.ok c.plan_of.result c.plan_of.ensures.ok c.plan_of.ensures.off
