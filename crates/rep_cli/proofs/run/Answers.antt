use Rattle.rep_cli.proofs.run.Goals as goal

pub returns-in-Ok-None-clause-command : goal.returns-in-Ok-None-clause-command
returns-in-Ok-None-clause-command g c on two = c.top.ensures.only_off_grammar two on
