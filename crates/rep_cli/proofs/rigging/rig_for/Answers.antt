use Rattle.std.proofs.Common.{map, string_bytes}
use Rattle.std.specs.Prelude.{option_map}
use Rattle.rep_cli.proofs.RigLemmas.{rigged_if, reads_if, writes_if, keeps_if, uses_if}
use Rattle.rep_cli.proofs.rigging.rig_for.Goals as goal

pub returns-in-Ok-clause-rigged : goal.returns-in-Ok-clause-rigged
returns-in-Ok-clause-rigged g c =
    rigged_if (λ s. s.path.now) (λ s. option_map string_bytes s.path) (λ d. d.file.path.now) (map string_bytes c.args.words.now) c.rig_of.result
    c.in-Ok.errand.command c.in-Ok.errand.texts.items c.in-Ok.errand.outs.items c.in-Ok.errand.disk c.in-Ok.errand.clock
    c.in-Ok.ensures.texts c.in-Ok.ensures.outs c.in-Ok.ensures.disk c.in-Ok.ensures.clock
    c.rig_of.ensures.texts c.rig_of.ensures.outs c.rig_of.ensures.disk c.rig_of.ensures.clock

pub returns-in-Ok-clause-reads : goal.returns-in-Ok-clause-reads
returns-in-Ok-clause-reads g c =
    reads_if (λ s. s.path.now) (λ s. option_map string_bytes s.path) (λ d. d.file.path.now) (map string_bytes c.args.words.now) c.rig_of.result
    c.in-Ok.errand.texts.items c.in-Ok.ensures.texts c.rig_of.ensures.texts

pub returns-in-Ok-clause-writes : goal.returns-in-Ok-clause-writes
returns-in-Ok-clause-writes g c =
    writes_if (λ s. s.path.now) (λ s. option_map string_bytes s.path) (λ d. d.file.path.now) (map string_bytes c.args.words.now) c.rig_of.result
    c.in-Ok.errand.command c.in-Ok.errand.outs.items c.in-Ok.ensures.command c.in-Ok.ensures.outs c.rig_of.ensures.outs

pub returns-in-Ok-clause-keeps : goal.returns-in-Ok-clause-keeps
returns-in-Ok-clause-keeps g c =
    keeps_if (λ s. s.path.now) (λ s. option_map string_bytes s.path) (λ d. d.file.path.now) (map string_bytes c.args.words.now) c.rig_of.result
    c.in-Ok.errand.disk c.in-Ok.ensures.disk c.rig_of.ensures.disk

pub returns-in-Ok-clause-uses : goal.returns-in-Ok-clause-uses
returns-in-Ok-clause-uses g c =
    uses_if (λ s. s.path.now) (λ s. option_map string_bytes s.path) (λ d. d.file.path.now) (map string_bytes c.args.words.now) c.rig_of.result
    (λ d. d.file.access) c.in-Ok.errand.command c.in-Ok.errand.disk c.in-Ok.ensures.command c.in-Ok.ensures.disk c.rig_of.ensures.access
