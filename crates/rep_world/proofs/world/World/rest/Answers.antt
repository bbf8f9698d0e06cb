use Rattle.std.proofs.Common.{ℕ, List, Ok, Err, sym, subst}
use Rattle.rep_disk.specs.Memory.{Listed, Memory}
use Rattle.rep_world.specs.Events.{Does}
use Rattle.rep_world.specs.Fields.{IsKept, world_of}
use Rattle.rep_world.specs.Trial.{CountsEach}
use Rattle.rep_world.specs.World.{World}
use Rattle.rep_world.specs.declared.event.Event.TheVariants.{Rest}
use Rattle.rep_world.specs.declared.event.Seen.TheVariants.{AtRest}
use Rattle.rep_world.specs.declared.event.WorldStop.TheVariants.{OutOfMemory}
use Rattle.rep_world.specs.declared.recorder.Recorder.TheVariants.{Down}
use Rattle.rep_world.proofs.Events.{rest_does, rest_kept}
use Rattle.rep_world.proofs.Rooms.{no_memory}
use Rattle.rep_world.proofs.Trials.{counts_kept}
use Rattle.rep_world.proofs.world.World.rest.Goals as goal

pub image_now-requires : goal.image_now-requires
image_now-requires c = (c.self.inside.site, c.self.invariant.runs)

pub returns-in_default-clause-does : goal.returns-in_default-clause-does
returns-in_default-clause-does c =
    let s = c.self.inside in
    subst (λ (w : World). Does (Rest c.args.image) w w (Err OutOfMemory)) c.self.view_is
    (no_memory s.site s.sent.items s.named.items s.issued.items s.recorder c.self.invariant (Rest c.args.image) (λ none. none))

pub returns-in_default-count-clause-does : goal.returns-in_default-count-clause-does
returns-in_default-count-clause-does c =
    let s = c.self.inside in
    subst (λ (w : World). Does (Rest c.args.image) w w (Err OutOfMemory)) c.self.view_is
    (no_memory s.site s.sent.items s.named.items s.issued.items s.recorder c.self.invariant (Rest c.args.image) (λ none. none))

pub invariant_of-self : goal.invariant_of-self
invariant_of-self c =
    let s = c.self.inside in
    let listed : Listed = record { all = c.no_fails.result.all.items; reads = c.no_fails.result.reads.items; writes = c.no_fails.result.writes.items; syncs = c.no_fails.result.syncs.items } in
    let each = subst (λ (bytes : List ℕ). CountsEach bytes c.in-Ok-count.n) c.deref.ensures.value c.in-Ok-count.ensures in
    let counts = counts_kept (world_of s.site s.sent.items s.named.items s.issued.items s.recorder) c.in-Ok.left.items c.in-Ok-count.n (c.self.invariant.world.images c.in-Ok.ensures.early c.in-Ok.left.items c.in-Ok.ensures.allowed) each in
    subst (λ (d : Memory). IsKept s.site s.sent.items s.named.items s.issued.items (Down d)) (sym c.new.ensures.made)
    (rest_kept s.site s.sent.items s.named.items s.issued.items s.recorder c.self.invariant c.args.image c.in-Ok.left.items c.in-Ok.ensures listed c.in-Ok-count.n counts)

pub returns-clause-does : goal.returns-clause-does
returns-clause-does c =
    let s = c.self.inside in
    let listed : Listed = record { all = c.no_fails.result.all.items; reads = c.no_fails.result.reads.items; writes = c.no_fails.result.writes.items; syncs = c.no_fails.result.syncs.items } in
    let each = subst (λ (bytes : List ℕ). CountsEach bytes c.in-Ok-count.n) c.deref.ensures.value c.in-Ok-count.ensures in
    let counts = counts_kept (world_of s.site s.sent.items s.named.items s.issued.items s.recorder) c.in-Ok.left.items c.in-Ok-count.n (c.self.invariant.world.images c.in-Ok.ensures.early c.in-Ok.left.items c.in-Ok.ensures.allowed) each in
    subst (λ (old : World). Does (Rest c.args.image) old (world_of s.site s.sent.items s.named.items s.issued.items (Down c.new.result)) (Ok (AtRest c.in-Ok-count.n))) c.self.view_is
    (subst (λ (d : Memory). Does (Rest c.args.image) (world_of s.site s.sent.items s.named.items s.issued.items s.recorder) (world_of s.site s.sent.items s.named.items s.issued.items (Down d)) (Ok (AtRest c.in-Ok-count.n))) (sym c.new.ensures.made)
    (rest_does s.site s.sent.items s.named.items s.issued.items s.recorder c.self.invariant c.args.image c.in-Ok.left.items c.in-Ok.ensures listed c.in-Ok-count.n counts))

pub returns-clause-holds : goal.returns-clause-holds
returns-clause-holds c =
    let s = c.self.inside in
    let listed : Listed = record { all = c.no_fails.result.all.items; reads = c.no_fails.result.reads.items; writes = c.no_fails.result.writes.items; syncs = c.no_fails.result.syncs.items } in
    let each = subst (λ (bytes : List ℕ). CountsEach bytes c.in-Ok-count.n) c.deref.ensures.value c.in-Ok-count.ensures in
    let counts = counts_kept (world_of s.site s.sent.items s.named.items s.issued.items s.recorder) c.in-Ok.left.items c.in-Ok-count.n (c.self.invariant.world.images c.in-Ok.ensures.early c.in-Ok.left.items c.in-Ok.ensures.allowed) each in
    (subst (λ (d : Memory). IsKept s.site s.sent.items s.named.items s.issued.items (Down d)) (sym c.new.ensures.made)
    (rest_kept s.site s.sent.items s.named.items s.issued.items s.recorder c.self.invariant c.args.image c.in-Ok.left.items c.in-Ok.ensures listed c.in-Ok-count.n counts)).world
