use Rattle.std.proofs.Common.{◌≡◌, true, List, ℕ, [], ◌∷◌, ◌++◌, Ok, Err, refl, sym, ap, subst, ◌∙◌}
use Rattle.rep_disk.specs.Memory.{Listed, Memory}
use Rattle.rep_wire.specs.declared.request.Request.{Request}
use Rattle.rep_world.specs.declared.naming.Naming.{Naming}
use Rattle.rep_world.specs.Events.{Does, IsUnsent}
use Rattle.rep_world.specs.Fields.{IsKept, world_of}
use Rattle.rep_world.specs.Trial.{CountsEach, CrashesOn, SettledOn}
use Rattle.rep_world.specs.World.{World, IsMessage}
use Rattle.rep_world.specs.declared.event.Event.TheVariants.{Crash}
use Rattle.rep_world.specs.declared.event.Seen.TheVariants.{Crashed, Idle}
use Rattle.rep_world.specs.declared.event.WorldStop.TheVariants.{NotSent, OutOfMemory}
use Rattle.rep_world.specs.declared.recorder.Recorder.TheVariants.{Down}
use Rattle.rep_world.proofs.Events.{crash_does, crash_idle, crash_kept, settled_crash}
use Rattle.rep_world.proofs.Messages.{asked_of}
use Rattle.rep_world.proofs.Rooms.{no_memory, room_does, room_kept}
use Rattle.rep_world.proofs.Trials.{counts_of, left_alone-refl}
use Rattle.rep_world.proofs.Worlds.{does_not, is_sent}
use Rattle.rep_world.proofs.world.World.crash.Goals as goal

pub returns-in_default-clause-does : goal.returns-in_default-clause-does
returns-in_default-clause-does c =
    let s = c.self.inside in
    subst (λ (w : World). Does (Crash c.args.k c.args.minute c.args.call c.args.image) w w (Err NotSent)) c.self.view_is
    (does_not (Crash c.args.k c.args.minute c.args.call c.args.image) (world_of s.site s.sent.items s.named.items s.issued.items s.recorder) (subst (λ (qs : List Request). IsUnsent qs c.args.k) c.deref.ensures.value c.in_default.ensures))

pub returns-in_default-bytes_while_up-clause-does : goal.returns-in_default-bytes_while_up-clause-does
returns-in_default-bytes_while_up-clause-does c =
    let s = c.self.inside in
    let message = subst (λ (qs : List Request). IsMessage qs c.args.k c.in-Some.request.now) c.deref.ensures.value c.in-Some.ensures in
    subst (λ (w : World). Does (Crash c.args.k c.args.minute c.args.call c.args.image) w w (Ok Idle)) c.self.view_is
    (crash_idle (world_of s.site s.sent.items s.named.items s.issued.items s.recorder) c.args.k c.args.minute c.args.call c.args.image c.in-Some.request.now message c.in_default-bytes_while_up.ensures)

pub crash-requires-clause-asked : goal.crash-requires-clause-asked
crash-requires-clause-asked c =
    let s = c.self.inside in
    let message = subst (λ (qs : List Request). IsMessage qs c.args.k c.in-Some.request.now) c.deref.ensures.value c.in-Some.ensures in
    asked_of s.sent.items c.args.k c.in-Some.request.now c.self.invariant.asked message

pub returns-in_default-crash-clause-does : goal.returns-in_default-crash-clause-does
returns-in_default-crash-clause-does c =
    let s = c.self.inside in
    let message = subst (λ (qs : List Request). IsMessage qs c.args.k c.in-Some.request.now) c.deref.ensures.value c.in-Some.ensures in
    subst (λ (w : World). Does (Crash c.args.k c.args.minute c.args.call c.args.image) w w (Err OutOfMemory)) c.self.view_is
    (no_memory s.site s.sent.items s.named.items s.issued.items s.recorder c.self.invariant (Crash c.args.k c.args.minute c.args.call c.args.image) (is_sent s.sent.items c.args.k c.in-Some.request.now message))

pub returns-in_default-tried-clause-does : goal.returns-in_default-tried-clause-does
returns-in_default-tried-clause-does c =
    let s = c.self.inside in
    let message = subst (λ (qs : List Request). IsMessage qs c.args.k c.in-Some.request.now) c.deref.ensures.value c.in-Some.ensures in
    let settled : SettledOn s.site c.in-Some.request.now c.in-Some-bytes_while_up.bytes.now = rw c.in_default-tried.is at c.in-Ok.ensures in
    let on = subst (λ (bytes : List ℕ). SettledOn s.site c.in-Some.request.now bytes) c.in-Some-bytes_while_up.ensures.1 settled in
    settled_crash c.args.self.now c.deliver.new.self c.args.k c.args.minute c.args.call c.args.image c.in-Some.request.now c.deliver.result
    (subst (λ (w : World). w.up ≡ true) c.self.view_is c.in-Some-bytes_while_up.ensures.0)
    (subst (λ (w : World). IsMessage w.sent c.args.k c.in-Some.request.now) c.self.view_is message)
    (subst (λ (w : World). SettledOn w.site c.in-Some.request.now w.disk.bytes) c.self.view_is on)
    c.deliver.ensures.does

pub returns-in_default-count-clause-does : goal.returns-in_default-count-clause-does
returns-in_default-count-clause-does c =
    let s = c.self.inside in
    let message = subst (λ (qs : List Request). IsMessage qs c.args.k c.in-Some.request.now) c.deref.ensures.value c.in-Some.ensures in
    subst (λ (w : World). Does (Crash c.args.k c.args.minute c.args.call c.args.image) w w (Err OutOfMemory)) c.self.view_is
    (no_memory s.site s.sent.items s.named.items s.issued.items s.recorder c.self.invariant (Crash c.args.k c.args.minute c.args.call c.args.image) (is_sent s.sent.items c.args.k c.in-Some.request.now message))

pub invariant_of-self : goal.invariant_of-self
invariant_of-self c =
    let s = c.self.inside in
    room_kept s.site s.sent.items s.sent.items s.named.items c.reserve.new.self.items s.issued.items s.issued.items refl c.reserve.ensures.items refl s.recorder s.recorder c.self.invariant (left_alone-refl s.recorder)

pub returns-then-is_err-clause-does : goal.returns-then-is_err-clause-does
returns-then-is_err-clause-does c =
    let s = c.self.inside in
    let message = subst (λ (qs : List Request). IsMessage qs c.args.k c.in-Some.request.now) c.deref.ensures.value c.in-Some.ensures in
    subst (λ (w : World). Does (Crash c.args.k c.args.minute c.args.call c.args.image) w (world_of s.site s.sent.items c.reserve.new.self.items s.issued.items s.recorder) (Err OutOfMemory)) c.self.view_is
    (room_does s.site s.sent.items s.sent.items s.named.items c.reserve.new.self.items s.issued.items s.issued.items refl c.reserve.ensures.items refl s.recorder s.recorder c.self.invariant (Crash c.args.k c.args.minute c.args.call c.args.image) (is_sent s.sent.items c.args.k c.in-Some.request.now message) (left_alone-refl s.recorder))

pub invariant_of-self-2 : goal.invariant_of-self-2
invariant_of-self-2 c =
    let s = c.self.inside in
    let message = subst (λ (qs : List Request). IsMessage qs c.args.k c.in-Some.request.now) c.deref.ensures.value c.in-Some.ensures in
    let named = c.push_reserved.ensures.items ∙ ap (λ (ns : List Naming). ns ++ record { message = c.args.k; minute = c.args.minute } ∷ []) c.reserve.ensures.items in
    let left = c.in-Some-tried.left.items in
    let n = c.in-Ok-count.n in
    let tried : CrashesOn s.site c.args.minute c.args.call c.args.image c.in-Some.request.now c.in-Some-bytes_while_up.bytes.now left = rw c.in-Some-tried.is at c.in-Ok.ensures in
    let crashes = subst (λ (bytes : List ℕ). CrashesOn s.site c.args.minute c.args.call c.args.image c.in-Some.request.now bytes left) c.in-Some-bytes_while_up.ensures.1 tried in
    let each = subst (λ (bytes : List ℕ). CountsEach bytes n) c.deref-2.ensures.value c.in-Ok-count.ensures in
    let counts = counts_of _ left n tried.keeps each in
    let listed : Listed = record { all = c.no_fails.result.all.items; reads = c.no_fails.result.reads.items; writes = c.no_fails.result.writes.items; syncs = c.no_fails.result.syncs.items } in
    subst (λ (d : Memory). IsKept s.site s.sent.items c.push_reserved.new.self.items s.issued.items (Down d)) (sym c.new.ensures.made)
    (crash_kept s.site s.sent.items s.named.items s.issued.items s.recorder c.self.invariant c.in-Some-bytes_while_up.ensures.0 c.args.k c.args.minute c.args.call c.in-Some.request.now message c.push_reserved.new.self.items named c.args.image left crashes listed n counts)

pub returns-clause-does : goal.returns-clause-does
returns-clause-does c =
    let s = c.self.inside in
    let message = subst (λ (qs : List Request). IsMessage qs c.args.k c.in-Some.request.now) c.deref.ensures.value c.in-Some.ensures in
    let named = c.push_reserved.ensures.items ∙ ap (λ (ns : List Naming). ns ++ record { message = c.args.k; minute = c.args.minute } ∷ []) c.reserve.ensures.items in
    let left = c.in-Some-tried.left.items in
    let n = c.in-Ok-count.n in
    let tried : CrashesOn s.site c.args.minute c.args.call c.args.image c.in-Some.request.now c.in-Some-bytes_while_up.bytes.now left = rw c.in-Some-tried.is at c.in-Ok.ensures in
    let crashes = subst (λ (bytes : List ℕ). CrashesOn s.site c.args.minute c.args.call c.args.image c.in-Some.request.now bytes left) c.in-Some-bytes_while_up.ensures.1 tried in
    let each = subst (λ (bytes : List ℕ). CountsEach bytes n) c.deref-2.ensures.value c.in-Ok-count.ensures in
    let counts = counts_of _ left n tried.keeps each in
    let listed : Listed = record { all = c.no_fails.result.all.items; reads = c.no_fails.result.reads.items; writes = c.no_fails.result.writes.items; syncs = c.no_fails.result.syncs.items } in
    subst (λ (w : World). Does (Crash c.args.k c.args.minute c.args.call c.args.image) w (world_of s.site s.sent.items c.push_reserved.new.self.items s.issued.items (Down c.new.result)) (Ok (Crashed n))) c.self.view_is
    (subst (λ (d : Memory). Does (Crash c.args.k c.args.minute c.args.call c.args.image) (world_of s.site s.sent.items s.named.items s.issued.items s.recorder) (world_of s.site s.sent.items c.push_reserved.new.self.items s.issued.items (Down d)) (Ok (Crashed n))) (sym c.new.ensures.made)
    (crash_does s.site s.sent.items s.named.items s.issued.items s.recorder c.self.invariant c.in-Some-bytes_while_up.ensures.0 c.args.k c.args.minute c.args.call c.in-Some.request.now message c.push_reserved.new.self.items named c.args.image left crashes listed n counts))

pub returns-clause-holds : goal.returns-clause-holds
returns-clause-holds c =
    let s = c.self.inside in
    let message = subst (λ (qs : List Request). IsMessage qs c.args.k c.in-Some.request.now) c.deref.ensures.value c.in-Some.ensures in
    let named = c.push_reserved.ensures.items ∙ ap (λ (ns : List Naming). ns ++ record { message = c.args.k; minute = c.args.minute } ∷ []) c.reserve.ensures.items in
    let left = c.in-Some-tried.left.items in
    let n = c.in-Ok-count.n in
    let tried : CrashesOn s.site c.args.minute c.args.call c.args.image c.in-Some.request.now c.in-Some-bytes_while_up.bytes.now left = rw c.in-Some-tried.is at c.in-Ok.ensures in
    let crashes = subst (λ (bytes : List ℕ). CrashesOn s.site c.args.minute c.args.call c.args.image c.in-Some.request.now bytes left) c.in-Some-bytes_while_up.ensures.1 tried in
    let each = subst (λ (bytes : List ℕ). CountsEach bytes n) c.deref-2.ensures.value c.in-Ok-count.ensures in
    let counts = counts_of _ left n tried.keeps each in
    let listed : Listed = record { all = c.no_fails.result.all.items; reads = c.no_fails.result.reads.items; writes = c.no_fails.result.writes.items; syncs = c.no_fails.result.syncs.items } in
    (subst (λ (d : Memory). IsKept s.site s.sent.items c.push_reserved.new.self.items s.issued.items (Down d)) (sym c.new.ensures.made)
    (crash_kept s.site s.sent.items s.named.items s.issued.items s.recorder c.self.invariant c.in-Some-bytes_while_up.ensures.0 c.args.k c.args.minute c.args.call c.in-Some.request.now message c.push_reserved.new.self.items named c.args.image left crashes listed n counts)).world
