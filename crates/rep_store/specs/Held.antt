-- What is kept of the journal of a store, and what it stands for: this project's own.
use Rattle.std.specs.Prelude.{[], Option, Some, None, is_some, IsTrue}
use Rattle.std.proofs.lemmas.Bool.{false≢true}
use Rattle.rep_store.specs.Device.{Device, running}
use Rattle.rep_store.specs.declared.device.Held.{Held}
use Rattle.rep_store.specs.declared.device.Held.TheVariants.{Running, Ended}

abbrev pub device_of_held : {D : Type 0} → Held D → Device D
device_of_held (Running journal) = running journal
device_of_held (Ended stop) = record { disk = stop.disk; frames = []; spare = 0; faults = stop.faults; stopped = Some stop.faults }

-- it is there
abbrev pub device_of : {D : Type 0} → (held : Option (Held D)) → IsTrue (is_some held) → Device D
device_of None is_held = absurd (false≢true is_held)
device_of (Some held) is_held = device_of_held held
