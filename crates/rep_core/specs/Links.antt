-- The hash chain as a relation between the clockings of a history, and the lines by their numbers: this project's own.
use Rattle.std.specs.Prelude.{◌≡◌, ℕ, ◌-◌, ◌<◌, List, ◌++◌, length, take, slice_get, Some}
use Rattle.afd_records.specs.Record.{payload_text, IsClocking}
use Rattle.afd_records.specs.Line.{record_text}
use Rattle.afd_chain.specs.Chain.{sha_text}
use Rattle.rep_wire.specs.declared.request.Entry.{Entry}
use Rattle.rep_core.specs.History.{IsNumbered}
use Rattle.rep_core.specs.Chained.{last_hash, history_lines}

-- the hash of the last clocking among the entries up to this number: of the clocking itself, where it is one
abbrev pub hash_at : List Entry → ℕ → List ℕ
hash_at h nsr = last_hash (take nsr h)

-- no clocking has a number between the two
abbrev pub NoClockingBetween : List Entry → ℕ → ℕ → Type 0
NoClockingBetween h low high =
    (nsr : ℕ) (e : Entry) → IsNumbered h nsr e → low < nsr → nsr < high → IsClocking e.body → ⊥

-- The first clocking's hash is over its payload alone, and that of each other one over its payload and the hash of the
-- clocking before it, of whatever worker, with whatever other records between.
pub record IsChained (h : List Entry) : Type 0 where
  pub first : (nsr : ℕ) (e : Entry) → IsNumbered h nsr e → IsClocking e.body → NoClockingBetween h 0 nsr
      → hash_at h nsr ≡ sha_text (payload_text nsr e.body)
  pub next : (before nsr : ℕ) (d e : Entry) → IsNumbered h before d → IsNumbered h nsr e → IsClocking d.body
      → IsClocking e.body → before < nsr → NoClockingBetween h before nsr
      → hash_at h nsr ≡ sha_text (payload_text nsr e.body ++ hash_at h before)

-- there is a line for each entry, and it is that of the record with its number and, for a clocking, its hash
pub record HasLines (h : List Entry) : Type 0 where
  pub size : length (history_lines h) ≡ length h
  pub each : (nsr : ℕ) (e : Entry) → IsNumbered h nsr e
      → slice_get (history_lines h) (nsr - 1) ≡ Some (record_text nsr e.body (hash_at h nsr))
