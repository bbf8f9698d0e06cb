-- How the core keeps the hashes of a history: this project's own.
use Rattle.std.specs.Prelude.{◌≡◌, ℕ, suc, ◌<◌, ◌≤◌, if◌then◌else◌, List, [], length, slice_index_or, Option, Some, None}
use Rattle.afd_records.specs.Record.{last_nsr, payload_text, is_clocking, HasText}
use Rattle.afd_records.specs.Line.{IsHashText, HasHash}
use Rattle.afd_records.specs.declared.record.Body.{Body}
use Rattle.afd_chain.specs.Chain.{link_text}
use Rattle.rep_wire.specs.declared.request.Entry.{Entry}
use Rattle.rep_core.specs.Chained.{last_hash, next_hash}
use Rattle.rep_core.specs.Answered.{hash_in}

-- the hash that a history ends with, or none where there is no clocking
abbrev pub IsTip : Option (List ℕ) → List ℕ → Type 0
IsTip None hash = hash ≡ []
IsTip (Some text) hash = (text ≡ hash) × IsHashText text

-- the hash that a record has behind a history: a clocking has one, and no other record
abbrev pub hash_behind : List Entry → Body → Option (List ℕ)
hash_behind h body = if is_clocking body then Some (next_hash h body) else None

-- the hash that a record with this number has where the hash before it is given
abbrev pub linked : ℕ → Body → Option (List ℕ) → Option (List ℕ)
linked nsr body before = if is_clocking body then Some (link_text (payload_text nsr body) before) else None

-- what is kept beside an entry: its hash as its receipt has it
pub record HasItsHash (h : List Entry) (nsr : ℕ) (e : Entry) (hash : Option (List ℕ)) : Type 0 where
  pub text : HasText e.body
  pub is : hash ≡ hash_in h nsr e.body
  pub given : HasHash e.body hash

-- the hash of each entry
pub record AreHashes (hashes : List (Option (List ℕ))) (h : List Entry) : Type 0 where
  pub size : length hashes ≡ length h
  pub each : (i : ℕ) (other : Option (List ℕ)) (e : Entry) → i < length h
      → HasItsHash h (suc i) (slice_index_or h i e) (slice_index_or hashes i other)

-- the core's lists belong together, and each entry has a number
pub record IsInStep (h : List Entry) (hashes : List (Option (List ℕ))) (tip : Option (List ℕ)) : Type 0 where
  pub numbers : length h ≤ last_nsr
  pub hashes_are : AreHashes hashes h
  pub tip_is : IsTip tip (last_hash h)
