-- The hash chain and the lines of a history. A clocking's hash is over its payload and the hash of the last clocking
-- before it, of whatever worker, and over no other kind of record: this project's own.
use Rattle.std.specs.Prelude.{ℕ, suc, if◌then◌else◌, List, [], ◌∷◌, ◌++◌, length, reverse}
use Rattle.afd_records.specs.Record.{payload_text, is_clocking}
use Rattle.afd_records.specs.Line.{record_text}
use Rattle.afd_records.specs.declared.record.Body.{Body}
use Rattle.afd_chain.specs.Chain.{sha_text}
use Rattle.rep_wire.specs.declared.request.Entry.{Entry}

-- the hash of the last clocking of a history whose newest entry stands first, or nothing where there is none
unfoldable pub newest_hash : List Entry → List ℕ
newest_hash [] = []
newest_hash (e ∷ older) =
    if is_clocking e.body then sha_text (payload_text (suc (length older)) e.body ++ newest_hash older)
    else newest_hash older

-- the hash of the last clocking, or nothing where there is none
abbrev pub last_hash : List Entry → List ℕ
last_hash h = newest_hash (reverse h)

-- the hash that a record has behind a history: that of its payload and of the last clocking's hash, for a clocking
abbrev pub next_hash : List Entry → Body → List ℕ
next_hash h body =
    if is_clocking body then sha_text (payload_text (suc (length h)) body ++ last_hash h) else []

-- the line that a record has behind a history
abbrev pub next_line : List Entry → Body → List ℕ
next_line h body = record_text (suc (length h)) body (next_hash h body)

-- the line of the newest entry
abbrev pub newest_line : Entry → List Entry → List ℕ
newest_line e older =
    record_text (suc (length older)) e.body (if is_clocking e.body then newest_hash (e ∷ older) else [])

-- the lines of a history whose newest entry stands first, by number
unfoldable pub lines_to : List Entry → List (List ℕ)
lines_to [] = []
lines_to (e ∷ older) = lines_to older ++ newest_line e older ∷ []

-- the lines of a history, by number
abbrev pub history_lines : List Entry → List (List ℕ)
history_lines h = lines_to (reverse h)
