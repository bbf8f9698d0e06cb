-- What a call does to the bytes of a source and of a sink, and to the readings of a clock, where the object tells
-- them: this project's own. Each is an equation between what is told before and after, so that an object tells
-- after a call exactly where it told before.
use Rattle.std.specs.Prelude.{◌≡◌, ℕ, ◌<◌, ◌≤◌, List, [], ◌∷◌, length, take, MatchResult, Result, Option}
use Rattle.std.specs.Io.KnownBytes.{prepend_known, append_known, IsAtEnd}

-- A read that answers n has put the first n bytes that were left into the front of the buffer and taken them
-- off. It answers 0 for a buffer with room only at the end. One that failed has taken nothing.
abbrev pub Reads : {E : Type 0} → Option (List ℕ) → Option (List ℕ) → Result ℕ E → List ℕ → Type 0
Reads old new result into =
    MatchResult result
    (λ n. (n ≤ length into) × (old ≡ prepend_known (take n into) new) × (n ≡ 0 → 0 < length into → IsAtEnd new))
    (λ _. new ≡ old)

-- A write that answers n has appended the first n bytes of the piece, one at least of a piece that isn't empty.
-- One that failed has appended nothing.
abbrev pub Writes : {E : Type 0} → Option (List ℕ) → Option (List ℕ) → Result ℕ E → List ℕ → Type 0
Writes old new result piece =
    MatchResult result
    (λ n. (n ≤ length piece) × (0 < length piece → 0 < n) × (new ≡ append_known old (take n piece)))
    (λ _. new ≡ old)

-- A piece was appended: all of it, or where the sink failed, a front of it that lacks a byte at least.
abbrev pub WritesAll : {E : Type 0} → Option (List ℕ) → Option (List ℕ) → Result (Unit {0}) E → List ℕ → Type 0
WritesAll old new result piece =
    MatchResult result
    (λ _. new ≡ append_known old piece)
    (λ _. (n : ℕ) × (n < length piece) × (new ≡ append_known old (take n piece)))

-- a moment that a clock may answer: whole minutes since 1970-01-01T00:00 UTC, so far inside the range of stamps
-- that the local time at each offset is in that range
abbrev pub first_reading : ℕ
first_reading = 840

abbrev pub last_reading : ℕ
last_reading = 4223370839

abbrev pub IsReading : ℕ → Type 0
IsReading minute = (first_reading ≤ minute) × (minute ≤ last_reading)

-- A clock that answers a minute has given that reading. One that failed has given none.
abbrev pub Ticks : {E : Type 0} → Option (List ℕ) → Option (List ℕ) → Result ℕ E → Type 0
Ticks old new result =
    MatchResult result
    (λ minute. IsReading minute × (new ≡ append_known old (minute ∷ [])))
    (λ _. new ≡ old)
