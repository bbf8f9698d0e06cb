-- What is said of a drill: this project's own. LF ends each line.
use Rattle.std.specs.Prelude.{ℕ, List, [], ◌∷◌, codes}
use Rattle.std.specs.List.{concat}
use Rattle.rep_report.specs.Report.{barred}
use Rattle.rep_wire.specs.Reply.{reply_text}
use Rattle.rep_wire.specs.declared.reply.Answer.{Answer}
use Rattle.rep_wire.specs.declared.reply.Answer.TheVariants.{Receipt, Refused}
use Rattle.rep_world.specs.declared.event.Seen.{Seen}
use Rattle.rep_world.specs.declared.event.Seen.TheVariants.{Sent, Answered, ReplyLost, Failed, Crashed, AtRest, Opened, Extracted, Idle}

-- a letter and the number of an event
abbrev pub short_text : List ℕ → ℕ → List ℕ
short_text letter event = concat (letter ∷ barred event ∷ codes "\n" ∷ [])

-- the same with another number
abbrev pub long_text : List ℕ → ℕ → ℕ → List ℕ
long_text letter event n = concat (letter ∷ barred event ∷ barred n ∷ codes "\n" ∷ [])

-- what is said of the event with this number
abbrev pub seen_text : ℕ → Seen → List ℕ
seen_text event (Sent k) = long_text (codes "S") event k
seen_text event (Answered seq reply) = reply_text event seq reply
seen_text event ReplyLost = short_text (codes "L") event
seen_text event (Failed n) = long_text (codes "F") event n
seen_text event (Crashed n) = long_text (codes "K") event n
seen_text event (AtRest n) = long_text (codes "C") event n
seen_text event (Opened n) = long_text (codes "O") event n
seen_text event (Extracted bytes) = long_text (codes "X") event bytes
seen_text event Idle = short_text (codes "-") event

abbrev pub IsRefusal : Answer → Type 0
IsRefusal (Receipt slip) = ⊥
IsRefusal (Refused code) = Unit {0}

-- a refusal arrived
abbrev pub SeesRefusal : Seen → Type 0
SeesRefusal (Sent k) = ⊥
SeesRefusal (Answered seq reply) = IsRefusal reply.answer
SeesRefusal ReplyLost = ⊥
SeesRefusal (Failed n) = ⊥
SeesRefusal (Crashed n) = ⊥
SeesRefusal (AtRest n) = ⊥
SeesRefusal (Opened n) = ⊥
SeesRefusal (Extracted bytes) = ⊥
SeesRefusal Idle = ⊥

-- the last line of a schedule that was played: how many events there were, and how many entries the contents have
unfoldable pub drill_text : ℕ → ℕ → List ℕ
drill_text events entries = long_text (codes "DRILL") events entries

-- the line of a schedule's line that is refused
unfoldable pub schedule_fault : ℕ → List ℕ
schedule_fault line = short_text (codes "FAULT|3|SCHEDULE") line
