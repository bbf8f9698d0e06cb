-- the letters of a schedule's lines
use Rattle.std.proofs.Common.{◌≡◌, ℕ, List, [], get_or, ap}
use Rattle.rep_world.specs.declared.event.Event.{Event}
use Rattle.rep_world.specs.declared.event.Event.TheVariants.{Send, Deliver, Fail, Crash, Rest, Reopen, Extract}
use Rattle.rep_drill.specs.Schedule.{SaysFields}

-- the letter of an event's line
abbrev pub letter : Event → ℕ
letter (Send q) = 83
letter (Deliver k minute lost) = 68
letter (Fail k minute call) = 70
letter (Crash k minute call image) = 75
letter (Rest image) = 67
letter Reopen = 79
letter (Extract from to minute) = 88

abbrev pub first_byte : List (List ℕ) → ℕ
first_byte fields = get_or (get_or fields 0 []) 0 0

-- a line begins with the letter of its event
pub has_letter : (fields : List (List ℕ)) (event : Event) → SaysFields fields event → first_byte fields ≡ letter event
has_letter fields (Send q) says = ap first_byte says.written
has_letter fields (Deliver k minute lost) says = ap first_byte says.2
has_letter fields (Fail k minute call) says = ap first_byte says.3
has_letter fields (Crash k minute call image) says = ap first_byte says.3
has_letter fields (Rest image) says = ap first_byte says
has_letter fields Reopen says = ap first_byte says
has_letter fields (Extract from to minute) says = ap first_byte says.4
