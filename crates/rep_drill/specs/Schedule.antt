-- The lines of a schedule, each of which says an event: this project's own.
use Rattle.std.specs.Prelude.{◌≡◌, ℕ, ◌≤◌, ◌<◌, ◌^◌, Bool, true, false, List, [], ◌∷◌, codes, decimal}
use Rattle.rep_fields.specs.Calendar.{IsDay, day_text}
use Rattle.rep_fields.specs.Digits.{numeral}
use Rattle.rep_io.specs.Streams.{IsReading}
use Rattle.rep_disk.specs.declared.image.Image.{Image}
use Rattle.rep_disk.specs.declared.image.Image.TheVariants.{Old, New, Odd}
use Rattle.rep_wire.specs.Fields.{fields_of}
use Rattle.rep_wire.specs.LaneGrammar.{IsLaneHead, Orders}
use Rattle.rep_wire.specs.declared.head.LaneHead.{LaneHead}
use Rattle.rep_wire.specs.declared.request.Request.{Request}
use Rattle.rep_wire.specs.declared.request.Order.TheVariants.{Asked}
use Rattle.rep_world.specs.declared.event.Event.{Event}
use Rattle.rep_world.specs.declared.event.Event.TheVariants.{Send, Deliver, Fail, Crash, Rest, Reopen, Extract}

-- what the pending bytes become
abbrev pub image_text : Image → List ℕ
image_text Old = codes "o"
image_text New = codes "n"
image_text Odd = codes "x"

-- whether the reply is lost
abbrev pub lost_text : Bool → List ℕ
lost_text true = codes "1"
lost_text false = codes "0"

-- a number of 32 bits
abbrev pub IsMessageNumber : ℕ → Type 0
IsMessageNumber k = k < 2 ^ 32

-- the number of a device call of a put
abbrev pub IsCall : ℕ → Type 0
IsCall call = (1 ≤ call) × (call ≤ 4)

-- the head of a lane whose origin and kind are written so
pub record IsHeadBy (origin kind : List ℕ) (head : LaneHead) : Type 0 where
  pub is_head : IsLaneHead head
  pub origin_is : origin ≡ decimal head.origin
  pub kind_is : kind ≡ numeral 2 head.kind

-- A lane with this origin and kind has the line that is written behind them, and it asks this request.
pub record SendsRequest (fields : List (List ℕ)) (q : Request) : Type 0 where
  pub origin : List ℕ
  pub kind : List ℕ
  pub head : LaneHead
  pub is_head : IsHeadBy origin kind head
  pub line : List ℕ
  pub written : fields ≡ codes "S" ∷ origin ∷ kind ∷ fields_of line
  pub asks : Orders head line (Asked q)

-- the fields of a line say the event
abbrev pub SaysFields : List (List ℕ) → Event → Type 0
SaysFields fields (Send q) = SendsRequest fields q
SaysFields fields (Deliver k minute lost) =
    IsMessageNumber k × IsReading minute × (fields ≡ codes "D" ∷ decimal k ∷ decimal minute ∷ lost_text lost ∷ [])
SaysFields fields (Fail k minute call) =
    IsMessageNumber k × IsReading minute × IsCall call
    × (fields ≡ codes "F" ∷ decimal k ∷ decimal minute ∷ decimal call ∷ [])
SaysFields fields (Crash k minute call image) =
    IsMessageNumber k × IsReading minute × IsCall call
    × (fields ≡ codes "K" ∷ decimal k ∷ decimal minute ∷ decimal call ∷ image_text image ∷ [])
SaysFields fields (Rest image) = fields ≡ codes "C" ∷ image_text image ∷ []
SaysFields fields Reopen = fields ≡ codes "O" ∷ []
SaysFields fields (Extract from to minute) =
    IsDay from × IsDay to × (from ≤ to) × IsReading minute
    × (fields ≡ codes "X" ∷ day_text from ∷ day_text to ∷ decimal minute ∷ [])

-- the line says the event: bars stand between its fields
abbrev pub SaysEvent : List ℕ → Event → Type 0
SaysEvent line event = SaysFields (fields_of line) event

-- the fields of a line say no event
abbrev pub SaysNone : List (List ℕ) → Type 0
SaysNone fields = (event : Event) → SaysFields fields event → ⊥
