-- What the readers of the fields behind a line's second answer: this project's own.
use Rattle.std.specs.Prelude.{◌≡◌, ◌≢◌, ℕ, ◌≤◌, List, [], ◌∷◌, length, decimal, Option, Some, None}
use Rattle.rep_fields.specs.Calendar.{IsDay, day_text}
use Rattle.rep_fields.specs.Decoding.{Decodes}
use Rattle.rep_wire.specs.Request.{IsSeq, IsAsk}
use Rattle.rep_wire.specs.LaneGrammar.{kinds_of, IsFirstOff, letter_of, SaysAsk, HasCollector}
use Rattle.rep_wire.specs.declared.head.LaneHead.{LaneHead}
use Rattle.rep_wire.specs.declared.letter.Letter.{Letter}
use Rattle.rep_wire.specs.declared.letter.Letter.TheVariants as letter
use Rattle.rep_wire.specs.declared.request.Ask.{Ask}
use Rattle.rep_wire.specs.declared.request.Ask.TheVariants.{Mark, Employer, Worker, Adjust, Event}
use Rattle.rep_wire.specs.declared.request.Order.{Order}
use Rattle.rep_wire.specs.declared.request.Order.TheVariants.{Asked, Extract}
use Rattle.rep_wire.specs.declared.asking.Fault.{Fault}
use Rattle.rep_wire.specs.declared.asking.Fault.TheVariants.{Number, Field}

-- the fields ask this
pub record Asks (letter : Letter) (behind : List (List ℕ)) (ask : Ask) : Type 0 where
  pub in_range : IsAsk ask
  pub of_letter : letter_of ask ≡ letter
  pub said : SaysAsk ask behind

-- the fields name a period
pub record AsksPeriod (behind : List (List ℕ)) (from to : ℕ) : Type 0 where
  pub first : IsDay from
  pub last : IsDay to
  pub in_order : from ≤ to
  pub said : behind ≡ day_text from ∷ day_text to ∷ []

-- the fields behind the second of a line with this letter say the order, but for its number
abbrev pub OrdersBehind : LaneHead → Letter → ℕ → List (List ℕ) → Order → Type 0
OrdersBehind head sent seq behind (Asked q) =
    Asks sent behind q.ask × HasCollector head q.ask × (q.origin ≡ head.origin) × (q.seq ≡ seq)
OrdersBehind head sent seq behind (Extract number from to) =
    (sent ≡ letter.Extract) × (number ≡ seq) × AsksPeriod behind from to

-- the fields ask nothing: their number isn't the letter's, or one is the first that isn't of its kind
abbrev pub IsFault : Letter → List (List ℕ) → Fault → Type 0
IsFault letter behind Number = length behind ≢ length (kinds_of letter behind)
IsFault letter behind (Field number) =
    (length behind ≡ length (kinds_of letter behind)) × IsFirstOff 3 (kinds_of letter behind) behind number

-- the sequence number that the first of the fields is, and the fields behind it
abbrev pub CutsSeq : List (List ℕ) → Option ℕ → List (List ℕ) → Type 0
CutsSeq [] seq behind = (seq ≡ None) × (behind ≡ [])
CutsSeq (second ∷ rest) seq behind = Decodes IsSeq decimal second seq × (behind ≡ rest)

-- the collector of a clocking
abbrev pub collector_in : Ask → Option ℕ
collector_in (Mark cpf collector at) = Some collector
collector_in (Employer resp id cno name place) = None
collector_in (Worker op cpf name extra resp) = None
collector_in (Adjust before resp) = None
collector_in (Event code) = None
