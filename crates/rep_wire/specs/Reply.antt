-- The reply lines of a lane: this project's own. Fields stand between bars, numbers have no zeros in front but for
-- a code's two digits, and LF ends a line.
use Rattle.std.specs.Prelude.{ℕ, List, [], ◌∷◌, codes, decimal, Option, Some, None}
use Rattle.std.specs.List.{concat}
use Rattle.rep_fields.specs.Moment.{Moment, moment_text}
use Rattle.rep_wire.specs.declared.reply.Code.{Code}
use Rattle.rep_wire.specs.declared.reply.Code.TheVariants.{Malformed, Unregistered, Conflict, Exhausted, LinkLost}
use Rattle.rep_wire.specs.declared.reply.Answer.{Answer}
use Rattle.rep_wire.specs.declared.reply.Answer.TheVariants.{Receipt, Refused}
use Rattle.rep_wire.specs.declared.reply.Reply.{Reply}

abbrev pub code_text : Code → List ℕ
code_text (Malformed field) = codes "01"
code_text Unregistered = codes "02"
code_text (Conflict nsr) = codes "03"
code_text Exhausted = codes "04"
code_text LinkLost = codes "08"

-- a stamp that may be missing
abbrev pub marked_text : Option Moment → List ℕ
marked_text None = []
marked_text (Some moment) = moment_text moment

-- a hash that may be missing
abbrev pub hash_text : Option (List ℕ) → List ℕ
hash_text None = []
hash_text (Some hash) = hash

-- the fields of a reply between the request's and the front
abbrev pub answer_text : Answer → List ℕ
answer_text (Receipt slip) =
    concat (decimal slip.nsr ∷ codes "|" ∷ marked_text slip.marked ∷ codes "|" ∷ moment_text slip.recorded ∷ codes "|"
    ∷ hash_text slip.hash ∷ [])
answer_text (Refused code) = code_text code

-- `R` for a receipt, `N` for a refusal
abbrev pub answer_letter : Answer → List ℕ
answer_letter (Receipt slip) = codes "R"
answer_letter (Refused code) = codes "N"

-- the reply to the line of a number that has a sequence number
unfoldable pub reply_text : ℕ → ℕ → Reply → List ℕ
reply_text line seq reply =
    concat (answer_letter reply.answer ∷ codes "|" ∷ decimal line ∷ codes "|" ∷ decimal seq ∷ codes "|"
    ∷ answer_text reply.answer ∷ codes "|" ∷ decimal reply.front ∷ codes "\n" ∷ [])

-- the line before the bytes of an extraction
unfoldable pub extract_text : ℕ → ℕ → ℕ → ℕ → List ℕ
extract_text line seq bytes front =
    concat (codes "F|" ∷ decimal line ∷ codes "|" ∷ decimal seq ∷ codes "|" ∷ decimal bytes ∷ codes "|"
    ∷ decimal front ∷ codes "\n" ∷ [])
