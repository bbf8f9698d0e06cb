-- What the lines of a lane get, as contracts see it: this project's own.
use Rattle.std.specs.Prelude.{ℕ, suc, ◌+◌, List, [], ◌∷◌, ◌++◌}
use Rattle.rep_wire.specs.Reply.{reply_text, extract_text}
use Rattle.rep_wire.specs.declared.reply.Answer.{Answer}
use Rattle.rep_wire.specs.declared.reply.Answer.TheVariants.{Receipt, Refused}
use Rattle.rep_wire.specs.declared.reply.Reply.{Reply}
use Rattle.rep_lane.specs.declared.answering.Kind.{Kind}
use Rattle.rep_lane.specs.declared.answering.Kind.TheVariants as kind

-- a reply, and the sequence number that is told with it
pub record Answered : Type 0 where
  pub seq : ℕ
  pub reply : Reply

-- an extraction: how many bytes and how many entries its first line tells, and the bytes behind that line
pub record Extracted : Type 0 where
  pub size : ℕ
  pub front : ℕ
  pub afd : List ℕ

-- the bytes of an extraction that the line with this number orders: a line that tells its sequence number, and the AFD
abbrev pub extract_bytes : ℕ → ℕ → Extracted → List ℕ
extract_bytes number seq x = extract_text number seq x.size x.front ++ x.afd

-- what a line gets: a reply, or an extraction with the sequence number that is told with it
pub data LineAnswer : Type 0 where
  replied : Answered → LineAnswer
  extracted : ℕ → Extracted → LineAnswer

-- the bytes that the line with this number gets
abbrev pub answer_bytes : ℕ → LineAnswer → List ℕ
answer_bytes number (replied a) = reply_text number a.seq a.reply
answer_bytes number (extracted seq x) = extract_bytes number seq x

-- what the lines from this number on get
abbrev pub replies_from : ℕ → List LineAnswer → List (List ℕ)
replies_from number [] = []
replies_from number (a ∷ answers) = answer_bytes number a ∷ replies_from (suc number) answers

abbrev pub kind_of_reply : Answer → Kind
kind_of_reply (Receipt slip) = kind.Receipt
kind_of_reply (Refused code) = kind.Refusal

abbrev pub kind_of : LineAnswer → Kind
kind_of (replied a) = kind_of_reply a.reply.answer
kind_of (extracted seq x) = kind.Extraction

-- what an answer of a kind counts for, among the receipts and among the refusals
abbrev pub as_receipt : Kind → ℕ
as_receipt kind.Receipt = 1
as_receipt kind.Refusal = 0
as_receipt kind.Extraction = 0

abbrev pub as_refusal : Kind → ℕ
as_refusal kind.Receipt = 0
as_refusal kind.Refusal = 1
as_refusal kind.Extraction = 0

-- how many of the answers are receipts, and how many refusals
abbrev pub receipts_in : List LineAnswer → ℕ
receipts_in [] = 0
receipts_in (a ∷ answers) = as_receipt (kind_of a) + receipts_in answers

abbrev pub refusals_in : List LineAnswer → ℕ
refusals_in [] = 0
refusals_in (a ∷ answers) = as_refusal (kind_of a) + refusals_in answers
