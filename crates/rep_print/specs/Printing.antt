-- What `print` makes of a lane: the history of its lines, their AFD, and what it writes however it ends. This
-- project's own; the AFD is that of Portaria MTP 671/2021, annex V. What is said of the text holds where it is told.
use Rattle.std.specs.Prelude.{◌≡◌, ◌≢◌, ℕ, suc, ◌<◌, ◌≤◌, ◌⊎◌, List, [], ◌∷◌, ◌++◌, length, take, drop, Option, IfSome, ℤ}
use Rattle.std.specs.List.{concat}
use Rattle.rep_io.specs.Causes.{Rose}
use Rattle.rep_io.specs.Streams.{IsReading}
use Rattle.rep_io.specs.Lines.{lines_of, longest_text}
use Rattle.afd_records.specs.Record.{last_nsr}
use Rattle.rep_wire.specs.LaneGrammar.{Orders, operator}
use Rattle.rep_wire.specs.declared.head.LaneHead.{LaneHead}
use Rattle.rep_wire.specs.declared.request.Ask.{Ask}
use Rattle.rep_wire.specs.declared.request.Ask.TheVariants.{Mark, Employer, Worker, Adjust, Event}
use Rattle.rep_wire.specs.declared.request.Request.{Request}
use Rattle.rep_wire.specs.declared.request.Order.TheVariants.{Asked, Extract}
use Rattle.rep_wire.specs.declared.request.Entry.{Entry}
use Rattle.rep_core.specs.Verdict.{IsVerdict}
use Rattle.rep_core.specs.declared.verdict.Verdict.TheVariants.{Fresh}
use Rattle.rep_report.specs.Report.{run_text}
use Rattle.rep_report.specs.Saying.{IsFront, IsStrictFront}
use Rattle.rep_report.specs.declared.ending.Ending.TheVariants.{AllAnswered, SomeRefused, SourceFault, SinkFault, DeviceFault, ClockFault, OutOfMemory, InputLimit}
use Rattle.rep_lane.specs.LaneText.{ended_lines, IsWithin}
use Rattle.rep_lane.specs.Answers.{LineAnswer, replies_from, receipts_in, refusals_in}
use Rattle.rep_lane.specs.Serving.{ServesLines}
use Rattle.rep_lane.specs.Head.{IsHeadLine}
use Rattle.rep_print.specs.Afd.{IsPrintedFile}
use Rattle.rep_print.specs.Extraction.{rules_at}
use Rattle.rep_print.specs.Ending.{status_of, last_text, NeedsCounts}
use Rattle.rep_print.specs.declared.ending.PrintEnding.{PrintEnding}
use Rattle.rep_print.specs.declared.ending.PrintEnding.TheVariants.{NoHead, NoEmployer, Served}

-- The lane

-- the head of an operator's lane
pub record IsOperatorHead (head : LaneHead) (line : List ℕ) : Type 0 where
  pub head_line : IsHeadLine head line
  pub kind : head.kind ≡ operator

-- there is no first line, or it isn't the head of an operator's lane
abbrev pub HasNoOperatorHead : List (List ℕ) → Type 0
HasNoOperatorHead [] = Unit {0}
HasNoOperatorHead (line ∷ lines) = (head : LaneHead) → IsOperatorHead head line → ⊥

abbrev pub AsksEmployer : Ask → Type 0
AsksEmployer (Mark cpf collector at) = ⊥
AsksEmployer (Employer resp id cno name place) = Unit {0}
AsksEmployer (Worker op cpf name extra resp) = ⊥
AsksEmployer (Adjust before resp) = ⊥
AsksEmployer (Event code) = ⊥

-- the line asks for the employer's record
pub record IsEmployerLine (head : LaneHead) (line : List ℕ) : Type 0 where
  pub request : Request
  pub ordered : Orders head line (Asked request)
  pub asks : AsksEmployer request.ask

-- where there are lines, the first asks for the employer's record
abbrev pub BeginsByEmployer : LaneHead → List (List ℕ) → Type 0
BeginsByEmployer head [] = Unit {0}
BeginsByEmployer head (line ∷ lines) = IsEmployerLine head line

-- there is no line, or the first doesn't ask for the employer's record
abbrev pub LacksEmployer : LaneHead → List (List ℕ) → Type 0
LacksEmployer head [] = Unit {0}
LacksEmployer head (line ∷ lines) = IsEmployerLine head line → ⊥

-- the number of the line behind the head
abbrev pub first_line : ℕ
first_line = 2

-- A run of the command: the lines behind the head that were answered, the readings that the clock gave for them, their
-- answers, and the history that they make.
pub record Run (zone : ℤ) : Type 0 where
  pub head : LaneHead
  pub lines : List (List ℕ)
  pub given : List ℕ
  pub answers : List LineAnswer
  pub history : List Entry
  pub serves : ServesLines (rules_at zone) head [] lines given answers history
  pub begins : BeginsByEmployer head lines

-- the run's lines are the text's, behind an operator's head, and others come behind them
pub record IsRunOf {zone : ℤ} (text : List ℕ) (run : Run zone) : Type 0 where
  pub first : List ℕ
  pub headed : IsOperatorHead run.head first
  pub behind : List (List ℕ)
  pub lines : lines_of text ≡ first ∷ run.lines ++ behind

-- lines were answered only behind a head, in the order of the text
abbrev pub IsInOrder : {zone : ℤ} → Option (List ℕ) → Run zone → Type 0
IsInOrder text run = run.lines ≢ [] → IfSome text (λ t. IsRunOf t run)

-- the text has no line but the head and the run's, and it isn't too long
pub record IsWholeRunOf {zone : ℤ} (text : List ℕ) (run : Run zone) : Type 0 where
  pub of_text : IsRunOf text run
  pub none_behind : of_text.behind ≡ []
  pub short : length text ≤ longest_text

-- every line was answered, line 2 at least
pub record IsAllAnswered {zone : ℤ} (text : Option (List ℕ)) (run : Run zone) : Type 0 where
  pub some : run.lines ≢ []
  pub whole : IfSome text (λ t. IsWholeRunOf t run)

-- the text is too long, and each line was answered that ends among the bytes that a text may have
pub record IsCutOff {zone : ℤ} (text : List ℕ) (run : Run zone) : Type 0 where
  pub long : longest_text < length text
  pub read : ((ended_lines text ≡ 0) × (run.lines ≡ []))
      ⊎ (IsRunOf text run × (ended_lines text ≡ suc (length run.lines)))

-- the line is the text's next behind the run's, and was read within the bytes that a text may have
pub record IsNextLineOf {zone : ℤ} (text : List ℕ) (run : Run zone) (line : List ℕ) : Type 0 where
  pub of_text : IsRunOf text run
  pub rest : List (List ℕ)
  pub next : of_text.behind ≡ line ∷ rest
  pub within : IsWithin (suc (suc (length run.lines))) text

-- The next line asks for a request that is to be recorded; line 2 asks for the employer's record.
pub record IsBeforeRecording {zone : ℤ} (text : Option (List ℕ)) (run : Run zone) : Type 0 where
  pub line : List ℕ
  pub next : IfSome text (λ t. IsNextLineOf t run line)
  pub request : Request
  pub ordered : Orders run.head line (Asked request)
  pub fresh : IsVerdict last_nsr run.history request Fresh
  pub begins : BeginsByEmployer run.head (run.lines ++ line ∷ [])

-- The next line, which isn't line 2, orders an extraction.
pub record IsBeforeExtraction {zone : ℤ} (text : Option (List ℕ)) (run : Run zone) : Type 0 where
  pub line : List ℕ
  pub next : IfSome text (λ t. IsNextLineOf t run line)
  pub seq : ℕ
  pub from : ℕ
  pub to : ℕ
  pub ordered : Orders run.head line (Extract seq from to)
  pub some : run.lines ≢ []

-- the text has no head to begin with, which was seen within the bytes that a text may have
pub record LacksOperatorHead (text : List ℕ) : Type 0 where
  pub no_head : HasNoOperatorHead (lines_of text)
  pub within : IsWithin 1 text

-- there is no head to begin with
pub record IsHeadless {zone : ℤ} (text : Option (List ℕ)) (run : Run zone) : Type 0 where
  pub none : run.lines ≡ []
  pub no_head : IfSome text LacksOperatorHead

-- the text's line 2 isn't the employer's, which was seen within the bytes that a text may have
pub record LacksLineTwo {zone : ℤ} (text : List ℕ) (run : Run zone) : Type 0 where
  pub of_text : IsRunOf text run
  pub lacks : LacksEmployer run.head of_text.behind
  pub within : IsWithin first_line text

-- line 2 isn't the employer's
pub record IsUnfounded {zone : ℤ} (text : Option (List ℕ)) (run : Run zone) : Type 0 where
  pub none : run.lines ≡ []
  pub lacks : IfSome text (λ t. LacksLineTwo t run)

-- What is written

-- the counts' line, where line 2 was answered: so many lines were answered wholly
abbrev pub counts_text : List LineAnswer → ℕ → ℕ → List ℕ
counts_text [] whole last = []
counts_text (a ∷ answers) whole last =
    run_text 1 whole (receipts_in (take whole (a ∷ answers))) (refusals_in (take whole (a ∷ answers))) last

abbrev pub counts_of_run : {zone : ℤ} → Run zone → ℕ → List ℕ
counts_of_run run whole = counts_text run.answers whole (length run.history)

-- the replies and extractions that are due
abbrev pub replies_of : {zone : ℤ} → Run zone → List (List ℕ)
replies_of run = replies_from first_line run.answers

-- What stands on the output: the replies that were written wholly; a front of the next; a front of the counts' line;
-- and a front of what the ending says. The output's faults are counted before, behind the replies, behind the counts'
-- line and now: each of these was written wholly, or the output failed at it.
pub record Says {zone : ℤ} (run : Run zone) (whole : ℕ) (ending : PrintEnding) (before now : ℕ) (said : List ℕ) : Type 0 where
  pub next : List ℕ
  pub counts : List ℕ
  pub fault : List ℕ
  pub bytes : said ≡ concat (take whole (replies_of run)) ++ next ++ counts ++ fault
  pub next_front : IsFront next (concat (drop whole (replies_of run)))
  pub counts_front : IsFront counts (counts_of_run run whole)
  pub fault_front : IsFront fault (last_text ending)
  pub replied : ℕ
  pub counted : ℕ
  pub since : before ≤ replied
  pub between : replied ≤ counted
  pub until : counted ≤ now
  pub replies_whole : (Rose before replied → ⊥) → whole ≡ length run.lines
  pub counts_whole : (Rose replied counted → ⊥) → counts ≡ counts_of_run run whole
  pub fault_whole : (Rose counted now → ⊥) → fault ≡ last_text ending

-- each reply was written wholly, and all was said that is due
pub record SaysAll {zone : ℤ} (run : Run zone) (whole : ℕ) (ending : PrintEnding) (said : List ℕ) : Type 0 where
  pub all_whole : whole ≡ length run.lines
  pub bytes : said ≡ concat (replies_of run) ++ counts_of_run run whole ++ last_text ending

-- the clock was read for the lines alone, and no byte of an AFD was written
pub record WritesNothing {zone : ℤ} (run : Run zone) (given written : List ℕ) : Type 0 where
  pub readings : given ≡ run.given
  pub nothing : written ≡ []

-- The clock was read once more for the AFD, since every line was answered. These bytes of it were written.
pub record WritesFile {zone : ℤ} (text : Option (List ℕ)) (run : Run zone) (given written : List ℕ) : Type 0 where
  pub all_answered : IsAllAnswered text run
  pub minute : ℕ
  pub is_reading : IsReading minute
  pub readings : given ≡ run.given ++ minute ∷ []
  pub file : List ℕ
  pub printed : IsPrintedFile zone run.history minute file
  pub front : IsFront written file

-- every line was answered wholly, and the AFD written wholly
abbrev pub EndsWell : {zone : ℤ} → Option (List ℕ) → Run zone → ℕ → List ℕ → List ℕ → Type 0
EndsWell text run whole given written =
    (whole ≡ length run.lines) × ((writes : WritesFile text run given written) × (written ≡ writes.file))

-- each line that was answered was answered wholly, and no AFD begun
pub record EndsEarly {zone : ℤ} (run : Run zone) (whole : ℕ) (given written : List ℕ) : Type 0 where
  pub all_whole : whole ≡ length run.lines
  pub writes : WritesNothing run given written

-- a reply or an extraction was cut, the one behind those that were written wholly
pub record IsCutAtReply {zone : ℤ} (run : Run zone) (whole : ℕ) (given written next : List ℕ) : Type 0 where
  pub all_but_one : suc whole ≡ length run.lines
  pub writes : WritesNothing run given written
  pub cut : IsStrictFront next (concat (drop whole (replies_of run)))

-- the AFD was cut
pub record IsCutInFile {zone : ℤ} (text : Option (List ℕ)) (run : Run zone) (whole : ℕ) (given written : List ℕ) : Type 0 where
  pub all_whole : whole ≡ length run.lines
  pub writes : WritesFile text run given written
  pub cut : IsStrictFront written writes.file

-- The counts' line was cut, once the AFD stood wholly, or where memory was short for a request that is to be recorded.
pub record IsCutAtCounts {zone : ℤ} (text : Option (List ℕ)) (run : Run zone) (whole : ℕ) (given written counts : List ℕ) : Type 0 where
  pub all_whole : whole ≡ length run.lines
  pub writes : (IsBeforeRecording text run × WritesNothing run given written)
      ⊎ ((file : WritesFile text run given written) × (written ≡ file.file))
  pub cut : IsStrictFront counts (counts_of_run run whole)

-- how the command ends, by its text and by what it wrote: `next` of the reply behind those that were written wholly, and
-- `counts` of the counts' line
abbrev pub EndsBy : {zone : ℤ} → Option (List ℕ) → Run zone → ℕ → List ℕ → List ℕ → List ℕ → List ℕ → PrintEnding → Type 0
EndsBy text run whole given written next counts NoHead = EndsEarly run whole given written × IsHeadless text run
EndsBy text run whole given written next counts NoEmployer = EndsEarly run whole given written × IsUnfounded text run
EndsBy text run whole given written next counts (Served AllAnswered) =
    EndsWell text run whole given written × (refusals_in run.answers ≡ 0)
EndsBy text run whole given written next counts (Served SomeRefused) =
    EndsWell text run whole given written × (0 < refusals_in run.answers)
EndsBy text run whole given written next counts (Served SourceFault) = EndsEarly run whole given written
EndsBy text run whole given written next counts (Served InputLimit) = EndsEarly run whole given written × IfSome text (λ t. IsCutOff t run)
EndsBy text run whole given written next counts (Served ClockFault) =
    EndsEarly run whole given written × (IsBeforeRecording text run ⊎ IsBeforeExtraction text run ⊎ IsAllAnswered text run)
EndsBy text run whole given written next counts (Served OutOfMemory) =
    EndsEarly run whole given written × IsBeforeRecording text run
EndsBy text run whole given written next counts (Served DeviceFault) = ⊥
EndsBy text run whole given written next counts (Served SinkFault) =
    IsCutAtReply run whole given written next ⊎ IsCutInFile text run whole given written
    ⊎ IsCutAtCounts text run whole given written counts

-- nothing of an AFD stands, or all of it
abbrev pub IsWholeOrNone : {zone : ℤ} → Option (List ℕ) → Run zone → List ℕ → List ℕ → Type 0
IsWholeOrNone text run given written =
    WritesNothing run given written ⊎ ((writes : WritesFile text run given written) × (written ≡ writes.file))

-- nothing of the text is refused as a whole: it has an operator's head, line 2 asks for the employer's record, and it
-- isn't too long
pub record IsPrintable (text : List ℕ) : Type 0 where
  pub short : length text ≤ longest_text
  pub first : List ℕ
  pub second : List ℕ
  pub behind : List (List ℕ)
  pub lines : lines_of text ≡ first ∷ second ∷ behind
  pub head : LaneHead
  pub headed : IsOperatorHead head first
  pub employer : IsEmployerLine head second

-- A whole run of the command: from the text to the status, the readings that the clock gave, the bytes of the AFD's
-- file and those of the output. The file's sink may have been left alone, or have failed; the output's faults are counted
-- before and now.
pub record Prints (zone : ℤ) (text : Option (List ℕ)) (status : ℕ) (given written said : List ℕ) (FileUntouched FileFailed : Type 0) (before now : ℕ) : Type 0 where
  pub run : Run zone
  pub whole : ℕ
  pub ending : PrintEnding
  pub status_is : status ≡ status_of ending
  pub in_order : IsInOrder text run
  pub says : Says run whole ending before now said
  pub ends : EndsBy text run whole given written says.next says.counts ending
  pub counted : NeedsCounts ending → says.counts ≡ counts_of_run run whole
  pub said_all : (Rose before now → ⊥) → SaysAll run whole ending said
  pub written_all : (FileFailed → ⊥) → IsWholeOrNone text run given written
  -- where the clock wasn't read for the AFD, its file isn't opened
  pub unopened : given ≡ run.given → FileUntouched
