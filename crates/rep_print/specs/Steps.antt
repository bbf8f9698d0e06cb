-- What the parts of `print` leave: words of this crate's own functions.
use Rattle.std.specs.Prelude.{◌≡◌, ◌≢◌, ◌⊎◌, ℕ, zero, suc, ◌+◌, ◌<◌, ◌≤◌, List, [], ◌∷◌, ◌++◌, length, take, drop, ℤ, Option, IfSome, Result, Ok, Err}
use Rattle.std.specs.List.{concat}
use Rattle.std.specs.Io.KnownBytes.{append_known}
use Rattle.rep_io.specs.Causes.{Rose}
use Rattle.rep_io.specs.Streams.{IsReading}
use Rattle.rep_io.specs.Lines.{lines_of, longest_text}
use Rattle.rep_io.specs.Cutter.{Cutter}
use Rattle.rep_wire.specs.declared.head.LaneHead.{LaneHead}
use Rattle.rep_wire.specs.declared.request.Entry.{Entry}
use Rattle.rep_report.specs.Report.{run_text}
use Rattle.rep_report.specs.Saying.{IsFront, IsStrictFront}
use Rattle.rep_report.specs.declared.ending.Ending.{Ending}
use Rattle.rep_report.specs.declared.ending.Ending.TheVariants.{AllAnswered, SomeRefused, SourceFault, SinkFault, DeviceFault, ClockFault, OutOfMemory, InputLimit}
use Rattle.rep_lane.specs.LaneText.{ended_lines, IsWithin, HasRead}
use Rattle.rep_lane.specs.Answers.{LineAnswer, replies_from, as_receipt, as_refusal, refusals_in}
use Rattle.rep_lane.specs.Line.{AnswersWholly, CutsReply, FailsToAnswer}
use Rattle.rep_lane.specs.Lane.{IsTally, Runs}
use Rattle.rep_lane.specs.declared.answering.Kind.{Kind}
use Rattle.rep_lane.specs.declared.desk.DeskFail.{DeskFail}
use Rattle.rep_lane.specs.declared.desk.DeskFail.TheVariants as fail
use Rattle.rep_lane.specs.declared.lane.End.{End}
use Rattle.rep_lane.specs.declared.lane.End.TheVariants as end
use Rattle.rep_lane.specs.declared.lane.Tally.{Tally}
use Rattle.rep_print.specs.Afd.{IsPrintedFile}
use Rattle.rep_print.specs.Desk.{State, steps_by}
use Rattle.rep_print.specs.Ending.{last_text, NeedsCounts}
use Rattle.rep_print.specs.Printing.{IsOperatorHead, HasNoOperatorHead, IsEmployerLine, LacksEmployer, first_line, Run, IsInOrder, IsAllAnswered, IsCutOff, IsBeforeRecording, IsBeforeExtraction, IsHeadless, IsUnfounded}
use Rattle.rep_print.specs.declared.ending.PrintEnding.{PrintEnding}
use Rattle.rep_print.specs.declared.ending.PrintEnding.TheVariants.{NoHead, NoEmployer, Served}

-- The head

-- how a lane may end at its head
abbrev pub EndsAtHead : PrintEnding → Type 0
EndsAtHead NoHead = Unit {0}
EndsAtHead (Served SourceFault) = Unit {0}
EndsAtHead (Served InputLimit) = Unit {0}
EndsAtHead _ = ⊥

-- what reading the first line says of the text, whatever text it is
abbrev pub HeadsBy : {S : Type 0} → (S → Option (List ℕ)) → Cutter S → List ℕ → Result LaneHead PrintEnding → Type 0
HeadsBy left c text (Ok head) = (first : List ℕ) × IsOperatorHead head first × HasRead left c text (first ∷ [])
HeadsBy left c text (Err NoHead) = HasNoOperatorHead (lines_of text) × IsWithin 1 text
HeadsBy left c text (Err (Served InputLimit)) = (longest_text < length text) × (ended_lines text ≡ 0)
HeadsBy left c text (Err _) = Unit {0}

-- the lane is refused as a whole
abbrev pub IsRefusal : PrintEnding → Type 0
IsRefusal NoHead = Unit {0}
IsRefusal NoEmployer = Unit {0}
IsRefusal (Served ending) = ⊥

-- Line 2

-- the desk and the output stay as they were
pub record Untouched {C : Type 0} (old new : State C) (out_old out_new : Option (List ℕ)) : Type 0 where
  pub same : new ≡ old
  pub said : out_new ≡ out_old

-- the desk failed at line 2, and nothing was written
pub record FailsAtFirst {C : Type 0} (readings : C → Option (List ℕ)) (faults : C → ℕ) (head : LaneHead) (why : DeskFail) (line : List ℕ) (old new : State C)
    (out_old out_new : Option (List ℕ)) : Type 0 where
  pub fails : FailsToAnswer (steps_by readings faults) head why old line [] new
  pub said : out_new ≡ out_old

-- The line asks for the employer's record and was answered so, or the desk failed at it; another one changes nothing.
abbrev pub AnswersFirst : {C : Type 0} → (C → Option (List ℕ)) → (C → ℕ) → LaneHead → List ℕ → State C → State C → Option (List ℕ) → Option (List ℕ)
    → Result Kind PrintEnding → Type 0
AnswersFirst readings faults head line old new out_old out_new (Ok kind) =
    IsEmployerLine head line × AnswersWholly (steps_by readings faults) head first_line line old new out_old out_new kind
AnswersFirst readings faults head line old new out_old out_new (Err NoEmployer) =
    (IsEmployerLine head line → ⊥) × Untouched old new out_old out_new
AnswersFirst readings faults head line old new out_old out_new (Err (Served SinkFault)) =
    IsEmployerLine head line × CutsReply (steps_by readings faults) head first_line line old new out_old out_new
AnswersFirst readings faults head line old new out_old out_new (Err (Served ClockFault)) =
    IsEmployerLine head line × FailsAtFirst readings faults head fail.ClockFault line old new out_old out_new
AnswersFirst readings faults head line old new out_old out_new (Err (Served OutOfMemory)) =
    IsEmployerLine head line × FailsAtFirst readings faults head fail.OutOfMemory line old new out_old out_new
AnswersFirst readings faults head line old new out_old out_new (Err _) = ⊥

-- what is said of each text of which these lines were read before
abbrev pub OfText : {S : Type 0} → (S → Option (List ℕ)) → Cutter S → (List ℕ → List (List ℕ) → Type 0) → Type 0
OfText left c P = (text : List ℕ) (before : List (List ℕ)) → HasRead left c text before → P text before

-- the text's next line, which was read within the bytes that a text may have
pub record IsNext {S : Type 0} (left : S → Option (List ℕ)) (after : Cutter S) (line : List ℕ) (text : List ℕ) (before : List (List ℕ)) : Type 0 where
  pub read : HasRead left after text (before ++ line ∷ [])
  pub within : IsWithin (suc (length before)) text

-- the text's next line is missing, or doesn't ask for the employer's record
pub record LacksNext (head : LaneHead) (text : List ℕ) (before : List (List ℕ)) : Type 0 where
  pub behind : List (List ℕ)
  pub lines : lines_of text ≡ before ++ behind
  pub lacks : LacksEmployer head behind
  pub within : IsWithin (suc (length before)) text

-- the next line was given, and was answered so as the lane's line 2
pub record Founds {S C : Type 0} (left : S → Option (List ℕ)) (readings : C → Option (List ℕ)) (faults : C → ℕ) (head : LaneHead) (c_old c_new : Cutter S)
    (old new : State C) (out_old out_new : Option (List ℕ)) (result : Result Kind PrintEnding) : Type 0 where
  pub line : List ℕ
  pub answers : AnswersFirst readings faults head line old new out_old out_new result
  pub text : OfText left c_old (IsNext left c_new line)

-- what taking line 2 leaves
abbrev pub Begins : {S C : Type 0} → (S → Option (List ℕ)) → (C → Option (List ℕ)) → (C → ℕ) → LaneHead → Cutter S → Cutter S
    → State C → State C → Option (List ℕ) → Option (List ℕ) → Result Kind PrintEnding → Type 0
Begins left readings faults head c_old c_new old new out_old out_new (Ok kind) =
    Founds left readings faults head c_old c_new old new out_old out_new (Ok kind)
Begins left readings faults head c_old c_new old new out_old out_new (Err NoHead) = ⊥
Begins left readings faults head c_old c_new old new out_old out_new (Err NoEmployer) =
    Untouched old new out_old out_new × OfText left c_old (LacksNext head)
Begins left readings faults head c_old c_new old new out_old out_new (Err (Served SourceFault)) = Untouched old new out_old out_new
Begins left readings faults head c_old c_new old new out_old out_new (Err (Served InputLimit)) =
    Untouched old new out_old out_new
    × OfText left c_old (λ text before. (longest_text < length text) × (ended_lines text ≡ length before))
Begins left readings faults head c_old c_new old new out_old out_new (Err (Served AllAnswered)) = ⊥
Begins left readings faults head c_old c_new old new out_old out_new (Err (Served SomeRefused)) = ⊥
Begins left readings faults head c_old c_new old new out_old out_new (Err (Served DeviceFault)) = ⊥
Begins left readings faults head c_old c_new old new out_old out_new (Err (Served SinkFault)) =
    Founds left readings faults head c_old c_new old new out_old out_new (Err (Served SinkFault))
Begins left readings faults head c_old c_new old new out_old out_new (Err (Served ClockFault)) =
    Founds left readings faults head c_old c_new old new out_old out_new (Err (Served ClockFault))
Begins left readings faults head c_old c_new old new out_old out_new (Err (Served OutOfMemory)) =
    Founds left readings faults head c_old c_new old new out_old out_new (Err (Served OutOfMemory))

-- The lane

-- how a lane that was served ends, where so many lines were refused
abbrev pub ending_of : End → ℕ → Ending
ending_of end.Done zero = AllAnswered
ending_of end.Done (suc refused) = SomeRefused
ending_of end.SourceFault refused = SourceFault
ending_of end.InputLimit refused = InputLimit
ending_of end.SinkFault refused = SinkFault
ending_of end.Stopped refused = DeviceFault
ending_of end.DeviceFault refused = DeviceFault
ending_of end.ClockFault refused = ClockFault
ending_of end.OutOfMemory refused = OutOfMemory

-- one line more, at the front
abbrev pub count_first : Kind → Tally → Tally
count_first kind tally = record { lines = suc tally.lines; receipts = as_receipt kind + tally.receipts; refused = as_refusal kind + tally.refused }

-- a run with these answers leaves the desk so
pub record Ran {C : Type 0} (readings : C → Option (List ℕ)) (old new : State C) (answers : List LineAnswer) : Type 0 where
  pub run : Run old.zone
  pub answers_are : run.answers ≡ answers
  pub history : new.history ≡ run.history
  pub readings_are : readings new.clock ≡ append_known (readings old.clock) run.given

-- which answers there are, by how the lane ended
abbrev pub HasAnswers : List LineAnswer → PrintEnding → Type 0
HasAnswers answers NoHead = answers ≡ []
HasAnswers answers NoEmployer = answers ≡ []
HasAnswers answers (Served AllAnswered) = (answers ≢ []) × (refusals_in answers ≡ 0)
HasAnswers answers (Served SomeRefused) = (answers ≢ []) × (0 < refusals_in answers)
HasAnswers answers (Served DeviceFault) = ⊥
HasAnswers answers (Served _) = Unit {0}

-- the replies that were written: each of them wholly, or all but the last
abbrev pub HasReplied : List LineAnswer → ℕ → List ℕ → PrintEnding → Type 0
HasReplied answers whole next ended =
    ((whole ≡ length answers) × (next ≡ []) × (ended ≢ Served SinkFault))
    ⊎ ((suc whole ≡ length answers) × IsStrictFront next (concat (drop whole (replies_from first_line answers))) × (ended ≡ Served SinkFault))

-- what the ending says of the text, whose lines these were, where it is told
abbrev pub EndsLane : {zone : ℤ} → Option (List ℕ) → Run zone → PrintEnding → Type 0
EndsLane text run NoHead = IsHeadless text run
EndsLane text run NoEmployer = IsUnfounded text run
EndsLane text run (Served AllAnswered) = IsAllAnswered text run
EndsLane text run (Served SomeRefused) = IsAllAnswered text run
EndsLane text run (Served SourceFault) = Unit {0}
EndsLane text run (Served SinkFault) = Unit {0}
EndsLane text run (Served DeviceFault) = ⊥
EndsLane text run (Served ClockFault) = IsBeforeRecording text run ⊎ IsBeforeExtraction text run
EndsLane text run (Served OutOfMemory) = IsBeforeRecording text run
EndsLane text run (Served InputLimit) = IfSome text (λ t. IsCutOff t run)

pub record OfLane {C : Type 0} (readings : C → Option (List ℕ)) (old new : State C) (answers : List LineAnswer) (ended : PrintEnding) (text : Option (List ℕ)) : Type 0 where
  pub ran : Ran readings old new answers
  pub in_order : IsInOrder text ran.run
  pub ends : EndsLane text ran.run ended

-- A lane was served, up to its end or as far as it went. `IsText` says which texts it may be; none may be told.
pub record Laned {C : Type 0} (readings : C → Option (List ℕ)) (old new : State C) (out_old out_new : Option (List ℕ)) (tally : Tally) (ended : PrintEnding)
    (IsText : List ℕ → Type 0) : Type 0 where
  pub zone : new.zone ≡ old.zone
  pub answers : List LineAnswer
  pub whole : ℕ
  pub next : List ℕ
  pub said : out_new ≡ append_known out_old (concat (take whole (replies_from first_line answers)) ++ next)
  pub replied : HasReplied answers whole next ended
  pub tally_is : IsTally (take whole answers) tally
  pub has : HasAnswers answers ended
  pub of_lane : (text : Option (List ℕ)) → IfSome text IsText → OfLane readings old new answers ended text

-- the text's head was read, and no line behind it
abbrev pub IsHeaded : {S : Type 0} → (S → Option (List ℕ)) → LaneHead → Cutter S → List ℕ → Type 0
IsHeaded left head c text = (first : List ℕ) × IsOperatorHead head first × HasRead left c text (first ∷ [])

-- the lines behind line 2 were served
abbrev pub GoesOn : {S C : Type 0} → (S → Option (List ℕ)) → (C → Option (List ℕ)) → (C → ℕ) → LaneHead → Kind → Cutter S
    → State C → State C → Option (List ℕ) → Option (List ℕ) → Tally → PrintEnding → Type 0
GoesOn left readings faults head kind c old new out_old out_new tally ended =
    (rest : Tally) × (e : End) × Runs left (steps_by readings faults) head 3 c old new out_old out_new rest e
    × (tally ≡ count_first kind rest) × (ended ≡ Served (ending_of e tally.refused))

-- The AFD

-- at a reading of the clock an AFD of the history was made, and these bytes of it were written
pub record Makes (zone : ℤ) (h : List Entry) (old new file_old file_new : Option (List ℕ)) (bytes : List ℕ) : Type 0 where
  pub minute : ℕ
  pub is_reading : IsReading minute
  pub readings : new ≡ append_known old (minute ∷ [])
  pub file : List ℕ
  pub printed : IsPrintedFile zone h minute file
  pub front : IsFront bytes file
  pub written : file_new ≡ append_known file_old bytes

-- what making the AFD leaves
abbrev pub MakesFile : ℤ → List Entry → Option (List ℕ) → Option (List ℕ) → Option (List ℕ) → Option (List ℕ) → Result (Unit {0}) Ending → Type 0
MakesFile zone h old new file_old file_new (Ok done) =
    (bytes : List ℕ) × (makes : Makes zone h old new file_old file_new bytes) × (bytes ≡ makes.file)
MakesFile zone h old new file_old file_new (Err SinkFault) =
    (bytes : List ℕ) × (makes : Makes zone h old new file_old file_new bytes) × IsStrictFront bytes makes.file
MakesFile zone h old new file_old file_new (Err ClockFault) = (new ≡ old) × (file_new ≡ file_old)
MakesFile zone h old new file_old file_new (Err _) = ⊥

-- every line was answered
abbrev pub IsDone : PrintEnding → Type 0
IsDone (Served AllAnswered) = Unit {0}
IsDone (Served SomeRefused) = Unit {0}
IsDone _ = ⊥

-- The AFD is made where every line was answered; any other ending stays as it is, and so does all else.
abbrev pub Closes : PrintEnding → ℤ → List Entry → Option (List ℕ) → Option (List ℕ) → Option (List ℕ) → Option (List ℕ) → PrintEnding → Type 0
Closes ended zone h old new file_old file_new closed =
    ((IsDone ended → ⊥) × (closed ≡ ended) × (new ≡ old) × (file_new ≡ file_old))
    ⊎ (IsDone ended × (closed ≡ ended) × MakesFile zone h old new file_old file_new (Ok tt))
    ⊎ (IsDone ended × (closed ≡ Served SinkFault) × MakesFile zone h old new file_old file_new (Err SinkFault))
    ⊎ (IsDone ended × (closed ≡ Served ClockFault) × MakesFile zone h old new file_old file_new (Err ClockFault))

-- The last lines

-- the counts' line, where so many entries were recorded
abbrev pub counts_line : ℕ → Tally → List ℕ
counts_line zero tally = []
counts_line (suc n) tally = run_text 1 tally.lines tally.receipts tally.refused (suc n)

-- a lane that was refused has no counts
abbrev pub HasNoCounts : PrintEnding → List ℕ → Type 0
HasNoCounts NoHead counts = counts ≡ []
HasNoCounts NoEmployer counts = counts ≡ []
HasNoCounts (Served ending) counts = Unit {0}

-- How the command ended was said: the counts' line, then what the ending says. The output's faults are counted before,
-- between the two lines and now: each line was said wholly, or the output failed at it.
pub record Told (ended : PrintEnding) (counts : List ℕ) (old new : Option (List ℕ)) (before now : ℕ) (result : PrintEnding) : Type 0 where
  pub put : List ℕ
  pub closing : List ℕ
  pub said : new ≡ append_known old (put ++ closing)
  pub middle : ℕ
  pub since : before ≤ middle
  pub until : middle ≤ now
  pub put_front : IsFront put counts
  pub closing_front : IsFront closing (last_text result)
  pub counted : NeedsCounts result → put ≡ counts
  pub put_whole : (Rose before middle → ⊥) → put ≡ counts
  pub closing_whole : (Rose middle now → ⊥) → closing ≡ last_text result
  pub told : (result ≡ ended) ⊎ ((result ≡ Served SinkFault) × NeedsCounts ended × Rose before middle × IsStrictFront put counts)
