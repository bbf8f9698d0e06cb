-- How a command that served ends, and what it says on its output: this project's own.
use Rattle.std.specs.Prelude.{◌≡◌, ◌≢◌, ◌⊎◌, ℕ, ◌≤◌, List, [], ◌++◌, Option}
use Rattle.std.specs.Io.KnownBytes.{append_known}
use Rattle.rep_io.specs.Causes.{Rose}
use Rattle.rep_report.specs.Report.{fault_text}
use Rattle.rep_report.specs.declared.ending.Ending.{Ending}
use Rattle.rep_report.specs.declared.ending.Ending.TheVariants.{AllAnswered, SomeRefused, SourceFault, SinkFault, DeviceFault, ClockFault, OutOfMemory, InputLimit}

-- the text begins with the front
abbrev pub IsFront : List ℕ → List ℕ → Type 0
IsFront front text = (rest : List ℕ) × (text ≡ front ++ rest)

-- the text begins with the front, and goes on behind it
abbrev pub IsStrictFront : List ℕ → List ℕ → Type 0
IsStrictFront front text = (rest : List ℕ) × (rest ≢ []) × (text ≡ front ++ rest)

abbrev pub status_of : Ending → ℕ
status_of AllAnswered = 0
status_of SomeRefused = 1
status_of SourceFault = 4
status_of SinkFault = 5
status_of DeviceFault = 6
status_of ClockFault = 7
status_of OutOfMemory = 8
status_of InputLimit = 10

-- the last line, which says the fault
abbrev pub closing_text : Ending → List ℕ
closing_text AllAnswered = []
closing_text SomeRefused = []
closing_text SourceFault = fault_text 4
closing_text SinkFault = fault_text 5
closing_text DeviceFault = fault_text 6
closing_text ClockFault = fault_text 7
closing_text OutOfMemory = fault_text 8
closing_text InputLimit = fault_text 10

-- A fault of a source, of the device, of the clock or of a text's length is told before one of the output; each other
-- ending yields to it.
abbrev pub YieldsToOutput : Ending → Type 0
YieldsToOutput AllAnswered = Unit {0}
YieldsToOutput SomeRefused = Unit {0}
YieldsToOutput OutOfMemory = Unit {0}
YieldsToOutput SourceFault = ⊥
YieldsToOutput SinkFault = ⊥
YieldsToOutput DeviceFault = ⊥
YieldsToOutput ClockFault = ⊥
YieldsToOutput InputLimit = ⊥

-- The text was put whole and the output's count of faults is as it was, or the text was cut and the count rose.
abbrev pub PutsOrFails : List ℕ → Option (List ℕ) → Option (List ℕ) → ℕ → ℕ → Type 0
PutsOrFails text old new before now =
    ((new ≡ append_known old text) × (now ≡ before))
    ⊎ ((put : List ℕ) × IsStrictFront put text × (new ≡ append_known old put) × Rose before now)

-- the line was appended, or where the output failed, a front of it
pub record SaysLine (line : List ℕ) (old new : Option (List ℕ)) (Failed : Type 0) : Type 0 where
  pub put : List ℕ
  pub said : new ≡ append_known old put
  pub front : IsFront put line
  pub whole : (Failed → ⊥) → put ≡ line

-- The ending stays; but one that yields becomes a fault of the output where the counts' line was cut.
abbrev pub Tells : Ending → List ℕ → List ℕ → Type 0 → Ending → Type 0
Tells ending put counts Failed result =
    (result ≡ ending) ⊎ ((result ≡ SinkFault) × YieldsToOutput ending × Failed × IsStrictFront put counts)

-- the counts' line was said, and the command ends so
pub record SaysCounts (ending : Ending) (counts : List ℕ) (old new : Option (List ℕ)) (Failed : Type 0) (result : Ending) : Type 0 where
  pub line : SaysLine counts old new Failed
  pub counted : YieldsToOutput result → line.put ≡ counts
  pub told : Tells ending line.put counts Failed result

-- The counts' line was said, and then what the ending says. The output's faults are counted before, between the two lines
-- and now: each line was said wholly, or the output failed at it.
pub record Concludes (ending : Ending) (counts : List ℕ) (old new : Option (List ℕ)) (before now : ℕ) (result : Ending) : Type 0 where
  pub put : List ℕ
  pub closing : List ℕ
  pub said : new ≡ append_known old (put ++ closing)
  pub middle : ℕ
  pub since : before ≤ middle
  pub until : middle ≤ now
  pub put_front : IsFront put counts
  pub closing_front : IsFront closing (closing_text result)
  pub counted : YieldsToOutput result → put ≡ counts
  pub put_whole : (Rose before middle → ⊥) → put ≡ counts
  pub closing_whole : (Rose middle now → ⊥) → closing ≡ closing_text result
  pub told : Tells ending put counts (Rose before middle) result

-- The counts' line was put, and then what the ending says: each whole without a fault of the output, or cut at one. The
-- output didn't fail at the counts of an ending that would have yielded to that.
pub record PutsEnding (counts : List ℕ) (old new : Option (List ℕ)) (before now : ℕ) (result : Ending) : Type 0 where
  pub between : Option (List ℕ)
  pub middle : ℕ
  pub counts_put : PutsOrFails counts old between before middle
  pub closing_put : PutsOrFails (closing_text result) between new middle now
  pub counted : YieldsToOutput result → (between ≡ append_known old counts) × (middle ≡ before)
