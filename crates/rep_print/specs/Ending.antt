-- How `print` ends: its status, and the last line on the output. This project's own.
use Rattle.std.specs.Prelude.{ℕ, List}
use Rattle.rep_report.specs.Report.{lane_fault_text}
use Rattle.rep_report.specs.Saying.{closing_text, status_of as ending_status, YieldsToOutput}
use Rattle.rep_print.specs.declared.ending.PrintEnding.{PrintEnding}
use Rattle.rep_print.specs.declared.ending.PrintEnding.TheVariants.{NoHead, NoEmployer, Served}

abbrev pub status_of : PrintEnding → ℕ
status_of NoHead = 3
status_of NoEmployer = 3
status_of (Served ending) = ending_status ending

-- the line that says so: the lane is the first, and its line 1 or 2 is refused
abbrev pub last_text : PrintEnding → List ℕ
last_text NoHead = lane_fault_text 1 1
last_text NoEmployer = lane_fault_text 1 2
last_text (Served ending) = closing_text ending

-- an ending that is told only where the counts' line stands wholly
abbrev pub NeedsCounts : PrintEnding → Type 0
NeedsCounts NoHead = Unit {0}
NeedsCounts NoEmployer = Unit {0}
NeedsCounts (Served ending) = YieldsToOutput ending
