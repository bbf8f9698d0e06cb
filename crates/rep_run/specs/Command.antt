-- How a command over a journal ends: its status, and the last line on the output. This project's own.
use Rattle.std.specs.Prelude.{ℕ, List}
use Rattle.rep_report.specs.Report.{lane_fault_text, site_text_fault, site_key_fault, foreign_fault, blank_fault, present_fault, damaged_fault}
use Rattle.rep_site.specs.Key.{key_text}
use Rattle.rep_run.specs.declared.refusal.Refusal.{Refusal}
use Rattle.rep_run.specs.declared.refusal.Refusal.TheVariants.{SiteText, SiteField, NoHead, Foreign, Blank, Present, Damaged}

-- a text is refused with status 3, a disk's contents with status 9
abbrev pub status_of : Refusal → ℕ
status_of SiteText = 3
status_of (SiteField key) = 3
status_of NoHead = 3
status_of Foreign = 9
status_of Blank = 9
status_of Present = 9
status_of (Damaged at) = 9

-- the line that says so; the lane is the first, and its head is line 1
abbrev pub refusal_text : Refusal → List ℕ
refusal_text SiteText = site_text_fault
refusal_text (SiteField key) = site_key_fault (key_text key)
refusal_text NoHead = lane_fault_text 1 1
refusal_text Foreign = foreign_fault
refusal_text Blank = blank_fault
refusal_text Present = present_fault
refusal_text (Damaged at) = damaged_fault at
