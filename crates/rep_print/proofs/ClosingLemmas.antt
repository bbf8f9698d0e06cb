-- how the AFD is made, and how the last lines on the output are said
use Rattle.std.proofs.Common.{◌≡◌, ℕ, ◌≤◌, inl, List, [], ◌∷◌, Option, Ok, Err, ℤ, refl, sym, subst, ◌∙◌, append-nil, arith}
use Rattle.std.specs.Io.KnownBytes.{append_known}
use Rattle.rep_io.specs.Causes.{Rose}
use Rattle.rep_io.specs.Streams.{IsReading}
use Rattle.rep_wire.specs.declared.request.Entry.{Entry}
use Rattle.rep_report.specs.Saying.{IsFront, SaysLine}
use Rattle.rep_report.specs.declared.ending.Ending.TheVariants.{SinkFault}
use Rattle.rep_print.specs.Ending.{last_text}
use Rattle.rep_print.specs.Steps.{MakesFile, Told}
use Rattle.rep_print.specs.Writing.{WritesAfd}
use Rattle.rep_print.specs.declared.ending.PrintEnding.{PrintEnding}

module _ {E : Type 0} (zone : ℤ) (h : List Entry) (minute : ℕ) (old new file_old file_new : Option (List ℕ)) (is_reading : IsReading minute) (tick : new ≡ append_known old (minute ∷ [])) where
  pub file_made : (v : ℕ) → WritesAfd {E = E} zone h minute file_old file_new (Ok v) → MakesFile zone h old new file_old file_new (Ok tt)
  file_made v afd = (
    afd.bytes,
    record {
      minute = minute;
      is_reading = is_reading;
      readings = tick;
      file = afd.file;
      printed = afd.printed;
      front = ([], sym afd.whole ∙ sym (append-nil afd.bytes));
      written = afd.appended;
    },
    afd.whole,
  )

  pub file_cut : (e : E) → WritesAfd zone h minute file_old file_new (Err e) → MakesFile zone h old new file_old file_new (Err SinkFault)
  file_cut e afd = (
    afd.bytes,
    record {
      minute = minute;
      is_reading = is_reading;
      readings = tick;
      file = afd.file;
      printed = afd.printed;
      front = (afd.whole.0, afd.whole.2);
      written = afd.appended;
    },
    afd.whole,
  )

-- a lane that was refused: its line alone is said
pub told_refused : (ended : PrintEnding) (line counts : List ℕ) (old new : Option (List ℕ)) (before now : ℕ) → last_text ended ≡ line → counts ≡ [] → before ≤ now
    → SaysLine line old new (Rose before now) → Told ended counts old new before now ended
told_refused ended line counts old new before now is none later says = record {
  put = [];
  closing = says.put;
  said = says.said;
  middle = before;
  since = omega arith;
  until = later;
  put_front = (counts, refl);
  closing_front = subst (λ (text : List ℕ). IsFront says.put text) (sym is) says.front;
  counted = λ needs. sym none;
  put_whole = λ never. sym none;
  closing_whole = λ never. says.whole never ∙ sym is;
  told = inl refl;
}
