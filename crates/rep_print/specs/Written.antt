-- What a call of `print` does to its source, file, clock and output: this project's own.
use Rattle.std.specs.Prelude.{◌≡◌, ℕ, List, Option, ℤ}
use Rattle.std.specs.Io.KnownBytes.{append_known}
use Rattle.rep_io.specs.Causes.{Rose}
use Rattle.rep_print.specs.Printing.{Prints}

-- what was given, written and said in a call, and how it ended
pub record Printed {S K C : Type 0} (left : S → Option (List ℕ)) (written : K → Option (List ℕ)) (readings : C → Option (List ℕ)) (faults : K → ℕ)
    (zone : ℤ) (status : ℕ) (source : S) (file out : K) (clock : C) (file_now out_now : K) (clock_now : C) : Type 0 where
  pub given : List ℕ
  pub into_file : List ℕ
  pub said : List ℕ
  pub readings_are : readings clock_now ≡ append_known (readings clock) given
  pub file_is : written file_now ≡ append_known (written file) into_file
  pub out_is : written out_now ≡ append_known (written out) said
  pub prints : Prints zone (left source) status given into_file said (file_now ≡ file) (Rose (faults file) (faults file_now)) (faults out) (faults out_now)
