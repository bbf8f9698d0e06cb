-- What a strict reader of lines answers.
use Rattle.std.specs.Prelude.{◌≡◌, ℕ, false, List}
use Rattle.afd_records.specs.Line.{IsLineOf}
use Rattle.afd_records.specs.declared.error.Notes.{Notes}
use Rattle.afd_records.specs.declared.reading.ReadLine.{ReadLine}

-- nothing is to be told beside the values
abbrev pub no_notes : Notes
no_notes = record { crc = false; stamp = false; rep = false }

-- the line has just these values
pub record IsReadFrom (line : List ℕ) (found : ReadLine) : Type 0 where
  pub line_of : IsLineOf found.nsr found.body found.hash line
  pub plain : found.notes ≡ no_notes
