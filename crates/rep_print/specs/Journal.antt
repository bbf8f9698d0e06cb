-- The journal of a printed lane, as contracts see it: this project's own.
use Rattle.std.specs.Prelude.{ℕ, List, []}
use Rattle.rep_journal.specs.Format.{Framed}
use Rattle.rep_print.specs.declared.journal.Stage.{Stage}
use Rattle.rep_print.specs.declared.journal.Stage.TheVariants.{Blank, Vacant, Standing}

pub record KeptFrames : Type 0 where
  -- the frames, in order
  pub frames : List Framed
  -- for how many more there is room
  pub spare : ℕ

-- what it has, by how far it has come
abbrev pub kept_frames : Stage → KeptFrames
kept_frames Blank = record { frames = []; spare = 0 }
kept_frames (Vacant disk) = record { frames = []; spare = 1 }
kept_frames (Standing journal) = record { frames = journal.frames; spare = journal.spare }
