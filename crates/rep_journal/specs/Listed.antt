-- The frames that are kept in memory: this project's own.
use Rattle.std.specs.Prelude.{◌≡◌, ℕ, ◌+◌, ◌*◌, ◌≤◌, List, [], ◌∷◌, length}
use Rattle.rep_journal.specs.Format.{Framed, AreFrames, frame_text, end_of}

pub record Listed : Type 0 where
  pub frames : List Framed
  -- for how many more there is room
  pub room : ℕ

-- the most frames that a journal can have
abbrev pub most_frames : ℕ
most_frames = 999999999

-- the greatest place of the gate behind so many frames of 344 bytes with their gates
abbrev pub end_of_journals : ℕ
end_of_journals = 16 + 344 * most_frames

-- the places of the gates in front of frames, of which the first stands here
abbrev pub gates_from : ℕ → List Framed → List ℕ
gates_from at [] = []
gates_from at (frame ∷ frames) = at ∷ gates_from (at + (1 + length (frame_text frame))) frames

pub record IsListed (frames : List Framed) (gates : List ℕ) (end : ℕ) : Type 0 where
  pub well_formed : AreFrames frames
  pub places : gates ≡ gates_from 16 frames
  pub ends : end ≡ end_of frames
  pub limit : length frames ≤ most_frames
