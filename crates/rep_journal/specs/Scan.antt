-- What a pass over a piece of contents finds: this project's own.
use Rattle.std.specs.Prelude.{◌≡◌, ◌≢◌, ℕ, ◌<◌, ◌≤◌, Bool, false, List, ◌∷◌, ◌++◌, length, Option, Some, None}
use Rattle.rep_journal.specs.Format.{Framed, IsFrame, IsJournalOf, AreFrames, frame_text, frames_text, front_text, open_gate}
use Rattle.rep_journal.specs.declared.stop.Stop.{Stop}
use Rattle.rep_journal.specs.declared.stop.Stop.TheVariants.{Closed, Broken, Cut}

-- a whole frame and a gate byte stand at the front of the bytes
abbrev pub HasFrame : List ℕ → Framed → Type 0
HasFrame bytes frame = IsFrame frame × ((gate : ℕ) × (more : List ℕ) × (bytes ≡ frame_text frame ++ gate ∷ more))

abbrev pub ReadsFrame : List ℕ → Option Framed → Type 0
ReadsFrame bytes (Some frame) = HasFrame bytes frame
ReadsFrame bytes None = (frame : Framed) → HasFrame bytes frame → ⊥

-- What stands where a pass stops. Where the contents go on behind the piece, it judges a gate only where the longest
-- frame and a gate byte have room behind it.
abbrev pub IsStop : Bool → List ℕ → Stop → Type 0
IsStop is_last rest Closed = (gate : ℕ) × (more : List ℕ) × (gate ≢ open_gate) × (rest ≡ gate ∷ more)
IsStop is_last rest Broken = (more : List ℕ) × (rest ≡ open_gate ∷ more) × (is_last ≡ false → 344 ≤ length more) × ReadsFrame more None
IsStop is_last rest Cut = (is_last ≡ false) × (length rest ≤ 344)

-- the piece is the text of new frames, and then this, which isn't empty
pub record TakesTo (piece : List ℕ) (old new : List Framed) (rest : List ℕ) : Type 0 where
  pub taken : List Framed
  pub frames : new ≡ old ++ taken
  pub well_formed : AreFrames taken
  pub text : piece ≡ frames_text taken ++ rest
  pub some : 0 < length rest

-- the new frames are those up to the stop
pub record TakesFrames (piece : List ℕ) (is_last : Bool) (old new : List Framed) (stop : Stop) : Type 0 where
  pub rest : List ℕ
  pub takes : TakesTo piece old new rest
  pub stops : IsStop is_last rest stop

-- the contents begin with these frames, and a gate stands behind them
pub record IsScanned (bytes : List ℕ) (frames : List Framed) : Type 0 where
  pub well_formed : AreFrames frames
  pub gate : ℕ
  pub rest : List ℕ
  pub text : bytes ≡ front_text frames ++ gate ∷ rest

-- and that gate is open, and no whole frame and gate byte follow it
pub record EndsBroken (bytes : List ℕ) (frames : List Framed) : Type 0 where
  pub well_formed : AreFrames frames
  pub rest : List ℕ
  pub text : bytes ≡ front_text frames ++ open_gate ∷ rest
  pub none : ReadsFrame rest None

-- what is known of the contents at a stop behind these frames
abbrev pub IsScannedTo : List ℕ → List Framed → Stop → Type 0
IsScannedTo bytes frames Closed = IsJournalOf bytes frames
IsScannedTo bytes frames Broken = EndsBroken bytes frames
IsScannedTo bytes frames Cut = IsScanned bytes frames
