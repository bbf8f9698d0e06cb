-- Which histories a recorder can have: this project's own.
use Rattle.std.specs.Prelude.{◌≡◌, List, [], ◌∷◌, ◌++◌}
use Rattle.rep_fields.specs.Moment.{Moment, IsMoment}
use Rattle.afd_records.specs.Record.{last_nsr}
use Rattle.rep_wire.specs.Request.{IsRequest, IsFounding}
use Rattle.rep_wire.specs.declared.request.Request.{Request}
use Rattle.rep_wire.specs.declared.request.Entry.{Entry}
use Rattle.rep_core.specs.Verdict.{IsVerdict}
use Rattle.rep_core.specs.Answered.{entry_of}
use Rattle.rep_core.specs.declared.verdict.Verdict.TheVariants.{Fresh}

-- the entry is that of a request that some line asks, recorded at a stamp, and to be recorded after these
pub record Fits (h : List Entry) (e : Entry) : Type 0 where
  pub q : Request
  pub now : Moment
  pub asked : IsRequest q
  pub stamp : IsMoment now
  pub made : e ≡ entry_of q now
  pub fresh : IsVerdict last_nsr h q Fresh

-- the entry is a site's employer record
pub record Founds (e : Entry) : Type 0 where
  pub q : Request
  pub now : Moment
  pub founding : IsFounding q
  pub stamp : IsMoment now
  pub made : e ≡ entry_of q now

-- each entry fits those before it
abbrev pub IsValid : List Entry → Type 0
IsValid h = (before : List Entry) (e : Entry) (behind : List Entry) → h ≡ before ++ e ∷ behind → Fits before e

-- the first entry founds the history, and each other one fits those before it
abbrev pub IsFounded : List Entry → Type 0
IsFounded [] = ⊥
IsFounded (first ∷ h) =
    Founds first
    × ((before : List Entry) (e : Entry) (behind : List Entry) → h ≡ before ++ e ∷ behind → Fits (first ∷ before) e)
