-- Events, one after another: this project's own.
use Rattle.std.specs.Prelude.{◌≡◌, true, List, [], ◌∷◌, ◌++◌, Result, Ok, Err}
use Rattle.rep_wire.specs.declared.request.Entry.{Entry}
use Rattle.rep_ledger.specs.Ledger.{IsLedgerOf}
use Rattle.rep_world.specs.World.{World, HasMadeSure, IsWorld}
use Rattle.rep_world.specs.Events.{Does, GoesOn, Steps}
use Rattle.rep_world.specs.declared.event.Event.{Event}
use Rattle.rep_world.specs.declared.event.Seen.{Seen}
use Rattle.rep_world.specs.declared.event.WorldStop.{WorldStop}

-- Where the recorder was up then, as after each reopening and each reply, the history that its bytes kept begins those
-- that the bytes and every image keep now.
abbrev pub StaysSure : World → World → Type 0
StaysSure old new = old.up ≡ true → (h : List Entry) → IsLedgerOf old.disk.bytes h → HasMadeSure new h

-- The events were played, and these things seen. Each world on the way is a world, what it made sure of stays sure to
-- the end, and where its recorder is up, that is its whole history.
abbrev pub Plays : World → List Event → List Seen → World → Type 0
Plays old [] [] new = new ≡ old
Plays old (event ∷ events) (seen ∷ more) new =
    (next : World) × Steps event old next seen × IsWorld next × GoesOn next new × StaysSure next new × Plays next events more new
Plays old _ _ new = ⊥

-- the first of the events were played, and the one behind them wasn't
pub record PlaysUpTo (stop : WorldStop) (old : World) (events : List Event) (new : World) : Type 0 where
  pub front : List Event
  pub event : Event
  pub behind : List Event
  pub split : events ≡ front ++ event ∷ behind
  pub seen : List Seen
  pub between : World
  pub plays : Plays old front seen between
  pub stops : Does event between new (Err stop)

-- all events were played, or those before the first that wasn't
abbrev pub PlaysAll : World → List Event → World → Result (Unit {0}) WorldStop → Type 0
PlaysAll old events new (Ok done) = (seen : List Seen) × Plays old events seen new
PlaysAll old events new (Err stop) = PlaysUpTo stop old events new
