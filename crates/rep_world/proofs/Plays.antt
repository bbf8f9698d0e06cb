-- Events, one after another.
use Rattle.std.proofs.Common.{◌≡◌, ℕ, zero, suc, ◌<◌, List, [], ◌∷◌, ◌++◌, length, get_or, take, drop, slice_get, Some, Err, refl, sym, ap, subst}
use Rattle.std.proofs.lemmas.Option.{slice_get_read}
use Rattle.rep_world.specs.World.{World, IsWorld}
use Rattle.rep_world.specs.Events.{Does, GoesOn, Steps}
use Rattle.rep_world.specs.Play.{Plays, PlaysUpTo}
use Rattle.rep_world.specs.declared.event.Event.{Event}
use Rattle.rep_world.specs.declared.event.Seen.{Seen}
use Rattle.rep_world.specs.declared.event.WorldStop.{WorldStop}
use Rattle.rep_world.proofs.Worlds.{GoesOn-refl, GoesOn-trans, stays_sure}

-- one event more
pub Plays-push : (old between new : World) (events : List Event) (seen : List Seen) (event : Event) (last : Seen) → Plays old events seen between → Steps event between new last → IsWorld new → GoesOn between new → Plays old (events ++ event ∷ []) (seen ++ last ∷ []) new
Plays-push old between new [] [] event last played step holds goes_on =
    (new, subst (λ (w : World). Steps event w new last) played step, holds, GoesOn-refl new, stays_sure new new holds (GoesOn-refl new), refl)
Plays-push old between new [] (s ∷ seen) event last played step holds goes_on = absurd played
Plays-push old between new (e ∷ events) [] event last played step holds goes_on = absurd played
Plays-push old between new (e ∷ events) (s ∷ seen) event last played step holds goes_on = (
  played.0,
  played.1,
  played.2,
  GoesOn-trans played.0 between new played.3 goes_on,
  stays_sure played.0 new played.2 (GoesOn-trans played.0 between new played.3 goes_on),
  Plays-push played.0 between new events seen event last played.5 step holds goes_on,
)

-- the events up to one, that one, and those behind it
same_event : (a b : Event) → Some a ≡ Some b → a ≡ b
same_event a b same = cc

split_at : (events : List Event) (i : ℕ) (event : Event) → slice_get events i ≡ Some event → events ≡ take i events ++ event ∷ drop (suc i) events
split_at [] i event is = absurd cc
split_at (x ∷ events) zero event is = ap (λ (e : Event). e ∷ events) (same_event x event is)
split_at (x ∷ events) (suc i) event is = ap (λ (es : List Event). x ∷ es) (split_at events i event is)

one_more : (events : List Event) (i : ℕ) (event : Event) → slice_get events i ≡ Some event → take (suc i) events ≡ take i events ++ event ∷ []
one_more [] i event is = absurd cc
one_more (x ∷ events) zero event is = ap (λ (e : Event). e ∷ []) (same_event x event is)
one_more (x ∷ events) (suc i) event is = ap (λ (es : List Event). x ∷ es) (one_more events i event is)

-- one more was played, or it was the first that wasn't
module _ (old between new : World) (events : List Event) (i : ℕ) (event : Event) (within : i < length events) (at : event ≡ get_or events i event) (seen : List Seen) (played : Plays old (take i events) seen between) where
  there : slice_get events i ≡ Some event
  there = slice_get_read events (length events) i event refl within at

  pub Plays-next : (next : ℕ) → next ≡ suc i → (last : Seen) → Steps event between new last → IsWorld new → GoesOn between new → Plays old (take next events) (seen ++ last ∷ []) new
  Plays-next next number last step holds goes_on =
      subst (λ (n : ℕ). Plays old (take n events) (seen ++ last ∷ []) new) (sym number)
      (subst (λ (es : List Event). Plays old es (seen ++ last ∷ []) new) (sym (one_more events i event there))
      (Plays-push old between new (take i events) seen event last played step holds goes_on))

  pub PlaysUpTo-here : (stop : WorldStop) → Does event between new (Err stop) → PlaysUpTo stop old events new
  PlaysUpTo-here stop does = record {
    front = take i events;
    event = event;
    behind = drop (suc i) events;
    split = split_at events i event there;
    seen = seen;
    between = between;
    plays = played;
    stops = does;
  }
