-- what comes of one line of a schedule
use Rattle.std.proofs.Common.{◌≡◌, ℕ, suc, ◌<◌, ◌≤◌, inl, inr, List, [], ◌∷◌, ◌++◌, length, take, Option, Some, None, refl, subst, ◌∙◌, append_assoc}
use Rattle.std.specs.Prelude.{◌↔◌, Bool, IsTrue, IfOk, Result, Ok, Err}
use Rattle.std.specs.Io.KnownBytes.{append_known}
use Rattle.rep_io.specs.Lines.{lines_of, longest_line}
use Rattle.rep_io.specs.Cutter.{Cutter}
use Rattle.rep_lane.specs.LaneText.{HasRead, IsWithin}
use Rattle.rep_report.proofs.SayingLemmas.{cut_line}
use Rattle.rep_world.specs.World.{World, IsWorld}
use Rattle.rep_world.specs.Events.{Does, IsPlayable, NamesUnsent}
use Rattle.rep_world.specs.declared.event.Event.{Event}
use Rattle.rep_world.specs.declared.event.Event.TheVariants.{Send, Deliver, Fail, Crash, Rest, Reopen, Extract}
use Rattle.rep_world.specs.declared.event.Seen.{Seen}
use Rattle.rep_drill.specs.Saying.{SeesRefusal, seen_text}
use Rattle.rep_drill.specs.Schedule.{SaysEvent, SaysFields}
use Rattle.rep_drill.specs.Playing.{CutsOne, IsRefusedLine, PlaysLine, PlaysNext, PlaysOne, StopsAtLine, TakesLine}
use Rattle.rep_drill.specs.declared.ending.DrillEnding.{DrillEnding}
use Rattle.rep_drill.specs.declared.ending.DrillEnding.TheVariants.{AllPlayed, SomeRefused, Refused, SourceFault, SinkFault, OutOfMemory, InputLimit}

-- what a line says can be played
pub playable : (fields : List (List ℕ)) (event : Event) → SaysFields fields event → IsPlayable event
playable fields (Send q) says = says.asks.in_range.request
playable fields (Deliver k minute lost) says = says.1
playable fields (Fail k minute call) says = (says.1, says.2.0, says.2.1)
playable fields (Crash k minute call image) says = (says.1, says.2.0, says.2.1)
playable fields (Rest image) says = tt
playable fields Reopen says = tt
playable fields (Extract from to minute) says = (says.2, says.3)

-- what holds of a value holds of each that follows from it
pub if_ok : {A E : Type 0} (P Q : A → Type 0) (r : Result A E) → ((a : A) → P a → Q a) → IfOk r P → IfOk r Q
if_ok P Q (Ok a) goes is = goes a is
if_ok P Q (Err e) goes is = tt

-- the event of a line was played
module _ (number : ℕ) (line : List ℕ) (old new : World) (out_old out_new : Option (List ℕ)) (event : Event) (seen : Seen)
    (short : length line ≤ longest_line) (says : SaysEvent line event) (does : Does event old new (Ok seen)) (holds : IsWorld new) where
  the_line : PlaysLine line old new seen
  the_line = record { short = short; event = event; says = says; steps = does.steps; holds = holds; goes_on = does.goes_on }

  pub plays_one : (is_refused : Bool) → out_new ≡ append_known out_old (seen_text number seen) → IsTrue is_refused ↔ SeesRefusal seen
      → PlaysOne number line old new out_old out_new is_refused
  plays_one is_refused said refused = record { seen = seen; plays = the_line; said = said; refused = refused }

  pub cuts_one : (n : ℕ) → n < length (seen_text number seen) → out_new ≡ append_known out_old (take n (seen_text number seen))
      → CutsOne number line old new out_old out_new
  cuts_one n less said = record {
    seen = seen;
    plays = the_line;
    put = take n (seen_text number seen);
    said = said;
    front = cut_line (seen_text number seen) (seen_text number seen) n refl less;
  }

-- no event is said by it
pub refused_none : (w : World) (line : List ℕ) (result : Option Event) → result ≡ None → ((event : Event) → SaysEvent line event → result ≡ Some event) → IsRefusedLine w line
refused_none w line result none only = inr (inl (λ event says. let some = only event says in absurd cc))

-- or one that names a message that wasn't sent
pub refused_unsent : (w : World) (line : List ℕ) (event : Event) → SaysEvent line event → NamesUnsent event w → IsRefusedLine w line
refused_unsent w line event says unsent = inr (inr (event, says, unsent))

-- the next line of the text was read
module _ {S : Type 0} (left : S → Option (List ℕ)) (number : ℕ) (c after : Cutter S) (old new : World) (out_old out_new : Option (List ℕ)) (line : List ℕ)
    (reads : (text : List ℕ) (before : List (List ℕ)) → HasRead left c text before → IsWithin (suc (length before)) text × HasRead left after text (before ++ line ∷ [])) where
  takes : TakesLine left c after line
  takes text before r = (reads text before r).1

  pub plays_next : (is_refused : Bool) → PlaysOne number line old new out_old out_new is_refused
      → PlaysNext left number c after old new out_old out_new (Ok (Some is_refused))
  plays_next is_refused one = (line, takes, one)

  pub stops_next : (ended : DrillEnding) → StopsAtLine number line old new out_old out_new ended
      → PlaysNext left number c after old new out_old out_new (Err ended)
  stops_next AllPlayed stops = absurd stops
  stops_next SomeRefused stops = absurd stops
  stops_next (Refused at) stops = (
    stops.0,
    stops.1,
    λ text before r.
        let x = reads text before r in
        record {
          line = line;
          more = lines_of x.1.rest;
          next = x.1.lines ∙ append_assoc before (line ∷ []) (lines_of x.1.rest);
          within = x.0;
          refused = stops.2;
        },
  )
  stops_next SourceFault stops = absurd stops
  stops_next SinkFault stops = (line, takes, stops)
  stops_next OutOfMemory stops = stops
  stops_next InputLimit stops = absurd stops

-- a line that is too long was passed over
pub long_next : {S : Type 0} (left : S → Option (List ℕ)) (number : ℕ) (c after : Cutter S) (w new : World) (out : Option (List ℕ))
    → ((text : List ℕ) (before : List (List ℕ)) → HasRead left c text before
    → (line : List ℕ) × (longest_line < length line) × IsWithin (suc (length before)) text × HasRead left after text (before ++ line ∷ []))
    → PlaysNext left number c after w new out out (Err (Refused number))
long_next left number c after w new out reads = (
  refl,
  refl,
  λ text before r.
      let x = reads text before r in
      record {
        line = x.0;
        more = lines_of x.3.rest;
        next = x.3.lines ∙ append_assoc before (x.0 ∷ []) (lines_of x.3.rest);
        within = x.2;
        refused = inl x.1;
      },
)

-- a line doesn't end the drill by a fault of the source
pub not_by_source : (number : ℕ) (line : List ℕ) (old new : World) (out_old out_new : Option (List ℕ)) (ended : DrillEnding)
    → StopsAtLine number line old new out_old out_new ended → ended ≡ SourceFault → ⊥
not_by_source number line old new out_old out_new ended stops is =
    subst (λ (e : DrillEnding). StopsAtLine number line old new out_old out_new e) is stops
