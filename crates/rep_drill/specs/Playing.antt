-- A schedule that is played: this project's own.
use Rattle.std.specs.Prelude.{◌≡◌, ◌⊎◌, ◌↔◌, ℕ, suc, ◌<◌, ◌≤◌, Bool, true, false, IsTrue, List, [], ◌∷◌, ◌++◌, length, Any, Option, Some, None, Result, Ok, Err, codes}
use Rattle.std.specs.List.{concat}
use Rattle.std.specs.Io.KnownBytes.{append_known}
use Rattle.rep_io.specs.Causes.{Rose}
use Rattle.rep_io.specs.Lines.{lines_of, longest_line, longest_text}
use Rattle.rep_io.specs.Cutter.{Cutter}
use Rattle.rep_lane.specs.LaneText.{HasRead, IsWithin, ended_lines}
use Rattle.rep_report.specs.Report.{fault_text}
use Rattle.rep_report.specs.Saying.{IsFront, IsStrictFront}
use Rattle.rep_site.specs.Reading.{IsSiteText}
use Rattle.rep_site.specs.declared.site.Site.{Site}
use Rattle.rep_world.specs.World.{World, IsWorld}
use Rattle.rep_world.specs.Events.{Counts, GoesOn, IsNewWorld, NamesUnsent, Steps}
use Rattle.rep_world.specs.declared.event.Event.{Event}
use Rattle.rep_world.specs.declared.event.Event.TheVariants.{Send, Deliver, Fail, Crash, Rest, Reopen, Extract}
use Rattle.rep_world.specs.declared.event.Seen.{Seen}
use Rattle.rep_drill.specs.Schedule.{SaysEvent}
use Rattle.rep_drill.specs.Saying.{SeesRefusal, drill_text, schedule_fault, seen_text}
use Rattle.rep_drill.specs.declared.ending.DrillEnding.{DrillEnding}
use Rattle.rep_drill.specs.declared.ending.DrillEnding.TheVariants.{AllPlayed, SomeRefused, Refused, SourceFault, SinkFault, OutOfMemory, InputLimit}

-- The line isn't too long, and says an event, which was played.
pub record PlaysLine (line : List ℕ) (old new : World) (seen : Seen) : Type 0 where
  pub short : length line ≤ longest_line
  pub event : Event
  pub says : SaysEvent line event
  pub steps : Steps event old new seen
  pub holds : IsWorld new
  pub goes_on : GoesOn old new

-- lines were played, one after another, and this was seen of them
abbrev pub PlaysLines : World → List (List ℕ) → List Seen → World → Type 0
PlaysLines old [] [] new = new ≡ old
PlaysLines old (line ∷ lines) (seen ∷ more) new = (next : World) × PlaysLine line old next seen × PlaysLines next lines more new
PlaysLines old _ _ new = ⊥

-- what is said of events from this number on
abbrev pub texts_from : ℕ → List Seen → List (List ℕ)
texts_from event [] = []
texts_from event (seen ∷ more) = seen_text event seen ∷ texts_from (suc event) more

-- the line is too long, says no event, or one that names a message that wasn't sent
abbrev pub IsRefusedLine : World → List ℕ → Type 0
IsRefusedLine w line =
    (longest_line < length line)
    ⊎ ((event : Event) → SaysEvent line event → ⊥)
    ⊎ ((event : Event) × SaysEvent line event × NamesUnsent event w)

-- What an ending says of the text, of which so many lines were played, and these are left.
abbrev pub EndsSchedule : List ℕ → ℕ → List (List ℕ) → World → DrillEnding → Type 0
EndsSchedule text played rest w AllPlayed = (rest ≡ []) × (length text ≤ longest_text)
EndsSchedule text played rest w SomeRefused = (rest ≡ []) × (length text ≤ longest_text)
EndsSchedule text played rest w (Refused line) =
    (line ≡ suc played)
    × ((next : List ℕ) × (more : List (List ℕ)) × (rest ≡ next ∷ more) × IsRefusedLine w next × IsWithin line text)
EndsSchedule text played rest w SourceFault = Unit {0}
EndsSchedule text played rest w SinkFault = Unit {0}
EndsSchedule text played rest w OutOfMemory = Unit {0}
EndsSchedule text played rest w InputLimit = (longest_text < length text) × (ended_lines text ≡ played)

-- the first lines of the text are those, and the ending says this of what is left
pub record PlaysText (text : List ℕ) (lines : List (List ℕ)) (w : World) (ended : DrillEnding) : Type 0 where
  pub rest : List (List ℕ)
  pub whole : lines_of text ≡ lines ++ rest
  pub ends : EndsSchedule text (length lines) rest w ended

-- Whether a refusal was said is told by the two good endings.
abbrev pub TellsRefusals : List Seen → DrillEnding → Type 0
TellsRefusals seen AllPlayed = Any SeesRefusal seen → ⊥
TellsRefusals seen SomeRefused = Any SeesRefusal seen
TellsRefusals seen (Refused line) = Unit {0}
TellsRefusals seen SourceFault = Unit {0}
TellsRefusals seen SinkFault = Unit {0}
TellsRefusals seen OutOfMemory = Unit {0}
TellsRefusals seen InputLimit = Unit {0}

-- the texts stand but for the last, of which a byte at least is lacking
pub record IsCutAtLast (texts : List (List ℕ)) (put : List ℕ) : Type 0 where
  pub before : List (List ℕ)
  pub last : List ℕ
  pub split : texts ≡ before ++ last ∷ []
  pub front : List ℕ
  pub cut : IsStrictFront front last
  pub stands : put ≡ concat before ++ front

-- what stands of the texts of events: all of it, but where the output failed at the last
abbrev pub StandsOf : List (List ℕ) → List ℕ → DrillEnding → Type 0
StandsOf texts put AllPlayed = put ≡ concat texts
StandsOf texts put SomeRefused = put ≡ concat texts
StandsOf texts put (Refused line) = put ≡ concat texts
StandsOf texts put SourceFault = put ≡ concat texts
StandsOf texts put SinkFault = IsCutAtLast texts put
StandsOf texts put OutOfMemory = put ≡ concat texts
StandsOf texts put InputLimit = put ≡ concat texts

-- The lines of a schedule were played over a world, one after another, and what was seen of each was said, up to the
-- ending.
pub record PlaysSchedule {S : Type 0} (left : S → Option (List ℕ)) (cutter : Cutter S) (old new : World) (out_old out_new : Option (List ℕ)) (ended : DrillEnding) : Type 0 where
  pub lines : List (List ℕ)
  pub seen : List Seen
  pub plays : PlaysLines old lines seen new
  pub put : List ℕ
  pub said : out_new ≡ append_known out_old put
  pub stands : StandsOf (texts_from 1 seen) put ended
  pub refusals : TellsRefusals seen ended
  pub text : (text : List ℕ) → HasRead left cutter text [] → PlaysText text lines new ended

abbrev pub status_of : DrillEnding → ℕ
status_of AllPlayed = 0
status_of SomeRefused = 1
status_of (Refused line) = 3
status_of SourceFault = 4
status_of SinkFault = 5
status_of OutOfMemory = 8
status_of InputLimit = 10

-- the text of the site that a drill's world is of
unfoldable pub sample_text : List ℕ
sample_text = concat (
    codes "employer_kind = 1\n"
    ∷ codes "employer = \"11222333000181\"\n"
    ∷ codes "name = \"ACME LTDA\"\n"
    ∷ codes "place = \"RUA A 1\"\n"
    ∷ codes "responsible = \"52998224725\"\n"
    ∷ codes "rep = \"00051202400012345\"\n"
    ∷ codes "developer_kind = 1\n"
    ∷ codes "developer = \"11222333000181\"\n"
    ∷ codes "offset = \"-0300\"\n"
    ∷ [])

-- all lines were played
abbrev pub IsWhole : DrillEnding → Type 0
IsWhole AllPlayed = Unit {0}
IsWhole SomeRefused = Unit {0}
IsWhole (Refused line) = ⊥
IsWhole SourceFault = ⊥
IsWhole SinkFault = ⊥
IsWhole OutOfMemory = ⊥
IsWhole InputLimit = ⊥

-- how a drill ends all of whose lines were played
abbrev pub EndsPlayed : Bool → DrillEnding → Type 0
EndsPlayed false ended = ended ≡ AllPlayed
EndsPlayed true ended = ended ≡ SomeRefused

-- What came of the line with this number: it was played, what was seen of it was said, and whether that is a refusal is
-- answered.
pub record PlaysOne (number : ℕ) (line : List ℕ) (old new : World) (out_old out_new : Option (List ℕ)) (is_refused : Bool) : Type 0 where
  pub seen : Seen
  pub plays : PlaysLine line old new seen
  pub said : out_new ≡ append_known out_old (seen_text number seen)
  pub refused : IsTrue is_refused ↔ SeesRefusal seen

-- It was played, and the output failed at what was seen of it, of which a byte at least is lacking.
pub record CutsOne (number : ℕ) (line : List ℕ) (old new : World) (out_old out_new : Option (List ℕ)) : Type 0 where
  pub seen : Seen
  pub plays : PlaysLine line old new seen
  pub put : List ℕ
  pub said : out_new ≡ append_known out_old put
  pub front : IsStrictFront put (seen_text number seen)

-- It ended the drill.
abbrev pub StopsAtLine : ℕ → List ℕ → World → World → Option (List ℕ) → Option (List ℕ) → DrillEnding → Type 0
StopsAtLine number line old new out_old out_new AllPlayed = ⊥
StopsAtLine number line old new out_old out_new SomeRefused = ⊥
StopsAtLine number line old new out_old out_new (Refused at) = (at ≡ number) × (out_new ≡ out_old) × IsRefusedLine old line
StopsAtLine number line old new out_old out_new SourceFault = ⊥
StopsAtLine number line old new out_old out_new SinkFault = CutsOne number line old new out_old out_new
StopsAtLine number line old new out_old out_new OutOfMemory = out_new ≡ out_old
StopsAtLine number line old new out_old out_new InputLimit = ⊥

-- the next line of the text was this one
abbrev pub TakesLine : {S : Type 0} → (S → Option (List ℕ)) → Cutter S → Cutter S → List ℕ → Type 0
TakesLine left old new line = (text : List ℕ) (before : List (List ℕ)) → HasRead left old text before
    → HasRead left new text (before ++ line ∷ [])

-- the next line of the text is refused
pub record RefusesNext (w : World) (text : List ℕ) (before : List (List ℕ)) : Type 0 where
  pub line : List ℕ
  pub more : List (List ℕ)
  pub next : lines_of text ≡ before ++ line ∷ more
  pub within : IsWithin (suc (length before)) text
  pub refused : IsRefusedLine w line

-- What comes of the next line, which has this number: it was played; there is none; or the drill ends at it.
abbrev pub PlaysNext : {S : Type 0} → (S → Option (List ℕ)) → ℕ → Cutter S → Cutter S → World → World → Option (List ℕ) → Option (List ℕ) → Result (Option Bool) DrillEnding → Type 0
PlaysNext left number c after old new out_old out_new (Ok (Some is_refused)) =
    (line : List ℕ) × TakesLine left c after line × PlaysOne number line old new out_old out_new is_refused
PlaysNext left number c after old new out_old out_new (Ok None) =
    (new ≡ old) × (out_new ≡ out_old)
    × ((text : List ℕ) (before : List (List ℕ)) → HasRead left c text before
    → (lines_of text ≡ before) × (length text ≤ longest_text))
PlaysNext left number c after old new out_old out_new (Err AllPlayed) = ⊥
PlaysNext left number c after old new out_old out_new (Err SomeRefused) = ⊥
PlaysNext left number c after old new out_old out_new (Err (Refused at)) =
    (at ≡ number) × (out_new ≡ out_old)
    × ((text : List ℕ) (before : List (List ℕ)) → HasRead left c text before → RefusesNext old text before)
PlaysNext left number c after old new out_old out_new (Err SourceFault) = out_new ≡ out_old
PlaysNext left number c after old new out_old out_new (Err SinkFault) =
    (line : List ℕ) × TakesLine left c after line × CutsOne number line old new out_old out_new
PlaysNext left number c after old new out_old out_new (Err OutOfMemory) = out_new ≡ out_old
PlaysNext left number c after old new out_old out_new (Err InputLimit) =
    (out_new ≡ out_old)
    × ((text : List ℕ) (before : List (List ℕ)) → HasRead left c text before
    → (longest_text < length text) × (ended_lines text ≡ length before))

-- Lines of a schedule were played, and the drill ends so. Where all were, there were so many, and the world is as after the
-- last.
pub record PlaysOut {S : Type 0} (left : S → Option (List ℕ)) (lines : Cutter S) (old new : World) (out_old out_new : Option (List ℕ)) (ended : DrillEnding) (events : ℕ) : Type 0 where
  pub last : World
  pub plays : PlaysSchedule left lines old last out_old out_new ended
  pub whole : IsWhole ended → (new ≡ last) × (events ≡ length plays.lines)

-- the line of a fault
abbrev pub closing_text : DrillEnding → List ℕ
closing_text AllPlayed = []
closing_text SomeRefused = []
closing_text (Refused line) = schedule_fault line
closing_text SourceFault = fault_text 4
closing_text SinkFault = fault_text 5
closing_text OutOfMemory = fault_text 8
closing_text InputLimit = fault_text 10

-- What is told where all lines were played: the line of the counts was said; or the output failed at it, of which a byte at
-- least is lacking; or memory was short, and none of it was said.
abbrev pub TellsCounts : ℕ → World → DrillEnding → List ℕ → Type 0 → DrillEnding → Type 0
TellsCounts events w ended put Failed told =
    ((entries : ℕ) × Counts w.disk.bytes entries
    × (((put ≡ drill_text events entries) × (told ≡ ended))
    ⊎ (IsStrictFront put (drill_text events entries) × Failed × (told ≡ SinkFault))))
    ⊎ ((put ≡ []) × (told ≡ OutOfMemory))

-- the line of the counts, where all lines were played
pub record SaysCounts (events : ℕ) (w : World) (ended : DrillEnding) (put : List ℕ) (Failed : Type 0) (told : DrillEnding) : Type 0 where
  pub whole : IsWhole ended → TellsCounts events w ended put Failed told
  pub other : (IsWhole ended → ⊥) → (put ≡ []) × (told ≡ ended)

-- these bytes were said
pub record SaysIts (Says : List ℕ → Type 0 → DrillEnding → Type 0) (old new : Option (List ℕ)) (Failed : Type 0) (told : DrillEnding) : Type 0 where
  pub put : List ℕ
  pub said : new ≡ append_known old put
  pub says : Says put Failed told

-- What is said at the end of so many events: the line of the counts, then that of a fault, or a front of it where the output
-- fails at it. The output's faults are counted before, between the two lines and now.
pub record Concludes (events : ℕ) (w : World) (ended : DrillEnding) (out_old out_new : Option (List ℕ)) (before now : ℕ) (told : DrillEnding) : Type 0 where
  pub put : List ℕ
  pub closing : List ℕ
  pub said : out_new ≡ append_known out_old (put ++ closing)
  pub middle : ℕ
  pub since : before ≤ middle
  pub until : middle ≤ now
  pub counts : SaysCounts events w ended put (Rose before middle) told
  pub front : IsFront closing (closing_text told)
  pub whole : (Rose middle now → ⊥) → closing ≡ closing_text told

-- The lines of a schedule were played over a world, and what was seen was said, and the end. The output's faults are counted
-- before, at the end of the lines and now.
pub record DrillsOver {S : Type 0} (left : S → Option (List ℕ)) (lines : Cutter S) (first : World) (out_old out_new : Option (List ℕ)) (before now : ℕ) (status : ℕ) : Type 0 where
  pub last : World
  pub between : Option (List ℕ)
  pub ended : DrillEnding
  pub plays : PlaysSchedule left lines first last out_old between ended
  pub middle : ℕ
  pub since : before ≤ middle
  pub failed : ended ≡ SinkFault → Rose before middle
  pub told : DrillEnding
  pub concludes : Concludes (length plays.lines) last ended between out_new middle now told
  pub status_is : status ≡ status_of told

-- The world was one of the sample site, whose recorder was just made.
pub record Drills {S : Type 0} (left : S → Option (List ℕ)) (lines : Cutter S) (out_old out_new : Option (List ℕ)) (before now : ℕ) (status : ℕ) : Type 0 where
  pub site : Site
  pub is_sample : IsSiteText sample_text site
  pub first : World
  pub begins : IsNewWorld site first
  pub drills : DrillsOver left lines first out_old out_new before now status

-- Memory was short before a line was read: that alone was said, or a front of it where the output failed.
pub record BeginsNot {S : Type 0} (old new : S) (out_old out_new : Option (List ℕ)) (Failed : Type 0) (status : ℕ) : Type 0 where
  pub source : new ≡ old
  pub put : List ℕ
  pub said : out_new ≡ append_known out_old put
  pub front : IsFront put (fault_text 8)
  pub whole : (Failed → ⊥) → put ≡ fault_text 8
  pub status_is : status ≡ 8

-- Completeness

-- the message of this number was among so many
abbrev pub IsAmong : ℕ → ℕ → Type 0
IsAmong sent k = (1 ≤ k) × (k ≤ sent)

-- the event names no message but those, if it names one
abbrev pub NamesOnly : ℕ → Event → Type 0
NamesOnly sent (Send request) = Unit {0}
NamesOnly sent (Deliver k minute lost) = IsAmong sent k
NamesOnly sent (Fail k minute call) = IsAmong sent k
NamesOnly sent (Crash k minute call image) = IsAmong sent k
NamesOnly sent (Rest image) = Unit {0}
NamesOnly sent Reopen = Unit {0}
NamesOnly sent (Extract from to minute) = Unit {0}

-- how many messages were sent after the event, of so many before it
abbrev pub sent_after : ℕ → Event → ℕ
sent_after sent (Send request) = suc sent
sent_after sent _ = sent

-- lines that can be played, one after another, where so many messages were sent before
abbrev pub CanPlayLines : ℕ → List (List ℕ) → Type 0
CanPlayLines sent [] = Unit {0}
CanPlayLines sent (line ∷ lines) =
    (event : Event) × SaysEvent line event × (length line ≤ longest_line) × NamesOnly sent event
    × CanPlayLines (sent_after sent event) lines

-- no line of the text is refused, and it isn't too long
pub record CanPlay (text : List ℕ) : Type 0 where
  pub short : length text ≤ longest_text
  pub lines : CanPlayLines 0 (lines_of text)
