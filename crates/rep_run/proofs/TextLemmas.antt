-- how the texts of `run` are read
use Rattle.std.proofs.Common.{◌≡◌, ◌≢◌, ℕ, ◌<◌, ◌≤◌, inl, inr, List, [], ◌∷◌, length, Option, Some, Result, Err, refl, sym, ap, subst, ◌∙◌, arith}
use Rattle.rep_io.specs.Causes.{Rose}
use Rattle.rep_io.specs.Cutter.{Cutter}
use Rattle.rep_io.specs.Lines.{lines_of, longest_text}
use Rattle.rep_site.specs.declared.site.Site.{Site}
use Rattle.rep_report.specs.declared.ending.Ending.TheVariants as ending
use Rattle.rep_lane.specs.LaneText.{ended_lines, IsWithin, HasRead}
use Rattle.rep_lane.specs.Head.{IsHeadLine, HasNoHead, Heads}
use Rattle.rep_lane.specs.declared.head.NoHead.{NoHead}
use Rattle.rep_lane.specs.declared.head.NoHead.TheVariants.{OffGrammar, SourceFault, InputLimit}
use Rattle.rep_run.specs.declared.refusal.Refusal.TheVariants as refusal
use Rattle.rep_run.specs.declared.stopping.Stopping.{Stopping}
use Rattle.rep_run.specs.declared.stopping.Stopping.TheVariants.{Refused, Ended}
use Rattle.rep_run.specs.Creating.{status_of}
use Rattle.rep_run.specs.Running.{Meanings, HasSite, HasTexts, StaysBeyondTexts, StopsBefore, IsServable}
use Rattle.rep_run.specs.Steps.{BeginsTexts, IsSiteRefusal, ReadsSiteOf, StopsAtTexts, head_stopping}
use Rattle.rep_run.specs.declared.texts.Texts.{Texts}
use Rattle.rep_run.proofs.Known.{if_some, use_some, kept_same, same_err}

-- the lane has no head, behind a site
module _ {S : Type 0} (left : S → Option (List ℕ)) (faults : S → ℕ) (source source' : S) (lines lines' : Cutter S) where
  pub stops_at_head : (said : Site) → ReadsSiteOf left source said → (why : NoHead) → ((text : List ℕ) → HasRead left lines text [] → Heads left lines' text (Err why))
      → (why ≡ SourceFault → Rose (faults lines.source) (faults lines'.source)) → StopsAtTexts left faults source source' lines lines' (head_stopping why)
  stops_at_head said reads OffGrammar heads cause = record { site = said; reads = reads; no_head = heads }
  stops_at_head said reads SourceFault heads cause = inr (said, reads, cause refl)
  stops_at_head said reads InputLimit heads cause = inr (said, reads, heads)

-- the texts didn't stop the command by a fault of a source, where it ends by none
pub no_source_stop : (result : Result Texts Stopping) (stopping : Stopping) (status : ℕ) → result ≡ Err stopping → status ≡ status_of stopping → status ≢ 4 → result ≢ Err (Ended ending.SourceFault)
no_source_stop result stopping status is status_is other failed = other (status_is ∙ ap status_of (same_err result stopping (Ended ending.SourceFault) is failed))

-- both texts begin as they must, or the command stops at them
module _ {S K D C : Type 0} (m : Meanings S K D C) (site site' lane lane' : S) (disk : D) (clock : C) (replies : K) (lines lines' : Cutter S)
    (unread : (text : List ℕ) → m.left lane ≡ Some text → HasRead m.left lines text []) (begun : lines.source ≡ lane) (kept : lane' ≡ lines'.source) where
  stays : StaysBeyondTexts {S = S} {K = K} {D = D} {C = C} (record { site = site; lane = lane; disk = disk; clock = clock; replies = replies }) (record { site = site'; lane = lane'; disk = disk; clock = clock; replies = replies })
  stays = record { beyond = record { clock = refl; replies = refl }; disk = refl }

  has : (said : Site) → ReadsSiteOf m.left site said → HasSite m (record { site = site; lane = lane; disk = disk; clock = clock; replies = replies }) said
  has said reads = record { in_range = reads.in_range; said = reads.said }

  lane_rose : Rose (m.source_faults lines.source) (m.source_faults lines'.source) → Rose (m.source_faults lane) (m.source_faults lane')
  lane_rose rose =
      subst (λ (s : S). Rose (m.source_faults s) (m.source_faults lane')) begun
      (subst (λ (s : S). Rose (m.source_faults lines.source) (m.source_faults s)) (sym kept) rose)

  pub stops_before : (stopping : Stopping) → StopsAtTexts m.left m.source_faults site site' lines lines' stopping → StopsBefore m (record { site = site; lane = lane; disk = disk; clock = clock; replies = replies }) (record { site = site'; lane = lane'; disk = disk; clock = clock; replies = replies }) stopping
  stops_before (Refused refusal.SiteText) stops = record { text = stops; stays = stays }
  stops_before (Refused (refusal.SiteField key)) stops = record { text = stops; stays = stays }
  stops_before (Refused refusal.NoHead) stops = record {
    site = stops.site;
    has_site = has stops.site stops.reads;
    no_head = if_some (λ text. HasNoHead (lines_of text) × IsWithin 1 text) (m.left lane) (λ text told. stops.no_head text (unread text told));
    stays = stays;
  }
  stops_before (Refused refusal.Foreign) stops = absurd stops
  stops_before (Refused refusal.Blank) stops = absurd stops
  stops_before (Refused refusal.Present) stops = absurd stops
  stops_before (Refused (refusal.Damaged at)) stops = absurd stops
  stops_before (Ended ending.AllAnswered) stops = absurd stops
  stops_before (Ended ending.SomeRefused) stops = absurd stops
  stops_before (Ended ending.SourceFault) (inl rose) = (inl rose, stays)
  stops_before (Ended ending.SourceFault) (inr t) = (inr (t.0, has t.0 t.1, lane_rose t.2), stays)
  stops_before (Ended ending.SinkFault) stops = absurd stops
  stops_before (Ended ending.DeviceFault) stops = absurd stops
  stops_before (Ended ending.ClockFault) stops = absurd stops
  stops_before (Ended ending.OutOfMemory) stops = record { disk = kept_same (m.shown disk); rest = inl refl; beyond = record { clock = refl; replies = refl } }
  stops_before (Ended ending.InputLimit) (inl long) = (inl long, stays)
  stops_before (Ended ending.InputLimit) (inr t) = (
    inr (t.0, has t.0 t.1, if_some (λ text. (longest_text < length text) × (ended_lines text ≡ 0)) (m.left lane) (λ text told. t.2 text (unread text told))),
    stays,
  )

  -- where nothing is refused and no source fails, memory alone stops it
  pub complete_texts : (stopping : Stopping) → StopsAtTexts m.left m.source_faults site site' lines lines' stopping → (IsSiteRefusal stopping → ⊥) → (site_text lane_text contents : List ℕ)
      → m.left site ≡ Some site_text → m.left lane ≡ Some lane_text → IsServable site_text lane_text contents → (Rose (m.source_faults site) (m.source_faults site') → ⊥)
      → (Rose (m.source_faults lane) (m.source_faults lane') → ⊥) → status_of stopping ≡ 8
  complete_texts (Refused refusal.SiteText) stops unrefused site_text lane_text contents told_site told_lane servable no_site no_lane = absurd (unrefused tt)
  complete_texts (Refused (refusal.SiteField key)) stops unrefused site_text lane_text contents told_site told_lane servable no_site no_lane = absurd (unrefused tt)
  complete_texts (Refused refusal.NoHead) stops unrefused site_text lane_text contents told_site told_lane servable no_site no_lane =
      let none = (stops.no_head lane_text (unread lane_text told_lane)).0 in
      absurd (subst HasNoHead servable.lines none servable.head servable.headed)
  complete_texts (Refused refusal.Foreign) stops unrefused site_text lane_text contents told_site told_lane servable no_site no_lane = absurd stops
  complete_texts (Refused refusal.Blank) stops unrefused site_text lane_text contents told_site told_lane servable no_site no_lane = absurd stops
  complete_texts (Refused refusal.Present) stops unrefused site_text lane_text contents told_site told_lane servable no_site no_lane = absurd stops
  complete_texts (Refused (refusal.Damaged at)) stops unrefused site_text lane_text contents told_site told_lane servable no_site no_lane = absurd stops
  complete_texts (Ended ending.AllAnswered) stops unrefused site_text lane_text contents told_site told_lane servable no_site no_lane = absurd stops
  complete_texts (Ended ending.SomeRefused) stops unrefused site_text lane_text contents told_site told_lane servable no_site no_lane = absurd stops
  complete_texts (Ended ending.SourceFault) (inl rose) unrefused site_text lane_text contents told_site told_lane servable no_site no_lane = absurd (no_site rose)
  complete_texts (Ended ending.SourceFault) (inr t) unrefused site_text lane_text contents told_site told_lane servable no_site no_lane = absurd (no_lane (lane_rose t.2))
  complete_texts (Ended ending.SinkFault) stops unrefused site_text lane_text contents told_site told_lane servable no_site no_lane = absurd stops
  complete_texts (Ended ending.DeviceFault) stops unrefused site_text lane_text contents told_site told_lane servable no_site no_lane = absurd stops
  complete_texts (Ended ending.ClockFault) stops unrefused site_text lane_text contents told_site told_lane servable no_site no_lane = absurd stops
  complete_texts (Ended ending.OutOfMemory) stops unrefused site_text lane_text contents told_site told_lane servable no_site no_lane = refl
  complete_texts (Ended ending.InputLimit) (inl long) unrefused site_text lane_text contents told_site told_lane servable no_site no_lane =
      let past : longest_text < length site_text = use_some (λ text. longest_text < length text) (m.left site) site_text told_site long in
      let short : length site_text ≤ longest_text = servable.said.short in
      absurd (omega arith)
  complete_texts (Ended ending.InputLimit) (inr t) unrefused site_text lane_text contents told_site told_lane servable no_site no_lane =
      let past : longest_text < length lane_text = (t.2 lane_text (unread lane_text told_lane)).0 in
      let short : length lane_text ≤ longest_text = servable.short in
      absurd (omega arith)

  -- the site and the head that were read
  pub has_texts : (texts : Texts) → BeginsTexts m.left site lines lines' texts → HasTexts m (record { site = site; lane = lane; disk = disk; clock = clock; replies = replies })
  has_texts texts begins = record {
    site = texts.site;
    has_site = record { in_range = begins.reads.in_range; said = begins.reads.said };
    head = texts.head;
    in_range = begins.headed_in_range;
    headed = if_some (λ text. (first : List ℕ) × (behind : List (List ℕ)) × (lines_of text ≡ first ∷ behind) × IsHeadLine texts.head first) (m.left lane) (λ text told.
        let h = begins.headed text (unread text told) in
        (h.0, lines_of h.2.rest, h.2.lines, h.1));
  }
