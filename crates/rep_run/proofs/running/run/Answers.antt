use Rattle.std.proofs.Common.{◌≤◌, inl, inr, ℕ, List, refl, sym, ap, subst, ◌∙◌}
use Rattle.rep_journal.specs.Format.{IsBlank, IsForeign}
use Rattle.rep_journal.specs.declared.error.WhyNot.TheVariants as why
use Rattle.rep_ledger.specs.Ledger.{IsDamagedAt}
use Rattle.rep_store.specs.declared.error.StoreWhy.TheVariants.{Journal}
use Rattle.rep_report.specs.Saying.{SaysLine, status_of as ending_status}
use Rattle.rep_io.specs.Causes.{Rose}
use Rattle.rep_run.specs.Creating.{status_of}
use Rattle.rep_run.specs.declared.stopping.Stopping.{Stopping}
use Rattle.rep_run.specs.Running.{ServesLane, StopsBefore}
use Rattle.rep_run.proofs.Known.{not_both}
use Rattle.rep_run.proofs.CreatingLemmas.{refused_only}
use Rattle.rep_run.proofs.TextLemmas.{no_source_stop, stops_before, complete_texts, has_texts}
use Rattle.rep_run.proofs.EndingLemmas.{source_of, sink_of, device_of, clock_of, complete_lane}
use Rattle.rep_run.proofs.RunningLemmas.{stops_at_store, complete_store, cut_short}
use Rattle.rep_run.proofs.running.run.Goals as goal

-- the texts stop it

pub returns-in-Err-clause-ran : goal.returns-in-Err-clause-ran
returns-in-Err-clause-ran g c = inl (record {
  stopping = c.in-Err.stopping;
  stops = stops_before (record {
    left = g.S.Source.left;
    source_faults = g.S.Source.faults;
    shown = g.D.Disk.shown;
    readings = g.C.Clock.readings;
    clock_faults = g.C.Clock.faults;
    written = g.K.Sink.written;
    sink_faults = g.K.Sink.faults;
  }) c.args.site c.read_texts.new.site c.args.lane c.into_source.result c.args.disk c.args.clock c.args.replies c.lines_of-lines.result c.read_texts.new.lines
      c.lines_of-lines.ensures.none (ap (λ k. k.source) c.lines_of-lines.ensures.value) c.into_source.ensures c.in-Err.stopping c.in-Err.ensures.stops;
  says = subst (λ (l : List ℕ). SaysLine l (g.K.Sink.written c.args.out) (g.K.Sink.written c.say.new.out) (Rose (g.K.Sink.faults c.args.out) (g.K.Sink.faults c.say.new.out)))
      c.last_line.ensures c.say.ensures.says;
  status_is = c.status.ensures;
})

pub returns-in-Err-clause-complete : goal.returns-in-Err-clause-complete
returns-in-Err-clause-complete g c = λ site_text lane_text contents told_site told_lane told_contents servable no_site no_lane no_replies no_out no_disk no_clock.
    inr (inr (c.status.ensures ∙ complete_texts (record {
      left = g.S.Source.left;
      source_faults = g.S.Source.faults;
      shown = g.D.Disk.shown;
      readings = g.C.Clock.readings;
      clock_faults = g.C.Clock.faults;
      written = g.K.Sink.written;
      sink_faults = g.K.Sink.faults;
    }) c.args.site c.read_texts.new.site c.args.lane c.into_source.result c.args.disk c.args.clock c.args.replies c.lines_of-lines.result c.read_texts.new.lines
    c.lines_of-lines.ensures.none (ap (λ k. k.source) c.lines_of-lines.ensures.value) c.into_source.ensures c.in-Err.stopping c.in-Err.ensures.stops
    (c.in-Err.ensures.found site_text servable.site told_site servable.said)
    site_text lane_text contents told_site told_lane servable no_site no_lane))

pub returns-in-Err-clause-no_source_fault : goal.returns-in-Err-clause-no_source_fault
returns-in-Err-clause-no_source_fault g c = λ other cut.
    let working = no_source_stop c.read_texts.result c.in-Err.stopping c.status.result c.in-Err.is c.status.ensures other in (
      c.read_texts.ensures.no_site_fault working,
      ap g.S.Source.faults c.into_source.ensures ∙ c.read_texts.ensures.no_lane_fault working
          ∙ ap (λ k. g.S.Source.faults k.source) c.lines_of-lines.ensures.value,
    )

-- a store was found

serves : (g : _) (c : goal.After-status-in-Ok-reopen g) → ServesLane (record {
  left = g.S.Source.left;
  source_faults = g.S.Source.faults;
  shown = g.D.Disk.shown;
  readings = g.C.Clock.readings;
  clock_faults = g.C.Clock.faults;
  written = g.K.Sink.written;
  sink_faults = g.K.Sink.faults;
}) (record { site = c.args.site; lane = c.args.lane; disk = c.args.disk; clock = c.args.clock; replies = c.args.replies })
    (record { site = c.read_texts.new.site; lane = c.serve-served.result.lane; disk = c.serve-served.result.disk; clock = c.serve-served.result.clock; replies = c.serve-served.result.replies }) (g.K.Sink.written c.args.out) (g.K.Sink.written c.serve-served.new.out) (g.K.Sink.faults c.args.out) (g.K.Sink.faults c.serve-served.new.out) c.status-in-Ok-reopen.result
serves g c =
    let begins = c.in-Ok.ensures.begins in
    subst (λ (n : ℕ). ServesLane (record {
      left = g.S.Source.left;
      source_faults = g.S.Source.faults;
      shown = g.D.Disk.shown;
      readings = g.C.Clock.readings;
      clock_faults = g.C.Clock.faults;
      written = g.K.Sink.written;
      sink_faults = g.K.Sink.faults;
    }) (record { site = c.args.site; lane = c.args.lane; disk = c.args.disk; clock = c.args.clock; replies = c.args.replies })
    (record { site = c.read_texts.new.site; lane = c.serve-served.result.lane; disk = c.serve-served.result.disk; clock = c.serve-served.result.clock; replies = c.serve-served.result.replies }) (g.K.Sink.written c.args.out) (g.K.Sink.written c.serve-served.new.out) (g.K.Sink.faults c.args.out) (g.K.Sink.faults c.serve-served.new.out) n) (sym c.status-in-Ok-reopen.ensures)
    (c.serve-served.ensures.serves (record { site = c.args.site; lane = c.args.lane; disk = c.args.disk; clock = c.args.clock; replies = c.args.replies }) c.in-Ok.texts.site c.read_texts.new.site (record {
      has_site = record { in_range = begins.reads.in_range; said = begins.reads.said };
      head_in_range = begins.headed_in_range;
      headed = λ text told. begins.headed text (c.lines_of-lines.ensures.none text told);
      lane_later = subst (λ (k : g.row.S.Denot). g.S.Source.faults k ≤ g.S.Source.faults c.read_texts.new.lines.source) (ap (λ k. k.source) c.lines_of-lines.ensures.value) c.read_texts.ensures.lane_later;
      reopens = c.in-Ok-reopen.ensures.reopened;
      safe = c.in-Ok-reopen.ensures.safe;
      safe_from_rest = c.in-Ok-reopen.ensures.safe_from_rest;
      same_replies = refl;
    }))

pub returns-in-Ok-reopen-clause-ran : goal.returns-in-Ok-reopen-clause-ran
returns-in-Ok-reopen-clause-ran g c = inr (serves g c)

pub returns-in-Ok-reopen-clause-source_fault : goal.returns-in-Ok-reopen-clause-source_fault
returns-in-Ok-reopen-clause-source_fault g c = λ is. inr (source_of (record {
  left = g.S.Source.left;
  source_faults = g.S.Source.faults;
  shown = g.D.Disk.shown;
  readings = g.C.Clock.readings;
  clock_faults = g.C.Clock.faults;
  written = g.K.Sink.written;
  sink_faults = g.K.Sink.faults;
}) (record { site = c.args.site; lane = c.args.lane; disk = c.args.disk; clock = c.args.clock; replies = c.args.replies })
    (record { site = c.read_texts.new.site; lane = c.serve-served.result.lane; disk = c.serve-served.result.disk; clock = c.serve-served.result.clock; replies = c.serve-served.result.replies }) (g.K.Sink.written c.args.out) (g.K.Sink.written c.serve-served.new.out) (g.K.Sink.faults c.args.out) (g.K.Sink.faults c.serve-served.new.out) c.status-in-Ok-reopen.result (serves g c) is)

pub returns-in-Ok-reopen-clause-sink_fault : goal.returns-in-Ok-reopen-clause-sink_fault
returns-in-Ok-reopen-clause-sink_fault g c = λ is. sink_of (record {
  left = g.S.Source.left;
  source_faults = g.S.Source.faults;
  shown = g.D.Disk.shown;
  readings = g.C.Clock.readings;
  clock_faults = g.C.Clock.faults;
  written = g.K.Sink.written;
  sink_faults = g.K.Sink.faults;
}) (record { site = c.args.site; lane = c.args.lane; disk = c.args.disk; clock = c.args.clock; replies = c.args.replies })
    (record { site = c.read_texts.new.site; lane = c.serve-served.result.lane; disk = c.serve-served.result.disk; clock = c.serve-served.result.clock; replies = c.serve-served.result.replies }) (g.K.Sink.written c.args.out) (g.K.Sink.written c.serve-served.new.out) (g.K.Sink.faults c.args.out) (g.K.Sink.faults c.serve-served.new.out) c.status-in-Ok-reopen.result (serves g c) is

pub returns-in-Ok-reopen-clause-device_fault : goal.returns-in-Ok-reopen-clause-device_fault
returns-in-Ok-reopen-clause-device_fault g c = λ is. device_of (record {
  left = g.S.Source.left;
  source_faults = g.S.Source.faults;
  shown = g.D.Disk.shown;
  readings = g.C.Clock.readings;
  clock_faults = g.C.Clock.faults;
  written = g.K.Sink.written;
  sink_faults = g.K.Sink.faults;
}) (record { site = c.args.site; lane = c.args.lane; disk = c.args.disk; clock = c.args.clock; replies = c.args.replies })
    (record { site = c.read_texts.new.site; lane = c.serve-served.result.lane; disk = c.serve-served.result.disk; clock = c.serve-served.result.clock; replies = c.serve-served.result.replies }) (g.K.Sink.written c.args.out) (g.K.Sink.written c.serve-served.new.out) (g.K.Sink.faults c.args.out) (g.K.Sink.faults c.serve-served.new.out) c.status-in-Ok-reopen.result (serves g c) is

pub returns-in-Ok-reopen-clause-clock_fault : goal.returns-in-Ok-reopen-clause-clock_fault
returns-in-Ok-reopen-clause-clock_fault g c = λ is. clock_of (record {
  left = g.S.Source.left;
  source_faults = g.S.Source.faults;
  shown = g.D.Disk.shown;
  readings = g.C.Clock.readings;
  clock_faults = g.C.Clock.faults;
  written = g.K.Sink.written;
  sink_faults = g.K.Sink.faults;
}) (record { site = c.args.site; lane = c.args.lane; disk = c.args.disk; clock = c.args.clock; replies = c.args.replies })
    (record { site = c.read_texts.new.site; lane = c.serve-served.result.lane; disk = c.serve-served.result.disk; clock = c.serve-served.result.clock; replies = c.serve-served.result.replies }) (g.K.Sink.written c.args.out) (g.K.Sink.written c.serve-served.new.out) (g.K.Sink.faults c.args.out) (g.K.Sink.faults c.serve-served.new.out) c.status-in-Ok-reopen.result (serves g c) is

pub returns-in-Ok-reopen-clause-complete : goal.returns-in-Ok-reopen-clause-complete
returns-in-Ok-reopen-clause-complete g c = λ site_text lane_text contents told_site told_lane told_contents servable no_site no_lane no_replies no_out no_disk no_clock.
    complete_lane (record {
      left = g.S.Source.left;
      source_faults = g.S.Source.faults;
      shown = g.D.Disk.shown;
      readings = g.C.Clock.readings;
      clock_faults = g.C.Clock.faults;
      written = g.K.Sink.written;
      sink_faults = g.K.Sink.faults;
    }) (record { site = c.args.site; lane = c.args.lane; disk = c.args.disk; clock = c.args.clock; replies = c.args.replies })
    (record { site = c.read_texts.new.site; lane = c.serve-served.result.lane; disk = c.serve-served.result.disk; clock = c.serve-served.result.clock; replies = c.serve-served.result.replies }) (g.K.Sink.written c.args.out) (g.K.Sink.written c.serve-served.new.out) (g.K.Sink.faults c.args.out) (g.K.Sink.faults c.serve-served.new.out) c.status-in-Ok-reopen.result (serves g c) lane_text told_lane servable.short no_lane no_replies no_out no_disk no_clock

pub returns-in-Ok-reopen-clause-no_source_fault : goal.returns-in-Ok-reopen-clause-no_source_fault
returns-in-Ok-reopen-clause-no_source_fault g c = λ other cut. (
  c.read_texts.ensures.no_site_fault (not_both c.in-Ok.is),
  c.serve-served.ensures.no_source_fault (λ is. other (c.status-in-Ok-reopen.ensures ∙ ap ending_status is)) (λ is. cut (c.status-in-Ok-reopen.ensures ∙ ap ending_status is))
      ∙ c.read_texts.ensures.no_lane_fault (not_both c.in-Ok.is) ∙ ap (λ k. g.S.Source.faults k.source) c.lines_of-lines.ensures.value,
)

pub returns-in-Ok-reopen-clause-no_sink_fault : goal.returns-in-Ok-reopen-clause-no_sink_fault
returns-in-Ok-reopen-clause-no_sink_fault g c = λ cut. c.serve-served.ensures.no_sink_fault (λ is. cut (c.status-in-Ok-reopen.ensures ∙ ap ending_status is))

pub returns-in-Ok-reopen-clause-no_device_fault : goal.returns-in-Ok-reopen-clause-no_device_fault
returns-in-Ok-reopen-clause-no_device_fault g c = λ other cut.
    c.serve-served.ensures.no_device_fault (λ is. other (c.status-in-Ok-reopen.ensures ∙ ap ending_status is)) (λ is. cut (c.status-in-Ok-reopen.ensures ∙ ap ending_status is))
    ∙ c.in-Ok-reopen.ensures.reopened.no_fault

pub returns-in-Ok-reopen-clause-no_clock_fault : goal.returns-in-Ok-reopen-clause-no_clock_fault
returns-in-Ok-reopen-clause-no_clock_fault g c = λ other cut.
    c.serve-served.ensures.no_clock_fault (λ is. other (c.status-in-Ok-reopen.ensures ∙ ap ending_status is)) (λ is. cut (c.status-in-Ok-reopen.ensures ∙ ap ending_status is))
    ∙ ap g.C.Clock.faults c.in-Ok-reopen.ensures.reopened.same_clock

-- no store was found

pub returns-in-Err-reopen-clause-no_source_fault : goal.returns-in-Err-reopen-clause-no_source_fault
returns-in-Err-reopen-clause-no_source_fault g c = λ other cut. (
  c.read_texts.ensures.no_site_fault (not_both c.in-Ok.is),
  ap g.S.Source.faults c.into_source-in-Err-reopen.ensures ∙ c.read_texts.ensures.no_lane_fault (not_both c.in-Ok.is)
      ∙ ap (λ k. g.S.Source.faults k.source) c.lines_of-lines.ensures.value,
)

pub returns-in-Err-reopen-clause-ran : goal.returns-in-Err-reopen-clause-ran
returns-in-Err-reopen-clause-ran g c =
    let e = c.in-Err-reopen.ensures in
    inl (record {
      stopping = c.no_store-stopping.result;
      stops = subst (λ (s : Stopping). StopsBefore (record {
        left = g.S.Source.left;
        source_faults = g.S.Source.faults;
        shown = g.D.Disk.shown;
        readings = g.C.Clock.readings;
        clock_faults = g.C.Clock.faults;
        written = g.K.Sink.written;
        sink_faults = g.K.Sink.faults;
      }) (record { site = c.args.site; lane = c.args.lane; disk = c.args.disk; clock = c.args.clock; replies = c.args.replies })
          (record { site = c.read_texts.new.site; lane = c.into_source-in-Err-reopen.result; disk = c.in-Err-reopen.none.disk; clock = c.in-Err-reopen.none.clock; replies = c.args.replies }) s)
          (sym c.no_store-stopping.ensures)
          (stops_at_store (record {
            left = g.S.Source.left;
            source_faults = g.S.Source.faults;
            shown = g.D.Disk.shown;
            readings = g.C.Clock.readings;
            clock_faults = g.C.Clock.faults;
            written = g.K.Sink.written;
            sink_faults = g.K.Sink.faults;
          }) c.args.site c.read_texts.new.site c.args.lane c.into_source-in-Err-reopen.result c.args.disk c.in-Err-reopen.none.disk c.args.clock c.in-Err-reopen.none.clock c.args.replies
          (has_texts (record {
            left = g.S.Source.left;
            source_faults = g.S.Source.faults;
            shown = g.D.Disk.shown;
            readings = g.C.Clock.readings;
            clock_faults = g.C.Clock.faults;
            written = g.K.Sink.written;
            sink_faults = g.K.Sink.faults;
          }) c.args.site c.read_texts.new.site c.args.lane c.into_source-in-Err-reopen.result c.args.disk c.args.clock c.args.replies c.lines_of-lines.result c.read_texts.new.lines
          c.lines_of-lines.ensures.none (ap (λ k. k.source) c.lines_of-lines.ensures.value) c.into_source-in-Err-reopen.ensures c.in-Ok.texts c.in-Ok.ensures.begins)
          c.in-Err-reopen.none.why
          (refused_only _ IsBlank (Journal why.Blank) (g.D.Disk.shown c.args.disk).contents c.in-Err-reopen.none e.blank)
          (refused_only _ IsForeign (Journal why.Foreign) (g.D.Disk.shown c.args.disk).contents c.in-Err-reopen.none e.foreign)
          (λ at. refused_only _ (IsDamagedAt at) (Journal (why.Damaged at)) (g.D.Disk.shown c.args.disk).contents c.in-Err-reopen.none (e.damaged at))
          e.device_fault e.no_other e.kept e.rest);
      says = subst (λ (l : List ℕ). SaysLine l (g.K.Sink.written c.args.out) (g.K.Sink.written c.say-in-Err-reopen.new.out)
          (Rose (g.K.Sink.faults c.args.out) (g.K.Sink.faults c.say-in-Err-reopen.new.out)))
          c.last_line-in-Err-reopen.ensures c.say-in-Err-reopen.ensures.says;
      status_is = c.status-in-Err-reopen.ensures;
    })

pub returns-in-Err-reopen-clause-complete : goal.returns-in-Err-reopen-clause-complete
returns-in-Err-reopen-clause-complete g c = λ site_text lane_text contents told_site told_lane told_contents servable no_site no_lane no_replies no_out no_disk no_clock.
    let e = c.in-Err-reopen.ensures in
    inr (inr (c.status-in-Err-reopen.ensures ∙ ap status_of c.no_store-stopping.ensures
    ∙ complete_store c.in-Err-reopen.none.why (Rose (g.D.Disk.shown c.args.disk).faults (g.D.Disk.shown c.in-Err-reopen.none.disk).faults) e.device_fault no_disk
    (cut_short c.in-Err-reopen.none.why servable.history (g.D.Disk.shown c.args.disk).contents contents told_contents servable.keeps (e.found servable.history))))
