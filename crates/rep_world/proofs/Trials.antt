-- What the recorder of a world does, from what its store does.
use Rattle.std.proofs.Common.{◌≡◌, ℕ, ◌+◌, ◌-◌, ◌*◌, ◌^◌, ◌<◌, ◌≤◌, ◌⊎◌, inl, inr, ℤ, List, [], ◌∷◌, ◌++◌, length, drop, Option, Some, None, Result, Ok, Err, refl, sym, ap, subst, ◌∙◌, arith}
use Rattle.std.specs.Prelude.{Bool, IfOk, IsSome, if◌then◌else◌, nat_le}
use Rattle.std.proofs.lemmas.Bool.{cases_lt, le-leb, lt-leb}
use Rattle.rep_fields.specs.Moment.{moment_at}
use Rattle.rep_disk.specs.Disk.{Shown, AdvancesBy, IsOwnImage, last_moment}
use Rattle.rep_disk.specs.Memory.{Memory, memory_shown, state_at}
use Rattle.rep_disk.specs.Record.{image_of}
use Rattle.rep_disk.specs.declared.image.Image.{Image}
use Rattle.rep_wire.specs.declared.request.Request.{Request}
use Rattle.rep_wire.specs.declared.request.Entry.{Entry}
use Rattle.rep_wire.specs.declared.reply.Reply.{Reply}
use Rattle.rep_wire.specs.declared.reply.Slip.{Slip}
use Rattle.rep_core.specs.Verdict.{IsVerdict}
use Rattle.rep_core.specs.Answered.{entry_of, recorded_after, IsReply}
use Rattle.rep_core.specs.Valid.{IsFounded}
use Rattle.rep_core.specs.declared.verdict.Verdict.TheVariants.{Fresh}
use Rattle.rep_journal.specs.Format.{Framed, closed_gate, end_of, front_text, IsJournalOf}
use Rattle.rep_journal.proofs.KindLemmas.{one_journal}
use Rattle.rep_ledger.specs.Ledger.{IsLedgerOf, frames_of}
use Rattle.rep_ledger.specs.Leaving.{history_named}
use Rattle.rep_ledger.specs.Safety.{IsFrontOf, IsImageOf, IsSafe, Receipted}
use Rattle.rep_ledger.proofs.ContentLemmas.{one_ledger}
use Rattle.rep_ledger.proofs.DiskSteps.{IsAtRest-rests, IsRead-refl}
use Rattle.rep_ledger.proofs.LedgerLemmas.{length-frames_of}
use Rattle.rep_ledger.proofs.SafetyLemmas.{founded_some}
use Rattle.rep_site.specs.declared.site.Site.{Site}
use Rattle.rep_store.specs.Founding.{founding_request}
use Rattle.rep_store.specs.Making.{Creates, Reopens}
use Rattle.rep_store.specs.State.{State}
use Rattle.rep_store.specs.Steps.{IsKeptAsWas, IsLeftAt, Records, Serves, Stops, TakesReading, Ticks, recorded_at}
use Rattle.rep_world.specs.declared.dial.Dial.{Dial}
use Rattle.rep_world.specs.declared.naming.Naming.{Naming}
use Rattle.rep_world.specs.declared.recorder.Recorder.{Recorder}
use Rattle.rep_world.specs.declared.recorder.Recorder.TheVariants.{Up, Down}
use Rattle.sure_disk.specs.Sure.{sure_shown}
use Rattle.rep_world.specs.Devices.{times}
use Rattle.rep_world.specs.Events.{Counts, IsAsBefore, KeepsBetween, RecordsIn, SettlesIn, first_minute, history_left}
use Rattle.rep_world.specs.Fields.{IsImageNow, Runs, RunsWhileUp, world_of}
use Rattle.rep_world.specs.World.{World, IsWorld, Keeps}
use Rattle.rep_world.specs.Trial.{AllowsNamed, CountsEach, CrashesOn, DueOn, FailsOn, IsLeftAlone, IsMade, IsOpened, ServedAt, SettledOn}
use Rattle.std.proofs.lemmas.List.{length-append}
use Rattle.rep_world.proofs.Disks.{one_reading, read_bytes, read_images, read_images-back, read_rest, told_same}

abbrev pub readings : Dial → Option (List ℕ)
readings d = Some (d.minute ∷ times d.looks d.minute)

abbrev pub faults : Dial → ℕ
faults d = d.faults

abbrev pub set_to : ℕ → Dial
set_to minute = record { minute = minute; looks = 0; faults = 0 }

-- the reading that a store took of a clock that was set to a minute
pub reading_is : (minute given : ℕ) (new : Dial) → Ticks readings faults given (set_to minute) new → given ≡ minute
reading_is minute given new ticks = one_reading new.looks new.minute minute given ticks.given

module _ {D : Type 0} (shown : D → Shown) (site : Site) (minute : ℕ) (q : Request) (old new : State D Dial) (clock : old.clock ≡ set_to minute) where
  ticked : (given : ℕ) → Ticks readings faults given old.clock new.clock → given ≡ minute
  ticked given ticks = reading_is minute given new.clock (subst (λ (d : Dial). Ticks readings faults given d new.clock) clock ticks)

  -- what was recorded at a reading was recorded at that minute
  whole_is : TakesReading readings faults old new → old.offset ≡ site.offset → recorded_at old.history q old.offset new.reading ≡ recorded_after old.history q (moment_at minute site.offset)
  whole_is takes offset =
      ap (λ (r : Option ℕ). recorded_at old.history q old.offset r) takes.reading
      ∙ ap (λ (n : ℕ). recorded_after old.history q (moment_at n old.offset)) (ticked takes.minute takes.clock)
      ∙ ap (λ (o : ℤ). recorded_after old.history q (moment_at minute o)) offset

-- a recorder served
module _ (site : Site) (minute : ℕ) (q : Request) (old new : State Memory Dial) (clock : old.clock ≡ set_to minute) (runs : Runs site old) where
  runs_recorded : Records sure_shown readings faults q old new → Runs site new
  runs_recorded r = record {
    of_site = r.takes.site ∙ runs.of_site;
    limit = r.takes.limit ∙ runs.limit;
    offset = r.takes.offset ∙ runs.offset;
    running = r.running;
    settled = record { holds = r.contents; rest = r.rest };
    own = r.own.0 runs.own;
  }

  records_in : IsVerdict old.limit old.history q Fresh → Records sure_shown readings faults q old new → RecordsIn site minute q old.history old.disk.bytes new.history new.disk.bytes
  records_in fresh r = record {
    fresh = subst (λ (n : ℕ). IsVerdict n old.history q Fresh) runs.limit fresh;
    recorded = r.history ∙ whole_is sure_shown site minute q old new clock r.takes runs.offset;
    text = r.text;
  }

  pub runs_left : IsKeptAsWas sure_shown old new → Runs site new
  runs_left kept = record {
    of_site = kept.site ∙ runs.of_site;
    limit = kept.limit ∙ runs.limit;
    offset = kept.offset ∙ runs.offset;
    running = kept.stopped ∙ runs.running;
    settled = record {
      holds = subst (λ (h : List Entry). IsLedgerOf new.disk.bytes h) (sym kept.history)
          (subst (λ (bytes : List ℕ). IsLedgerOf bytes old.history) (sym (read_bytes old.disk new.disk kept.disk)) runs.settled.holds);
      rest = read_rest old.disk new.disk runs.settled.rest kept.disk;
    };
    own = kept.disk.own.0 runs.own;
  }

  settles_in : (IsVerdict old.limit old.history q Fresh → ⊥) → IsKeptAsWas sure_shown old new → SettlesIn site q old.history old.disk.bytes new.history new.disk.bytes
  settles_in settled kept = record {
    settled = λ fresh. settled (subst (λ (n : ℕ). IsVerdict n old.history q Fresh) (sym runs.limit) fresh);
    same = kept.history;
    text = read_bytes old.disk new.disk kept.disk;
  }

  pub served_at : (reply : Reply) → Serves sure_shown readings faults q reply old new → ServedAt site minute q old new reply
  served_at reply s = record {
    runs = elim s.served [ inl r ↦ runs_recorded r.1 | inr l ↦ runs_left l.1.kept ];
    recorded = elim s.served [ inl r ↦ inl (records_in r.0 r.1) | inr l ↦ inr (settles_in l.0 l.1.kept) ];
    answered = subst (λ (n : ℕ). IsReply n new.history q reply) runs.limit s.answered;
  }

-- a recorder that was left alone
module _ (site : Site) (sent : List Request) (named : List Naming) (issued : List Slip) where
  pub left_as_before : (old new : Recorder) → IsLeftAlone old new → IsAsBefore (world_of site sent named issued old) (world_of site sent named issued new)
  left_as_before (Up old) (Up new) kept = record {
    people = record { site = refl; sent = refl };
    named = refl;
    issued = refl;
    up = refl;
    bytes = read_bytes old.disk new.disk kept.disk;
    images = λ below image. (read_images old.disk new.disk kept.disk below image, read_images-back old.disk new.disk kept.disk below image);
    time = kept.disk.later;
  }
  left_as_before (Up old) (Down new) kept = absurd kept
  left_as_before (Down old) (Up new) kept = absurd kept
  left_as_before (Down old) (Down new) kept = record {
    people = record { site = refl; sent = refl };
    named = refl;
    issued = refl;
    up = refl;
    bytes = ap (λ (d : Memory). d.bytes) kept;
    images = λ below image. (
      subst (λ (d : Memory). (memory_shown d).may_leave d.moment image → (memory_shown old).may_leave old.moment image) (sym kept) (λ is. is),
      subst (λ (d : Memory). (memory_shown old).may_leave old.moment image → (memory_shown d).may_leave d.moment image) (sym kept) (λ is. is),
    );
    time = omega (arith, ap (λ (d : Memory). d.moment) kept);
  }

-- while a recorder is up, its contents are the image of now
pub contents_now : (site : Site) (store : State Memory Dial) (image : Image) (left : List ℕ) → Runs site store → store.disk.moment < last_moment → left ≡ store.disk.bytes → IsImageNow image (Up store) left
contents_now site store image left runs early is = record {
  early = early;
  named = is;
  allowed = subst (λ (bytes : List ℕ). (memory_shown store.disk).may_leave store.disk.moment bytes) (sym is) (runs.own early);
}

-- a recorder that wasn't asked was left alone
pub left_alone-refl : (r : Recorder) → IsLeftAlone r r
left_alone-refl (Up store) = record { site = refl; history = refl; limit = refl; offset = refl; faults = refl; stopped = refl; disk = IsRead-refl (sure_shown store.disk) }
left_alone-refl (Down disk) = refl

pub left_runs : (site : Site) (old new : Recorder) → RunsWhileUp site old → IsLeftAlone old new → RunsWhileUp site new
left_runs site (Up old) (Up new) runs kept = record {
  of_site = kept.site ∙ runs.of_site;
  limit = kept.limit ∙ runs.limit;
  offset = kept.offset ∙ runs.offset;
  running = kept.stopped ∙ runs.running;
  settled = record {
    holds = subst (λ (h : List Entry). IsLedgerOf new.disk.bytes h) (sym kept.history)
        (subst (λ (bytes : List ℕ). IsLedgerOf bytes old.history) (sym (read_bytes old.disk new.disk kept.disk)) runs.settled.holds);
    rest = read_rest old.disk new.disk runs.settled.rest kept.disk;
  };
  own = kept.disk.own.0 runs.own;
}
left_runs site (Up old) (Down new) runs kept = absurd kept
left_runs site (Down old) (Up new) runs kept = absurd kept
left_runs site (Down old) (Down new) runs kept = tt

-- a store was opened
pub opened_by : (site : Site) (disk : Memory) (clock : Dial) (s : State Memory Dial) → IsOwnImage (sure_shown disk) → Reopens sure_shown site disk clock s → IsOpened site disk.bytes s
opened_by site disk clock s own r =
    let same = told_same s.disk.bytes disk.bytes r.kept.contents in
    record {
      runs = record {
        of_site = r.is_new.of_site;
        limit = r.is_new.limit;
        offset = r.is_new.offset;
        running = r.is_new.running;
        settled = record {
          holds = subst (λ (bytes : List ℕ). IsLedgerOf bytes s.history) (sym same) r.holds;
          rest = IsAtRest-rests (disk.moment + 2) (sure_shown s.disk) r.rest;
        };
        own = r.kept.own.0 own;
      };
      same = same;
    }

-- a store was made
pub made_by : (site : Site) (disk : Memory) (s : State Memory Dial) → IsOwnImage (sure_shown disk) → Creates sure_shown readings faults site disk (set_to first_minute) s → IsMade site s
made_by site disk s own r =
    let f = r.founds in
    let minute = reading_is first_minute f.minute s.clock f.ticks in
    record {
      runs = record {
        of_site = r.is_new.of_site;
        limit = r.is_new.limit;
        offset = r.is_new.offset;
        running = r.is_new.running;
        settled = record { holds = f.contents; rest = f.rest };
        own = f.own.0 own;
      };
      history = f.history
          ∙ ap (λ (n : ℕ). entry_of (founding_request site) (moment_at n s.offset) ∷ []) minute
          ∙ ap (λ (o : ℤ). entry_of (founding_request site) (moment_at first_minute o) ∷ []) r.is_new.offset;
    }

-- an image between two histories, of which the first is founded
between_image : (before whole h : List Entry) (image : List ℕ) → IsFounded before → IsImageOf image h → IsFrontOf before h → IsFrontOf h whole → KeepsBetween before whole image
between_image before whole h image founded (inl ledger) front behind = (h, ledger, front, behind)
between_image before whole h image founded (inr none) front behind =
    absurd (empty before front.0 (founded_some before founded) (sym front.1 ∙ none.0))
  where
    empty : (xs ys : List Entry) → 0 < length xs → xs ++ ys ≡ [] → ⊥
    empty [] ys some same = omega (arith, some)
    empty (x ∷ xs) ys some same = absurd cc

-- an entry was put on a copy of a disk
module _ {D : Type 0} (shown : D → Shown) (site : Site) (minute : ℕ) (q : Request) (bytes : List ℕ) (old new : State D Dial) (clock : old.clock ≡ set_to minute) (limit : old.limit ≡ site.last_nsr) (offset : old.offset ≡ site.offset) (kept : IsLedgerOf bytes old.history) where
  due_on : IsVerdict old.limit old.history q Fresh → DueOn site minute q bytes old.history (recorded_after old.history q (moment_at minute site.offset))
  due_on fresh = record {
    kept = kept;
    fresh = subst (λ (n : ℕ). IsVerdict n old.history q Fresh) limit fresh;
    is_whole = refl;
  }

  -- each image since then keeps a history between
  images_between : (receipts : List Receipted) → TakesReading readings faults old new → IsSome (shown old.disk).contents → IsSafe (shown old.disk).moment old.history (recorded_at old.history q old.offset new.reading) receipts (shown old.disk) (shown new.disk) → (shown new.disk).moment < last_moment → (m : ℕ) (image : List ℕ) → (shown old.disk).moment ≤ m → m ≤ (shown new.disk).moment → (shown new.disk).may_leave m image → KeepsBetween old.history (recorded_after old.history q (moment_at minute site.offset)) image
  images_between receipts takes told safe below m image from within leaves =
      let found = (safe told below).images m image from within leaves in
      between_image old.history (recorded_after old.history q (moment_at minute site.offset)) found.0 image kept.founded found.1 found.2
      (subst (λ (whole : List Entry). IsFrontOf found.0 whole) (whole_is shown site minute q old new clock takes offset) found.3)

-- by the count the entry isn't there
without : (h : List Entry) (e : Entry) (bytes : List ℕ) (entries : ℕ) → CountsEach bytes entries → entries ≡ length h → IsLedgerOf bytes h ⊎ IsLedgerOf bytes (h ++ e ∷ []) → IsLedgerOf bytes h
without h e bytes entries counts same (inl kept) = kept
without h e bytes entries counts same (inr more) =
    absurd (omega (arith, counts (h ++ e ∷ []) more, same, length-append h (e ∷ [])))

-- a journal has a frame for each entry
pub each_frame : (bytes : List ℕ) (frames : List Framed) (n : ℕ) → IsJournalOf bytes frames → n ≡ length frames → CountsEach bytes n
each_frame bytes frames n journal count = λ h ledger.
    count ∙ ap (λ (fs : List Framed). length fs) (one_journal bytes frames (frames_of h) journal ledger.journal) ∙ length-frames_of h

-- what counts the entries of each history counts those of one that is kept
pub counts_one : (bytes : List ℕ) (h : List Entry) (n : ℕ) → IsLedgerOf bytes h → n ≡ length h → CountsEach bytes n
counts_one bytes h n kept is = λ g ledger. is ∙ ap (λ (xs : List Entry). length xs) (one_ledger bytes h g kept ledger)

pub counts_kept : (w : World) (bytes : List ℕ) (n : ℕ) → Keeps w bytes → CountsEach bytes n → Counts bytes n
counts_kept w bytes n keeps each = record { history = keeps.history; ledger = keeps.ledger; count = each keeps.history keeps.ledger }

pub counts_ok : {E : Type 0} (w : World) (r : Result ℕ E) → IsWorld w → IfOk r (CountsEach w.disk.bytes) → IfOk r (Counts w.disk.bytes)
counts_ok w (Ok n) world each = counts_kept w w.disk.bytes n world.bytes each
counts_ok w (Err e) world each = tt

pub counts_of : (h : List Entry) (bytes : List ℕ) (n : ℕ) → IsLedgerOf bytes h → CountsEach bytes n → Counts bytes n
counts_of h bytes n ledger each = record { history = h; ledger = ledger; count = each h ledger }

-- one of two histories, by a test of a number
if_within : (n end : ℕ) (kept other : List Entry) (bytes : List ℕ) → (n ≤ end → IsLedgerOf bytes kept) → (end < n → IsLedgerOf bytes other) → IsLedgerOf bytes (if nat_le n end then kept else other)
if_within n end kept other bytes within past = elim (cases_lt end n) [
  | inl less ↦ subst (λ (b : Bool). IsLedgerOf bytes (if b then kept else other)) (sym (lt-leb n end less)) (past less)
  | inr most ↦ subst (λ (b : Bool). IsLedgerOf bytes (if b then kept else other)) (sym (le-leb n end most)) (within most)
]

-- a device call failed
calls_same : (failed call begun now : ℕ) → 0 < failed → failed ≤ 4 → call ≤ 4 → begun ≤ 2 ^ 62 → now ≡ begun + 2 * call → AdvancesBy (2 * failed) begun now → failed ≡ call
calls_same failed call begun now some within four early is calls = omega arith

left_by : (call : ℕ) (before : List Entry) (e : Entry) (bytes : List ℕ) (entries : ℕ) → call ≤ 4 → IsLeftAt call before (before ++ e ∷ []) bytes → CountsEach bytes entries → (call ≡ 3 → entries ≡ length before) → IsLedgerOf bytes (history_left call before (before ++ e ∷ []))
left_by call before e bytes entries four left counts third =
    if_within call 3 before (before ++ e ∷ []) bytes
    (λ within. elim (cases_lt call 3) [
      | inl early ↦ left.early (omega (arith, early))
      | inr late ↦ without before e bytes entries counts (third (omega (arith, within, late))) left.either
    ])
    (λ past. left.late (omega (arith, past, four)))

pub fails_on : (site : Site) (minute call : ℕ) (q : Request) (disk : Memory) (old new : State Memory Dial) (receipts : List Receipted) (entries : ℕ) → Reopens memory_shown site disk (set_to minute) old → Stops memory_shown readings faults q old new → IsSafe old.disk.moment old.history (recorded_at old.history q old.offset new.reading) receipts (memory_shown old.disk) (memory_shown new.disk) → call ≤ 4 → old.disk.moment ≤ 2 ^ 62 → new.disk.moment ≡ old.disk.moment + 2 * call → CountsEach new.disk.bytes entries → (call ≡ 3 → entries ≡ length old.history) → AllowsNamed new.disk → FailsOn site minute call q disk.bytes new.disk
fails_on site minute call q disk old new receipts entries r s safe four early is counts third allows =
    let e : Entry = entry_of q (moment_at minute site.offset) in
    let whole = whole_is memory_shown site minute q old new r.same_clock s.takes r.is_new.offset in
    let same : s.failed ≡ call = calls_same s.failed call old.disk.moment new.disk.moment s.some s.within four early is s.calls in
    record {
      before = old.history;
      whole = recorded_after old.history q (moment_at minute site.offset);
      due = due_on memory_shown site minute q disk.bytes old new r.same_clock r.is_new.limit r.is_new.offset r.holds s.fresh;
      is_left = left_by call old.history e new.disk.bytes entries four
          (subst (λ (n : ℕ). IsLeftAt n old.history (recorded_after old.history q (moment_at minute site.offset)) new.disk.bytes) same
          (subst (λ (h : List Entry). IsLeftAt s.failed old.history h new.disk.bytes) whole s.contents))
          counts third;
      images = λ below image leaves. images_between memory_shown site minute q disk.bytes old new r.same_clock r.is_new.limit r.is_new.offset r.holds receipts s.takes refl safe below new.disk.moment image (omega (arith, is)) (omega arith) leaves;
      closed = λ early_call below image leaves. s.closed refl below new.disk.moment image (omega (arith, is)) (omega (arith, is, early_call)) (omega arith) leaves;
      by_name = λ below name.
          let image = image_of name (state_at new.disk new.disk.moment) in
          if_within call 2 old.history (history_named name old.history (recorded_after old.history q (moment_at minute site.offset))) image
          (λ early_call. s.closed refl below new.disk.moment image (omega (arith, is)) (omega (arith, is, early_call)) (omega arith) (allows name))
          (λ late. subst (λ (h : List Entry). IsLedgerOf image (history_named name old.history h)) whole
          ((s.at_gate below new.disk.moment (omega (arith, is, late)) (omega arith) (omega arith)).named name image refl));
    }

-- nothing was put
pub settled_on : {D : Type 0} (shown : D → Shown) (site : Site) (q : Request) (reply : Reply) (bytes : List ℕ) (old new : State D Dial) → old.limit ≡ site.last_nsr → IsLedgerOf bytes old.history → Serves shown readings faults q reply old new → new.reading ≡ None → SettledOn site q bytes
settled_on shown site q reply bytes old new limit kept s none = record {
  before = old.history;
  kept = kept;
  settled = elim s.served [
    | inl r ↦ λ fresh. absurd (none_some r.1.takes.minute (sym none ∙ r.1.takes.reading))
    | inr l ↦ λ fresh. l.0 (subst (λ (n : ℕ). IsVerdict n old.history q Fresh) (sym limit) fresh)
  ];
}
  where
    none_some : (n : ℕ) → None ≡ Some n → ⊥
    none_some n same = absurd cc

-- a crash came within a device call
calls_made : (begun now : ℕ) → begun ≤ 2 ^ 62 → AdvancesBy (2 * 4) begun now → now ≡ begun + 8
calls_made begun now early calls = omega arith

pub put_of : {D : Type 0} (shown : D → Shown) (q : Request) (reply : Reply) (old new : State D Dial) → Serves shown readings faults q reply old new → (new.reading ≡ None → ⊥) → IsVerdict old.limit old.history q Fresh × Records shown readings faults q old new
put_of shown q reply old new s some = elim s.served [ inl r ↦ r | inr l ↦ absurd (some l.1.reading) ]

pub made_calls : {D : Type 0} (shown : D → Shown) (q : Request) (reply : Reply) (old new : State D Dial) → Serves shown readings faults q reply old new → (new.reading ≡ None → ⊥) → (shown old.disk).moment ≤ 2 ^ 62 → (shown new.disk).moment ≡ (shown old.disk).moment + 8
made_calls shown q reply old new s some early = calls_made (shown old.disk).moment (shown new.disk).moment early (put_of shown q reply old new s some).1.calls

pub crashes_on : (site : Site) (minute call : ℕ) (image : Image) (q : Request) (bytes left : List ℕ) (reply : Reply) (receipts : List Receipted) (old new : State Memory Dial) → old.clock ≡ set_to minute → IsOpened site bytes old → Serves sure_shown readings faults q reply old new → (new.reading ≡ None → ⊥) → IsSafe old.disk.moment old.history (recorded_at old.history q old.offset new.reading) receipts (sure_shown old.disk) (sure_shown new.disk) → 1 ≤ call → call ≤ 4 → old.disk.moment ≤ 2 ^ 62 → left ≡ image_of image (state_at new.disk (old.disk.moment + (2 * call - 1))) → (memory_shown new.disk).may_leave (old.disk.moment + (2 * call - 1)) left → CrashesOn site minute call image q bytes left
crashes_on site minute call image q bytes left reply receipts old new clock opened s some safe one four early is leaves =
    let put = put_of sure_shown q reply old new s some in
    let kept : IsLedgerOf bytes old.history = subst (λ (b : List ℕ). IsLedgerOf b old.history) opened.same opened.runs.settled.holds in
    let calls : new.disk.moment ≡ old.disk.moment + 8 = calls_made old.disk.moment new.disk.moment early put.1.calls in
    let below : new.disk.moment < last_moment = omega (arith, calls, early) in
    let recorded : new.history ≡ recorded_after old.history q (moment_at minute site.offset) = put.1.history ∙ whole_is sure_shown site minute q old new clock put.1.takes opened.runs.offset in
    record {
      before = old.history;
      whole = recorded_after old.history q (moment_at minute site.offset);
      due = due_on sure_shown site minute q bytes old new clock opened.runs.limit opened.runs.offset kept put.0;
      during = new.disk;
      begun = old.disk.moment;
      puts = record {
        calls = calls;
        rested = λ other leaves'.
            (opened.runs.settled.rest (omega (arith, early)) other).0 (((safe refl below).past old.disk.moment other (omega arith)).0 leaves') ∙ opened.same;
        closed = λ m other from within leaves'. put.1.closed refl below m other from within (omega (arith, calls, within)) leaves';
        text = subst (λ (h : List Entry). new.disk.bytes ≡ front_text (frames_of h) ++ closed_gate ∷ drop (1 + end_of (frames_of h)) bytes) recorded
            (subst (λ (b : List ℕ). new.disk.bytes ≡ front_text (frames_of new.history) ++ closed_gate ∷ drop (1 + end_of (frames_of new.history)) b) opened.same put.1.text);
      };
      is_left = is;
      allowed = leaves;
      keeps = if_within call 2 old.history (history_named image old.history (recorded_after old.history q (moment_at minute site.offset))) left
          (λ early_call. put.1.closed refl below (old.disk.moment + (2 * call - 1)) left (omega arith) (omega (arith, early_call, one)) (omega (arith, calls, one, four)) leaves)
          (λ late. subst (λ (h : List Entry). IsLedgerOf left (history_named image old.history h)) recorded
          ((put.1.at_gate below (old.disk.moment + (2 * call - 1)) (omega (arith, late)) (omega (arith, four, late)) (omega (arith, calls, one, four))).named image left (ap (λ (l : List ℕ). Some l) (sym is))));
    }
