-- The frames of a journal, taken in one after another.
use Rattle.std.proofs.Common.{◌≡◌, ℕ, suc, ◌+◌, ◌<◌, ◌≤◌, List, [], ◌∷◌, ◌++◌, length, take, drop, Some, refl, sym, ap, subst, ◌∙◌, arith, length-append, slice_get}
use Rattle.std.proofs.Math.Seq.{take-suc}
use Rattle.std.proofs.lemmas.List.{take_all}
use Rattle.std.proofs.lemmas.Option.{get_or_from_slice_get}
use Rattle.std.specs.Prelude.{IsSome}
use Rattle.afd_records.specs.Record.{last_nsr}
use Rattle.rep_disk.specs.Disk.{Shown}
use Rattle.rep_wire.specs.declared.request.Entry.{Entry}
use Rattle.rep_core.specs.Core.{Kept, Stands}
use Rattle.rep_core.specs.Valid.{IsFounded}
use Rattle.rep_core.proofs.Splits.{split_of}
use Rattle.rep_core.proofs.Standing.{entries_of}
use Rattle.rep_journal.specs.Format.{Framed, end_of, gate_at}
use Rattle.rep_journal.specs.State.{State, IsRead}
use Rattle.rep_ledger.specs.Fitting.{IsEmptyOrFounded, IsNextLine}
use Rattle.rep_ledger.specs.Ledger.{frames_of, MisfitAmong}
use Rattle.rep_ledger.specs.Replaying.{IsReplayed}
use Rattle.rep_ledger.proofs.LedgerLemmas.{IsFounded-next, IsNextLine-frame, begun_of, founded_of, frames_of-push, next_frame-is}
use Rattle.rep_ledger.proofs.DiskSteps.{IsRead-refl, IsRead-trans}

-- nothing is taken in yet
pub IsReplayed-start : {D : Type 0} (shown : D → Shown) (core : Kept) (journal : State D) → Stands core [] → core.limit ≡ last_nsr → IsReplayed shown 0 core journal journal
IsReplayed-start shown core journal stands limit =
    let none = entries_of core [] stands in
    record {
      limit = limit;
      begun = subst IsEmptyOrFounded (sym none) tt;
      count = ap length none;
      replayed = λ told. ap frames_of (sym none);
      frames = refl;
      faults = refl;
      disk = IsRead-refl (shown journal.disk);
      no_fault = refl;
    }

-- the frame that a told disk gives is the next one
taken_more : (frames : List Framed) (i : ℕ) (frame : Framed) → i < length frames → slice_get frames i ≡ Some frame → take (i + 1) frames ≡ take i frames ++ frame ∷ []
taken_more frames i frame inside got =
    let one : i + 1 ≡ suc i = omega arith in
    ap (λ n. take n frames) one ∙ take-suc frames i frame inside
    ∙ ap (λ f. take i frames ++ f ∷ []) (get_or_from_slice_get frames i frame frame got)

module _ {D : Type 0} (shown : D → Shown) (i : ℕ) (core : Kept) (old now : State D) (frame : Framed) (before : IsReplayed shown i core old now) (inside : i < length now.frames) (got : IsSome (shown now.disk).contents → slice_get now.frames i ≡ Some frame) where
  -- the same of the frames that the journal began with
  told_frame : IsSome (shown old.disk).contents → slice_get old.frames i ≡ Some frame
  told_frame told =
      ap (λ frames. slice_get frames i) (sym before.frames) ∙ got (subst IsSome (sym before.disk.contents) told)

  inside_old : i < length old.frames
  inside_old = omega (arith, ap length before.frames)

  -- one frame more is taken in
  pub IsReplayed-step : (core' : Kept) (new : State D) (e : Entry) → new.frames ≡ now.frames → new.faults ≡ now.faults → IsRead (shown now.disk) (shown new.disk) → (shown new.disk).faults ≡ (shown now.disk).faults → IsNextLine core.entries frame.origin frame.seq frame.line e → Stands core' (core.entries ++ e ∷ []) → core'.limit ≡ core.limit → IsReplayed shown (i + 1) core' old new
  IsReplayed-step core' new e frames faults read no_fault next stands limit =
      let entries = entries_of core' (core.entries ++ e ∷ []) stands in
      record {
        limit = limit ∙ before.limit;
        begun = subst IsEmptyOrFounded (sym entries) (begun_of (core.entries ++ e ∷ []) (IsFounded-next core.entries e before.begun next.fits));
        count = omega (arith, ap length entries, length-append core.entries (e ∷ []), before.count);
        replayed = λ told.
            taken_more old.frames i frame inside_old (told_frame told)
            ∙ ap (λ front. front ++ frame ∷ []) (before.replayed told)
            ∙ ap (λ f. frames_of core.entries ++ f ∷ []) (next_frame-is core.entries frame e next)
            ∙ sym (frames_of-push core.entries e)
            ∙ ap frames_of (sym entries);
        frames = frames ∙ before.frames;
        faults = faults ∙ before.faults;
        disk = IsRead-trans (shown old.disk) (shown now.disk) (shown new.disk) before.disk read;
        no_fault = no_fault ∙ before.no_fault;
      }

  -- the frame is of no entry that can stand next
  pub MisfitAmong-step : (at : ℕ) → ((e : Entry) → IsNextLine core.entries frame.origin frame.seq frame.line e → ⊥) → at ≡ gate_at old.frames i → IsSome (shown old.disk).contents → MisfitAmong old.frames at
  MisfitAmong-step at none at_is told = record {
    before = core.entries;
    begun = before.begun;
    frame = frame;
    behind = drop (suc i) old.frames;
    split = split_of old.frames i frame inside_old
        ∙ ap (λ f. take i old.frames ++ f ∷ drop (suc i) old.frames) (get_or_from_slice_get old.frames i frame frame (told_frame told))
        ∙ ap (λ front. front ++ frame ∷ drop (suc i) old.frames) (before.replayed told);
    place = at_is ∙ ap end_of (before.replayed told);
    misfit = λ e fits is. none e (IsNextLine-frame core.entries frame e fits is);
  }

-- all frames are taken in
pub founded_at_end : {D : Type 0} (shown : D → Shown) (i : ℕ) (core : Kept) (old now : State D) (h : List Entry) → IsReplayed shown i core old now → 1 ≤ i → Stands core h → IsFounded h
founded_at_end shown i core old now h taken some stands =
    subst IsFounded (entries_of core h stands) (founded_of core.entries (omega (arith, taken.count)) taken.begun)

pub replayed_at_end : {D : Type 0} (shown : D → Shown) (i : ℕ) (core : Kept) (old now : State D) (h : List Entry) → IsReplayed shown i core old now → i ≡ length old.frames → Stands core h → IsSome (shown old.disk).contents → old.frames ≡ frames_of h
replayed_at_end shown i core old now h taken all stands told =
    sym (take_all i old.frames (omega arith)) ∙ taken.replayed told ∙ ap frames_of (entries_of core h stands)

pub counted_at_end : {D : Type 0} (shown : D → Shown) (i : ℕ) (core : Kept) (old now : State D) (h : List Entry) → IsReplayed shown i core old now → i ≡ length old.frames → Stands core h → length h ≡ length old.frames
counted_at_end shown i core old now h taken all stands = sym (ap length (entries_of core h stands)) ∙ taken.count ∙ all
