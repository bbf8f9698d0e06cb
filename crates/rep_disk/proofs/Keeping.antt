-- What each call does to a disk in memory: that its record stays sound, and how its images go on.
use Rattle.std.proofs.Common.{◌≡◌, ℕ, ◌+◌, ◌<◌, ◌≤◌, min, Bool, List, [], ◌∷◌, ◌++◌, Some, None, Option, Ok, Err, refl, sym, ap, ◌∙◌, subst, inl, inr, arith, ⊎_elim}
use Rattle.std.specs.Prelude.{◌↔◌}
use Rattle.std.proofs.lemmas.Bool.{cases_lt}
use Rattle.rep_disk.specs.Disk.{ByName, Moves, Opens, OpensUntil, Renames, RenamesSurely, Stays, Same, IsAtRest, IsOwnImage, as_named, last_moment}
use Rattle.rep_disk.specs.Record.{Made, State, Step, IsImage, IsSoundState, IsDated, at_rest, changed, image_of, reached, replay}
use Rattle.rep_io.specs.Causes.{last_count}
use Rattle.rep_disk.specs.Changes.{secured, Secured}
use Rattle.rep_disk.specs.Memory.{Memory, IsSound, state_at, memory_shown}
use Rattle.rep_disk.specs.declared.image.Image.{Image}
use Rattle.rep_io.specs.declared.cause.Failed.{Failed}
use Rattle.rep_disk.proofs.Cells.{fits_only}
use Rattle.rep_disk.proofs.Names.{by_step, named_changed, named_rested}
use Rattle.rep_disk.proofs.Replay.{reached_not, reached_is, settled_not, settled_is, replay_snoc, replay_dated, dated_later, dated_snoc, dated_front, dated_last, sound_changed, sound_rest, own_image, IsStepOf, AltersImage, image_changed, image_opened}

-- images of one state are those of an equal one
pub image_at : (s t : State) (image : List ℕ) → s ≡ t → IsImage s image → IsImage t image
image_at s t image e is = subst (λ (x : State). IsImage x image) e is

same_images : (s t : State) (image : List ℕ) → s ≡ t → IsImage s image ↔ IsImage t image
same_images s t image e = (image_at s t image e, image_at t s image (sym e))

-- and are told by the same names
same_named : (name : Image) (s t : State) → s ≡ t → Some (image_of name s) ≡ Some (image_of name t)
same_named name s t e = ap (λ (x : State). Some (image_of name x)) e

pub own : (disk : Memory) → IsSound disk → IsOwnImage (memory_shown disk)
own disk sound below = subst (IsImage (state_at disk disk.moment)) sound.seen (own_image (state_at disk disk.moment) (sound.sound disk.moment))

pub own_both : (old new : Memory) → IsSound old → IsSound new → IsOwnImage (memory_shown old) ↔ IsOwnImage (memory_shown new)
own_both old new before after = ((λ _. own new after), (λ _. own old before))

-- from the moment at entry on, what was changed before stays
later_same : (disk : Memory) (m : ℕ) → IsSound disk → disk.moment ≤ m → state_at disk m ≡ state_at disk disk.moment
later_same disk m sound le = replay_dated disk.moment m (at_rest disk.first) disk.log le sound.dated

-- A call that changes nothing but counts.
pub record Idles (old new : Memory) : Type 0 where
  pub bytes : new.bytes ≡ old.bytes
  pub first : new.first ≡ old.first
  pub log : new.log ≡ old.log
  pub later : old.moment ≤ new.moment
  pub in_range : new.moment ≤ last_moment
  pub faults : new.faults ≤ last_count

idle_state : (old new : Memory) (m : ℕ) → Idles old new → state_at new m ≡ state_at old m
idle_state old new m idles = ap (λ (f : List ℕ). replay m (at_rest f) new.log) idles.first ∙ ap (λ (l : List Made). replay m (at_rest old.first) l) idles.log

pub idle_sound : (old new : Memory) → Idles old new → IsSound old → IsSound new
idle_sound old new idles sound = record {
  in_range = idles.in_range;
  faults_in_range = idles.faults;
  dated = dated_later old.moment new.moment new.log idles.later (subst (IsDated old.moment) (sym idles.log) sound.dated);
  seen = ap (λ (s : State). s.seen) (idle_state old new new.moment idles ∙ later_same old new.moment sound idles.later) ∙ sound.seen ∙ sym idles.bytes;
  sound = λ m. subst IsSoundState (sym (idle_state old new m idles)) (sound.sound m);
}

pub idle_stays : (old new : Memory) → Idles old new → IsSound old → Stays (memory_shown old) (memory_shown new)
idle_stays old new idles sound below = record {
  past = λ m image le. same_images (state_at new m) (state_at old m) image (idle_state old new m idles);
  images = λ m image after le. same_images (state_at new m) (state_at old old.moment) image (idle_state old new m idles ∙ later_same old m sound (omega arith));
}

-- where nothing is pending, a call that leaves the images takes any step that leaves them
pub stays_moves : (step : List ℕ → List ℕ → Type 0) (old new : Memory) → ((image : List ℕ) → step image image) → Stays (memory_shown old) (memory_shown new) → Moves step (memory_shown old) (memory_shown new)
stays_moves step old new same stays below =
    let s = stays below in
    record {
      past = s.past;
      images = λ m image after le is. (image, (s.images m image after le).0 is, same image);
      settles = λ m later image after le last is. (s.images m image after (omega arith)).1 ((s.images later image (omega arith) last).0 is);
    }

pub stays_opens : (step : List ℕ → List ℕ → Type 0) (old new : Memory) → ((was image : List ℕ) → step was image → image ≡ was) → Stays (memory_shown old) (memory_shown new) → Opens step (memory_shown old) (memory_shown new)
stays_opens step old new same stays below m was image after le is stepped =
    let s = stays below in
    (s.images m image after le).1 (subst (IsImage (state_at old old.moment)) (sym (same was image stepped)) is)

pub idle_names : (step : ByName) (old new : Memory) → ((name : Image) (bytes : List ℕ) → step name bytes ≡ bytes) → Idles old new → IsSound old → Renames step (memory_shown old) (memory_shown new)
idle_names step old new same idles sound below = record {
  past = λ m le name. same_named name (state_at new m) (state_at old m) (idle_state old new m idles);
  now = λ m after le name.
      same_named name (state_at new m) (state_at old old.moment) (idle_state old new m idles ∙ later_same old m sound (omega arith))
      ∙ sym (ap (λ (l : List ℕ). Some l) (same name (image_of name (state_at old old.moment))));
}

-- a sync that failed leaves what was pending as it was
pub idle_opens : (old new : Memory) (fault : Failed) → Stays (memory_shown old) (memory_shown new) → OpensUntil (memory_shown old) (memory_shown new) (Err fault)
idle_opens old new fault stays below m image after le _ is = let s = stays below in (s.images m image after le).1 is

pub idle_surely : (old new : Memory) (fault : Failed) → Idles old new → IsSound old → RenamesSurely (memory_shown old) (memory_shown new) (Err fault)
idle_surely old new fault idles sound below =
    let renamed = idle_names as_named old new (λ name bytes. refl) idles sound below in
    record { past = renamed.past; within = λ m after le _. renamed.now m after le; after = tt }

-- A change.
pub record Makes (step : Step) (failed : Bool) (old new : Memory) : Type 0 where
  pub bytes : new.bytes ≡ (changed step failed (state_at old old.moment)).seen
  pub first : new.first ≡ old.first
  pub begun : ℕ
  pub begins : begun ≡ min (old.moment + 1) last_moment
  pub log : new.log ≡ old.log ++ record { begun = begun; synced = None; step = step; failed = failed } ∷ []
  pub moment : new.moment ≡ min (old.moment + 2) last_moment
  pub faults : new.faults ≤ last_count

module _ (step : Step) (failed : Bool) (old new : Memory) (makes : Makes step failed old new) (sound : IsSound old) where
  abbrev made : Made
  made = record { begun = makes.begun; synced = None; step = step; failed = failed }

  entry : old.moment ≤ makes.begun
  entry = let h = makes.begins in let r = sound.in_range in omega arith

  exit : makes.begun ≤ new.moment
  exit = let h = makes.begins in let e = makes.moment in omega arith

  replayed : (m : ℕ) → state_at new m ≡ reached m made (state_at old m)
  replayed m = ap (λ (f : List ℕ). replay m (at_rest f) new.log) makes.first ∙ ap (λ (l : List Made). replay m (at_rest old.first) l) makes.log ∙ replay_snoc m (at_rest old.first) old.log made

  not_yet : (m : ℕ) → m < makes.begun → state_at new m ≡ state_at old m
  not_yet m lt = replayed m ∙ reached_not m made (state_at old m) lt

  from_then : (m : ℕ) → makes.begun ≤ m → state_at new m ≡ changed step failed (state_at old old.moment)
  from_then m le = let e = entry in replayed m ∙ reached_is m made (state_at old m) le ∙ ap (λ (s : State). changed step failed s) (later_same old m sound (omega arith))

  pub made_sound : IsStepOf step (state_at old old.moment) → IsSound new
  made_sound within =
      let x = exit in
      let e = entry in
      let n = makes.moment in
      record {
        in_range = omega arith;
        faults_in_range = makes.faults;
        dated = subst (IsDated new.moment) (sym makes.log) (dated_snoc new.moment old.log made (dated_later old.moment new.moment old.log (omega arith) sound.dated) x tt);
        seen = ap (λ (s : State). s.seen) (from_then new.moment x) ∙ sym makes.bytes;
        sound = λ m. elim (cases_lt m makes.begun) [
          | inl lt ↦ subst IsSoundState (sym (not_yet m lt)) (sound.sound m)
          | inr ge ↦ subst IsSoundState (sym (from_then m ge)) (sound_changed step failed (state_at old old.moment) within (sound.sound old.moment))
        ];
      }

  pub made_moves : IsStepOf step (state_at old old.moment) → Moves (AltersImage step) (memory_shown old) (memory_shown new)
  made_moves within below =
      let h = makes.begins in
      let n = makes.moment in
      record {
        past = (λ m image le. same_images (state_at new m) (state_at old m) image (not_yet m (omega arith)));
        images = (λ m image after le is. image_changed step failed (state_at old old.moment) image within (sound.sound old.moment) (image_at (state_at new m) (changed step failed (state_at old old.moment)) image (from_then m (omega arith)) is));
        settles = (λ m later image after le last is. image_at (state_at new later) (state_at new m) image (from_then later (omega arith) ∙ sym (from_then m (omega arith))) is);
      }

  pub made_opens : IsStepOf step (state_at old old.moment) → Opens (AltersImage step) (memory_shown old) (memory_shown new)
  made_opens within below m was image after le is altered =
      let h = makes.begins in
      image_at (changed step failed (state_at old old.moment)) (state_at new m) image (sym (from_then m (omega arith))) (image_opened step failed (state_at old old.moment) was image within (sound.sound old.moment) is altered)

  pub made_names : Renames (by_step step) (memory_shown old) (memory_shown new)
  made_names below =
      let h = makes.begins in
      let n = makes.moment in
      record {
        past = (λ m le name. same_named name (state_at new m) (state_at old m) (not_yet m (omega arith)));
        now = (λ m after le name.
            same_named name (state_at new m) (changed step failed (state_at old old.moment)) (from_then m (omega arith))
            ∙ ap (λ (l : List ℕ). Some l) (named_changed name step failed (state_at old old.moment)));
      }

-- A sync that succeeds.

pub record Secures (old new : Memory) : Type 0 where
  pub bytes : new.bytes ≡ old.bytes
  pub first : new.first ≡ old.first
  pub moment : new.moment ≡ min (old.moment + 2) last_moment
  pub faults : new.faults ≤ last_count
  pub log : Secured new.moment old.log new.log

-- before the sync's end the states are as they were, and from there on there is one image
record IsSecured (old new : Memory) : Type 0 where
  early : (m : ℕ) → m < new.moment → state_at new m ≡ state_at old m
  late : (m : ℕ) → new.moment ≤ m → state_at new m ≡ at_rest old.bytes
  dated : IsDated new.moment new.log

rests_at : (s : State) (bytes seen : List ℕ) → s ≡ at_rest seen → s.seen ≡ bytes → s ≡ at_rest bytes
rests_at s bytes seen e is = e ∙ ap at_rest (sym (ap (λ (x : State). x.seen) e) ∙ is)

module _ (old new : Memory) (secures : Secures old new) (sound : IsSound old) where
  abbrev start : State
  start = at_rest old.first

  later : old.moment ≤ new.moment
  later = let e = secures.moment in let r = sound.in_range in omega arith

  new_log : (m : ℕ) (l : List Made) → new.log ≡ l → state_at new m ≡ replay m start l
  new_log m l e = ap (λ (f : List ℕ). replay m (at_rest f) new.log) secures.first ∙ ap (λ (x : List Made). replay m start x) e

  old_log : (m : ℕ) (l : List Made) → old.log ≡ l → state_at old m ≡ replay m start l
  old_log m l e = ap (λ (x : List Made). replay m start x) e

  -- where the disk was at rest already
  still : ((m : ℕ) → state_at new m ≡ state_at old m) → (seen : List ℕ) → state_at old old.moment ≡ at_rest seen → IsDated new.moment new.log → IsSecured old new
  still same seen rest dated = let l = later in record {
    early = (λ m lt. same m);
    late = (λ m le. same m ∙ later_same old m sound (omega arith) ∙ rests_at (state_at old old.moment) old.bytes seen rest sound.seen);
    dated = dated;
  }

  was_empty : old.log ≡ [] → new.log ≡ [] → IsSecured old new
  was_empty before after = still (λ m. new_log m [] after ∙ sym (old_log m [] before)) old.first (old_log old.moment [] before) (subst (IsDated new.moment) (sym after) tt)

  module _ (front : List Made) (begun : ℕ) (step : Step) (failed : Bool) where
    abbrev last : Option ℕ → Made
    last synced = record { begun = begun; synced = synced; step = step; failed = failed }

    was_synced : (u : ℕ) → old.log ≡ front ++ last (Some u) ∷ [] → new.log ≡ front ++ last (Some u) ∷ [] → IsSecured old new
    was_synced u before after =
        let dated = subst (IsDated old.moment) before sound.dated in
        let d = dated_last old.moment front (last (Some u)) dated in
        let now : State = changed step failed (replay old.moment start front) in
        still
        (λ m. new_log m (front ++ last (Some u) ∷ []) after ∙ sym (old_log m (front ++ last (Some u) ∷ []) before))
        now.seen
        (old_log old.moment (front ++ last (Some u) ∷ []) before ∙ replay_snoc old.moment start front (last (Some u)) ∙ reached_is old.moment (last (Some u)) (replay old.moment start front) d.0 ∙ settled_is old.moment u now d.1)
        (subst (IsDated new.moment) (sym after) (dated_later old.moment new.moment (front ++ last (Some u) ∷ []) later dated))

    was_pending : old.log ≡ front ++ last None ∷ [] → new.log ≡ front ++ last (Some new.moment) ∷ [] → IsSecured old new
    was_pending before after =
        let dated = subst (IsDated old.moment) before sound.dated in
        let d = dated_last old.moment front (last None) dated in
        let l = later in
        let now : ℕ → State = (λ m. changed step failed (replay m start front)) in
        let at_new : (m : ℕ) → state_at new m ≡ reached m (last (Some new.moment)) (replay m start front) = (λ m. new_log m (front ++ last (Some new.moment) ∷ []) after ∙ replay_snoc m start front (last (Some new.moment))) in
        let at_old : (m : ℕ) → state_at old m ≡ reached m (last None) (replay m start front) = (λ m. old_log m (front ++ last None ∷ []) before ∙ replay_snoc m start front (last None)) in
        let begun_at : begun ≤ old.moment = d.0 in
        record {
          early = (λ m lt. at_new m ∙ elim (cases_lt m begun) [
            | inl less ↦ reached_not m (last (Some new.moment)) (replay m start front) less ∙ sym (reached_not m (last None) (replay m start front) less)
            | inr more ↦ reached_is m (last (Some new.moment)) (replay m start front) more ∙ settled_not m new.moment (now m) lt ∙ sym (reached_is m (last None) (replay m start front) more)
          ] ∙ sym (at_old m));
          late = (λ m le.
              let seen : (now m).seen ≡ old.bytes = ap (λ (s : State). s.seen) (sym (reached_is m (last None) (replay m start front) (omega arith)) ∙ sym (at_old m) ∙ later_same old m sound (omega arith)) ∙ sound.seen in
              at_new m ∙ reached_is m (last (Some new.moment)) (replay m start front) (omega arith) ∙ settled_is m new.moment (now m) le ∙ ap at_rest seen);
          dated = subst (IsDated new.moment) (sym after) (dated_snoc new.moment front (last (Some new.moment)) (dated_later old.moment new.moment front l (dated_front old.moment front (last None) dated)) (omega arith) (omega arith));
        }

    by_sync : (synced : Option ℕ) → old.log ≡ front ++ last synced ∷ [] → new.log ≡ front ++ secured new.moment (last synced) ∷ [] → IsSecured old new
    by_sync None before after = was_pending before after
    by_sync (Some u) before after = was_synced u before after

  is_secured : IsSecured old new
  is_secured = ⊎_elim (λ e. was_empty e.0 e.1) (λ e. by_sync e.0 e.1.begun e.1.step e.1.failed e.1.synced e.2 e.3) secures.log

  own_bytes : IsImage (state_at old old.moment) old.bytes
  own_bytes = subst (IsImage (state_at old old.moment)) sound.seen (own_image (state_at old old.moment) (sound.sound old.moment))

  pub secure_sound : IsSound new
  secure_sound =
      let s = is_secured in
      record {
        in_range = (let e = secures.moment in omega arith);
        faults_in_range = secures.faults;
        dated = s.dated;
        seen = ap (λ (x : State). x.seen) (s.late new.moment (omega arith)) ∙ sym secures.bytes;
        sound = λ m. elim (cases_lt m new.moment) [
          | inl lt ↦ subst IsSoundState (sym (s.early m lt)) (sound.sound m)
          | inr ge ↦ subst IsSoundState (sym (s.late m ge)) (sound_rest old.bytes)
        ];
      }

  only_bytes : (m : ℕ) (image : List ℕ) → new.moment ≤ m → IsImage (state_at new m) image → image ≡ old.bytes
  only_bytes m image le is =
      let s = is_secured in
      let at = image_at (state_at new m) (at_rest old.bytes) image (s.late m le) is in
      fits_only old.bytes image at.fits at.no_shorter

  pub secure_rest : IsAtRest (memory_shown new)
  secure_rest below image = (
    (λ is. only_bytes new.moment image (omega arith) is ∙ sym secures.bytes),
    (λ e. subst (IsImage (state_at new new.moment)) (sym e) (own new secure_sound below)),
  )

  -- within the sync what was pending stays so
  within : (m : ℕ) → old.moment ≤ m → m < new.moment → state_at new m ≡ state_at old old.moment
  within m le lt = let s = is_secured in s.early m lt ∙ later_same old m sound le

  kept_image : (m : ℕ) (image : List ℕ) → old.moment ≤ m → IsImage (state_at new m) image → IsImage (state_at old old.moment) image
  kept_image m image le is = elim (cases_lt m new.moment) [
    | inl lt ↦ image_at (state_at new m) (state_at old old.moment) image (within m le lt) is
    | inr ge ↦ subst (IsImage (state_at old old.moment)) (sym (only_bytes m image ge is)) own_bytes
  ]

  settled_image : (m last : ℕ) (image : List ℕ) → old.moment ≤ m → m ≤ last → IsImage (state_at new last) image → IsImage (state_at new m) image
  settled_image m last image le less is = elim (cases_lt m new.moment) [
    | inl lt ↦ image_at (state_at old old.moment) (state_at new m) image (sym (within m le lt)) (kept_image last image (omega arith) is)
    | inr ge ↦ (let s = is_secured in image_at (state_at new last) (state_at new m) image (s.late last (omega arith) ∙ sym (s.late m ge)) is)
  ]

  pub secure_moves : Moves Same (memory_shown old) (memory_shown new)
  secure_moves below =
      let s = is_secured in
      let e = secures.moment in
      record {
        past = (λ m image le. same_images (state_at new m) (state_at old m) image (s.early m (omega arith)));
        images = (λ m image after le is. (image, kept_image m image (omega arith) is, refl));
        settles = (λ m last image after le end is. settled_image m last image (omega arith) le is);
      }

  pub secure_opens : OpensUntil {E = Failed} (memory_shown old) (memory_shown new) (Ok tt)
  secure_opens below m image after le lt is = image_at (state_at old old.moment) (state_at new m) image (sym (within m (omega arith) lt)) is

  pub secure_names : RenamesSurely {E = Failed} (memory_shown old) (memory_shown new) (Ok tt)
  secure_names below =
      let s = is_secured in
      let e = secures.moment in
      record {
        past = (λ m le name. same_named name (state_at new m) (state_at old m) (s.early m (omega arith)));
        within = (λ m after le lt name. same_named name (state_at new m) (state_at old old.moment) (within m (omega arith) lt));
        after = (λ name.
            same_named name (state_at new new.moment) (at_rest old.bytes) (s.late new.moment (omega arith))
            ∙ ap (λ (l : List ℕ). Some l) (named_rested name old.bytes ∙ sym secures.bytes));
      }
