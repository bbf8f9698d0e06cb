-- A record replayed up to a moment: what one more change does, what a sync does, and that later moments add nothing.
use Rattle.std.proofs.Common.{◌≡◌, ℕ, ◌<◌, ◌≤◌, Bool, true, false, cond, List, [], ◌∷◌, ◌++◌, length, take, map, Some, None, Option, refl, sym, ap, ◌∙◌, arith, length-take}
use Rattle.std.specs.Prelude.{IfSome, nat_le}
use Rattle.std.proofs.lemmas.Bool.Decides.{nat_tests}
use Rattle.std.proofs.lemmas.List.{length-map}
use Rattle.rep_disk.specs.Record.{Made, State, Step, Put, Shorten, FitsCells, IsImage, IsSoundState, IsDated, at_rest, changed, reached, replay, is_synced_by, image_of}
use Rattle.rep_disk.specs.declared.image.Image.{Image}
use Rattle.rep_disk.specs.declared.image.Image.TheVariants.{Old, New, Odd}
use Rattle.rep_disk.specs.declared.standing.Cell.{Cell}
use Rattle.rep_disk.specs.Disk.{Torn, CutOpen}
use Rattle.rep_disk.proofs.Cells.{fits_length, fits_bytes, fits_take, fits_rested, fits_over, fits_over_both, fits_cut, fits_torn, fits_open, length-over, torn_write, open_cut}

pub le_true : (a b : ℕ) → a ≤ b → nat_le a b ≡ true
le_true a b h = grind (arith, nat_tests)

pub le_false : (a b : ℕ) → b < a → nat_le a b ≡ false
le_false a b h = grind (arith, nat_tests)

-- the state in and after a change that was reached
abbrev pub settled_by : ℕ → Option ℕ → State → State
settled_by m synced now = cond (is_synced_by m synced) (at_rest now.seen) now

pub reached_not : (m : ℕ) (made : Made) (s : State) → m < made.begun → reached m made s ≡ s
reached_not m made s lt =
    let now : State = changed made.step made.failed s in
    ap (λ (b : Bool). cond b (settled_by m made.synced now) s) (le_false made.begun m lt)

pub reached_is : (m : ℕ) (made : Made) (s : State) → made.begun ≤ m → reached m made s ≡ settled_by m made.synced (changed made.step made.failed s)
reached_is m made s le =
    let now : State = changed made.step made.failed s in
    ap (λ (b : Bool). cond b (settled_by m made.synced now) s) (le_true made.begun m le)

pub settled_not : (m t : ℕ) (now : State) → m < t → settled_by m (Some t) now ≡ now
settled_not m t now lt = ap (λ (b : Bool). cond b (at_rest now.seen) now) (le_false t m lt)

pub settled_is : (m t : ℕ) (now : State) → t ≤ m → settled_by m (Some t) now ≡ at_rest now.seen
settled_is m t now le = ap (λ (b : Bool). cond b (at_rest now.seen) now) (le_true t m le)

pub replay_snoc : (m : ℕ) (s : State) (log : List Made) (made : Made) → replay m s (log ++ made ∷ []) ≡ reached m made (replay m s log)
replay_snoc m s [] made = refl
replay_snoc m s (x ∷ log) made = replay_snoc m (reached m x s) log made

settled_dated : (t m : ℕ) (synced : Option ℕ) (now : State) → IfSome synced (λ u. u ≤ t) → t ≤ m → settled_by m synced now ≡ settled_by t synced now
settled_dated t m None now h le = refl
settled_dated t m (Some u) now h le = settled_is m u now (omega arith) ∙ sym (settled_is t u now h)

-- a moment later than all changes adds nothing
pub replay_dated : (t m : ℕ) (s : State) (log : List Made) → t ≤ m → IsDated t log → replay m s log ≡ replay t s log
replay_dated t m s [] le dated = refl
replay_dated t m s (made ∷ log) le dated =
    let now : State = changed made.step made.failed s in
    let here : reached m made s ≡ reached t made s =
    reached_is m made s (let d : made.begun ≤ t = dated.0 in omega arith) ∙ settled_dated t m made.synced now dated.1 le ∙ sym (reached_is t made s dated.0) in
    ap (λ (x : State). replay m x log) here ∙ replay_dated t m (reached t made s) log le dated.2

dated_later_some : (t u : ℕ) (synced : Option ℕ) → t ≤ u → IfSome synced (λ v. v ≤ t) → IfSome synced (λ v. v ≤ u)
dated_later_some t u None le h = h
dated_later_some t u (Some v) le h = omega arith

pub dated_later : (t u : ℕ) (log : List Made) → t ≤ u → IsDated t log → IsDated u log
dated_later t u [] le dated = tt
dated_later t u (made ∷ log) le dated =
    ((let d : made.begun ≤ t = dated.0 in omega arith), dated_later_some t u made.synced le dated.1, dated_later t u log le dated.2)

pub dated_snoc : (t : ℕ) (log : List Made) (made : Made) → IsDated t log → made.begun ≤ t → IfSome made.synced (λ v. v ≤ t) → IsDated t (log ++ made ∷ [])
dated_snoc t [] made dated begun synced = (begun, synced, tt)
dated_snoc t (x ∷ log) made dated begun synced = (dated.0, dated.1, dated_snoc t log made dated.2 begun synced)

pub dated_front : (t : ℕ) (log : List Made) (made : Made) → IsDated t (log ++ made ∷ []) → IsDated t log
dated_front t [] made dated = tt
dated_front t (x ∷ log) made dated = (dated.0, dated.1, dated_front t log made dated.2)

pub dated_last : (t : ℕ) (log : List Made) (made : Made) → IsDated t (log ++ made ∷ []) → (made.begun ≤ t) × IfSome made.synced (λ v. v ≤ t)
dated_last t [] made dated = (dated.0, dated.1)
dated_last t (x ∷ log) made dated = dated_last t log made dated.2

-- Sound states.

pub sound_rest : (bytes : List ℕ) → IsSoundState (at_rest bytes)
sound_rest bytes = record {
  seen_length = omega arith;
  settled_length = omega arith;
  seen_fits = fits_rested bytes;
  settled_fits = fits_rested bytes;
}

-- a write begins inside what a read gives
abbrev pub IsStepOf : Step → State → Type 0
IsStepOf (Put at piece) s = at ≤ length s.seen
IsStepOf (Shorten size) s = Unit {0}

pub sound_changed : (step : Step) (failed : Bool) (s : State) → IsStepOf step s → IsSoundState s → IsSoundState (changed step failed s)
sound_changed (Put at piece) true s within sound = record {
  seen_length = sound.seen_length;
  settled_length = sound.settled_length;
  seen_fits = fits_over at piece s.cells s.seen sound.seen_fits;
  settled_fits = fits_over at piece s.cells s.settled sound.settled_fits;
}
sound_changed (Put at piece) false s within sound = record {
  seen_length = (let h = length-over at piece s.seen within in let l = sound.seen_length in omega arith);
  settled_length = sound.settled_length;
  seen_fits = fits_over_both at piece s.cells s.seen within sound.seen_fits;
  settled_fits = fits_over at piece s.cells s.settled sound.settled_fits;
}
sound_changed (Shorten size) true s within sound = record {
  seen_length = (let l = sound.seen_length in omega arith);
  settled_length = (let l = sound.settled_length in omega arith);
  seen_fits = fits_cut size s.cells s.seen sound.seen_fits;
  settled_fits = fits_cut size s.cells s.settled sound.settled_fits;
}
sound_changed (Shorten size) false s within sound = record {
  seen_length = (let l = sound.seen_length in omega (arith, length-take size s.seen));
  settled_length = (let l = sound.settled_length in omega arith);
  seen_fits = fits_cut size s.cells (take size s.seen) (fits_take size s.cells s.seen sound.seen_fits);
  settled_fits = fits_cut size s.cells s.settled sound.settled_fits;
}

pub own_image : (s : State) → IsSoundState s → IsImage s s.seen
own_image s sound = record { no_shorter = sound.seen_length; fits = sound.seen_fits }

-- what a change may do to an image
abbrev pub AltersImage : Step → List ℕ → List ℕ → Type 0
AltersImage (Put at piece) old new = Torn at (length piece) old new
AltersImage (Shorten size) old new = CutOpen size old new

pub image_changed : (step : Step) (failed : Bool) (s : State) (image : List ℕ) → IsStepOf step s → IsSoundState s → IsImage (changed step failed s) image
    → (was : List ℕ) × IsImage s was × AltersImage step was image
image_changed (Put at piece) failed s image within sound is =
    let cells = fits_length s.cells s.seen sound.seen_fits in
    let seen = sound.seen_length in
    let no_shorter = is.no_shorter in
    let h = torn_write at piece s.cells image (omega arith) is.fits in
    (h.0, record { no_shorter = (let e = h.2 in omega arith); fits = h.1 }, h.3)
image_changed (Shorten size) failed s image within sound is =
    let cells = fits_length s.cells s.seen sound.seen_fits in
    let seen = sound.seen_length in
    let h = open_cut size s.least s.cells image (omega arith) is.no_shorter is.fits in
    (h.0, record { no_shorter = h.2; fits = h.1 }, h.3)

-- the other way round: in and after a change each of its outcomes is an image
pub image_opened : (step : Step) (failed : Bool) (s : State) (was image : List ℕ) → IsStepOf step s → IsSoundState s → IsImage s was → AltersImage step was image → IsImage (changed step failed s) image
image_opened (Put at piece) failed s was image within sound is torn =
    let cells = fits_length s.cells s.seen sound.seen_fits in
    record {
      no_shorter = (let l = is.no_shorter in let m = torn.no_shorter in omega arith);
      fits = fits_torn at piece s.cells was image (omega arith) is.fits torn;
    }
image_opened (Shorten size) failed s was image within sound is past =
    record {
      no_shorter = (let l = is.no_shorter in let m = past.no_shorter in omega arith);
      fits = fits_open size s.cells was image is.fits past.front past.no_longer;
    }

odd_fits : (cells : List Cell) → FitsCells cells (map (λ (cell : Cell). cond cell.pending 55 cell.byte) cells)
odd_fits [] = tt
odd_fits (cell ∷ cells) = ((λ e. ap (λ (b : Bool). cond b 55 cell.byte) e), odd_fits cells)

-- the three images are some of those that a crash may leave
pub image_allowed : (image : Image) (s : State) → IsSoundState s → IsImage s (image_of image s)
image_allowed Old s sound = record {
  no_shorter = (let l = sound.settled_length in omega (arith, length-take s.least s.settled));
  fits = fits_take s.least s.cells s.settled sound.settled_fits;
}
image_allowed New s sound =
    let e : length (map (λ (cell : Cell). cell.byte) s.cells) ≡ length s.cells = length-map s.cells (λ (cell : Cell). cell.byte) in
    let cells = fits_length s.cells s.seen sound.seen_fits in
    record { no_shorter = (let l = sound.seen_length in omega arith); fits = fits_bytes s.cells }
image_allowed Odd s sound =
    let e : length (map (λ (cell : Cell). cond cell.pending 55 cell.byte) s.cells) ≡ length s.cells = length-map s.cells (λ (cell : Cell). cond cell.pending 55 cell.byte) in
    let cells = fits_length s.cells s.seen sound.seen_fits in
    record { no_shorter = (let l = sound.seen_length in omega arith); fits = odd_fits s.cells }
