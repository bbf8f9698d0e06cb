-- The disk and the clock of a recorder in a world.
use Rattle.std.proofs.Common.{◌≡◌, ℕ, zero, suc, ◌<◌, List, [], ◌∷◌, ◌++◌, Some, refl, sym, ap, subst, arith}
use Rattle.rep_disk.specs.Disk.{IsAtRest, IsOwnImage, last_moment}
use Rattle.rep_disk.specs.Memory.{Memory, fresh, memory_shown, nothing_listed, state_at}
use Rattle.rep_disk.specs.Record.{FitsCells, image_of, rested}
use Rattle.rep_disk.specs.declared.image.Image.{Image}
use Rattle.rep_journal.specs.State.{IsRead}
use Rattle.rep_ledger.proofs.DiskSteps.{IsAtRest-read, Stayed-at}
use Rattle.sure_disk.specs.Sure.{sure_shown}
use Rattle.rep_world.specs.Devices.{times}

-- one look more
pub times-more : (n m : ℕ) → m ∷ times (suc n) m ≡ (m ∷ times n m) ++ m ∷ []
times-more zero m = refl
times-more (suc n) m = ap (λ (xs : List ℕ). m ∷ xs) (times-more n m)

-- a clock that was set to a minute gives that
pub one_reading : (looks stands minute given : ℕ) → Some (stands ∷ times looks stands) ≡ Some (minute ∷ given ∷ []) → given ≡ minute
one_reading zero stands minute given same = absurd cc
one_reading (suc looks) stands minute given same = cc

pub told_same : (a b : List ℕ) → Some a ≡ Some b → a ≡ b
told_same a b same = cc

-- reading leaves the images
pub read_images : (a b : Memory) → IsRead (sure_shown a) (sure_shown b) → b.moment < last_moment → (image : List ℕ) → (memory_shown b).may_leave b.moment image → (memory_shown a).may_leave a.moment image
read_images a b read below image is = (Stayed-at (sure_shown a) (sure_shown b) (read.crash below) b.moment image read.later (omega arith)).0 is

pub read_images-back : (a b : Memory) → IsRead (sure_shown a) (sure_shown b) → b.moment < last_moment → (image : List ℕ) → (memory_shown a).may_leave a.moment image → (memory_shown b).may_leave b.moment image
read_images-back a b read below image is = (Stayed-at (sure_shown a) (sure_shown b) (read.crash below) b.moment image read.later (omega arith)).1 is

pub read_bytes : (a b : Memory) → IsRead (sure_shown a) (sure_shown b) → b.bytes ≡ a.bytes
read_bytes a b read = told_same b.bytes a.bytes read.contents

pub read_rest : (a b : Memory) → IsAtRest (sure_shown a) → IsRead (sure_shown a) (sure_shown b) → IsAtRest (sure_shown b)
read_rest a b rest read = IsAtRest-read (sure_shown a) (sure_shown b) rest read

-- the bytes of a disk that was just made are an image
pub own_cells : (bytes : List ℕ) → FitsCells (rested bytes) bytes
own_cells [] = tt
own_cells (x ∷ bytes) = (λ none. refl, own_cells bytes)

pub made_own : (disk : Memory) (bytes : List ℕ) → disk ≡ fresh bytes nothing_listed → IsOwnImage (sure_shown disk)
made_own disk bytes is =
    subst (λ (d : Memory). IsOwnImage (sure_shown d)) (sym is) (λ below. record { no_shorter = omega arith; fits = own_cells bytes })

-- an image of now that was made by its name is one that a crash may leave
pub named_allowed : (disk : Memory) (m : ℕ) (name : Image) (image : List ℕ) → m ≡ disk.moment → image ≡ image_of name (state_at disk m) → (memory_shown disk).may_leave m image → (memory_shown disk).may_leave disk.moment (image_of name (state_at disk disk.moment))
named_allowed disk m name image now is leaves =
    subst (λ (n : ℕ). (memory_shown disk).may_leave n (image_of name (state_at disk n))) now
    (subst (λ (l : List ℕ). (memory_shown disk).may_leave m l) is leaves)
