-- Reading on, piece by piece.
use Rattle.std.proofs.Common.{◌≡◌, inl, inr, ℕ, ◌+◌, ◌≤◌, List, [], ◌∷◌, ◌++◌, length, Some, None, Option, Ok, Err, Result, refl, sym, ap, ◌∙◌, subst, arith}
use Rattle.std.specs.Prelude.{IfErr, IfOk, IfSome, MatchResult, ◌↔◌}
use Rattle.std.proofs.lemmas.List.{append-nil}
use Rattle.std.proofs.lemmas.Bool.{cases_lt}
use Rattle.rep_disk.specs.Disk.{Shown, IsAtRest, IsUntouched, Stays}
use Rattle.rep_journal.specs.Format.{magic, open_gate, Framed, IsJournalOf, end_of}
use Rattle.rep_journal.specs.State.{IsRead, IsSettled, MakesCalls, StandsFor}
use Rattle.rep_journal.specs.Recovery.{RestsFrom}
use Rattle.rep_journal.specs.Outcome.{RestsUnlessFailed}
use Rattle.rep_journal.specs.Listed.{Listed}
use Rattle.rep_journal.specs.Head.{IsOpen}
use Rattle.rep_journal.specs.Scan.{IsScanned, EndsBroken, IsScannedTo}
use Rattle.rep_journal.specs.Finding.{Finds, HidesNoFault}
use Rattle.rep_journal.specs.declared.stop.Stop.{Stop}
use Rattle.rep_journal.specs.declared.error.WhyNot.{WhyNot}
use Rattle.rep_journal.specs.declared.error.WhyNot.TheVariants.{Blank, Damaged}
use Rattle.rep_journal.proofs.HeadLemmas.{open_present}
use Rattle.rep_journal.proofs.BlankLemmas.{both_ways}

stays_same : (s : Shown) → Stays s s
stays_same s before = record {
  past = λ m image le. ((λ leaves. leaves), (λ leaves. leaves));
  images = λ m image after to. absurd (omega arith);
}

stays_on : (old mid new : Shown) → old.moment ≤ mid.moment → mid.moment ≤ new.moment → Stays old mid → Stays mid new → Stays old new
stays_on old mid new le le_later first second before =
    let a = first (omega arith) in
    let b = second before in
    let start : (image : List ℕ) → mid.may_leave mid.moment image ↔ old.may_leave old.moment image = λ image. elim (cases_lt old.moment mid.moment) [
      | inl later ↦ a.images mid.moment image later (omega arith)
      | inr now ↦ let same : mid.moment ≡ old.moment = omega arith in
          subst (λ (n : ℕ). mid.may_leave n image ↔ old.may_leave old.moment image) (sym same) (a.past old.moment image (omega arith))
    ] in
    record {
      past = λ m image at. both_ways (b.past m image (omega arith)) (a.past m image at);
      images = λ m image after to. elim (cases_lt mid.moment m) [
        | inl behind ↦ both_ways (b.images m image behind to) (start image)
        | inr ahead ↦ both_ways (b.past m image ahead) (a.images m image after ahead)
      ];
    }

pub read_same : (s : Shown) → IsRead s s
read_same s = record { contents = refl; later = omega arith; crash = stays_same s; own = ((λ own. own), (λ own. own)); faults = omega arith }

pub read_on : (old mid new : Shown) → IsRead old mid → IsRead mid new → IsRead old new
read_on old mid new a b =
    let le = a.later in
    let le_later = b.later in
    let few = a.faults in
    let more = b.faults in
    record {
      contents = b.contents ∙ a.contents;
      later = omega arith;
      crash = stays_on old mid new a.later b.later a.crash b.crash;
      own = both_ways a.own b.own;
      faults = omega arith;
    }

-- before the first piece
pub starts : (contents : Option (List ℕ)) → IfSome contents IsOpen → IfSome contents (λ b. IsScanned b [])
starts None told = tt
starts (Some bytes) o = record { well_formed = tt; gate = open_gate; rest = o.rest; text = o.text ∙ ap (λ (l : List ℕ). l ++ open_gate ∷ o.rest) (sym (append-nil magic)) }

-- after a piece
pub goes_on : (contents now : Option (List ℕ)) (frames new : List Framed) (stop : Stop) → now ≡ contents → IfSome contents (λ b. IsScanned b frames) → IfSome now (λ b. IsScanned b frames → IsScannedTo b new stop) → IfSome contents (λ b. IsScannedTo b new stop)
goes_on contents now frames new stop same scanned scans = on contents scanned (subst (λ (o : Option (List ℕ)). IfSome o (λ b. IsScanned b frames → IsScannedTo b new stop)) same scans)
  where
    on : (o : Option (List ℕ)) → IfSome o (λ b. IsScanned b frames) → IfSome o (λ b. IsScanned b frames → IsScannedTo b new stop) → IfSome o (λ b. IsScannedTo b new stop)
    on None s f = tt
    on (Some b) s f = f s

-- at a gate that no frame follows
pub ends_broken : (contents : Option (List ℕ)) (frames : List Framed) (at : ℕ) → IfSome contents IsOpen → at ≡ end_of frames → IfSome contents (λ b. EndsBroken b frames) → Finds contents (Err (Damaged at))
ends_broken None frames at told is ends = tt
ends_broken (Some bytes) frames at o is e = record {
  not_blank = (open_present bytes o).not_blank;
  before = frames;
  well_formed = e.well_formed;
  rest = e.rest;
  text = e.text;
  place = is;
  broken = λ frame gate more fits is_there. e.none frame (fits, (gate, more, is_there));
}

-- at a closed gate
pub ends_kept : (contents : Option (List ℕ)) (list : Listed) (result : Result Listed WhyNot) → IfSome contents (λ b. IsJournalOf b list.frames) → IfOk result (λ found. found ≡ list) → IfOk result (λ found. 1 ≤ length found.frames)
    → IfErr result (λ why. (why ≡ Blank) × (list.frames ≡ [])) → Finds contents result
ends_kept None list result told same some none = tt
ends_kept (Some bytes) list (Ok found) j same some none =
    let frames : found.frames ≡ list.frames = ap (λ (l : Listed). l.frames) same in
    (subst (IsJournalOf bytes) (sym frames) j, λ e. omega (arith, some, ap length e))
ends_kept (Some bytes) list (Err why) j same some none =
    subst (λ (w : WhyNot). Finds (Some bytes) (Err w)) (sym none.0) (inr (subst (IsJournalOf bytes) none.1 j))

-- The disk was read so far, and its contents begin with these frames.
pub record IsReading (old now : Shown) (frames : List Framed) : Type 0 where
  pub read : IsRead old now
  pub no_fault : now.faults ≡ old.faults
  pub scanned : IfSome old.contents (λ b. IsScanned b frames)

-- an image that may be left just where another one may
told_as : (contents : Option (List ℕ)) (Leaves Left : Type 0) (image : List ℕ) → Leaves ↔ Left → IfSome contents (λ bytes. Left ↔ image ≡ bytes) → IfSome contents (λ bytes. Leaves ↔ image ≡ bytes)
told_as None Leaves Left image same is = tt
told_as (Some bytes) Leaves Left image same is = both_ways same is

-- a call that is no device call leaves contents at rest
pub settled_on : (frames now : List Framed) (old new : Shown) → now ≡ frames → IsUntouched old new → IsSettled frames old → IsSettled now new
settled_on frames now old new same untouched settled = record {
  stands = subst (λ (contents : Option (List ℕ)). StandsFor contents now) (sym untouched.contents) (subst (StandsFor old.contents) (sym same) settled.stands);
  rest = λ before image.
      let leaves = subst (λ (n : ℕ). new.may_leave new.moment image ↔ old.may_leave n image) untouched.moment (untouched.images new.moment image) in
      let moment = untouched.moment in
      subst (λ (contents : Option (List ℕ)). IfSome contents (λ bytes. new.may_leave new.moment image ↔ image ≡ bytes)) (sym untouched.contents)
      (told_as old.contents (new.may_leave new.moment image) (old.may_leave old.moment image) image leaves (settled.rest (omega arith) image));
}

-- After the sync that comes first.
module _ (old mid new : Shown) (one : MakesCalls 1 old mid) (read : IsRead mid new) where
  pub rests : IsAtRest mid → RestsFrom (old.moment + 2) new
  rests rest before =
      let le = read.later in
      let b = read.crash before in (
        omega arith,
        λ m image from to. subst (λ (contents : Option (List ℕ)). IfSome contents (λ bytes. new.may_leave m image ↔ image ≡ bytes)) (sym read.contents)
            (told_as mid.contents (new.may_leave m image) (mid.may_leave mid.moment image) image (elim (cases_lt mid.moment m) [
              | inl behind ↦ b.images m image behind to
              | inr ahead ↦
                  let here : m ≡ mid.moment = omega arith in
                  subst (λ (n : ℕ). new.may_leave m image ↔ mid.may_leave n image) here (b.past m image ahead)
            ]) (rest (omega arith) image)),
      )

  -- whatever the search answers after that sync
  pub rests_whatever : {T : Type 0} (result : Result T WhyNot) → IsAtRest mid → MatchResult result (λ _. RestsFrom (old.moment + 2) new) (λ why. RestsUnlessFailed why old new)
  rests_whatever (Ok found) rest = rests rest
  rests_whatever (Err why) rest = inr (rests rest)

-- The disk didn't fail so far.
pub hides_on : {T : Type 0} (old mid new : Shown) (result : Result T WhyNot) → mid.faults ≡ old.faults → HidesNoFault mid new result → HidesNoFault old new result
hides_on old mid new (Ok found) same hides = hides ∙ same
hides_on old mid new (Err why) same hides = λ other. hides other ∙ same

pub hides_none : {T : Type 0} (old new : Shown) (result : Result T WhyNot) → new.faults ≡ old.faults → HidesNoFault old new result
hides_none old new (Ok found) same = same
hides_none old new (Err why) same = λ other. same
