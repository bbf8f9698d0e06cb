-- Lines of frames that are put one after another.
use Rattle.std.proofs.Common.{◌≡◌, ℕ, ◌+◌, ◌-◌, ◌<◌, ◌≤◌, List, [], ◌∷◌, ◌++◌, length, get_or, slice_get, take, drop, Option, Some, Ok, Err, refl, sym, ap, subst, ◌∙◌, append-nil, arith, length-append, length-drop}
use Rattle.std.specs.Prelude.{IsSome}
use Rattle.std.specs.List.{flat_map}
use Rattle.std.proofs.lemmas.Grind.{flat_map-append}
use Rattle.std.proofs.lemmas.List.{take-append-drop, take-take, take_more, length-take-le, length-map, drop-append-le, drop_all, get_or-map}
use Rattle.std.proofs.lemmas.Option.{get_or_from_slice_get}
use Rattle.afd_records.specs.File.{ended}
use Rattle.rep_journal.specs.Format.{Framed}
use Rattle.afd_extract.specs.Extract.{lines_of}
use Rattle.afd_extract.specs.Steps.{AddsUpTo, AreLinesBetween, HasPut, PutsFrames, PutsFront, PutsOn, PutsWithin, lines_between}
use Rattle.afd_extract.specs.declared.error.WriteFail.{WriteFail}
use Rattle.afd_extract.specs.declared.tally.Tally.{Tally}
use Rattle.afd_extract.proofs.Fronts.{PutsFront-more, PutsOn-held, PutsOn-more, PutsWithin-front, PutsWithin-longer, PutsWithin-on}

-- lines between places

between-split : (frames : List Framed) (begin mid end : ℕ) → begin ≤ mid → mid ≤ end → end ≤ length frames
    → lines_between frames begin mid ++ lines_between frames mid end ≡ lines_between frames begin end
between-split frames begin mid end first second within =
    let lines = lines_of frames in
    let many : length lines ≡ length frames = length-map frames (λ (f : Framed). f.line) in
    let front : take mid (take end lines) ≡ take mid lines = take-take mid end lines second in
    let size : length (take mid lines) ≡ mid = length-take-le mid lines (omega arith) in
    let all : take mid lines ++ drop mid (take end lines) ≡ take end lines =
    ap (λ xs. xs ++ drop mid (take end lines)) (sym front) ∙ take-append-drop mid (take end lines) in
    sym (drop-append-le begin (take mid lines) (drop mid (take end lines)) (omega arith)) ∙ ap (λ xs. drop begin xs) all

between-none : (frames : List Framed) (place : ℕ) → place ≤ length frames → lines_between frames place place ≡ []
between-none frames place within =
    let many : length (lines_of frames) ≡ length frames = length-map frames (λ (f : Framed). f.line) in
    drop_all place (take place (lines_of frames)) (omega (arith, length-take-le place (lines_of frames) (omega arith)))

between-one : (frames : List Framed) (place : ℕ) (frame : Framed) → place < length frames
    → lines_between frames place (place + 1) ≡ (get_or frames place frame).line ∷ []
between-one frames place frame within =
    let lines = lines_of frames in
    let many : length lines ≡ length frames = length-map frames (λ (f : Framed). f.line) in
    let inside : place < length lines = omega arith in
    let size : length (take place lines) ≡ place = length-take-le place lines (omega arith) in
    ap (λ xs. drop place xs) (take_more lines place frame.line inside)
    ∙ drop-append-le place (take place lines) (get_or lines place frame.line ∷ []) (omega arith)
    ∙ ap (λ xs. xs ++ get_or lines place frame.line ∷ []) (drop_all place (take place lines) (omega arith))
    ∙ ap (λ l. l ∷ []) (get_or-map (λ (f : Framed). f.line) frames place frame frame.line within)

AreLinesBetween-join : (frames : List Framed) (begin mid end : ℕ) (Told : Type 0) (first second : List (List ℕ)) → begin ≤ mid → mid ≤ end
    → end ≤ length frames → AreLinesBetween frames begin mid Told first → AreLinesBetween frames mid end Told second
    → AreLinesBetween frames begin end Told (first ++ second)
AreLinesBetween-join frames begin mid end Told first second ordered ordered' within one two =
    let split = between-split frames begin mid end ordered ordered' within in
    record {
      as_many = omega (
        arith,
        length-append first second,
        one.as_many,
        two.as_many,
        ap length split,
        length-append (lines_between frames begin mid) (lines_between frames mid end),
      );
      told = λ told. ap (λ xs. xs ++ second) (one.told told) ∙ ap (λ xs. lines_between frames begin mid ++ xs) (two.told told) ∙ split;
    }

AreLinesBetween-none : (frames : List Framed) (place : ℕ) (Told : Type 0) → place ≤ length frames → AreLinesBetween frames place place Told []
AreLinesBetween-none frames place Told within =
    let none = between-none frames place within in record { as_many = sym (ap length none); told = λ told. sym none }

AreLinesBetween-one : (frames : List Framed) (place : ℕ) (Told : Type 0) (frame : Framed) (line : List ℕ) → place < length frames
    → (Told → slice_get frames place ≡ Some frame) → line ≡ frame.line → AreLinesBetween frames place (place + 1) Told (line ∷ [])
AreLinesBetween-one frames place Told frame line within found same =
    let one = between-one frames place frame within in
    record {
      as_many = sym (ap length one);
      told = λ told.
          ap (λ l. l ∷ []) (same ∙ ap (λ (f : Framed). f.line) (sym (get_or_from_slice_get frames place frame frame (found told)))) ∙ sym one;
    }

AreLinesBetween-own : (frames : List Framed) (begin end : ℕ) (Told : Type 0) → AreLinesBetween frames begin end Told (lines_between frames begin end)
AreLinesBetween-own frames begin end Told = record { as_many = refl; told = λ told. refl }

-- what was put so far

pub HasPut-none : (frames : List Framed) (begin : ℕ) (Told : Type 0) (o : Option (List ℕ)) (held : List ℕ) (tally : Tally) → begin ≤ length frames
    → AddsUpTo [] tally → HasPut frames begin begin Told o o held held tally
HasPut-none frames begin Told o held tally within adds = record {
  lines = [];
  between = AreLinesBetween-none frames begin Told within;
  put = PutsOn-held o held held [] (sym (append-nil held));
  adds = adds;
}

flat-more : (lines : List (List ℕ)) (line : List ℕ) → flat_map ended lines ++ ended line ≡ flat_map ended (lines ++ line ∷ [])
flat-more lines line =
    ap (λ xs. flat_map ended lines ++ xs) (sym (append-nil (ended line))) ∙ sym (flat_map-append ended lines (line ∷ []))

-- a frame as it stood before other readings
pub found_before : (frames now : List Framed) (contents contents' : Option (List ℕ)) (place : ℕ) (frame : Framed) → now ≡ frames → contents' ≡ contents
    → (IsSome contents' → slice_get now place ≡ Some frame) → IsSome contents → slice_get frames place ≡ Some frame
found_before frames now contents contents' place frame same told found some =
    ap (λ fs. slice_get fs place) (sym same) ∙ found (subst (λ o. IsSome o) (sym told) some)

-- how many lines there are
pub length-so_far : (frames : List Framed) (begin place : ℕ) (Told : Type 0) (lines : List (List ℕ)) → place ≤ length frames
    → AreLinesBetween frames begin place Told lines → length lines ≡ place - begin
length-so_far frames begin place Told lines within between =
    let many : length (lines_of frames) ≡ length frames = length-map frames (λ (f : Framed). f.line) in
    omega (arith, between.as_many, length-drop begin (take place (lines_of frames)), length-take-le place (lines_of frames) (omega arith))

module _ (frames : List Framed) (begin place end : ℕ) (Told : Type 0) (old mid : Option (List ℕ)) (held kept : List ℕ) (tally : Tally)
    (ordered : begin ≤ place) (within : end ≤ length frames) (so_far : HasPut frames begin place Told old mid held kept tally) where
  -- one line more was put
  pub HasPut-more : (new : Option (List ℕ)) (last : List ℕ) (more : Tally) (frame : Framed) (line : List ℕ) → place < end
      → (Told → slice_get frames place ≡ Some frame) → line ≡ frame.line → PutsOn mid new kept last (ended line)
      → ((lines : List (List ℕ)) → AddsUpTo lines tally → AddsUpTo (lines ++ line ∷ []) more)
      → HasPut frames begin (place + 1) Told old new held last more
  HasPut-more new last more frame line before found same next add = record {
    lines = so_far.lines ++ line ∷ [];
    between = AreLinesBetween-join frames begin place (place + 1) Told so_far.lines (line ∷ []) ordered (omega arith) (omega arith) so_far.between
        (AreLinesBetween-one frames place Told frame line (omega arith) found same);
    put = subst (λ text. PutsOn old new held last text) (flat-more so_far.lines line)
        (PutsOn-more old mid new held kept last (flat_map ended so_far.lines) (ended line) so_far.put next);
    adds = add so_far.lines so_far.adds;
  }

  -- the next frame couldn't be read
  pub PutsFrames-unread : (why : WriteFail) (last : List ℕ) → place ≤ end → PutsFrames frames begin end Told old mid held last (Err why)
  PutsFrames-unread why last before =
      let rest = lines_between frames place end in
      record {
        lines = so_far.lines ++ rest;
        between = AreLinesBetween-join frames begin place end Told so_far.lines rest ordered before within so_far.between
            (AreLinesBetween-own frames place end Told);
        put = subst (λ text. PutsWithin old mid (held ++ text)) (sym (flat_map-append ended so_far.lines rest))
            (PutsWithin-on old mid held kept (flat_map ended so_far.lines) (flat_map ended rest) so_far.put);
      }

  -- the next line couldn't be put
  pub PutsFrames-unput : (why : WriteFail) (new : Option (List ℕ)) (last : List ℕ) (frame : Framed) (line : List ℕ) → place < end
      → (Told → slice_get frames place ≡ Some frame) → line ≡ frame.line → PutsFront mid new (kept ++ ended line)
      → PutsFrames frames begin end Told old new held last (Err why)
  PutsFrames-unput why new last frame line before found same part =
      let rest = lines_between frames (place + 1) end in
      let front = PutsFront-more old mid new held kept (flat_map ended so_far.lines) (ended line) so_far.put part in
      let here = subst (λ text. PutsFront old new (held ++ text)) (flat-more so_far.lines line) front in
      record {
        lines = (so_far.lines ++ line ∷ []) ++ rest;
        between = AreLinesBetween-join frames begin (place + 1) end Told (so_far.lines ++ line ∷ []) rest (omega arith) (omega arith) within
            (AreLinesBetween-join frames begin place (place + 1) Told so_far.lines (line ∷ []) ordered (omega arith) (omega arith) so_far.between
            (AreLinesBetween-one frames place Told frame line (omega arith) found same))
            (AreLinesBetween-own frames (place + 1) end Told);
        put = subst (λ text. PutsWithin old new (held ++ text)) (sym (flat_map-append ended (so_far.lines ++ line ∷ []) rest))
            (PutsWithin-longer old new held (flat_map ended (so_far.lines ++ line ∷ [])) (flat_map ended rest)
            (PutsWithin-front old new (held ++ flat_map ended (so_far.lines ++ line ∷ [])) here));
      }

  -- all lines were put
  pub PutsFrames-all : place ≡ end → PutsFrames frames begin end Told old mid held kept (Ok tally)
  PutsFrames-all is =
      let between : AreLinesBetween frames begin end Told so_far.lines =
      subst (λ n. AreLinesBetween frames begin n Told so_far.lines) is so_far.between in
      record { lines = so_far.lines; between = between; put = (so_far.put, so_far.adds) }
