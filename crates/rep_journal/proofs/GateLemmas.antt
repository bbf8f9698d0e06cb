-- What a crash may leave while only the gate of a staged frame is pending.
use Rattle.std.proofs.Common.{◌≡◌, ◌≢◌, ℕ, ◌+◌, ◌<◌, ◌≤◌, List, [], ◌∷◌, ◌++◌, drop, Some, None, Option, Ok, Err, Result, refl, sym, ap, ◌∙◌, subst, arith}
use Rattle.std.specs.Prelude.{◌↔◌, IfSome, MatchResult, OnOk, option_map}
use Rattle.std.proofs.lemmas.List.{drop_at, take_at}
use Rattle.rep_disk.specs.Disk.{Shown, Changes, IsAtRest, Moves, NamesBy, Torn, Written, last_moment, written_by_name}
use Rattle.rep_disk.specs.Record.{odd_byte, over}
use Rattle.rep_disk.specs.declared.image.Image.{Image}
use Rattle.rep_disk.specs.declared.image.Image.TheVariants.{Old, New, Odd}
use Rattle.rep_journal.specs.Format.{Framed, closed_gate, end_of, frame_text, front_text, open_gate}
use Rattle.rep_journal.specs.State.{CountsCalls, MakesCalls, StandsFor, with_gate}
use Rattle.rep_journal.specs.Recovery.{IsGateOf, IsOpenAtGate, OpensGate}
use Rattle.rep_journal.specs.Putting.{NamesContents, NamesUntilSure, OpensUntilSure}
use Rattle.rep_journal.proofs.FormatLemmas.{length-front_text}
use Rattle.rep_journal.proofs.PutLemmas.{calls_within, gate_torn, staged_text, torn_with_gate}

-- another gate over the one behind the frames
over_gate : (fs : List Framed) (gate byte : ℕ) (rest : List ℕ) → over (end_of fs) (byte ∷ []) (front_text fs ++ gate ∷ rest) ≡ front_text fs ++ byte ∷ rest
over_gate fs gate byte rest =
    ap (λ (l : List ℕ). l ++ byte ∷ drop 1 (drop (end_of fs) (front_text fs ++ gate ∷ rest))) (take_at (front_text fs) (gate ∷ rest) (end_of fs) (length-front_text fs))
    ∙ ap (λ (l : List ℕ). front_text fs ++ byte ∷ drop 1 l) (drop_at (front_text fs) (gate ∷ rest) (end_of fs) (length-front_text fs))

module _ (fs : List Framed) (f : Framed) where
  -- what stands behind that gate
  abbrev behind_gate : List ℕ → List ℕ
  behind_gate was = frame_text f ++ closed_gate ∷ drop (1 + end_of (fs ++ f ∷ [])) was

  -- the image of a name, of which the staged contents were the image before
  named_gate : (was staged : List ℕ) (gate : ℕ) → gate ≢ open_gate → staged ≡ with_gate fs f gate was → (name : Image) (image : List ℕ) (before : Option (List ℕ)) → ((bytes : List ℕ) → before ≡ Some bytes → bytes ≡ staged)
      → Some image ≡ option_map (written_by_name (end_of fs) (open_gate ∷ []) name) before → (other : ℕ) × IsGateOf name other × (image ≡ with_gate fs f other was)
  named_gate was staged gate shut is name image None same e = absurd (cc)
  named_gate was staged gate shut is Old image (Some bytes) same e =
      let left : image ≡ bytes = cc in
      (gate, shut, left ∙ same bytes refl ∙ is)
  named_gate was staged gate shut is New image (Some bytes) same e =
      let left : image ≡ over (end_of fs) (open_gate ∷ []) bytes = cc in
      (open_gate, refl, left ∙ ap (λ (l : List ℕ). over (end_of fs) (open_gate ∷ []) l) (same bytes refl ∙ is) ∙ over_gate fs gate open_gate (behind_gate was))
  named_gate was staged gate shut is Odd image (Some bytes) same e =
      let left : image ≡ over (end_of fs) (odd_byte ∷ []) bytes = cc in
      (odd_byte, refl, left ∙ ap (λ (l : List ℕ). over (end_of fs) (odd_byte ∷ []) l) (same bytes refl ∙ is) ∙ over_gate fs gate odd_byte (behind_gate was))

  -- at a moment at which the images are the outcomes of the gate's write over the staged contents
  open_at_gate : (was staged : List ℕ) (gate : ℕ) (mid new : Shown) (m : ℕ) → gate ≢ open_gate → staged ≡ with_gate fs f gate was
      → ((image : List ℕ) → mid.may_leave mid.moment image ↔ image ≡ staged) → ((name : Image) (image : List ℕ) → mid.named name mid.moment ≡ Some image → image ≡ staged)
      → ((image : List ℕ) → new.may_leave m image → (before : List ℕ) × mid.may_leave mid.moment before × Torn (end_of fs) 1 before image)
      → ((before image : List ℕ) → mid.may_leave mid.moment before → Torn (end_of fs) 1 before image → new.may_leave m image)
      → NamesBy (written_by_name (end_of fs) (open_gate ∷ [])) mid mid.moment new m → IsOpenAtGate fs f was new m
  open_at_gate was staged gate mid new m shut is rest named images opens names = record {
    only = λ image leaves. let before = images image leaves in torn_with_gate fs f gate was before.0 image ((rest before.0).0 before.1 ∙ is) before.2;
    each = λ other. opens staged (with_gate fs f other was) ((rest staged).1 refl) (subst (λ (l : List ℕ). Torn (end_of fs) 1 l (with_gate fs f other was)) (sym is) (gate_torn fs gate other (behind_gate was)));
    named = λ name image e. named_gate was staged gate shut is name image (mid.named name mid.moment) (named name) (sym e ∙ names name);
  }

  -- at each moment up to this one
  opens_to : {E : Type 0} (old mid new : Shown) (result : Result (Unit {0}) E) (until : ℕ) (contents staged : Option (List ℕ)) → StandsFor contents fs → Changes (Written (end_of fs + 1) (frame_text f ++ 0 ∷ [])) contents staged
      → MakesCalls 2 old mid → mid.moment ≤ new.moment → (mid.moment < last_moment → (image : List ℕ) → IfSome staged (λ bytes. mid.may_leave mid.moment image ↔ image ≡ bytes))
      → (mid.moment < last_moment → IfSome staged (λ bytes. (name : Image) (image : List ℕ) → mid.named name mid.moment ≡ Some image → image ≡ bytes))
      → Moves (Torn (end_of fs) 1) mid new → OpensUntilSure (Torn (end_of fs) 1) mid new result → NamesUntilSure (written_by_name (end_of fs) (open_gate ∷ [])) mid new result
      → (new.moment < last_moment → (m : ℕ) → m ≤ until → OnOk result (m < new.moment))
      → IfSome contents (λ was. new.moment < last_moment → (m : ℕ) → old.moment + 4 < m → m ≤ until → m ≤ new.moment → IsOpenAtGate fs f was new m)
  opens_to old mid new result until None staged stands written calls later rest named moves opens names within = tt
  opens_to old mid new result until (Some was) None stands written calls later rest named moves opens names within = absurd written
  opens_to old mid new result until (Some was) (Some bytes) stands written calls later rest named moves opens names within =
      λ before m from to here.
      open_at_gate was bytes stands.gate mid new m stands.closed (staged_text fs f was bytes stands written) (rest (omega arith)) (named (omega arith))
      (λ image leaves. (moves before).images m image (omega arith) here leaves)
      (λ image after leaves torn. opens before m image after (omega arith) here (within before m to) leaves torn)
      (names before m (omega arith) here (within before m to))

  -- where the second write and its sync were made, or one of the two failed
  module _ {E : Type 0} (old mid new : Shown) (stands : StandsFor old.contents fs) (written : Changes (Written (end_of fs + 1) (frame_text f ++ 0 ∷ [])) old.contents mid.contents)
      (calls : MakesCalls 2 old mid) (rest : IsAtRest mid) (named : NamesContents mid) (moves : Moves (Torn (end_of fs) 1) mid new) where
    pub opens_gate : (result : Result (Unit {0}) E) → CountsCalls 2 mid new result → OpensUntilSure (Torn (end_of fs) 1) mid new result → NamesUntilSure (written_by_name (end_of fs) (open_gate ∷ [])) mid new result
        → MatchResult result (λ _. OpensGate fs f old new (old.moment + 7)) (λ _. OpensGate fs f old new new.moment)
    opens_gate (Ok v) more opens names =
        let later = calls_within {T = Unit {0}} {E = E} 2 mid new (Ok v) more in
        let within : new.moment < last_moment → (m : ℕ) → m ≤ old.moment + 7 → m < new.moment = λ before m to. omega arith in
        opens_to {E = E} old mid new (Ok v) (old.moment + 7) old.contents mid.contents stands written calls later.0 rest named moves opens names within
    opens_gate (Err e) more opens names =
        let later = calls_within {T = Unit {0}} {E = E} 2 mid new (Err e) more in
        opens_to {E = E} old mid new (Err e) new.moment old.contents mid.contents stands written calls later.0 rest named moves opens names (λ before m to. tt)

  -- where the first write or its sync failed, the gate's write didn't begin
  pub never_opens : {T E : Type 0} (old new : Shown) (result : Result T E) → CountsCalls 2 old new result → (contents : Option (List ℕ))
      → IfSome contents (λ was. new.moment < last_moment → (m : ℕ) → old.moment + 4 < m → m ≤ new.moment → m ≤ new.moment → IsOpenAtGate fs f was new m)
  never_opens old new result calls None = tt
  never_opens old new result calls (Some was) = λ before m from to here. absurd (let most = calls_within 2 old new result calls in let le = most.1 in omega arith)
