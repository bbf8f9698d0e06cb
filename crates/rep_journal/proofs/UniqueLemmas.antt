-- A text of frames is that of one list of frames.
use Rattle.std.proofs.Common.{◌≡◌, ◌≢◌, ℕ, ◌<◌, ◌^◌, List, [], ◌∷◌, ◌++◌, length, refl, sym, ◌∙◌, arith, append_assoc}
use Rattle.std.proofs.lemmas.List.{append_cancel_left}
use Rattle.rep_journal.specs.Format.{magic, open_gate, Framed, IsFrame, IsLineLength, AreFrames, two_bytes, eight_bytes, frame_text, frames_text, front_text}
use Rattle.rep_journal.specs.Scan.{HasFrame}
use Rattle.rep_journal.proofs.FormatLemmas.{length-two_bytes, length-eight_bytes, same_two_bytes, same_eight_bytes, frame_pieces}

-- fronts of one length are the same, and so is what stands behind them
pub same_split : {A : Type 0} (p q a b : List A) → length p ≡ length q → p ++ a ≡ q ++ b → (p ≡ q) × (a ≡ b)
same_split [] [] a b l e = (refl, e)
same_split [] (y ∷ q) a b l e = absurd (omega arith)
same_split (x ∷ p) [] a b l e = absurd (omega arith)
same_split (x ∷ p) (y ∷ q) a b l e =
    let head : x ≡ y = cc in
    let tail : p ++ a ≡ q ++ b = cc in
    let rest = same_split p q a b (omega arith) tail in
    let front = rest.0 in
    (cc, rest.1)

pub same_head : {A : Type 0} (x y : A) (a b : List A) → x ∷ a ≡ y ∷ b → (x ≡ y) × (a ≡ b)
same_head x y a b e = (cc, cc)

pub line_short : (n : ℕ) → IsLineLength n → n < 2 ^ 16
line_short n h = grind arith

same_framed : (f g : Framed) → f.origin ≡ g.origin → f.seq ≡ g.seq → f.line ≡ g.line → f ≡ g
same_framed f g o s l i = record { origin = o i; seq = s i; line = l i }

-- a frame at the front of bytes is the only one there
pub same_frame : (f g : Framed) (a b : List ℕ) → IsFrame f → IsFrame g → frame_text f ++ a ≡ frame_text g ++ b → (f ≡ g) × (a ≡ b)
same_frame f g a b hf hg e =
    let pieces = sym (frame_pieces f a) ∙ e ∙ frame_pieces g b in
    let by_length = same_split (two_bytes (length f.line)) (two_bytes (length g.line)) _ _ (length-two_bytes _ ∙ sym (length-two_bytes _)) pieces in
    let by_origin = same_split (two_bytes f.origin) (two_bytes g.origin) _ _ (length-two_bytes _ ∙ sym (length-two_bytes _)) by_length.1 in
    let by_seq = same_split (eight_bytes f.seq) (eight_bytes g.seq) _ _ (length-eight_bytes _ ∙ sym (length-eight_bytes _)) by_origin.1 in
    let size = same_two_bytes (length f.line) (length g.line) (line_short _ hf.line) (line_short _ hg.line) by_length.0 in
    let by_line = same_split f.line g.line a b size by_seq.1 in
    (same_framed f g (same_two_bytes f.origin g.origin hf.origin hg.origin by_origin.0) (same_eight_bytes f.seq g.seq hf.seq hg.seq by_seq.0) by_line.0, by_line.1)

-- frames and then a closed gate
pub same_frames : (fs gs : List Framed) (x y : ℕ) (a b : List ℕ) → AreFrames fs → AreFrames gs → x ≢ open_gate → y ≢ open_gate → frames_text fs ++ x ∷ a ≡ frames_text gs ++ y ∷ b → fs ≡ gs
same_frames [] [] x y a b hf hg shut_x shut_y e = refl
same_frames [] (g ∷ gs) x y a b hf hg shut_x shut_y e = absurd (shut_x (same_head x open_gate a _ e).0)
same_frames (f ∷ fs) [] x y a b hf hg shut_x shut_y e = absurd (shut_y (sym (same_head open_gate y _ b e).0))
same_frames (f ∷ fs) (g ∷ gs) x y a b hf hg shut_x shut_y e =
    let behind = sym (append_assoc (frame_text f) (frames_text fs) (x ∷ a)) ∙ (same_head open_gate open_gate _ _ e).1 ∙ append_assoc (frame_text g) (frames_text gs) (y ∷ b) in
    let first = same_frame f g _ _ hf.0 hg.0 behind in
    let others : fs ≡ gs = same_frames fs gs x y a b hf.1 hg.1 shut_x shut_y first.1 in
    let head = first.0 in
    cc

-- a gate byte stands behind the first of these frames
gate_behind : (f : Framed) (fs : List Framed) (x : ℕ) (a bytes : List ℕ) → frame_text f ++ (frames_text fs ++ x ∷ a) ≡ bytes → (gate : ℕ) × (more : List ℕ) × (bytes ≡ frame_text f ++ gate ∷ more)
gate_behind f [] x a bytes e = (x, a, sym e)
gate_behind f (g ∷ gs) x a bytes e = (open_gate, (frame_text g ++ frames_text gs) ++ x ∷ a, sym e)

-- frames and then an open gate that no frame follows, against frames and then a closed gate
pub not_both : (fs gs : List Framed) (x : ℕ) (a b : List ℕ) → AreFrames fs → AreFrames gs → x ≢ open_gate → ((frame : Framed) → HasFrame b frame → ⊥) → frames_text fs ++ x ∷ a ≡ frames_text gs ++ open_gate ∷ b → ⊥
not_both [] [] x a b hf hg shut none e = shut (same_head x open_gate a b e).0
not_both [] (g ∷ gs) x a b hf hg shut none e = shut (same_head x open_gate a _ e).0
not_both (f ∷ fs) [] x a b hf hg shut none e =
    let behind = sym (append_assoc (frame_text f) (frames_text fs) (x ∷ a)) ∙ (same_head open_gate open_gate _ b e).1 in
    none f (hf.0, gate_behind f fs x a _ behind)
not_both (f ∷ fs) (g ∷ gs) x a b hf hg shut none e =
    let behind = sym (append_assoc (frame_text f) (frames_text fs) (x ∷ a)) ∙ (same_head open_gate open_gate _ _ e).1 ∙ append_assoc (frame_text g) (frames_text gs) (open_gate ∷ b) in
    let first = same_frame f g _ _ hf.0 hg.0 behind in
    not_both fs gs x a b hf.1 hg.1 shut none first.1

-- frames and then an open gate that no frame follows, twice
pub same_broken : (fs gs : List Framed) (a b : List ℕ) → AreFrames fs → AreFrames gs → ((frame : Framed) → HasFrame a frame → ⊥) → ((frame : Framed) → HasFrame b frame → ⊥) → frames_text fs ++ open_gate ∷ a ≡ frames_text gs ++ open_gate ∷ b → fs ≡ gs
same_broken [] [] a b hf hg none_a none_b e = refl
same_broken [] (g ∷ gs) a b hf hg none_a none_b e =
    let behind = sym (append_assoc (frame_text g) (frames_text gs) (open_gate ∷ b)) ∙ sym (same_head open_gate open_gate a _ e).1 in
    absurd (none_a g (hg.0, gate_behind g gs open_gate b _ behind))
same_broken (f ∷ fs) [] a b hf hg none_a none_b e =
    let behind = sym (append_assoc (frame_text f) (frames_text fs) (open_gate ∷ a)) ∙ (same_head open_gate open_gate _ b e).1 in
    absurd (none_b f (hf.0, gate_behind f fs open_gate a _ behind))
same_broken (f ∷ fs) (g ∷ gs) a b hf hg none_a none_b e =
    let behind = sym (append_assoc (frame_text f) (frames_text fs) (open_gate ∷ a)) ∙ (same_head open_gate open_gate _ _ e).1 ∙ append_assoc (frame_text g) (frames_text gs) (open_gate ∷ b) in
    let first = same_frame f g _ _ hf.0 hg.0 behind in
    let others : fs ≡ gs = same_broken fs gs a b hf.1 hg.1 none_a none_b first.1 in
    let head = first.0 in
    cc

-- behind the magic
pub behind_magic : (fs : List Framed) (a b : List ℕ) → front_text fs ++ a ≡ magic ++ b → frames_text fs ++ a ≡ b
behind_magic fs a b e = append_cancel_left magic _ _ (sym (append_assoc magic (frames_text fs) a) ∙ e)
