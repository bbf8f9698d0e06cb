-- The text of a journal's frames, part by part.
use Rattle.std.proofs.Common.{◌≡◌, ℕ, ◌+◌, List, [], ◌∷◌, ◌++◌, length, refl, sym, ap, ◌∙◌, append-nil, arith, append_assoc, length-append}
use Rattle.rep_journal.specs.Format.{Framed, IsFrame, AreFrames, magic, open_gate, end_of, frame_text, frames_text, front_text}

frames_text-append : (fs gs : List Framed) → frames_text (fs ++ gs) ≡ frames_text fs ++ frames_text gs
frames_text-append [] gs = refl
frames_text-append (f ∷ fs) gs =
    ap (λ (l : List ℕ). open_gate ∷ (frame_text f ++ l)) (frames_text-append fs gs)
    ∙ ap (λ (l : List ℕ). open_gate ∷ l) (sym (append_assoc (frame_text f) (frames_text fs) (frames_text gs)))

-- more frames end later
pub end_of-append : (fs gs : List Framed) → end_of (fs ++ gs) ≡ end_of fs + length (frames_text gs)
end_of-append fs gs = omega (arith, ap length (frames_text-append fs gs), length-append (frames_text fs) (frames_text gs))

pub front_text-push : (fs : List Framed) (f : Framed) → front_text (fs ++ f ∷ []) ≡ front_text fs ++ open_gate ∷ frame_text f
front_text-push fs f =
    ap (λ (l : List ℕ). magic ++ l) (frames_text-append fs (f ∷ []))
    ∙ sym (append_assoc magic (frames_text fs) (open_gate ∷ (frame_text f ++ [])))
    ∙ ap (λ (l : List ℕ). front_text fs ++ open_gate ∷ l) (append-nil (frame_text f))

length-magic : length magic ≡ 16
unfolding magic
length-magic = refl

pub length-front_text : (fs : List Framed) → length (front_text fs) ≡ end_of fs
length-front_text fs = omega (arith, length-append magic (frames_text fs), length-magic)

pub are_frames-push : (fs : List Framed) (f : Framed) → AreFrames fs → IsFrame f → AreFrames (fs ++ f ∷ [])
are_frames-push [] f all h = (h, tt)
are_frames-push (g ∷ fs) f all h = (all.0, are_frames-push fs f all.1 h)
