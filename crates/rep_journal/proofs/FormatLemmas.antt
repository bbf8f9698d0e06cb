-- Lengths and pieces of the layout.
use Rattle.std.proofs.Common.{◌≡◌, ℕ, ◌+◌, ◌*◌, ◌<◌, ◌≤◌, ◌^◌, List, [], ◌∷◌, ◌++◌, length, refl, sym, ap, ◌∙◌, arith, append_assoc, length-append}
use Rattle.std.proofs.lemmas.List.{append-nil}
use Rattle.std.proofs.lemmas.Nat.{from_be_bytes-to_be_bytes_2, from_be_bytes-to_be_bytes_8}
use Rattle.std.specs.Int.{w16, w64, from_be_bytes}
use Rattle.rep_journal.specs.Format.{magic, open_gate, Framed, IsFrame, AreFrames, two_bytes, eight_bytes, frame_text, frames_text, front_text, end_of}

pub length-magic : length magic ≡ 16
unfolding magic
length-magic = refl

pub length-two_bytes : (n : ℕ) → length (two_bytes n) ≡ 2
unfolding two_bytes
length-two_bytes n = refl

pub length-eight_bytes : (n : ℕ) → length (eight_bytes n) ≡ 8
unfolding eight_bytes
length-eight_bytes n = refl

pub same_two_bytes : (a b : ℕ) → a < 2 ^ 16 → b < 2 ^ 16 → two_bytes a ≡ two_bytes b → a ≡ b
unfolding two_bytes
same_two_bytes a b fits_a fits_b e = sym (from_be_bytes-to_be_bytes_2 a fits_a) ∙ ap (from_be_bytes w16) e ∙ from_be_bytes-to_be_bytes_2 b fits_b

pub same_eight_bytes : (a b : ℕ) → a < 2 ^ 64 → b < 2 ^ 64 → eight_bytes a ≡ eight_bytes b → a ≡ b
unfolding eight_bytes
same_eight_bytes a b fits_a fits_b e = sym (from_be_bytes-to_be_bytes_8 a fits_a) ∙ ap (from_be_bytes w64) e ∙ from_be_bytes-to_be_bytes_8 b fits_b

-- a frame and what stands behind it, piece by piece
pub frame_pieces : (frame : Framed) (rest : List ℕ) → frame_text frame ++ rest ≡ two_bytes (length frame.line) ++ (two_bytes frame.origin ++ (eight_bytes frame.seq ++ (frame.line ++ rest)))
unfolding frame_text
frame_pieces frame rest = simp (append_assoc, append-nil)

pub length-frame_text : (frame : Framed) → length (frame_text frame) ≡ 12 + length frame.line
unfolding frame_text
length-frame_text frame = simp (length-append, length-two_bytes, length-eight_bytes) (omega arith)

pub longest_frame : (frame : Framed) → IsFrame frame → length (frame_text frame) ≤ 343
longest_frame frame h = let e = length-frame_text frame in let l = h.line in grind arith

pub frames_text-append : (fs gs : List Framed) → frames_text (fs ++ gs) ≡ frames_text fs ++ frames_text gs
frames_text-append [] gs = refl
frames_text-append (f ∷ fs) gs = ap (λ (l : List ℕ). open_gate ∷ (frame_text f ++ l)) (frames_text-append fs gs) ∙ ap (λ (l : List ℕ). open_gate ∷ l) (sym (append_assoc (frame_text f) (frames_text fs) (frames_text gs)))

pub end_of-push : (fs : List Framed) (f : Framed) → end_of (fs ++ f ∷ []) ≡ end_of fs + (1 + length (frame_text f))
end_of-push fs f = simp (frames_text-append, length-append, append-nil) (omega (arith, length-append (frame_text f) []))

pub length-front_text : (fs : List Framed) → length (front_text fs) ≡ end_of fs
length-front_text fs = omega (arith, length-append magic (frames_text fs), length-magic)

pub front_text-push : (fs : List Framed) (f : Framed) → front_text (fs ++ f ∷ []) ≡ front_text fs ++ open_gate ∷ frame_text f
front_text-push fs f =
    ap (λ (l : List ℕ). magic ++ l) (frames_text-append fs (f ∷ []))
    ∙ sym (append_assoc magic (frames_text fs) (open_gate ∷ (frame_text f ++ [])))
    ∙ ap (λ (l : List ℕ). front_text fs ++ open_gate ∷ l) (append-nil (frame_text f))

pub are_frames-push : (fs : List Framed) (f : Framed) → AreFrames fs → IsFrame f → AreFrames (fs ++ f ∷ [])
are_frames-push [] f all h = (h, tt)
are_frames-push (g ∷ fs) f all h = (all.0, are_frames-push fs f all.1 h)

pub longest_front : (fs : List Framed) → AreFrames fs → end_of fs ≤ 16 + 344 * length fs
longest_front [] all = omega arith
longest_front (f ∷ fs) all = let h = longest_frame f all.0 in let r = longest_front fs all.1 in omega (arith, length-append (frame_text f) (frames_text fs))
