-- The places of the gates of a list of frames.
use Rattle.std.proofs.Common.{◌≡◌, ℕ, zero, suc, ◌+◌, ◌<◌, ◌≤◌, List, [], ◌∷◌, ◌++◌, length, take, get_or, refl, sym, ap, ◌∙◌, arith, length-append}
use Rattle.rep_journal.specs.Format.{Framed, IsFrame, AreFrames, frame_text, frames_text, end_of}
use Rattle.rep_journal.specs.Listed.{IsListed, gates_from, most_frames, end_of_journals}
use Rattle.rep_journal.proofs.FormatLemmas.{longest_front, length-frame_text, end_of-push, are_frames-push}

pub length-gates_from : (at : ℕ) (fs : List Framed) → length (gates_from at fs) ≡ length fs
length-gates_from at [] = refl
length-gates_from at (f ∷ fs) = ap suc (length-gates_from (at + (1 + length (frame_text f))) fs)

gates_from-push : (at : ℕ) (fs : List Framed) (f : Framed) → gates_from at (fs ++ f ∷ []) ≡ gates_from at fs ++ (at + length (frames_text fs)) ∷ []
gates_from-push at [] f = ap (λ (n : ℕ). n ∷ []) (omega arith)
gates_from-push at (g ∷ fs) f =
    ap (λ (l : List ℕ). at ∷ l) (gates_from-push (at + (1 + length (frame_text g))) fs f)
    ∙ ap (λ (n : ℕ). at ∷ (gates_from (at + (1 + length (frame_text g))) fs ++ n ∷ [])) (omega (arith, length-append (frame_text g) (frames_text fs)))

pub get_or-gates_from : (at : ℕ) (fs : List Framed) (i d : ℕ) → i < length fs → get_or (gates_from at fs) i d ≡ at + length (frames_text (take i fs))
get_or-gates_from at [] i d lt = absurd (omega arith)
get_or-gates_from at (f ∷ fs) zero d lt = omega arith
get_or-gates_from at (f ∷ fs) (suc i) d lt =
    get_or-gates_from (at + (1 + length (frame_text f))) fs i d (omega arith) ∙ omega (arith, length-append (frame_text f) (frames_text (take i fs)))

-- the end of the longest journal
pub within_end : (fs : List Framed) → AreFrames fs → length fs ≤ most_frames → end_of fs ≤ end_of_journals
within_end fs all le = let h = longest_front fs all in omega arith

pub listed_push : (fs : List Framed) (gates : List ℕ) (end : ℕ) (f : Framed) → IsListed fs gates end → IsFrame f → length fs < most_frames → IsListed (fs ++ f ∷ []) (gates ++ end ∷ []) (end + (1 + (12 + length f.line)))
listed_push fs gates end f listed h lt = record {
  well_formed = are_frames-push fs f listed.well_formed h;
  places = ap (λ (l : List ℕ). l ++ end ∷ []) listed.places ∙ ap (λ (n : ℕ). gates_from 16 fs ++ n ∷ []) listed.ends ∙ sym (gates_from-push 16 fs f);
  ends = (let e = listed.ends in omega (arith, end_of-push fs f, length-frame_text f));
  limit = omega (arith, length-append fs (f ∷ []));
}
