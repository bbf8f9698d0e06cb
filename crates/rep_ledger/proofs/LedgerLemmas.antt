-- The frames of a history, one entry on.
use Rattle.std.proofs.Common.{◌≡◌, ℕ, suc, ◌<◌, List, [], ◌∷◌, ◌++◌, length, refl, sym, ap, subst, ◌∙◌, arith}
use Rattle.rep_wire.specs.declared.request.Entry.{Entry}
use Rattle.rep_core.specs.Chained.{history_lines, next_line}
use Rattle.rep_core.specs.Valid.{IsFounded}
use Rattle.rep_core.proofs.Lines.{history_lines-push, length-history_lines}
use Rattle.rep_core.proofs.Validity.{IsFounded-first, IsFounded-push}
use Rattle.rep_journal.specs.Format.{Framed}
use Rattle.rep_ledger.specs.Fitting.{FitsAt, IsEmptyOrFounded, IsNextLine}
use Rattle.rep_ledger.specs.Ledger.{frame_with, frames_with, frames_of, next_frame}

-- one entry more with one line more is one frame more
frames_with-push : (h : List Entry) (lines : List (List ℕ)) (e : Entry) (line : List ℕ) → length lines ≡ length h → frames_with (h ++ e ∷ []) (lines ++ line ∷ []) ≡ frames_with h lines ++ frame_with e line ∷ []
frames_with-push [] [] e line same = refl
frames_with-push [] (l ∷ lines) e line same = absurd (omega arith)
frames_with-push (d ∷ h) [] e line same = absurd (omega arith)
frames_with-push (d ∷ h) (l ∷ lines) e line same = ap (λ frames. frame_with d l ∷ frames) (frames_with-push h lines e line (omega arith))

pub frames_of-push : (h : List Entry) (e : Entry) → frames_of (h ++ e ∷ []) ≡ frames_of h ++ next_frame h e ∷ []
frames_of-push h e =
    ap (λ lines. frames_with (h ++ e ∷ []) lines) (history_lines-push h e)
    ∙ frames_with-push h (history_lines h) e (next_line h e.body) (length-history_lines h)

-- there is a frame for each entry
length-frames_with : (h : List Entry) (lines : List (List ℕ)) → length lines ≡ length h → length (frames_with h lines) ≡ length h
length-frames_with [] [] same = refl
length-frames_with [] (l ∷ lines) same = refl
length-frames_with (d ∷ h) [] same = absurd (omega arith)
length-frames_with (d ∷ h) (l ∷ lines) same = ap suc (length-frames_with h lines (omega arith))

pub length-frames_of : (h : List Entry) → length (frames_of h) ≡ length h
length-frames_of h = length-frames_with h (history_lines h) (length-history_lines h)

-- a history goes on by an entry that can stand next
pub IsFounded-next : (h : List Entry) (e : Entry) → IsEmptyOrFounded h → FitsAt h e → IsFounded (h ++ e ∷ [])
IsFounded-next [] e begun founds = subst (λ d. IsFounded (d ∷ [])) (sym founds.made) (IsFounded-first founds.q founds.now founds.founding founds.stamp)
IsFounded-next (first ∷ h) e begun fits = IsFounded-push (first ∷ h) e begun fits

pub begun_of : (h : List Entry) → IsFounded h → IsEmptyOrFounded h
begun_of [] founded = tt
begun_of (first ∷ h) founded = founded

pub founded_of : (h : List Entry) → 0 < length h → IsEmptyOrFounded h → IsFounded h
founded_of [] some begun = absurd (omega arith)
founded_of (first ∷ h) some begun = begun

-- a frame is that of an entry which can stand next just where its pair and its line are
pub next_frame-is : (h : List Entry) (frame : Framed) (e : Entry) → IsNextLine h frame.origin frame.seq frame.line e → frame ≡ next_frame h e
next_frame-is h frame e next =
    let by_origin : ℕ → Framed = λ o. record { origin = o; seq = frame.seq; line = frame.line } in
    let by_seq : ℕ → Framed = λ s. record { origin = e.origin; seq = s; line = frame.line } in
    let by_line : List ℕ → Framed = λ l. record { origin = e.origin; seq = e.seq; line = l } in
    ap by_origin (sym next.came.0) ∙ ap by_seq (sym next.came.1) ∙ ap by_line next.written

pub IsNextLine-frame : (h : List Entry) (frame : Framed) (e : Entry) → FitsAt h e → frame ≡ next_frame h e → IsNextLine h frame.origin frame.seq frame.line e
IsNextLine-frame h frame e fits is = record {
  fits = fits;
  came = (sym (ap (λ (f : Framed). f.origin) is), sym (ap (λ (f : Framed). f.seq) is));
  written = ap (λ (f : Framed). f.line) is;
}

-- the same by what code reads of the frame
pub IsNextLine-read : (h : List Entry) (frame : Framed) (from seq : ℕ) (line : List ℕ) (e : Entry) → from ≡ frame.origin → seq ≡ frame.seq → line ≡ frame.line → IsNextLine h from seq line e → IsNextLine h frame.origin frame.seq frame.line e
IsNextLine-read h frame from seq line e origin_is seq_is line_is next = record {
  fits = next.fits;
  came = (next.came.0 ∙ origin_is, next.came.1 ∙ seq_is);
  written = sym line_is ∙ next.written;
}

pub IsNextLine-unread : (h : List Entry) (frame : Framed) (from seq : ℕ) (line : List ℕ) (e : Entry) → from ≡ frame.origin → seq ≡ frame.seq → line ≡ frame.line → IsNextLine h frame.origin frame.seq frame.line e → IsNextLine h from seq line e
IsNextLine-unread h frame from seq line e origin_is seq_is line_is next = record {
  fits = next.fits;
  came = (next.came.0 ∙ sym origin_is, next.came.1 ∙ sym seq_is);
  written = line_is ∙ next.written;
}
