-- What stands at the front of bytes.
use Rattle.std.proofs.Common.{◌≡◌, ℕ, ◌+◌, ◌<◌, ◌≤◌, Bool, true, false, List, [], ◌∷◌, ◌++◌, length, take, drop, get_or, Some, None, Option, refl, sym, ap, ◌∙◌, subst, arith, append_assoc, length-append, length-take, length-drop, take-append-drop}
use Rattle.std.specs.Prelude.{IfSome, IsSome, nat_lt, ◌↔◌}
use Rattle.std.proofs.lemmas.Bool.{ltb-true}
use Rattle.std.proofs.lemmas.List.{append-nil, take_at, take-append-le, drop_at, drop_all, drop-drop, drop_more, length-take-le}
use Rattle.rep_journal.specs.Format.{magic, open_gate, Framed, IsLineLength, AreFrames, two_bytes, eight_bytes, frame_text, frames_text, front_text, end_of}
use Rattle.rep_journal.specs.Scan.{HasFrame, ReadsFrame, TakesTo, TakesFrames, IsScanned, EndsBroken, IsScannedTo}
use Rattle.rep_journal.specs.declared.stop.Stop.{Stop}
use Rattle.rep_journal.specs.declared.stop.Stop.TheVariants.{Closed, Broken, Cut}
use Rattle.rep_journal.proofs.FormatLemmas.{length-two_bytes, same_two_bytes, length-front_text, frame_pieces, longest_frame, length-frame_text, frames_text-append, are_frames-push}
use Rattle.rep_journal.proofs.UniqueLemmas.{line_short}

-- the frame that stands there is as long as its length says
size_of : (bytes : List ℕ) (n : ℕ) (f : Framed) → n < 65536 → take 2 bytes ≡ two_bytes n → HasFrame bytes f → length f.line ≡ n
size_of bytes n f fits is has =
    let here : take 2 bytes ≡ two_bytes (length f.line) = ap (λ (l : List ℕ). take 2 l) (has.1.2 ∙ frame_pieces f (has.1.0 ∷ has.1.1)) ∙ take_at (two_bytes (length f.line)) _ 2 (length-two_bytes _) in
    same_two_bytes (length f.line) n (line_short (length f.line) has.0.line) fits (sym here ∙ is)

has_length : (bytes : List ℕ) (f : Framed) → HasFrame bytes f → 12 + length f.line < length bytes
has_length bytes f has = omega (arith, ap length has.1.2, length-append (frame_text f) (has.1.0 ∷ has.1.1), length-frame_text f)

pub none_short : (bytes : List ℕ) → length bytes < 12 → (f : Framed) → HasFrame bytes f → ⊥
none_short bytes short f has = let long = has_length bytes f has in omega arith

pub none_cut : (bytes : List ℕ) (n : ℕ) → n < 65536 → take 2 bytes ≡ two_bytes n → length bytes ≤ 12 + n → (f : Framed) → HasFrame bytes f → ⊥
none_cut bytes n fits is short f has = let long = has_length bytes f has in let size = size_of bytes n f fits is has in omega arith

-- bytes in five pieces
pieces : (bytes : List ℕ) (n : ℕ) → bytes ≡ take 2 bytes ++ (take 2 (drop 2 bytes) ++ (take 8 (drop 4 bytes) ++ (take n (drop 12 bytes) ++ drop n (drop 12 bytes))))
pieces bytes n =
    sym (take-append-drop 2 bytes)
    ∙ ap (λ (l : List ℕ). take 2 bytes ++ l)
    (sym (take-append-drop 2 (drop 2 bytes))
    ∙ ap (λ (l : List ℕ). take 2 (drop 2 bytes) ++ l)
    (drop-drop 2 2 bytes ∙ sym (take-append-drop 8 (drop 4 bytes))
    ∙ ap (λ (l : List ℕ). take 8 (drop 4 bytes) ++ l) (drop-drop 8 4 bytes ∙ sym (take-append-drop n (drop 12 bytes)))))

pub reads_frame : (bytes : List ℕ) (n origin seq : ℕ) (line : List ℕ) (result : Option Framed) → n < 65536 → origin < 65536 → seq < 18446744073709551616 → take 2 bytes ≡ two_bytes n → take 2 (drop 2 bytes) ≡ two_bytes origin → take 8 (drop 4 bytes) ≡ eight_bytes seq
    → line ≡ take n (drop 12 bytes) → 12 + n < length bytes → IfSome result (λ f. f ≡ record { origin = origin; seq = seq; line = line }) → IsSome result ↔ IsLineLength (length line) → ReadsFrame bytes result
reads_frame bytes n origin seq line None fits fits_origin fits_seq is_n is_origin is_seq is_line long made succeeds = λ f has.
    let size = size_of bytes n f fits is_n has in
    let here : length f.line ≡ length line = size ∙ sym (ap length is_line ∙ length-take-le n (drop 12 bytes) (omega (arith, length-drop 12 bytes))) in
    let no : IsSome {T = Framed} None = succeeds.1 (subst IsLineLength here has.0.line) in
    absurd (cc)
reads_frame bytes n origin seq line (Some f) fits fits_origin fits_seq is_n is_origin is_seq is_line long made succeeds =
    let size : length line ≡ n = ap length is_line ∙ length-take-le n (drop 12 bytes) (omega (arith, length-drop 12 bytes)) in
    let g : Framed = record { origin = origin; seq = seq; line = line } in
    let behind : drop n (drop 12 bytes) ≡ get_or (drop 12 bytes) n 0 ∷ drop (n + 1) (drop 12 bytes) = drop_more (drop 12 bytes) n 0 (omega (arith, length-drop 12 bytes)) in
    let text : bytes ≡ frame_text g ++ get_or (drop 12 bytes) n 0 ∷ drop (n + 1) (drop 12 bytes) =
    pieces bytes n
    ∙ ap (λ (l : List ℕ). l ++ (take 2 (drop 2 bytes) ++ (take 8 (drop 4 bytes) ++ (take n (drop 12 bytes) ++ drop n (drop 12 bytes))))) (is_n ∙ ap two_bytes (sym size))
    ∙ ap (λ (l : List ℕ). two_bytes (length line) ++ (l ++ (take 8 (drop 4 bytes) ++ (take n (drop 12 bytes) ++ drop n (drop 12 bytes))))) is_origin
    ∙ ap (λ (l : List ℕ). two_bytes (length line) ++ (two_bytes origin ++ (l ++ (take n (drop 12 bytes) ++ drop n (drop 12 bytes))))) is_seq
    ∙ ap (λ (l : List ℕ). two_bytes (length line) ++ (two_bytes origin ++ (eight_bytes seq ++ (l ++ drop n (drop 12 bytes))))) (sym is_line)
    ∙ ap (λ (l : List ℕ). two_bytes (length line) ++ (two_bytes origin ++ (eight_bytes seq ++ (line ++ l)))) behind
    ∙ sym (frame_pieces g (get_or (drop 12 bytes) n 0 ∷ drop (n + 1) (drop 12 bytes))) in
    subst (λ (h : Framed). HasFrame bytes h) (sym made) (record { origin = fits_origin; seq = fits_seq; line = succeeds.0 refl }, (get_or (drop 12 bytes) n 0, drop (n + 1) (drop 12 bytes), text))

-- One frame more is taken off the front.
module _ (rest : List ℕ) (f : Framed) (some : 0 < length rest) (gate : get_or rest 0 0 ≡ open_gate) (has : HasFrame (drop 1 rest) f) where
  rest_is : rest ≡ open_gate ∷ (frame_text f ++ has.1.0 ∷ has.1.1)
  rest_is = drop_more rest 0 0 some ∙ ap (λ (n : ℕ). n ∷ drop 1 rest) gate ∙ ap (λ (l : List ℕ). open_gate ∷ l) has.1.2

  pub frame_within : 13 + length f.line ≤ length rest
  frame_within = omega (arith, ap length rest_is, length-append (frame_text f) (has.1.0 ∷ has.1.1), length-frame_text f)

  behind_frame : drop (13 + length f.line) rest ≡ has.1.0 ∷ has.1.1
  behind_frame = ap (λ (l : List ℕ). drop (13 + length f.line) l) rest_is ∙ drop_at (open_gate ∷ frame_text f) (has.1.0 ∷ has.1.1) (13 + length f.line) (omega (arith, length-frame_text f))

  pub takes_more : (piece : List ℕ) (old new : List Framed) → TakesTo piece old new rest → TakesTo piece old (new ++ f ∷ []) (drop (13 + length f.line) rest)
  takes_more piece old new t = record {
    taken = t.taken ++ f ∷ [];
    frames = ap (λ (l : List Framed). l ++ f ∷ []) t.frames ∙ append_assoc old t.taken (f ∷ []);
    well_formed = are_frames-push t.taken f t.well_formed has.0;
    text = t.text
        ∙ ap (λ (l : List ℕ). frames_text t.taken ++ l) rest_is
        ∙ sym (append_assoc (frames_text t.taken) (open_gate ∷ frame_text f) (has.1.0 ∷ has.1.1))
        ∙ ap (λ (l : List ℕ). (frames_text t.taken ++ open_gate ∷ l) ++ has.1.0 ∷ has.1.1) (sym (append-nil (frame_text f)))
        ∙ ap (λ (l : List ℕ). l ++ has.1.0 ∷ has.1.1) (sym (frames_text-append t.taken (f ∷ [])))
        ∙ ap (λ (l : List ℕ). frames_text (t.taken ++ f ∷ []) ++ l) (sym behind_frame);
    some = omega (arith, ap length behind_frame);
  }

-- From a piece to the contents.

front_text-append : (fs gs : List Framed) → front_text (fs ++ gs) ≡ front_text fs ++ frames_text gs
front_text-append fs gs = ap (λ (l : List ℕ). magic ++ l) (frames_text-append fs gs) ∙ sym (append_assoc magic (frames_text fs) (frames_text gs))

are_frames-append : (fs gs : List Framed) → AreFrames fs → AreFrames gs → AreFrames (fs ++ gs)
are_frames-append [] gs all more = more
are_frames-append (f ∷ fs) gs all more = (all.0, are_frames-append fs gs all.1 more)

-- a front that is longer than a frame has the frame and a byte behind it
has_in_front : (front behind : List ℕ) (f : Framed) → 344 ≤ length front → HasFrame (front ++ behind) f → HasFrame front f
has_in_front front behind f long has =
    let most = longest_frame f has.0 in
    let size = length (frame_text f) in
    let same : take size front ≡ frame_text f = sym (take-append-le size front behind (omega arith)) ∙ ap (λ (l : List ℕ). take size l) has.1.2 ∙ take_at (frame_text f) (has.1.0 ∷ has.1.1) size refl in
    (has.0, (get_or front size 0, drop (size + 1) front, sym (take-append-drop size front) ∙ ap (λ (l : List ℕ). l ++ drop size front) same ∙ ap (λ (l : List ℕ). frame_text f ++ l) (drop_more front size 0 (omega arith))))

module _ (bytes : List ℕ) (fs : List Framed) (scanned : IsScanned bytes fs) where
  tail_is : drop (end_of fs) bytes ≡ scanned.gate ∷ scanned.rest
  tail_is = ap (λ (l : List ℕ). drop (end_of fs) l) scanned.text ∙ drop_at (front_text fs) (scanned.gate ∷ scanned.rest) (end_of fs) (length-front_text fs)

  -- there is something to read
  pub reads_some : (into : List ℕ) (n size : ℕ) → n ≡ 0 → 0 < size → take n into ≡ take size (drop (end_of fs) bytes) → ⊥
  reads_some into n size none some is =
      let l = ap length is in
      let t = ap length tail_is in
      omega (arith, length-take n into, length-take size (drop (end_of fs) bytes))

  module _ (piece : List ℕ) (size : ℕ) (is : piece ≡ take size (drop (end_of fs) bytes)) where
    beyond : List ℕ
    beyond = drop size (drop (end_of fs) bytes)

    -- the contents, by the frames of the piece and what is left of it
    whole : (new : List Framed) (rest : List ℕ) → TakesTo piece fs new rest → bytes ≡ front_text new ++ (rest ++ beyond)
    unfolding beyond
    whole new rest t =
        scanned.text
        ∙ ap (λ (l : List ℕ). front_text fs ++ l) (sym tail_is ∙ sym (take-append-drop size (drop (end_of fs) bytes)) ∙ ap (λ (l : List ℕ). l ++ drop size (drop (end_of fs) bytes)) (sym is ∙ t.text) ∙ append_assoc (frames_text t.taken) rest (drop size (drop (end_of fs) bytes)))
        ∙ sym (append_assoc (front_text fs) (frames_text t.taken) (rest ++ drop size (drop (end_of fs) bytes)))
        ∙ ap (λ (l : List ℕ). l ++ (rest ++ drop size (drop (end_of fs) bytes))) (sym (front_text-append fs t.taken) ∙ ap front_text (sym t.frames))

    well_formed : (new : List Framed) (rest : List ℕ) → TakesTo piece fs new rest → AreFrames new
    well_formed new rest t = subst AreFrames (sym t.frames) (are_frames-append fs t.taken scanned.well_formed t.well_formed)

    nothing_beyond : length piece < size → beyond ≡ []
    unfolding beyond
    nothing_beyond short = drop_all size (drop (end_of fs) bytes) (omega (arith, ap length is, length-take size (drop (end_of fs) bytes)))

    pub scans_to : (is_last : Bool) (new : List Framed) (stop : Stop) → (is_last ≡ true → length piece < size) → TakesFrames piece is_last fs new stop → IsScannedTo bytes new stop
    scans_to is_last new Closed last t =
        let s = t.stops in
        record {
          well_formed = well_formed new t.rest t.takes;
          gate = s.0;
          closed = s.2;
          rest = s.1 ++ beyond;
          text = whole new t.rest t.takes ∙ ap (λ (l : List ℕ). front_text new ++ (l ++ beyond)) s.3;
        }
    scans_to true new Broken last t =
        let s = t.stops in
        let none_left = nothing_beyond (last refl) in
        record {
          well_formed = well_formed new t.rest t.takes;
          rest = s.0;
          text = whole new t.rest t.takes ∙ ap (λ (l : List ℕ). front_text new ++ (l ++ beyond)) s.1 ∙ ap (λ (l : List ℕ). front_text new ++ open_gate ∷ (s.0 ++ l)) none_left ∙ ap (λ (l : List ℕ). front_text new ++ open_gate ∷ l) (append-nil s.0);
          none = s.3;
        }
    scans_to false new Broken last t =
        let s = t.stops in
        record {
          well_formed = well_formed new t.rest t.takes;
          rest = s.0 ++ beyond;
          text = whole new t.rest t.takes ∙ ap (λ (l : List ℕ). front_text new ++ (l ++ beyond)) s.1;
          none = λ f has. s.3 f (has_in_front s.0 beyond f (s.2 refl) has);
        }
    scans_to is_last new Cut last t = record {
      well_formed = well_formed new t.rest t.takes;
      gate = get_or t.rest 0 0;
      rest = drop 1 t.rest ++ beyond;
      text = whole new t.rest t.takes ∙ ap (λ (l : List ℕ). front_text new ++ (l ++ beyond)) (drop_more t.rest 0 0 t.takes.some);
    }

-- The same of contents that are told.

pub none_read : (contents : Option (List ℕ)) (fs : List Framed) (into : List ℕ) (n size at : ℕ) → n ≡ 0 → 0 < size → at ≡ end_of fs → IfSome contents (λ b. take n into ≡ take size (drop at b)) → IfSome contents (λ b. IsScanned b fs → EndsBroken b fs)
none_read None fs into n size at none some is told = tt
none_read (Some bytes) fs into n size at none some is told = λ scanned. absurd (reads_some bytes fs scanned into n size none some (told ∙ ap (λ (m : ℕ). take size (drop m bytes)) is))

pub scans_told : (contents : Option (List ℕ)) (fs new : List Framed) (into : List ℕ) (n size at : ℕ) (stop : Stop) → at ≡ end_of fs → n ≤ size → length into ≡ size → IfSome contents (λ b. take n into ≡ take size (drop at b))
    → TakesFrames (take n into) (nat_lt n size) fs new stop → IfSome contents (λ b. IsScanned b fs → IsScannedTo b new stop)
scans_told None fs new into n size at stop is le all told t = tt
scans_told (Some bytes) fs new into n size at stop is le all told t = λ scanned.
    scans_to bytes fs scanned (take n into) size (told ∙ ap (λ (m : ℕ). take size (drop m bytes)) is) (nat_lt n size) new stop (λ last. let less = ltb-true n size last in omega (arith, length-take n into)) t
