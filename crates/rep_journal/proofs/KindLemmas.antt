-- Contents are of one kind.
use Rattle.std.proofs.Common.{◌≡◌, ◌≢◌, ◌⊎◌, inl, inr, ℕ, zero, suc, ◌<◌, ◌≤◌, List, [], ◌∷◌, ◌++◌, length, take, drop, refl, sym, ap, ◌∙◌, subst, arith, append_assoc, length-append, take-append-drop}
use Rattle.std.proofs.lemmas.List.{take_at, drop_at}
use Rattle.std.proofs.lemmas.Bool.{cases_eq, cases_lt}
use Rattle.std.proofs.lemmas.Nat.{from_be_bytes-to_be_bytes_2, from_be_bytes-to_be_bytes_8}
use Rattle.std.specs.Int.{w16, w64, from_be_bytes}
use Rattle.rep_journal.specs.Format.{magic, open_gate, Framed, IsFrame, IsLineLength, AreFrames, two_bytes, eight_bytes, frame_text, frames_text, front_text, end_of, IsJournalOf, IsBlank, HasMagic, BrokenAt, Kind, Blank, Foreign, Damaged, Keeps, IsOfKind}
use Rattle.rep_journal.specs.Scan.{HasFrame}
use Rattle.rep_journal.proofs.FormatLemmas.{length-magic, length-front_text, length-frame_text, length-two_bytes, length-eight_bytes, frame_pieces}
use Rattle.rep_journal.proofs.UniqueLemmas.{same_frames, not_both, same_broken, behind_magic}

pub one_journal : (bytes : List ℕ) (fs gs : List Framed) → IsJournalOf bytes fs → IsJournalOf bytes gs → fs ≡ gs
one_journal bytes fs gs j k =
    same_frames fs gs j.gate k.gate j.rest k.rest j.well_formed k.well_formed j.closed k.closed
    (behind_magic fs (j.gate ∷ j.rest) _ (sym j.text ∙ k.text ∙ append_assoc magic (frames_text gs) (k.gate ∷ k.rest)))

pub journal_magic : (bytes : List ℕ) (fs : List Framed) → IsJournalOf bytes fs → HasMagic bytes
journal_magic bytes fs j = (frames_text fs ++ j.gate ∷ j.rest, j.text ∙ append_assoc magic (frames_text fs) (j.gate ∷ j.rest))

-- the gate behind the frames is there
pub journal_length : (bytes : List ℕ) (fs : List Framed) → IsJournalOf bytes fs → end_of fs < length bytes
journal_length bytes fs j = omega (arith, ap length j.text, length-append (front_text fs) (j.gate ∷ j.rest), length-front_text fs)

-- a journal with a frame isn't blank
pub kept_not_blank : (bytes : List ℕ) (fs : List Framed) → IsJournalOf bytes fs → fs ≢ [] → IsBlank bytes → ⊥
kept_not_blank bytes [] j some blank = some refl
kept_not_blank bytes (f ∷ fs) j some (inl short) = let h = journal_length bytes (f ∷ fs) j in omega (arith, length-append (frame_text f) (frames_text fs), length-frame_text f)
kept_not_blank bytes (f ∷ fs) j some (inr none) = some (one_journal bytes (f ∷ fs) [] j none)

broken_magic : (bytes : List ℕ) (at : ℕ) → BrokenAt bytes at → HasMagic bytes
broken_magic bytes at b = (frames_text b.before ++ open_gate ∷ b.rest, b.text ∙ append_assoc magic (frames_text b.before) (open_gate ∷ b.rest))

-- no frame follows the gate
none_behind : (bytes : List ℕ) (at : ℕ) (b : BrokenAt bytes at) (frame : Framed) → HasFrame b.rest frame → ⊥
none_behind bytes at b frame has = b.broken frame has.1.0 has.1.1 has.0 has.1.2

pub kept_not_broken : (bytes : List ℕ) (at : ℕ) (fs : List Framed) → BrokenAt bytes at → IsJournalOf bytes fs → ⊥
kept_not_broken bytes at fs b j =
    not_both fs b.before j.gate j.rest b.rest j.well_formed b.well_formed j.closed (none_behind bytes at b)
    (behind_magic fs (j.gate ∷ j.rest) _ (sym j.text ∙ b.text ∙ append_assoc magic (frames_text b.before) (open_gate ∷ b.rest)))

pub one_broken : (bytes : List ℕ) (at other : ℕ) → BrokenAt bytes at → BrokenAt bytes other → at ≡ other
one_broken bytes at other a b =
    a.place
    ∙ ap end_of (same_broken a.before b.before a.rest b.rest a.well_formed b.well_formed (none_behind bytes at a) (none_behind bytes other b)
    (behind_magic a.before (open_gate ∷ a.rest) _ (sym a.text ∙ b.text ∙ append_assoc magic (frames_text b.before) (open_gate ∷ b.rest))))
    ∙ sym b.place

pub one_kind : (bytes : List ℕ) (kind other : Kind) → IsOfKind bytes kind → IsOfKind bytes other → kind ≡ other
one_kind bytes Blank Blank k l = refl
one_kind bytes Blank Foreign k l = absurd (l.not_blank k)
one_kind bytes Blank (Damaged at) k l = absurd (l.not_blank k)
one_kind bytes Blank (Keeps fs) k l = absurd (kept_not_blank bytes fs l.0 l.1 k)
one_kind bytes Foreign Blank k l = absurd (k.not_blank l)
one_kind bytes Foreign Foreign k l = refl
one_kind bytes Foreign (Damaged at) k l = absurd (k.no_magic (broken_magic bytes at l))
one_kind bytes Foreign (Keeps fs) k l = absurd (k.no_magic (journal_magic bytes fs l.0))
one_kind bytes (Damaged at) Blank k l = absurd (k.not_blank l)
one_kind bytes (Damaged at) Foreign k l = absurd (l.no_magic (broken_magic bytes at k))
one_kind bytes (Damaged at) (Damaged other) k l = ap (λ (n : ℕ). Damaged n) (one_broken bytes at other k l)
one_kind bytes (Damaged at) (Keeps fs) k l = absurd (kept_not_broken bytes at fs k l.0)
one_kind bytes (Keeps fs) Blank k l = absurd (kept_not_blank bytes fs k.0 k.1 l)
one_kind bytes (Keeps fs) Foreign k l = absurd (l.no_magic (journal_magic bytes fs k.0))
one_kind bytes (Keeps fs) (Damaged at) k l = absurd (kept_not_broken bytes at fs l k.0)
one_kind bytes (Keeps fs) (Keeps gs) k l = ap (λ (list : List Framed). Keeps list) (one_journal bytes fs gs k.0 l.0)

-- Each of these holds or it doesn't.

same_or_not : (xs ys : List ℕ) → (xs ≡ ys) ⊎ (xs ≡ ys → ⊥)
same_or_not [] [] = inl refl
same_or_not [] (y ∷ ys) = inr (λ e. cc)
same_or_not (x ∷ xs) [] = inr (λ e. cc)
same_or_not (x ∷ xs) (y ∷ ys) = elim (cases_eq x y) [
  | inl here ↦ elim (same_or_not xs ys) [ inl behind ↦ inl cc | inr other ↦ inr (λ e. other cc) ]
  | inr other ↦ inr (λ e. other cc)
]

line_length_or_not : (n : ℕ) → IsLineLength n ⊎ (IsLineLength n → ⊥)
line_length_or_not n = elim (cases_eq n 36) [
  | inl is ↦ inl (inl is)
  | inr a ↦ elim (cases_eq n 73) [
    | inl is ↦ inl (inr (inl is))
    | inr b ↦ elim (cases_eq n 118) [
      | inl is ↦ inl (inr (inr (inl is)))
      | inr c ↦ elim (cases_eq n 137) [
        | inl is ↦ inl (inr (inr (inr (inl is))))
        | inr d ↦ elim (cases_eq n 331) [ inl is ↦ inl (inr (inr (inr (inr is)))) | inr e ↦ inr (λ h. grind arith) ]
      ]
    ]
  ]
]

frame_or_not : (f : Framed) → IsFrame f ⊎ (IsFrame f → ⊥)
frame_or_not f = elim (cases_lt f.origin 65536) [
  | inr big ↦ inr (λ h. omega (arith, h.origin))
  | inl origin ↦ elim (cases_lt f.seq 18446744073709551616) [
    | inr big ↦ inr (λ h. omega (arith, h.seq))
    | inl seq ↦ elim (line_length_or_not (length f.line)) [
      | inl line ↦ inl (record { origin = origin; seq = seq; line = line })
      | inr other ↦ inr (λ h. other h.line)
    ]
  ]
]

-- the frame that would stand at the front of bytes
candidate : List ℕ → Framed
candidate bytes = record {
  origin = from_be_bytes w16 (take 2 (drop 2 bytes));
  seq = from_be_bytes w64 (take 8 (drop 2 (drop 2 bytes)));
  line = take (from_be_bytes w16 (take 2 bytes)) (drop 8 (drop 2 (drop 2 bytes)));
}

from_two_bytes : (n : ℕ) → n < 65536 → from_be_bytes w16 (two_bytes n) ≡ n
unfolding two_bytes
from_two_bytes n fits = from_be_bytes-to_be_bytes_2 n fits

from_eight_bytes : (n : ℕ) → n < 18446744073709551616 → from_be_bytes w64 (eight_bytes n) ≡ n
unfolding eight_bytes
from_eight_bytes n fits = from_be_bytes-to_be_bytes_8 n fits

line_fits : (n : ℕ) → IsLineLength n → n < 65536
line_fits n h = grind arith

candidate_is : (f : Framed) (rest bytes : List ℕ) → IsFrame f → bytes ≡ frame_text f ++ rest → candidate bytes ≡ f
unfolding candidate
candidate_is f rest bytes h e =
    let pieces = e ∙ frame_pieces f rest in
    let size = ap (λ (l : List ℕ). take 2 l) pieces ∙ take_at (two_bytes (length f.line)) _ 2 (length-two_bytes _) in
    let behind_size = ap (λ (l : List ℕ). drop 2 l) pieces ∙ drop_at (two_bytes (length f.line)) _ 2 (length-two_bytes _) in
    let origin = ap (λ (l : List ℕ). take 2 l) behind_size ∙ take_at (two_bytes f.origin) _ 2 (length-two_bytes _) in
    let behind_origin = ap (λ (l : List ℕ). drop 2 l) behind_size ∙ drop_at (two_bytes f.origin) _ 2 (length-two_bytes _) in
    let seq = ap (λ (l : List ℕ). take 8 l) behind_origin ∙ take_at (eight_bytes f.seq) _ 8 (length-eight_bytes _) in
    let behind_seq = ap (λ (l : List ℕ). drop 8 l) behind_origin ∙ drop_at (eight_bytes f.seq) _ 8 (length-eight_bytes _) in
    let line_size = ap (from_be_bytes w16) size ∙ from_two_bytes (length f.line) (line_fits _ h.line) in
    let line = ap (λ (n : ℕ). take n (drop 8 (drop 2 (drop 2 bytes)))) line_size ∙ ap (λ (l : List ℕ). take (length f.line) l) behind_seq ∙ take_at f.line rest (length f.line) refl in
    λ i. record {
      origin = (ap (from_be_bytes w16) origin ∙ from_two_bytes f.origin h.origin) i;
      seq = (ap (from_be_bytes w64) seq ∙ from_eight_bytes f.seq h.seq) i;
      line = line i;
    }

has_or_not : (bytes : List ℕ) → ((f : Framed) × HasFrame bytes f) ⊎ ((f : Framed) → HasFrame bytes f → ⊥)
has_or_not bytes =
    let only : (f : Framed) → HasFrame bytes f → candidate bytes ≡ f = λ f has. candidate_is f (has.1.0 ∷ has.1.1) bytes has.0 has.1.2 in
    elim (frame_or_not (candidate bytes)) [
      | inr none ↦ inr (λ f has. none (subst IsFrame (sym (only f has)) has.0))
      | inl whole ↦ elim (same_or_not (take (length (frame_text (candidate bytes))) bytes) (frame_text (candidate bytes))) [
        | inr other ↦ inr (λ f has. other (front (candidate bytes) bytes has.1.0 has.1.1 (has.1.2 ∙ ap (λ (c : Framed). frame_text c ++ has.1.0 ∷ has.1.1) (sym (only f has)))))
        | inl text ↦ behind bytes (candidate bytes) whole text only (drop (length (frame_text (candidate bytes))) bytes) refl
      ]
    ]
  where
    front : (c : Framed) (bytes : List ℕ) (gate : ℕ) (more : List ℕ) → bytes ≡ frame_text c ++ gate ∷ more → take (length (frame_text c)) bytes ≡ frame_text c
    front c bytes gate more e = ap (λ (l : List ℕ). take (length (frame_text c)) l) e ∙ take_at (frame_text c) (gate ∷ more) (length (frame_text c)) refl

    behind : (bytes : List ℕ) (c : Framed) → IsFrame c → take (length (frame_text c)) bytes ≡ frame_text c → ((f : Framed) → HasFrame bytes f → c ≡ f)
        → (rest : List ℕ) → drop (length (frame_text c)) bytes ≡ rest → ((f : Framed) × HasFrame bytes f) ⊎ ((f : Framed) → HasFrame bytes f → ⊥)
    behind bytes c whole text only [] rest =
        inr (λ f has.
        let is = has.1.2 ∙ ap (λ (g : Framed). frame_text g ++ has.1.0 ∷ has.1.1) (sym (only f has)) in
        let no : [] ≡ has.1.0 ∷ has.1.1 = sym rest ∙ ap (λ (l : List ℕ). drop (length (frame_text c)) l) is ∙ drop_at (frame_text c) (has.1.0 ∷ has.1.1) (length (frame_text c)) refl in
        cc)
    behind bytes c whole text only (gate ∷ more) rest =
        inl (c, (whole, (gate, more, sym (take-append-drop (length (frame_text c)) bytes) ∙ ap (λ (l : List ℕ). l ++ drop (length (frame_text c)) bytes) text ∙ ap (λ (l : List ℕ). frame_text c ++ l) rest)))

-- where frames end
record ClosedEnd (bytes : List ℕ) : Type 0 where
  frames : List Framed
  well_formed : AreFrames frames
  gate : ℕ
  closed : gate ≢ open_gate
  more : List ℕ
  text : bytes ≡ frames_text frames ++ gate ∷ more

record BrokenEnd (bytes : List ℕ) : Type 0 where
  frames : List Framed
  well_formed : AreFrames frames
  more : List ℕ
  text : bytes ≡ frames_text frames ++ open_gate ∷ more
  none : (f : Framed) → HasFrame more f → ⊥

-- one frame more in front
more_closed : (gate : ℕ) (bytes : List ℕ) (f : Framed) (next : ℕ) (rest : List ℕ) → gate ≡ open_gate → IsFrame f → bytes ≡ frame_text f ++ next ∷ rest → ClosedEnd (next ∷ rest) → ClosedEnd (gate ∷ bytes)
more_closed gate bytes f next rest is_open h e end = record {
  frames = f ∷ end.frames;
  well_formed = (h, end.well_formed);
  gate = end.gate;
  closed = end.closed;
  more = end.more;
  text = ap (λ (l : List ℕ). gate ∷ l) (e ∙ ap (λ (l : List ℕ). frame_text f ++ l) end.text ∙ sym (append_assoc (frame_text f) (frames_text end.frames) (end.gate ∷ end.more)))
      ∙ ap (λ (n : ℕ). n ∷ ((frame_text f ++ frames_text end.frames) ++ end.gate ∷ end.more)) is_open;
}

more_broken : (gate : ℕ) (bytes : List ℕ) (f : Framed) (next : ℕ) (rest : List ℕ) → gate ≡ open_gate → IsFrame f → bytes ≡ frame_text f ++ next ∷ rest → BrokenEnd (next ∷ rest) → BrokenEnd (gate ∷ bytes)
more_broken gate bytes f next rest is_open h e end = record {
  frames = f ∷ end.frames;
  well_formed = (h, end.well_formed);
  more = end.more;
  none = end.none;
  text = ap (λ (l : List ℕ). gate ∷ l) (e ∙ ap (λ (l : List ℕ). frame_text f ++ l) end.text ∙ sym (append_assoc (frame_text f) (frames_text end.frames) (open_gate ∷ end.more)))
      ∙ ap (λ (n : ℕ). n ∷ ((frame_text f ++ frames_text end.frames) ++ open_gate ∷ end.more)) is_open;
}

scan_shut : (gate : ℕ) (bytes : List ℕ) → (gate ≡ open_gate → ⊥) → ClosedEnd (gate ∷ bytes)
scan_shut gate bytes shut = record { frames = []; well_formed = tt; gate = gate; closed = shut; more = bytes; text = refl }

scan_none : (gate : ℕ) (bytes : List ℕ) → gate ≡ open_gate → ((f : Framed) → HasFrame bytes f → ⊥) → BrokenEnd (gate ∷ bytes)
scan_none gate bytes is_open none = record { frames = []; well_formed = tt; more = bytes; none = none; text = ap (λ (n : ℕ). n ∷ bytes) is_open }

scan : (fuel gate : ℕ) (bytes : List ℕ) → length bytes ≤ fuel → ClosedEnd (gate ∷ bytes) ⊎ BrokenEnd (gate ∷ bytes)
scan zero gate bytes le = elim (cases_eq gate open_gate) [
  | inr shut ↦ inl (scan_shut gate bytes shut)
  | inl is_open ↦ inr (scan_none gate bytes is_open (λ f has. omega (arith, ap length has.1.2, length-append (frame_text f) (has.1.0 ∷ has.1.1))))
]
scan (suc fuel) gate bytes le = elim (cases_eq gate open_gate) [
  | inr shut ↦ inl (scan_shut gate bytes shut)
  | inl is_open ↦ elim (has_or_not bytes) [
    | inr none ↦ inr (scan_none gate bytes is_open none)
    | inl found ↦
        let f = found.0 in
        let e = found.1.1.2 in
        let next = scan fuel found.1.1.0 found.1.1.1 (omega (arith, ap length e, length-append (frame_text f) (found.1.1.0 ∷ found.1.1.1))) in
        elim next [
          | inl end ↦ inl (more_closed gate bytes f found.1.1.0 found.1.1.1 is_open found.1.0 e end)
          | inr end ↦ inr (more_broken gate bytes f found.1.1.0 found.1.1.1 is_open found.1.0 e end)
        ]
  ]
]

pub front_is : (bytes : List ℕ) → HasMagic bytes → take 16 bytes ≡ magic
front_is bytes has = ap (λ (l : List ℕ). take 16 l) has.1 ∙ take_at magic has.0 16 length-magic

of_closed : (bytes : List ℕ) (frames : List Framed) → IsJournalOf bytes frames → (kind : Kind) × IsOfKind bytes kind
of_closed bytes [] j = (Blank, inr j)
of_closed bytes (f ∷ fs) j = (Keeps (f ∷ fs), (j, λ e. cc))

of_magic : (bytes rest : List ℕ) → 17 < length bytes → bytes ≡ magic ++ rest → (kind : Kind) × IsOfKind bytes kind
of_magic bytes [] long e = absurd (omega (arith, ap length e, length-append magic [], length-magic))
of_magic bytes (gate ∷ more) long e = elim (scan (length more) gate more (omega arith)) [
  | inl end ↦ of_closed bytes end.frames (record {
    well_formed = end.well_formed;
    gate = end.gate;
    closed = end.closed;
    rest = end.more;
    text = e ∙ ap (λ (l : List ℕ). magic ++ l) end.text ∙ sym (append_assoc magic (frames_text end.frames) (end.gate ∷ end.more));
  })
  | inr end ↦
      let text : bytes ≡ front_text end.frames ++ open_gate ∷ end.more = e ∙ ap (λ (l : List ℕ). magic ++ l) end.text ∙ sym (append_assoc magic (frames_text end.frames) (open_gate ∷ end.more)) in (
        Damaged (end_of end.frames),
        record {
          not_blank = λ blank. elim blank [
            | inl short ↦ omega arith
            | inr j ↦ not_both [] end.frames j.gate j.rest end.more tt end.well_formed j.closed end.none
                (behind_magic [] (j.gate ∷ j.rest) _ (sym j.text ∙ text ∙ append_assoc magic (frames_text end.frames) (open_gate ∷ end.more)))
          ];
          before = end.frames;
          well_formed = end.well_formed;
          rest = end.more;
          text = text;
          place = refl;
          broken = λ frame next behind h is. end.none frame (h, (next, behind, is));
        },
      )
]

pub some_kind : (bytes : List ℕ) → (kind : Kind) × IsOfKind bytes kind
some_kind bytes = elim (cases_lt 17 (length bytes)) [
  | inr short ↦ (Blank, inl short)
  | inl long ↦ elim (same_or_not (take 16 bytes) magic) [
    | inl is ↦ of_magic bytes (drop 16 bytes) long (sym (take-append-drop 16 bytes) ∙ ap (λ (l : List ℕ). l ++ drop 16 bytes) is)
    | inr other ↦ (
      Foreign,
      record {
        not_blank = λ blank. elim blank [ inl short ↦ omega arith | inr j ↦ other (front_is bytes (journal_magic bytes [] j)) ];
        no_magic = λ has. other (front_is bytes has);
      },
    )
  ]
]
