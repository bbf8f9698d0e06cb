-- What the bytes that were read first tell of the text that they begin.
use Rattle.std.proofs.Common.{◌≡◌, ◌≢◌, ◌⊎◌, inl, inr, ℕ, suc, ◌+◌, ◌<◌, ◌≤◌, Bool, true, IsTrue, List, [], ◌∷◌, ◌++◌, length, take, drop, map, Option, Some, refl, sym, ap, ◌∙◌, subst, arith, append_assoc, append-nil, length-append}
use Rattle.std.specs.Io.KnownBytes.{prepend_known}
use Rattle.std.proofs.lemmas.Bool.{cases_eq}
use Rattle.std.proofs.lemmas.List.{get_or_append_left, length-take-le}
use Rattle.std.proofs.lemmas.List.Elements.{All-nil, All-cons}
use Rattle.afd_records.specs.declared.header.Head.{Head}
use Rattle.afd_records.proofs.HeadLines.{head_size}
use Rattle.rep_io.specs.Cutter.{HasNoLineFeed}
use Rattle.rep_io.specs.Lines.{Run, line_of, lines_of, line_feed, longest_line, longest_text}
use Rattle.rep_io.specs.Steps.{EndsAt}
use Rattle.rep_io.proofs.CutterLemmas.{known_rest, nothing_left}
use Rattle.rep_io.proofs.LineLemmas.{runs_of-ended, runs_of-whole, length-line_of}
use Rattle.afd_read.specs.Beginning.{IsHeadLine, BeginWith, IsHeadOf, IsNoHead, BeginWithout, SaysOf}
use Rattle.afd_read.specs.Filling.{first_of, TellsFirst, FillsFirst, FillsRest, IsPastLimit, IsOfOutside, IsNoRefusal, IsRefusalOf}
use Rattle.rep_io.specs.Transfer.{Takes, ReadsWhole}
use Rattle.rep_io.proofs.TransferLemmas.{taken-more}
use Rattle.afd_read.specs.Index.{bounds_of, IsKept}
use Rattle.afd_read.proofs.FillingLemmas.{taken_before}
use Rattle.afd_read.specs.declared.fault.AfdFault.{AfdFault}
use Rattle.afd_read.specs.declared.fault.AfdFault.TheVariants.{NotAnAfd, SourceFault, InputLimit, OutOfMemory}
use Rattle.afd_read.proofs.LineEndLemmas.{split_at}

-- a line feed is in the bytes, or none is
feed_or_none : (bytes : List ℕ) → HasNoLineFeed bytes ⊎ ((at : ℕ) × EndsAt bytes at)
feed_or_none [] = let P : ℕ → Type 0 = λ b. b ≢ line_feed in inl (All-nil P)
feed_or_none (byte ∷ bytes) =
    let P : ℕ → Type 0 = λ b. b ≢ line_feed in
    elim (cases_eq byte line_feed) [
      | inl is ↦ inr (0, record { within = omega arith; before = All-nil P; feed = is })
      | inr other ↦ elim (feed_or_none bytes) [
        | inl none ↦ inl (All-cons P byte bytes other none)
        | inr found ↦ inr (
          suc found.0,
          record {
            within = omega (arith, found.1.within);
            before = All-cons P byte (take found.0 bytes) other found.1.before;
            feed = found.1.feed;
          },
        )
      ]
    ]

-- bytes without a line feed are the first line, or there are none
first_whole : (bytes : List ℕ) → HasNoLineFeed bytes → first_of (lines_of bytes) ≡ bytes
first_whole [] none = refl
first_whole (byte ∷ bytes) none =
    ap (λ (runs : List Run). first_of (map line_of runs)) (runs_of-whole (byte ∷ bytes) (omega arith) none)

-- the first line of a text, before its line feed
ended_first : (front later : List ℕ) → HasNoLineFeed front
    → first_of (lines_of (front ++ line_feed ∷ later)) ≡ line_of (record { bytes = front; ended = true })
ended_first front later clean =
    ap (λ (runs : List Run). first_of (map line_of runs)) (runs_of-ended front later clean)

-- where a line ends in the bytes, it is the first of each text that they begin
same_first : (bytes rest : List ℕ) (at : ℕ) → EndsAt bytes at
    → first_of (lines_of (bytes ++ rest)) ≡ first_of (lines_of bytes)
same_first bytes rest at ends =
    let split = split_at bytes at ends in
    let front = take at bytes in
    let later = drop (at + 1) bytes in
    let whole : bytes ++ rest ≡ front ++ line_feed ∷ (later ++ rest) =
    ap (λ (text : List ℕ). text ++ rest) split.1 ∙ append_assoc front (line_feed ∷ later) rest in
    ap (λ (text : List ℕ). first_of (lines_of text)) whole ∙ ended_first front (later ++ rest) split.0
    ∙ sym (ap (λ (text : List ℕ). first_of (lines_of text)) split.1 ∙ ended_first front later split.0)

-- where none does, the first line of such a text has them all, but perhaps a CR at their end
longer_first : (bytes rest : List ℕ) → HasNoLineFeed bytes → 0 < length bytes
    → length bytes ≤ length (first_of (lines_of (bytes ++ rest))) + 1
longer_first bytes rest none some =
    let whole = bytes ++ rest in
    let size : length whole ≡ length bytes + length rest = length-append bytes rest in
    elim (feed_or_none whole) [
      | inl no_feed ↦ omega (arith, size, ap length (first_whole whole no_feed))
      | inr found ↦
          let at = found.0 in
          let ends = found.1 in
          let split = split_at whole at ends in
          let below : at < length bytes → ⊥ = λ lt. none at 0 lt (sym (get_or_append_left bytes rest 0 at lt) ∙ ends.feed) in
          let first : first_of (lines_of whole) ≡ line_of (record { bytes = take at whole; ended = true }) =
          ap (λ (text : List ℕ). first_of (lines_of text)) split.1 ∙ ended_first (take at whole) (drop (at + 1) whole) split.0 in
          let within = ends.within in
          let taken : length (take at whole) ≡ at = length-take-le at whole (omega arith) in
          omega (arith, ap length first, length-line_of (record { bytes = take at whole; ended = true }))
    ]

no_head : (lines : List (List ℕ)) (field : ℕ) → IsNoHead (first_of lines) field → BeginWithout lines field
no_head [] field is = is.unknown (λ laid_out. omega (arith, laid_out.size))
no_head (line ∷ lines) field is = is

a_head : (lines : List (List ℕ)) (head : Head) → IsHeadLine head (first_of lines) → BeginWith head lines
a_head [] head is = absurd (omega (arith, head_size head is.0 [] is.1))
a_head (line ∷ lines) head is = is

-- a line that is too long is no head
long_line : (line other : List ℕ) (field : ℕ) → longest_line < length line → longest_line < length other
    → IsNoHead line field → IsNoHead other field
long_line line other field long other_long is = record {
  unknown = λ _. is.unknown (λ laid_out. omega (arith, laid_out.size));
  first = λ laid_out. absurd (omega (arith, laid_out.size));
}

-- what is no head for the bytes that were read is none for the text
begins_without : (bytes rest : List ℕ) (ended : Bool) (field : ℕ) → TellsFirst ended bytes
    → (IsTrue ended → rest ≡ []) → IsNoHead (first_of (lines_of bytes)) field → BeginWithout (lines_of (bytes ++ rest)) field
begins_without bytes rest ended field tells none is =
    no_head (lines_of (bytes ++ rest)) field (elim tells [
      | inr over ↦ subst (λ (text : List ℕ). IsNoHead (first_of (lines_of text)) field) (sym (ap (λ (more : List ℕ). bytes ++ more) (none over) ∙ append-nil bytes)) is
      | inl shows ↦ elim (feed_or_none bytes) [
        | inr found ↦ subst (λ (line : List ℕ). IsNoHead line field) (sym (same_first bytes rest found.0 found.1)) is
        | inl no_feed ↦ elim shows [
          | inl feed ↦ absurd (feed no_feed)
          | inr long ↦ long_line (first_of (lines_of bytes)) (first_of (lines_of (bytes ++ rest))) field
              (omega (arith, ap length (first_whole bytes no_feed)))
              (omega (arith, longer_first bytes rest no_feed (omega arith))) is
        ]
      ]
    ])

-- and what is a head for them is that of the text
begins_with : (bytes rest : List ℕ) (ended : Bool) (head : Head) → TellsFirst ended bytes
    → (IsTrue ended → rest ≡ []) → IsHeadLine head (first_of (lines_of bytes)) → IsHeadOf (bytes ++ rest) head
begins_with bytes rest ended head tells none is =
    a_head (lines_of (bytes ++ rest)) head (elim tells [
      | inr over ↦ subst (λ (text : List ℕ). IsHeadLine head (first_of (lines_of text))) (sym (ap (λ (more : List ℕ). bytes ++ more) (none over) ∙ append-nil bytes)) is
      | inl shows ↦ elim (feed_or_none bytes) [
        | inr found ↦ subst (IsHeadLine head) (sym (same_first bytes rest found.0 found.1)) is
        | inl no_feed ↦ elim shows [
          | inl feed ↦ absurd (feed no_feed)
          | inr long ↦ absurd (omega (arith, head_size head is.0 (first_of (lines_of bytes)) is.1, ap length (first_whole bytes no_feed)))
        ]
      ]
    ])

-- ---- what each fault says of the text that the source had left

module _ (left left' : Option (List ℕ)) (bytes : List ℕ) (ended : Bool) (fills : FillsFirst left left' bytes ended) where
  -- what was left behind those bytes
  rest_of : (text : List ℕ) → left ≡ Some text
      → (rest : List ℕ) × (left' ≡ Some rest) × (text ≡ bytes ++ rest) × (IsTrue ended → rest ≡ [])
  rest_of text told =
      let known = known_rest bytes text left' (sym fills.taken ∙ told) in
      (known.0, known.1, known.2, λ yes. nothing_left known.0 left' known.1 (fills.at_end yes))

  pub refusal_says : (fault : AfdFault) → IsRefusalOf (first_of (lines_of bytes)) fault → (text : List ℕ) → left ≡ Some text
      → SaysOf text fault
  refusal_says (NotAnAfd line field) is text told =
      let rest = rest_of text told in
      subst (λ (whole : List ℕ). BeginWithout (lines_of whole) field) (sym rest.2)
      (begins_without bytes rest.0 ended field fills.tells rest.3 is.1)
  refusal_says SourceFault is text told = absurd is
  refusal_says InputLimit is text told = absurd is
  refusal_says OutOfMemory is text told = absurd is

  -- the head of those bytes is the text's
  pub head_told : (head : Head) → IsHeadLine head (first_of (lines_of bytes)) → (text : List ℕ) → left ≡ Some text
      → IsHeadOf text head
  head_told head begins text told =
      let rest = rest_of text told in
      subst (λ (whole : List ℕ). IsHeadOf whole head) (sym rest.2) (begins_with bytes rest.0 ended head fills.tells rest.3 begins)

  -- a fault behind the head
  pub later_says : (left'' : Option (List ℕ)) (head : Head) (fault : AfdFault) → IsHeadLine head (first_of (lines_of bytes))
      → IsNoRefusal fault → (fault ≡ InputLimit → IsPastLimit left' left'' bytes) → (text : List ℕ) → left ≡ Some text
      → SaysOf text fault
  later_says left'' head (NotAnAfd line field) begins is past text told = absurd is
  later_says left'' head SourceFault begins is past text told = tt
  later_says left'' head OutOfMemory begins is past text told = tt
  later_says left'' head InputLimit begins is past text told =
      let rest = rest_of text told in
      let more = past refl in
      let known = known_rest more.0 rest.0 left'' (sym more.1 ∙ rest.1) in (
        omega (arith, ap length rest.2, ap length known.2, length-append bytes rest.0, length-append more.0 known.0, length-append bytes more.0, more.2),
        (head, head_told head begins text told),
      )

-- a fault of the outside says nothing
pub outside_says : (fault : AfdFault) → IsOfOutside fault → (text : List ℕ) → SaysOf text fault
outside_says (NotAnAfd line field) is text = absurd is
outside_says SourceFault is text = tt
outside_says InputLimit is text = absurd is
outside_says OutOfMemory is text = tt

-- the text that was read to its end, with the head that was read first
pub kept_from : (left left' left'' : Option (List ℕ)) (first all bounds : List ℕ) (ended : Bool) (head : Head)
    → FillsFirst left left' first ended → FillsRest left' left'' first all ended
    → IsHeadLine head (first_of (lines_of first)) → bounds ≡ bounds_of all → IsKept all bounds head
kept_from left left' left'' first all bounds ended head fills rest begins indexed = record {
  in_room = rest.in_room;
  indexed = indexed;
  begins = subst (λ (text : List ℕ). IsHeadOf text head) (sym rest.appended)
      (begins_with first rest.bytes ended head fills.tells rest.none begins);
}

-- what was taken of the source by then
pub taken_whole : (left left' left'' : Option (List ℕ)) (first : List ℕ) (ended : Bool) (len : ℕ)
    → FillsFirst left left' first ended → len ≡ length first → (n : ℕ) × (n + len ≤ longest_text + 1) × Takes left' left'' n
    → (n : ℕ) × (n ≤ longest_text + 1) × Takes left left'' n
taken_whole left left' left'' first ended len fills size last =
    let all = taken_before left left' left'' 0 len first fills.taken (omega (arith, size)) last in
    (all.0, omega (arith, all.1), all.2)

pub taken_limit : (left left' left'' : Option (List ℕ)) (first : List ℕ) (ended : Bool) → FillsFirst left left' first ended
    → IsPastLimit left' left'' first → Takes left left'' (longest_text + 1)
taken_limit left left' left'' first ended fills past =
    (first ++ past.0, past.2, taken-more left left' left'' first past.0 fills.taken past.1)

pub reads_whole : (left left' left'' : Option (List ℕ)) (first all : List ℕ) (ended : Bool) → FillsFirst left left' first ended
    → FillsRest left' left'' first all ended → ReadsWhole left left'' all
reads_whole left left' left'' first all ended fills rest = record {
  all = taken-more left left' left'' first rest.bytes fills.taken rest.taken
      ∙ ap (λ (bytes : List ℕ). prepend_known bytes left'') (sym rest.appended);
  at_end = rest.at_end;
  in_room = rest.in_room;
}
