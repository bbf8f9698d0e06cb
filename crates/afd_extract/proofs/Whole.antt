-- The whole AFD, from its head to its last line.
use Rattle.std.proofs.Common.{◌≡◌, ◌≢◌, ℕ, ◌+◌, ◌<◌, ◌≤◌, List, [], ◌∷◌, ◌++◌, length, take, Option, Result, Ok, Err, IsErr, refl, sym, ap, subst, ◌∙◌, append-nil, arith, length-append}
use Rattle.std.specs.List.{flat_map}
use Rattle.std.specs.Io.KnownBytes.{append_known}
use Rattle.std.proofs.lemmas.Grind.{flat_map-append}
use Rattle.afd_records.specs.Record.{last_nsr}
use Rattle.afd_records.specs.File.{ended, head_text, signature_text, trailer_text}
use Rattle.afd_records.specs.declared.header.Head.{Head}
use Rattle.rep_journal.specs.Format.{Framed}
use Rattle.afd_extract.specs.Period.{Range}
use Rattle.afd_extract.specs.Extract.{AreLinesIn, WritesExtract, counts_of_lines, extract_text, lines_in}
use Rattle.afd_extract.specs.Steps.{AreLinesBetween, ArePlacesOf, PutsFrames, PutsFront, PutsLines, PutsOn}
use Rattle.afd_extract.specs.declared.error.WriteFail.{WriteFail}
use Rattle.afd_extract.specs.declared.tally.Tally.{Tally}
use Rattle.afd_extract.proofs.Frames.{length-so_far}
use Rattle.afd_extract.proofs.Fronts.{PutsFront-first, PutsFront-more, PutsOn-more, PutsWithin-first, last-failed, last-written}

-- what stands behind the lines of the records
abbrev pub end_text : List ℕ → List ℕ
end_text counts = ended (trailer_text counts) ++ ended signature_text

some_end : (counts : List ℕ) → end_text counts ≢ []
some_end counts none =
    let size : length (end_text counts) ≡ 0 = ap length none in
    omega (arith, size, length-append (ended (trailer_text counts)) (ended signature_text), length-append signature_text (13 ∷ 10 ∷ []))

-- head, records, end
in_parts : (head : Head) (lines : List (List ℕ))
    → extract_text head lines ≡ ended (head_text head) ++ (flat_map ended lines ++ end_text (counts_of_lines lines))
in_parts head lines =
    let trailer = trailer_text (counts_of_lines lines) in
    ap (λ xs. ended (head_text head) ++ xs)
    (flat_map-append ended lines (trailer ∷ signature_text ∷ [])
    ∙ ap (λ xs. flat_map ended lines ++ (ended trailer ++ xs)) (append-nil (ended signature_text)))

AreLinesIn-between : (frames : List Framed) (range : Range) (begin end : ℕ) (Told : Type 0) (lines : List (List ℕ)) → ArePlacesOf frames range begin end
    → AreLinesBetween frames begin end Told lines → AreLinesIn frames range Told lines
AreLinesIn-between frames range begin end Told lines places between =
    record { as_many = between.as_many ∙ ap length places.same; told = λ told. between.told told ∙ places.same }

-- there are few lines
pub few_lines : (frames : List Framed) (begin end : ℕ) (Told : Type 0) (old new : Option (List ℕ)) (held kept : List ℕ) (tally : Tally) → end ≤ length frames
    → end ≤ last_nsr → (put : PutsFrames frames begin end Told old new held kept (Ok tally)) → length put.lines ≤ last_nsr
few_lines frames begin end Told old new held kept tally within few put =
    omega (arith, length-so_far frames begin end Told put.lines within put.between)

module _ (head : Head) (frames : List Framed) (range : Range) (Told : Type 0) (old : Option (List ℕ)) (held : List ℕ) where
  -- the head couldn't be put
  pub no_head : (new : Option (List ℕ)) (kept : List ℕ) (why : WriteFail) → PutsFront old new (held ++ ended (head_text head))
      → PutsLines head frames range Told old new held kept (Err why)
  no_head new kept why part =
      let lines = lines_in frames range in
      record {
        lines = lines;
        made_of = record { as_many = refl; told = λ told. refl };
        put = subst (λ text. PutsFront old new (held ++ text)) (sym (in_parts head lines))
            (PutsFront-first old new held (ended (head_text head)) (flat_map ended lines ++ end_text (counts_of_lines lines)) part);
      }

  module _ (begin end : ℕ) (places : ArePlacesOf frames range begin end) (mid : Option (List ℕ)) (kept : List ℕ)
      (headed : PutsOn old mid held kept (ended (head_text head))) where
    -- the records couldn't be put
    pub no_records : (new : Option (List ℕ)) (later last : List ℕ) (why : WriteFail) → PutsFrames frames begin end Told mid new kept later (Err why)
        → PutsLines head frames range Told old new held last (Err why)
    no_records new later last why part =
        let lines = part.lines in
        let rest = end_text (counts_of_lines lines) in
        record {
          lines = lines;
          made_of = AreLinesIn-between frames range begin end Told lines places part.between;
          put = subst (λ text. PutsFront old new (held ++ text)) (sym (in_parts head lines))
              (PutsFront-more old mid new held kept (ended (head_text head)) (flat_map ended lines ++ rest) headed
              (PutsWithin-first mid new kept (flat_map ended lines) rest (some_end (counts_of_lines lines)) part.put));
        }

    module _ (next : Option (List ℕ)) (later : List ℕ) (tally : Tally) (counts : List ℕ) (counts_are : counts ≡ tally.counts)
        (records : PutsFrames frames begin end Told mid next kept later (Ok tally)) where
      -- the end couldn't be put
      pub no_end : (new : Option (List ℕ)) (last : List ℕ) (why : WriteFail) → PutsFront next new (later ++ end_text counts)
          → PutsLines head frames range Told old new held last (Err why)
      no_end new last why part =
          let lines = records.lines in
          let text = flat_map ended lines in
          let rest = end_text (counts_of_lines lines) in
          let put = subst (λ cs. PutsFront next new (later ++ end_text cs)) (counts_are ∙ records.put.1.counts) part in
          record {
            lines = lines;
            made_of = AreLinesIn-between frames range begin end Told lines places records.between;
            put = subst (λ text. PutsFront old new (held ++ text)) (sym (in_parts head lines))
                (PutsFront-more old mid new held kept (ended (head_text head)) (text ++ rest) headed
                (PutsFront-more mid next new kept later text rest records.put.0 put));
          }

      -- all was put
      pub all_lines : (new : Option (List ℕ)) (last : List ℕ) (bytes : ℕ) → length (head_text head) + 2 ≡ 304
          → length (trailer_text counts) + 2 + length signature_text + 2 ≡ 168 → bytes ≡ 304 + tally.bytes + 168
          → PutsOn next new later last (end_text counts) → PutsLines head frames range Told old new held last (Ok bytes)
      all_lines new last bytes head_size end_size bytes_are part =
          let lines = records.lines in
          let text = flat_map ended lines in
          let rest = end_text (counts_of_lines lines) in
          let same : counts ≡ counts_of_lines lines = counts_are ∙ records.put.1.counts in
          let put = subst (λ cs. PutsOn next new later last (end_text cs)) same part in
          let end_size' : length (trailer_text (counts_of_lines lines)) + 2 + length signature_text + 2 ≡ 168 =
          subst (λ cs. length (trailer_text cs) + 2 + length signature_text + 2 ≡ 168) same end_size in
          record {
            lines = lines;
            made_of = AreLinesIn-between frames range begin end Told lines places records.between;
            put = (
              subst (λ text. PutsOn old new held last text) (sym (in_parts head lines))
                  (PutsOn-more old mid new held kept last (ended (head_text head)) (text ++ rest) headed
                  (PutsOn-more mid next new kept later last text rest records.put.0 put)),
              omega (
                arith,
                bytes_are,
                records.put.1.bytes,
                head_size,
                end_size',
                ap length (in_parts head lines),
                length-append (ended (head_text head)) (text ++ rest),
                length-append (head_text head) (13 ∷ 10 ∷ []),
                length-append text rest,
                length-append (ended (trailer_text (counts_of_lines lines))) (ended signature_text),
                length-append (trailer_text (counts_of_lines lines)) (13 ∷ 10 ∷ []),
                length-append signature_text (13 ∷ 10 ∷ []),
              ),
            );
          }

-- whatever failed
pub PutsLines-failed : (head : Head) (frames : List Framed) (range : Range) (Told : Type 0) (old new : Option (List ℕ)) (held kept : List ℕ) (why : WriteFail)
    (result : Result ℕ WriteFail) → IsErr result → PutsLines head frames range Told old new held kept (Err why)
    → PutsLines head frames range Told old new held kept result
PutsLines-failed head frames range Told old new held kept why (Err e) failed lines =
    record { lines = lines.lines; made_of = lines.made_of; put = lines.put }
PutsLines-failed head frames range Told old new held kept why (Ok v) failed lines = absurd cc

pub WritesExtract-result : (head : Head) (frames : List Framed) (range : Range) (Told : Type 0) (old new : Option (List ℕ)) (why : WriteFail)
    (result : Result ℕ WriteFail) → IsErr result → WritesExtract head frames range Told old new (Err why)
    → WritesExtract head frames range Told old new result
WritesExtract-result head frames range Told old new why (Err e) failed writes =
    record { lines = writes.lines; made_of = writes.made_of; put = writes.put; appended = writes.appended; is_put = writes.is_put }
WritesExtract-result head frames range Told old new why (Ok v) failed writes = absurd cc

-- nothing was held at first
pub WritesExtract-failed : (head : Head) (frames : List Framed) (range : Range) (Told : Type 0) (old new : Option (List ℕ)) (none kept : List ℕ) (why : WriteFail)
    → none ≡ [] → PutsLines head frames range Told old new none kept (Err why) → WritesExtract head frames range Told old new (Err why)
WritesExtract-failed head frames range Told old new none kept why empty lines =
    let part = subst (λ h. PutsFront old new (h ++ extract_text head lines.lines)) empty lines.put in
    record { lines = lines.lines; made_of = lines.made_of; put = part.put; appended = part.appended; is_put = part.front }

-- the last piece couldn't be put
pub WritesExtract-cut : (head : Head) (frames : List Framed) (range : Range) (Told : Type 0) (old mid new : Option (List ℕ)) (none kept piece : List ℕ) (count : ℕ)
    (why : WriteFail) → none ≡ [] → piece ≡ kept → PutsLines head frames range Told old mid none kept (Ok count)
    → (n : ℕ) × (n < length piece) × (new ≡ append_known mid (take n piece)) → WritesExtract head frames range Told old new (Err why)
WritesExtract-cut head frames range Told old mid new none kept piece count why empty same lines cut =
    let part = last-failed old mid new none kept piece (extract_text head lines.lines) empty same lines.put.0 cut in
    record { lines = lines.lines; made_of = lines.made_of; put = part.put; appended = part.appended; is_put = part.front }

-- all was put
pub WritesExtract-all : (head : Head) (frames : List Framed) (range : Range) (Told : Type 0) (old mid new : Option (List ℕ)) (none kept piece : List ℕ) (count : ℕ)
    → none ≡ [] → piece ≡ kept → PutsLines head frames range Told old mid none kept (Ok count) → new ≡ append_known mid piece
    → WritesExtract head frames range Told old new (Ok count)
WritesExtract-all head frames range Told old mid new none kept piece count empty same lines all = record {
  lines = lines.lines;
  made_of = lines.made_of;
  put = extract_text head lines.lines;
  appended = last-written old mid new none kept piece (extract_text head lines.lines) empty same lines.put.0 all;
  is_put = (refl, lines.put.1);
}
