-- how the last lines on the output are said one behind the other
use Rattle.std.proofs.Common.{◌≡◌, ℕ, ◌+◌, ◌<◌, ◌≤◌, inl, inr, List, [], length, take, drop, Option, refl, sym, ap, ◌∙◌, subst, append-nil, take-append-drop, length-append, arith}
use Rattle.std.proofs.lemmas.List.{nil_from_length}
use Rattle.std.specs.Io.KnownBytes.{append_known}
use Rattle.rep_io.specs.Causes.{Rose}
use Rattle.rep_report.specs.Saying.{IsStrictFront, YieldsToOutput, PutsOrFails, PutsEnding, SaysLine, SaysCounts, Tells, Concludes, closing_text, status_of}
use Rattle.rep_report.specs.declared.ending.Ending.{Ending}
use Rattle.rep_report.specs.declared.ending.Ending.TheVariants.{AllAnswered, SomeRefused, SourceFault, SinkFault, DeviceFault, ClockFault, OutOfMemory, InputLimit}
use Rattle.rep_report.proofs.KnownBytes.{append_known-append, drop_some}

-- a count that rose has risen still, wherever it began lower and ended higher
pub rose-wider : (a b c d : ℕ) → a ≤ b → c ≤ d → Rose b c → Rose a d
rose-wider a b c d low high rose = omega arith

-- a line that was appended whole
pub says_whole : (line piece : List ℕ) (old new : Option (List ℕ)) (Failed : Type 0) → piece ≡ line → new ≡ append_known old piece → SaysLine line old new Failed
says_whole line piece old new Failed is said = record {
  put = piece;
  said = said;
  front = ([], sym is ∙ sym (append-nil piece));
  whole = λ _. is;
}

-- a front of a line, where the output failed
pub says_front : (line piece : List ℕ) (n : ℕ) (old new : Option (List ℕ)) (Failed : Type 0) → piece ≡ line → new ≡ append_known old (take n piece) → Failed
    → SaysLine line old new Failed
says_front line piece n old new Failed is said failed = record {
  put = take n piece;
  said = said;
  front = (drop n piece, sym is ∙ sym (take-append-drop n piece));
  whole = λ none. absurd (none failed);
}

-- a front of a line that lacks a byte at least
pub cut_line : (line piece : List ℕ) (n : ℕ) → piece ≡ line → n < length piece → IsStrictFront (take n piece) line
cut_line line piece n is less = (drop n piece, drop_some n piece less, sym is ∙ sym (take-append-drop n piece))

-- a text that was put whole, and one that was cut
pub puts_whole : (text piece : List ℕ) (old new : Option (List ℕ)) (before now : ℕ) → piece ≡ text → new ≡ append_known old piece → now ≡ before
    → PutsOrFails text old new before now
puts_whole text piece old new before now is said kept = inl (said ∙ ap (append_known old) is, kept)

pub puts_cut : (text piece : List ℕ) (n : ℕ) (old new : Option (List ℕ)) (before now : ℕ) → piece ≡ text → n < length piece
    → new ≡ append_known old (take n piece) → Rose before now → PutsOrFails text old new before now
puts_cut text piece n old new before now is less said rose = inr (take n piece, cut_line text piece n is less, said, rose)

-- nothing has no front that lacks a byte
puts_nothing : (text : List ℕ) (old new : Option (List ℕ)) (before now : ℕ) → text ≡ [] → PutsOrFails text old new before now → now ≡ before
puts_nothing text old new before now none (inl whole) = whole.1
puts_nothing text old new before now none (inr cut) =
    let rest = cut.1.0 in
    let short : length cut.0 + length rest ≡ 0 = sym (length-append cut.0 rest) ∙ ap length (sym cut.1.2 ∙ none) in
    absurd (cut.1.1 (nil_from_length rest (omega arith)))

-- the endings that say nothing behind the counts
says_no_more : (ending : Ending) → status_of ending ≤ 1 → YieldsToOutput ending × (closing_text ending ≡ [])
says_no_more AllAnswered low = (tt, refl)
says_no_more SomeRefused low = (tt, refl)
says_no_more SourceFault low = absurd (omega arith)
says_no_more SinkFault low = absurd (omega arith)
says_no_more DeviceFault low = absurd (omega arith)
says_no_more ClockFault low = absurd (omega arith)
says_no_more OutOfMemory low = absurd (omega arith)
says_no_more InputLimit low = absurd (omega arith)

-- the counts' line was put, and then the line of the ending
pub puts_ending : (counts line : List ℕ) (old between new : Option (List ℕ)) (before middle now : ℕ) (result : Ending) → line ≡ closing_text result
    → PutsOrFails counts old between before middle → PutsOrFails line between new middle now
    → (YieldsToOutput result → (between ≡ append_known old counts) × (middle ≡ before)) → PutsEnding counts old new before now result
puts_ending counts line old between new before middle now result is first second counted = record {
  between = between;
  middle = middle;
  counts_put = first;
  closing_put = subst (λ (text : List ℕ). PutsOrFails text between new middle now) is second;
  counted = counted;
}

-- the output didn't fail where all was done
pub answered-kept : (counts : List ℕ) (old new : Option (List ℕ)) (before now : ℕ) (result : Ending) → PutsEnding counts old new before now result
    → status_of result ≤ 1 → now ≡ before
answered-kept counts old new before now result puts low =
    let more = says_no_more result low in
    puts_nothing (closing_text result) puts.between new puts.middle now more.1 puts.closing_put ∙ (puts.counted more.0).1

-- the counts' line was appended whole
pub counts_whole : (ending : Ending) (counts piece : List ℕ) (old new : Option (List ℕ)) (Failed : Type 0) → piece ≡ counts
    → new ≡ append_known old piece → SaysCounts ending counts old new Failed ending
unfolding says_whole
counts_whole ending counts piece old new Failed is said = record {
  line = says_whole counts piece old new Failed is said;
  counted = λ _. is;
  told = inl refl;
}

-- the counts' line was cut, and the ending yields to that
pub counts_cut : (ending : Ending) (counts piece : List ℕ) (n : ℕ) (old new : Option (List ℕ)) (Failed : Type 0)
    → piece ≡ counts → n < length piece → new ≡ append_known old (take n piece) → Failed → YieldsToOutput ending
    → SaysCounts ending counts old new Failed SinkFault
unfolding says_front
counts_cut ending counts piece n old new Failed is less said failed yields = record {
  line = says_front counts piece n old new Failed is said failed;
  counted = λ never. absurd never;
  told = inr (refl, yields, failed, cut_line counts piece n is less);
}

-- the counts' line was cut, and the ending stays
pub counts_kept : (ending : Ending) (counts piece : List ℕ) (n : ℕ) (old new : Option (List ℕ)) (Failed : Type 0)
    → piece ≡ counts → new ≡ append_known old (take n piece) → Failed → (YieldsToOutput ending → ⊥)
    → SaysCounts ending counts old new Failed ending
counts_kept ending counts piece n old new Failed is said failed stays = record {
  line = says_front counts piece n old new Failed is said failed;
  counted = λ yields. absurd (stays yields);
  told = inl refl;
}

-- the counts' line, then what the ending says
pub concludes : (ending : Ending) (counts : List ℕ) (old mid new : Option (List ℕ)) (before middle now : ℕ) (result : Ending) → before ≤ middle → middle ≤ now
    → SaysCounts ending counts old mid (Rose before middle) result → SaysLine (closing_text result) mid new (Rose middle now)
    → Concludes ending counts old new before now result
concludes ending counts old mid new before middle now result since until c l = record {
  put = c.line.put;
  closing = l.put;
  said = l.said ∙ ap (λ (o : Option (List ℕ)). append_known o l.put) c.line.said ∙ append_known-append old c.line.put l.put;
  middle = middle;
  since = since;
  until = until;
  put_front = c.line.front;
  closing_front = l.front;
  counted = c.counted;
  put_whole = c.line.whole;
  closing_whole = l.whole;
  told = c.told;
}

-- where the output didn't fail in the whole call, both lines stand wholly
pub concludes-whole : (ending : Ending) (counts : List ℕ) (old new : Option (List ℕ)) (before now : ℕ) (result : Ending)
    → (c : Concludes ending counts old new before now result) → (Rose before now → ⊥) → (c.put ≡ counts) × (c.closing ≡ closing_text result)
concludes-whole ending counts old new before now result c none = (
  c.put_whole (λ rose. none (rose-wider before before c.middle now (omega arith) c.until rose)),
  c.closing_whole (λ rose. none (rose-wider before c.middle now now c.since (omega arith) rose)),
)

-- an ending other than a fault of the output was there before the counts' line
pub concludes-kept : (ending : Ending) (counts : List ℕ) (old new : Option (List ℕ)) (before now : ℕ) (result : Ending)
    → Concludes ending counts old new before now result → (result ≡ SinkFault → ⊥) → result ≡ ending
concludes-kept ending counts old new before now result c other = kept c.told
  where
    kept : Tells ending c.put counts (Rose before c.middle) result → result ≡ ending
    kept (inl same) = same
    kept (inr t) = absurd (other t.0)
