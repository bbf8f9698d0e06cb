-- How far a text was read, line by line: this project's own.
use Rattle.std.specs.Prelude.{◌≡◌, ℕ, suc, ◌<◌, ◌≤◌, ◌⊎◌, ◌==◌, List, [], ◌∷◌, ◌++◌, length, take, if◌then◌else◌, Option}
use Rattle.rep_io.specs.Lines.{lines_of, line_feed, longest_line, longest_text}
use Rattle.rep_io.specs.Cutter.{Cutter, IsCutter, line_start, IsUnread}
use Rattle.rep_io.specs.declared.next.Next.{Next}
use Rattle.rep_io.specs.declared.next.Next.TheVariants.{Line, TooLong, End, SourceFault, InputLimit}

-- how many line feeds there are
abbrev pub feeds_in : List ℕ → ℕ
feeds_in [] = 0
feeds_in (byte ∷ bytes) = if byte == line_feed then suc (feeds_in bytes) else feeds_in bytes

-- how many lines of the text end among the bytes that a text may have
unfoldable pub ended_lines : List ℕ → ℕ
ended_lines text = feeds_in (take longest_text text)

-- so many lines are read within those bytes
abbrev pub IsWithin : ℕ → List ℕ → Type 0
IsWithin lines text = (length text ≤ longest_text) ⊎ (lines ≤ ended_lines text)

-- These lines of the text were read, and the rest is unread.
pub record HasRead {S : Type 0} (left : S → Option (List ℕ)) (c : Cutter S) (text : List ℕ) (before : List (List ℕ)) : Type 0 where
  pub cutter : IsCutter left c
  pub front : List ℕ
  pub rest : List ℕ
  pub whole : text ≡ front ++ rest
  pub start : length front ≡ line_start c
  pub unread : IsUnread left c rest
  pub lines : lines_of text ≡ before ++ lines_of rest
  pub feeds : (feeds_in front ≡ length before) ⊎ ((rest ≡ []) × (length text ≤ longest_text))

-- what an answer of the cutter says of the lines behind those
abbrev pub Comes : {S : Type 0} → (S → Option (List ℕ)) → Cutter S → Next → List ℕ → List (List ℕ) → Type 0
Comes left c (Line bytes crlf) text before =
    (length bytes ≤ longest_line) × IsWithin (suc (length before)) text × HasRead left c text (before ++ bytes ∷ [])
Comes left c TooLong text before =
    (line : List ℕ) × (longest_line < length line) × IsWithin (suc (length before)) text
    × HasRead left c text (before ++ line ∷ [])
Comes left c End text before = (lines_of text ≡ before) × (length text ≤ longest_text)
Comes left c SourceFault text before = HasRead left c text before
Comes left c InputLimit text before =
    (longest_text < length text) × (ended_lines text ≡ length before) × HasRead left c text before
