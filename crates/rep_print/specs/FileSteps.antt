-- The steps by which an AFD is made of a journal: this project's own.
use Rattle.std.specs.Prelude.{◌≡◌, ℕ, List, ◌++◌, length, MatchResult, Option, Result}
use Rattle.std.specs.Io.KnownBytes.{append_known}
use Rattle.rep_wire.specs.Reply.{extract_text}
use Rattle.rep_wire.specs.declared.request.Entry.{Entry}
use Rattle.rep_core.specs.History.{days_of}
use Rattle.rep_report.specs.Saying.{IsStrictFront}
use Rattle.rep_print.specs.Afd.{IsLeast, IsGreatest}

-- the first and the last recording day of a history
pub record IsSpan (h : List Entry) (first last : ℕ) : Type 0 where
  pub first_is : IsLeast first (days_of h)
  pub last_is : IsGreatest last (days_of h)

-- A text was appended, which has so many bytes, or where the sink failed, a front of it that lacks a byte at least.
pub record PutsText {E : Type 0} (old new : Option (List ℕ)) (text : List ℕ) (result : Result ℕ E) : Type 0 where
  pub put : List ℕ
  pub appended : new ≡ append_known old put
  pub is_put : MatchResult result (λ count. (put ≡ text) × (count ≡ length text)) (λ _. IsStrictFront put text)

-- an AFD behind the line that tells its length and how many entries there are
abbrev pub led_text : ℕ → ℕ → ℕ → List ℕ → List ℕ
led_text line seq front file = extract_text line seq (length file) front ++ file

-- a text was appended, or where the sink failed, a front of it that lacks a byte at least
pub record PutsAll {T E : Type 0} (old new : Option (List ℕ)) (text : List ℕ) (result : Result T E) : Type 0 where
  pub put : List ℕ
  pub appended : new ≡ append_known old put
  pub is_put : MatchResult result (λ _. put ≡ text) (λ _. IsStrictFront put text)
