-- What lines add up to.
use Rattle.std.proofs.Common.{ℕ, ◌+◌, ◌≤◌, ◌==◌, List, [], ◌∷◌, length, slice_index_or, All, sym, ap, subst, arith}
use Rattle.std.proofs.lemmas.List.Sums.{count_by-le-length}
use Rattle.std.proofs.lemmas.List.Elements.{All-from_recursion}
use Rattle.rep_fields.specs.Digits.{FitsDigits}
use Rattle.afd_records.specs.Record.{last_nsr}
use Rattle.afd_records.specs.File.{HasTrailerText}
use Rattle.afd_extract.specs.Extract.{counts_of_lines, lines_of_type}
use Rattle.afd_extract.specs.Steps.{AddsUpTo}
use Rattle.afd_extract.specs.declared.tally.Tally.{Tally}

each_of_six : (P : ℕ → Type 0) (a b c d e f : ℕ) → P a → P b → P c → P d → P e → P f → All P (a ∷ b ∷ c ∷ d ∷ e ∷ f ∷ [])
each_of_six P a b c d e f pa pb pc pd pe pf = All-from_recursion P (a ∷ b ∷ c ∷ d ∷ e ∷ f ∷ []) (pa, (pb, (pc, (pd, (pe, (pf, tt))))))

each_count : (P : ℕ → Type 0) (lines : List (List ℕ)) → ((kind : ℕ) → P (lines_of_type kind lines)) → All P (counts_of_lines lines)
each_count P lines each = each_of_six P _ _ _ _ _ _ (each 2) (each 3) (each 4) (each 5) (each 6) (each 7)

count-within : (lines : List (List ℕ)) (kind : ℕ) → lines_of_type kind lines ≤ length lines
count-within lines kind = count_by-le-length (λ (line : List ℕ). slice_index_or line 9 0 == 48 + kind) lines

-- no count is above that of the lines
pub counts-within : (lines : List (List ℕ)) (tally : Tally) → AddsUpTo lines tally → length lines ≤ last_nsr → All (λ n. n ≤ last_nsr) tally.counts
counts-within lines tally adds few =
    subst (λ cs. All (λ n. n ≤ last_nsr) cs) (sym adds.counts)
    (each_count (λ n. n ≤ last_nsr) lines (λ kind. omega (arith, count-within lines kind)))

pub counts-digits : (lines : List (List ℕ)) (tally : Tally) → AddsUpTo lines tally → length lines ≤ last_nsr → HasTrailerText tally.counts
counts-digits lines tally adds few = record {
  size = ap length adds.counts;
  digits = subst (λ cs. All (FitsDigits 9) cs) (sym adds.counts)
      (each_count (FitsDigits 9) lines (λ kind. omega (arith, count-within lines kind)));
}
