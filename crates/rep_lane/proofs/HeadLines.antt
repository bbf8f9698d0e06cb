-- which lines are the head of a lane
use Rattle.std.proofs.Common.{◌≡◌, ℕ, ◌+◌, ◌<◌, ◌≤◌, List, [], ◌∷◌, ◌++◌, length, codes, decimal, sym, ap, subst, append-nil, length-append, arith}
use Rattle.rep_io.specs.Lines.{longest_line}
use Rattle.rep_fields.specs.Digits.{numeral}
use Rattle.rep_fields.proofs.Numerals.{length-numeral}
use Rattle.rep_report.proofs.Decimals.{decimal_fits}
use Rattle.rep_wire.specs.LaneGrammar.{IsLaneHead, head_text}
use Rattle.rep_wire.specs.declared.head.LaneHead.{LaneHead}
use Rattle.rep_lane.specs.Head.{IsHeadLine, HasNoHead}

-- a head is short
head_short : (head : LaneHead) → IsLaneHead head → length (head_text head) ≤ longest_line
head_short head is =
    let origin = is.origin.1 in
    let fits = decimal_fits head.origin (omega arith) in
    let kind = length-numeral 2 head.kind in
    let tail : length (numeral 2 head.kind ++ []) ≡ length (numeral 2 head.kind) = ap length (append-nil (numeral 2 head.kind)) in
    let size : length (decimal head.origin ++ (codes "|" ++ (numeral 2 head.kind ++ []))) ≡ length (decimal head.origin) + length (codes "|" ++ (numeral 2 head.kind ++ [])) =
    length-append (decimal head.origin) (codes "|" ++ (numeral 2 head.kind ++ [])) in
    omega arith

-- a line that is too long is no head
pub long_no_head : (head : LaneHead) (line : List ℕ) → longest_line < length line → IsHeadLine head line → ⊥
long_no_head head line long is =
    let short = head_short head is.in_range in
    let same : length line ≡ length (head_text head) = ap length is.spelled in
    omega arith

-- a text whose first line is no head has none
pub no_head-first : (line : List ℕ) (behind lines : List (List ℕ)) → lines ≡ line ∷ behind → ((head : LaneHead) → IsHeadLine head line → ⊥) → HasNoHead lines
no_head-first line behind lines is none = subst HasNoHead (sym is) none
