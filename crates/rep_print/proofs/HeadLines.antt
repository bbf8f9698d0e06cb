-- which lines are an operator's head
use Rattle.std.proofs.Common.{◌≡◌, ℕ, ◌≤◌, List, [], ◌∷◌, get_or, sym, ap, subst, ◌∙◌, arith}
use Rattle.rep_fields.specs.Digits.{numeral}
use Rattle.rep_fields.proofs.Numerals.{numeral-injective}
use Rattle.rep_wire.specs.LaneGrammar.{operator}
use Rattle.rep_wire.specs.declared.head.LaneHead.{LaneHead}
use Rattle.rep_wire.proofs.HeadLemmas.{head_fields}
use Rattle.rep_lane.specs.Head as lane
use Rattle.rep_lane.specs.Head.{IsHeadLine}
use Rattle.rep_print.specs.Printing.{IsOperatorHead, HasNoOperatorHead}

-- a line is the head of lanes of one kind
pub one_kind : (a b : LaneHead) (line : List ℕ) → IsHeadLine a line → IsHeadLine b line → a.kind ≡ b.kind
one_kind a b line is_a is_b =
    let fields = sym (head_fields a line is_a.in_range is_a.spelled) ∙ head_fields b line is_b.in_range is_b.spelled in
    let kinds : numeral 2 a.kind ≡ numeral 2 b.kind = ap (λ (fs : List (List ℕ)). get_or fs 2 []) fields in
    let kind_a : a.kind ≤ 5 = is_a.in_range.kind in
    let kind_b : b.kind ≤ 5 = is_b.in_range.kind in
    numeral-injective 2 a.kind b.kind (omega arith) (omega arith) kinds

-- a text whose first line is the head of another lane has no operator's head
pub other_kind : (head : LaneHead) (line : List ℕ) (behind lines : List (List ℕ)) → lines ≡ line ∷ behind → IsHeadLine head line → (head.kind ≡ operator → ⊥) → HasNoOperatorHead lines
other_kind head line behind lines is headed other =
    subst HasNoOperatorHead (sym is) (λ (h : LaneHead) (o : IsOperatorHead h line). other (one_kind head h line headed o.head_line ∙ o.kind))

-- a text without a head has no operator's head
pub no_operator : (lines : List (List ℕ)) → lane.HasNoHead lines → HasNoOperatorHead lines
no_operator [] none = tt
no_operator (line ∷ lines) none = λ head is. none head is.head_line
