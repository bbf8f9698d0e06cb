-- A head's line and its three fields.
use Rattle.std.proofs.Common.{◌≡◌, ◌≢◌, ℕ, ◌+◌, ◌<◌, ◌%◌, ◌^◌, ◌==◌, List, [], ◌∷◌, ◌++◌, get_or, All, false, refl, sym, ap, ◌∙◌, codes, decimal, arith, append-nil}
use Rattle.std.specs.List.{join_with_byte}
use Rattle.std.proofs.lemmas.Bool.{ne_eqb}
use Rattle.std.proofs.lemmas.Fmt.{decimal_by_steps}
use Rattle.std.proofs.lemmas.List.Elements.{All-nil, All-cons, All-push}
use Rattle.std.proofs.lemmas.List.Splits.{slice_split_at, slice_split_none}
use Rattle.rep_fields.specs.Digits.{numeral}
use Rattle.rep_fields.specs.Identity.{bar}
use Rattle.rep_fields.proofs.Numerals.{IsDigitByte-numeral}
use Rattle.rep_wire.specs.Fields.{fields_of, join-fields_of}
use Rattle.rep_wire.specs.Request.{HasNoBar}
use Rattle.rep_wire.specs.LaneGrammar.{IsLaneHead, head_text}
use Rattle.rep_wire.specs.declared.head.LaneHead.{LaneHead}

pub HasNoBar-decimal : (n : ℕ) → n < 2 ^ 64 → HasNoBar (decimal n)
HasNoBar-decimal n small =
    decimal_by_steps (λ m ds. HasNoBar ds)
    (λ m digit. All-cons (λ b. b ≢ bar) (48 + m) [] (λ is. omega arith) (All-nil (λ b. b ≢ bar)))
    (λ m ds more front. All-push (λ b. b ≢ bar) ds (48 + m % 10) front (λ is. omega arith)) n small

pub HasNoBar-numeral : (width n : ℕ) → HasNoBar (numeral width n)
HasNoBar-numeral width n = λ k d within is.
    let digit = IsDigitByte-numeral width n k d within in omega arith

-- a byte that isn't a bar doesn't cut
IsNotCut : (text : List ℕ) → HasNoBar text → All (λ byte. (byte == bar) ≡ false) text
IsNotCut text no_bar = λ k d within. ne_eqb (get_or text k d) bar (no_bar k d within)

-- a text without bars is the first field of what goes on behind a bar
pub fields_of-bar : (text rest : List ℕ) → HasNoBar text → fields_of (text ++ bar ∷ rest) ≡ text ∷ fields_of rest
fields_of-bar text rest no_bar = slice_split_at (λ byte. byte == bar) text bar rest (IsNotCut text no_bar) refl

pub fields_of-one : (text : List ℕ) → HasNoBar text → fields_of text ≡ text ∷ []
fields_of-one text no_bar = slice_split_none (λ byte. byte == bar) text (IsNotCut text no_bar)

-- a head's line has three fields
pub fields_of-head_text : (head : LaneHead) → IsLaneHead head
    → fields_of (head_text head) ≡ codes "L" ∷ decimal head.origin ∷ numeral 2 head.kind ∷ []
fields_of-head_text head is =
    let small : head.origin < 2 ^ 64 = omega (arith, is.origin) in
    let letter : HasNoBar (codes "L") = All-cons (λ b. b ≢ bar) 76 [] (λ e. omega arith) (All-nil (λ b. b ≢ bar)) in
    let kind : fields_of (numeral 2 head.kind ++ []) ≡ numeral 2 head.kind ∷ [] =
    ap fields_of (append-nil (numeral 2 head.kind)) ∙ fields_of-one (numeral 2 head.kind) (HasNoBar-numeral 2 head.kind) in
    fields_of-bar (codes "L") (decimal head.origin ++ bar ∷ (numeral 2 head.kind ++ [])) letter
    ∙ ap (λ fields. codes "L" ∷ fields) (fields_of-bar (decimal head.origin) (numeral 2 head.kind ++ []) (HasNoBar-decimal head.origin small)
    ∙ ap (λ fields. decimal head.origin ∷ fields) kind)

-- a line of those three fields is the head's
pub head_text-fields : (head : LaneHead) (line : List ℕ)
    → fields_of line ≡ codes "L" ∷ decimal head.origin ∷ numeral 2 head.kind ∷ [] → line ≡ head_text head
head_text-fields head line is =
    sym (join-fields_of line) ∙ ap (join_with_byte bar) is
    ∙ ap (λ kind. codes "L|" ++ (decimal head.origin ++ (bar ∷ kind))) (sym (append-nil (numeral 2 head.kind)))

-- a head's line has these fields and no others
pub head_fields : (head : LaneHead) (line : List ℕ) → IsLaneHead head → line ≡ head_text head
    → fields_of line ≡ codes "L" ∷ decimal head.origin ∷ numeral 2 head.kind ∷ []
head_fields head line is written = ap fields_of written ∙ fields_of-head_text head is
