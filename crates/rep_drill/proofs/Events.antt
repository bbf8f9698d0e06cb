-- a line says one event at most
use Rattle.std.proofs.Common.{◌≡◌, ℕ, ◌≤◌, List, [], ◌∷◌, get_or, drop, Option, Some, None, refl, sym, ap, subst, ◌∙◌, codes, decimal, arith}
use Rattle.std.specs.Prelude.{Bool, true, false, IfSome, MatchOption}
use Rattle.std.specs.List.{join_with_byte}
use Rattle.std.proofs.lemmas.Fmt.{decimal_injective}
use Rattle.rep_fields.specs.Calendar.{day_text}
use Rattle.rep_fields.specs.Identity.{bar}
use Rattle.rep_fields.proofs.Numerals.{numeral-injective}
use Rattle.rep_fields.proofs.StampTexts.{day_text-injective}
use Rattle.rep_io.specs.Streams.{IsReading}
use Rattle.rep_disk.specs.declared.image.Image.{Image}
use Rattle.rep_disk.specs.declared.image.Image.TheVariants.{Old, New, Odd}
use Rattle.rep_wire.specs.Fields.{fields_of, join-fields_of}
use Rattle.rep_wire.specs.LaneGrammar.{Orders}
use Rattle.rep_wire.specs.declared.head.LaneHead.{LaneHead}
use Rattle.rep_wire.specs.declared.request.Request.{Request}
use Rattle.rep_wire.specs.declared.request.Order.TheVariants.{Asked}
use Rattle.rep_wire.proofs.OrderLemmas.{orders_agree}
use Rattle.rep_world.specs.declared.event.Event.{Event}
use Rattle.rep_world.specs.declared.event.Event.TheVariants.{Send, Deliver, Fail, Crash, Rest, Reopen, Extract}
use Rattle.rep_drill.specs.Schedule.{IsCall, IsHeadBy, IsMessageNumber, SaysFields, SaysNone, SendsRequest, image_text, lost_text}
use Rattle.rep_drill.proofs.Letters.{has_letter}

pub number-injective : (k l : ℕ) → IsMessageNumber k → IsMessageNumber l → decimal k ≡ decimal l → k ≡ l
number-injective k l a b same = decimal_injective k l (omega arith) (omega arith) same

pub minute-injective : (k l : ℕ) → IsReading k → IsReading l → decimal k ≡ decimal l → k ≡ l
minute-injective k l a b same = decimal_injective k l (omega arith) (omega arith) same

pub call-injective : (k l : ℕ) → IsCall k → IsCall l → decimal k ≡ decimal l → k ≡ l
call-injective k l a b same = decimal_injective k l (omega arith) (omega arith) same

pub image_text-injective : (a b : Image) → image_text a ≡ image_text b → a ≡ b
image_text-injective Old Old same = refl
image_text-injective New New same = refl
image_text-injective Odd Odd same = refl
image_text-injective Old New same = let byte : ◌≡◌ {A = ℕ} 111 110 = ap (λ (text : List ℕ). get_or text 0 0) same in absurd (omega arith)
image_text-injective Old Odd same = let byte : ◌≡◌ {A = ℕ} 111 120 = ap (λ (text : List ℕ). get_or text 0 0) same in absurd (omega arith)
image_text-injective New Old same = let byte : ◌≡◌ {A = ℕ} 110 111 = ap (λ (text : List ℕ). get_or text 0 0) same in absurd (omega arith)
image_text-injective New Odd same = let byte : ◌≡◌ {A = ℕ} 110 120 = ap (λ (text : List ℕ). get_or text 0 0) same in absurd (omega arith)
image_text-injective Odd Old same = let byte : ◌≡◌ {A = ℕ} 120 111 = ap (λ (text : List ℕ). get_or text 0 0) same in absurd (omega arith)
image_text-injective Odd New same = let byte : ◌≡◌ {A = ℕ} 120 110 = ap (λ (text : List ℕ). get_or text 0 0) same in absurd (omega arith)

pub lost_text-injective : (a b : Bool) → lost_text a ≡ lost_text b → a ≡ b
lost_text-injective true true same = refl
lost_text-injective false false same = refl
lost_text-injective true false same = let byte : ◌≡◌ {A = ℕ} 49 48 = ap (λ (text : List ℕ). get_or text 0 0) same in absurd (omega arith)
lost_text-injective false true same = let byte : ◌≡◌ {A = ℕ} 48 49 = ap (λ (text : List ℕ). get_or text 0 0) same in absurd (omega arith)

-- an origin and a kind are those of one head
pub one_head : (origin kind : List ℕ) (a b : LaneHead) → IsHeadBy origin kind a → IsHeadBy origin kind b → a ≡ b
one_head origin kind a b of_a of_b =
    let a_in = of_a.is_head.origin in
    let b_in = of_b.is_head.origin in
    let a_kind : a.kind ≤ 5 = of_a.is_head.kind in
    let b_kind : b.kind ≤ 5 = of_b.is_head.kind in
    let origins : a.origin ≡ b.origin =
    decimal_injective a.origin b.origin (omega arith) (omega arith) (sym of_a.origin_is ∙ of_b.origin_is) in
    let kinds : a.kind ≡ b.kind =
    numeral-injective 2 a.kind b.kind (omega arith) (omega arith) (sym of_a.kind_is ∙ of_b.kind_is) in
    let scripts : a.script ≡ b.script = of_a.is_head.script ∙ sym of_b.is_head.script in
    λ i. record { origin = origins i; kind = kinds i; script = scripts i }

-- fields are those of one line
pub one_line : (a b : List ℕ) → fields_of a ≡ fields_of b → a ≡ b
one_line a b same = sym (join-fields_of a) ∙ ap (join_with_byte bar) same ∙ join-fields_of b

one_request : (fields : List (List ℕ)) (p q : Request) → SendsRequest fields p → SendsRequest fields q → p ≡ q
one_request fields p q a b =
    let same : codes "S" ∷ a.origin ∷ a.kind ∷ fields_of a.line ≡ codes "S" ∷ b.origin ∷ b.kind ∷ fields_of b.line = sym a.written ∙ b.written in
    let origins : a.origin ≡ b.origin = ap (λ (fs : List (List ℕ)). get_or fs 1 []) same in
    let kinds : a.kind ≡ b.kind = ap (λ (fs : List (List ℕ)). get_or fs 2 []) same in
    let lines : a.line ≡ b.line = one_line a.line b.line (ap (drop 3) same) in
    let heads : a.head ≡ b.head =
    one_head b.origin b.kind a.head b.head
    (subst (λ (kind : List ℕ). IsHeadBy b.origin kind a.head) kinds (subst (λ (origin : List ℕ). IsHeadBy origin a.kind a.head) origins a.is_head)) b.is_head in
    let asks : Orders b.head b.line (Asked p) =
    subst (λ (line : List ℕ). Orders b.head line (Asked p)) lines (subst (λ (head : LaneHead). Orders head a.line (Asked p)) heads a.asks) in
    let orders : Asked p ≡ Asked q = orders_agree b.head b.line (Asked p) (Asked q) asks b.asks in
    cc

-- the same fields say the same event
pub one_event : (fields : List (List ℕ)) (a b : Event) → SaysFields fields a → SaysFields fields b → a ≡ b
one_event fields (Send p) (Send q) a b = ap Send (one_request fields p q a b)
one_event fields (Deliver k minute lost) (Deliver k' minute' lost') a b =
    let same : codes "D" ∷ decimal k ∷ decimal minute ∷ lost_text lost ∷ [] ≡ codes "D" ∷ decimal k' ∷ decimal minute' ∷ lost_text lost' ∷ [] = sym a.2 ∙ b.2 in
    let ks = number-injective k k' a.0 b.0 (ap (λ (fs : List (List ℕ)). get_or fs 1 []) same) in
    let minutes = minute-injective minute minute' a.1 b.1 (ap (λ (fs : List (List ℕ)). get_or fs 2 []) same) in
    let losts = lost_text-injective lost lost' (ap (λ (fs : List (List ℕ)). get_or fs 3 []) same) in
    cc
one_event fields (Fail k minute call) (Fail k' minute' call') a b =
    let same : codes "F" ∷ decimal k ∷ decimal minute ∷ decimal call ∷ [] ≡ codes "F" ∷ decimal k' ∷ decimal minute' ∷ decimal call' ∷ [] = sym a.3 ∙ b.3 in
    let ks = number-injective k k' a.0 b.0 (ap (λ (fs : List (List ℕ)). get_or fs 1 []) same) in
    let minutes = minute-injective minute minute' a.1 b.1 (ap (λ (fs : List (List ℕ)). get_or fs 2 []) same) in
    let calls = call-injective call call' a.2 b.2 (ap (λ (fs : List (List ℕ)). get_or fs 3 []) same) in
    cc
one_event fields (Crash k minute call image) (Crash k' minute' call' image') a b =
    let same : codes "K" ∷ decimal k ∷ decimal minute ∷ decimal call ∷ image_text image ∷ [] ≡ codes "K" ∷ decimal k' ∷ decimal minute' ∷ decimal call' ∷ image_text image' ∷ [] = sym a.3 ∙ b.3 in
    let ks = number-injective k k' a.0 b.0 (ap (λ (fs : List (List ℕ)). get_or fs 1 []) same) in
    let minutes = minute-injective minute minute' a.1 b.1 (ap (λ (fs : List (List ℕ)). get_or fs 2 []) same) in
    let calls = call-injective call call' a.2 b.2 (ap (λ (fs : List (List ℕ)). get_or fs 3 []) same) in
    let images = image_text-injective image image' (ap (λ (fs : List (List ℕ)). get_or fs 4 []) same) in
    cc
one_event fields (Rest image) (Rest image') a b =
    let same : codes "C" ∷ image_text image ∷ [] ≡ codes "C" ∷ image_text image' ∷ [] = sym a ∙ b in
    let images = image_text-injective image image' (ap (λ (fs : List (List ℕ)). get_or fs 1 []) same) in
    cc
one_event fields Reopen Reopen a b = refl
one_event fields (Extract from to minute) (Extract from' to' minute') a b =
    let same : codes "X" ∷ day_text from ∷ day_text to ∷ decimal minute ∷ [] ≡ codes "X" ∷ day_text from' ∷ day_text to' ∷ decimal minute' ∷ [] = sym a.4 ∙ b.4 in
    let froms = day_text-injective from from' a.0 b.0 (ap (λ (fs : List (List ℕ)). get_or fs 1 []) same) in
    let tos = day_text-injective to to' a.1 b.1 (ap (λ (fs : List (List ℕ)). get_or fs 2 []) same) in
    let minutes = minute-injective minute minute' a.3 b.3 (ap (λ (fs : List (List ℕ)). get_or fs 3 []) same) in
    cc
one_event fields a b says says' =
    let one = has_letter fields a says in
    let other = has_letter fields b says' in
    absurd (omega arith)

-- a reader that answers the event that is said, or none where none is, answers each event that is said
pub only_event : (fields : List (List ℕ)) (result : Option Event) (event : Event) → MatchOption result (SaysNone fields) (SaysFields fields) → SaysFields fields event
    → result ≡ Some event
only_event fields None event reads says = absurd (reads event says)
only_event fields (Some found) event reads says = ap Some (one_event fields found event reads says)

pub found_event : (fields : List (List ℕ)) (result : Option Event) → MatchOption result (SaysNone fields) (SaysFields fields) → IfSome result (SaysFields fields)
found_event fields None reads = tt
found_event fields (Some found) reads = reads
