-- A line orders one thing at most, and a line that orders something isn't malformed.
use Rattle.std.proofs.Common.{◌≡◌, ◌≤◌, ℕ, inl, inr, List, [], ◌∷◌, length, Option, Some, None, refl, sym, ap, ◌∙◌, subst, arith, decimal, Result, Ok, Err, IfOk, IfErr}
use Rattle.rep_fields.specs.Moment.{Moment}
use Rattle.rep_fields.proofs.StampTexts.{day_text-injective, moment_text-injective}
use Rattle.rep_fields.specs.Employer.{kind_byte}
use Rattle.rep_fields.specs.declared.employer.EmployerId.{EmployerId}
use Rattle.rep_fields.specs.declared.employer.EmployerId.TheVariants.{Cnpj, Person}
use Rattle.afd_records.specs.declared.record.Op.{Op}
use Rattle.rep_wire.specs.Fields.{fields_of}
use Rattle.rep_io.specs.Lines.{longest_line}
use Rattle.rep_wire.specs.Request.{IsOrigin, IsSeq, IsAsk}
use Rattle.rep_wire.specs.LaneGrammar.{IsLaneHead, letter_text, MaySend, kinds_of, IsField, IsFirstOff, letter_of, SaysAsk, Says, HasCollector, IsAskedOn, IsExtractedOn, IsFaultAt, IsRefused, IsMalformed, IsOffGrammar, Orders, employer_kind_field}
use Rattle.rep_wire.specs.Asking.{CutsSeq, OrdersBehind}
use Rattle.rep_wire.specs.declared.head.LaneHead.{LaneHead}
use Rattle.rep_wire.specs.declared.letter.Letter.{Letter}
use Rattle.rep_wire.specs.declared.letter.Letter.TheVariants as letter
use Rattle.rep_wire.specs.declared.request.Ask.{Ask}
use Rattle.rep_wire.specs.declared.request.Ask.TheVariants.{Mark, Employer, Worker, Adjust, Event}
use Rattle.rep_wire.specs.declared.request.Request.{Request}
use Rattle.rep_wire.specs.declared.request.Order.{Order}
use Rattle.rep_wire.specs.declared.request.Order.TheVariants.{Asked, Extract}
use Rattle.rep_wire.specs.declared.reading.Malformed.{Malformed}
use Rattle.rep_wire.proofs.GrammarLemmas.{letter_text-injective, op_text-injective, seq-injective, cpf_text-injective, event-injective, id-unique, cno-unique, text-unique, past}

-- the fields that ask something have the letter's number
pub length-asked : (ask : Ask) (behind : List (List ℕ)) → SaysAsk ask behind → length behind ≡ length (kinds_of (letter_of ask) behind)
length-asked (Mark cpf collector None) (third ∷ fourth ∷ []) said = rw said.1 refl
length-asked (Mark cpf collector (Some at)) (third ∷ fourth ∷ fifth ∷ []) said = rw said.1 refl
length-asked (Employer resp id cno name place) (third ∷ fourth ∷ fifth ∷ sixth ∷ seventh ∷ eighth ∷ []) said = refl
length-asked (Worker op cpf name extra resp) (third ∷ fourth ∷ fifth ∷ sixth ∷ seventh ∷ []) said = refl
length-asked (Adjust before resp) (third ∷ fourth ∷ []) said = refl
length-asked (Event code) (third ∷ []) said = refl
length-asked _ _ said = absurd said

-- and each of them is of its kind
pub no_field_off : (ask : Ask) (behind : List (List ℕ)) (number : ℕ) → IsAsk ask → SaysAsk ask behind
    → IsFirstOff 3 (kinds_of (letter_of ask) behind) behind number → ⊥
no_field_off (Mark cpf collector None) (third ∷ fourth ∷ []) number range said off =
    let online = rw said.1 at off in
    past (past online (cpf, range.0, said.0)) refl
no_field_off (Mark cpf collector (Some at)) (third ∷ fourth ∷ fifth ∷ []) number range said off =
    let offline = rw said.1 at off in
    past (past (past offline (cpf, range.0, said.0)) refl) (at, range.2, said.2)
no_field_off (Employer resp id cno name place) (third ∷ fourth ∷ fifth ∷ sixth ∷ seventh ∷ eighth ∷ []) number range said off =
    past (past (past (past (past (past off
    (resp, range.0, said.0)) (kind_of id fourth said.1.0)) (id, range.1, said.1)) (cno, range.2, said.2))
    (name, (range.3, range.4), said.3)) (place, range.6, said.4)
  where
    kind_of : (id : EmployerId) (text : List ℕ) → text ≡ kind_byte id ∷ [] → IsField employer_kind_field text
    kind_of (Cnpj number) text is = inl is
    kind_of (Person cpf) text is = inr is
no_field_off (Worker op cpf name extra resp) (third ∷ fourth ∷ fifth ∷ sixth ∷ seventh ∷ []) number range said off =
    past (past (past (past (past off
    (op, said.0)) (cpf, range.0, said.1)) (op, name, said.0, (range.1, range.2), said.2)) (extra, range.4, said.3))
    (resp, range.6, said.4)
no_field_off (Adjust before resp) (third ∷ fourth ∷ []) number range said off =
    past (past off (before, range.0, said.0)) (resp, range.1, said.1)
no_field_off (Event code) (third ∷ []) number range said off = past off (code, range, said)
no_field_off _ _ number range said off = absurd said

-- a line's fields that order something aren't refused
pub not_refused : (head : LaneHead) (q : Request) (fields : List (List ℕ)) (number : ℕ) → IsAskedOn head q
    → Says (Asked q) fields → IsFaultAt head fields number → ⊥
not_refused head q (first ∷ second ∷ behind) number asked said (inl no_letter) =
    no_letter.0 (letter_of q.ask) asked.allowed said.0
not_refused head q (first ∷ second ∷ behind) number asked said (inr refused) =
    let same : refused.0 ≡ letter_of q.ask =
    letter_text-injective refused.0 (letter_of q.ask) (sym refused.2 ∙ said.0) in
    at_letter (subst (λ (l : Letter). IsRefused l (second ∷ behind) number) same refused.3)
  where
    at_letter : IsRefused (letter_of q.ask) (second ∷ behind) number → ⊥
    at_letter (inl number_wrong) = number_wrong.0 (length-asked q.ask behind said.2)
    at_letter (inr off) =
        no_field_off q.ask behind number asked.request.ask said.2 (past off.1 (q.seq, asked.request.seq, said.1))
not_refused head q _ number asked said fault = absurd said

-- an extraction's fields aren't refused
not_refused_period : (head : LaneHead) (seq from to : ℕ) (fields : List (List ℕ)) (number : ℕ) → IsExtractedOn head seq from to
    → Says (Extract seq from to) fields → IsFaultAt head fields number → ⊥
not_refused_period head seq from to (first ∷ second ∷ third ∷ fourth ∷ []) number ordered said (inl no_letter) =
    no_letter.0 letter.Extract ordered.allowed said.0
not_refused_period head seq from to (first ∷ second ∷ third ∷ fourth ∷ []) number ordered said (inr refused) =
    let same : refused.0 ≡ letter.Extract = letter_text-injective refused.0 letter.Extract (sym refused.2 ∙ said.0) in
    at_letter (subst (λ (l : Letter). IsRefused l (second ∷ third ∷ fourth ∷ []) number) same refused.3)
  where
    at_letter : IsRefused letter.Extract (second ∷ third ∷ fourth ∷ []) number → ⊥
    at_letter (inl number_wrong) = number_wrong.0 refl
    at_letter (inr off) =
        past (past (past off.1 (seq, ordered.numbered, said.1)) (from, ordered.first, said.2))
        (from, to, ordered.first, ordered.last, ordered.in_order, said.2, said.3)
not_refused_period head seq from to _ number ordered said fault = absurd said

pub not_malformed : (head : LaneHead) (line : List ℕ) (order : Order) (malformed : Malformed) → Orders head line order
    → IsMalformed head line malformed → ⊥
not_malformed head line (Asked q) malformed ordered (inl long) = omega (arith, long.0, ordered.short)
not_malformed head line (Asked q) malformed ordered (inr off) =
    not_refused head q (fields_of line) malformed.field ordered.in_range ordered.said off.field
not_malformed head line (Extract seq from to) malformed ordered (inl long) = omega (arith, long.0, ordered.short)
not_malformed head line (Extract seq from to) malformed ordered (inr off) =
    not_refused_period head seq from to (fields_of line) malformed.field ordered.in_range ordered.said off.field

-- one list of fields asks one thing
marks_agree : (head : LaneHead) (cpf cpf' collector collector' : ℕ) (at at' : Option Moment) (behind : List (List ℕ))
    → IsAsk (Mark cpf collector at) → IsAsk (Mark cpf' collector' at') → collector ≡ collector'
    → SaysAsk (Mark cpf collector at) behind → SaysAsk (Mark cpf' collector' at') behind
    → Mark cpf collector at ≡ Mark cpf' collector' at'
marks_agree head cpf cpf' collector collector' None None (third ∷ fourth ∷ []) range range' same said said' =
    let cpfs = cpf_text-injective cpf cpf' range.0 range'.0 (sym said.0 ∙ said'.0) in cc
marks_agree head cpf cpf' collector collector' (Some at) (Some at') (third ∷ fourth ∷ fifth ∷ []) range range' same said said' =
    let cpfs = cpf_text-injective cpf cpf' range.0 range'.0 (sym said.0 ∙ said'.0) in
    let stamps = moment_text-injective at at' range.2 range'.2 (sym said.2 ∙ said'.2) in cc
marks_agree head cpf cpf' collector collector' None (Some at') (third ∷ fourth ∷ []) range range' same said said' = absurd said'
marks_agree head cpf cpf' collector collector' (Some at) None (third ∷ fourth ∷ fifth ∷ []) range range' same said said' = absurd said'
marks_agree head cpf cpf' collector collector' _ _ _ range range' same said said' = absurd said

employers_agree : (resp resp' : ℕ) (id id' : EmployerId) (cno cno' : ℕ) (name name' place place' : List ℕ) (behind : List (List ℕ))
    → IsAsk (Employer resp id cno name place) → IsAsk (Employer resp' id' cno' name' place')
    → SaysAsk (Employer resp id cno name place) behind → SaysAsk (Employer resp' id' cno' name' place') behind
    → Employer resp id cno name place ≡ Employer resp' id' cno' name' place'
employers_agree resp resp' id id' cno cno' name name' place place' (third ∷ fourth ∷ fifth ∷ sixth ∷ seventh ∷ eighth ∷ []) range range' said said' =
    let resps = cpf_text-injective resp resp' range.0 range'.0 (sym said.0 ∙ said'.0) in
    let ids = id-unique fourth id id' fifth range.1 range'.1 said.1 said'.1 in
    let cnos = cno-unique cno cno' sixth said.2 said'.2 in
    let names = text-unique 150 name name' seventh range.3 range'.3 said.3 said'.3 in
    let places = text-unique 100 place place' eighth range.6 range'.6 said.4 said'.4 in cc
employers_agree resp resp' id id' cno cno' name name' place place' _ range range' said said' = absurd said

workers_agree : (op op' : Op) (cpf cpf' : ℕ) (name name' extra extra' : List ℕ) (resp resp' : ℕ) (behind : List (List ℕ))
    → IsAsk (Worker op cpf name extra resp) → IsAsk (Worker op' cpf' name' extra' resp')
    → SaysAsk (Worker op cpf name extra resp) behind → SaysAsk (Worker op' cpf' name' extra' resp') behind
    → Worker op cpf name extra resp ≡ Worker op' cpf' name' extra' resp'
workers_agree op op' cpf cpf' name name' extra extra' resp resp' (third ∷ fourth ∷ fifth ∷ sixth ∷ seventh ∷ []) range range' said said' =
    let ops = op_text-injective op op' (sym said.0 ∙ said'.0) in
    let cpfs = cpf_text-injective cpf cpf' range.0 range'.0 (sym said.1 ∙ said'.1) in
    let names = text-unique 52 name name' fifth range.1 range'.1 said.2 said'.2 in
    let extras = text-unique 4 extra extra' sixth range.4 range'.4 said.3 said'.3 in
    let resps = cpf_text-injective resp resp' range.6 range'.6 (sym said.4 ∙ said'.4) in cc
workers_agree op op' cpf cpf' name name' extra extra' resp resp' _ range range' said said' = absurd said

adjustments_agree : (before before' : Moment) (resp resp' : ℕ) (behind : List (List ℕ))
    → IsAsk (Adjust before resp) → IsAsk (Adjust before' resp')
    → SaysAsk (Adjust before resp) behind → SaysAsk (Adjust before' resp') behind
    → Adjust before resp ≡ Adjust before' resp'
adjustments_agree before before' resp resp' (third ∷ fourth ∷ []) range range' said said' =
    let stamps = moment_text-injective before before' range.0 range'.0 (sym said.0 ∙ said'.0) in
    let resps = cpf_text-injective resp resp' range.1 range'.1 (sym said.1 ∙ said'.1) in cc
adjustments_agree before before' resp resp' _ range range' said said' = absurd said

events_agree : (code code' : ℕ) (behind : List (List ℕ)) → IsAsk (Event code) → IsAsk (Event code')
    → SaysAsk (Event code) behind → SaysAsk (Event code') behind → Event code ≡ Event code'
events_agree code code' (third ∷ []) range range' said said' = ap Event (event-injective code code' range range' (sym said ∙ said'))
events_agree code code' _ range range' said said' = absurd said

pub asks_agree : (head : LaneHead) (a b : Ask) (behind : List (List ℕ)) → letter_of a ≡ letter_of b → IsAsk a → IsAsk b
    → HasCollector head a → HasCollector head b → SaysAsk a behind → SaysAsk b behind → a ≡ b
asks_agree head (Mark cpf collector at) (Mark cpf' collector' at') behind letters range range' recorded recorded' said said' =
    marks_agree head cpf cpf' collector collector' at at' behind range range' (recorded ∙ sym recorded') said said'
asks_agree head (Employer resp id cno name place) (Employer resp' id' cno' name' place') behind letters range range' recorded recorded' said said' =
    employers_agree resp resp' id id' cno cno' name name' place place' behind range range' said said'
asks_agree head (Worker op cpf name extra resp) (Worker op' cpf' name' extra' resp') behind letters range range' recorded recorded' said said' =
    workers_agree op op' cpf cpf' name name' extra extra' resp resp' behind range range' said said'
asks_agree head (Adjust before resp) (Adjust before' resp') behind letters range range' recorded recorded' said said' =
    adjustments_agree before before' resp resp' behind range range' said said'
asks_agree head (Event code) (Event code') behind letters range range' recorded recorded' said said' =
    events_agree code code' behind range range' said said'
asks_agree head _ _ behind letters range range' recorded recorded' said said' = absurd (cc)

requests_agree : (head : LaneHead) (p q : Request) (fields : List (List ℕ)) → IsAskedOn head p → IsAskedOn head q
    → Says (Asked p) fields → Says (Asked q) fields → Asked p ≡ Asked q
requests_agree head p q (first ∷ second ∷ behind) p_asked q_asked p_said q_said =
    let letters = letter_text-injective (letter_of p.ask) (letter_of q.ask) (sym p_said.0 ∙ q_said.0) in
    let origins : p.origin ≡ q.origin = p_asked.origin ∙ sym q_asked.origin in
    let seqs : p.seq ≡ q.seq =
    seq-injective p.seq q.seq p_asked.request.seq q_asked.request.seq (sym p_said.1 ∙ q_said.1) in
    let asks : p.ask ≡ q.ask = asks_agree head p.ask q.ask behind letters p_asked.request.ask q_asked.request.ask
    p_asked.collector q_asked.collector p_said.2 q_said.2 in
    let same : p ≡ q = λ i. record { origin = origins i; seq = seqs i; ask = asks i } in
    ap Asked same
requests_agree head p q _ p_asked q_asked p_said q_said = absurd p_said

periods_agree : (head : LaneHead) (seq seq' from from' to to' : ℕ) (fields : List (List ℕ)) → IsExtractedOn head seq from to → IsExtractedOn head seq' from' to'
    → Says (Extract seq from to) fields → Says (Extract seq' from' to') fields → Extract seq from to ≡ Extract seq' from' to'
periods_agree head seq seq' from from' to to' (first ∷ second ∷ third ∷ fourth ∷ []) range range' said said' =
    let seqs = seq-injective seq seq' range.numbered range'.numbered (sym said.1 ∙ said'.1) in
    let firsts = day_text-injective from from' range.first range'.first (sym said.2 ∙ said'.2) in
    let lasts = day_text-injective to to' range.last range'.last (sym said.3 ∙ said'.3) in cc
periods_agree head seq seq' from from' to to' _ range range' said said' = absurd said

-- no letter of a request is that of an extraction
letter_of-asks : (ask : Ask) → letter_of ask ≡ letter.Extract → ⊥
letter_of-asks (Mark cpf collector at) same = cc
letter_of-asks (Employer resp id cno name place) same = cc
letter_of-asks (Worker op cpf name extra resp) same = cc
letter_of-asks (Adjust before resp) same = cc
letter_of-asks (Event code) same = cc

not_both : (q : Request) (seq from to : ℕ) (fields : List (List ℕ)) → Says (Asked q) fields → Says (Extract seq from to) fields → ⊥
not_both q seq from to (first ∷ second ∷ third ∷ fourth ∷ []) asked extracted =
    letter_of-asks q.ask (letter_text-injective (letter_of q.ask) letter.Extract (sym asked.0 ∙ extracted.0))
not_both q seq from to _ asked extracted = absurd extracted

-- a line orders one thing at most
pub orders_agree : (head : LaneHead) (line : List ℕ) (a b : Order) → Orders head line a → Orders head line b → a ≡ b
orders_agree head line (Asked p) (Asked q) a_ordered b_ordered =
    requests_agree head p q (fields_of line) a_ordered.in_range b_ordered.in_range a_ordered.said b_ordered.said
orders_agree head line (Extract seq from to) (Extract seq' from' to') a_ordered b_ordered =
    periods_agree head seq seq' from from' to to' (fields_of line) a_ordered.in_range b_ordered.in_range a_ordered.said b_ordered.said
orders_agree head line (Extract seq from to) (Asked q) a_ordered b_ordered =
    absurd (not_both q seq from to (fields_of line) b_ordered.said a_ordered.said)
orders_agree head line (Asked p) (Extract seq from to) a_ordered b_ordered =
    absurd (not_both p seq from to (fields_of line) a_ordered.said b_ordered.said)

-- what the fields behind the second order is what the line orders
pub orders_from : (head : LaneHead) (line first : List ℕ) (fields : List (List ℕ)) (sent : Letter) (seq : ℕ) (behind : List (List ℕ)) (order : Order)
    → IsLaneHead head → length line ≤ longest_line → fields_of line ≡ first ∷ fields → MaySend head sent → first ≡ letter_text sent
    → CutsSeq fields (Some seq) behind → OrdersBehind head sent seq behind order → Orders head line order
orders_from head line first [] sent seq behind order is_head short is allowed is_letter cuts ordered = absurd (is_none cuts.0)
  where
    is_none : Some seq ≡ None → ⊥
    is_none same = cc
orders_from head line first (second ∷ rest) sent seq behind (Asked q) is_head short is allowed is_letter cuts ordered = record {
  short = short;
  in_range = record {
    request = record {
      origin = subst IsOrigin (sym ordered.2) is_head.origin;
      seq = subst IsSeq (sym ordered.3) cuts.0.0;
      ask = ordered.0.in_range;
    };
    origin = ordered.2;
    allowed = subst (MaySend head) (sym ordered.0.of_letter) allowed;
    collector = ordered.1;
  };
  said = subst (Says (Asked q)) (sym is) (
    is_letter ∙ ap letter_text (sym ordered.0.of_letter),
    cuts.0.1 ∙ ap decimal (sym ordered.3),
    subst (SaysAsk q.ask) cuts.1 ordered.0.said,
  );
}
orders_from head line first (second ∷ rest) sent seq behind (Extract number from to) is_head short is allowed is_letter cuts ordered = record {
  short = short;
  in_range = record {
    allowed = subst (MaySend head) ordered.0 allowed;
    numbered = subst IsSeq (sym ordered.1) cuts.0.0;
    first = ordered.2.first;
    last = ordered.2.last;
    in_order = ordered.2.in_order;
  };
  said = subst (Says (Extract number from to))
      (sym (is ∙ ap (λ (b : List (List ℕ)). first ∷ second ∷ b) (sym cuts.1 ∙ ordered.2.said)))
      (is_letter ∙ ap letter_text ordered.0, cuts.0.1 ∙ ap decimal (sym ordered.1), refl, refl);
}

-- so an answer that is right is the only one
pub only_answer : (head : LaneHead) (line : List ℕ) (result : Result Order Malformed) → IfOk result (Orders head line)
    → IfErr result (IsOffGrammar head line) → (order : Order) → Orders head line order → result ≡ Ok order
only_answer head line (Ok found) is_found is_off order ordered =
    ap Ok (orders_agree head line found order is_found ordered)
only_answer head line (Err malformed) is_found is_off order ordered =
    absurd (not_malformed head line order malformed ordered (inr is_off))

pub malformed_from_off : (head : LaneHead) (line : List ℕ) (result : Result Order Malformed)
    → IfErr result (IsOffGrammar head line) → IfErr result (IsMalformed head line)
malformed_from_off head line (Ok found) is_off = tt
malformed_from_off head line (Err malformed) is_off = inr is_off
