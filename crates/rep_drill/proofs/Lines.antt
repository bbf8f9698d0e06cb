-- the fields behind a letter, and what they say
use Rattle.std.proofs.Common.{◌≡◌, ◌≢◌, ℕ, ◌<◌, ◌≤◌, List, [], ◌∷◌, get_or, drop, length, sym, ap, subst, ◌∙◌, codes, decimal, arith}
use Rattle.std.specs.Prelude.{Bool, Result, Ok, Err}
use Rattle.rep_fields.specs.Calendar.{IsDay, day_text}
use Rattle.rep_fields.proofs.StampTexts.{day_text-injective}
use Rattle.rep_io.specs.Streams.{IsReading}
use Rattle.rep_disk.specs.declared.image.Image.{Image}
use Rattle.rep_wire.specs.Fields.{fields_of}
use Rattle.rep_wire.specs.LaneGrammar.{Orders}
use Rattle.rep_wire.specs.declared.head.LaneHead.{LaneHead}
use Rattle.rep_wire.specs.declared.request.Request.{Request}
use Rattle.rep_wire.specs.declared.request.Order.{Order}
use Rattle.rep_wire.specs.declared.request.Order.TheVariants.{Asked, Extract as Extraction}
use Rattle.rep_wire.specs.declared.reading.Malformed.{Malformed}
use Rattle.rep_wire.proofs.FieldLemmas.{fields_of-some}
use Rattle.rep_world.specs.declared.event.Event.TheVariants.{Send, Deliver, Fail, Crash, Rest, Reopen, Extract}
use Rattle.rep_drill.specs.Schedule.{IsCall, IsHeadBy, IsMessageNumber, SaysFields, SaysNone, image_text, lost_text}
use Rattle.rep_drill.proofs.Letters.{has_letter}
use Rattle.rep_drill.proofs.Events.{one_head, one_line}

-- no value is written so
abbrev pub IsOff : {V : Type 0} → (V → Type 0) → (V → List ℕ) → List ℕ → Type 0
IsOff {V} InRange text bytes = (v : V) → InRange v → bytes ≡ text v → ⊥

-- what the fields behind a letter would have to be
sends_none : (behind : List (List ℕ))
    → ((origin kind line : List ℕ) (head : LaneHead) (q : Request) → IsHeadBy origin kind head → Orders head line (Asked q)
    → behind ≡ origin ∷ kind ∷ fields_of line → ⊥)
    → SaysNone (codes "S" ∷ behind)
sends_none behind none (Send q) says =
    none says.origin says.kind says.line says.head q says.is_head says.asks (ap (drop 1) says.written)
sends_none behind none event says = let byte = has_letter (codes "S" ∷ behind) event says in absurd (omega arith)

delivers_none : (behind : List (List ℕ))
    → ((k minute : ℕ) (lost : Bool) → IsMessageNumber k → IsReading minute
    → behind ≡ decimal k ∷ decimal minute ∷ lost_text lost ∷ [] → ⊥)
    → SaysNone (codes "D" ∷ behind)
delivers_none behind none (Deliver k minute lost) says = none k minute lost says.0 says.1 (ap (drop 1) says.2)
delivers_none behind none event says = let byte = has_letter (codes "D" ∷ behind) event says in absurd (omega arith)

fails_none : (behind : List (List ℕ))
    → ((k minute call : ℕ) → IsMessageNumber k → IsReading minute → IsCall call
    → behind ≡ decimal k ∷ decimal minute ∷ decimal call ∷ [] → ⊥)
    → SaysNone (codes "F" ∷ behind)
fails_none behind none (Fail k minute call) says = none k minute call says.0 says.1 says.2 (ap (drop 1) says.3)
fails_none behind none event says = let byte = has_letter (codes "F" ∷ behind) event says in absurd (omega arith)

crashes_none : (behind : List (List ℕ))
    → ((k minute call : ℕ) (image : Image) → IsMessageNumber k → IsReading minute → IsCall call
    → behind ≡ decimal k ∷ decimal minute ∷ decimal call ∷ image_text image ∷ [] → ⊥)
    → SaysNone (codes "K" ∷ behind)
crashes_none behind none (Crash k minute call image) says = none k minute call image says.0 says.1 says.2 (ap (drop 1) says.3)
crashes_none behind none event says = let byte = has_letter (codes "K" ∷ behind) event says in absurd (omega arith)

rests_none : (behind : List (List ℕ)) → ((image : Image) → behind ≡ image_text image ∷ [] → ⊥) → SaysNone (codes "C" ∷ behind)
rests_none behind none (Rest image) says = none image (ap (drop 1) says)
rests_none behind none event says = let byte = has_letter (codes "C" ∷ behind) event says in absurd (omega arith)

pub reopens_none : (behind : List (List ℕ)) → 0 < length behind → SaysNone (codes "O" ∷ behind)
reopens_none behind some Reopen says = let none = ap length says in omega arith
reopens_none behind some event says = let byte = has_letter (codes "O" ∷ behind) event says in absurd (omega arith)

extracts_none : (behind : List (List ℕ))
    → ((from to minute : ℕ) → IsDay from → IsDay to → from ≤ to → IsReading minute
    → behind ≡ day_text from ∷ day_text to ∷ decimal minute ∷ [] → ⊥)
    → SaysNone (codes "X" ∷ behind)
extracts_none behind none (Extract from to minute) says = none from to minute says.0 says.1 says.2 says.3 (ap (drop 1) says.4)
extracts_none behind none event says = let byte = has_letter (codes "X" ∷ behind) event says in absurd (omega arith)

-- no letter of an event
pub letter_none : (first : List ℕ) (behind : List (List ℕ)) → first ≢ codes "S" → first ≢ codes "D" → first ≢ codes "F" → first ≢ codes "K" → first ≢ codes "C" → first ≢ codes "O" → first ≢ codes "X"
    → SaysNone (first ∷ behind)
letter_none first behind s d f k c o x (Send q) says = s (ap (λ (fs : List (List ℕ)). get_or fs 0 []) says.written)
letter_none first behind s d f k c o x (Deliver number minute lost) says = d (ap (λ (fs : List (List ℕ)). get_or fs 0 []) says.2)
letter_none first behind s d f k c o x (Fail number minute call) says = f (ap (λ (fs : List (List ℕ)). get_or fs 0 []) says.3)
letter_none first behind s d f k c o x (Crash number minute call image) says = k (ap (λ (fs : List (List ℕ)). get_or fs 0 []) says.3)
letter_none first behind s d f k c o x (Rest image) says = c (ap (λ (fs : List (List ℕ)). get_or fs 0 []) says)
letter_none first behind s d f k c o x Reopen says = o (ap (λ (fs : List (List ℕ)). get_or fs 0 []) says)
letter_none first behind s d f k c o x (Extract from to minute) says = x (ap (λ (fs : List (List ℕ)). get_or fs 0 []) says.4)

-- a message that is sent

pub send_short : (behind : List (List ℕ)) → length behind < 3 → SaysNone (codes "S" ∷ behind)
send_short behind few =
    sends_none behind (λ origin kind line head q of_head asks is.
    let size = ap length is in
    let some = fields_of-some line in
    omega arith)

pub send_no_head : (behind : List (List ℕ)) (origin kind line : List ℕ) → behind ≡ origin ∷ kind ∷ fields_of line
    → ((head : LaneHead) → IsHeadBy origin kind head → ⊥) → SaysNone (codes "S" ∷ behind)
send_no_head behind origin kind line is none =
    sends_none behind (λ origin' kind' line' head q of_head asks is'.
    let same : origin' ∷ kind' ∷ fields_of line' ≡ origin ∷ kind ∷ fields_of line = sym is' ∙ is in
    none head (subst (λ (text : List ℕ). IsHeadBy origin text head) (ap (λ (fs : List (List ℕ)). get_or fs 1 []) same)
    (subst (λ (text : List ℕ). IsHeadBy text kind' head) (ap (λ (fs : List (List ℕ)). get_or fs 0 []) same) of_head)))

-- the line that a lane of the head orders
sent_line : (behind : List (List ℕ)) (origin kind line : List ℕ) (head : LaneHead) → behind ≡ origin ∷ kind ∷ fields_of line → IsHeadBy origin kind head
    → ((q : Request) → Orders head line (Asked q) → ⊥) → SaysNone (codes "S" ∷ behind)
sent_line behind origin kind line head is of_head none =
    sends_none behind (λ origin' kind' line' head' q of_head' asks is'.
    let same : origin' ∷ kind' ∷ fields_of line' ≡ origin ∷ kind ∷ fields_of line = sym is' ∙ is in
    let lines : line' ≡ line = one_line line' line (ap (drop 2) same) in
    let heads : head' ≡ head = one_head origin kind head' head
    (subst (λ (text : List ℕ). IsHeadBy origin text head') (ap (λ (fs : List (List ℕ)). get_or fs 1 []) same)
    (subst (λ (text : List ℕ). IsHeadBy text kind' head') (ap (λ (fs : List (List ℕ)). get_or fs 0 []) same) of_head')) of_head in
    none q (subst (λ (l : List ℕ). Orders head l (Asked q)) lines (subst (λ (h : LaneHead). Orders h line' (Asked q)) heads asks)))

pub send_extracts : (behind : List (List ℕ)) (origin kind line : List ℕ) (head : LaneHead) (result : Result Order Malformed) (seq from to : ℕ)
    → behind ≡ origin ∷ kind ∷ fields_of line → IsHeadBy origin kind head → result ≡ Ok (Extraction seq from to)
    → ((order : Order) → Orders head line order → result ≡ Ok order) → SaysNone (codes "S" ∷ behind)
send_extracts behind origin kind line head result seq from to is of_head extracts only =
    sent_line behind origin kind line head is of_head (λ q asks. let asked = only (Asked q) asks in cc)

pub send_malformed : (behind : List (List ℕ)) (origin kind line : List ℕ) (head : LaneHead) (result : Result Order Malformed) (fault : Malformed)
    → behind ≡ origin ∷ kind ∷ fields_of line → IsHeadBy origin kind head → result ≡ Err fault
    → ((order : Order) → Orders head line order → result ≡ Ok order) → SaysNone (codes "S" ∷ behind)
send_malformed behind origin kind line head result fault is of_head malformed only =
    sent_line behind origin kind line head is of_head (λ q asks. let asked = only (Asked q) asks in cc)

pub send_says : (behind : List (List ℕ)) (origin kind line : List ℕ) (head : LaneHead) (q : Request) → behind ≡ origin ∷ kind ∷ fields_of line → IsHeadBy origin kind head
    → Orders head line (Asked q) → SaysFields (codes "S" ∷ behind) (Send q)
send_says behind origin kind line head q is of_head asks = record {
  origin = origin;
  kind = kind;
  head = head;
  is_head = of_head;
  line = line;
  written = ap (λ (fs : List (List ℕ)). codes "S" ∷ fs) is;
  asks = asks;
}

-- a message that is delivered
module _ (behind : List (List ℕ)) where
  pub deliver_number : length behind ≢ 3 → SaysNone (codes "D" ∷ behind)
  deliver_number other = delivers_none behind (λ k minute lost of_k of_minute is. other (ap length is))

  pub fail_number : length behind ≢ 3 → SaysNone (codes "F" ∷ behind)
  fail_number other = fails_none behind (λ k minute call of_k of_minute of_call is. other (ap length is))

  pub crash_none : behind ≡ [] → SaysNone (codes "K" ∷ behind)
  crash_none none = crashes_none behind (λ k minute call image of_k of_minute of_call is. let size = ap length is in let nothing = ap length none in omega arith)

  pub crash_number : (k : List ℕ) (rest : List (List ℕ)) → behind ≡ k ∷ rest → length rest ≢ 3 → SaysNone (codes "K" ∷ behind)
  crash_number k rest is other = crashes_none behind (λ k' minute call image of_k of_minute of_call is'. other (ap (λ (fs : List (List ℕ)). length (drop 1 fs)) (sym is ∙ is')))

  pub rest_number : length behind ≢ 1 → SaysNone (codes "C" ∷ behind)
  rest_number other = rests_none behind (λ image is. other (ap length is))

  pub extract_number : length behind ≢ 3 → SaysNone (codes "X" ∷ behind)
  extract_number other = extracts_none behind (λ from to minute of_from of_to ordered of_minute is. other (ap length is))

module _ (behind : List (List ℕ)) (first second third : List ℕ) (three : behind ≡ first ∷ second ∷ third ∷ []) where
  pub deliver_k : IsOff IsMessageNumber decimal first → SaysNone (codes "D" ∷ behind)
  deliver_k off = delivers_none behind (λ k minute lost of_k of_minute is. off k of_k (ap (λ (fs : List (List ℕ)). get_or fs 0 []) (sym three ∙ is)))

  pub deliver_minute : IsOff IsReading decimal second → SaysNone (codes "D" ∷ behind)
  deliver_minute off = delivers_none behind (λ k minute lost of_k of_minute is. off minute of_minute (ap (λ (fs : List (List ℕ)). get_or fs 1 []) (sym three ∙ is)))

  pub deliver_lost : IsOff {V = Bool} (λ _. Unit {0}) lost_text third → SaysNone (codes "D" ∷ behind)
  deliver_lost off = delivers_none behind (λ k minute lost of_k of_minute is. off lost tt (ap (λ (fs : List (List ℕ)). get_or fs 2 []) (sym three ∙ is)))

  pub deliver_says : (k minute : ℕ) (lost : Bool) → IsMessageNumber k × (first ≡ decimal k) → IsReading minute × (second ≡ decimal minute)
      → third ≡ lost_text lost → SaysFields (codes "D" ∷ behind) (Deliver k minute lost)
  deliver_says k minute lost of_k of_minute of_lost = (of_k.0, of_minute.0, let one = of_k.1 in let two = of_minute.1 in cc)

  pub fail_k : IsOff IsMessageNumber decimal first → SaysNone (codes "F" ∷ behind)
  fail_k off = fails_none behind (λ k minute call of_k of_minute of_call is. off k of_k (ap (λ (fs : List (List ℕ)). get_or fs 0 []) (sym three ∙ is)))

  pub fail_minute : IsOff IsReading decimal second → SaysNone (codes "F" ∷ behind)
  fail_minute off = fails_none behind (λ k minute call of_k of_minute of_call is. off minute of_minute (ap (λ (fs : List (List ℕ)). get_or fs 1 []) (sym three ∙ is)))

  pub fail_call : IsOff IsCall decimal third → SaysNone (codes "F" ∷ behind)
  fail_call off = fails_none behind (λ k minute call of_k of_minute of_call is. off call of_call (ap (λ (fs : List (List ℕ)). get_or fs 2 []) (sym three ∙ is)))

  pub fail_says : (k minute call : ℕ) → IsMessageNumber k × (first ≡ decimal k) → IsReading minute × (second ≡ decimal minute)
      → IsCall call × (third ≡ decimal call) → SaysFields (codes "F" ∷ behind) (Fail k minute call)
  fail_says k minute call of_k of_minute of_call = (of_k.0, of_minute.0, of_call.0, let one = of_k.1 in let two = of_minute.1 in let three_is = of_call.1 in cc)

  pub extract_from : IsOff IsDay day_text first → SaysNone (codes "X" ∷ behind)
  extract_from off = extracts_none behind (λ from to minute of_from of_to ordered of_minute is. off from of_from (ap (λ (fs : List (List ℕ)). get_or fs 0 []) (sym three ∙ is)))

  pub extract_to : IsOff IsDay day_text second → SaysNone (codes "X" ∷ behind)
  extract_to off = extracts_none behind (λ from to minute of_from of_to ordered of_minute is. off to of_to (ap (λ (fs : List (List ℕ)). get_or fs 1 []) (sym three ∙ is)))

  pub extract_order : (from to : ℕ) → IsDay from × (first ≡ day_text from) → IsDay to × (second ≡ day_text to) → to < from → SaysNone (codes "X" ∷ behind)
  extract_order from to of_from of_to less = extracts_none behind (λ from' to' minute of_from' of_to' ordered of_minute is.
      let froms : from' ≡ from = day_text-injective from' from of_from' of_from.0 (sym (ap (λ (fs : List (List ℕ)). get_or fs 0 []) (sym three ∙ is)) ∙ of_from.1) in
      let tos : to' ≡ to = day_text-injective to' to of_to' of_to.0 (sym (ap (λ (fs : List (List ℕ)). get_or fs 1 []) (sym three ∙ is)) ∙ of_to.1) in
      omega arith)

  pub extract_minute : IsOff IsReading decimal third → SaysNone (codes "X" ∷ behind)
  extract_minute off = extracts_none behind (λ from to minute of_from of_to ordered of_minute is. off minute of_minute (ap (λ (fs : List (List ℕ)). get_or fs 2 []) (sym three ∙ is)))

  pub extract_says : (from to minute : ℕ) → IsDay from × (first ≡ day_text from) → IsDay to × (second ≡ day_text to) → from ≤ to
      → IsReading minute × (third ≡ decimal minute) → SaysFields (codes "X" ∷ behind) (Extract from to minute)
  extract_says from to minute of_from of_to ordered of_minute = (of_from.0, of_to.0, ordered, of_minute.0, let one = of_from.1 in let two = of_to.1 in let three_is = of_minute.1 in cc)

module _ (behind rest : List (List ℕ)) (first second third fourth : List ℕ) (split : behind ≡ first ∷ rest) (three : rest ≡ second ∷ third ∷ fourth ∷ []) where
  four : behind ≡ first ∷ second ∷ third ∷ fourth ∷ []
  four = cc

  pub crash_k : IsOff IsMessageNumber decimal first → SaysNone (codes "K" ∷ behind)
  crash_k off = crashes_none behind (λ k minute call image of_k of_minute of_call is. off k of_k (ap (λ (fs : List (List ℕ)). get_or fs 0 []) (sym four ∙ is)))

  pub crash_minute : IsOff IsReading decimal second → SaysNone (codes "K" ∷ behind)
  crash_minute off = crashes_none behind (λ k minute call image of_k of_minute of_call is. off minute of_minute (ap (λ (fs : List (List ℕ)). get_or fs 1 []) (sym four ∙ is)))

  pub crash_call : IsOff IsCall decimal third → SaysNone (codes "K" ∷ behind)
  crash_call off = crashes_none behind (λ k minute call image of_k of_minute of_call is. off call of_call (ap (λ (fs : List (List ℕ)). get_or fs 2 []) (sym four ∙ is)))

  pub crash_image : IsOff {V = Image} (λ _. Unit {0}) image_text fourth → SaysNone (codes "K" ∷ behind)
  crash_image off = crashes_none behind (λ k minute call image of_k of_minute of_call is. off image tt (ap (λ (fs : List (List ℕ)). get_or fs 3 []) (sym four ∙ is)))

  pub crash_says : (k minute call : ℕ) (image : Image) → IsMessageNumber k × (first ≡ decimal k) → IsReading minute × (second ≡ decimal minute)
      → IsCall call × (third ≡ decimal call) → fourth ≡ image_text image → SaysFields (codes "K" ∷ behind) (Crash k minute call image)
  crash_says k minute call image of_k of_minute of_call of_image =
      (of_k.0, of_minute.0, of_call.0, let one = of_k.1 in let two = of_minute.1 in let three_is = of_call.1 in cc)

module _ (behind : List (List ℕ)) (first : List ℕ) (one : behind ≡ first ∷ []) where
  pub rest_image : IsOff {V = Image} (λ _. Unit {0}) image_text first → SaysNone (codes "C" ∷ behind)
  rest_image off = rests_none behind (λ image is. off image tt (ap (λ (fs : List (List ℕ)). get_or fs 0 []) (sym one ∙ is)))

  pub rest_says : (image : Image) → first ≡ image_text image → SaysFields (codes "C" ∷ behind) (Rest image)
  rest_says image of_image = cc
