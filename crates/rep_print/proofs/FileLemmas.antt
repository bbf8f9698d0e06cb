-- How the AFD of a history is made.
use Rattle.std.proofs.Common.{◌≡◌, ℕ, ◌+◌, ◌-◌, ◌≤◌, List, [], ◌∷◌, ◌++◌, length, take, get_or, All, Option, Some, refl, sym, ap, subst, ◌∙◌, arith, replicate, ℤ, Result, Ok, Err}
use Rattle.std.proofs.lemmas.List.{take_more, take_all, length-map}
use Rattle.afd_records.specs.File.{file_text, counts_of}
use Rattle.afd_records.specs.declared.record.Body.{Body}
use Rattle.afd_records.specs.declared.record.Body.TheVariants.{Employer, Adjust, Worker, Event, Clocking}
use Rattle.afd_records.specs.declared.header.Head.{Head}
use Rattle.rep_fields.specs.Moment.{Moment, moment_at}
use Rattle.rep_fields.specs.declared.employer.EmployerId.{EmployerId}
use Rattle.rep_wire.specs.declared.request.Entry.{Entry}
use Rattle.rep_core.specs.Chained.{history_lines}
use Rattle.rep_core.specs.History.{bodies_of, IsNumbered, IsEmployer, IsLastEmployer, days_of}
use Rattle.rep_core.proofs.Lines.{length-history_lines}
use Rattle.rep_core.proofs.Numbered.{place_of_number, IsNumbered-unique}
use Rattle.rep_journal.specs.Format.{Framed}
use Rattle.rep_ledger.specs.Ledger.{frames_of, frames_with}
use Rattle.afd_extract.specs.Period.{Range, in_range}
use Rattle.afd_extract.specs.Extract.{extract_text, lines_in, lines_of, IsPut, WritesExtract}
use Rattle.afd_extract.specs.declared.error.WriteFail.{WriteFail}
use Rattle.rep_print.specs.Afd.{IsPrintHead, IsAskedHead, NamesEmployer, IsLeast, IsGreatest}
use Rattle.rep_print.specs.Writing.{HasEmployer, WritesAfd}
use Rattle.rep_print.specs.FileSteps.{IsSpan, PutsText}

-- the head

pub no_employer : (h : List Entry) → All (λ d. IsEmployer d.body → ⊥) h → HasEmployer h → ⊥
no_employer h none has =
    let nsr = has.0 in
    let e = has.1 in
    let last = has.2 in
    let at = place_of_number h nsr e e last.numbered in
    none (nsr - 1) e (omega (arith, at.0, at.1)) (subst (λ (d : Entry). IsEmployer d.body) (sym at.2) last.employer)

pub employer_form : (b : Body) → IsEmployer b
    → ((at : Moment) (resp : ℕ) (id : EmployerId) (cno : ℕ) (name place : List ℕ) → b ≡ Employer at resp id cno name place → ⊥) → ⊥
employer_form (Employer at resp id cno name place) is other = other at resp id cno name place refl
employer_form (Adjust before after resp) is other = is
employer_form (Worker at op cpf name extra resp) is other = is
employer_form (Event at code) is other = is
employer_form (Clocking marked cpf recorded collector offline) is other = is

pub IsLastEmployer-numbered : (h : List Entry) (nsr : ℕ) (e d : Entry) → IsLastEmployer h nsr e → IsNumbered h nsr d → IsLastEmployer h nsr d
IsLastEmployer-numbered h nsr e d last numbered =
    subst (λ x. IsLastEmployer h nsr x) (IsNumbered-unique h nsr e d last.numbered numbered) last

pub IsAskedHead-of : (zone : ℤ) (h : List Entry) (from to minute nsr : ℕ) (e : Entry) (head : Head)
    {at : Moment} {resp : ℕ} {id : EmployerId} {cno : ℕ} {name place : List ℕ}
    → IsLastEmployer h nsr e → e.body ≡ Employer at resp id cno name place → head.id ≡ id → head.cno ≡ cno → head.name ≡ name
    → head.rep ≡ replicate 17 48 → head.first ≡ from → head.last ≡ to → head.made ≡ moment_at minute zone → head.dev_kind ≡ 1
    → head.dev ≡ replicate 14 48 → head.model ≡ [] → IsAskedHead zone h from to minute head
IsAskedHead-of zone h from to minute nsr e head last is id_is cno_is name_is rep first_is last_is made kind dev model = record {
  employer = (nsr, e, last, subst (λ b. NamesEmployer head b) (sym is) (id_is, cno_is, name_is));
  rep = rep;
  first = first_is;
  last = last_is;
  made = made;
  dev_kind = kind;
  dev = dev;
  model = model;
}

-- the head with the history's own first and last day
pub IsPrintHead-of : (zone : ℤ) (h : List Entry) (from to minute : ℕ) (head : Head) → IsAskedHead zone h from to minute head → IsSpan h from to → IsPrintHead zone h minute head
IsPrintHead-of zone h from to minute head asked span = record {
  employer = asked.employer;
  rep = asked.rep;
  first = subst (λ (n : ℕ). IsLeast n (days_of h)) (sym asked.first) span.first_is;
  last = subst (λ (n : ℕ). IsGreatest n (days_of h)) (sym asked.last) span.last_is;
  made = asked.made;
  dev_kind = asked.dev_kind;
  dev = asked.dev;
  model = asked.model;
}

-- the entries up to a number
pub take-numbered : (h : List Entry) (n : ℕ) (e : Entry) → IsNumbered h (n + 1) e → take (n + 1) h ≡ take n h ++ e ∷ []
take-numbered h n e numbered =
    let at = place_of_number h (n + 1) e e numbered in
    let place : n ≡ n + 1 - 1 = omega arith in
    take_more h n e (omega (arith, at.1)) ∙ ap (λ d. take n h ++ d ∷ []) (ap (λ i. get_or h i e) place ∙ at.2)

-- the lines of all frames

pub all_in_range : {X : Type 0} (n : ℕ) (xs : List X) → length xs ≤ n → in_range (Some (1, n)) xs ≡ xs
all_in_range n xs all = take_all n xs all

-- what was written of all frames
pub PutsText-of : (head : Head) (frames : List Framed) (n : ℕ) (old new : Option (List ℕ)) (result : Result ℕ WriteFail) → n ≡ length frames
    → WritesExtract head frames (Some (1, n)) (Unit {0}) old new result → PutsText old new (extract_text head (lines_of frames)) result
PutsText-of head frames n old new result is writes =
    let told : writes.lines ≡ lines_in frames (Some (1, n)) = writes.made_of.told tt in
    let all : lines_in frames (Some (1, n)) ≡ lines_of frames = all_in_range n (lines_of frames) (omega (arith, is, length-map frames (λ (f : Framed). f.line))) in
    put_of result (subst (λ (ls : List (List ℕ)). IsPut writes.put (extract_text head ls) result) (told ∙ all) writes.is_put)
  where
    put_of : (r : Result ℕ WriteFail) → IsPut writes.put (extract_text head (lines_of frames)) r → PutsText old new (extract_text head (lines_of frames)) r
    put_of (Ok count) put = record { put = writes.put; appended = writes.appended; is_put = put }
    put_of (Err why) put = record { put = writes.put; appended = writes.appended; is_put = put }

-- the frames of a history have its lines

lines_with : (h : List Entry) (lines : List (List ℕ)) → length lines ≡ length h → lines_of (frames_with h lines) ≡ lines
lines_with [] [] same = refl
lines_with [] (l ∷ lines) same = absurd (omega arith)
lines_with (e ∷ h) [] same = absurd (omega arith)
lines_with (e ∷ h) (l ∷ lines) same = ap (λ ls. l ∷ ls) (lines_with h lines (omega arith))

pub lines_of-frames_of : (h : List Entry) → lines_of (frames_of h) ≡ history_lines h
lines_of-frames_of h = lines_with h (history_lines h) (length-history_lines h)

-- the AFD of all frames is that of all records, since that of a range of frames is that of its records
pub text_of_history : ((head : Head) (h : List Entry) (frames : List Framed) (range : Range) → lines_of frames ≡ history_lines h
    → extract_text head (lines_in frames range) ≡ file_text head (in_range range (history_lines h)) (counts_of (in_range range (bodies_of h))))
    → (head : Head) (h : List Entry) (frames : List Framed) → frames ≡ frames_of h
    → extract_text head (lines_of frames) ≡ file_text head (history_lines h) (counts_of (bodies_of h))
text_of_history of_range head h frames is =
    let n = length h in
    let lines : lines_of frames ≡ history_lines h = ap (λ (fs : List Framed). lines_of fs) is ∙ lines_of-frames_of h in
    let few : length (lines_of frames) ≤ n = omega (arith, ap length lines, length-history_lines h) in
    ap (λ (ls : List (List ℕ)). extract_text head ls) (sym (all_in_range n (lines_of frames) few))
    ∙ of_range head h frames (Some (1, n)) lines
    ∙ ap (λ (ls : List (List ℕ)). file_text head ls (counts_of (in_range (Some (1, n)) (bodies_of h)))) (all_in_range n (history_lines h) (omega (arith, length-history_lines h)))
    ∙ ap (λ (bs : List Body). file_text head (history_lines h) (counts_of bs)) (all_in_range n (bodies_of h) (omega (arith, length-map h (λ (e : Entry). e.body))))

-- the AFD
pub WritesAfd-of : {E : Type 0} (zone : ℤ) (h : List Entry) (minute : ℕ) (old new : Option (List ℕ)) (head : Head) (text : List ℕ) (result : Result ℕ E)
    → IsPrintHead zone h minute head → text ≡ file_text head (history_lines h) (counts_of (bodies_of h)) → PutsText old new text result
    → WritesAfd zone h minute old new result
WritesAfd-of zone h minute old new head text (Ok count) headed is puts = record {
  file = text;
  printed = record { head = head; headed = headed; text = is };
  bytes = puts.put;
  appended = puts.appended;
  whole = puts.is_put.0;
}
WritesAfd-of zone h minute old new head text (Err e) headed is puts = record {
  file = text;
  printed = record { head = head; headed = headed; text = is };
  bytes = puts.put;
  appended = puts.appended;
  whole = puts.is_put;
}
