-- What an extraction puts, from what its parts put.
use Rattle.std.proofs.Common.{◌≡◌, ℕ, ◌+◌, ◌-◌, ◌<◌, List, [], ◌∷◌, ◌++◌, length, take, drop, Bool, true, false, Option, Some, None, Result, Ok, Err, refl, sym, ap, subst, ◌∙◌, append_assoc, append-nil, arith, length-drop}
use Rattle.std.proofs.lemmas.List.{length-map, length-take}
use Rattle.std.specs.Prelude.{IfOk, IfSome, IsSome, is_err}
use Rattle.std.specs.Io.KnownBytes.{append_known}
use Rattle.std.proofs.lemmas.List.{take-append-drop}
use Rattle.afd_records.specs.File.{counts_of, file_text}
use Rattle.afd_records.specs.declared.header.Head.{Head}
use Rattle.rep_disk.specs.Disk.{Shown}
use Rattle.rep_io.specs.Streams.{WritesAll}
use Rattle.rep_wire.specs.declared.request.Entry.{Entry}
use Rattle.rep_core.specs.Chained.{history_lines}
use Rattle.rep_core.specs.Core.{Kept}
use Rattle.rep_core.specs.History.{bodies_of, days_of}
use Rattle.rep_core.proofs.Lines.{length-history_lines}
use Rattle.rep_journal.specs.Format.{Framed}
use Rattle.rep_journal.specs.State.{IsSame}
use Rattle.rep_ledger.specs.Ledger.{IsLedgerOf, frames_of, frames_with}
use Rattle.rep_ledger.proofs.DiskSteps.{IsAtRest-read}
use Rattle.rep_site.specs.declared.site.Site.{Site}
use Rattle.afd_extract.specs.Extract.{AreLinesIn, IsRangeIn, IsStrictFront, WritesExtract, extract_text, lines_in, lines_of}
use Rattle.afd_extract.specs.Period.{IsPeriod, Range, in_range}
use Rattle.afd_extract.specs.declared.error.WriteFail.{WriteFail}
use Rattle.rep_store.specs.Device.{Device, journal_of}
use Rattle.rep_store.specs.Extracting.{Extracts, IsAfdOf, IsDue, IsExtractHead, IsPutBehind, IsPutOf, IsPutOfLines, PutsExtract, PutsLead, TellsSize, failed_by_disk, lead_text}
use Rattle.rep_store.specs.Fields.{IsWhole, state_of}
use Rattle.rep_store.specs.State.{CountsStop, IsKept}
use Rattle.rep_store.specs.Steps.{Ticks}
use Rattle.rep_store.specs.declared.error.ExtractFail.{ExtractFail}
use Rattle.rep_store.specs.declared.extracting.Lead.{Lead}
use Rattle.rep_store.proofs.Parts.{settled_of}
use Rattle.rep_store.proofs.Sizes.{range_within}

pub append_known-append : (o : Option (List ℕ)) (xs ys : List ℕ) → append_known (append_known o xs) ys ≡ append_known o (xs ++ ys)
append_known-append None xs ys = refl
append_known-append (Some z) xs ys = ap Some (append_assoc z xs ys)

append_known-nil : (o : Option (List ℕ)) → append_known o [] ≡ o
append_known-nil None = refl
append_known-nil (Some z) = ap Some (append-nil z)

-- the lines of a history's frames are its lines
lines_of-with : (h : List Entry) (lines : List (List ℕ)) → length lines ≡ length h → lines_of (frames_with h lines) ≡ lines
lines_of-with [] [] same = refl
lines_of-with [] (l ∷ lines) same = absurd (omega arith)
lines_of-with (e ∷ h) [] same = absurd (omega arith)
lines_of-with (e ∷ h) (l ∷ lines) same = ap (λ ls. l ∷ ls) (lines_of-with h lines (omega arith))

pub lines_of-frames : (h : List Entry) → lines_of (frames_of h) ≡ history_lines h
lines_of-frames h = lines_of-with h (history_lines h) (length-history_lines h)

lead_same : (lead : Option Lead) (m n front : ℕ) → (IsSome lead → m ≡ n) → lead_text lead m front ≡ lead_text lead n front
lead_same None m n front same = refl
lead_same (Some lead) m n front same = ap (λ k. lead_text (Some lead) k front) (same refl)

-- no line is asked for
pub PutsLead-none : {E : Type 0} (site : Site) (h : List Entry) (from to : ℕ) (o : Option (List ℕ)) → let result : Result (Unit {0}) E = Ok tt in PutsLead site h None from to o o result
PutsLead-none site h from to o = record {
  size = 0;
  is_size = λ told minute text afd. absurd cc;
  put = [];
  appended = sym (append_known-nil o);
  is_put = refl;
}

front_of_piece : (n : ℕ) (piece : List ℕ) → n < length piece → IsStrictFront (take n piece) piece
front_of_piece n piece less = (
  drop n piece,
  λ none. let size : length (drop n piece) ≡ 0 = ap length none in absurd (omega (arith, length-drop n piece)),
  sym (take-append-drop n piece),
)

-- the line was put, or a front of it
pub PutsLead-line : {E : Type 0} (site : Site) (h : List Entry) (lead : Lead) (from to : ℕ) (was now : Option (List ℕ)) (size : ℕ) (piece : List ℕ) (result : Result (Unit {0}) E) → ((minute : ℕ) (text : List ℕ) → IsAfdOf site h from to minute text → size ≡ length text) → piece ≡ lead_text (Some lead) size (length h) → WritesAll was now result piece → PutsLead site h (Some lead) from to was now result
PutsLead-line site h lead from to was now size piece (Ok done) is_size same writes = record {
  size = size;
  is_size = λ told. is_size;
  put = piece;
  appended = writes;
  is_put = same;
}
PutsLead-line site h lead from to was now size piece (Err fail) is_size same writes = record {
  size = size;
  is_size = λ told. is_size;
  put = take writes.0 piece;
  appended = writes.2;
  is_put = subst (λ (text : List ℕ). IsStrictFront (take writes.0 piece) text) same (front_of_piece writes.0 piece writes.1);
}

module _ (site : Site) (h : List Entry) (lead : Option Lead) (from to minute : ℕ) (range : Range) (head : Head) (period : IsPeriod (days_of h) from to range) (headed : IsExtractHead site h from to minute head) where
  afd : List ℕ
  afd = file_text head (in_range range (history_lines h)) (counts_of (in_range range (bodies_of h)))

  is_due : (text : List ℕ) (size : ℕ) → text ≡ file_text head (in_range range (history_lines h)) (counts_of (in_range range (bodies_of h))) → TellsSize site h lead from to size → IsDue site h lead from to minute (lead_text lead size (length h) ++ text) (length text)
  is_due text size written is_size =
      let is_afd : IsAfdOf site h from to minute text = record { range = range; period = period; head = head; headed = headed; written = written } in
      record {
        afd = text;
        is_afd = is_afd;
        text = ap (λ line. line ++ text) (lead_same lead size (length text) (length h) (λ asked. is_size asked minute text is_afd));
        size_is = refl;
      }

  front_behind : (line line' put text : List ℕ) → line ≡ line' → IsStrictFront put text → IsStrictFront (line ++ put) (line' ++ text)
  front_behind line line' put text same front = (
    front.0,
    front.1,
    ap (λ xs. line' ++ xs) front.2 ∙ ap (λ xs. xs ++ (put ++ front.0)) (sym same) ∙ sym (append_assoc line put front.0),
  )

  front_of_both : (put line text : List ℕ) → IsStrictFront put line → IsStrictFront put (line ++ text)
  front_of_both put line text front = (
    front.0 ++ text,
    λ none. front.1 (append_nil_left front.0 text none),
    ap (λ xs. xs ++ text) front.2 ∙ append_assoc put front.0 text,
  )
    where
      append_nil_left : (xs ys : List ℕ) → xs ++ ys ≡ [] → xs ≡ []
      append_nil_left [] ys e = refl
      append_nil_left (x ∷ xs) ys e = absurd cc

  -- the sink failed at the line in front
  pub IsPutOf-lead : (put : List ℕ) (size : ℕ) (fail : ExtractFail) → TellsSize site h lead from to size → IsStrictFront put (lead_text lead size (length h)) → IsPutOf site h lead from to minute put (Err fail)
  IsPutOf-lead put size fail is_size front =
      let text = file_text head (in_range range (history_lines h)) (counts_of (in_range range (bodies_of h))) in
      (lead_text lead size (length h) ++ text, length text, is_due text size refl is_size, front_of_both put (lead_text lead size (length h)) text front)

  -- the file was put behind it, or a front of the file
  pub IsPutOf-file : (line put text : List ℕ) (size count : ℕ) → line ≡ lead_text lead size (length h) → text ≡ file_text head (in_range range (history_lines h)) (counts_of (in_range range (bodies_of h))) → TellsSize site h lead from to size → (put ≡ text) × (count ≡ length text) → IsPutOf site h lead from to minute (line ++ put) (Ok count)
  IsPutOf-file line put text size count is_line written is_size is_put =
      subst (λ (n : ℕ). IsPutOf site h lead from to minute (line ++ put) (Ok n)) (sym is_put.1)
      (subst (λ (xs : List ℕ). IsDue site h lead from to minute xs (length text)) (sym (ap (λ xs. xs ++ put) is_line ∙ ap (λ xs. lead_text lead size (length h) ++ xs) is_put.0))
      (is_due text size written is_size))

  pub IsPutOf-cut : (line put text : List ℕ) (size : ℕ) (fail : ExtractFail) → line ≡ lead_text lead size (length h) → text ≡ file_text head (in_range range (history_lines h)) (counts_of (in_range range (bodies_of h))) → TellsSize site h lead from to size → IsStrictFront put text → IsPutOf site h lead from to minute (line ++ put) (Err fail)
  IsPutOf-cut line put text size fail is_line written is_size front = (
    lead_text lead size (length h) ++ text,
    length text,
    is_due text size written is_size,
    front_behind line (lead_text lead size (length h)) put text is_line front,
  )

  -- the same of lines as they were read
  of_lines : (put : List ℕ) (lines : List (List ℕ)) (size : ℕ) (result : Result ℕ ExtractFail) → length lines ≡ length (in_range range (history_lines h)) → TellsSize site h lead from to size → IsPutBehind (lead_text lead size (length h)) (extract_text head lines) put result → IsPutOfLines site h lead from to minute put result
  of_lines put lines size result many is_size is_put = record {
    range = range;
    period = period;
    head = head;
    headed = headed;
    lines = lines;
    as_many = many;
    size = size;
    is_size = is_size;
    is_put = is_put;
  }

  pub IsPutOfLines-lead : (put : List ℕ) (size : ℕ) (fail : ExtractFail) → TellsSize site h lead from to size → IsStrictFront put (lead_text lead size (length h)) → IsPutOfLines site h lead from to minute put (Err fail)
  IsPutOfLines-lead put size fail is_size front =
      let lines = in_range range (history_lines h) in
      of_lines put lines size (Err fail) refl is_size (front_of_both put (lead_text lead size (length h)) (extract_text head lines) front)

  pub IsPutOfLines-file : (line put : List ℕ) (lines : List (List ℕ)) (size count : ℕ) → line ≡ lead_text lead size (length h) → length lines ≡ length (in_range range (history_lines h)) → TellsSize site h lead from to size → (put ≡ extract_text head lines) × (count ≡ length (extract_text head lines)) → IsPutOfLines site h lead from to minute (line ++ put) (Ok count)
  IsPutOfLines-file line put lines size count is_line many is_size is_put =
      of_lines (line ++ put) lines size (Ok count) many is_size
      (ap (λ xs. xs ++ put) is_line ∙ ap (λ xs. lead_text lead size (length h) ++ xs) is_put.0, is_put.1)

  pub IsPutOfLines-cut : (line put : List ℕ) (lines : List (List ℕ)) (size : ℕ) (fail : ExtractFail) → line ≡ lead_text lead size (length h) → length lines ≡ length (in_range range (history_lines h)) → TellsSize site h lead from to size → IsStrictFront put (extract_text head lines) → IsPutOfLines site h lead from to minute (line ++ put) (Err fail)
  IsPutOfLines-cut line put lines size fail is_line many is_size front =
      of_lines (line ++ put) lines size (Err fail) many is_size
      (front_behind line (lead_text lead size (length h)) put (extract_text head lines) is_line front)

-- the disk was read
pub IsWhole-read : {D : Type 0} (shown : D → Shown) (core : Kept) (device device' : Device D) (site : Site) (failed : Bool) → IsWhole shown core device site → device.stopped ≡ None → device'.stopped ≡ None → IsSame shown failed (journal_of device) (journal_of device') → IsWhole shown core device' site
IsWhole-read shown core device device' site failed whole running runs same =
    let settled = settled_of shown core device site whole running in
    record {
      founded = whole.founded;
      numbers = whole.numbers;
      limit = whole.limit;
      of_site = whole.of_site;
      is_site = whole.is_site;
      disk = subst (λ o. IsKept o core.entries (shown device'.disk)) (sym runs) (record {
        holds = subst (λ o. IfSome o (λ bytes. IsLedgerOf bytes core.entries)) (sym same.disk.contents) settled.holds;
        rest = IsAtRest-read (shown device.disk) (shown device'.disk) settled.rest same.disk;
      });
      count = subst (λ o. CountsStop o device'.faults) (sym runs) tt;
      as_many = λ still. ap length same.frames ∙ whole.as_many running;
      frames = λ still told. same.frames ∙ whole.frames running (subst IsSome same.disk.contents told);
    }

-- a range takes as many of lists that are as long
length-in_range : {X Y : Type 0} (range : Range) (xs : List X) (ys : List Y) → length xs ≡ length ys → length (in_range range xs) ≡ length (in_range range ys)
length-in_range None xs ys same = refl
length-in_range (Some range) xs ys same = omega (
  arith,
  length-drop (range.0 - 1) (take range.1 xs),
  length-drop (range.0 - 1) (take range.1 ys),
  length-take range.1 xs,
  length-take range.1 ys,
)

pub lines_as_many : (h : List Entry) (frames : List Framed) (range : Range) → length frames ≡ length h → length (lines_in frames range) ≡ length (in_range range (history_lines h))
lines_as_many h frames range many =
    length-in_range range (lines_of frames) (history_lines h) (length-map frames (λ (f : Framed). f.line) ∙ many ∙ sym (length-history_lines h))

-- the whole of what an extraction puts
module _ (site : Site) (h : List Entry) (lead : Option Lead) (from to minute : ℕ) (range : Range) (head : Head) (period : IsPeriod (days_of h) from to range) (headed : IsExtractHead site h from to minute head) (Told : Type 0) where
  -- the sink failed at the line in front
  pub PutsExtract-lead : {E : Type 0} (was now : Option (List ℕ)) (result : Result (Unit {0}) E) (fail : ExtractFail) → is_err result ≡ true → PutsLead site h lead from to was now result → PutsExtract site h lead from to minute Told was now (Err fail)
  PutsExtract-lead was now (Ok done) fail failed puts = absurd cc
  PutsExtract-lead was now (Err e) fail failed puts = record {
    put = puts.put;
    appended = puts.appended;
    of_lines = IsPutOfLines-lead site h lead from to minute range head period headed puts.put puts.size fail puts.is_size puts.is_put;
    is_put = λ told. IsPutOf-lead site h lead from to minute range head period headed puts.put puts.size fail puts.is_size puts.is_put;
  }

  module _ {E : Type 0} (was mid now : Option (List ℕ)) (result : Result (Unit {0}) E) (done : is_err result ≡ false) (puts : PutsLead site h lead from to was mid result) (frames : List Framed) (many : length frames ≡ length h) (same : Told → frames ≡ frames_of h) (law : (head : Head) (h : List Entry) (frames : List Framed) (range : Range) → lines_of frames ≡ history_lines h → extract_text head (lines_in frames range) ≡ file_text head (in_range range (history_lines h)) (counts_of (in_range range (bodies_of h)))) where
    put_whole : (r : Result (Unit {0}) E) → is_err r ≡ false → (p : PutsLead site h lead from to was mid r) → p.put ≡ lead_text lead p.size (length h)
    put_whole (Ok unit) ok p = p.is_put
    put_whole (Err e) ok p = absurd cc

    appended : (w : List ℕ) → now ≡ append_known mid w → now ≡ append_known was (puts.put ++ w)
    appended w by = by ∙ ap (λ o. append_known o w) puts.appended ∙ append_known-append was puts.put w

    is_file : (lines : List (List ℕ)) → AreLinesIn frames range Told lines → Told → extract_text head lines ≡ file_text head (in_range range (history_lines h)) (counts_of (in_range range (bodies_of h)))
    is_file lines made told = ap (λ ls. extract_text head ls) (made.told told) ∙ law head h frames range (ap lines_of (same told) ∙ lines_of-frames h)

    as_many : (lines : List (List ℕ)) → AreLinesIn frames range Told lines → length lines ≡ length (in_range range (history_lines h))
    as_many lines made = made.as_many ∙ lines_as_many h frames range many

    pub PutsExtract-file : (size : ℕ) → WritesExtract head frames range Told mid now (Ok size) → PutsExtract site h lead from to minute Told was now (Ok size)
    PutsExtract-file size w = record {
      put = puts.put ++ w.put;
      appended = appended w.put w.appended;
      of_lines = IsPutOfLines-file site h lead from to minute range head period headed puts.put w.put w.lines puts.size size (put_whole result done puts) (as_many w.lines w.made_of) puts.is_size w.is_put;
      is_put = λ told. IsPutOf-file site h lead from to minute range head period headed puts.put w.put (extract_text head w.lines) puts.size size (put_whole result done puts) (is_file w.lines w.made_of told) puts.is_size w.is_put;
    }

    pub PutsExtract-cut : (why : WriteFail) (fail : ExtractFail) → WritesExtract head frames range Told mid now (Err why) → PutsExtract site h lead from to minute Told was now (Err fail)
    PutsExtract-cut why fail w = record {
      put = puts.put ++ w.put;
      appended = appended w.put w.appended;
      of_lines = IsPutOfLines-cut site h lead from to minute range head period headed puts.put w.put w.lines puts.size fail (put_whole result done puts) (as_many w.lines w.made_of) puts.is_size w.is_put;
      is_put = λ told. IsPutOf-cut site h lead from to minute range head period headed puts.put w.put (extract_text head w.lines) puts.size fail (put_whole result done puts) (is_file w.lines w.made_of told) puts.is_size w.is_put;
    }

-- an extraction of the days that its head names
pub PutsExtract-days : (site : Site) (h : List Entry) (lead : Option Lead) (from to first last minute : ℕ) (Told : Type 0) (was now : Option (List ℕ)) (result : Result ℕ ExtractFail) → first ≡ from → last ≡ to → PutsExtract site h lead first last minute Told was now result → PutsExtract site h lead from to minute Told was now result
PutsExtract-days site h lead from to first last minute Told was now result one two puts =
    subst (λ (d : ℕ). PutsExtract site h lead d to minute Told was now result) one
    (subst (λ (d : ℕ). PutsExtract site h lead first d minute Told was now result) two puts)

pub IsExtractHead-own : (site : Site) (h : List Entry) (from to minute : ℕ) (head : Head) → IsExtractHead site h from to minute head → IsExtractHead site h head.first head.last minute head
IsExtractHead-own site h from to minute head headed = record {
  employer = headed.employer;
  rep = headed.rep;
  first = refl;
  last = refl;
  made = headed.made;
  dev_kind = headed.dev_kind;
  dev = headed.dev;
  model = headed.model;
}

-- what an extraction does to a store, from what it puts
module _ {D C : Type 0} (shown : D → Shown) (readings_of : C → Option (List ℕ)) (faults_of : C → ℕ) (core : Kept) (device device' : Device D) (clock clock' : C) (site : Site) (reading : Option ℕ) (lead : Option Lead) (from to minute : ℕ) (running : device.stopped ≡ None) (runs : device'.stopped ≡ None) (ticks : Ticks readings_of faults_of minute clock clock') (was now : Option (List ℕ)) (result : Result ℕ ExtractFail) (same : IsSame shown (failed_by_disk result) (journal_of device) (journal_of device')) (puts : PutsExtract site core.entries lead from to minute (IsSome (shown device.disk).contents) was now result) where
  pub Extracts-put : Extracts shown readings_of faults_of lead from to (state_of core device clock site reading) (state_of core device' clock' site (Some minute)) was now result
  Extracts-put = record {
    running = running;
    kept = record {
      site = refl;
      history = refl;
      limit = refl;
      offset = refl;
      faults = same.faults;
      stopped = runs ∙ sym running;
      disk = same.disk;
    };
    minute = minute;
    clock = ticks;
    reading = refl;
    put = puts.put;
    appended = puts.appended;
    of_lines = puts.of_lines;
    is_put = puts.is_put;
  }

pub for_ok : (P : Type 0) (result : Result ℕ ExtractFail) → P → IfOk result (λ size. P)
for_ok P (Ok size) holds = holds
for_ok P (Err fail) holds = tt

-- the numbers of a period are those of frames
pub range_in : (frames : List Framed) (days : List ℕ) (from to : ℕ) (range : Range) → IsPeriod days from to range → length days ≡ length frames → IsRangeIn frames range
range_in frames days from to None period many = tt
range_in frames days from to (Some range) period many =
    let within = range_within days from to range.0 range.1 period in (within.0, within.1, omega (arith, within.2, many))
