-- Contents keep one history, and are of one kind.
use Rattle.std.proofs.Common.{◌≡◌, ◌≢◌, ℕ, zero, suc, ◌<◌, inl, inr, List, [], ◌∷◌, ◌++◌, length, get_or, take, drop, Option, Ok, refl, sym, ap, subst, ◌∙◌, arith, length-append, append-nil, append_assoc}
use Rattle.std.proofs.lemmas.Bool.{cases_order}
use Rattle.std.proofs.lemmas.List.{length-take-le}
use Rattle.afd_records.specs.Line.{IsLineOf}
use Rattle.afd_records.specs.Reading.{no_notes}
use Rattle.afd_records.specs.declared.record.Body.{Body}
use Rattle.afd_records.specs.declared.reading.ReadLine.{ReadLine}
use Rattle.afd_records.proofs.Apart.{only_answer}
use Rattle.rep_wire.specs.declared.request.Entry.{Entry}
use Rattle.rep_core.specs.Hashes.{hash_behind}
use Rattle.rep_core.specs.Valid.{IsFounded}
use Rattle.rep_core.proofs.Splits.{split_of}
use Rattle.rep_journal.specs.Format.{Framed, IsJournalOf, IsBlank, IsForeign, BrokenAt, end_of}
use Rattle.rep_journal.specs.Format.{Kind, IsOfKind, Blank as NoJournal, Foreign as Alien, Damaged as Broken, Keeps as Frames}
use Rattle.rep_journal.proofs.KindLemmas.{one_journal, journal_magic, kept_not_blank, one_broken, one_kind, some_kind}
use Rattle.rep_journal.proofs.UniqueLemmas.{same_split}
use Rattle.rep_ledger.specs.Fitting.{FitsAt, IsEmptyOrFounded}
use Rattle.rep_ledger.specs.Ledger.{IsLedgerOf, IsDamagedAt, MisfitAmong, Content, Contains, Blank, Foreign, Damaged, Keeps, frames_of, next_frame}
use Rattle.rep_ledger.proofs.Nexts.{origin, IsLineOf-next}
use Rattle.rep_ledger.proofs.LedgerLemmas.{IsFounded-next, begun_of, founded_of, frames_of-push, length-frames_of}
use Rattle.rep_ledger.proofs.SafetyLemmas.{founded_frames}

-- a line is that of one record
one_record : (m n : ℕ) (a b : Body) (g h : Option (List ℕ)) (line : List ℕ) → IsLineOf m a g line → IsLineOf n b h line → a ≡ b
one_record m n a b g h line one two =
    let found : ReadLine = record { nsr = m; body = a; hash = g; notes = no_notes } in
    let other : ReadLine = record { nsr = n; body = b; hash = h; notes = no_notes } in
    let same = only_answer line (Ok found) (record { line_of = one; plain = refl }) (λ layout laid. tt) n b h two in
    let lines : found ≡ other = cc in
    ap (λ (r : ReadLine). r.body) lines

-- a frame is that of one entry that can stand next
one_next : (h : List Entry) (d e : Entry) → FitsAt h d → FitsAt h e → next_frame h d ≡ next_frame h e → d ≡ e
one_next h d e fits_d fits_e same =
    let od = origin h d fits_d in
    let oe = origin h e fits_e in
    let bodies : d.body ≡ e.body =
    one_record _ _ d.body e.body (hash_behind h d.body) (hash_behind h e.body) (next_frame h d).line
    (IsLineOf-next h d.body (next_frame h d).line od.fresh.2 od.in_range refl)
    (IsLineOf-next h e.body (next_frame h d).line oe.fresh.2 oe.in_range (ap (λ (f : Framed). f.line) same)) in
    let origins : d.origin ≡ e.origin = ap (λ (f : Framed). f.origin) same in
    let seqs : d.seq ≡ e.seq = ap (λ (f : Framed). f.seq) same in
    let by_origin : ℕ → Entry = λ o. record { origin = o; seq = d.seq; body = d.body } in
    let by_seq : ℕ → Entry = λ s. record { origin = e.origin; seq = s; body = d.body } in
    let by_body : Body → Entry = λ b. record { origin = e.origin; seq = e.seq; body = b } in
    ap by_origin origins ∙ ap by_seq seqs ∙ ap by_body bodies

-- each entry of a history fits those before it
begun_before : (h : List Entry) (e : Entry) (behind : List Entry) → IsFounded (h ++ e ∷ behind) → IsEmptyOrFounded h × FitsAt h e
begun_before [] e behind founded = (tt, founded.0)
begun_before (first ∷ h) e behind founded = (
  (founded.0, λ before d rest split. founded.1 before d (rest ++ e ∷ behind) (ap (λ xs. xs ++ e ∷ behind) split ∙ append_assoc before (d ∷ rest) (e ∷ behind))),
  founded.1 h e behind refl,
)

-- a list that isn't empty ends in an element
last_of : {X : Type 0} (x : X) (xs : List X) → (front : List X) × (last : X) × (x ∷ xs ≡ front ++ last ∷ [])
last_of x [] = ([], x, refl)
last_of x (y ∷ xs) = let rest = last_of y xs in (x ∷ rest.0, rest.1, ap (λ zs. x ∷ zs) rest.2)

-- frames are those of one history
one_history : (n : ℕ) (h g : List Entry) → length h ≡ n → IsEmptyOrFounded h → IsEmptyOrFounded g → frames_of h ≡ frames_of g → h ≡ g
one_history n [] [] size bh bg same = refl
one_history n [] (b ∷ g) size bh bg same = absurd (omega (arith, ap length same, length-frames_of [], length-frames_of (b ∷ g)))
one_history n (a ∷ h) [] size bh bg same = absurd (omega (arith, ap length same, length-frames_of [], length-frames_of (a ∷ h)))
one_history zero (a ∷ h) (b ∷ g) size bh bg same = absurd (omega arith)
one_history (suc n) (a ∷ h) (b ∷ g) size bh bg same =
    let lh = last_of a h in
    let lg = last_of b g in
    let fh = begun_before lh.0 lh.1 [] (subst IsFounded lh.2 bh) in
    let fg = begun_before lg.0 lg.1 [] (subst IsFounded lg.2 bg) in
    let sizes : length lh.0 ≡ length lg.0 =
    omega (arith, ap length same, length-frames_of (a ∷ h), length-frames_of (b ∷ g), ap length lh.2, ap length lg.2, length-append lh.0 (lh.1 ∷ []), length-append lg.0 (lg.1 ∷ [])) in
    let frames : frames_of lh.0 ++ next_frame lh.0 lh.1 ∷ [] ≡ frames_of lg.0 ++ next_frame lg.0 lg.1 ∷ [] =
    sym (frames_of-push lh.0 lh.1) ∙ ap frames_of (sym lh.2) ∙ same ∙ ap frames_of lg.2 ∙ frames_of-push lg.0 lg.1 in
    let parts = same_split (frames_of lh.0) (frames_of lg.0) (next_frame lh.0 lh.1 ∷ []) (next_frame lg.0 lg.1 ∷ [])
    (omega (arith, length-frames_of lh.0, length-frames_of lg.0)) frames in
    let fronts = one_history n lh.0 lg.0 (omega (arith, ap length lh.2, length-append lh.0 (lh.1 ∷ []))) fh.0 fg.0 parts.0 in
    let heads : next_frame lh.0 lh.1 ≡ next_frame lg.0 lg.1 = let p = parts.1 in cc in
    let lasts = one_next lg.0 lh.1 lg.1 (subst (λ xs. FitsAt xs lh.1) fronts fh.1) fg.1
    (ap (λ xs. next_frame xs lh.1) (sym fronts) ∙ heads) in
    lh.2 ∙ ap (λ xs. xs ++ lh.1 ∷ []) fronts ∙ ap (λ x. lg.0 ++ x ∷ []) lasts ∙ sym lg.2

pub one_ledger : (bytes : List ℕ) (h g : List Entry) → IsLedgerOf bytes h → IsLedgerOf bytes g → h ≡ g
one_ledger bytes h g one two =
    one_history (length h) h g refl (begun_of h one.founded) (begun_of g two.founded) (one_journal bytes (frames_of h) (frames_of g) one.journal two.journal)

-- what stands behind adds frames behind
pub frames_behind : (front behind : List Entry) → (rest : List Framed) × (frames_of (front ++ behind) ≡ frames_of front ++ rest)
frames_behind front [] = ([], ap frames_of (append-nil front) ∙ sym (append-nil (frames_of front)))
frames_behind front (e ∷ behind) =
    let more = frames_behind (front ++ e ∷ []) behind in (
      next_frame front e ∷ more.0,
      ap frames_of (sym (append_assoc front (e ∷ []) behind)) ∙ more.1
          ∙ ap (λ frames. frames ++ more.0) (frames_of-push front e)
          ∙ append_assoc (frames_of front) (next_frame front e ∷ []) more.0,
    )

-- A frame of a history that stands behind the frames of some entries is that of one that can stand behind those.
fits_inside : (h b : List Entry) (f : Framed) (rest : List Framed) → IsFounded h → IsEmptyOrFounded b → frames_of h ≡ frames_of b ++ f ∷ rest → (e : Entry) × FitsAt b e × (f ≡ next_frame b e)
fits_inside [] b f rest founded begun split = absurd founded
fits_inside (a ∷ h') b f rest founded begun split =
    let h = a ∷ h' in
    let k = length b in
    let inside : k < length h = omega (arith, ap length split, length-append (frames_of b) (f ∷ rest), length-frames_of b, length-frames_of h) in
    let e = get_or h k a in
    let front = take k h in
    let cut : h ≡ front ++ e ∷ drop (suc k) h = split_of h k a inside in
    let fits = begun_before front e (drop (suc k) h) (subst IsFounded cut founded) in
    let more = frames_behind (front ++ e ∷ []) (drop (suc k) h) in
    let all : frames_of h ≡ frames_of front ++ next_frame front e ∷ more.0 =
    ap frames_of (cut ∙ sym (append_assoc front (e ∷ []) (drop (suc k) h))) ∙ more.1
    ∙ ap (λ frames. frames ++ more.0) (frames_of-push front e)
    ∙ append_assoc (frames_of front) (next_frame front e ∷ []) more.0 in
    let parts = same_split (frames_of b) (frames_of front) (f ∷ rest) (next_frame front e ∷ more.0)
    (omega (arith, length-frames_of b, length-frames_of front, length-take-le k h (omega arith))) (sym split ∙ all) in
    let same = one_history (length b) b front refl begun fits.0 parts.0 in
    let heads : f ≡ next_frame front e = let p = parts.1 in cc in
    (e, subst (λ xs. FitsAt xs e) (sym same) fits.1, heads ∙ ap (λ xs. next_frame xs e) (sym same))

-- frames of a history have no misfit
pub no_misfit : (h : List Entry) (at : ℕ) → IsFounded h → MisfitAmong (frames_of h) at → ⊥
no_misfit h at founded misfit =
    let e = fits_inside h misfit.before misfit.frame misfit.behind founded misfit.begun misfit.split in
    misfit.misfit e.0 e.1 e.2

-- the longer of two fronts goes on from the shorter
longer_front : {X : Type 0} (p q a b : List X) (x : X) → p ++ x ∷ a ≡ q ++ b → length p < length q → (rest : List X) × (q ≡ p ++ x ∷ rest)
longer_front [] [] a b x same less = absurd (omega arith)
longer_front [] (y ∷ q) a b x same less = (q, cc)
longer_front (z ∷ p) [] a b x same less = absurd (omega arith)
longer_front (z ∷ p) (y ∷ q) a b x same less =
    let tail : p ++ x ∷ a ≡ q ++ b = cc in
    let more = longer_front p q a b x tail (omega arith) in
    let head : z ≡ y = cc in
    (more.0, ap (λ xs. y ∷ xs) more.1 ∙ ap (λ h. h ∷ (p ++ x ∷ more.0)) (sym head))

-- the second of two misfits isn't one
misfit_before : (frames : List Framed) (one other : ℕ) (w : MisfitAmong frames one) (v : MisfitAmong frames other) → length w.before < length v.before → ⊥
misfit_before frames one other w v less =
    let more = longer_front (frames_of w.before) (frames_of v.before) w.behind (v.frame ∷ v.behind) w.frame (sym w.split ∙ v.split)
    (omega (arith, length-frames_of w.before, length-frames_of v.before)) in
    let e = fits_inside v.before w.before w.frame more.0 (founded_of v.before (omega arith) v.begun) w.begun more.1 in
    w.misfit e.0 e.1 e.2

one_misfit : (frames : List Framed) (at other : ℕ) → MisfitAmong frames at → MisfitAmong frames other → at ≡ other
one_misfit frames at other w v = elim (cases_order (length w.before) (length v.before)) [
  | inl same ↦
      let parts = same_split (frames_of w.before) (frames_of v.before) (w.frame ∷ w.behind) (v.frame ∷ v.behind)
      (omega (arith, length-frames_of w.before, length-frames_of v.before)) (sym w.split ∙ v.split) in
      w.place ∙ ap end_of parts.0 ∙ sym v.place
  | inr apart ↦ elim apart [
    | inl less ↦ absurd (misfit_before frames at other w v less)
    | inr more ↦ absurd (misfit_before frames other at v w more)
  ]
]

-- contents with a frame are of no other kind
pub misfit_frames : (frames : List Framed) (at : ℕ) → MisfitAmong frames at → frames ≢ []
misfit_frames frames at misfit none =
    absurd (omega (arith, ap length (sym misfit.split ∙ none), length-append (frames_of misfit.before) (misfit.frame ∷ misfit.behind)))

pub broken_alone : (bytes : List ℕ) (at : ℕ) (frames : List Framed) → BrokenAt bytes at → IsJournalOf bytes frames → frames ≢ [] → ⊥
broken_alone bytes at frames broken journal some =
    let same = one_kind bytes (Broken at) (Frames frames) broken (journal, some) in absurd cc

damage_magic : (bytes : List ℕ) (at : ℕ) → IsDamagedAt at bytes → IsForeign bytes → ⊥
damage_magic bytes at (inl broken) alien = let same = one_kind bytes (Broken at) Alien broken alien in absurd cc
damage_magic bytes at (inr misfit) alien = alien.no_magic (journal_magic bytes misfit.0 misfit.1)

damage_not_blank : (bytes : List ℕ) (at : ℕ) → IsDamagedAt at bytes → IsBlank bytes → ⊥
damage_not_blank bytes at (inl broken) blank = broken.not_blank blank
damage_not_blank bytes at (inr misfit) blank = kept_not_blank bytes misfit.0 misfit.1 (misfit_frames misfit.0 at misfit.2) blank

ledger_not_blank : (bytes : List ℕ) (h : List Entry) → IsLedgerOf bytes h → IsBlank bytes → ⊥
ledger_not_blank bytes h ledger = kept_not_blank bytes (frames_of h) ledger.journal (founded_frames h ledger.founded)

pub ledger_not_damaged : (bytes : List ℕ) (h : List Entry) (at : ℕ) → IsLedgerOf bytes h → IsDamagedAt at bytes → ⊥
ledger_not_damaged bytes h at ledger (inl broken) = broken_alone bytes at (frames_of h) broken ledger.journal (founded_frames h ledger.founded)
ledger_not_damaged bytes h at ledger (inr misfit) =
    no_misfit h at ledger.founded (subst (λ frames. MisfitAmong frames at) (one_journal bytes misfit.0 (frames_of h) misfit.1 ledger.journal) misfit.2)

one_damage : (bytes : List ℕ) (at other : ℕ) → IsDamagedAt at bytes → IsDamagedAt other bytes → at ≡ other
one_damage bytes at other (inl one) (inl two) = one_broken bytes at other one two
one_damage bytes at other (inl one) (inr two) = absurd (broken_alone bytes at two.0 one two.1 (misfit_frames two.0 other two.2))
one_damage bytes at other (inr one) (inl two) = absurd (broken_alone bytes other one.0 two one.1 (misfit_frames one.0 at one.2))
one_damage bytes at other (inr one) (inr two) =
    one_misfit two.0 at other (subst (λ frames. MisfitAmong frames at) (one_journal bytes one.0 two.0 one.1 two.1) one.2) two.2

pub one_content : (bytes : List ℕ) (content other : Content) → Contains bytes content → Contains bytes other → content ≡ other
one_content bytes Blank Blank c d = refl
one_content bytes Blank Foreign c d = absurd (d.not_blank c)
one_content bytes Blank (Damaged at) c d = absurd (damage_not_blank bytes at d c)
one_content bytes Blank (Keeps h) c d = absurd (ledger_not_blank bytes h d c)
one_content bytes Foreign Blank c d = absurd (c.not_blank d)
one_content bytes Foreign Foreign c d = refl
one_content bytes Foreign (Damaged at) c d = absurd (damage_magic bytes at d c)
one_content bytes Foreign (Keeps h) c d = absurd (c.no_magic (journal_magic bytes (frames_of h) d.journal))
one_content bytes (Damaged at) Blank c d = absurd (damage_not_blank bytes at c d)
one_content bytes (Damaged at) Foreign c d = absurd (damage_magic bytes at c d)
one_content bytes (Damaged at) (Damaged other) c d = ap (λ (n : ℕ). Damaged n) (one_damage bytes at other c d)
one_content bytes (Damaged at) (Keeps h) c d = absurd (ledger_not_damaged bytes h at d c)
one_content bytes (Keeps h) Blank c d = absurd (ledger_not_blank bytes h c d)
one_content bytes (Keeps h) Foreign c d = absurd (d.no_magic (journal_magic bytes (frames_of h) c.journal))
one_content bytes (Keeps h) (Damaged at) c d = absurd (ledger_not_damaged bytes h at c d)
one_content bytes (Keeps h) (Keeps g) c d = ap (λ (xs : List Entry). Keeps xs) (one_ledger bytes h g c d)

-- frames have a misfit or are those of a history: it can't be that they are neither
some_among : (frames : List Framed) (rest : List Framed) (h : List Entry) → IsEmptyOrFounded h → frames ≡ frames_of h ++ rest → ((at : ℕ) → MisfitAmong frames at → ⊥) → ((g : List Entry) → IsEmptyOrFounded g → frames ≡ frames_of g → ⊥) → ⊥
some_among frames [] h begun split misfits histories = histories h begun (split ∙ append-nil (frames_of h))
some_among frames (f ∷ rest) h begun split misfits histories =
    misfits (end_of (frames_of h)) (record {
      before = h;
      begun = begun;
      frame = f;
      behind = rest;
      split = split;
      place = refl;
      misfit = λ e fits is.
          some_among frames rest (h ++ e ∷ []) (begun_of (h ++ e ∷ []) (IsFounded-next h e begun fits))
          (split ∙ ap (λ x. frames_of h ++ x ∷ rest) is ∙ sym (append_assoc (frames_of h) (next_frame h e ∷ []) rest)
          ∙ ap (λ xs. xs ++ rest) (sym (frames_of-push h e)))
          misfits histories;
    })

some_of_kind : (bytes : List ℕ) (kind : Kind) → IsOfKind bytes kind → ((content : Content) → Contains bytes content → ⊥) → ⊥
some_of_kind bytes NoJournal is none = none Blank is
some_of_kind bytes Alien is none = none Foreign is
some_of_kind bytes (Broken at) is none = none (Damaged at) (inl is)
some_of_kind bytes (Frames frames) is none =
    some_among frames frames [] tt refl (λ at misfit. none (Damaged at) (inr (frames, is.0, misfit))) histories
  where
    histories : (g : List Entry) → IsEmptyOrFounded g → frames ≡ frames_of g → ⊥
    histories [] begun same = is.1 same
    histories (first ∷ g) begun same = none (Keeps (first ∷ g)) (record { founded = begun; journal = subst (IsJournalOf bytes) same is.0 })

pub some_content : (bytes : List ℕ) → ((content : Content) → Contains bytes content → ⊥) → ⊥
some_content bytes none = let kind = some_kind bytes in some_of_kind bytes kind.0 kind.1 none
