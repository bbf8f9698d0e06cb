-- What the write of the magic makes of contents and images.
use Rattle.std.proofs.Common.{◌≡◌, ◌⊎◌, inl, inr, ℕ, ◌+◌, ◌-◌, ◌<◌, ◌≤◌, Bool, true, false, List, [], ◌∷◌, ◌++◌, length, drop, Some, None, Option, Ok, Err, Result, refl, sym, ap, ◌∙◌, subst, arith}
use Rattle.std.specs.Prelude.{IfSome, IsSome, MatchBool, MatchResult, nat_le, OnErr, OnOk, is_err, ◌↔◌}
use Rattle.std.proofs.lemmas.List.{drop_all}
use Rattle.std.proofs.lemmas.Bool.{cases_lt, le-leb, lt-leb}
use Rattle.rep_disk.specs.Disk.{Shown, Torn, Written, Changes, Moves, IsAtRest}
use Rattle.rep_journal.specs.Format.{magic, closed_gate, Framed, IsJournalOf, IsBlank, front_text, end_of}
use Rattle.rep_journal.specs.State.{StandsFor, Becomes, Leaves, IsLeftAt, IsLeftBefore, FailsToAppend, FailsToCreate, MakesCalls, CountsCalls, MakesCreateCalls}
use Rattle.rep_journal.specs.Recovery.{Blanks, Creates, Puts}
use Rattle.rep_journal.specs.Fields.{IsBlankBy, IsLongBlank}
use Rattle.rep_journal.specs.Putting.{WritesSurely, CountsBlankCalls, SameBehind, calls_due}
use Rattle.rep_journal.proofs.PutLemmas.{changes_to, changes_both}
use Rattle.rep_journal.proofs.MomentLemmas.{moved_has, rest_has, moved_never_falls, never_falls_on, past_on}

-- the magic and a closed gate, as they are written
abbrev pub written_blank : List ℕ
written_blank = 82 ∷ 69 ∷ 80 ∷ 45 ∷ 80 ∷ 32 ∷ 74 ∷ 79 ∷ 85 ∷ 82 ∷ 78 ∷ 65 ∷ 76 ∷ 32 ∷ 49 ∷ 10 ∷ 0 ∷ []

blank_is : written_blank ≡ (magic ++ []) ++ 0 ∷ []
unfolding magic
blank_is = refl

blank_made : (old new : List ℕ) → length old ≤ 17 → Written 0 written_blank old new → IsJournalOf new []
blank_made old new short w = record {
  well_formed = tt;
  gate = 0;
  closed = λ zero. absurd (omega (arith, zero));
  rest = [];
  text = w ∙ ap (λ (l : List ℕ). written_blank ++ l) (drop_all 17 old short) ∙ blank_is;
}

blank_torn : (old new : List ℕ) → length old ≤ 17 → Torn 0 17 old new → IsBlank new
blank_torn old new short torn = inl (let most = torn.no_longer in omega arith)

pub blank_written : {E : Type 0} (old new : Shown) (result : Result (Unit {0}) E) → IfSome old.contents (λ b. length b ≤ 17) → WritesSurely 0 written_blank old new result
    → MatchResult result (λ _. Becomes [] old.contents new.contents) (λ _. Changes (λ _ bytes. IsBlank bytes) old.contents new.contents)
blank_written old new (Ok v) short c = changes_to (λ b. length b ≤ 17) (Written 0 written_blank) (λ _ bytes. IsJournalOf bytes []) old.contents new.contents short blank_made c.1
blank_written old new (Err e) short (inl torn) = changes_to (λ b. length b ≤ 17) (Torn 0 17) (λ _ bytes. IsBlank bytes) old.contents new.contents short blank_torn torn.1
blank_written old new (Err e) short (inr written) = changes_to (λ b. length b ≤ 17) (Written 0 written_blank) (λ _ bytes. IsBlank bytes) old.contents new.contents short (λ a b h w. inr (blank_made a b h w)) written.1

same_behind : (old new : List ℕ) → length old ≤ 17 → Written 0 written_blank old new → SameBehind old new
same_behind old new short w n le =
    let size : length new ≤ 17 = omega (arith, ap length w, ap length (drop_all 17 old short)) in
    drop_all n new (omega arith) ∙ sym (drop_all n old (omega arith))

pub blank_behind : {E : Type 0} (old new : Shown) (result : Result (Unit {0}) E) → IfSome old.contents (λ b. length b ≤ 17) → WritesSurely 0 written_blank old new result
    → OnOk result (Changes SameBehind old.contents new.contents)
blank_behind old new (Ok v) short c = changes_to (λ b. length b ≤ 17) (Written 0 written_blank) SameBehind old.contents new.contents short same_behind c.1
blank_behind old new (Err e) short c = tt

-- whether they are short is known
pub short_of : (is_short : Bool) (s : Shown) → is_short ≡ true → IsBlankBy is_short s → IfSome s.contents (λ b. length b ≤ 17)
short_of is_short s is blank = subst (λ (b : Bool). IsBlankBy b s) is blank

pub long_of : (is_short : Bool) (s : Shown) → is_short ≡ false → IsBlankBy is_short s → IfSome s.contents IsLongBlank
long_of is_short s is blank = subst (λ (b : Bool). IsBlankBy b s) is blank

pub if_short : (is_short : Bool) (P Q : Type 0) → is_short ≡ true → P → MatchBool is_short P Q
if_short true P Q is p = p
if_short false P Q is p = absurd (cc)

pub if_long : (is_short : Bool) (P Q : Type 0) → is_short ≡ false → Q → MatchBool is_short P Q
if_long true P Q is q = absurd (cc)
if_long false P Q is q = q

-- long contents stay
pub long_becomes : (contents : Option (List ℕ)) → IfSome contents IsLongBlank → Becomes [] contents contents
long_becomes None blank = tt
long_becomes (Some bytes) blank = blank.none

pub long_behind : (contents : Option (List ℕ)) → Changes SameBehind contents contents
long_behind None = tt
long_behind (Some bytes) = λ n le. refl

-- images while the magic is written
pub blank_moments : (old new : Shown) → IfSome old.contents (λ b. length b ≤ 17) → Moves (Torn 0 17) old new → old.moment ≤ new.moment → Blanks old new
blank_moments old new short moves le told rest before =
    let moved = moves before in
    record {
      past = moved.past;
      images = moved_has (Torn 0 17) (λ b. length b ≤ 17) IsBlank old new told short rest moved le before (λ image h. inl h) blank_torn;
      sure = moved_never_falls [] (Torn 0 17) old new moved (λ image leaves. inr (refl, inl (rest_has old (λ b. length b ≤ 17) told short rest (omega arith) image leaves))) (λ m image from to leaves gs stands. omega arith);
    }

-- and where nothing is written
pub long_moments : (s : Shown) → IfSome s.contents IsLongBlank → Blanks s s
long_moments s blank told rest before = record {
  past = λ m image le. ((λ leaves. leaves), (λ leaves. leaves));
  images = λ m image from to leaves. let here : m ≡ s.moment = omega arith in inr (rest_has s IsLongBlank told blank rest before image (subst (λ (n : ℕ). s.may_leave n image) here leaves)).none;
  sure = λ least m later from after to lower image gs leaves stands. let same : later ≡ m = omega arith in lower image gs (subst (λ (n : ℕ). s.may_leave n image) same leaves) stands;
}

changes_on : (step next other : List ℕ → List ℕ → Type 0) (old mid new : Option (List ℕ)) → ((a b c : List ℕ) → step a b → next b c → other a c) → Changes step old mid → Changes next mid new → Changes other old new
changes_on step next other old mid new f c d = changes_both (λ _. Unit {0}) step next other old mid new (any old) (λ a b y t j k. f a b y j k) c d
  where
    any : (o : Option (List ℕ)) → IfSome o (λ _. Unit {0})
    any None = tt
    any (Some b) = tt

module _ (first : Framed) where
  -- where the magic was not made sure of
  pub not_begun : (old new : Shown) → Blanks old new → Creates first old new
  not_begun old new blanks told rest before =
      let blank = blanks told rest before in
      record { past = blank.past; images = λ m image from to leaves. inl (blank.images m image from to leaves); sure = blank.sure }

  -- where it was, and the first frame was put
  pub begun : (old mid new : Shown) → Becomes [] old.contents mid.contents → (IsAtRest old → IsAtRest mid) → Blanks old mid → (IsAtRest mid → Puts [] first mid new) → old.moment ≤ mid.moment → mid.moment ≤ new.moment → Creates first old new
  begun old mid new made rests blanks puts le le_later told rest before =
      let blank = blanks told rest (omega arith) in
      let put = puts (rests rest) (told_still old.contents mid.contents made told) before in
      record {
        past = past_on old mid new le blank.past put.past;
        images = λ m image from to leaves. elim (cases_lt mid.moment m) [
          | inl behind ↦ elim (put.opened m image (omega arith) to leaves) [ inl none ↦ inl (inr none) | inr one ↦ inr one ]
          | inr ahead ↦ inl (blank.images m image from ahead ((put.past m image ahead).0 leaves))
        ];
        sure = never_falls_on old mid new put.past le le_later blank.sure put.sure;
      }
    where
      told_still : (old mid : Option (List ℕ)) → Becomes [] old mid → IsSome old → IsSome mid
      told_still None mid made told = absurd (cc)
      told_still (Some a) None made told = absurd made
      told_still (Some a) (Some b) made told = refl

  pub first_put : {E : Type 0} (old mid new : Shown) (result : Result (Unit {0}) E) → Becomes [] old.contents mid.contents → OnOk result (Becomes (first ∷ []) mid.contents new.contents) → OnOk result (Becomes (first ∷ []) old.contents new.contents)
  first_put old mid new (Ok v) made put = changes_on (λ _ bytes. IsJournalOf bytes []) (λ _ bytes. IsJournalOf bytes (first ∷ [])) (λ _ bytes. IsJournalOf bytes (first ∷ [])) old.contents mid.contents new.contents (λ a b y j k. k) made put
  first_put old mid new (Err e) made put = tt

  pub first_text : {E : Type 0} (old mid new : Shown) (result : Result (Unit {0}) E) → Changes SameBehind old.contents mid.contents → OnOk result (Leaves (first ∷ []) mid.contents new.contents) → OnOk result (Leaves (first ∷ []) old.contents new.contents)
  first_text old mid new (Ok v) behind text =
      changes_on SameBehind (λ was bytes. bytes ≡ front_text (first ∷ []) ++ closed_gate ∷ drop (1 + end_of (first ∷ [])) was) (λ was bytes. bytes ≡ front_text (first ∷ []) ++ closed_gate ∷ drop (1 + end_of (first ∷ [])) was)
      old.contents mid.contents new.contents
      (λ a b y same is. is ∙ ap (λ (l : List ℕ). front_text (first ∷ []) ++ closed_gate ∷ l) (same (1 + end_of (first ∷ [])) (omega arith))) behind text
  first_text old mid new (Err e) behind text = tt

  -- a call for the magic failed
  pub fails_first : (is_short : Bool) (old new : Shown) → Changes (λ _ bytes. IsBlank bytes) old.contents new.contents → is_short ≡ true × ((n : ℕ) × (0 < n) × (n ≤ 2) × MakesCalls n old new) → FailsToCreate (calls_due is_short) first old new
  fails_first false old new blank calls = absurd (cc)
  fails_first true old new blank calls =
      let n = calls.1.0 in
      let most = calls.1.2 in
      record {
        failed = n;
        some = calls.1.1;
        within = omega arith;
        calls = calls.1.3;
        contents = left old.contents new.contents blank;
      }
    where
      left : (o p : Option (List ℕ)) → Changes (λ _ bytes. IsBlank bytes) o p → Changes (λ _ bytes. IsLeftBefore (6 - calls.1.0) first bytes) o p
      left None None c = tt
      left None (Some b) c = absurd c
      left (Some a) None c = absurd c
      left (Some a) (Some b) c = record { early = λ _. c; late = λ none. absurd (let most = calls.1.2 in omega arith); either = inl c }

  -- what a `put` left of a blank journal
  left_before : (due failed : ℕ) (bytes : List ℕ) → failed ≤ 4 → due ≡ 4 → IsLeftAt failed [] first bytes → IsLeftBefore (due - failed) first bytes
  left_before due failed bytes within four left = record {
    early = λ two. inr (left.early (omega arith));
    late = λ none. left.late (omega arith);
    either = elim left.either [ inl none ↦ inl (inr none) | inr one ↦ inr one ];
  }

  left_of : (due failed : ℕ) (old mid new : Option (List ℕ)) → failed ≤ 4 → due ≡ 4 → Becomes [] old mid → Changes (λ _ bytes. IsLeftAt failed [] first bytes) mid new → Changes (λ _ bytes. IsLeftBefore (due - failed) first bytes) old new
  left_of due failed old mid new within four made left =
      changes_on (λ _ bytes. IsJournalOf bytes []) (λ _ bytes. IsLeftAt failed [] first bytes) (λ _ bytes. IsLeftBefore (due - failed) first bytes) old mid new (λ a b y j k. left_before due failed y within four k) made left

  -- a call for the first frame failed
  pub fails_next : {E : Type 0} (is_short : Bool) (old mid new : Shown) (result : Result (Unit {0}) E) → Becomes [] old.contents mid.contents → MatchBool is_short (MakesCalls 2 old mid) (MakesCalls 0 old mid) → OnErr result (FailsToAppend [] first mid new)
      → OnErr result (FailsToCreate (calls_due is_short) first old new)
  fails_next is_short old mid new (Ok v) made calls fails = tt
  fails_next true old mid new (Err e) made calls fails =
      let within = fails.within in
      let some = fails.some in
      let more = fails.calls in
      let unmade : 6 - (fails.failed + 2) ≡ 4 - fails.failed = omega arith in
      record {
        failed = fails.failed + 2;
        some = omega arith;
        within = omega arith;
        calls = omega arith;
        contents = subst (λ (n : ℕ). Changes (λ _ bytes. IsLeftBefore n first bytes) old.contents new.contents) (sym unmade) (left_of 4 fails.failed old.contents mid.contents new.contents fails.within refl made fails.contents);
      }
  fails_next false old mid new (Err e) made calls fails =
      let more = fails.calls in
      record {
        failed = fails.failed;
        some = fails.some;
        within = fails.within;
        calls = omega arith;
        contents = left_of 4 fails.failed old.contents mid.contents new.contents fails.within refl made fails.contents;
      }

-- the first gate lies in contents with the magic and a closed gate
pub made_is : (old mid : Option (List ℕ)) → Becomes [] old mid → StandsFor mid []
made_is None None made = tt
made_is None (Some b) made = absurd made
made_is (Some a) None made = absurd made
made_is (Some a) (Some b) made = made

-- the calls for the magic, and those for the first frame
pub create_calls : {E : Type 0} (is_short : Bool) (old mid new : Shown) (result : Result (Unit {0}) E) → MatchBool is_short (MakesCalls 2 old mid) (MakesCalls 0 old mid) → CountsCalls 4 mid new result → OnOk result (MakesCalls (calls_due is_short) old new)
create_calls is_short old mid new (Err e) a b = tt
create_calls true old mid new (Ok v) a b = omega arith
create_calls false old mid new (Ok v) a b = omega arith

pub blank_calls : {E : Type 0} (is_short : Bool) (at : ℕ) (piece : List ℕ) (old new : Shown) (result : Result (Unit {0}) E) → is_short ≡ true → WritesSurely at piece old new result → CountsBlankCalls is_short old new result
blank_calls true at piece old new (Ok v) is w = w.0
blank_calls true at piece old new (Err e) is (inl torn) = (refl, (1, omega arith, omega arith, torn.0))
blank_calls true at piece old new (Err e) is (inr written) = (refl, (2, omega arith, omega arith, written.0))
blank_calls false at piece old new result is w = absurd (cc)

-- by the length of contents that are told
by_length : (is_short : Bool) (contents : Option (List ℕ)) (P Q : Type 0) → IfSome contents (λ bytes. MatchBool is_short (length bytes ≤ 17) (IsLongBlank bytes)) → MatchBool is_short P Q
    → IfSome contents (λ bytes. MatchBool (nat_le (length bytes) 17) P Q)
by_length is_short None P Q blank calls = tt
by_length true (Some bytes) P Q blank calls = if_short (nat_le (length bytes) 17) P Q (le-leb (length bytes) 17 blank) calls
by_length false (Some bytes) P Q blank calls = if_long (nat_le (length bytes) 17) P Q (lt-leb (length bytes) 17 blank.long) calls

pub made_calls : (is_short : Bool) (old new : Shown) → IsBlankBy is_short old → MakesCalls (calls_due is_short) old new → MakesCreateCalls old new
made_calls true old new blank calls = by_length true old.contents (MakesCalls 6 old new) (MakesCalls 4 old new) blank calls
made_calls false old new blank calls = by_length false old.contents (MakesCalls 6 old new) (MakesCalls 4 old new) blank calls

pub due_by_length : (is_short : Bool) (s : Shown) → IsBlankBy is_short s → IfSome s.contents (λ bytes. MatchBool (nat_le (length bytes) 17) (calls_due is_short ≡ 6) (calls_due is_short ≡ 4))
due_by_length true s blank = by_length true s.contents (6 ≡ 6) (6 ≡ 4) blank refl
due_by_length false s blank = by_length false s.contents (4 ≡ 6) (4 ≡ 4) blank refl

pub due_is : (is_short : Bool) → (calls_due is_short ≡ 4) ⊎ (calls_due is_short ≡ 6)
due_is true = inr refl
due_is false = inl refl

-- time goes on
pub calls_later : (n : ℕ) (old new : Shown) → MakesCalls n old new → old.moment ≤ new.moment
calls_later n old new calls = omega arith

-- what an answer says
pub of_ok : {T E : Type 0} (result : Result T E) (P : Type 0) (Q : E → Type 0) → is_err result ≡ false → MatchResult result (λ _. P) Q → P
of_ok (Ok v) P Q ok p = p
of_ok (Err e) P Q ok p = absurd (cc)

pub of_err : {T E : Type 0} (result : Result T E) (P : T → Type 0) (Q : Type 0) → is_err result ≡ true → MatchResult result P (λ _. Q) → Q
of_err (Ok v) P Q err q = absurd (cc)
of_err (Err e) P Q err q = q

-- time goes on
pub blank_later : (is_short : Bool) (old mid : Shown) → MatchBool is_short (MakesCalls 2 old mid) (MakesCalls 0 old mid) → old.moment ≤ mid.moment
blank_later true old mid calls = omega arith
blank_later false old mid calls = omega arith

pub both_ways : {A B C : Type 0} → A ↔ B → B ↔ C → A ↔ C
both_ways ab bc = ((λ a. bc.0 (ab.0 a)), (λ c. ab.1 (bc.1 c)))
