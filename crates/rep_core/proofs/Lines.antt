-- The hash chain and the lines of a history.
use Rattle.std.proofs.Common.{◌≡◌, ℕ, suc, ◌+◌, ◌-◌, ◌<◌, ◌≤◌, Bool, true, false, cond, List, [], ◌∷◌, ◌++◌, length, get_or, take, drop, reverse, All, Some, refl, sym, ap, ◌∙◌, subst, arith, length-append, take-append-drop, append_assoc}
use Rattle.std.proofs.lemmas.List.{append-nil, reverse-append, length-reverse, take-take, take_at, length-drop, get_or-drop, get_or_at}
use Rattle.std.proofs.lemmas.List.Elements.{All-head, All-tail}
use Rattle.std.proofs.lemmas.Option.{slice_get-get_or}
use Rattle.afd_records.specs.Record.{payload_text, IsClocking, is_clocking}
use Rattle.afd_records.specs.Line.{record_text}
use Rattle.afd_records.specs.declared.record.Body.{Body}
use Rattle.afd_records.specs.declared.record.Body.TheVariants.{Employer, Adjust, Worker, Event, Clocking}
use Rattle.afd_chain.specs.Chain.{sha_text}
use Rattle.rep_wire.specs.declared.request.Entry.{Entry}
use Rattle.rep_core.specs.History.{IsNumbered}
use Rattle.rep_core.specs.Chained.{newest_hash, newest_line, last_hash, next_hash, next_line, lines_to, history_lines}
use Rattle.rep_core.specs.Links.{hash_at, NoClockingBetween, IsChained, HasLines}
use Rattle.rep_core.proofs.Splits.{split_before, split_in, split_take}
use Rattle.rep_core.proofs.Numbered.{number_of_place}

pub is_clocking-true : (body : Body) → IsClocking body → is_clocking body ≡ true
is_clocking-true (Employer at resp id cno name place) clocks = absurd clocks
is_clocking-true (Adjust before after resp) clocks = absurd clocks
is_clocking-true (Worker at op cpf name extra resp) clocks = absurd clocks
is_clocking-true (Event at code) clocks = absurd clocks
is_clocking-true (Clocking marked cpf recorded collector offline) clocks = refl

pub is_clocking-false : (body : Body) → (IsClocking body → ⊥) → is_clocking body ≡ false
is_clocking-false (Employer at resp id cno name place) other = refl
is_clocking-false (Adjust before after resp) other = refl
is_clocking-false (Worker at op cpf name extra resp) other = refl
is_clocking-false (Event at code) other = refl
is_clocking-false (Clocking marked cpf recorded collector offline) other = absurd (other tt)

reverse-push : {X : Type 0} (xs : List X) (x : X) → reverse (xs ++ x ∷ []) ≡ x ∷ reverse xs
reverse-push xs x = reverse-append xs (x ∷ [])

-- the hash that a history ends with, one entry on
abbrev pub hash_after : List Entry → Body → List ℕ
hash_after h body =
    cond (is_clocking body) (sha_text (payload_text (suc (length h)) body ++ last_hash h)) (last_hash h)

pub last_hash-push : (h : List Entry) (e : Entry) → last_hash (h ++ e ∷ []) ≡ hash_after h e.body
unfolding newest_hash
last_hash-push h e =
    ap newest_hash (reverse-push h e)
    ∙ ap (λ n. cond (is_clocking e.body) (sha_text (payload_text (suc n) e.body ++ newest_hash (reverse h))) (newest_hash (reverse h))) (length-reverse h)

pub last_hash-nil : last_hash [] ≡ []
unfolding newest_hash
last_hash-nil = refl

-- a clocking's hash is the one that the history ends with
pub next_hash-is : (h : List Entry) (e : Entry) → IsClocking e.body → next_hash h e.body ≡ last_hash (h ++ e ∷ [])
next_hash-is h e clocks =
    let is = is_clocking-true e.body clocks in
    ap (λ b. cond b (sha_text (payload_text (suc (length h)) e.body ++ last_hash h)) []) is
    ∙ sym (last_hash-push h e ∙ ap (λ b. cond b (sha_text (payload_text (suc (length h)) e.body ++ last_hash h)) (last_hash h)) is)

cond-cond : {X : Type 0} (b : Bool) (x y z : X) → cond b (cond b x y) z ≡ cond b x z
cond-cond true x y z = refl
cond-cond false x y z = refl

-- one entry more is one line more
pub history_lines-push : (h : List Entry) (e : Entry) → history_lines (h ++ e ∷ []) ≡ history_lines h ++ next_line h e.body ∷ []
unfolding newest_hash lines_to
history_lines-push h e =
    ap lines_to (reverse-push h e)
    ∙ ap (λ n. lines_to (reverse h) ++ record_text (suc n) e.body (cond (is_clocking e.body) (cond (is_clocking e.body) (sha_text (payload_text (suc n) e.body ++ newest_hash (reverse h))) (newest_hash (reverse h))) []) ∷ []) (length-reverse h)
    ∙ ap (λ hash. lines_to (reverse h) ++ record_text (suc (length h)) e.body hash ∷ []) (cond-cond (is_clocking e.body) (sha_text (payload_text (suc (length h)) e.body ++ newest_hash (reverse h))) (newest_hash (reverse h)) [])

-- other records leave the hash that a history ends with
quiet : (front between : List Entry) → All (λ m. IsClocking m.body → ⊥) between → last_hash (front ++ between) ≡ last_hash front
quiet front [] none = ap last_hash (append-nil front)
quiet front (m ∷ between) none =
    let other = is_clocking-false m.body (All-head (λ x. IsClocking x.body → ⊥) m between none) in
    ap last_hash (sym (append_assoc front (m ∷ []) between))
    ∙ quiet (front ++ m ∷ []) between (All-tail (λ x. IsClocking x.body → ⊥) m between none)
    ∙ last_hash-push front m
    ∙ ap (λ b. cond b (sha_text (payload_text (suc (length front)) m.body ++ last_hash front)) (last_hash front)) other

-- from one number up to another with no clocking between, the hash stays
quiet_until : (h before behind : List Entry) (e : Entry) (low : ℕ) → h ≡ before ++ e ∷ behind → low ≤ length before → NoClockingBetween h low (suc (length before)) → last_hash before ≡ hash_at h low
quiet_until h before behind e low split within none =
    let front : take low before ≡ take low h =
    ap (λ xs. take low xs) (sym (take_at before (e ∷ behind) (length before) refl)) ∙ take-take low (length before) (before ++ e ∷ behind) within
    ∙ ap (λ xs. take low xs) (sym split) in
    let others : All (λ m. IsClocking m.body → ⊥) (drop low before) =
    λ k d inside clocks.
    let short : low + k < length before = omega (arith, length-drop low before) in
    let same : get_or (drop low before) k d ≡ get_or h (low + k) d =
    get_or-drop low before k d ∙ sym (split_before h before behind e d (low + k) split short) in
    none (suc (low + k)) (get_or h (low + k) d)
    (number_of_place h (low + k) d (omega (arith, split_in h before behind e split)))
    (omega arith) (omega arith)
    (subst (λ (m : Entry). IsClocking m.body) same clocks) in
    ap last_hash (sym (take-append-drop low before)) ∙ quiet (take low before) (drop low before) others ∙ ap last_hash front

-- a clocking's hash is over its payload and the hash before
hash_at-clocking : (h : List Entry) (nsr : ℕ) (e : Entry) (w : IsNumbered h nsr e) → IsClocking e.body → hash_at h nsr ≡ sha_text (payload_text nsr e.body ++ last_hash w.before)
hash_at-clocking h nsr e w clocks =
    ap (λ n. last_hash (take n h)) w.number
    ∙ ap last_hash (split_take h w.before w.behind e w.split)
    ∙ last_hash-push w.before e
    ∙ ap (λ b. cond b (sha_text (payload_text (suc (length w.before)) e.body ++ last_hash w.before)) (last_hash w.before)) (is_clocking-true e.body clocks)
    ∙ ap (λ n. sha_text (payload_text n e.body ++ last_hash w.before)) (sym w.number)

pub chained : (h : List Entry) → IsChained h
chained h = record {
  first = λ nsr e w clocks none.
      hash_at-clocking h nsr e w clocks
      ∙ ap (λ hash. sha_text (payload_text nsr e.body ++ hash))
      (quiet_until h w.before w.behind e 0 w.split (omega arith) (subst (λ n. NoClockingBetween h 0 n) w.number none) ∙ last_hash-nil)
      ∙ ap sha_text (append-nil (payload_text nsr e.body));
  next = λ before nsr d e v w was clocks less none.
      hash_at-clocking h nsr e w clocks
      ∙ ap (λ hash. sha_text (payload_text nsr e.body ++ hash))
      (quiet_until h w.before w.behind e before w.split (omega (arith, w.number)) (subst (λ n. NoClockingBetween h before n) w.number none));
}

length-lines_to : (older : List Entry) → length (lines_to older) ≡ length older
unfolding lines_to
length-lines_to [] = refl
length-lines_to (e ∷ older) = omega (arith, length-lines_to older, length-append (lines_to older) (newest_line e older ∷ []))

pub length-history_lines : (h : List Entry) → length (history_lines h) ≡ length h
length-history_lines h = length-lines_to (reverse h) ∙ length-reverse h

-- what stands behind adds lines behind
lines_behind : (front behind : List Entry) → (rest : List (List ℕ)) × (history_lines (front ++ behind) ≡ history_lines front ++ rest)
lines_behind front [] = ([], ap history_lines (append-nil front) ∙ sym (append-nil (history_lines front)))
lines_behind front (m ∷ behind) =
    let more = lines_behind (front ++ m ∷ []) behind in (
      next_line front m.body ∷ more.0,
      ap history_lines (sym (append_assoc front (m ∷ []) behind)) ∙ more.1
          ∙ ap (λ lines. lines ++ more.0) (history_lines-push front m)
          ∙ append_assoc (history_lines front) (next_line front m.body ∷ []) more.0,
    )

-- a hash is looked at for a clocking alone
pub record_text-hash : (nsr : ℕ) (body : Body) (x y : List ℕ) → (IsClocking body → x ≡ y) → record_text nsr body x ≡ record_text nsr body y
record_text-hash nsr (Employer at resp id cno name place) x y same = refl
record_text-hash nsr (Adjust before after resp) x y same = refl
record_text-hash nsr (Worker at op cpf name extra resp) x y same = refl
record_text-hash nsr (Event at code) x y same = refl
record_text-hash nsr (Clocking marked cpf recorded collector offline) x y same =
    ap (λ hash. record_text nsr (Clocking marked cpf recorded collector offline) hash) (same tt)

pub lines_of : (h : List Entry) → HasLines h
lines_of h = record {
  size = length-history_lines h;
  each = λ nsr e w.
      let more = lines_behind (w.before ++ e ∷ []) w.behind in
      let all : history_lines h ≡ history_lines w.before ++ next_line w.before e.body ∷ more.0 =
      ap history_lines (w.split ∙ sym (append_assoc w.before (e ∷ []) w.behind)) ∙ more.1
      ∙ ap (λ lines. lines ++ more.0) (history_lines-push w.before e)
      ∙ append_assoc (history_lines w.before) (next_line w.before e.body ∷ []) more.0 in
      let line = next_line w.before e.body in
      let at : get_or (history_lines h) (nsr - 1) line ≡ line =
      ap (λ lines. get_or lines (nsr - 1) line) all
      ∙ get_or_at (history_lines w.before) line more.0 line (nsr - 1) (omega (arith, w.number, length-history_lines w.before)) in
      let inside : nsr - 1 < length (history_lines h) =
      omega (arith, w.number, length-history_lines h, split_in h w.before w.behind e w.split) in
      slice_get-get_or (history_lines h) (nsr - 1) line inside
      ∙ ap Some (at ∙ ap (λ n. record_text n e.body (next_hash w.before e.body)) (sym w.number)
      ∙ record_text-hash nsr e.body (next_hash w.before e.body) (hash_at h nsr)
      (λ clocks. next_hash-is w.before e clocks ∙ sym (ap (λ n. last_hash (take n h)) w.number ∙ ap last_hash (split_take h w.before w.behind e w.split))));
}
