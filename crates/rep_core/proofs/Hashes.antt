-- The hashes that the core keeps.
use Rattle.std.proofs.Common.{◌≡◌, ℕ, suc, ◌-◌, ◌<◌, ◌≤◌, inl, inr, Bool, true, false, cond, List, [], ◌∷◌, ◌++◌, length, get_or, take, Option, Some, None, slice_get, refl, sym, ap, ◌∙◌, subst, arith, length-append}
use Rattle.std.specs.Option.{option_or}
use Rattle.std.proofs.lemmas.Bool.{cases_lt}
use Rattle.std.proofs.lemmas.List.{get_or_append_left, get_or_push, take-append-le, take_all}
use Rattle.afd_records.specs.Record.{last_nsr, recorded_of, payload_text, HasText, IsClocking, is_clocking}
use Rattle.afd_records.specs.Line.{record_text, hash_bytes, HasHash}
use Rattle.afd_records.specs.declared.record.Body.{Body}
use Rattle.afd_records.specs.declared.record.Body.TheVariants.{Employer, Adjust, Worker, Event, Clocking}
use Rattle.afd_chain.specs.Chain.{sha_text}
use Rattle.rep_wire.specs.Reply.{hash_text}
use Rattle.rep_wire.specs.declared.reply.Slip.{Slip}
use Rattle.rep_wire.specs.declared.request.Entry.{Entry}
use Rattle.rep_fields.specs.Moment.{Moment}
use Rattle.rep_core.specs.History.{IsNumbered}
use Rattle.rep_core.specs.Chained.{last_hash, next_hash, next_line, history_lines}
use Rattle.rep_core.specs.Answered.{marked_in, hash_in, slip_of}
use Rattle.rep_core.specs.Links.{hash_at}
use Rattle.rep_core.specs.Hashes.{IsTip, hash_behind, linked, HasItsHash, AreHashes, IsInStep}
use Rattle.rep_core.proofs.Lines.{hash_after, last_hash-push, last_hash-nil, next_hash-is, lines_of, record_text-hash}

hash_bytes-tip : (tip : Option (List ℕ)) (hash : List ℕ) → IsTip tip hash → hash_bytes tip ≡ hash
hash_bytes-tip None hash is = sym is
hash_bytes-tip (Some text) hash is = is.0

pub hash_text-tip : (tip : Option (List ℕ)) (hash : List ℕ) → IsTip tip hash → hash_text tip ≡ hash
hash_text-tip None hash is = sym is
hash_text-tip (Some text) hash is = is.0

-- a clocking is linked to the last one
pub linked-behind : (h : List Entry) (body : Body) (tip : Option (List ℕ)) (nsr : ℕ) → IsTip tip (last_hash h) → nsr ≡ suc (length h) → linked nsr body tip ≡ hash_behind h body
linked-behind h body tip nsr tip_is number =
    ap (λ n. linked n body tip) number
    ∙ same_choice (is_clocking body) (sha_text (payload_text (suc (length h)) body ++ hash_bytes tip)) (sha_text (payload_text (suc (length h)) body ++ last_hash h))
    (ap (λ hash. sha_text (payload_text (suc (length h)) body ++ hash)) (hash_bytes-tip tip (last_hash h) tip_is))
  where
    same_choice : (b : Bool) (x y : List ℕ) → x ≡ y → cond b (Some x) None ≡ cond b (Some (cond b y [])) None
    same_choice true x y same = ap Some same
    same_choice false x y same = refl

-- the hash that a history ends with, once more is recorded
tip_after : (h : List Entry) (body : Body) (hash tip : Option (List ℕ)) (new : List ℕ) → hash ≡ hash_behind h body → HasHash body hash → IsTip tip (last_hash h) → new ≡ hash_after h body → IsTip (option_or hash tip) new
tip_after h (Employer at resp id cno name place) None tip new is given tip_is new_is = subst (IsTip tip) (sym new_is) tip_is
tip_after h (Employer at resp id cno name place) (Some text) tip new is given tip_is new_is = absurd cc
tip_after h (Adjust before after resp) None tip new is given tip_is new_is = subst (IsTip tip) (sym new_is) tip_is
tip_after h (Adjust before after resp) (Some text) tip new is given tip_is new_is = absurd cc
tip_after h (Worker at op cpf name extra resp) None tip new is given tip_is new_is = subst (IsTip tip) (sym new_is) tip_is
tip_after h (Worker at op cpf name extra resp) (Some text) tip new is given tip_is new_is = absurd cc
tip_after h (Event at code) None tip new is given tip_is new_is = subst (IsTip tip) (sym new_is) tip_is
tip_after h (Event at code) (Some text) tip new is given tip_is new_is = absurd cc
tip_after h (Clocking marked cpf recorded collector offline) None tip new is given tip_is new_is = absurd given
tip_after h (Clocking marked cpf recorded collector offline) (Some text) tip new is given tip_is new_is = (cc, given)

-- the hash of the record behind a history is the one that its receipt has
hash_behind-in : (h after : List Entry) (nsr : ℕ) (body : Body) → (IsClocking body → next_hash h body ≡ last_hash (take nsr after)) → hash_behind h body ≡ hash_in after nsr body
hash_behind-in h after nsr (Employer at resp id cno name place) same = refl
hash_behind-in h after nsr (Adjust before after' resp) same = refl
hash_behind-in h after nsr (Worker at op cpf name extra resp) same = refl
hash_behind-in h after nsr (Event at code) same = refl
hash_behind-in h after nsr (Clocking marked cpf recorded collector offline) same = ap Some (same tt)

-- a hash in a history stays
hash_in-kept : (h after : List Entry) (nsr : ℕ) (body : Body) → take nsr h ≡ take nsr after → hash_in h nsr body ≡ hash_in after nsr body
hash_in-kept h after nsr (Employer at resp id cno name place) same = refl
hash_in-kept h after nsr (Adjust before after' resp) same = refl
hash_in-kept h after nsr (Worker at op cpf name extra resp) same = refl
hash_in-kept h after nsr (Event at code) same = refl
hash_in-kept h after nsr (Clocking marked cpf recorded collector offline) same = ap (λ xs. Some (last_hash xs)) same

module _ (h : List Entry) (hashes : List (Option (List ℕ))) (e : Entry) (hash : Option (List ℕ)) where
  kept_hash : AreHashes hashes h → (i : ℕ) (other : Option (List ℕ)) (d : Entry) → i < length h → HasItsHash (h ++ e ∷ []) (suc i) (get_or (h ++ e ∷ []) i d) (get_or (hashes ++ hash ∷ []) i other)
  kept_hash are i other d inside =
      let old = are.each i other d inside in
      let entry : get_or (h ++ e ∷ []) i d ≡ get_or h i d = get_or_append_left h (e ∷ []) d i inside in
      let text : get_or (hashes ++ hash ∷ []) i other ≡ get_or hashes i other = get_or_append_left hashes (hash ∷ []) other i (omega (arith, are.size)) in
      subst (λ x. HasItsHash (h ++ e ∷ []) (suc i) x (get_or (hashes ++ hash ∷ []) i other)) (sym entry)
      (subst (λ x. HasItsHash (h ++ e ∷ []) (suc i) (get_or h i d) x) (sym text)
      (record {
        text = old.text;
        is = old.is ∙ hash_in-kept h (h ++ e ∷ []) (suc i) (get_or h i d).body (sym (take-append-le (suc i) h (e ∷ []) (omega arith)));
        given = old.given;
      }))

  new_hash : AreHashes hashes h → HasText e.body → hash ≡ hash_behind h e.body → HasHash e.body hash → (i : ℕ) (other : Option (List ℕ)) (d : Entry) → i ≡ length h → HasItsHash (h ++ e ∷ []) (suc i) (get_or (h ++ e ∷ []) i d) (get_or (hashes ++ hash ∷ []) i other)
  new_hash are text is given i other d at =
      let entry : get_or (h ++ e ∷ []) i d ≡ e = get_or_push h e d i (sym at) in
      let last : get_or (hashes ++ hash ∷ []) i other ≡ hash = get_or_push hashes hash other i (omega (arith, are.size)) in
      let whole : take (suc i) (h ++ e ∷ []) ≡ h ++ e ∷ [] = take_all (suc i) (h ++ e ∷ []) (omega (arith, length-append h (e ∷ []))) in
      subst (λ x. HasItsHash (h ++ e ∷ []) (suc i) x (get_or (hashes ++ hash ∷ []) i other)) (sym entry)
      (subst (λ x. HasItsHash (h ++ e ∷ []) (suc i) e x) (sym last)
      (record {
        text = text;
        is = is ∙ hash_behind-in h (h ++ e ∷ []) (suc i) e.body (λ clocks. next_hash-is h e clocks ∙ ap last_hash (sym whole));
        given = given;
      }))

  AreHashes-push : AreHashes hashes h → HasText e.body → hash ≡ hash_behind h e.body → HasHash e.body hash → AreHashes (hashes ++ hash ∷ []) (h ++ e ∷ [])
  AreHashes-push are text is given = record {
    size = omega (arith, are.size, length-append hashes (hash ∷ []), length-append h (e ∷ []));
    each = λ i other d inside. elim (cases_lt i (length h)) [
      | inl below ↦ kept_hash are i other d below
      | inr above ↦ new_hash are text is given i other d (omega (arith, length-append h (e ∷ [])))
    ];
  }

  -- the core's lists belong together after one entry more
  pub IsInStep-push : (tip : Option (List ℕ)) → IsInStep h hashes tip → length h < last_nsr → HasText e.body → hash ≡ hash_behind h e.body → HasHash e.body hash → IsInStep (h ++ e ∷ []) (hashes ++ hash ∷ []) (option_or hash tip)
  IsInStep-push tip step room text is given = record {
    numbers = omega (arith, length-append h (e ∷ []));
    hashes_are = AreHashes-push step.hashes_are text is given;
    tip_is = tip_after h e.body hash tip (last_hash (h ++ e ∷ [])) is given step.tip_is (last_hash-push h e);
  }

-- the empty core
pub IsInStep-nil : IsInStep [] [] None
IsInStep-nil = record {
  numbers = omega arith;
  hashes_are = record { size = refl; each = λ i other e inside. absurd (omega arith) };
  tip_is = last_hash-nil;
}

pub IsInStep-empty : (h : List Entry) (hashes : List (Option (List ℕ))) → h ≡ [] → hashes ≡ [] → IsInStep h hashes None
IsInStep-empty h hashes none none' =
    subst (λ xs. IsInStep xs hashes None) (sym none) (subst (λ xs. IsInStep [] xs None) (sym none') IsInStep-nil)

bytes_of-cond : (b : Bool) (x : List ℕ) → hash_bytes (cond b (Some (cond b x [])) None) ≡ cond b x []
bytes_of-cond true x = refl
bytes_of-cond false x = refl

-- the line that is written behind a history
pub next_line-is : (h : List Entry) (body : Body) (nsr : ℕ) (hash : Option (List ℕ)) → nsr ≡ suc (length h) → hash ≡ hash_behind h body → record_text nsr body (hash_bytes hash) ≡ next_line h body
next_line-is h body nsr hash number is =
    ap (λ n. record_text n body (hash_bytes hash)) number
    ∙ ap (λ x. record_text (suc (length h)) body x)
    (ap hash_bytes is ∙ bytes_of-cond (is_clocking body) (sha_text (payload_text (suc (length h)) body ++ last_hash h)))

hash_bytes-in : (h : List Entry) (nsr : ℕ) (body : Body) (hash : Option (List ℕ)) → hash ≡ hash_in h nsr body → IsClocking body → hash_at h nsr ≡ hash_bytes hash
hash_bytes-in h nsr (Employer at resp id cno name place) hash is clocks = absurd clocks
hash_bytes-in h nsr (Adjust before after resp) hash is clocks = absurd clocks
hash_bytes-in h nsr (Worker at op cpf name extra resp) hash is clocks = absurd clocks
hash_bytes-in h nsr (Event at code) hash is clocks = absurd clocks
hash_bytes-in h nsr (Clocking marked cpf recorded collector offline) hash is clocks = sym (ap hash_bytes is)

-- the line of a number
pub line_of_number : (h : List Entry) (nsr : ℕ) (e : Entry) (hash : Option (List ℕ)) → IsNumbered h nsr e → HasItsHash h nsr e hash → slice_get (history_lines h) (nsr - 1) ≡ Some (record_text nsr e.body (hash_bytes hash))
line_of_number h nsr e hash numbered its =
    (lines_of h).each nsr e numbered
    ∙ ap Some (record_text-hash nsr e.body (hash_at h nsr) (hash_bytes hash) (hash_bytes-in h nsr e.body hash its.is))

-- what code reads beside an entry
pub its_hash : (h items : List Entry) (hashes : List (Option (List ℕ))) (nsr place : ℕ) (e : Entry) (hash : Option (List ℕ)) → AreHashes hashes items → items ≡ h → 1 ≤ nsr → nsr ≤ length h → place ≡ nsr - 1 → e ≡ get_or items place e → hash ≡ get_or hashes place hash → HasItsHash h nsr e hash
its_hash h items hashes nsr place e hash are same low high at entry text =
    let inside : place < length items = omega (arith, ap length same) in
    let number : suc place ≡ nsr = omega arith in
    subst (λ xs. HasItsHash xs nsr e hash) same
    (subst (λ n. HasItsHash items n e hash) number
    (subst (λ x. HasItsHash items (suc place) x hash) (sym entry)
    (subst (λ x. HasItsHash items (suc place) (get_or items place e) x) (sym text) (are.each place hash e inside))))

-- an entry that code reads has a text
pub HasText-at : (items : List Entry) (hashes : List (Option (List ℕ))) (nsr place : ℕ) (e : Entry) → AreHashes hashes items → 1 ≤ nsr → nsr ≤ length items → place ≡ nsr - 1 → e ≡ get_or items place e → HasText e.body
HasText-at items hashes nsr place e are low high at entry =
    subst (λ (x : Entry). HasText x.body) (sym entry) (are.each place None e (omega arith)).text

-- the receipt of an entry
pub slip-is : (h : List Entry) (nsr : ℕ) (body : Body) (marked : Option Moment) (recorded : Moment) (hash : Option (List ℕ)) → marked ≡ marked_in body → recorded ≡ recorded_of body → hash ≡ hash_in h nsr body → let slip : Slip = record { nsr = nsr; marked = marked; recorded = recorded; hash = hash } in slip ≡ slip_of h nsr body
slip-is h nsr body marked recorded hash marked_is recorded_is hash_is = cc

-- the core's lists after a record was added, as code writes it
pub append_in_step : (h h' : List Entry) (hashes hashes' : List (Option (List ℕ))) (e : Entry) (hash tip tip' : Option (List ℕ)) → IsInStep h hashes tip → length h < last_nsr → HasText e.body → hash ≡ hash_behind h e.body → HasHash e.body hash → h' ≡ h ++ e ∷ [] → hashes' ≡ hashes ++ hash ∷ [] → tip' ≡ option_or hash tip → IsInStep h' hashes' tip'
append_in_step h h' hashes hashes' e hash tip tip' step room text is given h'_is hashes'_is tip'_is =
    let added = IsInStep-push h hashes e hash tip step room text is given in
    subst (λ xs. IsInStep xs hashes' tip') (sym h'_is)
    (subst (λ xs. IsInStep (h ++ e ∷ []) xs tip') (sym hashes'_is)
    (subst (λ o. IsInStep (h ++ e ∷ []) (hashes ++ hash ∷ []) o) (sym tip'_is) added))
