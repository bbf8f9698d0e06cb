-- The participants of one guard, from the first to the last step.
use Rattle.std.proofs.Common.{◌≡◌, ℕ, zero, suc, ◌+◌, ◌<◌, ◌≤◌, false, eqb, ltb, List, [], ◌∷◌, ◌++◌, map, length, take, set, get_or, Option, Some, subst, sym, refl, ap, ◌∙◌, arith, length-set, length-append, get_or-set_other}
use Rattle.std.specs.List.{All}
use Rattle.std.proofs.lemmas.List.{length-map, map-append, take_more, take_all}
use Rattle.std.proofs.lemmas.List.Elements.{All-push}
use Rattle.std.proofs.Math.Seq.{map-set_same}
use Rattle.std.proofs.Math.ListN as seq
use Rattle.std.specs.Option.{unwrap_or}
use mathlib.Core.Option.{some, some-injective}
use lib.ListN.{get_elem?}
use Rattle.rep_turn.specs.declared.note.Seen.{Seen}
use Rattle.rep_turn.specs.declared.view.Token.{Token}
use Rattle.rep_turn.specs.declared.view.View.{View}
use Rattle.rep_turn.specs.declared.pass.Pass.{Pass}
use Rattle.rep_turn.specs.Log.{Meaning, Adds, own}
use Rattle.rep_turn.specs.Views.{times, one_if, IsFree, token, joining, unnumbered, numbered}
use Rattle.atomic_table.specs.Table.{Final, Seen as Seat}
use Rattle.rep_turn.specs.Plays.{Finds}
use Rattle.rep_turn.specs.Rule.{IsOrderly}
use Rattle.rep_turn.specs.Tokens.{Guard, IsOf, Steps, IsKeptIn, view_in, view_of, number_of, seen_by, front_of, token_of}
use Rattle.rep_turn.proofs.Lists.{total-append, times_self, drawn_once, below_rises}
use Rattle.rep_turn.proofs.Beginnings.{own_added}
use Rattle.rep_turn.proofs.Comings.{Ends, closes}

pub at_get : {A : Type 0} (l : List A) (k : ℕ) (d : A) → k < length l → get_elem? l k ≡ some (get_or l k d)
at_get [] k d h = absurd (omega arith)
at_get (x ∷ xs) zero d h = refl
at_get (x ∷ xs) (suc k) d h = at_get xs k d (omega arith)

module _ {B E : Type 0} (meaning : B → Meaning E) (guard : Guard B) where
  pub exclusive : (done : B → ℕ → B → Type 0) (old new : Pass E) (before after : B) → IsOf meaning guard old → Finds meaning (view_of old) before
      → Adds old.number (meaning before) (meaning after) → done before old.number after → seen_by new ≡ (meaning after).seen → Steps meaning guard done old new
  exclusive done old new before after is finds adds worked shows =
      let k : ℕ = old.number in
      let mine : 0 < times k (view_of old).numbers = (let e = ap (times k) is.own_number ∙ times_self k in omega arith) in
      record {
        before = before;
        after = after;
        worked = worked;
        adds = adds;
        begins = finds.begins;
        counted = finds.counted;
        same_base = finds.same_base ∙ is.same_base;
        same_start = finds.same_start ∙ is.same_start;
        seen_after = shows;
        own_notes = ap (λ (s : Seen E). own k s.notes) shows ∙ (own_added k (meaning before).seen.notes adds.added (meaning after).seen.notes adds.notes adds.owned ∙ ap (λ l. l ++ adds.added) (sym (finds.own_seen k mine)));
      }

  -- The seat that has just drawn a number, of the `most` that there are
  pub record Seated (most number : ℕ) (v : View E) : Type 0 where
    pub free : IsFree v
    pub own_number : v.numbers ≡ number ∷ []
    pub fresh : v.least_next ≡ number + 1
    pub same_base : v.base ≡ (meaning guard.first).base
    pub same_start : v.start ≡ (meaning guard.first).start
    pub same_most : v.most ≡ most
    pub has_seen : v.seen ≡ (meaning guard.first).seen
    pub looked_at_none : v.front ≡ 0
    pub below : number < most

  abbrev pub IsNew : Pass E → Type 0
  IsNew p = (seen_by p ≡ (meaning guard.first).seen) × (front_of p ≡ 0)

  -- The tokens that were made, with numbers below this one
  pub record Issued (number : ℕ) (passes : List (Pass E)) : Type 0 where
    pub of : All (IsOf meaning guard) passes
    pub seen : All IsNew passes
    pub once : (k : ℕ) → times k (map number_of passes) ≤ one_if (ltb k number)

  pub none_issued : (number : ℕ) (passes : List (Pass E)) → passes ≡ [] → Issued number passes
  none_issued number passes empty = subst (Issued number) (sym empty) (record { of = λ k d h. absurd (omega arith); seen = λ k d h. absurd (omega arith); once = λ k. omega arith })

  pub issues : (most number next : ℕ) (v : View E) (passes : List (Pass E)) (p : Pass E) → Seated most number v → Issued number passes → p.number ≡ number → p.badge.views ≡ v ∷ [] → p.badge.table_id ≡ guard.table_id → number < next
      → Issued next (passes ++ p ∷ [])
  issues most number next v passes p seated made numbered viewed here lt =
      let view : view_of p ≡ v = ap view_in viewed in
      record {
        of = All-push (IsOf meaning guard) passes p made.of
            record {
              same_table = here;
              one_view = viewed ∙ ap (λ (w : View E). w ∷ []) (sym view);
              own_number = ap (λ (w : View E). w.numbers) view ∙ (seated.own_number ∙ ap (λ (k : ℕ). k ∷ []) (sym numbered));
              free = subst IsFree (sym view) seated.free;
              same_base = ap (λ (w : View E). w.base) view ∙ seated.same_base;
              same_start = ap (λ (w : View E). w.start) view ∙ seated.same_start;
            };
        seen = All-push IsNew passes p made.seen (ap (λ (w : View E). w.seen) view ∙ seated.has_seen, ap (λ (w : View E). w.front) view ∙ seated.looked_at_none);
        once = λ k.
            let before = drawn_once k number number (times k (map number_of passes)) (made.once k) (omega arith) in
            let is : map number_of (passes ++ p ∷ []) ≡ map number_of passes ++ number ∷ [] = map-append number_of passes (p ∷ []) ∙ ap (λ (n : ℕ). map number_of passes ++ n ∷ []) numbered in
            omega (arith, ap (times k) is, total-append (λ (n : ℕ). one_if (eqb n k)) (map number_of passes) (number ∷ []), before, below_rises k (number + 1) next (omega arith));
      }

  -- the seat draws its next number
  pub redraws : (most number next : ℕ) (v w : View E) → Seated most number v → w ≡ numbered (unnumbered v) next → number < next → next < most → Seated most next w
  redraws most number next v w seated is up room = subst (Seated most next) (sym is) (record {
    free = record { live = seated.free.live; holds_nothing = seated.free.holds_nothing; gathers_nothing = seated.free.gathers_nothing };
    own_number = refl;
    fresh = refl;
    same_base = seated.same_base;
    same_start = seated.same_start;
    same_most = seated.same_most;
    has_seen = seated.has_seen;
    looked_at_none = seated.looked_at_none;
    below = room;
  })

  -- So many of the tokens `all` were gathered, and are as in `now`
  pub record Gathered (all : List (Pass E)) (count : ℕ) (now : List (Pass E)) (v : View E) : Type 0 where
    pub live : v.spent ≡ false
    pub rests : v.holds ≡ false
    pub some_left : count ≤ length all
    pub same_tokens : map token_of now ≡ map token_of all
    pub gathered : v.gathered ≡ map token_of (take count all)
    pub numbers : length v.numbers ≡ count
    pub left : (k : ℕ) (d : Pass E) → count ≤ k → k < length now → IsOf meaning guard (get_or now k d)

  pub lengths : (all now : List (Pass E)) → map token_of now ≡ map token_of all → length now ≡ length all
  lengths all now same = sym (length-map now token_of) ∙ (ap length same ∙ length-map all token_of)

  pub gathers_none : (all : List (Pass E)) (v : View E) → v.spent ≡ false → v.holds ≡ false → v.gathered ≡ [] → v.numbers ≡ [] → All (IsOf meaning guard) all → Gathered all 0 all v
  gathers_none all v live rests none_yet bare of = record {
    live = live;
    rests = rests;
    some_left = omega arith;
    same_tokens = refl;
    gathered = none_yet;
    numbers = ap (λ (l : List ℕ). length l) bare;
    left = λ k d _ h. of k d h;
  }

  pub gathers_one : (all : List (Pass E)) (i : ℕ) (now : List (Pass E)) (v : View E) (d q : Pass E) (w : View E) → Gathered all i now v → i < length now
      → w ≡ joining v (view_of (get_or now i d)) → token_of q ≡ token_of (get_or now i d) → Gathered all (i + 1) (set now i q) w
  gathers_one all i now v d q w g inside is same =
      let p : Pass E = get_or now i d in
      let long = lengths all now g.same_tokens in
      let of_p : IsOf meaning guard p = g.left i d (omega arith) inside in
      let token_there : token_of (get_or all i d) ≡ token_of p =
      sym (seq.get_or-map token_of all i d) ∙ (ap (λ (l : List (Token E)). get_or l i (token_of d)) (sym g.same_tokens) ∙ seq.get_or-map token_of now i d) in
      let joined_tokens : map (token (view_of p)) (view_of p).numbers ≡ token_of p ∷ [] = ap (map (token (view_of p))) of_p.own_number in
      record {
        live = ap (λ (x : View E). x.spent) is ∙ g.live;
        rests = ap (λ (x : View E). x.holds) is ∙ g.rests;
        some_left = omega arith;
        same_tokens = map-set_same token_of now i q d same ∙ g.same_tokens;
        gathered = ap (λ (x : View E). x.gathered) is
            ∙ (ap (λ l. v.gathered ++ l) joined_tokens
            ∙ (ap (λ l. l ++ token_of p ∷ []) g.gathered
            ∙ (ap (λ (t : Token E). map token_of (take i all) ++ t ∷ []) (sym token_there)
            ∙ (sym (map-append token_of (take i all) (get_or all i d ∷ []))
            ∙ ap (map token_of) (sym (take_more all i d (omega arith)))))));
        numbers = omega (arith, ap (λ (x : View E). length x.numbers) is, length-append v.numbers (view_of p).numbers, ap (λ (l : List ℕ). length l) of_p.own_number, g.numbers);
        left = λ k e above h. subst (IsOf meaning guard) (sym (get_or-set_other now i k q e (λ z. omega arith))) (g.left k e (omega arith) (omega (arith, length-set now i q)));
      }

  pub all_kept : (all : List (Pass E)) (count : ℕ) (now : List (Pass E)) (v : View E) (first : B) (bound : ℕ) (before state : B) → before ≡ state → length all ≤ count → Gathered all count now v
      → Ends meaning first bound v.gathered before → All (IsKeptIn meaning state) (map token_of all)
  all_kept all count now v first bound before state same whole g ends k d h =
      let is : v.gathered ≡ map token_of all = g.gathered ∙ ap (map token_of) (take_all count all whole) in
      subst (λ (b : B). IsKeptIn meaning b (get_or (map token_of all) k d)) same
      (ends.kept k (get_or (map token_of all) k d) (ap (λ (l : List (Token E)). get_elem? l k) is ∙ at_get (map token_of all) k d h))

-- the state in the slot of the table that was closed
pub closed_with : {B E : Type 0} (meaning : B → Meaning E) (first : B) (bound : ℕ) (id : ℕ) (v : View E) (ws : List ℕ) (xs : List (Option B)) (found : Option B) → v.spent ≡ false → v.holds ≡ false → length v.numbers ≡ bound
    → Final (Seat (IsOrderly meaning first bound) id v) ws xs → get_elem? xs 0 ≡ some found → (state : B) × (Some state ≡ found) × Ends meaning first bound v.gathered state
closed_with meaning first bound id v ws xs found live rests all f at =
    let e = closes meaning first bound id v ws xs live rests all f in (e.0, some-injective (Some e.0) found (sym e.1 ∙ at), e.2)

pub same_state : {B : Type 0} (state result : B) (found : Option B) → Some state ≡ found → found ≡ Some result → state ≡ result
same_state {B} state result found a b = ap (λ (o : Option B). unwrap_or o state) (a ∙ b)
