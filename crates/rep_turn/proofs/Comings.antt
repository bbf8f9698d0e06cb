-- Numbers, new views, views that are split and joined, and the table's first and last state keep the rule.
use Rattle.std.proofs.Common.{◌≡◌, ◌≢◌, ◌⊎◌, ℕ, zero, suc, ◌+◌, ◌^◌, ◌<◌, Bool, true, false, eqb, List, [], ◌∷◌, ◌++◌, map, length, set, get_or, Option, Some, subst, sym, refl, ap, ◌∙◌, inl, inr, ⊎_elim, arith, true≢false, length-append, eq-eqb}
use mathlib.Core.Logic.{dite}
use native.Mathlib.Decide.{ℕ_discrete, dec_le}
use mathlib.Core.Option.{some, none, some-injective, some-ne-none}
use mathlib.Core.Option as maybe
use lib.ListN.{get_elem?}
use prog.Atomic.{either}
use Rattle.atomic_table.specs.Table.{State, Me, step, Act, keeps, Valid, carried_after, stepped, Allows, Enters, Splits, Joins, opening, Final, Seen}
use Rattle.atomic_table.proofs.Lists.{at_set, at_snoc, set_else, exchanged}
use Rattle.rep_turn.specs.declared.note.Seen as log
use Rattle.rep_turn.specs.declared.view.Token.{Token}
use Rattle.rep_turn.specs.declared.view.View.{View}
use Rattle.rep_turn.specs.Log.{Meaning, Begins, AllOwnedBelow, entries, own, made_of}
use Rattle.rep_turn.specs.Views.{total, times, one_if, holder, IsFree, first_view, unnumbered, numbered, joining, spent_view, token, longer_seen}
use Rattle.rep_turn.specs.Rule.{IsUnder, Knows, IsOrderly}
use Rattle.rep_turn.specs.Plays.{drew, sat}
use Rattle.rep_turn.specs.Tokens.{IsKeptIn}
use Rattle.rep_turn.proofs.Lists.{total-append, total-set, term_le, terms_le, total_none, times_one, drawn_once}
use Rattle.rep_turn.proofs.Beginnings.{begins_self, longer_begins, longer_is, own_between, own_absent}
use Rattle.rep_turn.proofs.Keeps.{nowhere, none_of_false, knows_more, unmoved}

at_append : {A : Type 0} (l m : List A) (i : ℕ) (b : A) → get_elem? (l ++ m) i ≡ some b → (get_elem? l i ≡ some b) ⊎ ((j : ℕ) × (get_elem? m j ≡ some b))
at_append [] m i b e = inr (i, e)
at_append (x ∷ xs) m zero b e = inl e
at_append (x ∷ xs) m (suc i) b e = at_append xs m i b e

at_mapped : {A C : Type 0} (f : A → C) (l : List A) (i : ℕ) (b : C) → get_elem? (map f l) i ≡ some b → (a : A) × (get_elem? l i ≡ some a) × (f a ≡ b)
at_mapped f [] i b e = absurd (some-ne-none b (sym e))
at_mapped f (x ∷ xs) zero b e = (x, refl, some-injective (f x) b e)
at_mapped f (x ∷ xs) (suc i) b e = at_mapped f xs i b e

stands : (k : ℕ) (ks : List ℕ) (i : ℕ) → get_elem? ks i ≡ some k → 0 < times k ks
stands k ks i e = let t = term_le (λ (n : ℕ). one_if (eqb n k)) ks i k e in let one : one_if (eqb k k) ≡ 1 = ap one_if (eq-eqb k k refl) in omega arith

module _ {B E : Type 0} (meaning : B → Meaning E) (first : B) (bound : ℕ) where
  abbrev St : Type 0
  St = State (Option B) (View E)

  abbrev Sat : Type 0
  Sat = Me (Option B) (View E)

  abbrev Good : St → Type 0
  Good = IsOrderly meaning first bound

  abbrev board : List ℕ → List (maybe.Option (Option B)) → List (View E) → St
  board ws hs vs = record { words = ws; homes = hs; views = vs }

  abbrev count : log.Seen E → ℕ
  count p = (meaning first).base + entries p.notes

  -- the number k was drawn
  draws_it : (s : St) (o : Good s) (id : ℕ) (v : View E) (k : ℕ) → get_elem? s.views id ≡ some v → IsFree v → v.numbers ≡ [] → k ≡ o.next → k < bound
      → Good (board (set s.words 2 (k + 1)) s.homes (set s.views id (numbered v k)))
  draws_it s o id v k at free bare is room =
      let w : View E = numbered v k in
      let kn = o.each id v at free.live in
      let absent : own k v.seen.notes ≡ own k o.published.notes =
      own_absent k v.seen.notes o.published.notes kn.begins.notes (o.owners k (omega arith)) ∙ sym (o.owners k (omega arith)) in
      record {
        taken = o.taken;
        next = k + 1;
        published = o.published;
        waiting = o.waiting;
        words = ap (λ (l : List ℕ). set l 2 (k + 1)) o.words;
        fits = o.fits;
        one_slot = o.one_slot;
        begun = o.begun;
        home = o.home;
        holders = (let t = total-set holder s.views id v w at in let h = o.holders in omega arith);
        one_holder = o.one_holder;
        spent_rests = λ i u e spent. ⊎_elim (λ (q : (i ≡ id) × (w ≡ u)). ap (λ (x : View E). x.holds) (sym q.1) ∙ free.holds_nothing) (λ q. o.spent_rests i u q.1 spent) (at_set s.views id i w u e);
        once = λ j. let before = drawn_once j o.next k (total (λ (x : View E). times j x.numbers) s.views) (o.once j) (omega arith) in
            omega (arith, total-set (λ (x : View E). times j x.numbers) s.views id v w at, ap (times j) bare, before);
        drawn = omega (arith, total-set (λ (x : View E). length x.numbers) s.views id v w at, ap (λ (l : List ℕ). length l) bare, o.drawn);
        started = omega arith;
        within = omega arith;
        owners = λ j above. o.owners j (omega arith);
        each = λ i u e live. ⊎_elim
            (λ (q : (i ≡ id) × (w ≡ u)). subst (Knows o.published (count o.published) (k + 1) bound (meaning first)) q.1
            record {
              same_base = kn.same_base;
              same_start = kn.same_start;
              same_bound = kn.same_bound;
              begins = kn.begins;
              counted = kn.counted;
              undrawn = omega arith;
              has_taken = kn.has_taken;
              has_number = λ _. omega arith;
              own_seen = λ j some_j. let same : j ≡ k = times_one j k w.numbers refl some_j in subst (λ (n : ℕ). own n v.seen.notes ≡ own n o.published.notes) (sym same) absent;
              gathers = λ j t there. absurd (nowhere v.gathered j t free.gathers_nothing there);
            })
            (λ (q : (i ≢ id) × (get_elem? s.views i ≡ some u)).
            knows_more o.published o.published (count o.published) (count o.published) o.next (k + 1) bound (meaning first) u (begins_self o.published) (omega arith) (omega arith) (λ _ _. refl) (λ _. refl) (o.each i u q.1 live))
            (at_set s.views id i w u e);
      }

  abbrev DrawGoes : St → ℕ → ℕ → Sat → ℕ → ℕ → ℕ → Type 0
  DrawGoes s n id m old new x = (w : View E) × (a : Act (Option B)) × Valid s.homes m.1 a × Good (stepped s 2 x id m.1 w a) × drew (step n 2 old new none) m (get_or s.words 2 0) (w, carried_after m.1 a)

  pub draws : (n id : ℕ) (m : Sat) (old new : ℕ) → IsFree m.0 → m.0.numbers ≡ [] → old < m.0.most → new ≡ old + 1
      → Allows Good n id m 2 (λ y. either (eqb y old) new y) (drew (step n 2 old new none) m)
  draws n id m old new free bare room is s o one at small =
      let k : ℕ = get_or s.words 2 0 in
      exchanged k old new (DrawGoes s n id m old new)
      (λ hit.
      let kn = o.each id m.0 at free.live in
      let most = kn.same_bound in
      let low = kn.undrawn in
      let found : k ≡ o.next = ap (λ (l : List ℕ). get_or l 2 0) o.words in
      let next : k + 1 ≡ new = omega arith in (
        numbered m.0 k,
        keeps,
        tt,
        subst (λ (x : ℕ). Good (board (set s.words 2 x) s.homes (set s.views id (numbered m.0 k)))) next (draws_it s o id m.0 k at free bare found (omega arith)),
        ((λ _. (omega arith, refl)), λ miss. absurd (miss hit)),
      ))
      (λ miss. (m.0, keeps, tt, unmoved meaning first bound s o 2 id m.0 at, ((λ hit. absurd (miss hit)), λ _. refl)))

  -- a view with no number comes
  pub comes : (s : St) (o : Good s) (w : View E) → w.spent ≡ false → w.holds ≡ false → w.numbers ≡ []
      → Knows o.published (count o.published) o.next bound (meaning first) w → Good (board s.words s.homes (s.views ++ w ∷ []))
  comes s o w live rests bare kw = record {
    taken = o.taken;
    next = o.next;
    published = o.published;
    waiting = o.waiting;
    words = o.words;
    fits = o.fits;
    one_slot = o.one_slot;
    begun = o.begun;
    home = o.home;
    holders = omega (arith, total-append holder s.views (w ∷ []), none_of_false w.holds rests, o.holders);
    one_holder = o.one_holder;
    spent_rests = λ i u e spent. ⊎_elim (λ there. o.spent_rests i u there spent) (λ same. ap (λ (x : View E). x.holds) (sym same) ∙ rests) (at_snoc s.views w u i e);
    once = λ k. omega (arith, total-append (λ (x : View E). times k x.numbers) s.views (w ∷ []), ap (times k) bare, o.once k);
    drawn = omega (arith, total-append (λ (x : View E). length x.numbers) s.views (w ∷ []), ap (λ (l : List ℕ). length l) bare, o.drawn);
    started = o.started;
    within = o.within;
    owners = o.owners;
    each = λ i u e live_u. ⊎_elim (λ there. o.each i u there live_u) (λ same. subst (Knows o.published (count o.published) o.next bound (meaning first)) same kw) (at_snoc s.views w u i e);
  }

  pub sits : (n : ℕ) → Enters Good n 0 (λ r w. sat {S = Option B} {E = E} (step n 0 0 0 none) (first_view (meaning first) bound, []) r (w, []))
  sits n s o one small =
      let w : View E = unnumbered (first_view (meaning first) bound) in (
        w,
        comes s o w refl refl refl
            record {
              same_base = refl;
              same_start = refl;
              same_bound = refl;
              begins = o.begun;
              counted = omega arith;
              undrawn = (let t = o.started in omega arith);
              has_taken = λ f. absurd (true≢false (sym f));
              has_number = λ f. absurd (true≢false (sym f));
              own_seen = λ k some_k. absurd (omega arith);
              gathers = λ i t e. absurd (some-ne-none t (sym e));
            },
        refl,
      )

  pub splits : (id : ℕ) (v : View E) → IsFree v → Splits Good id v (unnumbered v) v
  splits id v free s o at =
      let w : View E = unnumbered v in
      let vs : List (View E) = set s.views id w in
      let kn = o.each id v at free.live in
      let rests = none_of_false v.holds free.holds_nothing in
      let K : View E → Type 0 = Knows o.published (count o.published) o.next bound (meaning first) in
      record {
        taken = o.taken;
        next = o.next;
        published = o.published;
        waiting = o.waiting;
        words = o.words;
        fits = o.fits;
        one_slot = o.one_slot;
        begun = o.begun;
        home = o.home;
        holders = omega (arith, total-append holder vs (v ∷ []), total-set holder s.views id v w at, rests, o.holders);
        one_holder = o.one_holder;
        spent_rests = λ i u e spent. ⊎_elim
            (λ there. ⊎_elim (λ (q : (i ≡ id) × (w ≡ u)). ap (λ (x : View E). x.holds) (sym q.1) ∙ free.holds_nothing) (λ q. o.spent_rests i u q.1 spent) (at_set s.views id i w u there))
            (λ same. ap (λ (x : View E). x.holds) (sym same) ∙ free.holds_nothing) (at_snoc vs v u i e);
        once = λ k. omega (arith, total-append (λ (x : View E). times k x.numbers) vs (v ∷ []), total-set (λ (x : View E). times k x.numbers) s.views id v w at, o.once k);
        drawn = omega (arith, total-append (λ (x : View E). length x.numbers) vs (v ∷ []), total-set (λ (x : View E). length x.numbers) s.views id v w at, o.drawn);
        started = o.started;
        within = o.within;
        owners = o.owners;
        each = λ i u e live. ⊎_elim
            (λ there. ⊎_elim
            (λ (q : (i ≡ id) × (w ≡ u)). subst K q.1
            record {
              same_base = kn.same_base;
              same_start = kn.same_start;
              same_bound = kn.same_bound;
              begins = kn.begins;
              counted = kn.counted;
              undrawn = kn.undrawn;
              has_taken = kn.has_taken;
              has_number = λ h. absurd (true≢false (sym h ∙ free.holds_nothing));
              own_seen = λ k some_k. absurd (omega arith);
              gathers = λ j t e. absurd (nowhere v.gathered j t free.gathers_nothing e);
            })
            (λ q. o.each i u q.1 live) (at_set s.views id i w u there))
            (λ same. subst K same kn) (at_snoc vs v u i e);
      }

  -- the view v with all that w knew
  joined : (p : log.Seen E) (c next : ℕ) (v w : View E) → v.holds ≡ false → Knows p c next bound (meaning first) v → Knows p c next bound (meaning first) w
      → Knows p c next bound (meaning first) (joining v w)
  joined p c next v w rests kv kw =
      let both : log.Seen E = longer_seen v.seen w.seen in
      let long = longer_is v.seen.notes w.seen.notes p.notes kv.begins.notes kw.begins.notes in
      let numbers : (k : ℕ) → times k (v.numbers ++ w.numbers) ≡ times k v.numbers + times k w.numbers = λ k. total-append (λ (n : ℕ). one_if (eqb n k)) v.numbers w.numbers in
      record {
        same_base = kv.same_base;
        same_start = kv.same_start;
        same_bound = kv.same_bound;
        begins = longer_begins v.seen w.seen p kv.begins kw.begins;
        counted = (let a = kv.counted in let b = kw.counted in omega arith);
        undrawn = kv.undrawn;
        has_taken = kv.has_taken;
        has_number = λ h. absurd (true≢false (sym h ∙ rests));
        own_seen = λ k some_k. dite (dec_le 1 (times k v.numbers))
            (λ mine. own_between k v.seen.notes both.notes p.notes long.0 long.2 (kv.own_seen k (omega arith)))
            (λ other. own_between k w.seen.notes both.notes p.notes long.1 long.2 (kw.own_seen k (omega (arith, numbers k))));
        gathers = λ i t e. ⊎_elim
            (λ there. let g = kv.gathers i t there in (g.0, omega (arith, numbers t.number, g.1)))
            (λ (q : (j : ℕ) × (get_elem? (map (token w) w.numbers) j ≡ some t)).
            let a = at_mapped (token w) w.numbers q.0 t q.1 in
            let some_a = stands a.0 w.numbers q.0 a.1 in
            subst (λ (x : Token E). IsUnder p c x × (0 < times x.number (v.numbers ++ w.numbers))) a.2
            (record { begins = kw.begins; counted = kw.counted; own_seen = kw.own_seen a.0 some_a }, omega (arith, numbers a.0)))
            (at_append v.gathered (map (token w) w.numbers) i t e);
      }

  pub joins : (id : ℕ) (v : View E) (other : ℕ) (w : View E) → v.spent ≡ false → v.holds ≡ false → IsFree w → Joins Good id v other w (joining v w) spent_view
  joins id v other w live rests free s o at apart at_set_w =
      let both : View E = joining v w in
      let vs : List (View E) = set s.views id both in
      let at_w : get_elem? s.views other ≡ some w = sym (set_else s.views id other both apart) ∙ at_set_w in
      let K : View E → Type 0 = Knows o.published (count o.published) o.next bound (meaning first) in
      record {
        taken = o.taken;
        next = o.next;
        published = o.published;
        waiting = o.waiting;
        words = o.words;
        fits = o.fits;
        one_slot = o.one_slot;
        begun = o.begun;
        home = o.home;
        holders = omega (arith, total-set holder s.views id v both at, total-set holder vs other w spent_view at_set_w, none_of_false w.holds free.holds_nothing, o.holders);
        one_holder = o.one_holder;
        spent_rests = λ i u e spent. ⊎_elim
            (λ (q : (i ≡ other) × (spent_view ≡ u)). ap (λ (x : View E). x.holds) (sym q.1))
            (λ there. ⊎_elim (λ (q : (i ≡ id) × (both ≡ u)). ap (λ (x : View E). x.holds) (sym q.1) ∙ rests) (λ q. o.spent_rests i u q.1 spent) (at_set s.views id i both u there.1))
            (at_set vs other i spent_view u e);
        once = λ k. omega (
          arith,
          total-set (λ (x : View E). times k x.numbers) s.views id v both at,
          total-set (λ (x : View E). times k x.numbers) vs other w spent_view at_set_w,
          total-append (λ (n : ℕ). one_if (eqb n k)) v.numbers w.numbers,
          o.once k,
        );
        drawn = omega (
          arith,
          total-set (λ (x : View E). length x.numbers) s.views id v both at,
          total-set (λ (x : View E). length x.numbers) vs other w spent_view at_set_w,
          length-append v.numbers w.numbers,
          o.drawn,
        );
        started = o.started;
        within = o.within;
        owners = o.owners;
        each = λ i u e live_u. ⊎_elim
            (λ (q : (i ≡ other) × (spent_view ≡ u)). absurd (true≢false (ap (λ (x : View E). x.spent) q.1 ∙ live_u)))
            (λ there. ⊎_elim
            (λ (q : (i ≡ id) × (both ≡ u)). subst K q.1 (joined o.published (count o.published) o.next v w rests (o.each id v at live) (o.each other w at_w free.live)))
            (λ q. o.each i u q.1 live_u) (at_set s.views id i both u there.1))
            (at_set vs other i spent_view u e);
      }

  opens : (made : ℕ) → (meaning first).seen.notes ≡ [] → made ≡ made_of (meaning first) → made < 2 ^ 32 → 0 < bound
      → Good (opening (0 ∷ made ∷ 1 ∷ bound ∷ 0 ∷ []) (Some first ∷ []) (first_view (meaning first) bound))
  opens made fresh is fits some_one =
      let v : View E = first_view (meaning first) bound in
      let p : log.Seen E = (meaning first).seen in
      let no_notes : (k : ℕ) → own k p.notes ≡ [] = λ k. ap (own k) fresh in
      record {
        taken = 0;
        next = 1;
        published = p;
        waiting = 0;
        words = ap (λ (n : ℕ). 0 ∷ n ∷ 1 ∷ bound ∷ 0 ∷ []) is;
        fits = omega arith;
        one_slot = refl;
        begun = begins_self p;
        home = λ _. record { state = first; at_home = refl; shows = refl; same_base = refl; same_start = refl };
        holders = refl;
        one_holder = omega arith;
        spent_rests = λ i u e spent. at_first v (λ u. u.spent ≡ true → u.holds ≡ false) (λ _. refl) i u e spent;
        once = λ k. omega (arith, drawn_once k 0 0 0 (omega arith) (omega arith));
        drawn = refl;
        started = omega arith;
        within = omega arith;
        owners = λ k _. no_notes k;
        each = λ i u e live. at_first v (Knows p (count p) 1 bound (meaning first))
            record {
              same_base = refl;
              same_start = refl;
              same_bound = refl;
              begins = begins_self p;
              counted = omega arith;
              undrawn = omega arith;
              has_taken = λ f. absurd (true≢false (sym f));
              has_number = λ f. absurd (true≢false (sym f));
              own_seen = λ _ _. refl;
              gathers = λ j t there. absurd (some-ne-none t (sym there));
            } i u e;
      }
    where
      at_first : (v : View E) (P : View E → Type 0) → P v → (i : ℕ) (u : View E) → get_elem? (v ∷ []) i ≡ some u → P u
      at_first v P h zero u e = subst P (some-injective v u e) h
      at_first v P h (suc i) u e = absurd (some-ne-none u (sym e))

  pub opens_with : (made most : ℕ) (slots : List (Option B)) → slots ≡ Some first ∷ [] → most ≡ bound → (meaning first).seen.notes ≡ [] → made ≡ made_of (meaning first) → made < 2 ^ 32 → 0 < bound
      → Good (opening (0 ∷ made ∷ 1 ∷ most ∷ 0 ∷ []) slots (first_view (meaning first) bound))
  opens_with made most slots one same fresh is fits some_one =
      subst (λ (n : ℕ). Good (opening (0 ∷ made ∷ 1 ∷ n ∷ 0 ∷ []) slots (first_view (meaning first) bound))) (sym same)
      (subst (λ (xs : List (Option B)). Good (opening (0 ∷ made ∷ 1 ∷ bound ∷ 0 ∷ []) xs (first_view (meaning first) bound))) (sym one) (opens made fresh is fits some_one))

  -- where one view that holds nothing has all numbers, no other view has one, and the state is at home
  none_holds : (s : St) (o : Good s) (id : ℕ) (v : View E) → get_elem? s.views id ≡ some v → v.holds ≡ false → length v.numbers ≡ bound → (i : ℕ) (u : View E) → get_elem? s.views i ≡ some u → holder u ≡ 0
  none_holds s o id v at rests all i u at_u =
      dite (ℕ_discrete i id)
      (λ e. let same : v ≡ u = some-injective v u (sym at ∙ (ap (get_elem? s.views) (sym e) ∙ at_u)) in ap (λ (x : View E). one_if x.holds) (sym same) ∙ none_of_false v.holds rests)
      (λ ne. let few = terms_le (λ (x : View E). length x.numbers) s.views id i v u ne at at_u in let drawn = o.drawn in let within = o.within in
      idle u.holds (λ h. live_or_spent u.spent (λ live. let some_number = (o.each i u at_u live).has_number h in omega arith) (λ spent. true≢false (sym h ∙ o.spent_rests i u at_u spent))))
    where
      idle : (b : Bool) → (b ≡ true → ⊥) → one_if b ≡ 0
      idle true h = absurd (h refl)
      idle false h = refl

      live_or_spent : (b : Bool) {X : Type 0} → (b ≡ false → X) → (b ≡ true → X) → X
      live_or_spent true f t = t refl
      live_or_spent false f t = f refl

  -- The last state: the guarded state is at home, with the base and the start of the first one, and keeps all that was gathered.
  -- The owners of its notes are participants.
  pub record Ends (gathered : List (Token E)) (state : B) : Type 0 where
    pub same_base : (meaning state).base ≡ (meaning first).base
    pub same_start : (meaning state).start ≡ (meaning first).start
    pub owners : AllOwnedBelow bound (meaning state).seen.notes
    pub kept : (i : ℕ) (t : Token E) → get_elem? gathered i ≡ some t → IsKeptIn meaning state t

  pub closes : (id : ℕ) (v : View E) (ws : List ℕ) (xs : List (Option B)) → v.spent ≡ false → v.holds ≡ false → length v.numbers ≡ bound → Final (Seen Good id v) ws xs
      → (state : B) × (get_elem? xs 0 ≡ some (Some state)) × Ends v.gathered state
  closes id v ws xs live rests all f =
      let s : St = f.0 in
      let o : Good s = f.1.0 in
      let at = f.1.1 in
      let nobody = total_none holder s.views (none_holds s o id v at rests all) in
      let h = o.home (sym o.holders ∙ nobody) in
      let kn = o.each id v at live in (
        h.state,
        f.4 0 (Some h.state) h.at_home,
        record {
          same_base = h.same_base;
          same_start = h.same_start;
          owners = λ k above. ap (λ (x : log.Seen E). own k x.notes) h.shows ∙ o.owners k (let within = o.within in omega arith);
          kept = λ i t e. let g = (kn.gathers i t e).0 in record {
            begins = subst (Begins t.seen) (sym h.shows) g.begins;
            own_seen = g.own_seen ∙ sym (ap (λ (x : log.Seen E). own t.number x.notes) h.shows);
            counted = (let c = g.counted in let b = h.same_base in let e = ap (λ (x : log.Seen E). entries x.notes) h.shows in omega arith);
          };
        },
      )
