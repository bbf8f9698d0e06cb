-- Each step of one view keeps the rule.
use Rattle.std.proofs.Common.{◌≡◌, ◌≢◌, ◌⊎◌, ℕ, ◌+◌, ◌^◌, ◌<◌, ◌≤◌, Bool, true, false, eqb, ltb, List, [], ◌∷◌, length, set, get_or, Option, Some, None, subst, sym, refl, ap, ◌∙◌, inl, inr, ⊎_elim, arith, true≢false, length-set}
use Rattle.std.specs.Option.{unwrap_or}
use mathlib.Core.Option.{some, none, some-injective, some-ne-none}
use mathlib.Core.Option as maybe
use lib.ListN.{get_elem?}
use lib.Seq.{set-get_or}
use prog.Atomic.{either}
use Rattle.atomic_table.specs.Table.{State, Me, Step, step, Act, keeps, takes, gives, Valid, carried_after, stepped, rest, Allows}
use Rattle.atomic_table.proofs.Lists.{at_set, set_here, set_again, exchanged}
use Rattle.rep_turn.specs.declared.note.Seen.{Seen}
use Rattle.rep_turn.specs.declared.view.View.{View}
use Rattle.rep_turn.specs.Log.{Meaning, Begins, Adds, AllOwnedBelow, entries, own, made_of}
use Rattle.rep_turn.specs.Views.{times, one_if, holder, IsFree, IsHolder, holding, taken_meaning, publishing, giving, looking}
use Rattle.rep_turn.specs.Rule.{Knows, IsHome, IsOrderly}
use Rattle.rep_turn.specs.Plays.{Finds, Takes, took, published, gave, passed, looked}
use Rattle.rep_turn.proofs.Lists.{total-set, term_le, terms_le, at_most_one, below_of_one, times_self}
use Rattle.rep_turn.proofs.Beginnings.{begins_self, begins_trans, entries_rise, own_foreign}

-- what is known of a list with no place
pub nowhere : {A : Type 0} (l : List A) (i : ℕ) (a : A) → l ≡ [] → get_elem? l i ≡ some a → ⊥
nowhere {A} l i a empty at = some-ne-none a (sym (ap (λ (k : List A). get_elem? k i) (sym empty) ∙ at))

one_of_true : (b : Bool) → b ≡ true → one_if b ≡ 1
one_of_true b e = ap one_if e

pub none_of_false : (b : Bool) → b ≡ false → one_if b ≡ 0
none_of_false b e = ap one_if e

-- a seat's one slot has one value
pub one_value : {S : Type 0} (l m : List (ℕ × S)) (x y : S) → l ≡ (0, x) ∷ m → l ≡ (0, y) ∷ rest l → x ≡ y
one_value {S} l m x y a b = ap (λ (k : List (ℕ × S)). (get_or k 0 (0, x)).1) (sym a ∙ b)

pub one_state : {B : Type 0} (l : List (ℕ × Option B)) (x y : B) → l ≡ (0, Some x) ∷ [] → l ≡ (0, Some y) ∷ [] → x ≡ y
one_state {B} l x y a b = ap (λ (k : List (ℕ × Option B)). unwrap_or (get_or k 0 (0, Some x)).1 x) (sym a ∙ b)

module _ {E : Type 0} where
  -- a view stays in order where what is published grows by notes that are not its own
  pub knows_more : (p p' : Seen E) (count count' next next' bound : ℕ) (first : Meaning E) (u : View E) → Begins p p' → count ≤ count' → next ≤ next'
      → ((k : ℕ) → 0 < times k u.numbers → own k p'.notes ≡ own k p.notes) → (u.holds ≡ true → p' ≡ p)
      → Knows p count next bound first u → Knows p' count' next' bound first u
  knows_more p p' count count' next next' bound first u more up on own_same held_same kn = record {
    same_base = kn.same_base;
    same_start = kn.same_start;
    same_bound = kn.same_bound;
    begins = begins_trans u.seen p p' kn.begins more;
    counted = (let c = kn.counted in omega arith);
    undrawn = (let c = kn.undrawn in omega arith);
    has_taken = λ h. kn.has_taken h ∙ sym (held_same h);
    has_number = kn.has_number;
    own_seen = λ k h. kn.own_seen k h ∙ sym (own_same k h);
    gathers = λ i t e. let g = kn.gathers i t e in let c = g.0.counted in (
      record {
        begins = begins_trans t.seen p p' g.0.begins more;
        counted = omega arith;
        own_seen = g.0.own_seen ∙ sym (own_same t.number g.1);
      },
      g.1,
    );
  }

module _ {B E : Type 0} (meaning : B → Meaning E) (first : B) (bound : ℕ) where
  abbrev St : Type 0
  St = State (Option B) (View E)

  abbrev Sat : Type 0
  Sat = Me (Option B) (View E)

  abbrev Good : St → Type 0
  Good = IsOrderly meaning first bound

  abbrev board : List ℕ → List (maybe.Option (Option B)) → List (View E) → St
  board ws hs vs = record { words = ws; homes = hs; views = vs }

  abbrev pub count : Seen E → ℕ
  count p = (meaning first).base + entries p.notes

  abbrev words_of : ℕ → ℕ → ℕ → ℕ → List ℕ
  words_of taken counted next waiting = taken ∷ counted ∷ next ∷ bound ∷ waiting ∷ []

  -- who has a number of one view has none of another's
  pub apart : (s : St) (o : Good s) (i j : ℕ) (u v : View E) → i ≢ j → get_elem? s.views i ≡ some u → get_elem? s.views j ≡ some v
      → (k : ℕ) → 0 < times k u.numbers → times k v.numbers ≡ 0
  apart s o i j u v ne at_u at_v k some_u =
      omega (arith, terms_le (λ (w : View E). times k w.numbers) s.views j i v u ne at_v at_u, o.once k, at_most_one (ltb k o.next))

  -- only one view holds the state
  pub alone : (s : St) (o : Good s) (i j : ℕ) (u v : View E) → i ≢ j → get_elem? s.views i ≡ some u → get_elem? s.views j ≡ some v → u.holds ≡ true → v.holds ≡ true → ⊥
  alone s o i j u v ne at_u at_v hu hv =
      omega (arith, terms_le holder s.views j i v u ne at_v at_u, o.holders, o.one_holder, one_of_true u.holds hu, one_of_true v.holds hv)

  pub taken_by : (s : St) (o : Good s) (j : ℕ) (v : View E) → get_elem? s.views j ≡ some v → v.holds ≡ true → o.taken ≡ 1
  taken_by s o j v at h = omega (arith, term_le holder s.views j v at, o.holders, o.one_holder, one_of_true v.holds h)

  -- a step in which the view j, with its numbers as before, becomes w, and p is published
  pub moves : (s : St) (o : Good s) (j : ℕ) (v w : View E) (taken waiting : ℕ) (p : Seen E) (ws : List ℕ) (hs : List (maybe.Option (Option B)))
      → get_elem? s.views j ≡ some v → v.spent ≡ false → w.spent ≡ false → w.numbers ≡ v.numbers
      → ws ≡ words_of taken (count p) o.next waiting → taken + holder v ≡ o.taken + holder w → taken ≤ 1
      → Begins o.published p → count p < 2 ^ 32
      → ((k : ℕ) → times k v.numbers ≡ 0 → own k p.notes ≡ own k o.published.notes)
      → ((p ≡ o.published) ⊎ (v.holds ≡ true)) → AllOwnedBelow o.next p.notes
      → length hs ≡ 1 → (taken ≡ 0 → IsHome meaning p (meaning first) hs)
      → Knows p (count p) o.next bound (meaning first) w
      → Good (board ws hs (set s.views j w))
  moves s o j v w taken waiting p ws hs at live_v live_w numbers words held one more fits foreign same owners slot home kw =
      let vs : List (View E) = set s.views j w in
      record {
        taken = taken;
        next = o.next;
        published = p;
        waiting = waiting;
        words = words;
        fits = fits;
        one_slot = slot;
        begun = begins_trans (meaning first).seen o.published p o.begun more;
        home = home;
        holders = (let t = total-set holder s.views j v w at in let h = o.holders in omega arith);
        one_holder = one;
        spent_rests = λ i u e spent. ⊎_elim (λ (q : (i ≡ j) × (w ≡ u)). absurd (true≢false (sym spent ∙ (ap (λ (x : View E). x.spent) (sym q.1) ∙ live_w)))) (λ q. o.spent_rests i u q.1 spent) (at_set s.views j i w u e);
        once = λ k. omega (arith, total-set (λ (x : View E). times k x.numbers) s.views j v w at, ap (times k) numbers, o.once k);
        drawn = omega (arith, total-set (λ (x : View E). length x.numbers) s.views j v w at, ap length numbers, o.drawn);
        started = o.started;
        within = o.within;
        owners = owners;
        each = λ i u e live. ⊎_elim
            (λ (q : (i ≡ j) × (w ≡ u)). subst (Knows p (count p) o.next bound (meaning first)) q.1 kw)
            (λ (q : (i ≢ j) × (get_elem? s.views i ≡ some u)).
            knows_more o.published p (count o.published) (count p) o.next o.next bound (meaning first) u more
            (let r = entries_rise o.published.notes p.notes more.notes in omega arith) (omega arith)
            (λ k some_u. foreign k (apart s o i j u v q.0 q.1 at k some_u))
            (λ h. ⊎_elim (λ z. z) (λ hv. absurd (alone s o i j u v q.0 q.1 at h hv)) same)
            (o.each i u q.1 live))
            (at_set s.views j i w u e);
      }

  -- a step that changes nothing but the view, and what it knows
  pub stays : (s : St) (o : Good s) (j : ℕ) (v w : View E) (taken waiting : ℕ) (ws : List ℕ) (hs : List (maybe.Option (Option B)))
      → get_elem? s.views j ≡ some v → v.spent ≡ false → w.spent ≡ false → w.numbers ≡ v.numbers
      → ws ≡ words_of taken (count o.published) o.next waiting → taken + holder v ≡ o.taken + holder w → taken ≤ 1
      → length hs ≡ 1 → (taken ≡ 0 → IsHome meaning o.published (meaning first) hs)
      → Knows o.published (count o.published) o.next bound (meaning first) w
      → Good (board ws hs (set s.views j w))
  stays s o j v w taken waiting ws hs at live_v live_w numbers words held one slot home kw =
      moves s o j v w taken waiting o.published ws hs at live_v live_w numbers words held one (begins_self o.published) o.fits (λ k absent. refl) (inl refl) o.owners slot home kw

  -- a miss
  pub unmoved : (s : St) (o : Good s) (i j : ℕ) (v : View E) → get_elem? s.views j ≡ some v
      → Good (board (set s.words i (get_or s.words i 0)) s.homes (set s.views j v))
  unmoved s o i j v at =
      subst (λ (ws : List ℕ). Good (board ws s.homes (set s.views j v))) (sym (set-get_or s.words i 0))
      (subst (λ (vs : List (View E)). Good (board s.words s.homes vs)) (sym (set_again s.views j v at)) o)

  word : (s : St) (o : Good s) (i : ℕ) → get_or s.words i 0 ≡ get_or (words_of o.taken (count o.published) o.next o.waiting) i 0
  word s o i = ap (λ (l : List ℕ). get_or l i 0) o.words

  reworded : (s : St) (o : Good s) (i n : ℕ) → set s.words i n ≡ set (words_of o.taken (count o.published) o.next o.waiting) i n
  reworded s o i n = ap (λ (l : List ℕ). set l i n) o.words

  finds : (s : St) (o : Good s) (j : ℕ) (v : View E) → get_elem? s.views j ≡ some v → v.spent ≡ false
      → (h : IsHome meaning o.published (meaning first) s.homes) → Finds meaning v h.state
  finds s o j v at live h =
      let kn = o.each j v at live in
      let shown : Seen E = (meaning h.state).seen in
      record {
        same_base = h.same_base ∙ sym kn.same_base;
        same_start = h.same_start ∙ sym kn.same_start;
        begins = subst (Begins v.seen) (sym h.shows) kn.begins;
        counted = (let c = kn.counted in let b = h.same_base in let e = ap (λ (x : Seen E). entries x.notes) h.shows in omega arith);
        own_seen = λ k some_k. kn.own_seen k some_k ∙ sym (ap (λ (x : Seen E). own k x.notes) h.shows);
      }

  abbrev TakeGoes : St → ℕ → ℕ → Sat → ℕ → Type 0
  TakeGoes s n id m x = (w : View E) × (a : Act (Option B)) × Valid s.homes m.1 a × Good (stepped s 0 x id m.1 w a) × took meaning (step n 0 0 1 none) m (get_or s.words 0 0) (w, carried_after m.1 a)

  pub takes_it : (n id : ℕ) (m : Sat) → IsFree m.0 → 0 < length m.0.numbers
      → Allows Good n id m 0 (λ y. either (eqb y 0) 1 y) (took meaning (step n 0 0 1 none) m)
  takes_it n id m free has s o one at small =
      exchanged (get_or s.words 0 0) 0 1 (TakeGoes s n id m)
      (λ hit.
      let idle : o.taken ≡ 0 = sym (word s o 0) ∙ hit in
      let h = o.home idle in
      let kn = o.each id m.0 at free.live in
      let w : View E = holding m.0 (meaning h.state).seen in
      let rests = none_of_false m.0.holds free.holds_nothing in (
        w,
        takes 0 (Some h.state),
        h.at_home,
        stays s o id m.0 w 1 o.waiting (set s.words 0 1) (set s.homes 0 none) at free.live free.live refl (reworded s o 0 1) (omega arith) (omega arith)
            (length-set s.homes 0 none ∙ o.one_slot) (λ z. absurd (omega arith))
            record {
              same_base = kn.same_base;
              same_start = kn.same_start;
              same_bound = kn.same_bound;
              begins = kn.begins;
              counted = kn.counted;
              undrawn = kn.undrawn;
              has_taken = λ _. h.shows;
              has_number = λ _. has;
              own_seen = kn.own_seen;
              gathers = kn.gathers;
            },
        ((λ _. record { state = h.state; finds = finds s o id m.0 at free.live h; now_held = refl }), λ miss. absurd (miss hit)),
      ))
      (λ miss. (m.0, keeps, tt, unmoved s o 0 id m.0 at, ((λ hit. absurd (miss hit)), λ _. refl)))

  pub publishes : (n id : ℕ) (m : Sat) (state : B) (k new : ℕ) → IsHolder m.0 → m.0.numbers ≡ k ∷ [] → Adds k (taken_meaning m.0) (meaning state)
      → m.1 ≡ (0, Some state) ∷ [] → new ≡ made_of (meaning state) → new < 2 ^ 32
      → (then_is : (t : B) → m.1 ≡ (0, Some t) ∷ [] → t ≡ state)
      → Allows Good n id m 1 (λ _. new) (λ _. published meaning (step n 1 new 0 none) m new)
  publishes n id m state k new h mine adds at_slot made fits same_state s o one at small =
      let v : View E = m.0 in
      let kn = o.each id v at h.live in
      let p : Seen E = o.published in
      let p' : Seen E = (meaning state).seen in
      let was : v.taken ≡ p = kn.has_taken h.holds_it in
      let notes_was : v.taken.notes ≡ p.notes = ap (λ (x : Seen E). x.notes) was in
      let more : Begins p p' = subst (λ (x : Seen E). Begins x p') was (record { notes = (adds.added, sym adds.notes); past = adds.past }) in
      let here : 0 < times k v.numbers = (let e = ap (times k) mine ∙ times_self k in omega arith) in
      let below : k < o.next = below_of_one k o.next (omega (arith, term_le (λ (x : View E). times k x.numbers) s.views id v at, o.once k)) in
      let foreign : (j : ℕ) → j ≢ k → own j p'.notes ≡ own j p.notes = λ j ne. own_foreign j k ne v.taken.notes adds.added p'.notes adds.notes adds.owned ∙ ap (own j) notes_was in
      let not_mine : (j : ℕ) → times j v.numbers ≡ 0 → j ≢ k = λ j absent e. omega (arith, ap (λ (x : ℕ). times x v.numbers) e) in
      let counts : new ≡ count p' = made ∙ ap (λ (x : ℕ). x + entries p'.notes) (adds.base ∙ kn.same_base) in
      let w : View E = publishing v p' in
      let busy : o.taken ≡ 1 = taken_by s o id v at h.holds_it in (
        w,
        keeps,
        tt,
        moves s o id v w o.taken o.waiting p' (set s.words 1 new) s.homes at h.live h.live refl
            (reworded s o 1 new ∙ ap (λ (x : ℕ). words_of o.taken x o.next o.waiting) counts) (omega arith) o.one_holder more (omega arith)
            (λ j absent. foreign j (not_mine j absent)) (inr h.holds_it)
            (λ j above. foreign j (λ e. omega arith) ∙ o.owners j above)
            o.one_slot (λ z. absurd (omega arith))
            record {
              same_base = kn.same_base;
              same_start = kn.same_start;
              same_bound = kn.same_bound;
              begins = begins_self p';
              counted = (let c = kn.counted in let r = entries_rise p.notes p'.notes more.notes in omega arith);
              undrawn = kn.undrawn;
              has_taken = λ _. refl;
              has_number = kn.has_number;
              own_seen = λ _ _. refl;
              gathers = λ i t e. absurd (nowhere v.gathered i t h.gathers_nothing e);
            },
        λ t there. ap (λ (x : B). (publishing v (meaning x).seen, m.1)) (sym (same_state t there)),
      )

  pub gives_it : (n id : ℕ) (m : Sat) (state : B) → IsHolder m.0 → m.0.taken ≡ (meaning state).seen → (meaning state).base ≡ m.0.base → (meaning state).start ≡ m.0.start
      → m.1 ≡ (0, Some state) ∷ []
      → Allows Good n id m 0 (λ _. 0) (λ _. gave (step n 0 0 0 none) m 0)
  gives_it n id m state h shows base start at_slot s o one at small =
      let v : View E = m.0 in
      let kn = o.each id v at h.live in
      let w : View E = giving v in
      let hs : List (maybe.Option (Option B)) = set s.homes 0 (some (Some state)) in
      let busy : o.taken ≡ 1 = taken_by s o id v at h.holds_it in
      let held = one_of_true v.holds h.holds_it in
      let room : 0 < length s.homes = (let l = o.one_slot in omega arith) in
      let good : Good (board (set s.words 0 0) hs (set s.views id w)) =
      stays s o id v w 0 o.waiting (set s.words 0 0) hs at h.live h.live refl (reworded s o 0 0) (omega arith) (omega arith)
      (length-set s.homes 0 (some (Some state)) ∙ o.one_slot)
      (λ _. record {
        state = state;
        at_home = set_here s.homes 0 (some (Some state)) room;
        shows = sym shows ∙ kn.has_taken h.holds_it;
        same_base = base ∙ kn.same_base;
        same_start = start ∙ kn.same_start;
      })
      record {
        same_base = kn.same_base;
        same_start = kn.same_start;
        same_bound = kn.same_bound;
        begins = kn.begins;
        counted = kn.counted;
        undrawn = kn.undrawn;
        has_taken = λ f. absurd (true≢false (sym f));
        has_number = λ f. absurd (true≢false (sym f));
        own_seen = kn.own_seen;
        gathers = kn.gathers;
      } in (
        w,
        gives,
        tt,
        subst (λ (c : List (ℕ × Option B)). Good (stepped s 0 0 id c w gives)) (sym at_slot) good,
        refl,
      )

  pub looks_at : (n id : ℕ) (m : Sat) → m.0.spent ≡ false → Allows Good n id m 1 (λ y. y) (looked (step n 1 0 0 none) m)
  looks_at n id m live s o one at small =
      let v : View E = m.0 in
      let kn = o.each id v at live in
      let found : ℕ = get_or s.words 1 0 in
      let is : found ≡ count o.published = word s o 1 in
      let w : View E = looking v found in (
        w,
        keeps,
        tt,
        stays s o id v w o.taken o.waiting (set s.words 1 found) s.homes at live live refl
            (reworded s o 1 found ∙ ap (λ (x : ℕ). words_of o.taken x o.next o.waiting) is) (omega arith) o.one_holder o.one_slot o.home
            record {
              same_base = kn.same_base;
              same_start = kn.same_start;
              same_bound = kn.same_bound;
              begins = kn.begins;
              counted = omega arith;
              undrawn = kn.undrawn;
              has_taken = kn.has_taken;
              has_number = kn.has_number;
              own_seen = kn.own_seen;
              gathers = kn.gathers;
            },
        record {
          fits = (let f = o.fits in omega arith);
          covers = (let r = entries_rise v.seen.notes o.published.notes kn.begins.notes in let b = kn.same_base in omega arith);
          counted = (let c = kn.counted in omega arith);
          now_looked = refl;
        },
      )

  -- a state that was taken and lifted out of its slot
  pub lifted : (m n k : Sat) (held : Option B) (state : B) → m.1 ≡ [] → Takes meaning m n → n.1 ≡ (0, held) ∷ rest n.1 → held ≡ Some state → k ≡ (n.0, (0, None) ∷ rest n.1)
      → (k ≡ (holding m.0 (meaning state).seen, (0, None) ∷ [])) × Finds meaning m.0 state
  lifted m n k held state bare t at is after =
      let slot : n.1 ≡ (0, Some t.state) ∷ m.1 = ap (λ (x : Sat). x.1) t.now_held in
      let same : t.state ≡ state = ap (λ (x : Option B). unwrap_or x t.state) (one_value n.1 m.1 (Some t.state) held slot at ∙ is) in
      let view : n.0 ≡ holding m.0 (meaning state).seen = ap (λ (x : Sat). x.0) t.now_held ∙ ap (λ (x : B). holding m.0 (meaning x).seen) same in
      let none_left : rest n.1 ≡ [] = ap rest slot ∙ bare in
      (after ∙ (ap (λ (v : View E). (v, (0, None) ∷ rest n.1)) view ∙ ap (λ (l : List (ℕ × Option B)). (holding m.0 (meaning state).seen, (0, None) ∷ l)) none_left), subst (Finds meaning m.0) same t.finds)

  -- a step on the count of those who wait
  pub passes : (n id : ℕ) (m : Sat) (f : ℕ → ℕ) (st : Step (Option B)) → m.0.spent ≡ false → Allows Good n id m 4 f (passed st m)
  passes n id m f st live s o one at small = (
    m.0,
    keeps,
    tt,
    stays s o id m.0 m.0 o.taken (f (get_or s.words 4 0)) (set s.words 4 (f (get_or s.words 4 0))) s.homes at live live refl (reworded s o 4 (f (get_or s.words 4 0))) refl o.one_holder o.one_slot o.home (o.each id m.0 at live),
    refl,
  )
