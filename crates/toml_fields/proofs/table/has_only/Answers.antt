use Rattle.std.proofs.Common.{ℕ, List, length, map, string_bytes, Contains, All, refl, sym, ◌∙◌, subst}
use Rattle.std.proofs.lemmas.List.Elements.{All-push, All-map, All-same, All-contains}
use Rattle.std.proofs.lemmas.Map.Iter.{iter_turn, iter_end}
use Rattle.std.specs.Map.Iter.{deref}
use Rattle.std.proofs.lemmas.Option.{get_or_from_slice_get}
use Rattle.std.specs.Map.{keys_of}
use Rattle.toml_fields.proofs.Keys.{something_at_key, entry_at_key}
use Rattle.toml_fields.proofs.table.has_only.Goals as goal

pub returns-then-not-is_among : goal.returns-then-not-is_among
returns-then-not-is_among c = (
  λ never. absurd (cc),
  λ only.
      let es = c.args.table.now.entries in
      let key = c.in-Some.key.now in
      let turn = iter_turn deref (keys_of es) c.loop-key.yielded _ _ _ _ (c.into_iter-key-iterator.ensures.into_iter_gives ∙ c.keys-key-items.ensures.rest) c.loop-key.yielded_by c.in-Some.key c.in-Some.is c.next.ensures.steps in
      let something = something_at_key es key (length c.loop-key.yielded, turn.0, get_or_from_slice_get (keys_of es) (length c.loop-key.yielded) key key turn.1) in
      let known = only (string_bytes key) something.0 something.1 in
      let yes = c.is_among.ensures.1 (subst (λ (k : List ℕ). Contains (map (λ known. known.now) c.args.keys.now) k) (rw c.as_str.ensures.value refl) known) in
      absurd (cc),
)

pub loop-key-preserved : goal.loop-key-preserved
loop-key-preserved c =
    All-push (λ key. Contains (map (λ known. known.now) c.args.keys.now) (string_bytes key.now)) c.loop-key.yielded c.in-Some.key c.loop-key.invariant
    (subst (λ (k : List ℕ). Contains (map (λ known. known.now) c.args.keys.now) k) c.as_str.ensures.value (c.is_among.ensures.0 c.if-not-is_among.false))

pub returns : goal.returns
returns c = (
  λ yes key found there.
      let es = c.args.table.now.entries in
      let whole = iter_end deref (keys_of es) c.loop-key.yielded _ _ _ _ (c.into_iter-key-iterator.ensures.into_iter_gives ∙ c.keys-key-items.ensures.rest) c.loop-key.yielded_by c.in-None.is c.next.ensures.steps in
      let each : All (λ k. Contains (map (λ known. known.now) c.args.keys.now) (string_bytes k)) (keys_of es) =
      All-same (λ k. Contains (map (λ known. known.now) c.args.keys.now) (string_bytes k)) (keys_of es) (map deref c.loop-key.yielded) (sym whole.0)
      (All-map (λ k. Contains (map (λ known. known.now) c.args.keys.now) (string_bytes k)) deref c.loop-key.yielded c.loop-key.invariant) in
      All-contains (Contains (map (λ known. known.now) c.args.keys.now)) (map string_bytes (keys_of es)) key
      (All-map (Contains (map (λ known. known.now) c.args.keys.now)) string_bytes (keys_of es) each) (entry_at_key es key found there),
  λ _. refl,
)
