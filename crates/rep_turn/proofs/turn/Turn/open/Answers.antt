use Rattle.std.proofs.Common.{rules, ◌≡◌, [], ◌∷◌, ◌++◌, Some, sym, ap, ◌∙◌}
use Rattle.rep_turn.specs.Log.{made_of}
use Rattle.rep_turn.proofs.Comings.{opens_with}
use Rattle.rep_turn.proofs.turn.Turn.open.Goals as goal

pub new-requires : goal.new-requires
new-requires g c =
    let meaning = g.B.Held.meaning in
    let same : c.args.book ≡ c.of.result.value = sym c.of.ensures in
    opens_with meaning c.of.result.value c.args.n c.from.result c.from-2.result c.push_reserved.new.self.items
    (c.push_reserved.ensures.items ∙ (ap (λ l. l ++ Some c.args.book ∷ []) c.in-Ok.ensures.items ∙ ap (λ b. Some b ∷ []) same)) c.from-2.ensures
    (ap (λ b. (meaning b).seen.notes) c.of.ensures ∙ c.requires.fresh)
    (c.from.ensures ∙ (c.made.ensures.counted ∙ ap (λ b. made_of (meaning b)) same)) (search rules) c.requires.some
