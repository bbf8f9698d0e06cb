use Rattle.std.proofs.Common.{◌≡◌, ◌+◌, ◌++◌, [], ◌∷◌, ℕ, length, ap, subst, sym, arith}
use Rattle.rep_journal.specs.Listed.{Listed, IsListed}
use Rattle.rep_journal.proofs.ListLemmas.{within_end, listed_push}
use Rattle.rep_journal.proofs.FormatLemmas.{longest_frame, length-frame_text}
use Rattle.rep_journal.proofs.frame_list.FrameList.push.Goals as goal

pub push_reserved-requires-2 : goal.push_reserved-requires-2
push_reserved-requires-2 c = let room = ap (λ (l : Listed). l.room) c.self.view_is in omega arith

pub overflow_add-self-2 : goal.overflow_add-self-2
overflow_add-self-2 c =
    let within = within_end c.self.inside.frames.items c.self.invariant.well_formed c.self.invariant.limit in
    let ends = c.self.invariant.ends in
    let longest = longest_frame c.args.frame c.line.ensures.well_formed in
    let size = length-frame_text c.args.frame in
    let line : length c.line.result.now ≡ length c.args.frame.line = ap length c.line.ensures.line in
    omega arith

pub invariant_of-self : goal.invariant_of-self
invariant_of-self c =
    let room = ap (λ (l : Listed). l.room) c.self.view_is in
    let line : length c.args.frame.line ≡ length c.line.result.now = sym (ap length c.line.ensures.line) in
    let more = listed_push c.self.inside.frames.items c.self.inside.gates.items c.self.inside.end c.args.frame c.self.invariant c.line.ensures.well_formed (omega arith) in
    rw (c.push_reserved.ensures.items, c.push_reserved-2.ensures.items) (subst (λ (n : ℕ). IsListed (c.self.inside.frames.items ++ c.args.frame ∷ []) (c.self.inside.gates.items ++ c.self.inside.end ∷ []) (c.self.inside.end + (1 + (12 + n)))) line more)
