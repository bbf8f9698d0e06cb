use Rattle.std.proofs.Common.{◌≡◌, ◌<◌, List, ℕ, length, take, get_or, ap, ◌∙◌, arith}
use Rattle.rep_journal.specs.Format.{end_of}
use Rattle.rep_journal.specs.Listed.{Listed}
use Rattle.rep_journal.proofs.ListLemmas.{length-gates_from, get_or-gates_from}
use Rattle.rep_journal.proofs.frame_list.FrameList.gate_of.Goals as goal

pub index-requires : goal.index-requires
index-requires c =
    let few : length c.self.inside.frames.items ≡ length c.args.self.now.frames = ap (λ (l : Listed). length l.frames) c.self.view_is in
    let gates = ap length c.self.invariant.places in
    let all = length-gates_from 16 c.self.inside.frames.items in
    omega arith

pub returns : goal.returns
returns c =
    let few : length c.self.inside.frames.items ≡ length c.args.self.now.frames = ap (λ (l : Listed). length l.frames) c.self.view_is in
    let here : c.args.i < length c.self.inside.frames.items = omega arith in
    c.index.ensures
    ∙ ap (λ (gates : List ℕ). get_or gates c.args.i c.index.result.now) c.self.invariant.places
    ∙ get_or-gates_from 16 c.self.inside.frames.items c.args.i c.index.result.now here
    ∙ ap (λ (l : Listed). end_of (take c.args.i l.frames)) c.self.view_is
