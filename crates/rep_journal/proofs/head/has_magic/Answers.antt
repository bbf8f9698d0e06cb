use Rattle.std.proofs.Common.{◌∙◌, take, sym}
use Rattle.std.proofs.lemmas.Bool.Decides.{Decides-eqb}
use Rattle.std.proofs.lemmas.Slice.Eq.{slice_eq-Decides}
use Rattle.rep_journal.proofs.HeadLemmas.{magic_is}
use Rattle.rep_journal.proofs.head.has_magic.Goals as goal

pub returns : goal.returns
returns c =
    let same = slice_eq-Decides Decides-eqb (take 16 c.args.front.now) _ c.eq.result c.eq.ensures in
    ((λ is. same.0 is ∙ sym magic_is), (λ is. same.1 (is ∙ magic_is)))
