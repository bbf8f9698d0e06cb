use Rattle.std.proofs.Common.{refl}
use Rattle.rep_store.proofs.laws.image_after_a_crash.Goals as goal

pub returns-clause-all_keep : goal.returns-clause-all_keep
returns-clause-all_keep c = λ rested kept whole receipts safe below m bytes from within leaves.
    (safe refl below).images m bytes from within leaves
