-- What a history says of a worker, one entry on.
use Rattle.std.proofs.Common.{◌≡◌, ℕ, List, [], ◌∷◌, ◌++◌, Option, Some, None, refl, ap, ◌∙◌}
use Rattle.rep_wire.specs.declared.request.Entry.{Entry}
use Rattle.rep_core.specs.History.{later, worker_in, last_worker}

later-later : {A : Type 0} (x y z : Option A) → later x (later y z) ≡ later (later x y) z
later-later x None None = refl
later-later x (Some y) None = refl
later-later x None (Some z) = refl
later-later x (Some y) (Some z) = refl

later-None : {A : Type 0} (x : Option A) → later x None ≡ later None x
later-None None = refl
later-None (Some x) = refl

pub last_worker-push : (cpf : ℕ) (h : List Entry) (e : Entry) → last_worker cpf (h ++ e ∷ []) ≡ later (last_worker cpf h) (worker_in cpf e.body)
last_worker-push cpf [] e = later-None (worker_in cpf e.body)
last_worker-push cpf (d ∷ h) e =
    ap (λ state. later (worker_in cpf d.body) state) (last_worker-push cpf h e)
    ∙ later-later (worker_in cpf d.body) (last_worker cpf h) (worker_in cpf e.body)
