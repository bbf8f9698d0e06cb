-- The index of a history, one entry on.
use Rattle.std.proofs.Common.{◌≡◌, ◌≢◌, ℕ, suc, ◌==◌, ◌⊎◌, inl, inr, cond, Bool, true, false, List, [], ◌∷◌, ◌++◌, length, Option, Some, None, refl, sym, ap, ◌∙◌, subst, arith, append_assoc}
use Rattle.std.proofs.lemmas.Bool.{false≢true, eqb-true, eq-eqb}
use Rattle.std.proofs.lemmas.List.Elements.{All-push}
use Rattle.afd_records.specs.declared.record.Body.{Body}
use Rattle.afd_records.specs.declared.record.Body.TheVariants.{Employer, Adjust, Worker, Event, Clocking}
use Rattle.rep_wire.specs.declared.request.Entry.{Entry}
use Rattle.rep_core.specs.History.{later, worker_in, last_worker, IsNumbered, CameBy, IsNew, IsEmployer}
use Rattle.rep_core.specs.Lookup.{is_employer, FindsPair, FindsEmployer}
use Rattle.rep_core.specs.Numbers.{Pairs, number_of, SetsOnly}
use Rattle.rep_core.specs.Index.{number_in, SetsPair, worker_of, FindsWorker, IsIndexOf}
use Rattle.rep_core.specs.declared.row.Row.{Row}
use Rattle.rep_core.specs.declared.index.Index.{Index}
use Rattle.rep_core.proofs.Lookups.{is_employer-true, is_employer-false}
use Rattle.rep_core.proofs.Workers.{last_worker-push}
use Rattle.rep_core.proofs.Numbered.{number_of_last}

-- an entry keeps its number
abbrev IsNumbered-push : (h : List Entry) (last : Entry) (nsr : ℕ) (e : Entry) → IsNumbered h nsr e → IsNumbered (h ++ last ∷ []) nsr e
IsNumbered-push h last nsr e numbered = record {
  before = numbered.before;
  behind = numbered.behind ++ last ∷ [];
  split = ap (λ (xs : List Entry). xs ++ last ∷ []) numbered.split ∙ append_assoc numbered.before (e ∷ numbered.behind) (last ∷ []);
  number = numbered.number;
}

-- the look-up of a pair that the new entry didn't come by
FindsPair-push : (origin seq : ℕ) (h : List Entry) (last : Entry) (found : Option ℕ) → (CameBy origin seq last → ⊥) → FindsPair origin seq h found → FindsPair origin seq (h ++ last ∷ []) found
FindsPair-push origin seq h last None other new = All-push (λ x. CameBy origin seq x → ⊥) h last new other
FindsPair-push origin seq h last (Some nsr) other found = (
  found.0,
  record { numbered = IsNumbered-push h last nsr found.0 found.1.numbered; came = found.1.came; first = found.1.first },
)

-- and of the pair that it came by
FindsPair-last : (h : List Entry) (last : Entry) → IsNew last.origin last.seq h → FindsPair last.origin last.seq (h ++ last ∷ []) (Some (suc (length h)))
FindsPair-last h last new = (last, record { numbered = record { before = h; behind = []; split = refl; number = refl }; came = (refl, refl); first = new })

pub pairs_push : (old new : List Row) (h : List Entry) (last : Entry) (nsr : ℕ) → ((origin seq : ℕ) → FindsPair origin seq h (number_in old origin seq)) → IsNew last.origin last.seq h → nsr ≡ suc (length h) → SetsPair old new last.origin last.seq nsr → (origin seq : ℕ) → FindsPair origin seq (h ++ last ∷ []) (number_in new origin seq)
pairs_push old new h last nsr finds fresh number sets origin seq = by (last.origin == origin) (last.seq == seq) refl refl
  where
    apart : (CameBy origin seq last → ⊥) → (origin ≢ last.origin) ⊎ (seq ≢ last.seq) → FindsPair origin seq (h ++ last ∷ []) (number_in new origin seq)
    apart other differs =
        subst (FindsPair origin seq (h ++ last ∷ [])) (sym (sets.other_pairs origin seq differs))
        (FindsPair-push origin seq h last (number_in old origin seq) other (finds origin seq))

    by : (one two : Bool) → (last.origin == origin) ≡ one → (last.seq == seq) ≡ two → FindsPair origin seq (h ++ last ∷ []) (number_in new origin seq)
    by true true same same' =
        let o : last.origin ≡ origin = eqb-true last.origin origin same in
        let s : last.seq ≡ seq = eqb-true last.seq seq same' in
        let found : FindsPair last.origin last.seq (h ++ last ∷ []) (number_in new last.origin last.seq) =
        subst (FindsPair last.origin last.seq (h ++ last ∷ [])) (ap Some (sym number) ∙ sym sets.this_pair) (FindsPair-last h last fresh) in
        subst (λ n. FindsPair n seq (h ++ last ∷ []) (number_in new n seq)) o
        (subst (λ n. FindsPair last.origin n (h ++ last ∷ []) (number_in new last.origin n)) s found)
    by false two same same' =
        let differs : last.origin ≢ origin = λ is. false≢true (sym same ∙ eq-eqb last.origin origin is) in
        apart (λ came. differs came.0) (inl (λ is. differs (sym is)))
    by true false same same' =
        let differs : last.seq ≢ seq = λ is. false≢true (sym same' ∙ eq-eqb last.seq seq is) in
        apart (λ came. differs came.1) (inr (λ is. differs (sym is)))

-- what a record says of another worker
worker_in-other : (cpf : ℕ) (body : Body) → ((worker : ℕ) → worker_of body ≡ Some worker → worker ≢ cpf) → worker_in cpf body ≡ None
worker_in-other cpf (Employer at resp id cno name place) other = refl
worker_in-other cpf (Adjust before after resp) other = refl
worker_in-other cpf (Worker at op worker name extra resp) other = by (worker == cpf) refl
  where
    by : (b : Bool) → (worker == cpf) ≡ b → worker_in cpf (Worker at op worker name extra resp) ≡ None
    by true same = absurd (other worker refl (eqb-true worker cpf same))
    by false same = rw same refl
worker_in-other cpf (Event at code) other = refl
worker_in-other cpf (Clocking marked worker recorded collector offline) other = refl

-- the look-up of a worker whom the new record doesn't name
FindsWorker-push : (cpf : ℕ) (h : List Entry) (last : Entry) (found : Option ℕ) → worker_in cpf last.body ≡ None → FindsWorker cpf h found → FindsWorker cpf (h ++ last ∷ []) found
FindsWorker-push cpf h last None nothing none =
    last_worker-push cpf h last ∙ ap (later (last_worker cpf h)) nothing ∙ none
FindsWorker-push cpf h last (Some nsr) nothing found = (
  found.0,
  IsNumbered-push h last nsr found.0 found.1,
  last_worker-push cpf h last ∙ ap (later (last_worker cpf h)) nothing ∙ found.2,
)

-- the state that a worker's own record gives
worker_in-own : (cpf : ℕ) (body : Body) (before : Option _) → worker_of body ≡ Some cpf → later before (worker_in cpf body) ≡ worker_in cpf body
worker_in-own cpf (Employer at resp id cno name place) before own = absurd cc
worker_in-own cpf (Adjust before' after resp) before own = absurd cc
worker_in-own cpf (Worker at op worker name extra resp) before own =
    let same : worker ≡ cpf = cc in
    rw (eq-eqb worker cpf same) refl
worker_in-own cpf (Event at code) before own = absurd cc
worker_in-own cpf (Clocking marked worker recorded collector offline) before own = absurd cc

FindsWorker-last : (cpf : ℕ) (h : List Entry) (last : Entry) → worker_of last.body ≡ Some cpf → FindsWorker cpf (h ++ last ∷ []) (Some (suc (length h)))
FindsWorker-last cpf h last own = (
  last,
  number_of_last h last,
  last_worker-push cpf h last ∙ worker_in-own cpf last.body (last_worker cpf h) own,
)

-- the new record names a worker
pub workers_push : (old new : Pairs) (h : List Entry) (last : Entry) (nsr worker : ℕ) → ((cpf : ℕ) → FindsWorker cpf h (number_of old cpf)) → worker_of last.body ≡ Some worker → nsr ≡ suc (length h) → SetsOnly old new worker nsr → (cpf : ℕ) → FindsWorker cpf (h ++ last ∷ []) (number_of new cpf)
workers_push old new h last nsr worker finds own number sets cpf = by (cpf == worker) refl
  where
    by : (b : Bool) → (cpf == worker) ≡ b → FindsWorker cpf (h ++ last ∷ []) (number_of new cpf)
    by true same =
        subst (λ c. FindsWorker c (h ++ last ∷ []) (number_of new c)) (sym (eqb-true cpf worker same))
        (subst (FindsWorker worker (h ++ last ∷ [])) (ap Some (sym number) ∙ sym sets.this_key) (FindsWorker-last worker h last own))
    by false same =
        let differs : cpf ≢ worker = λ is. false≢true (sym same ∙ eq-eqb cpf worker is) in
        let nothing : worker_in cpf last.body ≡ None =
        worker_in-other cpf last.body (λ w is other. let named : w ≡ worker = cc in differs (sym other ∙ named)) in
        subst (FindsWorker cpf (h ++ last ∷ [])) (sym (sets.other_keys cpf differs))
        (FindsWorker-push cpf h last (number_of old cpf) nothing (finds cpf))

-- it names none
pub workers_kept : (l : Pairs) (h : List Entry) (last : Entry) → ((cpf : ℕ) → FindsWorker cpf h (number_of l cpf)) → worker_of last.body ≡ None → (cpf : ℕ) → FindsWorker cpf (h ++ last ∷ []) (number_of l cpf)
workers_kept l h last finds none cpf =
    FindsWorker-push cpf h last (number_of l cpf) (worker_in-other cpf last.body (λ w is other. absurd cc)) (finds cpf)

-- the new record is an employer's
pub employer_push : (h : List Entry) (last : Entry) (nsr : ℕ) → is_employer last.body ≡ true → nsr ≡ suc (length h) → FindsEmployer (h ++ last ∷ []) (Some nsr)
employer_push h last nsr is number = (
  last,
  record {
    numbered = record { before = h; behind = []; split = refl; number = number };
    employer = is_employer-true last.body is;
    last = λ k d inside. absurd (omega arith);
  },
)

-- it isn't
pub employer_kept : (h : List Entry) (last : Entry) (found : Option ℕ) → is_employer last.body ≡ false → FindsEmployer h found → FindsEmployer (h ++ last ∷ []) found
employer_kept h last None is none = All-push (λ x. IsEmployer x.body → ⊥) h last none (is_employer-false last.body is)
employer_kept h last (Some nsr) is found = (
  found.0,
  record {
    numbered = IsNumbered-push h last nsr found.0 found.1.numbered;
    employer = found.1.employer;
    last = All-push (λ x. IsEmployer x.body → ⊥) found.1.numbered.behind last found.1.last (is_employer-false last.body is);
  },
)

workers_by : (old new : Pairs) (h : List Entry) (last : Entry) (nsr : ℕ) (worker : Option ℕ) → worker_of last.body ≡ worker → ((cpf : ℕ) → FindsWorker cpf h (number_of old cpf)) → nsr ≡ suc (length h) → ((cpf : ℕ) → worker_of last.body ≡ Some cpf → SetsOnly old new cpf nsr) → (worker_of last.body ≡ None → new ≡ old) → (cpf : ℕ) → FindsWorker cpf (h ++ last ∷ []) (number_of new cpf)
workers_by old new h last nsr None is finds number noted kept cpf =
    subst (λ l. FindsWorker cpf (h ++ last ∷ []) (number_of l cpf)) (sym (kept is)) (workers_kept old h last finds is cpf)
workers_by old new h last nsr (Some worker) is finds number noted kept cpf =
    workers_push old new h last nsr worker finds is number (noted worker is) cpf

employer_by : (h : List Entry) (last : Entry) (nsr : ℕ) (before after : Option ℕ) (b : Bool) → is_employer last.body ≡ b → nsr ≡ suc (length h) → after ≡ cond b (Some nsr) before → FindsEmployer h before → FindsEmployer (h ++ last ∷ []) after
employer_by h last nsr before after true is number gives finds = subst (FindsEmployer (h ++ last ∷ [])) (sym gives) (employer_push h last nsr is number)
employer_by h last nsr before after false is number gives finds = subst (FindsEmployer (h ++ last ∷ [])) (sym gives) (employer_kept h last before is finds)

-- the index once an entry is noted
pub IsIndexOf-push : (h : List Entry) (last : Entry) (nsr : ℕ) (old new : Index) → IsIndexOf old h → IsNew last.origin last.seq h → nsr ≡ suc (length h) → SetsPair old.origins new.origins last.origin last.seq nsr → ((cpf : ℕ) → worker_of last.body ≡ Some cpf → SetsOnly old.workers.pairs new.workers.pairs cpf nsr) → (worker_of last.body ≡ None → new.workers.pairs ≡ old.workers.pairs) → new.employer ≡ cond (is_employer last.body) (Some nsr) old.employer → IsIndexOf new (h ++ last ∷ [])
IsIndexOf-push h last nsr old new is fresh number sets noted kept gives = record {
  pairs = pairs_push old.origins new.origins h last nsr is.pairs fresh number sets;
  workers = workers_by old.workers.pairs new.workers.pairs h last nsr (worker_of last.body) refl is.workers number noted kept;
  employer = employer_by h last nsr old.employer new.employer (is_employer last.body) refl number gives is.employer;
}
