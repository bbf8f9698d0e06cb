-- The record as the program keeps it, changes and pieces apart.
use Rattle.std.proofs.Common.{◌≡◌, ℕ, ◌+◌, ◌-◌, ◌<◌, ◌≤◌, get_or, List, [], ◌∷◌, ◌++◌, length, drop, refl, sym, ap, ◌∙◌, arith, length-drop}
use Rattle.std.proofs.lemmas.List.{drop_more, drop_all, take-append-le, drop-append-le, drop-drop, nil_from_length}
use Rattle.rep_disk.specs.Record.{Made, State, Step, Put, reached, replay}
use Rattle.rep_disk.specs.Fields.{made_of, log_of, size_of, size_of_all, step_of}
use Rattle.rep_disk.specs.declared.change.Change.{Change}
use Rattle.rep_disk.specs.declared.change.Kind.{Kind}
use Rattle.rep_disk.specs.declared.change.Kind.TheVariants.{Write, Cut}

step_front : (kind : Kind) (pieces piece : List ℕ) → size_of kind ≤ length pieces → step_of kind (pieces ++ piece) ≡ step_of kind pieces
step_front (Write at size) pieces piece le = ap (λ (l : List ℕ). Put at l) (take-append-le size pieces piece le)
step_front (Cut size) pieces piece le = refl

made_front : (change : Change) (pieces piece : List ℕ) → size_of change.kind ≤ length pieces → made_of change (pieces ++ piece) ≡ made_of change pieces
made_front change pieces piece le = ap (λ (s : Step). record { begun = change.begun; synced = change.synced; step = s; failed = change.failed }) (step_front change.kind pieces piece le)

pub log_snoc : (log : List Change) (change : Change) (pieces piece : List ℕ) → size_of_all log ≡ length pieces → log_of (log ++ change ∷ []) (pieces ++ piece) ≡ log_of log pieces ++ made_of change piece ∷ []
log_snoc [] change pieces piece e =
    let none : pieces ≡ [] = nil_from_length pieces (sym e) in
    ap (λ (l : List ℕ). made_of change (l ++ piece) ∷ []) none
log_snoc (x ∷ log) change pieces piece e =
    let le : size_of x.kind ≤ length pieces = omega arith in
    let rest : size_of_all log ≡ length (drop (size_of x.kind) pieces) = omega (arith, length-drop (size_of x.kind) pieces) in
    ap (λ (m : Made). m ∷ log_of (log ++ change ∷ []) (drop (size_of x.kind) (pieces ++ piece))) (made_front x pieces piece le)
    ∙ ap (λ (l : List ℕ). made_of x pieces ∷ log_of (log ++ change ∷ []) l) (drop-append-le (size_of x.kind) pieces piece le)
    ∙ ap (λ (l : List Made). made_of x pieces ∷ l) (log_snoc log change (drop (size_of x.kind) pieces) piece rest)

pub size_snoc : (log : List Change) (change : Change) → size_of_all (log ++ change ∷ []) ≡ size_of_all log + size_of change.kind
size_snoc [] change = omega arith
size_snoc (x ∷ log) change = omega (arith, size_snoc log change)

-- a log's last change apart
pub log_last : (front : List Change) (change : Change) (pieces : List ℕ) → log_of (front ++ change ∷ []) pieces ≡ log_of front pieces ++ made_of change (drop (size_of_all front) pieces) ∷ []
log_last [] change pieces = refl
log_last (x ∷ front) change pieces =
    ap (λ (l : List Made). made_of x pieces ∷ l) (log_last front change (drop (size_of x.kind) pieces))
    ∙ ap (λ (l : List ℕ). made_of x pieces ∷ (log_of front (drop (size_of x.kind) pieces) ++ made_of change l ∷ [])) (drop-drop (size_of_all front) (size_of x.kind) pieces)

-- A replay in the middle: what is left of the record leads to the goal.
pub record IsReplayed (moment : ℕ) (goal now : State) (log : List Change) (rest : List ℕ) : Type 0 where
  pub so_far : replay moment now (log_of log rest) ≡ goal
  pub size : size_of_all log ≡ length rest

pub replayed_size : (moment : ℕ) (goal now : State) (log : List Change) (i : ℕ) (d : Change) (rest : List ℕ) → i < length log → IsReplayed moment goal now (drop i log) rest → size_of (get_or log i d).kind ≤ length rest
replayed_size moment goal now log i d rest lt is =
    let e : size_of_all (drop i log) ≡ size_of (get_or log i d).kind + size_of_all (drop (i + 1) log) = ap size_of_all (drop_more log i d lt) in
    let s = is.size in
    omega arith

pub replayed_step : (moment : ℕ) (goal now next : State) (log : List Change) (i : ℕ) (d : Change) (rest left : List ℕ) → i < length log → IsReplayed moment goal now (drop i log) rest
    → next ≡ reached moment (made_of (get_or log i d) rest) now → left ≡ drop (size_of (get_or log i d).kind) rest → IsReplayed moment goal next (drop (i + 1) log) left
replayed_step moment goal now next log i d rest left lt is reach e =
    let more : drop i log ≡ get_or log i d ∷ drop (i + 1) log = drop_more log i d lt in
    let sizes : size_of_all (drop i log) ≡ size_of (get_or log i d).kind + size_of_all (drop (i + 1) log) = ap size_of_all more in
    let s = is.size in
    let le : size_of (get_or log i d).kind ≤ length rest = omega arith in
    record {
      so_far = ap (λ (l : List ℕ). replay moment next (log_of (drop (i + 1) log) l)) e
          ∙ ap (λ (x : State). replay moment x (log_of (drop (i + 1) log) (drop (size_of (get_or log i d).kind) rest))) reach
          ∙ sym (ap (λ (l : List Change). replay moment now (log_of l rest)) more)
          ∙ is.so_far;
      size = (let l : length left ≡ length rest - size_of (get_or log i d).kind = ap length e ∙ length-drop (size_of (get_or log i d).kind) rest in omega arith);
    }

pub replayed_all : (moment : ℕ) (goal now : State) (log : List Change) (i : ℕ) (rest : List ℕ) → length log ≤ i → IsReplayed moment goal now (drop i log) rest → now ≡ goal
replayed_all moment goal now log i rest le is = sym (ap (λ (l : List Change). replay moment now (log_of l rest)) (drop_all i log le)) ∙ is.so_far
