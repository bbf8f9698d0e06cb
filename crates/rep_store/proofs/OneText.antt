-- The AFD of a period is one text.
use Rattle.std.proofs.Common.{◌≡◌, ℕ, suc, ◌+◌, ◌-◌, ◌<◌, ◌≤◌, ◌⊎◌, inl, inr, List, [], ◌∷◌, ◌++◌, length, get_or, refl, sym, ap, subst, ◌∙◌, arith, length-append}
use Rattle.std.specs.Prelude.{All}
use Rattle.std.proofs.lemmas.Bool.{cases_lt}
use Rattle.rep_fields.specs.Employer.{kind_byte, id_text}
use Rattle.rep_fields.specs.Moment.{Moment}
use Rattle.rep_fields.specs.declared.employer.EmployerId.{EmployerId}
use Rattle.afd_records.specs.File.{counts_of, file_text}
use Rattle.afd_records.specs.declared.header.Head.{Head}
use Rattle.afd_records.specs.declared.record.Body.{Body}
use Rattle.afd_records.specs.declared.record.Body.TheVariants.{Employer, Adjust, Worker, Event, Clocking}
use Rattle.rep_wire.specs.declared.request.Entry.{Entry}
use Rattle.rep_core.specs.Chained.{history_lines}
use Rattle.rep_core.specs.History.{IsEmployer, IsLastEmployer, IsNumbered, bodies_of, days_of}
use Rattle.rep_core.proofs.Numbered.{IsNumbered-unique, place_of_number}
use Rattle.rep_site.specs.declared.site.Site.{Site}
use Rattle.afd_extract.specs.Period.{in_range}
use Rattle.rep_store.specs.Extracting.{IsAfdOf, IsExtractHead, NamesEmployer}
use Rattle.rep_store.proofs.Sizes.{one_period}

get_or-behind : {X : Type 0} (before behind : List X) (e d : X) (k : ℕ) → get_or (before ++ e ∷ behind) (length before + suc k) d ≡ get_or behind k d
get_or-behind [] behind e d k =
    let same : 0 + suc k ≡ suc k = omega arith in ap (λ (n : ℕ). get_or (e ∷ behind) n d) same
get_or-behind (x ∷ before) behind e d k =
    let same : suc (length before) + suc k ≡ suc (length before + suc k) = omega arith in
    ap (λ (n : ℕ). get_or (x ∷ (before ++ e ∷ behind)) n d) same ∙ get_or-behind before behind e d k

-- no employer's record has a greater number than the last one
not_behind : (h : List Entry) (m n : ℕ) (e d : Entry) → IsLastEmployer h m e → IsNumbered h n d → IsEmployer d.body → m < n → ⊥
not_behind h m n e d last numbered employs less =
    let before = last.numbered.before in
    let behind = last.numbered.behind in
    let at = place_of_number h n d d numbered in
    let many : length h ≡ length before + suc (length behind) = ap length last.numbered.split ∙ length-append before (e ∷ behind) in
    let place : n - 1 ≡ length before + suc (n - m - 1) = omega (arith, last.numbered.number) in
    let here : get_or behind (n - m - 1) d ≡ d =
    sym (get_or-behind before behind e d (n - m - 1)) ∙ ap (λ xs. get_or xs (length before + suc (n - m - 1)) d) (sym last.numbered.split)
    ∙ ap (λ k. get_or h k d) (sym place) ∙ at.2 in
    last.last (n - m - 1) d (omega (arith, at.1, last.numbered.number)) (subst (λ (x : Entry). IsEmployer x.body) (sym here) employs)

one_employer : (h : List Entry) (m n : ℕ) (e d : Entry) → IsLastEmployer h m e → IsLastEmployer h n d → e ≡ d
one_employer h m n e d one two = elim (cases_lt m n) [
  | inl less ↦ absurd (not_behind h m n e d one two.numbered two.employer less)
  | inr least ↦ elim (cases_lt n m) [
    | inl less ↦ absurd (not_behind h n m d e two one.numbered one.employer less)
    | inr most ↦
        let same : n ≡ m = omega arith in
        IsNumbered-unique h m e d one.numbered (subst (λ k. IsNumbered h k d) same two.numbered)
  ]
]

-- what a head says of its employer
record NamesAlike (a b : Head) : Type 0 where
  id : a.id ≡ b.id
  cno : a.cno ≡ b.cno
  name : a.name ≡ b.name

names_alike : (a b : Head) (body : Body) → NamesEmployer a body → NamesEmployer b body → NamesAlike a b
names_alike a b (Employer at resp id cno name place) one two =
    record { id = one.0 ∙ sym two.0; cno = one.1 ∙ sym two.1; name = one.2 ∙ sym two.2 }
names_alike a b (Adjust before after resp) one two = absurd one
names_alike a b (Worker at op cpf name extra resp) one two = absurd one
names_alike a b (Event at code) one two = absurd one
names_alike a b (Clocking marked cpf recorded collector offline) one two = absurd one

abbrev head_with : EmployerId → ℕ → List ℕ → List ℕ → ℕ → ℕ → Moment → ℕ → List ℕ → List ℕ → Head
head_with id cno name rep first last made dev_kind dev model = record {
  id = id;
  cno = cno;
  name = name;
  rep = rep;
  first = first;
  last = last;
  made = made;
  dev_kind = dev_kind;
  dev = dev;
  model = model;
}

same_parts : (i i' : EmployerId) (c c' : ℕ) (n n' r r' : List ℕ) (f f' l l' : ℕ) (m m' : Moment) (k k' : ℕ) (d d' o o' : List ℕ) → i ≡ i' → c ≡ c' → n ≡ n' → r ≡ r' → f ≡ f' → l ≡ l' → m ≡ m' → k ≡ k' → d ≡ d' → o ≡ o' → head_with i c n r f l m k d o ≡ head_with i' c' n' r' f' l' m' k' d' o'
same_parts i i' c c' n n' r r' f f' l l' m m' k k' d d' o o' ei ec en er ef el em ek ed eo =
    ap (λ x. head_with x c n r f l m k d o) ei
    ∙ ap (λ x. head_with i' x n r f l m k d o) ec
    ∙ ap (λ x. head_with i' c' x r f l m k d o) en
    ∙ ap (λ x. head_with i' c' n' x f l m k d o) er
    ∙ ap (λ x. head_with i' c' n' r' x l m k d o) ef
    ∙ ap (λ x. head_with i' c' n' r' f' x m k d o) el
    ∙ ap (λ x. head_with i' c' n' r' f' l' x k d o) em
    ∙ ap (λ x. head_with i' c' n' r' f' l' m' x d o) ek
    ∙ ap (λ x. head_with i' c' n' r' f' l' m' k' x o) ed
    ∙ ap (λ x. head_with i' c' n' r' f' l' m' k' d' x) eo

one_head : (site : Site) (h : List Entry) (from to minute : ℕ) (a b : Head) → IsExtractHead site h from to minute a → IsExtractHead site h from to minute b → a ≡ b
one_head site h from to minute a b one two =
    let e = one.employer.1 in
    let d = two.employer.1 in
    let same = one_employer h one.employer.0 two.employer.0 e d one.employer.2 two.employer.2 in
    let alike = names_alike a b e.body one.employer.3 (subst (λ (x : Entry). NamesEmployer b x.body) (sym same) two.employer.3) in
    let kind : a.dev_kind ≡ b.dev_kind = omega (arith, one.dev_kind, two.dev_kind) in
    same_parts a.id b.id a.cno b.cno a.name b.name a.rep b.rep a.first b.first a.last b.last a.made b.made a.dev_kind b.dev_kind a.dev b.dev a.model b.model
    alike.id alike.cno alike.name (one.rep ∙ sym two.rep) (one.first ∙ sym two.first) (one.last ∙ sym two.last) (one.made ∙ sym two.made) kind
    (one.dev ∙ sym two.dev) (one.model ∙ sym two.model)

pub one_text : (site : Site) (h : List Entry) (from to minute : ℕ) (text other : List ℕ) → IsAfdOf site h from to minute text → IsAfdOf site h from to minute other → text ≡ other
one_text site h from to minute text other one two =
    let range = one_period (days_of h) from to one.range two.range one.period two.period in
    let head = one_head site h from to minute one.head two.head one.headed two.headed in
    one.written
    ∙ ap (λ (x : Head). file_text x (in_range one.range (history_lines h)) (counts_of (in_range one.range (bodies_of h)))) head
    ∙ ap (λ r. file_text two.head (in_range r (history_lines h)) (counts_of (in_range r (bodies_of h)))) range
    ∙ sym two.written
