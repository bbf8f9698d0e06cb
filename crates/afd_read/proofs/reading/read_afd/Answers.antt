use Rattle.std.proofs.Common.{ℕ, List, Err, vec_len, ap, sym, ◌∙◌, subst, arith}
use Rattle.std.proofs.lemmas.Result.{err_from_is_err_and}
use Rattle.rep_io.specs.Lines.{lines_of}
use Rattle.afd_read.specs.Beginning.{IsHeadLine, IsHeadOf}
use Rattle.afd_read.specs.Filling.{first_of, IsRefusalOf}
use Rattle.afd_read.specs.Index.{bounds_of}
use Rattle.afd_read.proofs.BeginningLemmas.{refusal_says, head_told, later_says, kept_from, taken_whole, taken_limit}
use Rattle.afd_read.proofs.FillingLemmas.{taken_none}
use Rattle.afd_read.proofs.reading.read_afd.Goals as goal

pub returns-in_err-head-clause-says : goal.returns-in_err-head-clause-says
returns-in_err-head-clause-says g c text told =
    let p = err_from_is_err_and c.from_residual-in_err-head.result c.from_residual-in_err-head.ensures.1 in
    let fault = c.in_err-head.field-0.0 in
    let refusal : IsRefusalOf (first_of (lines_of c.fill_first.new.bytes.items)) fault =
    subst (λ (bytes : List ℕ). IsRefusalOf (first_of (lines_of bytes)) fault) c.deref.ensures.value
    c.in_err-head.ensures.refusal in
    rw (p.1, p.2) (refusal_says _ _ _ _ c.in_ok-ended.ensures.fills fault refusal text told)

pub returns-in_err-fill_rest-clause-says : goal.returns-in_err-fill_rest-clause-says
returns-in_err-fill_rest-clause-says g c text told =
    let p = err_from_is_err_and c.from_residual-in_err-fill_rest.result c.from_residual-in_err-fill_rest.ensures.1 in
    let fault = c.in_err-fill_rest.field-0.0 in
    let head : IsHeadLine c.in_ok-head.head (first_of (lines_of c.fill_first.new.bytes.items)) =
    subst (λ (bytes : List ℕ). IsHeadLine c.in_ok-head.head (first_of (lines_of bytes))) c.deref.ensures.value
    c.in_ok-head.ensures.head in
    rw (p.1, p.2)
    (later_says _ _ _ _ c.in_ok-ended.ensures.fills (g.S.Source.left c.fill_rest.new.source) c.in_ok-head.head fault head
    c.in_err-fill_rest.ensures.no_refusal (λ is. c.in_err-fill_rest.ensures.limit (ap Err is)) text told)

pub returns-in_err-fill_rest-clause-limit : goal.returns-in_err-fill_rest-clause-limit
returns-in_err-fill_rest-clause-limit g c is =
    let p = err_from_is_err_and c.from_residual-in_err-fill_rest.result c.from_residual-in_err-fill_rest.ensures.1 in
    let given = p.1 in
    let same = p.2 in
    taken_limit _ _ _ _ _ c.in_ok-ended.ensures.fills (c.in_err-fill_rest.ensures.limit (cc (given, same, is)))

pub returns-in_err-fill_rest-clause-front : goal.returns-in_err-fill_rest-clause-front
returns-in_err-fill_rest-clause-front g c =
    taken_whole _ _ _ _ _ (vec_len c.fill_first.new.bytes) c.in_ok-ended.ensures.fills
    (omega (arith, c.fill_first.new.bytes.ok.0)) c.fill_rest.ensures.front

pub returns-in_err-bounds-clause-front : goal.returns-in_err-bounds-clause-front
returns-in_err-bounds-clause-front g c =
    taken_whole _ _ _ _ _ (vec_len c.fill_first.new.bytes) c.in_ok-ended.ensures.fills
    (omega (arith, c.fill_first.new.bytes.ok.0)) c.fill_rest.ensures.front

pub returns-clause-front : goal.returns-clause-front
returns-clause-front g c =
    taken_whole _ _ _ _ _ (vec_len c.fill_first.new.bytes) c.in_ok-ended.ensures.fills
    (omega (arith, c.fill_first.new.bytes.ok.0)) c.fill_rest.ensures.front

pub keep-requires : goal.keep-requires
keep-requires g c =
    kept_from _ _ _ _ _ _ _ _ c.in_ok-ended.ensures.fills c.in_ok-fill_rest.ensures.fills
    (subst (λ (bytes : List ℕ). IsHeadLine c.in_ok-head.head (first_of (lines_of bytes))) c.deref.ensures.value c.in_ok-head.ensures.head)
    (c.in_ok-bounds.ensures ∙ ap bounds_of c.deref-2.ensures.value)

pub returns-clause-begins : goal.returns-clause-begins
returns-clause-begins g c =
    let kept = kept_from _ _ _ _ _ _ _ _ c.in_ok-ended.ensures.fills c.in_ok-fill_rest.ensures.fills
    (subst (λ (bytes : List ℕ). IsHeadLine c.in_ok-head.head (first_of (lines_of bytes))) c.deref.ensures.value c.in_ok-head.ensures.head)
    (c.in_ok-bounds.ensures ∙ ap bounds_of c.deref-2.ensures.value) in
    (c.in_ok-head.head, subst (λ (text : List ℕ). IsHeadOf text c.in_ok-head.head) (sym c.keep.ensures) kept.begins)

pub returns-in_err-piece-clause-no_further : goal.returns-in_err-piece-clause-no_further
returns-in_err-piece-clause-no_further g c text told none = taken_none _

pub returns-in_err-fill_rest-clause-no_further : goal.returns-in_err-fill_rest-clause-no_further
returns-in_err-fill_rest-clause-no_further g c text told none =
    let head : IsHeadLine c.in_ok-head.head (first_of (lines_of c.fill_first.new.bytes.items)) =
    subst (λ (bytes : List ℕ). IsHeadLine c.in_ok-head.head (first_of (lines_of bytes))) c.deref.ensures.value
    c.in_ok-head.ensures.head in
    absurd (none c.in_ok-head.head (head_told _ _ _ _ c.in_ok-ended.ensures.fills c.in_ok-head.head head text told))

pub returns-in_err-bounds-clause-no_further : goal.returns-in_err-bounds-clause-no_further
returns-in_err-bounds-clause-no_further g c text told none =
    let head : IsHeadLine c.in_ok-head.head (first_of (lines_of c.fill_first.new.bytes.items)) =
    subst (λ (bytes : List ℕ). IsHeadLine c.in_ok-head.head (first_of (lines_of bytes))) c.deref.ensures.value
    c.in_ok-head.ensures.head in
    absurd (none c.in_ok-head.head (head_told _ _ _ _ c.in_ok-ended.ensures.fills c.in_ok-head.head head text told))

pub returns-clause-no_further : goal.returns-clause-no_further
returns-clause-no_further g c text told none =
    let head : IsHeadLine c.in_ok-head.head (first_of (lines_of c.fill_first.new.bytes.items)) =
    subst (λ (bytes : List ℕ). IsHeadLine c.in_ok-head.head (first_of (lines_of bytes))) c.deref.ensures.value
    c.in_ok-head.ensures.head in
    absurd (none c.in_ok-head.head (head_told _ _ _ _ c.in_ok-ended.ensures.fills c.in_ok-head.head head text told))

pub returns-in_err-fill_rest-clause-no_fault : goal.returns-in_err-fill_rest-clause-no_fault
returns-in_err-fill_rest-clause-no_fault g c other =
    let p = err_from_is_err_and c.from_residual-in_err-fill_rest.result c.from_residual-in_err-fill_rest.ensures.1 in
    let given = p.1 in
    let same = p.2 in
    c.in_err-fill_rest.ensures.no_fault (λ is. other (cc (given, same, is)))
    ∙ c.in_ok-ended.ensures.no_fault (λ is. absurd cc)
