-- The first 24 fields of a line tell of all of them: no line on the grammar has more than 23.
use Rattle.std.proofs.Common.{◌≡◌, ℕ, ◌+◌, ◌-◌, ◌*◌, ◌≤◌, inl, inr, List, [], ◌∷◌, length, take, replicate, refl, sym, ap, ◌∙◌, subst, arith, get_or-take, length-take}
use Rattle.std.proofs.lemmas.List.{take_all, length-replicate}
use Rattle.aej_records.specs.Fields.{field_at}
use Rattle.aej_records.specs.Grammar.{FieldKind, IsField, kinds_of, pairs_in, time_field, name_field, number_field, IsFirstOff, IsBadAmong, Says}
use Rattle.aej_records.specs.Line.{IsInRange}
use Rattle.aej_records.specs.Reading.{IsSaidBy}
use Rattle.aej_records.specs.declared.kind.LineType.{LineType}
use Rattle.aej_records.specs.declared.kind.LineType.TheVariants as type
use Rattle.aej_records.specs.declared.line.AejLine.{AejLine}
use Rattle.aej_records.specs.declared.line.AejLine.TheVariants.{Head, Rep, Link, Schedule, Mark, Registration, Absence, Program, Counts}

field_at-take : (number : ℕ) (fields : List (List ℕ)) → number ≤ 24 → field_at number (take 24 fields) ≡ field_at number fields
field_at-take number fields within = get_or-take 24 fields (number - 1) [] (omega arith)

pairs_in-take : (fields : List (List ℕ)) → pairs_in (length (take 24 fields)) ≡ pairs_in (length fields)
pairs_in-take fields = omega (arith, length-take 24 fields)

kinds_of-take : (type : LineType) (fields : List (List ℕ)) → kinds_of type (take 24 fields) ≡ kinds_of type fields
kinds_of-take type.Head fields =
    ap (λ kind. kinds_of type.Head ([] ∷ kind ∷ [])) (field_at-take 2 fields (omega arith))
kinds_of-take type.Rep fields = refl
kinds_of-take type.Link fields = refl
kinds_of-take type.Schedule fields =
    ap (λ pairs. name_field 30 ∷ number_field 1 1440 ∷ replicate (2 * pairs) time_field) (pairs_in-take fields)
kinds_of-take type.Mark fields = refl
kinds_of-take type.Registration fields = refl
kinds_of-take type.Absence fields = refl
kinds_of-take type.Program fields =
    ap (λ kind. kinds_of type.Program ([] ∷ [] ∷ [] ∷ kind ∷ [])) (field_at-take 4 fields (omega arith))
kinds_of-take type.Counts fields = refl

length-kinds_of : (type : LineType) (fields : List (List ℕ)) → length (kinds_of type fields) ≤ 22
length-kinds_of type.Head fields = omega arith
length-kinds_of type.Rep fields = omega arith
length-kinds_of type.Link fields = omega arith
length-kinds_of type.Schedule fields = omega (arith, length-replicate (2 * pairs_in (length fields)) time_field)
length-kinds_of type.Mark fields = omega arith
length-kinds_of type.Registration fields = omega arith
length-kinds_of type.Absence fields = omega arith
length-kinds_of type.Program fields = omega arith
length-kinds_of type.Counts fields = omega arith

IsFirstOff-whole : (place : ℕ) (kinds : List FieldKind) (fields : List (List ℕ)) (number : ℕ) → place + length kinds ≤ 24
    → IsFirstOff place kinds (take 24 fields) number → IsFirstOff place kinds fields number
IsFirstOff-whole place [] fields number within off = (omega (arith, length-take 24 fields, off.0), off.1)
IsFirstOff-whole place (kind ∷ kinds) fields number within (inl here) =
    inl (subst (λ text. ¬ IsField kind text) (field_at-take place fields (omega arith)) here.0, here.1)
IsFirstOff-whole place (kind ∷ kinds) fields number within (inr behind) =
    inr (
      subst (IsField kind) (field_at-take place fields (omega arith)) behind.0,
      IsFirstOff-whole (place + 1) kinds fields number (omega arith) behind.1,
    )

-- a field that is bad among the first ones is bad among all
pub IsBadAmong-whole : (fields : List (List ℕ)) (number : ℕ) → IsBadAmong (take 24 fields) number → IsBadAmong fields number
IsBadAmong-whole fields number (inl none) =
    inl ((λ type is. none.0 type (field_at-take 1 fields (omega arith) ∙ is)), none.1)
IsBadAmong-whole fields number (inr off) =
    let kinds = kinds_of-take off.0 fields in
    let within : 2 + length (kinds_of off.0 fields) ≤ 24 = omega (arith, length-kinds_of off.0 fields) in
    inr (
      off.0,
      sym (field_at-take 1 fields (omega arith)) ∙ off.1,
      IsFirstOff-whole 2 (kinds_of off.0 fields) fields number within
          (subst (λ ks. IsFirstOff 2 ks (take 24 fields) number) kinds off.2),
    )

length-said : (line : AejLine) (fields : List (List ℕ)) → IsInRange line → Says line fields → length fields ≤ 23
length-said (Head id caepf cno name first last made) fields in_range said = omega (arith, said.8)
length-said (Rep id kind number) fields in_range said = omega (arith, said.3)
length-said (Link id cpf name) fields in_range said = omega (arith, said.3)
length-said (Schedule code minutes times) fields in_range said = omega (arith, said.3, in_range.2.few)
length-said (Mark link at rep mark pair source schedule reason) fields in_range said = omega (arith, said.8)
length-said (Registration link number) fields in_range said = omega (arith, said.2)
length-said (Absence link kind date minutes movement) fields in_range said = omega (arith, said.5)
length-said (Program name version developer developer_name email) fields in_range said = omega (arith, said.5)
length-said (Counts counts) fields in_range said = omega (arith, said.1)

-- fields that are said by the first ones are said by all
pub IsSaidBy-whole : (fields : List (List ℕ)) (line : AejLine) → IsSaidBy (take 24 fields) line → IsSaidBy fields line
IsSaidBy-whole fields line said =
    let few = length-said line (take 24 fields) said.in_range said.said in
    let all : take 24 fields ≡ fields = take_all 24 fields (omega (arith, length-take 24 fields, few)) in
    subst (λ fs. IsSaidBy fs line) all said
