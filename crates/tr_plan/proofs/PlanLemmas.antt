-- Laws of a plan file as a whole: it says one plan or has one first fault, and not both.
use Rattle.std.proofs.Common.{◌≡◌, ◌≢◌, ◌⊎◌, ℕ, List, [], ◌∷◌, All, Result, Ok, Err, IfOk, IfErr, inl, inr, sym, ap, ◌∙◌, subst}
use Rattle.std.specs.Prelude.{AllPairs}
use Rattle.toml.specs.Data.{Members}
use Rattle.toml_fields.specs.Table.{IsTomlOf, IsNoToml}
use Rattle.toml_fields.proofs.Found.{IsTomlOf-unique}
use Rattle.tr_plan.specs.Program.{program_number}
use Rattle.tr_plan.specs.Include.{HasIncludes, AreIncludesOff}
use Rattle.tr_plan.specs.Absence.{HasAbsences, AreAbsencesOff}
use Rattle.tr_plan.specs.Link.{AreApart}
use Rattle.tr_plan.specs.Plan.{IsPlan, HasKnownCode}
use Rattle.tr_plan.specs.Reading.{IsPlanOf, IsPlanText, IsFaultOf, PlanPart, program_part, schedules_part, links_part, disregards_part, includes_part, absences_part, others_part, codes_part, dates_part, plan_parts, IsPartSound, IsPartOff, IsFirstPartOff, IsFirstFault, IsFirstCause, IsFirstUnknownCode, IsFirstOverlap}
use Rattle.tr_plan.specs.declared.fault.PlanFault.{PlanFault}
use Rattle.tr_plan.specs.declared.fault.PlanFault.TheVariants.{PlanText, PlanField, UnknownCode, Overlap, OutOfMemory}
use Rattle.tr_plan.specs.declared.link.Link.{Link}
use Rattle.tr_plan.specs.declared.plan.Plan.{Plan}
use Rattle.tr_plan.specs.declared.schedule.Schedule.{Schedule}
use Rattle.tr_plan.proofs.PartLemmas.{HasProgram-unique, no_program_off, IsProgramOff-unique, HasSchedules-unique, no_schedules_off, AreSchedulesOff-unique, HasLinks-unique, no_links_off, AreLinksOff-unique, HasDisregards-unique, no_disregards_off, AreDisregardsOff-unique, HasIncludes-unique, no_includes_off, AreIncludesOff-unique, HasAbsences-unique, no_absences_off, AreAbsencesOff-unique, no_unknown_code, IsFirstUnknownCode-unique, no_overlap, IsFirstOverlap-unique}
use Rattle.tr_plan.proofs.RangeLemmas.{plan_in_range}

-- members say one plan
IsPlanOf-unique : (ms : Members) (v w : Plan) → IsPlanOf ms v → IsPlanOf ms w → v ≡ w
IsPlanOf-unique ms v w is_v is_w =
    let program : v.program ≡ w.program = HasProgram-unique ms v.program w.program is_v.program is_w.program in
    let schedules : v.schedules ≡ w.schedules = HasSchedules-unique ms v.schedules w.schedules is_v.schedules is_w.schedules in
    let links : v.links ≡ w.links = HasLinks-unique ms v.links w.links is_v.links is_w.links in
    let disregards : v.disregards ≡ w.disregards = HasDisregards-unique ms v.disregards w.disregards is_v.disregards is_w.disregards in
    let includes : v.includes ≡ w.includes =
    HasIncludes-unique w.links ms v.includes w.includes (subst (λ (ls : List Link). HasIncludes ls ms v.includes) links is_v.includes) is_w.includes in
    let absences : v.absences ≡ w.absences =
    HasAbsences-unique w.links ms v.absences w.absences (subst (λ (ls : List Link). HasAbsences ls ms v.absences) links is_v.absences) is_w.absences in
    λ i. record {
      program = program i;
      schedules = schedules i;
      links = links i;
      disregards = disregards i;
      includes = includes i;
      absences = absences i;
    }

-- a part that is sound isn't off
part_sound : (ms : Members) (part : PlanPart) (fault : PlanFault) → IsPartSound ms part → IsPartOff ms part fault → ⊥
part_sound ms program_part fault (v, has) (key, off, is) = no_program_off ms v key has off
part_sound ms schedules_part fault (vs, has) (place, key, off, is) = no_schedules_off ms vs place key has off
part_sound ms links_part fault (vs, has) (place, key, off, is) = no_links_off ms vs place key has off
part_sound ms disregards_part fault (vs, has) (place, key, off, is) = no_disregards_off ms vs place key has off
part_sound ms includes_part fault (links, vs, has_links, has) (others, place, key, has_others, off, is) =
    no_includes_off others ms vs place key (subst (λ (ls : List Link). HasIncludes ls ms vs) (HasLinks-unique ms links others has_links has_others) has) off
part_sound ms absences_part fault (links, vs, has_links, has) (others, place, key, has_others, off, is) =
    no_absences_off others ms vs place key (subst (λ (ls : List Link). HasAbsences ls ms vs) (HasLinks-unique ms links others has_links has_others) has) off
part_sound ms others_part fault only off = off.0 only
part_sound ms codes_part fault (schedules, links, has_schedules, has_links, known) (other_schedules, other_links, place, has_others, has_other_links, first, is) =
    no_unknown_code other_schedules other_links place
    (subst (λ (ss : List Schedule). All (HasKnownCode ss) other_links) (HasSchedules-unique ms schedules other_schedules has_schedules has_others)
    (subst (λ (ls : List Link). All (HasKnownCode schedules) ls) (HasLinks-unique ms links other_links has_links has_other_links) known)) first
part_sound ms dates_part fault (links, has, apart) (others, cpf, has_others, first, is) =
    no_overlap others cpf (subst (AllPairs AreApart) (HasLinks-unique ms links others has has_others) apart) first

same_field : (table place other_place key other : ℕ) → (place ≡ other_place) × (key ≡ other) → PlanField table place key ≡ PlanField table other_place other
same_field table place other_place key other same = ap (λ p. PlanField table p key) same.0 ∙ ap (λ k. PlanField table other_place k) same.1

-- and one that is off has one fault
IsPartOff-unique : (ms : Members) (part : PlanPart) (a b : PlanFault) → IsPartOff ms part a → IsPartOff ms part b → a ≡ b
IsPartOff-unique ms program_part a b (key, off, is) (other, other_off, other_is) =
    is ∙ ap (λ k. PlanField 1 0 (program_number k)) (IsProgramOff-unique ms key other off other_off) ∙ sym other_is
IsPartOff-unique ms schedules_part a b (place, key, off, is) (other_place, other, other_off, other_is) =
    is ∙ same_field 2 place other_place key other (AreSchedulesOff-unique ms place other_place key other off other_off) ∙ sym other_is
IsPartOff-unique ms links_part a b (place, key, off, is) (other_place, other, other_off, other_is) =
    is ∙ same_field 3 place other_place key other (AreLinksOff-unique ms place other_place key other off other_off) ∙ sym other_is
IsPartOff-unique ms disregards_part a b (place, key, off, is) (other_place, other, other_off, other_is) =
    is ∙ same_field 4 place other_place key other (AreDisregardsOff-unique ms place other_place key other off other_off) ∙ sym other_is
IsPartOff-unique ms includes_part a b (links, place, key, has, off, is) (others, other_place, other, has_others, other_off, other_is) =
    is ∙ same_field 5 place other_place key other
    (AreIncludesOff-unique others ms place other_place key other
    (subst (λ (ls : List Link). AreIncludesOff ls ms place key) (HasLinks-unique ms links others has has_others) off) other_off) ∙ sym other_is
IsPartOff-unique ms absences_part a b (links, place, key, has, off, is) (others, other_place, other, has_others, other_off, other_is) =
    is ∙ same_field 6 place other_place key other
    (AreAbsencesOff-unique others ms place other_place key other
    (subst (λ (ls : List Link). AreAbsencesOff ls ms place key) (HasLinks-unique ms links others has has_others) off) other_off) ∙ sym other_is
IsPartOff-unique ms others_part a b off other = off.1 ∙ sym other.1
IsPartOff-unique ms codes_part a b (schedules, links, place, has_schedules, has_links, first, is) (other_schedules, other_links, other, has_others, has_other_links, other_first, other_is) =
    is ∙ ap UnknownCode (IsFirstUnknownCode-unique other_schedules other_links place other
    (subst (λ (ss : List Schedule). IsFirstUnknownCode ss other_links place) (HasSchedules-unique ms schedules other_schedules has_schedules has_others)
    (subst (λ (ls : List Link). IsFirstUnknownCode schedules ls place) (HasLinks-unique ms links other_links has_links has_other_links) first)) other_first)
    ∙ sym other_is
IsPartOff-unique ms dates_part a b (links, cpf, has, first, is) (others, other, has_others, other_first, other_is) =
    is ∙ ap Overlap (IsFirstOverlap-unique others cpf other
    (subst (λ (ls : List Link). IsFirstOverlap ls cpf) (HasLinks-unique ms links others has has_others) first) other_first) ∙ sym other_is

-- each part of members that say a plan is sound
plan_sound : (ms : Members) (v : Plan) → IsPlanOf ms v → (part : PlanPart) → IsPartSound ms part
plan_sound ms v is program_part = (v.program, is.program)
plan_sound ms v is schedules_part = (v.schedules, is.schedules)
plan_sound ms v is links_part = (v.links, is.links)
plan_sound ms v is disregards_part = (v.disregards, is.disregards)
plan_sound ms v is includes_part = (v.links, v.includes, is.links, is.includes)
plan_sound ms v is absences_part = (v.links, v.absences, is.links, is.absences)
plan_sound ms v is others_part = is.known
plan_sound ms v is codes_part = (v.schedules, v.links, is.schedules, is.links, is.known_codes)
plan_sound ms v is dates_part = (v.links, is.links, is.apart)

no_first_off : (ms : Members) (parts : List PlanPart) (fault : PlanFault) → ((part : PlanPart) → IsPartSound ms part) → IsFirstPartOff ms parts fault → ⊥
no_first_off ms [] fault sound off = off
no_first_off ms (part ∷ parts) fault sound (inl here) = part_sound ms part fault (sound part) here
no_first_off ms (part ∷ parts) fault sound (inr later) = no_first_off ms parts fault sound later.1

first_off_alone : (ms : Members) (parts : List PlanPart) (a b : PlanFault) → IsFirstPartOff ms parts a → IsFirstPartOff ms parts b → a ≡ b
first_off_alone ms [] a b off other = absurd off
first_off_alone ms (part ∷ parts) a b (inl here) (inl there) = IsPartOff-unique ms part a b here there
first_off_alone ms (part ∷ parts) a b (inl here) (inr later) = absurd (part_sound ms part a later.0 here)
first_off_alone ms (part ∷ parts) a b (inr later) (inl there) = absurd (part_sound ms part b later.0 there)
first_off_alone ms (part ∷ parts) a b (inr later) (inr other) = first_off_alone ms parts a b later.1 other.1

-- no part's fault is that of the text
part_not_text : (ms : Members) (part : PlanPart) → IsPartOff ms part PlanText → ⊥
part_not_text ms program_part (key, off, is) = absurd (cc)
part_not_text ms schedules_part (place, key, off, is) = absurd (cc)
part_not_text ms links_part (place, key, off, is) = absurd (cc)
part_not_text ms disregards_part (place, key, off, is) = absurd (cc)
part_not_text ms includes_part (links, place, key, has, off, is) = absurd (cc)
part_not_text ms absences_part (links, place, key, has, off, is) = absurd (cc)
part_not_text ms others_part off = let is = off.1 in absurd (cc)
part_not_text ms codes_part (schedules, links, place, has_schedules, has_links, first, is) = absurd (cc)
part_not_text ms dates_part (links, cpf, has, first, is) = absurd (cc)

first_not_text : (ms : Members) (parts : List PlanPart) → IsFirstPartOff ms parts PlanText → ⊥
first_not_text ms [] off = off
first_not_text ms (part ∷ parts) (inl here) = part_not_text ms part here
first_not_text ms (part ∷ parts) (inr later) = first_not_text ms parts later.1

pub fault_not_text : (ms : Members) → IsFirstFault ms PlanText → ⊥
fault_not_text ms = first_not_text ms plan_parts

-- a text says one plan
pub IsPlanText-unique : (text : List ℕ) (v w : Plan) → IsPlanText text v → IsPlanText text w → v ≡ w
IsPlanText-unique text v w is_v is_w =
    IsPlanOf-unique is_w.members v w (subst (λ m. IsPlanOf m v) (IsTomlOf-unique text is_v.members is_w.members is_v.toml is_w.toml) is_v.said) is_w.said

-- and then has no fault
pub no_fault : (text : List ℕ) (v : Plan) (fault : PlanFault) → IsPlanText text v → IsFaultOf text fault → ⊥
no_fault text v fault is off =
    let said = subst (λ m. IsPlanOf m v) (IsTomlOf-unique text is.members off.members is.toml off.toml) is.said in
    no_first_off off.members plan_parts fault (plan_sound off.members v said) off.first

-- a text has one first fault
pub IsFaultOf-unique : (text : List ℕ) (a b : PlanFault) → IsFaultOf text a → IsFaultOf text b → a ≡ b
IsFaultOf-unique text a b off other =
    first_off_alone other.members plan_parts a b
    (subst (λ m. IsFirstFault m a) (IsTomlOf-unique text off.members other.members off.toml other.toml) off.first) other.first

-- What is answered for a text that is a document.
module _ (text : List ℕ) (ms : Members) (toml : IsTomlOf text ms) where
  pub answer_in_range : (result : Result Plan PlanFault) → IfOk result (IsPlanOf ms) → IfOk result IsPlan
  answer_in_range (Ok plan) said = plan_in_range ms plan said
  answer_in_range (Err fault) said = said

  pub answer_not_toml : (result : Result Plan PlanFault) → IfErr result (IsFirstCause ms) → result ≡ Err PlanText → IsNoToml text
  answer_not_toml (Ok plan) cause is = absurd (cc)
  answer_not_toml (Err fault) cause is =
      let same : fault ≡ PlanText = cc in
      elim (subst (IsFirstCause ms) same cause) [
        | inl memory ↦ absurd (cc)
        | inr first ↦ absurd (fault_not_text ms first)
      ]

  pub answer_first_fault : (result : Result Plan PlanFault) → IfErr result (IsFirstCause ms)
      → IfErr result (λ fault. fault ≢ PlanText → fault ≢ OutOfMemory → IsFaultOf text fault)
  answer_first_fault (Ok plan) cause = cause
  answer_first_fault (Err fault) (inl memory) = λ text no. absurd (no memory)
  answer_first_fault (Err fault) (inr first) = λ text no. record { members = ms; toml = toml; first = first }

  pub answer_found : (result : Result Plan PlanFault) → IfOk result (IsPlanOf ms) → IfErr result (IsFirstCause ms) → (plan : Plan) → IsPlanText text plan
      → (result ≡ Ok plan) ⊎ (result ≡ Err OutOfMemory)
  answer_found (Ok plan) said cause other is =
      inl (ap Ok (IsPlanText-unique text plan other (record { members = ms; toml = toml; said = said }) is))
  answer_found (Err fault) said (inl memory) other is = inr (ap Err memory)
  answer_found (Err fault) said (inr first) other is = absurd (no_fault text other fault is (record { members = ms; toml = toml; first = first }))

  pub answer_refused : (result : Result Plan PlanFault) → IfOk result (IsPlanOf ms) → IfErr result (IsFirstCause ms) → (fault : PlanFault)
      → IsFaultOf text fault → (result ≡ Err fault) ⊎ (result ≡ Err OutOfMemory)
  answer_refused (Ok plan) said cause fault off = absurd (no_fault text plan fault (record { members = ms; toml = toml; said = said }) off)
  answer_refused (Err other) said (inl memory) fault off = inr (ap Err memory)
  answer_refused (Err other) said (inr first) fault off =
      inl (ap Err (IsFaultOf-unique text other fault (record { members = ms; toml = toml; first = first }) off))
