-- Laws of the tables of a plan file: each says one value, is off in one place, and isn't off where it says a value.
use Rattle.std.proofs.Common.{◌≡◌, ℕ, ◌<◌, ◌≤◌, List, [], ◌∷◌, codes, length, get_or, take, All, Some, inl, inr, sym, ap, ◌∙◌, subst, arith}
use Rattle.std.specs.Prelude.{Any, AllPairs}
use Rattle.std.proofs.lemmas.Bool.{cases_order}
use Rattle.std.proofs.lemmas.List.{get_or-take, get_or_default, length-take-le, take_all}
use Rattle.toml.specs.Data.{Data, Members, table}
use Rattle.toml_fields.specs.Answering.{IsFirstOff}
use Rattle.toml_fields.specs.Table.{HasSubtable}
use Rattle.toml_fields.proofs.FirstOff.{first_off-sound, first_off-unique}
use Rattle.tr_plan.specs.Program.{HasProgram, IsProgramOff, IsProgramOf, IsProgramKeySound, program_looked_at}
use Rattle.tr_plan.specs.Schedule.{HasSchedules, AreSchedulesOff, IsScheduleOf, IsScheduleOff, IsScheduleKeySound, schedule_looked_at, schedule_number}
use Rattle.tr_plan.specs.Link.{HasLinks, AreLinksOff, IsLinkOf, IsLinkOff, IsLinkKeySound, link_looked_at, link_number, AreApart, DoOverlap}
use Rattle.tr_plan.specs.Disregard.{HasDisregards, AreDisregardsOff, IsDisregardOf, IsDisregardOff, IsDisregardKeySound, disregard_looked_at, disregard_number}
use Rattle.tr_plan.specs.Include.{HasIncludes, AreIncludesOff, IsIncludeOf, IsIncludeOff, IsIncludeKeySound, include_looked_at, include_number}
use Rattle.tr_plan.specs.Absence.{HasAbsences, AreAbsencesOff, IsAbsenceOf, IsAbsenceOff, IsAbsenceKeySound, absence_looked_at, absence_number}
use Rattle.tr_plan.specs.Plan.{HasKnownCode}
use Rattle.tr_plan.specs.Reading.{IsFirstUnknownCode, IsFirstOverlap}
use Rattle.tr_plan.specs.Rows.{IsRow}
use Rattle.tr_plan.specs.declared.absence.Absence.{Absence}
use Rattle.tr_plan.specs.declared.absence.AbsenceKey.{AbsenceKey}
use Rattle.tr_plan.specs.declared.absence.AbsenceKey.TheVariants as absence
use Rattle.tr_plan.specs.declared.disregard.Disregard.{Disregard}
use Rattle.tr_plan.specs.declared.disregard.DisregardKey.{DisregardKey}
use Rattle.tr_plan.specs.declared.disregard.DisregardKey.TheVariants as disregard
use Rattle.tr_plan.specs.declared.include.Include.{Include}
use Rattle.tr_plan.specs.declared.include.IncludeKey.{IncludeKey}
use Rattle.tr_plan.specs.declared.include.IncludeKey.TheVariants as include
use Rattle.tr_plan.specs.declared.link.Link.{Link}
use Rattle.tr_plan.specs.declared.link.LinkKey.{LinkKey}
use Rattle.tr_plan.specs.declared.link.LinkKey.TheVariants as link
use Rattle.tr_plan.specs.declared.program.Program.{Program}
use Rattle.tr_plan.specs.declared.program.ProgramKey.{ProgramKey}
use Rattle.tr_plan.specs.declared.schedule.Schedule.{Schedule}
use Rattle.tr_plan.specs.declared.schedule.ScheduleKey.{ScheduleKey}
use Rattle.tr_plan.specs.declared.schedule.ScheduleKey.TheVariants as schedule
use Rattle.tr_plan.proofs.RowLemmas.{HasTable-unique, no_table_off, IsTableOff-unique, no_key_off, IsRowOff-unique}
use Rattle.tr_plan.proofs.TableLemmas.{IsProgramOf-unique, program_sound, IsScheduleOf-unique, schedule_sound, IsLinkOf-unique, link_sound, IsDisregardOf-unique, disregard_sound, IsIncludeOf-unique, include_sound, IsAbsenceOf-unique, absence_sound}

-- the program
HasSubtable-unique : (ms : Members) (key : List ℕ) (row other : Members) → HasSubtable ms key row → HasSubtable ms key other → row ≡ other
HasSubtable-unique ms key row other has has_other = let same : Some (table row) ≡ Some (table other) = sym has ∙ has_other in cc

pub HasProgram-unique : (ms : Members) (v w : Program) → HasProgram ms v → HasProgram ms w → v ≡ w
HasProgram-unique ms v w (row, there, is) (other, other_there, is_other) =
    IsProgramOf-unique other v w (subst (λ r. IsProgramOf r v) (HasSubtable-unique ms (codes "program") row other there other_there) is) is_other

pub no_program_off : (ms : Members) (v : Program) (key : ProgramKey) → HasProgram ms v → IsProgramOff ms key → ⊥
no_program_off ms v key (row, there, is) (inl (other, other_there, off)) =
    first_off-sound (IsProgramKeySound other) program_looked_at key
    (program_sound other v (subst (λ r. IsProgramOf r v) (HasSubtable-unique ms (codes "program") row other there other_there) is)) off
no_program_off ms v key (row, there, is) (inr none) = none.0 row there

pub IsProgramOff-unique : (ms : Members) (a b : ProgramKey) → IsProgramOff ms a → IsProgramOff ms b → a ≡ b
IsProgramOff-unique ms a b (inl (row, there, off)) (inl (other, other_there, other_off)) =
    first_off-unique (IsProgramKeySound other) program_looked_at a b
    (subst (λ r. IsFirstOff (IsProgramKeySound r) program_looked_at a) (HasSubtable-unique ms (codes "program") row other there other_there) off) other_off
IsProgramOff-unique ms a b (inl (row, there, off)) (inr none) = absurd (none.0 row there)
IsProgramOff-unique ms a b (inr none) (inl (row, there, off)) = absurd (none.0 row there)
IsProgramOff-unique ms a b (inr none) (inr nothing) = none.1 ∙ sym nothing.1

-- the schedules
schedule_conflict : (earlier : List Schedule) (found : Data) (v : Schedule) (key : ScheduleKey) → IsRow (IsScheduleOf earlier) found v
    → IsScheduleOff earlier found key → ⊥
schedule_conflict earlier =
    no_key_off (IsScheduleOf earlier) (IsScheduleKeySound earlier) schedule_looked_at schedule.Unknown (schedule_sound earlier)

schedule_off_alone : (earlier : List Schedule) (found : Data) (key other : ScheduleKey) → IsScheduleOff earlier found key → IsScheduleOff earlier found other
    → key ≡ other
schedule_off_alone earlier = IsRowOff-unique (IsScheduleKeySound earlier) schedule_looked_at schedule.Unknown

pub HasSchedules-unique : (ms : Members) (vs ws : List Schedule) → HasSchedules ms vs → HasSchedules ms ws → vs ≡ ws
HasSchedules-unique ms =
    HasTable-unique IsScheduleOf IsScheduleOf-unique IsScheduleOff schedule_conflict schedule_off_alone schedule_number ms (codes "schedule")

pub no_schedules_off : (ms : Members) (vs : List Schedule) (place number : ℕ) → HasSchedules ms vs → AreSchedulesOff ms place number → ⊥
no_schedules_off ms =
    no_table_off IsScheduleOf IsScheduleOf-unique IsScheduleOff schedule_conflict schedule_off_alone schedule_number ms (codes "schedule")

pub AreSchedulesOff-unique : (ms : Members) (place other_place number other : ℕ) → AreSchedulesOff ms place number → AreSchedulesOff ms other_place other
    → (place ≡ other_place) × (number ≡ other)
AreSchedulesOff-unique ms =
    IsTableOff-unique IsScheduleOf IsScheduleOf-unique IsScheduleOff schedule_conflict schedule_off_alone schedule_number ms (codes "schedule")

-- the links
link_conflict : (earlier : List Link) (found : Data) (v : Link) (key : LinkKey) → IsRow (IsLinkOf earlier) found v → IsLinkOff earlier found key → ⊥
link_conflict earlier = no_key_off (IsLinkOf earlier) (IsLinkKeySound earlier) link_looked_at link.Unknown (link_sound earlier)

link_off_alone : (earlier : List Link) (found : Data) (key other : LinkKey) → IsLinkOff earlier found key → IsLinkOff earlier found other → key ≡ other
link_off_alone earlier = IsRowOff-unique (IsLinkKeySound earlier) link_looked_at link.Unknown

pub HasLinks-unique : (ms : Members) (vs ws : List Link) → HasLinks ms vs → HasLinks ms ws → vs ≡ ws
HasLinks-unique ms = HasTable-unique IsLinkOf IsLinkOf-unique IsLinkOff link_conflict link_off_alone link_number ms (codes "link")

pub no_links_off : (ms : Members) (vs : List Link) (place number : ℕ) → HasLinks ms vs → AreLinksOff ms place number → ⊥
no_links_off ms = no_table_off IsLinkOf IsLinkOf-unique IsLinkOff link_conflict link_off_alone link_number ms (codes "link")

pub AreLinksOff-unique : (ms : Members) (place other_place number other : ℕ) → AreLinksOff ms place number → AreLinksOff ms other_place other
    → (place ≡ other_place) × (number ≡ other)
AreLinksOff-unique ms = IsTableOff-unique IsLinkOf IsLinkOf-unique IsLinkOff link_conflict link_off_alone link_number ms (codes "link")

-- the disregards
disregard_conflict : (earlier : List Disregard) (found : Data) (v : Disregard) (key : DisregardKey) → IsRow (IsDisregardOf earlier) found v
    → IsDisregardOff earlier found key → ⊥
disregard_conflict earlier =
    no_key_off (IsDisregardOf earlier) (IsDisregardKeySound earlier) disregard_looked_at disregard.Unknown (disregard_sound earlier)

disregard_off_alone : (earlier : List Disregard) (found : Data) (key other : DisregardKey) → IsDisregardOff earlier found key
    → IsDisregardOff earlier found other → key ≡ other
disregard_off_alone earlier = IsRowOff-unique (IsDisregardKeySound earlier) disregard_looked_at disregard.Unknown

pub HasDisregards-unique : (ms : Members) (vs ws : List Disregard) → HasDisregards ms vs → HasDisregards ms ws → vs ≡ ws
HasDisregards-unique ms =
    HasTable-unique IsDisregardOf IsDisregardOf-unique IsDisregardOff disregard_conflict disregard_off_alone disregard_number ms (codes "disregard")

pub no_disregards_off : (ms : Members) (vs : List Disregard) (place number : ℕ) → HasDisregards ms vs → AreDisregardsOff ms place number → ⊥
no_disregards_off ms =
    no_table_off IsDisregardOf IsDisregardOf-unique IsDisregardOff disregard_conflict disregard_off_alone disregard_number ms (codes "disregard")

pub AreDisregardsOff-unique : (ms : Members) (place other_place number other : ℕ) → AreDisregardsOff ms place number → AreDisregardsOff ms other_place other
    → (place ≡ other_place) × (number ≡ other)
AreDisregardsOff-unique ms =
    IsTableOff-unique IsDisregardOf IsDisregardOf-unique IsDisregardOff disregard_conflict disregard_off_alone disregard_number ms (codes "disregard")

-- the marks and the absences, under links
module _ (links : List Link) where
  include_conflict : (earlier : List Include) (found : Data) (v : Include) (key : IncludeKey) → IsRow (IsIncludeOf links earlier) found v
      → IsIncludeOff links earlier found key → ⊥
  include_conflict earlier =
      no_key_off (IsIncludeOf links earlier) (IsIncludeKeySound links) include_looked_at include.Unknown (include_sound links earlier)

  include_off_alone : (earlier : List Include) (found : Data) (key other : IncludeKey) → IsIncludeOff links earlier found key
      → IsIncludeOff links earlier found other → key ≡ other
  include_off_alone earlier = IsRowOff-unique (IsIncludeKeySound links) include_looked_at include.Unknown

  pub HasIncludes-unique : (ms : Members) (vs ws : List Include) → HasIncludes links ms vs → HasIncludes links ms ws → vs ≡ ws
  HasIncludes-unique ms =
      HasTable-unique (IsIncludeOf links) (IsIncludeOf-unique links) (IsIncludeOff links) include_conflict include_off_alone include_number ms (codes "include")

  pub no_includes_off : (ms : Members) (vs : List Include) (place number : ℕ) → HasIncludes links ms vs → AreIncludesOff links ms place number → ⊥
  no_includes_off ms =
      no_table_off (IsIncludeOf links) (IsIncludeOf-unique links) (IsIncludeOff links) include_conflict include_off_alone include_number ms (codes "include")

  pub AreIncludesOff-unique : (ms : Members) (place other_place number other : ℕ) → AreIncludesOff links ms place number
      → AreIncludesOff links ms other_place other → (place ≡ other_place) × (number ≡ other)
  AreIncludesOff-unique ms =
      IsTableOff-unique (IsIncludeOf links) (IsIncludeOf-unique links) (IsIncludeOff links) include_conflict include_off_alone include_number ms (codes "include")

  absence_conflict : (earlier : List Absence) (found : Data) (v : Absence) (key : AbsenceKey) → IsRow (IsAbsenceOf links earlier) found v
      → IsAbsenceOff links earlier found key → ⊥
  absence_conflict earlier =
      no_key_off (IsAbsenceOf links earlier) (IsAbsenceKeySound links) absence_looked_at absence.Unknown (absence_sound links earlier)

  absence_off_alone : (earlier : List Absence) (found : Data) (key other : AbsenceKey) → IsAbsenceOff links earlier found key
      → IsAbsenceOff links earlier found other → key ≡ other
  absence_off_alone earlier = IsRowOff-unique (IsAbsenceKeySound links) absence_looked_at absence.Unknown

  pub HasAbsences-unique : (ms : Members) (vs ws : List Absence) → HasAbsences links ms vs → HasAbsences links ms ws → vs ≡ ws
  HasAbsences-unique ms =
      HasTable-unique (IsAbsenceOf links) (IsAbsenceOf-unique links) (IsAbsenceOff links) absence_conflict absence_off_alone absence_number ms (codes "absence")

  pub no_absences_off : (ms : Members) (vs : List Absence) (place number : ℕ) → HasAbsences links ms vs → AreAbsencesOff links ms place number → ⊥
  no_absences_off ms =
      no_table_off (IsAbsenceOf links) (IsAbsenceOf-unique links) (IsAbsenceOff links) absence_conflict absence_off_alone absence_number ms (codes "absence")

  pub AreAbsencesOff-unique : (ms : Members) (place other_place number other : ℕ) → AreAbsencesOff links ms place number
      → AreAbsencesOff links ms other_place other → (place ≡ other_place) × (number ≡ other)
  AreAbsencesOff-unique ms =
      IsTableOff-unique (IsAbsenceOf links) (IsAbsenceOf-unique links) (IsAbsenceOff links) absence_conflict absence_off_alone absence_number ms (codes "absence")

-- the codes of links
-- a fact that holds of each element in front holds at each place there
front_at : {X : Type 0} (P : X → Type 0) (xs : List X) (front at : ℕ) (d : X) → at < front → front < length xs → All P (take front xs) → P (get_or xs at d)
front_at P xs front at d before within all =
    subst P (get_or-take front xs at d before) (all at d (omega (arith, length-take-le front xs (omega arith))))

pub no_unknown_code : (schedules : List Schedule) (links : List Link) (place : ℕ) → All (HasKnownCode schedules) links
    → IsFirstUnknownCode schedules links place → ⊥
no_unknown_code schedules [] place known first = omega (arith, first.within)
no_unknown_code schedules (l ∷ links) place known first = first.unknown l (known first.at l first.within)

pub IsFirstUnknownCode-unique : (schedules : List Schedule) (links : List Link) (place other : ℕ) → IsFirstUnknownCode schedules links place
    → IsFirstUnknownCode schedules links other → place ≡ other
IsFirstUnknownCode-unique schedules [] place other first other_first = absurd (omega (arith, first.within))
IsFirstUnknownCode-unique schedules (l ∷ links) place other first other_first =
    elim (cases_order first.at other_first.at) [
      | inl same ↦ omega (arith, first.here, other_first.here)
      | inr order ↦ elim order [
        | inl less ↦
            absurd (first.unknown l (front_at (HasKnownCode schedules) (l ∷ links) other_first.at first.at l less other_first.within other_first.earlier))
        | inr more ↦
            absurd (other_first.unknown l (front_at (HasKnownCode schedules) (l ∷ links) first.at other_first.at l more first.within first.earlier))
      ]
    ]

-- the dates of links
-- among links that are apart none meets an earlier one
no_meeting : (links : List Link) (front at : ℕ) (d : Link) → at < front → front ≤ length links → AllPairs AreApart (take front links)
    → Any (λ earlier. DoOverlap earlier (get_or links at d)) (take at links) → ⊥
no_meeting links front at d before within apart (k, x, inside, is, met) =
    let short : length (take front links) ≡ front = length-take-le front links within in
    let shorter : length (take at links) ≡ at = length-take-le at links (omega arith) in
    let one : x ≡ get_or (take front links) k d =
    sym is ∙ get_or_default (take at links) k x d inside ∙ get_or-take at links k d (omega arith) ∙ sym (get_or-take front links k d (omega arith)) in
    apart k at d (omega arith) (omega arith)
    (subst (λ (e : Link). DoOverlap e (get_or (take front links) at d)) one
    (subst (λ (e : Link). DoOverlap x e) (sym (get_or-take front links at d before)) met))

pub no_overlap : (links : List Link) (cpf : ℕ) → AllPairs AreApart links → IsFirstOverlap links cpf → ⊥
no_overlap [] cpf apart first = omega (arith, first.within)
no_overlap (l ∷ links) cpf apart first =
    let all : List Link = l ∷ links in
    no_meeting all (length all) first.at l first.within (omega arith)
    (subst (AllPairs AreApart) (sym (take_all (length all) all (omega arith))) apart) (first.meets l)

pub IsFirstOverlap-unique : (links : List Link) (cpf other : ℕ) → IsFirstOverlap links cpf → IsFirstOverlap links other → cpf ≡ other
IsFirstOverlap-unique [] cpf other first other_first = absurd (omega (arith, first.within))
IsFirstOverlap-unique (l ∷ links) cpf other first other_first =
    let within = first.within in
    let other_within = other_first.within in
    elim (cases_order first.at other_first.at) [
      | inl same ↦ sym (first.of l) ∙ ap (λ n. (get_or (l ∷ links) n l).cpf) same ∙ other_first.of l
      | inr order ↦ elim order [
        | inl less ↦ absurd (no_meeting (l ∷ links) other_first.at first.at l less (omega arith) other_first.earlier (first.meets l))
        | inr more ↦ absurd (no_meeting (l ∷ links) first.at other_first.at l more (omega arith) first.earlier (other_first.meets l))
      ]
    ]
