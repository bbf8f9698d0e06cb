-- Laws of the tables of a plan file: a row says one value, and each of its keys is sound then.
use Rattle.std.proofs.Common.{◌≡◌, ℕ, List, Option, Some, None, refl, sym, ap, ◌∙◌, subst}
use Rattle.rep_fields.specs.Moment.{IsOffset, offset_text}
use Rattle.rep_fields.specs.Identity.{IsCpf, cpf_text}
use Rattle.rep_fields.proofs.Ids.{cpf_text-injective}
use Rattle.rep_fields.proofs.StampTexts.{offset_text-injective}
use Rattle.toml.specs.Data.{Members}
use Rattle.toml_fields.specs.Table.{HasOr, IsMissing}
use Rattle.toml_fields.specs.Fields.{kind_number}
use Rattle.toml_fields.proofs.Found.{HasText-unique, HasNumber-unique, HasFixed-unique, HasId-unique, HasOr-unique, HasNumberOr-unique}
use Rattle.toml_fields.proofs.FirstOff.{AreSound}
use Rattle.tr_plan.specs.Program.{IsProgramOf, IsProgramKeySound, program_key_text, software_keys, recorder_keys, program_looked_at}
use Rattle.tr_plan.specs.Schedule.{IsScheduleOf, IsScheduleKeySound, schedule_key_text, schedule_looked_at}
use Rattle.tr_plan.specs.Link.{IsLinkOf, IsLinkKeySound, link_key_text, person_keys, terms_keys, link_looked_at}
use Rattle.tr_plan.specs.Disregard.{IsDisregardOf, IsDisregardKeySound, disregard_key_text, disregard_looked_at}
use Rattle.tr_plan.specs.Include.{IsIncludeOf, IsIncludeKeySound, HasSource, include_key_text, include_looked_at, source_included}
use Rattle.tr_plan.specs.Absence.{IsAbsenceOf, IsAbsenceKeySound, SaysMinutes, SaysMovement, absence_key_text, absence_looked_at, most_minutes}
use Rattle.tr_plan.specs.ProgramParts.{IsSoftwareOf, IsRecorderOf}
use Rattle.tr_plan.specs.LinkParts.{IsPersonOf, AreTermsOf}
use Rattle.tr_plan.specs.declared.absence.Absence.{Absence}
use Rattle.tr_plan.specs.declared.absence.AbsenceKey.TheVariants as absence
use Rattle.tr_plan.specs.declared.disregard.Disregard.{Disregard}
use Rattle.tr_plan.specs.declared.disregard.DisregardKey.TheVariants as disregard
use Rattle.tr_plan.specs.declared.include.Include.{Include}
use Rattle.tr_plan.specs.declared.include.IncludeKey.TheVariants as include
use Rattle.tr_plan.specs.declared.link.Link.{Link}
use Rattle.tr_plan.specs.declared.link.Person.{Person}
use Rattle.tr_plan.specs.declared.link.Terms.{Terms}
use Rattle.tr_plan.specs.declared.link.LinkKey.TheVariants as link
use Rattle.tr_plan.specs.declared.program.Program.{Program}
use Rattle.tr_plan.specs.declared.program.Software.{Software}
use Rattle.tr_plan.specs.declared.program.Recorder.{Recorder}
use Rattle.tr_plan.specs.declared.program.ProgramKey.TheVariants as program
use Rattle.tr_plan.specs.declared.schedule.Schedule.{Schedule}
use Rattle.tr_plan.specs.declared.schedule.ScheduleKey.TheVariants as schedule
use Rattle.tr_plan.proofs.ValueLemmas.{HasPlain-unique, HasDay-unique, HasStamp-unique, HasTimes-unique, PlainOr-unique, DigitsOr-unique, DayOr-unique, TimeOr-unique, IntegerOr-unique, number_there}

pub IsProgramOf-unique : (row : Members) (v w : Program) → IsProgramOf row v → IsProgramOf row w → v ≡ w
IsProgramOf-unique row v w is_v is_w =
    let name : v.name ≡ w.name = HasPlain-unique 1 150 row (program_key_text program.Name) v.name w.name is_v.name is_w.name in
    let version : v.version ≡ w.version = HasPlain-unique 1 8 row (program_key_text program.Version) v.version w.version is_v.version is_w.version in
    let developer : v.developer ≡ w.developer =
    HasId-unique row (program_key_text program.DeveloperKind) (program_key_text program.Developer) v.developer w.developer is_v.developer.0 is_v.developer.1 is_w.developer.0 is_w.developer.1 in
    let developer_name : v.developer_name ≡ w.developer_name =
    HasPlain-unique 1 150 row (program_key_text program.DeveloperName) v.developer_name w.developer_name is_v.developer_name is_w.developer_name in
    let email : v.email ≡ w.email = HasPlain-unique 1 50 row (program_key_text program.Email) v.email w.email is_v.email is_w.email in
    let offset : v.offset ≡ w.offset =
    HasFixed-unique IsOffset offset_text row (program_key_text program.Offset) v.offset w.offset offset_text-injective is_v.offset is_w.offset in
    let rep_kind : v.rep_kind ≡ w.rep_kind = HasNumberOr-unique 3 1 3 row (program_key_text program.RepKind) v.rep_kind w.rep_kind is_v.rep_kind is_w.rep_kind in
    let caepf : v.caepf ≡ w.caepf = DigitsOr-unique row (program_key_text program.Caepf) v.caepf w.caepf is_v.caepf is_w.caepf in
    let cno : v.cno ≡ w.cno = DigitsOr-unique row (program_key_text program.Cno) v.cno w.cno is_v.cno is_w.cno in
    λ i. record {
      name = name i;
      version = version i;
      developer = developer i;
      developer_name = developer_name i;
      email = email i;
      offset = offset i;
      rep_kind = rep_kind i;
      caepf = caepf i;
      cno = cno i;
    }

pub software_sound : (row : Members) (part : Software) → IsSoftwareOf row part → AreSound (IsProgramKeySound row) software_keys
software_sound row part is = (
  (part.name, is.name),
  (
    (part.version, is.version),
    (
      (kind_number part.developer, is.developer.0),
      (
        (part.developer, is.developer),
        ((part.developer_name, is.developer_name), ((part.email, is.email), tt)),
      ),
    ),
  ),
)

pub recorder_sound : (row : Members) (part : Recorder) → IsRecorderOf row part → AreSound (IsProgramKeySound row) recorder_keys
recorder_sound row part is =
    ((part.offset, is.offset), ((part.rep_kind, is.rep_kind), ((part.caepf, is.caepf), ((part.cno, is.cno), tt))))

pub program_sound : (row : Members) (v : Program) → IsProgramOf row v → AreSound (IsProgramKeySound row) program_looked_at
program_sound row v is = (
  (v.name, is.name),
  (
    (v.version, is.version),
    (
      (kind_number v.developer, is.developer.0),
      (
        (v.developer, is.developer),
        (
          (v.developer_name, is.developer_name),
          (
            (v.email, is.email),
            (
              (v.offset, is.offset),
              (
                (v.rep_kind, is.rep_kind),
                ((v.caepf, is.caepf), ((v.cno, is.cno), (is.known, tt))),
              ),
            ),
          ),
        ),
      ),
    ),
  ),
)

pub IsScheduleOf-unique : (earlier : List Schedule) (row : Members) (v w : Schedule) → IsScheduleOf earlier row v → IsScheduleOf earlier row w → v ≡ w
IsScheduleOf-unique earlier row v w is_v is_w =
    let code : v.code ≡ w.code = HasPlain-unique 1 30 row (schedule_key_text schedule.Code) v.code w.code is_v.code.0 is_w.code.0 in
    let minutes : v.minutes ≡ w.minutes =
    HasNumber-unique 1 1440 1 1440 row (schedule_key_text schedule.Minutes) v.minutes w.minutes is_v.minutes is_w.minutes in
    let times : v.times ≡ w.times = HasTimes-unique row (schedule_key_text schedule.Times) v.times w.times is_v.times is_w.times in
    λ i. record { code = code i; minutes = minutes i; times = times i }

pub schedule_sound : (earlier : List Schedule) (row : Members) (v : Schedule) → IsScheduleOf earlier row v
    → AreSound (IsScheduleKeySound earlier row) schedule_looked_at
schedule_sound earlier row v is = ((v.code, is.code), ((v.minutes, is.minutes), ((v.times, is.times), (is.known, tt))))

pub IsLinkOf-unique : (earlier : List Link) (row : Members) (v w : Link) → IsLinkOf earlier row v → IsLinkOf earlier row w → v ≡ w
IsLinkOf-unique earlier row v w is_v is_w =
    let id : v.id ≡ w.id = HasNumber-unique 1 _ 1 _ row (link_key_text link.Id) v.id w.id is_v.id.0 is_w.id.0 in
    let cpf : v.cpf ≡ w.cpf = HasFixed-unique IsCpf cpf_text row (link_key_text link.CpfKey) v.cpf w.cpf cpf_text-injective is_v.cpf is_w.cpf in
    let name : v.name ≡ w.name = HasPlain-unique 1 150 row (link_key_text link.Name) v.name w.name is_v.name is_w.name in
    let schedule : v.schedule ≡ w.schedule = HasPlain-unique 1 30 row (link_key_text link.Schedule) v.schedule w.schedule is_v.schedule is_w.schedule in
    let since : v.since ≡ w.since = HasDay-unique row (link_key_text link.Since) v.since w.since is_v.since is_w.since in
    let until : v.until ≡ w.until = DayOr-unique _ row (link_key_text link.Until) v.until w.until is_v.until.0 is_w.until.0 in
    let turn : v.turn ≡ w.turn = TimeOr-unique row (link_key_text link.Turn) v.turn w.turn is_v.turn is_w.turn in
    let esocial : v.esocial ≡ w.esocial = PlainOr-unique 30 row (link_key_text link.Esocial) v.esocial w.esocial is_v.esocial is_w.esocial in
    let opening : v.opening ≡ w.opening = IntegerOr-unique row (link_key_text link.Opening) v.opening w.opening is_v.opening is_w.opening in
    λ i. record {
      id = id i;
      cpf = cpf i;
      name = name i;
      schedule = schedule i;
      since = since i;
      until = until i;
      turn = turn i;
      esocial = esocial i;
      opening = opening i;
    }

pub person_sound : (earlier : List Link) (row : Members) (part : Person) → IsPersonOf earlier row part
    → AreSound (IsLinkKeySound earlier row) person_keys
person_sound earlier row part is =
    ((part.id, is.id), ((part.cpf, is.cpf), ((part.name, is.name), ((part.schedule, is.schedule), tt))))

pub terms_sound : (earlier : List Link) (row : Members) (part : Terms) → AreTermsOf row part
    → AreSound (IsLinkKeySound earlier row) terms_keys
terms_sound earlier row part is = (
  (part.since, is.since),
  (
    (part.since, part.until, is.since, is.until),
    (
      (part.turn, is.turn),
      (
        (part.esocial, is.esocial),
        ((part.opening, is.opening), tt),
      ),
    ),
  ),
)

pub link_sound : (earlier : List Link) (row : Members) (v : Link) → IsLinkOf earlier row v → AreSound (IsLinkKeySound earlier row) link_looked_at
link_sound earlier row v is = (
  (v.id, is.id),
  (
    (v.cpf, is.cpf),
    (
      (v.name, is.name),
      (
        (v.schedule, is.schedule),
        (
          (v.since, is.since),
          ((v.since, v.until, is.since, is.until), ((v.turn, is.turn), ((v.esocial, is.esocial), ((v.opening, is.opening), (is.known, tt))))),
        ),
      ),
    ),
  ),
)

pub IsDisregardOf-unique : (earlier : List Disregard) (row : Members) (v w : Disregard) → IsDisregardOf earlier row v → IsDisregardOf earlier row w → v ≡ w
IsDisregardOf-unique earlier row v w is_v is_w =
    let nsr : v.nsr ≡ w.nsr = HasNumber-unique 1 _ 1 _ row (disregard_key_text disregard.Nsr) v.nsr w.nsr is_v.nsr.0 is_w.nsr.0 in
    let reason : v.reason ≡ w.reason = HasPlain-unique 1 150 row (disregard_key_text disregard.Reason) v.reason w.reason is_v.reason is_w.reason in
    λ i. record { nsr = nsr i; reason = reason i }

pub disregard_sound : (earlier : List Disregard) (row : Members) (v : Disregard) → IsDisregardOf earlier row v
    → AreSound (IsDisregardKeySound earlier row) disregard_looked_at
disregard_sound earlier row v is = ((v.nsr, is.nsr), ((v.reason, is.reason), (is.known, tt)))

HasSource-unique : (row : Members) (key : List ℕ) (a b : ℕ) → HasSource row key a → HasSource row key b → a ≡ b
HasSource-unique row key a b has_a has_b = let same = HasText-unique row key _ _ has_a.1 has_b.1 in cc

source_there : (row : Members) (key : List ℕ) (a : ℕ) → HasSource row key a → IsMissing row key → ⊥
source_there row key a has missing = let same = sym missing ∙ has.1 in absurd (cc)

pub SaysSource-unique : (row : Members) (key : List ℕ) (a b : ℕ) → HasOr source_included HasSource row key a → HasOr source_included HasSource row key b → a ≡ b
SaysSource-unique row key a b = HasOr-unique source_included HasSource row key a b (HasSource-unique row key) (source_there row key)

pub IsIncludeOf-unique : (links : List Link) (earlier : List Include) (row : Members) (v w : Include) → IsIncludeOf links earlier row v
    → IsIncludeOf links earlier row w → v ≡ w
IsIncludeOf-unique links earlier row v w is_v is_w =
    let id : v.link ≡ w.link = HasNumber-unique 1 _ 1 _ row (include_key_text include.LinkKey) v.link w.link is_v.link.0 is_w.link.0 in
    let at : v.at ≡ w.at = HasStamp-unique row (include_key_text include.At) v.at w.at is_v.at.0 is_w.at.0 in
    let source : v.source ≡ w.source = SaysSource-unique row (include_key_text include.Source) v.source w.source is_v.source is_w.source in
    let reason : v.reason ≡ w.reason = PlainOr-unique 150 row (include_key_text include.Reason) v.reason w.reason is_v.reason.0 is_w.reason.0 in
    λ i. record { link = id i; at = at i; source = source i; reason = reason i }

pub include_sound : (links : List Link) (earlier : List Include) (row : Members) (v : Include) → IsIncludeOf links earlier row v
    → AreSound (IsIncludeKeySound links row) include_looked_at
include_sound links earlier row v is =
    ((v.link, is.link), ((v.link, v.at, is.link, is.at), ((v.source, is.source), ((v.source, v.reason, is.source, is.reason), (is.known, tt)))))

-- the marks before a mark don't matter
pub IsIncludeOf-after : (links : List Link) (earlier others : List Include) (row : Members) (v : Include) → IsIncludeOf links earlier row v
    → IsIncludeOf links others row v
IsIncludeOf-after links earlier others row v is = record { link = is.link; at = is.at; source = is.source; reason = is.reason; known = is.known }

pub SaysMinutes-unique : (row : Members) (kind : ℕ) (a b : Option ℕ) → SaysMinutes row kind a → SaysMinutes row kind b → a ≡ b
SaysMinutes-unique row kind (Some m) (Some n) has_m has_n =
    ap Some (HasNumber-unique 0 most_minutes 0 most_minutes row (absence_key_text absence.Minutes) m n has_m has_n)
SaysMinutes-unique row kind (Some m) None has_m none = absurd (number_there 0 most_minutes row (absence_key_text absence.Minutes) m has_m none.0)
SaysMinutes-unique row kind None (Some n) none has_n = absurd (number_there 0 most_minutes row (absence_key_text absence.Minutes) n has_n none.0)
SaysMinutes-unique row kind None None none nothing = refl

pub SaysMovement-unique : (row : Members) (kind : ℕ) (a b : Option ℕ) → SaysMovement row kind a → SaysMovement row kind b → a ≡ b
SaysMovement-unique row kind (Some m) (Some n) has_m has_n =
    ap Some (HasNumber-unique 1 2 1 2 row (absence_key_text absence.Movement) m n has_m.0 has_n.0)
SaysMovement-unique row kind (Some m) None has_m none = absurd (none.1 has_m.1)
SaysMovement-unique row kind None (Some n) none has_n = absurd (none.1 has_n.1)
SaysMovement-unique row kind None None none nothing = refl

pub IsAbsenceOf-unique : (links : List Link) (earlier : List Absence) (row : Members) (v w : Absence) → IsAbsenceOf links earlier row v
    → IsAbsenceOf links earlier row w → v ≡ w
IsAbsenceOf-unique links earlier row v w is_v is_w =
    let id : v.link ≡ w.link = HasNumber-unique 1 _ 1 _ row (absence_key_text absence.LinkKey) v.link w.link is_v.link.0 is_w.link.0 in
    let kind : v.kind ≡ w.kind = HasNumber-unique 1 4 1 4 row (absence_key_text absence.Kind) v.kind w.kind is_v.kind is_w.kind in
    let date : v.date ≡ w.date = HasDay-unique row (absence_key_text absence.Date) v.date w.date is_v.date is_w.date in
    let minutes : v.minutes ≡ w.minutes =
    SaysMinutes-unique row w.kind v.minutes w.minutes (subst (λ (k : ℕ). SaysMinutes row k v.minutes) kind is_v.minutes) is_w.minutes in
    let movement : v.movement ≡ w.movement =
    SaysMovement-unique row w.kind v.movement w.movement (subst (λ (k : ℕ). SaysMovement row k v.movement) kind is_v.movement) is_w.movement in
    λ i. record { link = id i; kind = kind i; date = date i; minutes = minutes i; movement = movement i }

pub absence_sound : (links : List Link) (earlier : List Absence) (row : Members) (v : Absence) → IsAbsenceOf links earlier row v
    → AreSound (IsAbsenceKeySound links row) absence_looked_at
absence_sound links earlier row v is = (
  (v.link, is.link),
  (
    (v.kind, is.kind),
    (
      (v.date, is.date),
      (
        (v.kind, v.minutes, is.kind, is.minutes),
        ((v.kind, v.movement, is.kind, is.movement), (is.known, tt)),
      ),
    ),
  ),
)

-- the absences before an absence don't matter
pub IsAbsenceOf-after : (links : List Link) (earlier others : List Absence) (row : Members) (v : Absence) → IsAbsenceOf links earlier row v
    → IsAbsenceOf links others row v
IsAbsenceOf-after links earlier others row v is = record {
  link = is.link;
  kind = is.kind;
  date = is.date;
  minutes = is.minutes;
  movement = is.movement;
  known = is.known;
}
