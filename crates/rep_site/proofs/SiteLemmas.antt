-- Laws of sites and of the members that say them.
use Rattle.std.proofs.Common.{◌≡◌, ℕ, ◌≤◌, List, length, Result, Err, inl, inr, sym, ap, ◌∙◌, subst, arith, ◌∷◌, []}
use Rattle.rep_fields.specs.Digits.{numeral, FitsDigits}
use Rattle.rep_fields.specs.Moment.{IsOffset, offset_text}
use Rattle.rep_fields.specs.Identity.{IsCpf, cpf_text}
use Rattle.rep_fields.proofs.Ids.{FitsDigits-wider, cpf_text-injective}
use Rattle.rep_fields.proofs.Numerals.{numeral-injective}
use Rattle.rep_fields.proofs.StampTexts.{offset_text-injective}
use Rattle.toml.specs.Data.{Members}
use Rattle.toml_fields.specs.Table.{HasOr}
use Rattle.toml_fields.specs.Fields.{HasNumber, kind_number}
use Rattle.toml_fields.proofs.Found.{HasText-unique, HasFixed-unique, HasLatin-unique, HasId-unique, HasOr-unique, HasNumberOr-unique, IsTomlOf-unique}
use Rattle.toml_fields.proofs.FirstOff.{AreSound, first_off-sound, first_off-unique}
use Rattle.rep_site.specs.Key.{key_text, employing_keys, recording_keys, looked_at}
use Rattle.rep_site.specs.Site.{IsSite, IsRegistration, greatest_nsr, most_restarts}
use Rattle.rep_site.specs.Reading.{HasCno, IsSiteOf, IsSiteText, IsSound, IsOffAt, IsFirstBadKey}
use Rattle.rep_site.specs.Parts.{IsEmployingOf, IsRecordingOf}
use Rattle.rep_site.specs.declared.key.SiteKey.{SiteKey}
use Rattle.rep_site.specs.declared.key.SiteKey.TheVariants.{EmployerKind, Employer, Cno, Name, Place, Responsible, Rep, DeveloperKind, Developer, Offset, LastNsr, Restarts, Unknown}
use Rattle.rep_site.specs.declared.fault.SiteFault.{SiteFault}
use Rattle.rep_site.specs.declared.fault.SiteFault.TheVariants.{SiteField}
use Rattle.rep_site.specs.declared.site.Site.{Site}
use Rattle.rep_site.specs.declared.reading.Employing.{Employing}
use Rattle.rep_site.specs.declared.reading.Recording.{Recording}

-- the keys that say a part are sound
pub employing_sound : (ms : Members) (part : Employing) → IsEmployingOf ms part → AreSound (IsSound ms) employing_keys
employing_sound ms part is = (
  (kind_number part.employer, is.employer.0),
  (
    (part.employer, is.employer),
    (
      (part.cno, is.cno),
      (
        (part.name, is.name),
        ((part.place, is.place), ((part.responsible, is.responsible), tt)),
      ),
    ),
  ),
)

pub recording_sound : (ms : Members) (part : Recording) → IsRecordingOf ms part → AreSound (IsSound ms) recording_keys
recording_sound ms part is = (
  (part.rep, is.rep),
  (
    (kind_number part.developer, is.developer.0),
    (
      (part.developer, is.developer),
      ((part.offset, is.offset), ((part.last_nsr, is.last_nsr), ((part.restarts, is.restarts), tt))),
    ),
  ),
)

-- each key of members that say a site is sound
pub sound-said : (ms : Members) (site : Site) → IsSiteOf ms site → (key : SiteKey) → IsSound ms key
sound-said ms site is EmployerKind = (kind_number site.employer, is.employer.0)
sound-said ms site is Employer = (site.employer, is.employer)
sound-said ms site is Cno = (site.cno, is.cno)
sound-said ms site is Name = (site.name, is.name)
sound-said ms site is Place = (site.place, is.place)
sound-said ms site is Responsible = (site.responsible, is.responsible)
sound-said ms site is Rep = (site.rep, is.rep)
sound-said ms site is DeveloperKind = (kind_number site.developer, is.developer.0)
sound-said ms site is Developer = (site.developer, is.developer)
sound-said ms site is Offset = (site.offset, is.offset)
sound-said ms site is LastNsr = (site.last_nsr, is.last_nsr)
sound-said ms site is Restarts = (site.restarts, is.restarts)
sound-said ms site is Unknown = is.known

-- and members whose keys are all sound say a site
pub said-sound : (ms : Members) → ((key : SiteKey) → IsSound ms key) → (site : Site) × IsSiteOf ms site
said-sound ms sound = (
  record {
    employer = (sound Employer).0;
    cno = (sound Cno).0;
    name = (sound Name).0;
    place = (sound Place).0;
    responsible = (sound Responsible).0;
    rep = (sound Rep).0;
    developer = (sound Developer).0;
    offset = (sound Offset).0;
    last_nsr = (sound LastNsr).0;
    restarts = (sound Restarts).0;
  },
  record {
    employer = (sound Employer).1;
    cno = (sound Cno).1;
    name = (sound Name).1;
    place = (sound Place).1;
    responsible = (sound Responsible).1;
    rep = (sound Rep).1;
    developer = (sound Developer).1;
    offset = (sound Offset).1;
    last_nsr = (sound LastNsr).1;
    restarts = (sound Restarts).1;
    known = sound Unknown;
  },
)

all_sound : (ms : Members) (keys : List SiteKey) → ((key : SiteKey) → IsSound ms key) → AreSound (IsSound ms) keys
all_sound ms [] sound = tt
all_sound ms (key ∷ keys) sound = (sound key, all_sound ms keys sound)

HasCno-unique : (ms : Members) (key : List ℕ) (m n : ℕ) → HasCno ms key m → HasCno ms key n → m ≡ n
HasCno-unique ms key m n (text, is_m, has_m) (other, is_n, has_n) =
    let same : text ≡ other = HasText-unique ms key text other has_m has_n in
    let width : length text ≡ length other = ap length same in
    let fits : FitsDigits (length other) m = subst (λ (w : ℕ). FitsDigits w m) width is_m.fits in
    let written : other ≡ numeral (length other) m = sym same ∙ is_m.written ∙ ap (λ w. numeral w m) width in
    numeral-injective (length other) m n fits is_n.fits (sym written ∙ is_n.written)

-- members say one site
pub IsSiteOf-unique : (ms : Members) (s t : Site) → IsSiteOf ms s → IsSiteOf ms t → s ≡ t
IsSiteOf-unique ms s t is_s is_t =
    let employer : s.employer ≡ t.employer =
    HasId-unique ms (key_text EmployerKind) (key_text Employer) s.employer t.employer is_s.employer.0 is_s.employer.1 is_t.employer.0 is_t.employer.1 in
    let cno : s.cno ≡ t.cno =
    HasOr-unique 0 HasCno ms (key_text Cno) s.cno t.cno (HasCno-unique ms (key_text Cno))
    (λ x has missing. let same = sym missing ∙ has.2 in absurd (cc)) is_s.cno is_t.cno in
    let name : s.name ≡ t.name = HasLatin-unique 150 150 ms (key_text Name) s.name t.name is_s.name.latin is_t.name.latin in
    let place : s.place ≡ t.place = HasLatin-unique 100 100 ms (key_text Place) s.place t.place is_s.place is_t.place in
    let responsible : s.responsible ≡ t.responsible =
    HasFixed-unique IsCpf cpf_text ms (key_text Responsible) s.responsible t.responsible cpf_text-injective is_s.responsible is_t.responsible in
    let rep : s.rep ≡ t.rep =
    HasFixed-unique IsRegistration (λ number. number) ms (key_text Rep) s.rep t.rep (λ v w _ _ same. same) is_s.rep is_t.rep in
    let developer : s.developer ≡ t.developer =
    HasId-unique ms (key_text DeveloperKind) (key_text Developer) s.developer t.developer is_s.developer.0 is_s.developer.1 is_t.developer.0 is_t.developer.1 in
    let offset : s.offset ≡ t.offset =
    HasFixed-unique IsOffset offset_text ms (key_text Offset) s.offset t.offset offset_text-injective is_s.offset is_t.offset in
    let last_nsr : s.last_nsr ≡ t.last_nsr =
    HasNumberOr-unique greatest_nsr 1 greatest_nsr ms (key_text LastNsr) s.last_nsr t.last_nsr is_s.last_nsr is_t.last_nsr in
    let restarts : s.restarts ≡ t.restarts =
    HasNumberOr-unique 0 0 most_restarts ms (key_text Restarts) s.restarts t.restarts is_s.restarts is_t.restarts in
    λ i. record {
      employer = employer i;
      cno = cno i;
      name = name i;
      place = place i;
      responsible = responsible i;
      rep = rep i;
      developer = developer i;
      offset = offset i;
      last_nsr = last_nsr i;
      restarts = restarts i;
    }

-- a text says one site
pub IsSiteText-unique : (text : List ℕ) (s t : Site) → IsSiteText text s → IsSiteText text t → s ≡ t
IsSiteText-unique text s t is_s is_t =
    IsSiteOf-unique is_t.members s t
    (subst (λ m. IsSiteOf m s) (IsTomlOf-unique text is_s.members is_t.members is_s.toml is_t.toml) is_s.said) is_t.said

-- and no key of a text that says a site is off
pub no_key_off : (text : List ℕ) (site : Site) (key : SiteKey) → IsSiteText text site → IsOffAt text key → ⊥
no_key_off text site key is off =
    let same : IsSiteOf off.members site = subst (λ m. IsSiteOf m site) (IsTomlOf-unique text is.members off.members is.toml off.toml) is.said in
    first_off-sound (IsSound off.members) looked_at key (all_sound off.members looked_at (sound-said off.members site same)) off.first

-- a text has one first key that is off
pub IsOffAt-unique : (text : List ℕ) (key other : SiteKey) → IsOffAt text key → IsOffAt text other → key ≡ other
IsOffAt-unique text key other off other_off =
    first_off-unique (IsSound other_off.members) looked_at key other
    (subst (λ m. IsFirstBadKey m key) (IsTomlOf-unique text off.members other_off.members off.toml other_off.toml) off.first) other_off.first

abbrev pub refused : SiteFault → Result Site SiteFault
refused fault = Err fault

-- a refusal names one key
pub same_key_named : (a b : SiteKey) → refused (SiteField a) ≡ refused (SiteField b) → a ≡ b
same_key_named a b same = cc

cno_in_range : (ms : Members) (cno : ℕ) → HasOr 0 HasCno ms (key_text Cno) cno → FitsDigits 14 cno
cno_in_range ms cno (inl none) = omega arith
cno_in_range ms cno (inr (text, is, has)) = FitsDigits-wider (length text) 14 cno is.within is.fits

number_in_range : (default least most : ℕ) (ms : Members) (key : List ℕ) (n : ℕ) → least ≤ default → default ≤ most
    → HasOr default (HasNumber least most) ms key n → (least ≤ n) × (n ≤ most)
number_in_range default least most ms key n low high (inl none) = (omega arith, omega arith)
number_in_range default least most ms key n low high (inr there) = (there.above, there.below)

-- what the members say is in its ranges
pub site_in_range : (ms : Members) (site : Site) → IsSiteOf ms site → IsSite site
site_in_range ms site is =
    let last = number_in_range greatest_nsr 1 greatest_nsr ms (key_text LastNsr) site.last_nsr (omega arith) (omega arith) is.last_nsr in
    let count = number_in_range 0 0 most_restarts ms (key_text Restarts) site.restarts (omega arith) (omega arith) is.restarts in
    record {
      employer = is.employer.1.in_range;
      cno = cno_in_range ms site.cno is.cno;
      name = is.name.latin.in_range;
      named = is.name.some;
      place = is.place.in_range;
      responsible = is.responsible.in_range;
      rep = is.rep.in_range;
      developer = is.developer.1.in_range;
      offset = is.offset.in_range;
      some_nsr = last.0;
      last_nsr = last.1;
      restarts = count.1;
    }

abbrev pub refused_at : SiteKey → Result Site SiteFault
refused_at key = Err (SiteField key)
