-- A site file, `site.toml`: a TOML document whose keys say a site. The format is this project's own.
use Rattle.std.specs.Prelude.{◌≡◌, ◌≤◌, ℕ, ℤ, List, length}
use Rattle.rep_fields.specs.Digits.{numeral, FitsDigits}
use Rattle.rep_fields.specs.declared.employer.EmployerId.{EmployerId}
use Rattle.toml.specs.Data.{Members}
use Rattle.toml_fields.specs.Answering.{IsFirstOff}
use Rattle.toml_fields.specs.Table.{IsTomlOf, HasText, HasOr, HasOnly}
use Rattle.toml_fields.specs.Fields.{HasNumber, HasFixed, HasLatin, HasSome, HasCpf, HasOffset, HasId, kind_number}
use Rattle.rep_site.specs.Key.{key_text, site_key_texts, looked_at}
use Rattle.rep_site.specs.Site.{IsRegistration, greatest_nsr, most_restarts}
use Rattle.rep_site.specs.declared.key.SiteKey.{SiteKey}
use Rattle.rep_site.specs.declared.key.SiteKey.TheVariants.{EmployerKind, Employer, Cno, Name, Place, Responsible, Rep, DeveloperKind, Developer, Offset, LastNsr, Restarts, Unknown}
use Rattle.rep_site.specs.declared.site.Site.{Site}

-- 1 for a CNPJ, 2 for a CPF
abbrev pub HasKind : Members → List ℕ → ℕ → Type 0
HasKind = HasNumber 1 2

-- a CNO or CAEPF: up to 14 digits, and none for 0
pub record IsCnoText (cno : ℕ) (text : List ℕ) : Type 0 where
  pub within : length text ≤ 14
  pub fits : FitsDigits (length text) cno
  pub written : text ≡ numeral (length text) cno

abbrev pub HasCno : Members → List ℕ → ℕ → Type 0
HasCno members key cno = (text : List ℕ) × IsCnoText cno text × HasText members key text

abbrev pub HasRegistration : Members → List ℕ → List ℕ → Type 0
HasRegistration = HasFixed IsRegistration (λ number. number)

-- what each key says, in the order in which the keys are looked at: a key that has a default may be missing

-- an id and its kind
abbrev pub SaysEmployer : Members → EmployerId → Type 0
SaysEmployer members id =
    HasKind members (key_text EmployerKind) (kind_number id) × HasId members (key_text Employer) id

abbrev pub SaysCno : Members → ℕ → Type 0
SaysCno members cno = HasOr 0 HasCno members (key_text Cno) cno

abbrev pub SaysName : Members → List ℕ → Type 0
SaysName members name = HasSome 150 members (key_text Name) name

abbrev pub SaysPlace : Members → List ℕ → Type 0
SaysPlace members place = HasLatin 100 members (key_text Place) place

abbrev pub SaysResponsible : Members → ℕ → Type 0
SaysResponsible members cpf = HasCpf members (key_text Responsible) cpf

abbrev pub SaysRep : Members → List ℕ → Type 0
SaysRep members number = HasRegistration members (key_text Rep) number

abbrev pub SaysDeveloper : Members → EmployerId → Type 0
SaysDeveloper members id =
    HasKind members (key_text DeveloperKind) (kind_number id) × HasId members (key_text Developer) id

abbrev pub SaysOffset : Members → ℤ → Type 0
SaysOffset members offset = HasOffset members (key_text Offset) offset

abbrev pub SaysLastNsr : Members → ℕ → Type 0
SaysLastNsr members last = HasOr greatest_nsr (HasNumber 1 greatest_nsr) members (key_text LastNsr) last

abbrev pub SaysRestarts : Members → ℕ → Type 0
SaysRestarts members count = HasOr 0 (HasNumber 0 most_restarts) members (key_text Restarts) count

-- the members of the document say the site, and there are no others
pub record IsSiteOf (members : Members) (site : Site) : Type 0 where
  pub employer : SaysEmployer members site.employer
  pub cno : SaysCno members site.cno
  pub name : SaysName members site.name
  pub place : SaysPlace members site.place
  pub responsible : SaysResponsible members site.responsible
  pub rep : SaysRep members site.rep
  pub developer : SaysDeveloper members site.developer
  pub offset : SaysOffset members site.offset
  pub last_nsr : SaysLastNsr members site.last_nsr
  pub restarts : SaysRestarts members site.restarts
  pub known : HasOnly site_key_texts members

-- the text is a TOML document that says the site
pub record IsSiteText (text : List ℕ) (site : Site) : Type 0 where
  pub members : Members
  pub toml : IsTomlOf text members
  pub said : IsSiteOf members site

-- the key says something; an id is looked at with its kind. Of `Unknown`: each key is a known one
abbrev pub IsSound : Members → SiteKey → Type 0
IsSound members EmployerKind = (kind : ℕ) × HasKind members (key_text EmployerKind) kind
IsSound members Employer = (id : EmployerId) × SaysEmployer members id
IsSound members Cno = (cno : ℕ) × SaysCno members cno
IsSound members Name = (name : List ℕ) × SaysName members name
IsSound members Place = (place : List ℕ) × SaysPlace members place
IsSound members Responsible = (cpf : ℕ) × SaysResponsible members cpf
IsSound members Rep = (number : List ℕ) × SaysRep members number
IsSound members DeveloperKind = (kind : ℕ) × HasKind members (key_text DeveloperKind) kind
IsSound members Developer = (id : EmployerId) × SaysDeveloper members id
IsSound members Offset = (offset : ℤ) × SaysOffset members offset
IsSound members LastNsr = (last : ℕ) × SaysLastNsr members last
IsSound members Restarts = (count : ℕ) × SaysRestarts members count
IsSound members Unknown = HasOnly site_key_texts members

-- the first key that is off
abbrev pub IsFirstBadKey : Members → SiteKey → Type 0
IsFirstBadKey members key = IsFirstOff (IsSound members) looked_at key

-- the text is a TOML document, and this its first key that is off
pub record IsOffAt (text : List ℕ) (key : SiteKey) : Type 0 where
  pub members : Members
  pub toml : IsTomlOf text members
  pub first : IsFirstBadKey members key
