-- The keys of a site file: this project's own.
use Rattle.std.specs.Prelude.{List, [], ◌∷◌, ◌++◌, ℕ, codes, map}
use Rattle.rep_site.specs.declared.key.SiteKey.{SiteKey}
use Rattle.rep_site.specs.declared.key.SiteKey.TheVariants.{EmployerKind, Employer, Cno, Name, Place, Responsible, Rep, DeveloperKind, Developer, Offset, LastNsr, Restarts, Unknown}

-- the key, and `?` for one that isn't known
abbrev pub key_text : SiteKey → List ℕ
key_text EmployerKind = codes "employer_kind"
key_text Employer = codes "employer"
key_text Cno = codes "cno"
key_text Name = codes "name"
key_text Place = codes "place"
key_text Responsible = codes "responsible"
key_text Rep = codes "rep"
key_text DeveloperKind = codes "developer_kind"
key_text Developer = codes "developer"
key_text Offset = codes "offset"
key_text LastNsr = codes "last_nsr"
key_text Restarts = codes "restarts"
key_text Unknown = codes "?"

-- the keys in the order in which they are looked at: those of the employer, and those of the recorder
abbrev pub employing_keys : List SiteKey
employing_keys = EmployerKind ∷ Employer ∷ Cno ∷ Name ∷ Place ∷ Responsible ∷ []

abbrev pub recording_keys : List SiteKey
recording_keys = Rep ∷ DeveloperKind ∷ Developer ∷ Offset ∷ LastNsr ∷ Restarts ∷ []

abbrev pub site_keys : List SiteKey
site_keys = employing_keys ++ recording_keys

abbrev pub site_key_texts : List (List ℕ)
site_key_texts = map key_text site_keys

-- an unknown key is looked for last
abbrev pub looked_at : List SiteKey
looked_at = site_keys ++ Unknown ∷ []
