-- What stands at the keys of a TOML table. TOML is the language that the kit's `toml` reads (TOML 1.1).
use Rattle.std.specs.Prelude.{◌≡◌, ℕ, ◌⊎◌, ℤ, List, Some, None, IsUtf8, Contains}
use Rattle.toml.specs.Data.{Data, Items, Members, string, integer, array, table, get_member}
use Rattle.toml.specs.Parse.{parse_document}

-- the text is UTF-8, and a TOML document with these members
pub record IsTomlOf (text : List ℕ) (members : Members) : Type 0 where
  pub utf8 : IsUtf8 text
  pub parsed : parse_document text ≡ Some members

-- the text is no TOML document
abbrev pub IsNoToml : List ℕ → Type 0
IsNoToml text = (members : Members) → IsTomlOf text members → ⊥

-- nothing stands at the key
abbrev pub IsMissing : Members → List ℕ → Type 0
IsMissing members key = get_member key members ≡ None

-- the text, in UTF-8, stands at the key
abbrev pub HasText : Members → List ℕ → List ℕ → Type 0
HasText members key text = get_member key members ≡ Some (string text)

-- the integer stands at the key
abbrev pub HasInteger : Members → List ℕ → ℤ → Type 0
HasInteger members key number = get_member key members ≡ Some (integer number)

-- the array stands at the key
abbrev pub HasArray : Members → List ℕ → Items → Type 0
HasArray members key items = get_member key members ≡ Some (array items)

-- the table stands at the key
abbrev pub HasSubtable : Members → List ℕ → Members → Type 0
HasSubtable members key row = get_member key members ≡ Some (table row)

-- a key that may be missing, and then has the default
abbrev pub HasOr : {V : Type 0} → V → (Members → List ℕ → V → Type 0) → Members → List ℕ → V → Type 0
HasOr default Has members key value = (IsMissing members key × (value ≡ default)) ⊎ Has members key value

-- each key at which something stands is one of these
abbrev pub HasOnly : List (List ℕ) → Members → Type 0
HasOnly keys members = (key : List ℕ) (found : Data) → get_member key members ≡ Some found → Contains keys key
