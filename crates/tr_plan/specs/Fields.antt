-- The grammars of the values in a plan file: this project's own. Its texts go into an AEJ, whose fields are separated by
-- bars (Portaria MTP 671/2021, annex VI), so they hold none.
use Rattle.std.specs.Prelude.{◌≢◌, ℕ, ◌≤◌, List, length, All}
use Rattle.rep_fields.specs.Digits.{IsDigitByte}
use Rattle.rep_fields.specs.Latin.{IsText}
use Rattle.rep_fields.specs.Calendar.{IsDay, day_text}
use Rattle.rep_fields.specs.Moment.{Moment, IsMoment, moment_text, IsMinuteOfDay, hours_text}
use Rattle.rep_fields.specs.Identity.{bar}
use Rattle.toml.specs.Data.{Members}
use Rattle.toml_fields.specs.Fields.{HasFixed, HasLatin}

-- a text of the least to the most characters, without a bar
pub record IsPlain (least most : ℕ) (text : List ℕ) : Type 0 where
  pub in_range : IsText most text
  pub long : least ≤ length text
  pub no_bar : All (λ byte. byte ≢ bar) text

-- such a text stands at the key
pub record HasPlain (least most : ℕ) (members : Members) (key text : List ℕ) : Type 0 where
  pub latin : HasLatin most members key text
  pub long : least ≤ length text
  pub no_bar : All (λ byte. byte ≢ bar) text

-- a CNO or CAEPF as a text: up to 14 digits
pub record IsDigits (text : List ℕ) : Type 0 where
  pub in_range : IsText 14 text
  pub digits : All IsDigitByte text

pub record HasDigits (members : Members) (key text : List ℕ) : Type 0 where
  pub latin : HasLatin 14 members key text
  pub digits : All IsDigitByte text

-- a day, a time of day and a stamp, as they stand
abbrev pub HasDay : Members → List ℕ → ℕ → Type 0
HasDay = HasFixed IsDay day_text

abbrev pub HasTime : Members → List ℕ → ℕ → Type 0
HasTime = HasFixed IsMinuteOfDay hours_text

abbrev pub HasStamp : Members → List ℕ → Moment → Type 0
HasStamp = HasFixed IsMoment moment_text
