-- How long a clocking's payload is.
use Rattle.std.proofs.Common.{◌≡◌, ℕ, Bool, true, false, List, [], ◌∷◌, length, codes, refl, ap, ◌∙◌}
use Rattle.rep_fields.specs.Digits.{numeral}
use Rattle.rep_fields.specs.Moment.{Moment, moment_text}
use Rattle.rep_fields.proofs.Numerals.{length-numeral}
use Rattle.rep_fields.proofs.StampTexts.{moment_parts}
use Rattle.rep_fields.proofs.Layouts.{widths_of, total, length-concat}
use Rattle.afd_records.specs.Record.{payload_text, offline_text, IsClocking}
use Rattle.afd_records.specs.declared.record.Body.{Body}
use Rattle.afd_records.specs.declared.record.Body.TheVariants.{Employer, Adjust, Worker, Event, Clocking}

length-moment_text : (moment : Moment) → length (moment_text moment) ≡ 24
length-moment_text moment = (moment_parts (moment_text moment) moment refl).size

length-offline_text : (offline : Bool) → length (offline_text offline) ≡ 1
length-offline_text true = refl
length-offline_text false = refl

abbrev widths : List ℕ
widths = 9 ∷ 1 ∷ 24 ∷ 12 ∷ 24 ∷ 2 ∷ 1 ∷ []

seven : (a b c d e f g : List ℕ) → length a ≡ 9 → length b ≡ 1 → length c ≡ 24 → length d ≡ 12 → length e ≡ 24 → length f ≡ 2 → length g ≡ 1 → widths_of (a ∷ b ∷ c ∷ d ∷ e ∷ f ∷ g ∷ []) ≡ widths
seven a b c d e f g a_is b_is c_is d_is e_is f_is g_is = cc

pub length-payload_text : (nsr : ℕ) (body : Body) → IsClocking body → length (payload_text nsr body) ≡ 73
unfolding payload_text
length-payload_text nsr (Employer at resp id cno name place) clocks = absurd clocks
length-payload_text nsr (Adjust before after resp) clocks = absurd clocks
length-payload_text nsr (Worker at op cpf name extra resp) clocks = absurd clocks
length-payload_text nsr (Event at code) clocks = absurd clocks
length-payload_text nsr (Clocking marked cpf recorded collector offline) clocks =
    length-concat (numeral 9 nsr ∷ codes "7" ∷ moment_text marked ∷ numeral 12 cpf ∷ moment_text recorded ∷ numeral 2 collector ∷ offline_text offline ∷ [])
    ∙ ap total (seven (numeral 9 nsr) (codes "7") (moment_text marked) (numeral 12 cpf) (moment_text recorded) (numeral 2 collector) (offline_text offline)
    (length-numeral 9 nsr) refl (length-moment_text marked) (length-numeral 12 cpf) (length-moment_text recorded) (length-numeral 2 collector) (length-offline_text offline))
