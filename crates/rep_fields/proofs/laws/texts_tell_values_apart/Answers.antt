use Rattle.std.proofs.Common.{arith}
use Rattle.rep_fields.proofs.TimeTexts.{hours_text-injective}
use Rattle.rep_fields.proofs.StampTexts.{day_text-injective, offset_text-injective, moment_text-injective}
use Rattle.rep_fields.proofs.laws.texts_tell_values_apart.Goals as goal

pub returns : goal.returns
returns c = record {
  days = day_text-injective;
  times_of_day = λ m n in_m in_n. hours_text-injective m n (omega arith) (omega arith);
  offsets = offset_text-injective;
  stamps = moment_text-injective;
}
