use Rattle.rep_fields.proofs.Texts.{IsText-unique, IsFilled-padded}
use Rattle.rep_fields.proofs.field_laws.fields_have_one_text.Goals as goal

pub returns : goal.returns
returns c = record { alone = IsText-unique; padded = IsFilled-padded }
