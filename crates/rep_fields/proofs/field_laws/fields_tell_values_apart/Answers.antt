use Rattle.rep_fields.proofs.Decimals.{decimal-injective}
use Rattle.rep_fields.proofs.Ids.{cpf_text-injective, cnpj_text-injective, employer_field-injective}
use Rattle.rep_fields.proofs.Numerals.{numeral-injective}
use Rattle.rep_fields.proofs.Texts.{padded-injective}
use Rattle.rep_fields.proofs.field_laws.fields_tell_values_apart.Goals as goal

pub returns : goal.returns
returns c = record {
  numbers = numeral-injective;
  decimals = decimal-injective;
  people = cpf_text-injective;
  organisations = cnpj_text-injective;
  employers = employer_field-injective;
  texts = padded-injective;
}
