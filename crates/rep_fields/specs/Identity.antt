-- Who is named: CPF and CNPJ with their check digits, by the rule of Receita Federal do Brasil, and the number of a
-- recorder. That a CPF of eleven equal digits is refused is this project's own.
use Rattle.std.specs.Prelude.{◌≡◌, ◌≢◌, ℕ, ◌+◌, ◌-◌, ◌*◌, ◌%◌, nat_lt, if◌then◌else◌, List, [], ◌∷◌, ◌++◌, length, take, replicate, All}
use Rattle.rep_fields.specs.Digits.{digits, numeral, FitsDigits}
use Rattle.rep_fields.specs.Latin.{IsLatin}

-- each digit times its weight, added up
abbrev pub weighted_sum : List ℕ → List ℕ → ℕ
weighted_sum [] ds = 0
weighted_sum (w ∷ ws) [] = 0
weighted_sum (w ∷ ws) (d ∷ ds) = w * d + weighted_sum ws ds

-- the digit that checks the digits before it: 0 for a remainder by 11 below 2, else 11 less the remainder
abbrev pub check_digit : List ℕ → List ℕ → ℕ
check_digit weights ds =
    let remainder = weighted_sum weights ds % 11 in if nat_lt remainder 2 then 0 else 11 - remainder

-- the last of the digits checks those before it
abbrev pub IsChecked : List ℕ → List ℕ → Type 0
IsChecked weights ds = ds ≡ take (length weights) ds ++ check_digit weights (take (length weights) ds) ∷ []

-- the weights of the first and of the second check digit
abbrev pub cpf_first_weights : List ℕ
cpf_first_weights = 10 ∷ 9 ∷ 8 ∷ 7 ∷ 6 ∷ 5 ∷ 4 ∷ 3 ∷ 2 ∷ []

abbrev pub cpf_second_weights : List ℕ
cpf_second_weights = 11 ∷ 10 ∷ 9 ∷ 8 ∷ 7 ∷ 6 ∷ 5 ∷ 4 ∷ 3 ∷ 2 ∷ []

abbrev pub cnpj_first_weights : List ℕ
cnpj_first_weights = 5 ∷ 4 ∷ 3 ∷ 2 ∷ 9 ∷ 8 ∷ 7 ∷ 6 ∷ 5 ∷ 4 ∷ 3 ∷ 2 ∷ []

abbrev pub cnpj_second_weights : List ℕ
cnpj_second_weights = 6 ∷ 5 ∷ 4 ∷ 3 ∷ 2 ∷ 9 ∷ 8 ∷ 7 ∷ 6 ∷ 5 ∷ 4 ∷ 3 ∷ 2 ∷ []

-- the digits of a CPF are checked, and not all eleven equal
pub record HasCpfChecks (ds : List ℕ) : Type 0 where
  pub first : IsChecked cpf_first_weights (take 10 ds)
  pub second : IsChecked cpf_second_weights ds
  pub mixed : (digit : ℕ) → ds ≢ replicate 11 digit

-- the digits of a CNPJ are checked
pub record HasCnpjChecks (ds : List ℕ) : Type 0 where
  pub first : IsChecked cnpj_first_weights (take 13 ds)
  pub second : IsChecked cnpj_second_weights ds

-- the number of a person's CPF: nine digits and two that check them, not all eleven equal
pub record IsCpf (number : ℕ) : Type 0 where
  pub size : FitsDigits 11 number
  pub first : IsChecked cpf_first_weights (take 10 (digits 11 number))
  pub second : IsChecked cpf_second_weights (digits 11 number)
  pub mixed : (digit : ℕ) → digits 11 number ≢ replicate 11 digit

-- the number of an organisation's CNPJ: twelve digits and two that check them
pub record IsCnpj (number : ℕ) : Type 0 where
  pub size : FitsDigits 14 number
  pub first : IsChecked cnpj_first_weights (take 13 (digits 14 number))
  pub second : IsChecked cnpj_second_weights (digits 14 number)

abbrev pub cpf_text : ℕ → List ℕ
cpf_text number = numeral 11 number

-- the code of `|`
abbrev pub bar : ℕ
bar = 124

-- a character of a recorder's registration
pub record IsRepByte (byte : ℕ) : Type 0 where
  pub latin : IsLatin byte
  pub no_bar : byte ≢ bar

-- the 17 characters of a recorder's registration: printable ones but `|`, taken as they stand
pub record IsRepNumber (text : List ℕ) : Type 0 where
  pub size : length text ≡ 17
  pub latin : All IsLatin text
  pub no_bar : All (λ byte. byte ≢ bar) text
