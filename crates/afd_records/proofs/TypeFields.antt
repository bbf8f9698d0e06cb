-- The second field of a line says its type, and so does its layout.
use Rattle.std.proofs.Common.{◌≡◌, ℕ, ◌+◌, ◌<◌, List, [], ◌∷◌, length, slice_index, take, drop, Option, Some, None, ◌⊎◌, inl, inr, refl, sym, ap, ◌∙◌, subst, arith}
use Rattle.std.proofs.lemmas.Bool.Decides.{nat_tests}
use Rattle.std.proofs.lemmas.Bool.{cases_eq}
use Rattle.rep_fields.proofs.Layouts.{one_byte}
use Rattle.afd_records.specs.Fields.{Layout, FieldKind, TypeField, IsLaidOut, layout_of}

-- the digit of a field that says the type
abbrev pub digit_in : FieldKind → ℕ
digit_in (TypeField type) = 48 + type
digit_in _ = 0

-- the digit in a layout's second field; 0 where there is none
abbrev pub type_byte : Option Layout → ℕ
type_byte None = 0
type_byte (Some []) = 0
type_byte (Some (first ∷ [])) = 0
type_byte (Some (first ∷ second ∷ rest)) = digit_in second

-- a byte that has a layout is the digit in it
type_byte-layout_of : (byte : ℕ) → (type_byte (layout_of byte) ≡ byte) ⊎ (layout_of byte ≡ None)
type_byte-layout_of byte =
    elim (cases_eq byte 50) [
      | inl is ↦ inl (subst (λ (b : ℕ). type_byte (layout_of b) ≡ b) (sym is) refl)
      | inr not_2 ↦ elim (cases_eq byte 52) [
        | inl is ↦ inl (subst (λ (b : ℕ). type_byte (layout_of b) ≡ b) (sym is) refl)
        | inr not_4 ↦ elim (cases_eq byte 53) [
          | inl is ↦ inl (subst (λ (b : ℕ). type_byte (layout_of b) ≡ b) (sym is) refl)
          | inr not_5 ↦ elim (cases_eq byte 54) [
            | inl is ↦ inl (subst (λ (b : ℕ). type_byte (layout_of b) ≡ b) (sym is) refl)
            | inr not_6 ↦ elim (cases_eq byte 55) [
              | inl is ↦ inl (subst (λ (b : ℕ). type_byte (layout_of b) ≡ b) (sym is) refl)
              | inr not_7 ↦ inr (grind (arith, nat_tests))
            ]
          ]
        ]
      ]
    ]

-- the tenth byte of a line that is laid out
pub type_of_line : (layout : Layout) (line : List ℕ) → IsLaidOut layout line
    → slice_index line 9 ≡ type_byte (Some layout)
type_of_line layout line laid_out =
    elim (type_byte-layout_of (slice_index line 9)) [
      | inl is ↦ sym is ∙ ap type_byte laid_out.type
      | inr none ↦ absurd (let no : None ≡ Some layout = sym none ∙ laid_out.type in cc)
    ]

-- and its second field
pub type_field : (layout : Layout) (line : List ℕ) (byte : ℕ) → IsLaidOut layout line → 9 < length line
    → type_byte (Some layout) ≡ byte → take 1 (drop 9 line) ≡ byte ∷ []
type_field layout line byte laid_out long is =
    one_byte line 9 byte long (type_of_line layout line laid_out ∙ is)
