-- How contents begin.
use Rattle.std.proofs.Common.{◌≡◌, inl, inr, ℕ, ◌<◌, ◌≤◌, List, [], ◌∷◌, ◌++◌, length, take, drop, get_or, Some, None, Option, Err, refl, sym, ap, ◌∙◌, subst, arith, append_assoc, length-take, take-append-drop}
use Rattle.std.specs.Prelude.{IfSome}
use Rattle.std.proofs.lemmas.List.{drop_more, take-take}
use Rattle.std.proofs.lemmas.Bool.{cases_lt}
use Rattle.rep_journal.specs.Format.{magic, open_gate, IsForeign, IsPresent}
use Rattle.rep_journal.specs.Outcome.{Refuses}
use Rattle.rep_journal.specs.declared.error.WhyNot.TheVariants.{Present}
use Rattle.rep_journal.proofs.UniqueLemmas.{same_head, behind_magic}
use Rattle.rep_journal.specs.Fields.{IsLongBlank}
use Rattle.rep_journal.specs.Head.{IsOpen, IsHead}
use Rattle.rep_journal.specs.declared.head.Head.{Head}
use Rattle.rep_journal.specs.declared.head.Head.TheVariants.{Short, Foreign, Closed, Open}
use Rattle.rep_journal.proofs.KindLemmas.{front_is, journal_magic}

pub magic_is : magic ≡ 82 ∷ 69 ∷ 80 ∷ 45 ∷ 80 ∷ 32 ∷ 74 ∷ 79 ∷ 85 ∷ 82 ∷ 78 ∷ 65 ∷ 76 ∷ 32 ∷ 49 ∷ 10 ∷ []
unfolding magic
magic_is = refl

-- with the magic: the gate behind it
with_gate : (bytes : List ℕ) → 17 ≤ length bytes → take 16 bytes ≡ magic → bytes ≡ magic ++ get_or bytes 16 0 ∷ drop 17 bytes
with_gate bytes long is =
    sym (take-append-drop 16 bytes) ∙ ap (λ (l : List ℕ). l ++ drop 16 bytes) is ∙ ap (λ (l : List ℕ). magic ++ l) (drop_more bytes 16 0 (omega arith))

pub head_foreign : (bytes : List ℕ) → 17 < length bytes → (take 16 bytes ≡ magic → ⊥) → IsForeign bytes
head_foreign bytes long other = record {
  not_blank = λ blank. elim blank [ inl short ↦ omega arith | inr j ↦ other (front_is bytes (journal_magic bytes [] j)) ];
  no_magic = λ has. other (front_is bytes has);
}

pub head_open : (bytes : List ℕ) → 17 < length bytes → take 16 bytes ≡ magic → get_or bytes 16 0 ≡ open_gate → IsOpen bytes
head_open bytes long is gate = record {
  more = long;
  rest = drop 17 bytes;
  text = with_gate bytes (omega arith) is ∙ ap (λ (n : ℕ). magic ++ n ∷ drop 17 bytes) gate;
}

pub head_closed : (bytes : List ℕ) → 17 < length bytes → take 16 bytes ≡ magic → (get_or bytes 16 0 ≡ open_gate → ⊥) → IsLongBlank bytes
head_closed bytes long is shut = record {
  long = long;
  none = record {
    well_formed = tt;
    gate = get_or bytes 16 0;
    closed = shut;
    rest = drop 17 bytes;
    text = with_gate bytes (omega arith) is ∙ sym (append_assoc magic [] (get_or bytes 16 0 ∷ drop 17 bytes));
  };
}

-- The first 18 bytes tell how contents begin.
module _ (bytes : List ℕ) where
  more : (p rest : List ℕ) → take 18 bytes ≡ p ++ rest → bytes ≡ p ++ (rest ++ drop 18 bytes)
  more p rest e = sym (take-append-drop 18 bytes) ∙ ap (λ (l : List ℕ). l ++ drop 18 bytes) e ∙ append_assoc p rest (drop 18 bytes)

  foreign_of : IsForeign (take 18 bytes) → IsForeign bytes
  foreign_of f = elim (cases_lt 17 (length (take 18 bytes))) [
    | inr short ↦ absurd (f.not_blank (inl short))
    | inl long ↦ head_foreign bytes (omega (arith, length-take 18 bytes)) (λ is.
        f.no_magic (drop 16 (take 18 bytes), sym (take-append-drop 16 (take 18 bytes)) ∙ ap (λ (l : List ℕ). l ++ drop 16 (take 18 bytes)) (take-take 16 18 bytes (omega arith) ∙ is)))
  ]

  pub head_of : (head : Head) → IsHead (take 18 bytes) head → IsHead bytes head
  head_of Short h = omega (arith, length-take 18 bytes)
  head_of Foreign h = foreign_of h
  head_of Closed h = record {
    long = (let long = h.long in omega (arith, length-take 18 bytes));
    none = record {
      well_formed = tt;
      gate = h.none.gate;
      closed = h.none.closed;
      rest = h.none.rest ++ drop 18 bytes;
      text = more (magic ++ []) (h.none.gate ∷ h.none.rest) h.none.text;
    };
  }
  head_of Open h = record {
    more = (let long = h.more in omega (arith, length-take 18 bytes));
    rest = h.rest ++ drop 18 bytes;
    text = more magic (open_gate ∷ h.rest) h.text;
  }

pub head_told : (contents : Option (List ℕ)) (front : List ℕ) (head : Head) → IfSome contents (λ bytes. front ≡ take 18 bytes) → IsHead front head → IfSome contents (λ bytes. IsHead bytes head)
head_told None front head told h = tt
head_told (Some bytes) front head told h = head_of bytes head (subst (λ (l : List ℕ). IsHead l head) told h)

pub open_present : (bytes : List ℕ) → IsOpen bytes → IsPresent bytes
open_present bytes o = record {
  magic = (open_gate ∷ o.rest, o.text);
  not_blank = λ blank. elim blank [
    | inl short ↦ let long = o.more in omega arith
    | inr j ↦ j.closed (same_head j.gate open_gate j.rest o.rest (behind_magic [] (j.gate ∷ j.rest) (open_gate ∷ o.rest) (sym j.text ∙ o.text))).0
  ];
}

-- the answer of `look` over contents that are told
pub look_open : (A D : Type 0) (contents : Option (List ℕ)) (disk : D) → IfSome contents IsOpen → Refuses {A = A} {D = D} IsPresent Present contents (Err (record { disk = disk; why = Present }))
look_open A D None disk told = tt
look_open A D (Some bytes) disk told = record { only = λ _. open_present bytes told; all = λ _. inl refl }
