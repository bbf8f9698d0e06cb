-- What loops over the writes of a sink and the reads of a source have done.
use Rattle.std.proofs.Common.{◌≡◌, ℕ, ◌+◌, ◌<◌, ◌≤◌, List, [], ◌++◌, length, take, drop, refl, sym, ap, ◌∙◌, arith, None, Some, append_assoc, append-nil}
use Rattle.std.specs.Prelude.{Option}
use Rattle.std.specs.Io.KnownBytes.{append_known, prepend_known}
use Rattle.std.proofs.KnownBytes.{prepend_known-nil}
use Rattle.std.proofs.Math.Seq.{take-add}
use Rattle.rep_io.specs.Lines.{longest_text}
use Rattle.rep_io.proofs.KnownBytes.{prepend_known-append}

-- the first bytes of the piece were appended, and the sink didn't fail
pub record HasPut (old now : Option (List ℕ)) (before faults : ℕ) (piece : List ℕ) (count : ℕ) : Type 0 where
  pub within : count ≤ length piece
  pub appended : now ≡ append_known old (take count piece)
  pub kept : faults ≡ before

append_known-append : (o : Option (List ℕ)) (xs ys : List ℕ) → append_known (append_known o xs) ys ≡ append_known o (xs ++ ys)
append_known-append None xs ys = refl
append_known-append (Some z) xs ys = ap Some (append_assoc z xs ys)

append_known-nil : (o : Option (List ℕ)) → append_known o [] ≡ o
append_known-nil None = refl
append_known-nil (Some z) = ap Some (append-nil z)

pub HasPut-none : (old : Option (List ℕ)) (faults : ℕ) (piece : List ℕ) → HasPut old old faults faults piece 0
HasPut-none old faults piece = record { within = omega arith; appended = sym (append_known-nil old); kept = refl }

pub HasPut-more : (old now new : Option (List ℕ)) (before faults after : ℕ) (piece rest : List ℕ) (put count : ℕ) → HasPut old now before faults piece put
    → rest ≡ drop put piece → put + count ≤ length piece → new ≡ append_known now (take count rest) → after ≡ faults
    → HasPut old new before after piece (put + count)
HasPut-more old now new before faults after piece rest put count so_far is within more same = record {
  within = within;
  appended = more ∙ ap (λ o. append_known o (take count rest)) so_far.appended
      ∙ append_known-append old (take put piece) (take count rest)
      ∙ ap (append_known old) (ap (λ r. take put piece ++ take count r) is ∙ sym (take-add put count piece));
  kept = same ∙ so_far.kept;
}

-- the bytes read are a front of those that were left, and the source didn't fail
pub record HasRead (old now : Option (List ℕ)) (before faults : ℕ) (bytes : List ℕ) (room : ℕ) : Type 0 where
  pub taken : old ≡ prepend_known bytes now
  pub in_room : length bytes ≤ longest_text
  pub kept : faults ≡ before
  pub some : 0 < room

pub HasRead-none : (old : Option (List ℕ)) (faults : ℕ) (room : ℕ) → 0 < room → HasRead old old faults faults [] room
HasRead-none old faults room some = record { taken = sym (prepend_known-nil old); in_room = omega arith; kept = refl; some = some }

-- more bytes are read
pub taken-more : (old now new : Option (List ℕ)) (bytes more : List ℕ) → old ≡ prepend_known bytes now → now ≡ prepend_known more new
    → old ≡ prepend_known (bytes ++ more) new
taken-more old now new bytes more first second =
    first ∙ ap (prepend_known bytes) second ∙ sym (prepend_known-append bytes more new)
