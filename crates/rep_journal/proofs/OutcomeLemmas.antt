-- From what was found to what `reopen` answers.
use Rattle.std.proofs.Common.{◌≡◌, inl, inr, ℕ, List, Some, None, Option, Ok, Err, refl, ap, subst}
use Rattle.rep_journal.specs.Format.{Framed, IsBlank, BrokenAt, IsOfKind, Kind}
use Rattle.rep_journal.specs.Format as format
use Rattle.rep_journal.specs.Listed.{Listed}
use Rattle.rep_journal.specs.Finding.{Finds}
use Rattle.rep_journal.specs.Outcome.{Refuses}
use Rattle.rep_journal.specs.declared.error.WhyNot.{WhyNot}
use Rattle.rep_journal.specs.declared.error.WhyNot.TheVariants.{Foreign, Present, Blank, Damaged, DeviceFault, OutOfMemory}
use Rattle.rep_journal.proofs.KindLemmas.{kept_not_blank, kept_not_broken, one_broken, one_kind}

pub found_not_blank : {A : Type 0} (D : Type 0) (contents : Option (List ℕ)) (list : Listed) (made : A) → Finds contents (Ok list) → Refuses {A = A} {D = D} IsBlank Blank contents (Ok made)
found_not_blank D None list made finds = tt
found_not_blank D (Some bytes) list made finds = record { only = λ refused. absurd refused; all = λ blank. absurd (kept_not_blank bytes list.frames finds.0 finds.1 blank) }

pub found_not_damaged : {A : Type 0} (D : Type 0) (contents : Option (List ℕ)) (list : Listed) (made : A) (at : ℕ) → Finds contents (Ok list) → Refuses {A = A} {D = D} (λ bytes. BrokenAt bytes at) (Damaged at) contents (Ok made)
found_not_damaged D None list made at finds = tt
found_not_damaged D (Some bytes) list made at finds = record { only = λ refused. absurd refused; all = λ broken. absurd (kept_not_broken bytes at list.frames broken finds.0) }

other_kind : (bytes : List ℕ) (at : ℕ) (kind : Kind) → IsOfKind bytes kind → BrokenAt bytes at → kind ≡ format.Damaged at
other_kind bytes at kind is broken = one_kind bytes kind (format.Damaged at) is broken

pub failed_damaged : (A : Type 0) {D : Type 0} (contents : Option (List ℕ)) (disk : D) (why : WhyNot) (at : ℕ) → Finds contents (Err why) → Refuses {A = A} {D = D} (λ bytes. BrokenAt bytes at) (Damaged at) contents (Err (record { disk = disk; why = why }))
failed_damaged A None disk why at finds = tt
failed_damaged A (Some bytes) disk Foreign at finds = record { only = λ refused. absurd (cc); all = λ broken. let no = other_kind bytes at format.Foreign finds broken in absurd (cc) }
failed_damaged A (Some bytes) disk Present at finds = absurd finds
failed_damaged A (Some bytes) disk Blank at finds = record { only = λ refused. absurd (cc); all = λ broken. let no = other_kind bytes at format.Blank finds broken in absurd (cc) }
failed_damaged A (Some bytes) disk (Damaged other) at finds = record {
  only = λ refused. let same : other ≡ at = cc in subst (BrokenAt bytes) same finds;
  all = λ broken. inl (ap (λ (n : ℕ). Damaged n) (one_broken bytes other at finds broken));
}
failed_damaged A (Some bytes) disk DeviceFault at finds = record { only = λ refused. absurd (cc); all = λ broken. inr (inl refl) }
failed_damaged A (Some bytes) disk OutOfMemory at finds = record { only = λ refused. absurd (cc); all = λ broken. inr (inr refl) }
