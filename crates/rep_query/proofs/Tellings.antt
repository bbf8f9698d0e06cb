-- A receipt that was said wholly.
use Rattle.std.proofs.Common.{◌≡◌, ℕ, ◌≤◌, inl, List, [], Option, refl, sym, ap, ◌∙◌, append-nil, arith}
use Rattle.std.specs.Io.KnownBytes.{append_known}
use Rattle.rep_report.specs.Saying.{Concludes}
use Rattle.rep_report.specs.declared.ending.Ending.TheVariants.{AllAnswered}

pub gives_whole : (text : List ℕ) (old new : Option (List ℕ)) (before now : ℕ) → new ≡ append_known old text → before ≤ now → Concludes AllAnswered text old new before now AllAnswered
gives_whole text old new before now said later = record {
  put = text;
  closing = [];
  said = said ∙ ap (append_known old) (sym (append-nil text));
  middle = now;
  since = later;
  until = omega arith;
  put_front = ([], sym (append-nil text));
  closing_front = ([], refl);
  counted = λ _. refl;
  put_whole = λ _. refl;
  closing_whole = λ _. refl;
  told = inl refl;
}
