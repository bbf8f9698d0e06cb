-- Bytes and zeros behind them.
use Rattle.std.proofs.Common.{◌≡◌, ℕ, ◌-◌, ◌≤◌, List, ◌++◌, length, replicate, ◌∙◌, arith}
use Rattle.std.proofs.lemmas.List.{length-append, length-replicate, drop_at}
use Rattle.rep_io.specs.Piece.{IsPadded}

pub IsPadded-front : (bytes zeros : List ℕ) (n : ℕ) → length bytes ≡ n → n ≤ 512 → zeros ≡ replicate (512 - n) 0 → IsPadded (bytes ++ zeros) n
IsPadded-front bytes zeros n e within same = record {
  all = rw (length-append, e, same, length-replicate) (omega arith);
  within = within;
  zeros = drop_at bytes zeros n e ∙ same;
}
