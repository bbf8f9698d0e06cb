-- A clocking's hash by its definition: what text it is, and where it stands in the clocking's line.
use Rattle.std.proofs.Common.{◌≡◌, ℕ, suc, ◌-◌, ◌<◌, ◌≤◌, List, ◌++◌, length, drop, Bor, MatchOption, Option, Some, None, refl, sym, ap, ◌∙◌, subst, arith, length-append}
use Rattle.std.proofs.lemmas.List.{drop_at}
use Rattle.std.specs.Array.{IsWholeChunk}
use Rattle.std.specs.Option.{option_copied}
use Rattle.afd_records.specs.Record.{payload_text, IsClocking}
use Rattle.afd_records.specs.Line.{HasHash}
use Rattle.afd_records.specs.declared.record.Body.{Body}
use Rattle.afd_records.specs.declared.record.Body.TheVariants.{Employer, Adjust, Worker, Event, Clocking}
use Rattle.afd_chain.specs.Chain.{sha_text}
use Rattle.afd_chain.proofs.HashText.{IsHashText-sha_text}
use Rattle.rep_wire.specs.declared.request.Entry.{Entry}
use Rattle.rep_core.specs.Chained.{last_hash, next_line}
use Rattle.rep_core.specs.Hashes.{hash_behind}

-- a hash stands exactly at a clocking
HasHash-behind : (h : List Entry) (body : Body) → HasHash body (hash_behind h body)
HasHash-behind h (Employer at resp id cno name place) = refl
HasHash-behind h (Adjust before after resp) = refl
HasHash-behind h (Worker at op cpf name extra resp) = refl
HasHash-behind h (Event at code) = refl
HasHash-behind h (Clocking marked cpf recorded collector offline) =
    IsHashText-sha_text (payload_text (suc (length h)) (Clocking marked cpf recorded collector offline) ++ last_hash h)

pub hash_fits : (h : List Entry) (body : Body) (hash : Option (List ℕ)) → hash ≡ hash_behind h body → HasHash body hash
hash_fits h body hash is = subst (HasHash body) (sym is) (HasHash-behind h body)

-- the last 64 bytes of a clocking's line are its hash
hash_at_end : (h : List Entry) (body : Body) (line : List ℕ) → IsClocking body → line ≡ next_line h body → hash_behind h body ≡ Some (drop (length line - 64) line)
hash_at_end h (Employer at resp id cno name place) line clocks is = absurd clocks
hash_at_end h (Adjust before after resp) line clocks is = absurd clocks
hash_at_end h (Worker at op cpf name extra resp) line clocks is = absurd clocks
hash_at_end h (Event at code) line clocks is = absurd clocks
hash_at_end h (Clocking marked cpf recorded collector offline) line clocks is =
    let body = Clocking marked cpf recorded collector offline in
    let payload = payload_text (suc (length h)) body in
    let hash = sha_text (payload ++ last_hash h) in
    let size : length hash ≡ 64 = (IsHashText-sha_text (payload ++ last_hash h)).size in
    let whole : line ≡ payload ++ hash = is in
    let place : length line - 64 ≡ length payload = omega (arith, ap length whole, length-append payload hash, size) in
    sym (ap Some (ap (λ xs. drop (length line - 64) xs) whole ∙ drop_at payload hash (length line - 64) (sym place)))

-- a clocking's line is not shorter than its hash
line_is_long : (h : List Entry) (body : Body) (line : List ℕ) → IsClocking body → line ≡ next_line h body → length line < 64 → ⊥
line_is_long h (Employer at resp id cno name place) line clocks is short = absurd clocks
line_is_long h (Adjust before after resp) line clocks is short = absurd clocks
line_is_long h (Worker at op cpf name extra resp) line clocks is short = absurd clocks
line_is_long h (Event at code) line clocks is short = absurd clocks
line_is_long h (Clocking marked cpf recorded collector offline) line clocks is short =
    let body = Clocking marked cpf recorded collector offline in
    let payload = payload_text (suc (length h)) body in
    let hash = sha_text (payload ++ last_hash h) in
    let size : length hash ≡ 64 = (IsHashText-sha_text (payload ++ last_hash h)).size in
    let whole : line ≡ payload ++ hash = is in
    absurd (omega (arith, short, ap length whole, length-append payload hash, size))

-- a clocking's hash is taken out of its line
pub hash_in_chunk : (h : List Entry) (body : Body) (line : List ℕ) (chunk : Option (Bor (List ℕ))) → IsClocking body → line ≡ next_line h body → MatchOption chunk (length line < 64) (λ y. (64 ≤ length line) × IsWholeChunk (drop (length line - 64) line) y.now 64) → option_copied chunk ≡ hash_behind h body
hash_in_chunk h body line None clocks is short = absurd (line_is_long h body line clocks is short)
hash_in_chunk h body line (Some chunk) clocks is found = ap Some found.1.same ∙ sym (hash_at_end h body line clocks is)
