use Rattle.std.proofs.Common.{◌≡◌, ◌+◌, List, ℕ, [], ◌∷◌, ◌++◌, length, subst, ◌∙◌, arith}
use Rattle.rep_disk.specs.Disk.{Changes, Torn, Written, Moves, written_by_name}
use Rattle.rep_journal.specs.Format.{open_gate, frame_text, end_of, Framed}
use Rattle.rep_journal.specs.Putting.{FailsToWrite, NamesUntilSure, OpensUntilSure, WritesSurely}
use Rattle.rep_journal.proofs.PutLemmas.{is_staged, appends, leaves, fails, fails_early, err_only, ok_none, err_match, calls_of, failed_calls, more_calls, calls_within}
use Rattle.rep_journal.proofs.MomentLemmas.{staged_moments, opened_moments}
use Rattle.rep_journal.proofs.GateLemmas.{never_opens, opens_gate}
use Rattle.rep_journal.proofs.putting.append.Given.{Over}
use Rattle.rep_journal.proofs.putting.append.Goals as goal

pub returns-in_err-write_and_sync-clause-contents : goal.returns-in_err-write_and_sync-clause-contents
returns-in_err-write_and_sync-clause-contents g c = λ frames is stands. ok_none c.from_residual.result _ c.from_residual.ensures.0

pub returns-in_err-write_and_sync-clause-text : goal.returns-in_err-write_and_sync-clause-text
returns-in_err-write_and_sync-clause-text g c = λ frames is stands. ok_none c.from_residual.result _ c.from_residual.ensures.0

pub returns-in_err-write_and_sync-clause-fails : goal.returns-in_err-write_and_sync-clause-fails
returns-in_err-write_and_sync-clause-fails g c =
    λ frames is stands.
    let stage = c.bytes.ensures ∙ c.of-stage.ensures.text in
    let failed = subst (λ (piece : List ℕ). FailsToWrite (end_of frames + 1) piece (g.D.Disk.shown c.args.disk.now) (g.D.Disk.shown c.write_and_sync.new.disk)) stage
    (subst (λ (n : ℕ). FailsToWrite (n + 1) c.bytes.result.now (g.D.Disk.shown c.args.disk.now) (g.D.Disk.shown c.write_and_sync.new.disk)) is c.in_err-write_and_sync.ensures.writes) in
    err_only c.from_residual.result _ (fails_early frames c.args.frame.now c.of-stage.ensures.well_formed (g.D.Disk.shown c.args.disk.now) (g.D.Disk.shown c.write_and_sync.new.disk) stands failed)

pub returns-in_err-write_and_sync-clause-calls : goal.returns-in_err-write_and_sync-clause-calls
returns-in_err-write_and_sync-clause-calls g c =
    failed_calls 4 (c.args.end + 1) c.bytes.result.now (g.D.Disk.shown c.args.disk.now) (g.D.Disk.shown c.write_and_sync.new.disk) c.from_residual.result c.from_residual.ensures.0 (omega arith) c.in_err-write_and_sync.ensures.writes

pub returns-in_err-write_and_sync-clause-crash : goal.returns-in_err-write_and_sync-clause-crash
returns-in_err-write_and_sync-clause-crash g c =
    λ frames is stands rest told before.
    let calls = calls_within 2 (g.D.Disk.shown c.args.disk.now) (g.D.Disk.shown c.write_and_sync.new.disk) c.write_and_sync.result (calls_of (c.args.end + 1) c.bytes.result.now (g.D.Disk.shown c.args.disk.now) (g.D.Disk.shown c.write_and_sync.new.disk) c.write_and_sync.result c.write_and_sync.ensures.writes) in
    staged_moments frames c.args.frame.now (length c.bytes.result.now) (g.D.Disk.shown c.args.disk.now) (g.D.Disk.shown c.write_and_sync.new.disk) told stands rest
    (subst (λ (n : ℕ). Moves (Torn (n + 1) (length c.bytes.result.now)) (g.D.Disk.shown c.args.disk.now) (g.D.Disk.shown c.write_and_sync.new.disk)) is c.write_and_sync.ensures.crash)
    calls.0 calls.1 before

pub returns-in_err-write_and_sync-clause-at_gate : goal.returns-in_err-write_and_sync-clause-at_gate
returns-in_err-write_and_sync-clause-at_gate g c =
    λ frames is stands.
    err_match c.from_residual.result _ _ c.from_residual.ensures.0
    (never_opens frames c.args.frame.now (g.D.Disk.shown c.args.disk.now) (g.D.Disk.shown c.write_and_sync.new.disk) c.write_and_sync.result
    (calls_of (c.args.end + 1) c.bytes.result.now (g.D.Disk.shown c.args.disk.now) (g.D.Disk.shown c.write_and_sync.new.disk) c.write_and_sync.result c.write_and_sync.ensures.writes) (g.D.Disk.shown c.args.disk.now).contents)

-- the frame was written where it belongs, with a closed gate
staged : (g : Over) (c : goal.After-write_and_sync-2 g) (frames : List Framed) → c.args.end ≡ end_of frames
    → Changes (Written (end_of frames + 1) (frame_text c.args.frame.now ++ 0 ∷ [])) (g.D.Disk.shown c.args.disk.now).contents (g.D.Disk.shown c.write_and_sync.new.disk).contents
staged g c frames is =
    subst (λ (piece : List ℕ). Changes (Written (end_of frames + 1) piece) (g.D.Disk.shown c.args.disk.now).contents (g.D.Disk.shown c.write_and_sync.new.disk).contents) (c.bytes.ensures ∙ c.of-stage.ensures.text)
    (subst (λ (n : ℕ). Changes (Written (n + 1) c.bytes.result.now) (g.D.Disk.shown c.args.disk.now).contents (g.D.Disk.shown c.write_and_sync.new.disk).contents) is c.in_ok-write_and_sync.ensures.writes.1)

-- the gate was opened where it stands
opened : (g : Over) (c : goal.After-write_and_sync-2 g) (frames : List Framed) → c.args.end ≡ end_of frames
    → WritesSurely (end_of frames) (open_gate ∷ []) (g.D.Disk.shown c.write_and_sync.new.disk) (g.D.Disk.shown c.write_and_sync-2.new.disk) c.write_and_sync-2.result
opened g c frames is = subst (λ (n : ℕ). WritesSurely n (open_gate ∷ []) (g.D.Disk.shown c.write_and_sync.new.disk) (g.D.Disk.shown c.write_and_sync-2.new.disk) c.write_and_sync-2.result) is c.write_and_sync-2.ensures.writes

pub returns-clause-contents : goal.returns-clause-contents
returns-clause-contents g c =
    λ frames is stands.
    appends frames c.args.frame.now c.of-stage.ensures.well_formed (g.D.Disk.shown c.args.disk.now) (g.D.Disk.shown c.write_and_sync.new.disk) (g.D.Disk.shown c.write_and_sync-2.new.disk) c.write_and_sync-2.result stands (staged g c frames is) (opened g c frames is)

pub returns-clause-text : goal.returns-clause-text
returns-clause-text g c =
    λ frames is stands.
    leaves frames c.args.frame.now c.of-stage.ensures.well_formed (g.D.Disk.shown c.args.disk.now) (g.D.Disk.shown c.write_and_sync.new.disk) (g.D.Disk.shown c.write_and_sync-2.new.disk) c.write_and_sync-2.result stands (staged g c frames is) (opened g c frames is)

pub returns-clause-fails : goal.returns-clause-fails
returns-clause-fails g c =
    λ frames is stands.
    fails frames c.args.frame.now c.of-stage.ensures.well_formed (g.D.Disk.shown c.args.disk.now) (g.D.Disk.shown c.write_and_sync.new.disk) (g.D.Disk.shown c.write_and_sync-2.new.disk) c.write_and_sync-2.result stands c.in_ok-write_and_sync.ensures.writes.0 (staged g c frames is) (opened g c frames is)

pub returns-clause-calls : goal.returns-clause-calls
returns-clause-calls g c =
    more_calls (g.D.Disk.shown c.args.disk.now) (g.D.Disk.shown c.write_and_sync.new.disk) (g.D.Disk.shown c.write_and_sync-2.new.disk) c.write_and_sync-2.result c.in_ok-write_and_sync.ensures.writes.0
    (calls_of c.args.end (open_gate ∷ []) (g.D.Disk.shown c.write_and_sync.new.disk) (g.D.Disk.shown c.write_and_sync-2.new.disk) c.write_and_sync-2.result c.write_and_sync-2.ensures.writes)

pub returns-clause-crash : goal.returns-clause-crash
returns-clause-crash g c =
    λ frames is stands rest told before.
    let mid = is_staged frames c.args.frame.now c.of-stage.ensures.well_formed (g.D.Disk.shown c.args.disk.now).contents (g.D.Disk.shown c.write_and_sync.new.disk).contents stands (staged g c frames is) told in
    let two = c.in_ok-write_and_sync.ensures.writes.0 in
    let later = calls_within 2 (g.D.Disk.shown c.write_and_sync.new.disk) (g.D.Disk.shown c.write_and_sync-2.new.disk) c.write_and_sync-2.result (calls_of c.args.end (open_gate ∷ []) (g.D.Disk.shown c.write_and_sync.new.disk) (g.D.Disk.shown c.write_and_sync-2.new.disk) c.write_and_sync-2.result c.write_and_sync-2.ensures.writes) in
    let le = later.0 in
    opened_moments frames c.args.frame.now (length c.bytes.result.now) (g.D.Disk.shown c.args.disk.now) (g.D.Disk.shown c.write_and_sync.new.disk) (g.D.Disk.shown c.write_and_sync-2.new.disk) told stands rest
    (subst (λ (n : ℕ). Moves (Torn (n + 1) (length c.bytes.result.now)) (g.D.Disk.shown c.args.disk.now) (g.D.Disk.shown c.write_and_sync.new.disk)) is c.write_and_sync.ensures.crash)
    (omega arith) (omega arith) mid.0 mid.1 c.in_ok-write_and_sync.ensures.rest
    (subst (λ (n : ℕ). Moves (Torn n 1) (g.D.Disk.shown c.write_and_sync.new.disk) (g.D.Disk.shown c.write_and_sync-2.new.disk)) is c.write_and_sync-2.ensures.crash)
    later.0 before

pub returns-clause-at_gate : goal.returns-clause-at_gate
returns-clause-at_gate g c =
    λ frames is stands.
    opens_gate frames c.args.frame.now (g.D.Disk.shown c.args.disk.now) (g.D.Disk.shown c.write_and_sync.new.disk) (g.D.Disk.shown c.write_and_sync-2.new.disk) stands (staged g c frames is) c.in_ok-write_and_sync.ensures.writes.0
    c.in_ok-write_and_sync.ensures.rest c.in_ok-write_and_sync.ensures.named
    (subst (λ (n : ℕ). Moves (Torn n 1) (g.D.Disk.shown c.write_and_sync.new.disk) (g.D.Disk.shown c.write_and_sync-2.new.disk)) is c.write_and_sync-2.ensures.crash) c.write_and_sync-2.result
    (calls_of c.args.end (open_gate ∷ []) (g.D.Disk.shown c.write_and_sync.new.disk) (g.D.Disk.shown c.write_and_sync-2.new.disk) c.write_and_sync-2.result c.write_and_sync-2.ensures.writes)
    (subst (λ (n : ℕ). OpensUntilSure (Torn n 1) (g.D.Disk.shown c.write_and_sync.new.disk) (g.D.Disk.shown c.write_and_sync-2.new.disk) c.write_and_sync-2.result) is c.write_and_sync-2.ensures.opens)
    (subst (λ (n : ℕ). NamesUntilSure (written_by_name n (open_gate ∷ [])) (g.D.Disk.shown c.write_and_sync.new.disk) (g.D.Disk.shown c.write_and_sync-2.new.disk) c.write_and_sync-2.result) is c.write_and_sync-2.ensures.names)
