-- what the core and the journal do together
use Rattle.std.proofs.Common.{◌≡◌, ◌↔◌, List, [], ◌∷◌, ◌++◌, sym, ap, ◌∙◌}
use Rattle.rep_fields.specs.Moment.{Moment}
use Rattle.rep_wire.specs.declared.request.Request.{Request}
use Rattle.rep_wire.specs.declared.request.Entry.{Entry}
use Rattle.rep_core.specs.Core.{Kept, Stands}
use Rattle.rep_core.specs.Answered.{entry_of, recorded_after}
use Rattle.rep_core.proofs.Standing.{Stands-own, entries_of}
use Rattle.rep_journal.specs.Format.{Framed}
use Rattle.rep_ledger.specs.Ledger.{frames_of, next_frame}
use Rattle.rep_ledger.proofs.LedgerLemmas.{frames_of-push}

-- cores that stand for the same histories have the same entries
pub same_entries : (old new : Kept) → ((h : List Entry) → Stands old h ↔ Stands new h) → new.entries ≡ old.entries
same_entries old new same = entries_of new old.entries ((same old.entries).0 (Stands-own old))

-- the frame of the entry that is recorded
pub frames-recorded : (old new : Kept) (q : Request) (now : Moment) (frame : Framed) (before after : List Framed)
    → ((h : List Entry) → Stands old h → frame ≡ next_frame h (entry_of q now)) → after ≡ before ++ frame ∷ []
    → ((h : List Entry) → Stands old h → Stands new (recorded_after h q now)) → before ≡ frames_of old.entries → after ≡ frames_of new.entries
frames-recorded old new q now frame before after framed put recorded is =
    let h = old.entries in
    put ∙ ap (λ (fs : List Framed). fs ++ frame ∷ []) is ∙ ap (λ (f : Framed). frames_of h ++ f ∷ []) (framed h (Stands-own old))
    ∙ sym (frames_of-push h (entry_of q now)) ∙ ap (λ (x : List Entry). frames_of x) (sym (entries_of new (recorded_after h q now) (recorded h (Stands-own old))))
