-- What a crash leaves of a history, from what it leaves of its frames.
use Rattle.std.proofs.Common.{◌≡◌, ◌≢◌, ℕ, ◌+◌, ◌<◌, ◌≤◌, ◌⊎◌, inl, inr, List, [], ◌∷◌, ◌++◌, length, refl, sym, ap, subst, ◌∙◌, arith, append-nil, append_assoc}
use Rattle.std.specs.Prelude.{All}
use Rattle.std.proofs.lemmas.Bool.{cases_lt}
use Rattle.std.proofs.lemmas.List.Elements.{All-nil, All-append, All-weaker}
use Rattle.rep_wire.specs.declared.request.Entry.{Entry}
use Rattle.rep_core.specs.Valid.{Fits, IsFounded}
use Rattle.rep_core.proofs.Validity.{IsFounded-push}
use Rattle.rep_disk.specs.Disk.{Shown, IsUntouched, Moved, Same, last_moment}
use Rattle.rep_journal.specs.Format.{Framed, IsJournalOf, IsBlank}
use Rattle.rep_journal.specs.State.{IsRead, IsWithOrWithout}
use Rattle.rep_journal.specs.Recovery.{ImageStandsFor, LeavesAtLeast, NeverFalls, PutMoments, CreateMoments}
use Rattle.rep_journal.proofs.KindLemmas.{one_journal, kept_not_blank}
use Rattle.rep_ledger.specs.Ledger.{IsLedgerOf, frames_of, next_frame}
use Rattle.rep_ledger.specs.Safety.{IsImageOf, HasAtLeast, NeverFallsFrom, Receipted, IsSure, IsFrontOf, Secures}
use Rattle.rep_ledger.proofs.LedgerLemmas.{frames_of-push, length-frames_of}
use Rattle.rep_ledger.proofs.DiskSteps.{Stayed-at, Moved-same}

-- a founded history has an entry, and so a frame
pub founded_some : (h : List Entry) → IsFounded h → 0 < length h
founded_some [] founded = absurd founded
founded_some (first ∷ h) founded = omega arith

pub founded_frames : (h : List Entry) → IsFounded h → frames_of h ≢ []
founded_frames h founded none =
    absurd (omega (arith, ap length none, length-frames_of h, founded_some h founded))

-- contents keep one history, as far as its length goes
pub length_of_image : (image : List ℕ) (h : List Entry) (frames : List Framed) → IsImageOf image h → ImageStandsFor image frames → length frames ≡ length h
length_of_image image h frames (inl ledger) (inl journal) = ap length (one_journal image frames (frames_of h) journal ledger.journal) ∙ length-frames_of h
length_of_image image h frames (inl ledger) (inr blank) = absurd (kept_not_blank image (frames_of h) ledger.journal (founded_frames h ledger.founded) blank.1)
length_of_image image h [] (inr none) (inl journal) = sym (ap length none.0)
length_of_image image h (frame ∷ frames) (inr none) (inl journal) = absurd (kept_not_blank image (frame ∷ frames) journal (λ same. absurd cc) none.1)
length_of_image image h frames (inr none) (inr blank) = ap length blank.0 ∙ sym (ap length none.0)

pub image_stands : (image : List ℕ) (h : List Entry) → IsImageOf image h → ImageStandsFor image (frames_of h)
image_stands image h (inl ledger) = inl ledger.journal
image_stands image h (inr none) = inr (ap frames_of none.0, none.1)

pub same_length : (image : List ℕ) (h g : List Entry) → IsImageOf image h → IsImageOf image g → length g ≡ length h
same_length image h g one two = sym (length-frames_of g) ∙ length_of_image image h (frames_of g) one (image_stands image g two)

-- fronts
pub IsFrontOf-refl : (h : List Entry) → IsFrontOf h h
IsFrontOf-refl h = ([], sym (append-nil h))

pub IsFrontOf-push : (h : List Entry) (e : Entry) → IsFrontOf h (h ++ e ∷ [])
IsFrontOf-push h e = (e ∷ [], refl)

pub IsFrontOf-nil : (h : List Entry) → IsFrontOf [] h
IsFrontOf-nil h = (h, refl)

pub IsFrontOf-trans : (f g h : List Entry) → IsFrontOf f g → IsFrontOf g h → IsFrontOf f h
IsFrontOf-trans f g h one two = (one.0 ++ two.0, two.1 ∙ ap (λ xs. xs ++ two.0) one.1 ∙ append_assoc f one.0 two.0)

-- what is sure of the frames is sure of the history, where each image keeps one
pub sure_of_frames : (a b : Shown) → ((m : ℕ) (image : List ℕ) → a.moment ≤ m → m ≤ b.moment → b.may_leave m image → (h : List Entry) × IsImageOf image h) → NeverFalls a b → NeverFallsFrom a.moment b
sure_of_frames a b each never = λ least m later from on within has image h leaves stands.
    let frames_then : LeavesAtLeast least b m =
    λ image' frames leaves' stands'.
    let keeps = each m image' from (omega arith) leaves' in
    omega (arith, has image' keeps.0 leaves' keeps.1, length_of_image image' keeps.0 frames keeps.1 stands') in
    let frames_later = never least m later from on within frames_then image (frames_of h) leaves (image_stands image h stands) in
    omega (arith, frames_later, length-frames_of h)

-- an image that keeps a history, in a range of moments, keeps what is sure by its length
pub sure_by_length : (h : List Entry) (nsr : ℕ) (s : Shown) (m : ℕ) → nsr ≤ length h → ((image : List ℕ) → s.may_leave m image → IsImageOf image h) → HasAtLeast nsr s m
sure_by_length h nsr s m within each = λ image g leaves stands.
    omega (arith, same_length image h g (each image leaves) stands)

-- the disk was read at most, and each image keeps the history
pub Secures-read : (h : List Entry) (receipts : List Receipted) (a b : Shown) → ((image : List ℕ) → a.may_leave a.moment image → IsImageOf image h) → IsRead a b → b.moment < last_moment → All (λ r. (r.moment ≡ b.moment) × (r.nsr ≤ length h)) receipts → Secures a.moment h h receipts a b
Secures-read h receipts a b keeps read below given =
    let stayed = read.crash below in
    record {
      past = stayed.past;
      early = λ m image from before within leaves. absurd (omega arith);
      images = λ m image from within leaves.
          (h, keeps image ((Stayed-at a b stayed m image from within).0 leaves), IsFrontOf-refl h, IsFrontOf-refl h);
      sure = λ least m later from on within has image g leaves stands.
          has image g
          ((Stayed-at a b stayed m image from (omega arith)).1 ((Stayed-at a b stayed later image (omega arith) within).0 leaves)) stands;
      receipted = All-weaker (λ r. (r.moment ≡ b.moment) × (r.nsr ≤ length h)) (IsSure b)
          (λ r at. sure_by_length h r.nsr b r.moment at.1
          (λ image leaves. keeps image ((Stayed-at a b stayed b.moment image read.later (omega arith)).0 (subst (λ n. b.may_leave n image) at.0 leaves))))
          receipts given;
    }

-- an image of a journal while a frame is put
pub ledger_around : (h : List Entry) (e : Entry) (image : List ℕ) → IsFounded h → Fits h e → IsWithOrWithout (frames_of h) (next_frame h e) image → IsLedgerOf image h ⊎ IsLedgerOf image (h ++ e ∷ [])
ledger_around h e image founded fits (inl without) = inl (record { founded = founded; journal = without })
ledger_around h e image founded fits (inr with_entry) = inr (record {
  founded = IsFounded-push h e founded fits;
  journal = subst (λ frames. IsJournalOf image frames) (sym (frames_of-push h e)) with_entry;
})

image_around : (h : List Entry) (e : Entry) (image : List ℕ) → IsLedgerOf image h ⊎ IsLedgerOf image (h ++ e ∷ []) → (g : List Entry) × IsImageOf image g × IsFrontOf h g × IsFrontOf g (h ++ e ∷ [])
image_around h e image (inl without) = (h, inl without, IsFrontOf-refl h, IsFrontOf-push h e)
image_around h e image (inr with_entry) = (h ++ e ∷ [], inl with_entry, IsFrontOf-push h e, IsFrontOf-refl (h ++ e ∷ []))

-- the frame of an entry is put
pub Secures-put : (h : List Entry) (e : Entry) (receipts : List Receipted) (a b : Shown) → IsFounded h → Fits h e → PutMoments (frames_of h) (next_frame h e) a b → All (IsSure b) receipts → Secures a.moment h (h ++ e ∷ []) receipts a b
Secures-put h e receipts a b founded fits put given =
    let keeps = λ (m : ℕ) (image : List ℕ) (from : a.moment ≤ m) (within : m ≤ b.moment) (leaves : b.may_leave m image).
    image_around h e image (ledger_around h e image founded fits (put.opened m image from within leaves)) in
    record {
      past = put.past;
      early = λ m image from before within leaves. absurd (omega arith);
      images = keeps;
      sure = sure_of_frames a b (λ m image from within leaves. let g = keeps m image from within leaves in (g.0, g.1)) put.sure;
      receipted = given;
    }

image_begun : (e : Entry) (image : List ℕ) → IsFounded (e ∷ []) → IsBlank image ⊎ IsJournalOf image (next_frame [] e ∷ []) → (g : List Entry) × IsImageOf image g × IsFrontOf [] g × IsFrontOf g (e ∷ [])
image_begun e image founded (inl blank) = ([], inr (refl, blank), IsFrontOf-nil [], IsFrontOf-nil (e ∷ []))
image_begun e image founded (inr journal) = (
  e ∷ [],
  inl (record { founded = founded; journal = subst (λ frames. IsJournalOf image frames) (sym (frames_of-push [] e)) journal }),
  IsFrontOf-nil (e ∷ []),
  IsFrontOf-refl (e ∷ []),
)

-- a journal is made with the frame of its first entry
pub Secures-create : (e : Entry) (a b : Shown) → IsFounded (e ∷ []) → CreateMoments (next_frame [] e) a b → Secures a.moment [] (e ∷ []) [] a b
Secures-create e a b founded made =
    let keeps = λ (m : ℕ) (image : List ℕ) (from : a.moment ≤ m) (within : m ≤ b.moment) (leaves : b.may_leave m image).
    image_begun e image founded (made.images m image from within leaves) in
    record {
      past = made.past;
      early = λ m image from before within leaves. absurd (omega arith);
      images = keeps;
      sure = sure_of_frames a b (λ m image from within leaves. let g = keeps m image from within leaves in (g.0, g.1)) made.sure;
      receipted = All-nil (IsSure b);
    }

-- a sync made sure of a history that the contents keep
pub Secures-rested : (h : List Entry) (a b : Shown) → Moved Same a b → ((m : ℕ) (image : List ℕ) → a.moment + 2 ≤ m → m ≤ b.moment → b.may_leave m image → IsLedgerOf image h) → Secures (a.moment + 2) h h [] a b
Secures-rested h a b moved keeps = record {
  past = moved.past;
  early = λ m image from before within leaves. Moved-same a b moved m image from within leaves;
  images = λ m image from within leaves. (h, inl (keeps m image from within leaves), IsFrontOf-refl h, IsFrontOf-refl h);
  sure = λ least m later from on within has image g leaves stands.
      has image g (moved.settles m later image (omega arith) on within leaves) stands;
  receipted = All-nil (IsSure b);
}

-- what calls leave secure stays so by further calls
module _ (rested : ℕ) (first kept whole : List Entry) (before after : List Receipted) (a b c : Shown) where
  pub Secures-trans : rested ≤ b.moment → All (λ r. r.moment ≤ b.moment) before → IsFrontOf first kept → IsFrontOf kept whole → a.moment ≤ b.moment → Secures rested first kept before a b → Secures b.moment kept whole after b c → Secures rested first whole (before ++ after) a c
  Secures-trans at_rest dated front goes_on earlier one two = record {
    past = λ m image within. (
      λ leaves. (one.past m image within).0 ((two.past m image (omega arith)).0 leaves),
      λ leaves. (two.past m image (omega arith)).1 ((one.past m image within).1 leaves),
    );
    early = λ m image from early within leaves.
        one.early m image from early (omega arith) ((two.past m image (omega arith)).0 leaves);
    images = λ m image from within leaves. elim (cases_lt b.moment m) [
      | inl late ↦
          let g = two.images m image (omega arith) within leaves in
          (g.0, g.1, IsFrontOf-trans first kept g.0 front g.2, g.3)
      | inr soon ↦
          let g = one.images m image from soon ((two.past m image soon).0 leaves) in
          (g.0, g.1, g.2, IsFrontOf-trans g.0 kept whole g.3 goes_on)
    ];
    sure = sure;
    receipted = All-append (IsSure c) before after
        (kept_sure before dated one.receipted) two.receipted;
  }
    where
      -- up to the end of the first calls, what is sure then is what was
      back : (least m : ℕ) → m ≤ b.moment → HasAtLeast least c m → HasAtLeast least b m
      back least m within has image g leaves stands = has image g ((two.past m image within).1 leaves) stands

      forth : (least m : ℕ) → m ≤ b.moment → HasAtLeast least b m → HasAtLeast least c m
      forth least m within has image g leaves stands = has image g ((two.past m image within).0 leaves) stands

      sure : NeverFallsFrom rested c
      sure least m later from on within has = elim (cases_lt b.moment m) [
        | inl late ↦ two.sure least m later (omega arith) on within has
        | inr soon ↦ elim (cases_lt b.moment later) [
          | inl then_late ↦
              two.sure least b.moment later (omega arith) (omega arith) within
              (forth least b.moment (omega arith) (one.sure least m b.moment from soon (omega arith) (back least m soon has)))
          | inr then_soon ↦ forth least later then_soon (one.sure least m later from on then_soon (back least m soon has))
        ]
      ]

      kept_sure : (receipts : List Receipted) → All (λ r. r.moment ≤ b.moment) receipts → All (IsSure b) receipts → All (IsSure c) receipts
      kept_sure receipts by all k d inside = forth _ _ (by k d inside) (all k d inside)

-- what is no device call leaves everything secure
pub Secures-untouched : (kept whole : List Entry) (receipts : List Receipted) (a a' b : Shown) → IsUntouched a a' → Secures a'.moment kept whole receipts a' b → Secures a.moment kept whole receipts a b
Secures-untouched kept whole receipts a a' b same secures =
    subst (λ n. Secures n kept whole receipts a b) same.moment (record {
      past = λ m image within. (
        λ leaves. (same.images m image).0 ((secures.past m image (omega (arith, same.moment))).0 leaves),
        λ leaves. (secures.past m image (omega (arith, same.moment))).1 ((same.images m image).1 leaves),
      );
      early = λ m image from before within leaves. absurd (omega (arith, same.moment));
      images = secures.images;
      sure = secures.sure;
      receipted = secures.receipted;
    })
