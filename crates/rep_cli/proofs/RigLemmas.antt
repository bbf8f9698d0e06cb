-- the rig of an errand, by what the words ask for
use Rattle.std.proofs.Common.{◌≡◌, ℕ, ◌<◌, Bool, List, [], ◌∷◌, ◌++◌, length, map, codes, Option, None, Some, is_some, true, false, Result, Ok, Err, IfOk, IfSome, refl, ap, ◌∙◌, arith}
use Rattle.std.specs.Prelude.{All, option_map}
use Rattle.std.proofs.lemmas.List.{append-nil}
use Rattle.std.proofs.lemmas.List.Elements.{All-nil, All-cons}
use Rattle.rep_words.specs.Words.{Asks}
use Rattle.rep_words.specs.Places.{clock_of, command_of, disk_of, ending_of, outs_of, texts_of}
use Rattle.rep_words.specs.Rigged.{IsRigged}
use Rattle.rep_words.specs.declared.rig.Rig.{Rig}
use Rattle.rep_words.specs.declared.errand.Command.{Command}
use Rattle.rep_words.specs.declared.words.Asked.{Asked}
use Rattle.rep_words.specs.declared.words.Asked.TheVariants.{Print, Create, Run, Extract, Receipt, Drill}
use Rattle.rep_cli.specs.declared.access.Access.{Access}
use Rattle.rep_cli.specs.Paths.{access_for, access_of, disk_path, out_paths, text_paths, word_at}

-- Lists and options by what they are mapped to

none_of : {A B : Type 0} (f : A → B) (xs : List A) → map f xs ≡ [] → xs ≡ []
none_of f [] e = refl
none_of f (x ∷ xs) e = absurd cc

one_of : {A B : Type 0} (f : A → B) (xs : List A) (b : B) → map f xs ≡ b ∷ [] → (x : A) × (xs ≡ x ∷ [])
one_of f [] b e = absurd cc
one_of f (x ∷ []) b e = (x, refl)
one_of f (x ∷ y ∷ xs) b e = (let n : length (f x ∷ f y ∷ map f xs) ≡ 1 = ap length e in absurd (omega arith))

two_of : {A B : Type 0} (f : A → B) (xs : List A) (b c : B) → map f xs ≡ b ∷ c ∷ [] → (x : A) × (y : A) × (xs ≡ x ∷ y ∷ [])
two_of f [] b c e = absurd cc
two_of f (x ∷ []) b c e = (let n : length (f x ∷ []) ≡ 2 = ap length e in absurd (omega arith))
two_of f (x ∷ y ∷ []) b c e = (x, y, refl)
two_of f (x ∷ y ∷ z ∷ xs) b c e = (let n : length (f x ∷ f y ∷ f z ∷ map f xs) ≡ 2 = ap length e in absurd (omega arith))

absent_of : {A B : Type 0} (f : A → B) (x : Option A) → option_map f x ≡ None → x ≡ None
absent_of f None e = refl
absent_of f (Some a) e = absurd cc

present_of : {A B : Type 0} (f : A → B) (x : Option A) (b : B) → option_map f x ≡ Some b → (a : A) × (x ≡ Some a)
present_of f None b e = absurd cc
present_of f (Some a) b e = (a, refl)

there_of : {A : Type 0} (x : Option A) → is_some x ≡ true → (a : A) × (x ≡ Some a)
there_of None e = absurd cc
there_of (Some a) e = (a, refl)

lacking_of : {A : Type 0} (x : Option A) → is_some x ≡ false → x ≡ None
lacking_of None e = refl
lacking_of (Some a) e = absurd cc

-- The places of an errand

abbrev Within : List (List ℕ) → ℕ → Type 0
Within words place = place < length words

pub texts_within : (words : List (List ℕ)) (asked : Asked) → Asks words asked → All (Within words) (texts_of asked)
texts_within words (Print zone) print =
    let n : length words ≡ 4 = ap length print.spelled in
    All-cons (Within words) 1 [] (omega arith) (All-nil (Within words))
texts_within words Create create =
    let n : length words ≡ 3 = ap length create.spelled in
    All-cons (Within words) 1 [] (omega arith) (All-nil (Within words))
texts_within words Run run =
    let n : length words ≡ 4 = ap length run.spelled in
    All-cons (Within words) 1 (3 ∷ []) (omega arith) (All-cons (Within words) 3 [] (omega arith) (All-nil (Within words)))
texts_within words (Extract period) extract =
    let n : length words ≡ 6 = ap length extract.spelled in
    All-cons (Within words) 1 [] (omega arith) (All-nil (Within words))
texts_within words (Receipt nsr) receipt =
    let n : length words ≡ 4 = ap length receipt.spelled in
    All-cons (Within words) 1 [] (omega arith) (All-nil (Within words))
texts_within words Drill drill =
    let n : length words ≡ 2 = ap length drill.spelled in
    All-cons (Within words) 1 [] (omega arith) (All-nil (Within words))

pub outs_within : (words : List (List ℕ)) (asked : Asked) → Asks words asked → All (Within words) (outs_of asked)
outs_within words (Print zone) print =
    let n : length words ≡ 4 = ap length print.spelled in
    All-cons (Within words) 2 [] (omega arith) (All-nil (Within words))
outs_within words Create create = All-nil (Within words)
outs_within words Run run =
    let n : length words ≡ 4 = ap length run.spelled in
    All-cons (Within words) 3 [] (omega arith) (All-nil (Within words))
outs_within words (Extract period) extract =
    let n : length words ≡ 6 = ap length extract.spelled in
    All-cons (Within words) 5 [] (omega arith) (All-nil (Within words))
outs_within words (Receipt nsr) receipt = All-nil (Within words)
outs_within words Drill drill = All-nil (Within words)

pub disk_within : (words : List (List ℕ)) (asked : Asked) → Asks words asked → IfSome (disk_of asked) (Within words)
disk_within words (Print zone) print = tt
disk_within words Create create = (let n : length words ≡ 3 = ap length create.spelled in omega arith)
disk_within words Run run = (let n : length words ≡ 4 = ap length run.spelled in omega arith)
disk_within words (Extract period) extract = (let n : length words ≡ 6 = ap length extract.spelled in omega arith)
disk_within words (Receipt nsr) receipt = (let n : length words ≡ 4 = ap length receipt.spelled in omega arith)
disk_within words Drill drill = tt

-- The words at those places

texts_named : (words : List (List ℕ)) (asked : Asked) (asks : Asks words asked) → map (word_at words) (texts_of asked) ≡ text_paths words asked asks
texts_named words (Print zone) print = ap (λ (ws : List (List ℕ)). word_at ws 1 ∷ []) print.spelled
texts_named words Create create = ap (λ (ws : List (List ℕ)). word_at ws 1 ∷ []) create.spelled
texts_named words Run run = ap (λ (ws : List (List ℕ)). word_at ws 1 ∷ word_at ws 3 ∷ []) run.spelled
texts_named words (Extract period) extract = ap (λ (ws : List (List ℕ)). word_at ws 1 ∷ []) extract.spelled
texts_named words (Receipt nsr) receipt = ap (λ (ws : List (List ℕ)). word_at ws 1 ∷ []) receipt.spelled
texts_named words Drill drill = ap (λ (ws : List (List ℕ)). word_at ws 1 ∷ []) drill.spelled

outs_named : (words : List (List ℕ)) (asked : Asked) (asks : Asks words asked)
    → map (λ (place : ℕ). Some (word_at words place ++ ending_of (command_of asked))) (outs_of asked) ≡ map Some (out_paths words asked asks)
outs_named words (Print zone) print = ap (λ (ws : List (List ℕ)). Some (word_at ws 2 ++ []) ∷ []) print.spelled ∙ ap (λ (w : List ℕ). Some w ∷ []) (append-nil print.out)
outs_named words Create create = refl
outs_named words Run run = ap (λ (ws : List (List ℕ)). Some (word_at ws 3 ++ codes ".out") ∷ []) run.spelled
outs_named words (Extract period) extract = ap (λ (ws : List (List ℕ)). Some (word_at ws 5 ++ []) ∷ []) extract.spelled ∙ ap (λ (w : List ℕ). Some w ∷ []) (append-nil extract.out)
outs_named words (Receipt nsr) receipt = refl
outs_named words Drill drill = refl

disk_named : (words : List (List ℕ)) (asked : Asked) (asks : Asks words asked) → option_map (word_at words) (disk_of asked) ≡ disk_path words asked asks
disk_named words (Print zone) print = refl
disk_named words Create create = ap (λ (ws : List (List ℕ)). Some (word_at ws 2)) create.spelled
disk_named words Run run = ap (λ (ws : List (List ℕ)). Some (word_at ws 2)) run.spelled
disk_named words (Extract period) extract = ap (λ (ws : List (List ℕ)). Some (word_at ws 2)) extract.spelled
disk_named words (Receipt nsr) receipt = ap (λ (ws : List (List ℕ)). Some (word_at ws 2)) receipt.spelled
disk_named words Drill drill = refl

-- The way in which the journal is used

access_named : (asked : Asked) → option_map (λ (place : ℕ). access_for (command_of asked)) (disk_of asked) ≡ access_of asked
access_named (Print zone) = refl
access_named Create = refl
access_named Run = refl
access_named (Extract period) = refl
access_named (Receipt nsr) = refl
access_named Drill = refl

-- The rig

rigged_of : {S K D C P Q T : Type 0} (path : S → P) (target : K → Q) (root : D → T) (read : ℕ → P) (written : ℕ → Q) (kept : ℕ → T) (texts : List S) (outs : List K) (disk : Option D) (clock : Option C) (asked : Asked)
    → map path texts ≡ map read (texts_of asked) → map target outs ≡ map written (outs_of asked) → option_map root disk ≡ option_map kept (disk_of asked) → is_some clock ≡ clock_of asked
    → IsRigged asked texts outs disk clock
rigged_of path target root read written kept texts outs disk clock (Print zone) t o d w =
    let source = one_of path texts (read 1) t in
    let file = one_of target outs (written 2) o in
    let watch = there_of clock w in
    record { source = source.0; file = file.0; watch = watch.0; text_is = source.1; out_is = file.1; disk_is = absent_of root disk d; clock_is = watch.1 }
rigged_of path target root read written kept texts outs disk clock Create t o d w =
    let site = one_of path texts (read 1) t in
    let drive = present_of root disk (kept 2) d in
    let watch = there_of clock w in
    record { site = site.0; drive = drive.0; watch = watch.0; text_is = site.1; out_is = none_of target outs o; disk_is = drive.1; clock_is = watch.1 }
rigged_of path target root read written kept texts outs disk clock Run t o d w =
    let sources = two_of path texts (read 1) (read 3) t in
    let replies = one_of target outs (written 3) o in
    let drive = present_of root disk (kept 2) d in
    let watch = there_of clock w in
    record {
      site = sources.0;
      lane = sources.1;
      replies = replies.0;
      drive = drive.0;
      watch = watch.0;
      text_is = sources.2;
      out_is = replies.1;
      disk_is = drive.1;
      clock_is = watch.1;
    }
rigged_of path target root read written kept texts outs disk clock (Extract period) t o d w =
    let site = one_of path texts (read 1) t in
    let file = one_of target outs (written 5) o in
    let drive = present_of root disk (kept 2) d in
    let watch = there_of clock w in
    record {
      site = site.0;
      file = file.0;
      drive = drive.0;
      watch = watch.0;
      text_is = site.1;
      out_is = file.1;
      disk_is = drive.1;
      clock_is = watch.1;
    }
rigged_of path target root read written kept texts outs disk clock (Receipt nsr) t o d w =
    let site = one_of path texts (read 1) t in
    let drive = present_of root disk (kept 2) d in
    record { site = site.0; drive = drive.0; text_is = site.1; out_is = none_of target outs o; disk_is = drive.1; clock_is = lacking_of clock w }
rigged_of path target root read written kept texts outs disk clock Drill t o d w =
    let schedule = one_of path texts (read 1) t in
    record { schedule = schedule.0; text_is = schedule.1; out_is = none_of target outs o; disk_is = absent_of root disk d; clock_is = lacking_of clock w }

module _ {E S K D C : Type 0} (path : S → List ℕ) (target : K → Option (List ℕ)) (root : D → List ℕ) (words : List (List ℕ)) (made : Result (Rig S K D C) E) where
  pub rigged_if : (command : Command) (texts outs : List ℕ) (disk : Option ℕ) (clock : Bool)
      → ((asked : Asked) → Asks words asked → texts ≡ texts_of asked) → ((asked : Asked) → Asks words asked → outs ≡ outs_of asked)
      → ((asked : Asked) → Asks words asked → disk ≡ disk_of asked) → ((asked : Asked) → Asks words asked → clock ≡ clock_of asked)
      → IfOk made (λ rig. map path rig.texts.items ≡ map (word_at words) texts)
      → IfOk made (λ rig. map target rig.outs.items ≡ map (λ place. Some (word_at words place ++ ending_of command)) outs)
      → IfOk made (λ rig. option_map root rig.disk ≡ option_map (word_at words) disk)
      → IfOk made (λ rig. is_some rig.clock ≡ clock)
      → IfOk made (λ rig. (asked : Asked) → Asks words asked → IsRigged asked rig.texts.items rig.outs.items rig.disk rig.clock)
  rigged_if command texts outs disk clock ts os ds used t o d w = by made t o d w
    where
      by : (made : Result (Rig S K D C) E) → IfOk made (λ rig. map path rig.texts.items ≡ map (word_at words) texts)
          → IfOk made (λ rig. map target rig.outs.items ≡ map (λ place. Some (word_at words place ++ ending_of command)) outs)
          → IfOk made (λ rig. option_map root rig.disk ≡ option_map (word_at words) disk)
          → IfOk made (λ rig. is_some rig.clock ≡ clock)
          → IfOk made (λ rig. (asked : Asked) → Asks words asked → IsRigged asked rig.texts.items rig.outs.items rig.disk rig.clock)
      by (Err e) t o d w = tt
      by (Ok rig) t o d w = λ asked asks.
          rigged_of path target root (word_at words) (λ place. Some (word_at words place ++ ending_of command)) (word_at words) rig.texts.items rig.outs.items rig.disk rig.clock asked
          (t ∙ ap (map (word_at words)) (ts asked asks)) (o ∙ ap (map (λ place. Some (word_at words place ++ ending_of command))) (os asked asks))
          (d ∙ ap (option_map (word_at words)) (ds asked asks)) (w ∙ used asked asks)

  pub reads_if : (texts : List ℕ) → ((asked : Asked) → Asks words asked → texts ≡ texts_of asked)
      → IfOk made (λ rig. map path rig.texts.items ≡ map (word_at words) texts)
      → IfOk made (λ rig. (asked : Asked) (asks : Asks words asked) → map path rig.texts.items ≡ text_paths words asked asks)
  reads_if texts ts t = by made t
    where
      by : (made : Result (Rig S K D C) E) → IfOk made (λ rig. map path rig.texts.items ≡ map (word_at words) texts)
          → IfOk made (λ rig. (asked : Asked) (asks : Asks words asked) → map path rig.texts.items ≡ text_paths words asked asks)
      by (Err e) t = tt
      by (Ok rig) t = λ asked asks. t ∙ ap (map (word_at words)) (ts asked asks) ∙ texts_named words asked asks

  pub writes_if : (command : Command) (outs : List ℕ) → ((asked : Asked) → Asks words asked → command ≡ command_of asked) → ((asked : Asked) → Asks words asked → outs ≡ outs_of asked)
      → IfOk made (λ rig. map target rig.outs.items ≡ map (λ place. Some (word_at words place ++ ending_of command)) outs)
      → IfOk made (λ rig. (asked : Asked) (asks : Asks words asked) → map target rig.outs.items ≡ map Some (out_paths words asked asks))
  writes_if command outs cs os o = by made o
    where
      by : (made : Result (Rig S K D C) E) → IfOk made (λ rig. map target rig.outs.items ≡ map (λ place. Some (word_at words place ++ ending_of command)) outs)
          → IfOk made (λ rig. (asked : Asked) (asks : Asks words asked) → map target rig.outs.items ≡ map Some (out_paths words asked asks))
      by (Err e) o = tt
      by (Ok rig) o = λ asked asks.
          o ∙ ap (map (λ place. Some (word_at words place ++ ending_of command))) (os asked asks)
          ∙ ap (λ (c : Command). map (λ (place : ℕ). Some (word_at words place ++ ending_of c)) (outs_of asked)) (cs asked asks)
          ∙ outs_named words asked asks

  pub keeps_if : (disk : Option ℕ) → ((asked : Asked) → Asks words asked → disk ≡ disk_of asked)
      → IfOk made (λ rig. option_map root rig.disk ≡ option_map (word_at words) disk)
      → IfOk made (λ rig. (asked : Asked) (asks : Asks words asked) → option_map root rig.disk ≡ disk_path words asked asks)
  keeps_if disk ds d = by made d
    where
      by : (made : Result (Rig S K D C) E) → IfOk made (λ rig. option_map root rig.disk ≡ option_map (word_at words) disk)
          → IfOk made (λ rig. (asked : Asked) (asks : Asks words asked) → option_map root rig.disk ≡ disk_path words asked asks)
      by (Err e) d = tt
      by (Ok rig) d = λ asked asks. d ∙ ap (option_map (word_at words)) (ds asked asks) ∙ disk_named words asked asks

  pub uses_if : (used : D → Access) (command : Command) (disk : Option ℕ) → ((asked : Asked) → Asks words asked → command ≡ command_of asked)
      → ((asked : Asked) → Asks words asked → disk ≡ disk_of asked)
      → IfOk made (λ rig. option_map used rig.disk ≡ option_map (λ (place : ℕ). access_for command) disk)
      → IfOk made (λ rig. (asked : Asked) → Asks words asked → option_map used rig.disk ≡ access_of asked)
  uses_if used command disk cs ds d = by made d
    where
      by : (made : Result (Rig S K D C) E) → IfOk made (λ rig. option_map used rig.disk ≡ option_map (λ (place : ℕ). access_for command) disk)
          → IfOk made (λ rig. (asked : Asked) → Asks words asked → option_map used rig.disk ≡ access_of asked)
      by (Err e) d = tt
      by (Ok rig) d = λ asked asks.
          d ∙ ap (λ (c : Command). option_map (λ (place : ℕ). access_for c) disk) (cs asked asks)
          ∙ ap (option_map (λ (place : ℕ). access_for (command_of asked))) (ds asked asks)
          ∙ access_named asked
