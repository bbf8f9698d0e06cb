-- What a command is handed: its texts, files, disk and clock, by their names.
use Rattle.std.specs.Prelude.{◌≡◌, List, [], ◌∷◌, Option, None, Some}
use Rattle.rep_words.specs.declared.words.Asked.{Asked}
use Rattle.rep_words.specs.declared.words.Asked.TheVariants.{Print, Create, Run, Extract, Receipt, Drill}

-- `print`: the lane's text, the file of its AFD, and the clock
pub record PrintRig {S K D C : Type 0} (texts : List S) (outs : List K) (disk : Option D) (clock : Option C) : Type 0 where
  pub source : S
  pub file : K
  pub watch : C
  pub text_is : texts ≡ source ∷ []
  pub out_is : outs ≡ file ∷ []
  pub disk_is : disk ≡ None
  pub clock_is : clock ≡ Some watch

-- `create`: the site's text, the disk that the journal is made on, and the clock
pub record CreateRig {S K D C : Type 0} (texts : List S) (outs : List K) (disk : Option D) (clock : Option C) : Type 0 where
  pub site : S
  pub drive : D
  pub watch : C
  pub text_is : texts ≡ site ∷ []
  pub out_is : outs ≡ []
  pub disk_is : disk ≡ Some drive
  pub clock_is : clock ≡ Some watch

-- `run`: the site's text, the lane's text, the file of its replies, the disk of the journal, and the clock
pub record RunRig {S K D C : Type 0} (texts : List S) (outs : List K) (disk : Option D) (clock : Option C) : Type 0 where
  pub site : S
  pub lane : S
  pub replies : K
  pub drive : D
  pub watch : C
  pub text_is : texts ≡ site ∷ lane ∷ []
  pub out_is : outs ≡ replies ∷ []
  pub disk_is : disk ≡ Some drive
  pub clock_is : clock ≡ Some watch

-- `extract`: the site's text, the file of the AFD, the disk of the journal, and the clock
pub record ExtractRig {S K D C : Type 0} (texts : List S) (outs : List K) (disk : Option D) (clock : Option C) : Type 0 where
  pub site : S
  pub file : K
  pub drive : D
  pub watch : C
  pub text_is : texts ≡ site ∷ []
  pub out_is : outs ≡ file ∷ []
  pub disk_is : disk ≡ Some drive
  pub clock_is : clock ≡ Some watch

-- `receipt`: the site's text and the disk of the journal
pub record ReceiptRig {S K D C : Type 0} (texts : List S) (outs : List K) (disk : Option D) (clock : Option C) : Type 0 where
  pub site : S
  pub drive : D
  pub text_is : texts ≡ site ∷ []
  pub out_is : outs ≡ []
  pub disk_is : disk ≡ Some drive
  pub clock_is : clock ≡ None

-- `drill`: the schedule's text
pub record DrillRig {S K D C : Type 0} (texts : List S) (outs : List K) (disk : Option D) (clock : Option C) : Type 0 where
  pub schedule : S
  pub text_is : texts ≡ schedule ∷ []
  pub out_is : outs ≡ []
  pub disk_is : disk ≡ None
  pub clock_is : clock ≡ None

-- just the texts, files, disk and clock that are used for what is asked
abbrev pub IsRigged : {S K D C : Type 0} → Asked → List S → List K → Option D → Option C → Type 0
IsRigged (Print zone) texts outs disk clock = PrintRig texts outs disk clock
IsRigged Create texts outs disk clock = CreateRig texts outs disk clock
IsRigged Run texts outs disk clock = RunRig texts outs disk clock
IsRigged (Extract period) texts outs disk clock = ExtractRig texts outs disk clock
IsRigged (Receipt nsr) texts outs disk clock = ReceiptRig texts outs disk clock
IsRigged Drill texts outs disk clock = DrillRig texts outs disk clock
