-- The last lines that a command writes to its output: this project's own. LF ends each of them.
use Rattle.std.specs.Prelude.{ℕ, List, [], ◌∷◌, ◌++◌, codes, decimal}
use Rattle.std.specs.List.{concat}

-- a number behind a bar
abbrev pub barred : ℕ → List ℕ
barred number = codes "|" ++ decimal number

-- `RUN`, then how many lanes there were, how many lines were answered wholly, how many of them with a receipt and how
-- many refused, and how many entries the recorder has
unfoldable pub run_text : ℕ → ℕ → ℕ → ℕ → ℕ → List ℕ
run_text lanes lines receipts refused last =
    concat (codes "RUN" ∷ barred lanes ∷ barred lines ∷ barred receipts ∷ barred refused ∷ barred last ∷ codes "\n" ∷ [])

-- the line of a fault that has nothing to say but its status
unfoldable pub fault_text : ℕ → List ℕ
fault_text status = concat (codes "FAULT" ∷ barred status ∷ codes "\n" ∷ [])

-- the line of a lane's line that is refused, lanes and lines counted from 1
unfoldable pub lane_fault_text : ℕ → ℕ → List ℕ
lane_fault_text lane line = concat (codes "FAULT|3|LANE" ∷ barred lane ∷ barred line ∷ codes "\n" ∷ [])

-- the line of a text of settings that is no TOML, and of one that is refused for a key
unfoldable pub site_text_fault : List ℕ
site_text_fault = codes "FAULT|3|SITE|TEXT\n"

unfoldable pub site_key_fault : List ℕ → List ℕ
site_key_fault key = concat (codes "FAULT|3|SITE|" ∷ key ∷ codes "\n" ∷ [])

-- the line of a journal that was made
unfoldable pub created_text : List ℕ
created_text = codes "CREATED|1\n"

-- the lines of contents that a command can't take: of another kind, blank, those of a journal, or a damaged journal whose
-- broken frame has its gate at this place
unfoldable pub foreign_fault : List ℕ
foreign_fault = codes "FAULT|9|FOREIGN\n"

unfoldable pub blank_fault : List ℕ
blank_fault = codes "FAULT|9|BLANK\n"

unfoldable pub present_fault : List ℕ
present_fault = codes "FAULT|9|PRESENT\n"

unfoldable pub damaged_fault : ℕ → List ℕ
damaged_fault at = concat (codes "FAULT|9|DAMAGED" ∷ barred at ∷ codes "\n" ∷ [])
