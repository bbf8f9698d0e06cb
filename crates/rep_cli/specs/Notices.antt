-- What the program tells of itself, and the word that asks for it: this project's own.
use Rattle.std.specs.Prelude.{ℕ, List, codes}
use Rattle.rep_cli.specs.declared.notice.Notice.{Notice}
use Rattle.rep_cli.specs.declared.notice.Notice.TheVariants.{Help, Version}

-- the word that asks for a notice where it is the only one
abbrev pub notice_word : Notice → List ℕ
notice_word Help = codes "--help"
notice_word Version = codes "--version"
