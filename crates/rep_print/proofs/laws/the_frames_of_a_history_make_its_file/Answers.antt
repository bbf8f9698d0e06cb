use Rattle.rep_print.proofs.FileLemmas.{text_of_history}
use Rattle.rep_print.proofs.laws.the_frames_of_a_history_make_its_file.Goals as goal

pub returns : goal.returns
returns c = text_of_history c.an_extract_is_the_file_of_its_records.ensures
