use Rattle.afd_extract.proofs.History.{extract_of_history}
use Rattle.afd_extract.proofs.laws.an_extract_is_the_file_of_its_records.Goals as goal

pub returns : goal.returns
returns c = extract_of_history
