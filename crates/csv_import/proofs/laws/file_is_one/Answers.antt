use Rattle.csv_import.proofs.OneFile.{file_is_one}
use Rattle.csv_import.proofs.laws.file_is_one.Goals as goal

pub returns : goal.returns
returns c = file_is_one
