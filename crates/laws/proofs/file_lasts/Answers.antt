use Rattle.laws.proofs.file_lasts.Goals as goal
use Rattle.model.specs.Promise.{all, thin}
use Rattle.laws.proofs.FileLasts.{file_lasts}

pub returns : goal.returns
returns c = (file_lasts all, file_lasts thin)
