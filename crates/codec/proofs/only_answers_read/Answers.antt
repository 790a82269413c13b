use Rattle.codec.proofs.AnswersBack.{only_answers}
use Rattle.codec.proofs.only_answers_read.Goals as goal

pub returns : goal.returns
returns c = only_answers
