use Rattle.tables.proofs.lookup.found_after.Goals as goal
use Rattle.tables.proofs.Bodies.{has_then}
use Rattle.model_facts.proofs.Nodes.{find_with_other, find_without_other}

pub returns : goal.returns
returns c = λ i ts p s b. (has_then s b, λ k ne. find_with_other k i b ts ne, λ k ne. find_without_other k i ts ne)
