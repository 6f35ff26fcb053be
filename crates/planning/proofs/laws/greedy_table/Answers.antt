use Rattle.planning.proofs.FewGifts.{few_gifts}
use Rattle.planning.proofs.Greedy.{greedy_exists, greedy_is_one, loop_facts_are_greedy}
use Rattle.planning.proofs.laws.greedy_table.Goals as goal

pub returns : goal.returns
returns c = record { exists = greedy_exists; one = greedy_is_one; made = loop_facts_are_greedy; few = few_gifts }
