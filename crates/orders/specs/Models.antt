use Rattle.std.specs.Prelude.{Bool, cond, ◌==◌, nat_le, nat_lt}
use Rattle.orders.specs.declared.candidate.Candidate.{Candidate}
use Rattle.orders.specs.declared.waiting.Waiting.{Waiting}

-- Candidates go by their number, and those with the same number by their task.
abbrev pub candidate_le : Candidate → Candidate → Bool
candidate_le x y = cond (x.number == y.number) (nat_le x.task y.task) (nat_lt x.number y.number)

-- Waiting jobs go by their end, those with the same end by their task, and those of one task by
-- their job.
abbrev pub waiting_le : Waiting → Waiting → Bool
waiting_le x y =
    cond (x.end == y.end)
    (cond (x.task == y.task) (nat_le x.job y.job) (nat_lt x.task y.task))
    (nat_lt x.end y.end)
