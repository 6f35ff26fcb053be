use Rattle.std.proofs.Common.{◌≡◌, ℕ, ◌/◌, ◌<◌, get_or, vec_len}
use Rattle.planning.specs.Charges.{figures_at}
use Rattle.planning.specs.Placing.{Sum}
use Rattle.planning.specs.Windows.{jobs_of}
use Rattle.planning.proofs.job_list.JobList.list_anew.Given as goal

abbrev pub invariant-loop-task : goal.invariant-loop-task
invariant-loop-task l =
    let counts : ℕ → ℕ = λ t. l.hyperperiod / get_or l.periods t 0 in
    (l.self.list.items ≡ jobs_of l.hyperperiod (λ t. get_or l.periods t 0) (figures_at l.figures) l.task) × (vec_len l.self.list ≡ Sum l.task counts)
    × ((t : ℕ) → t < l.task → get_or l.self.firsts t 0 ≡ Sum t counts)
