use Rattle.std.proofs.Common.{◌≡◌, ℕ, get_or, vec_items, Some, sym, subst, refl, ap, ◌∙◌, inl, inr, arith}
use Rattle.books.specs.Meaning.{Meaning}
use Rattle.planning.specs.Charges.{figures_at}
use Rattle.planning.specs.Plans.{Prepared, book_jobs, jobs_in}
use Rattle.planning.specs.SizeFound.{SizeFound}
use Rattle.planning.specs.Windows.{jobs_of}
use Rattle.planning.proofs.LeastWork.{chosen_least_work}
use Rattle.planning.proofs.plan.make.make_plan.Given as given
use Rattle.planning.proofs.plan.make.make_plan.Goals as goal
use Rattle.planning.proofs.plan.make.make_plan.Goals.{After-count_jobs-jobs, After-list_anew}

-- what the book means, and the periods chosen
abbrev meant : (g : given.Over) → After-count_jobs-jobs g → Meaning
meant g c = g.B.Book.means c.args.book.now

abbrev period : (g : given.Over) → After-count_jobs-jobs g → ℕ → ℕ
period g c t = get_or c.chosen_periods-periods.result.items t 0

-- questions 4 to 7 got a yes
prepared : (g : given.Over) (c : After-count_jobs-jobs g) → Prepared (meant g c) c.args.figures.now c.args.ceiling c.in_ok-hyperperiod.hyperperiod (period g c)
prepared g c =
    let sought = c.in_ok-hyperperiod.ensures in
    record { ceiling_fits = sought.0; count_fits = sought.1; charged = sought.2; least = sought.3; chosen = c.chosen_periods-periods.ensures.chosen }

-- the jobs of all tasks are counted
counted : (g : given.Over) (c : After-count_jobs-jobs g) → c.count_jobs-jobs.result ≡ jobs_in c.in_ok-hyperperiod.hyperperiod (period g c) (meant g c).count
counted g c =
    (rw c.as_slice.ensures.value at c.count_jobs-jobs.ensures) ∙ ap (jobs_in c.in_ok-hyperperiod.hyperperiod (period g c)) c.chosen_periods-periods.ensures.count

-- the jobs listed are the book's
listed : (g : given.Over) (c : After-list_anew g) → vec_items c.list_anew.new.self.list ≡ book_jobs (g.B.Book.means c.args.book.now) c.args.figures.now c.in_ok-hyperperiod.hyperperiod (λ t. get_or c.chosen_periods-periods.result.items t 0)
listed g c =
    (rw c.as_slice-2.ensures.value at c.list_anew.ensures)
    ∙ ap (jobs_of c.in_ok-hyperperiod.hyperperiod (λ t. get_or c.chosen_periods-periods.result.items t 0) (figures_at c.args.figures.now)) c.chosen_periods-periods.ensures.count

pub returns-then-jobs-gt1024 : goal.returns-then-jobs-gt1024
returns-then-jobs-gt1024 g c =
    let at = (goal.at.returns-then-jobs-gt1024 g c).After-count_jobs-jobs in (
      inr (inr (inr (inl (
        refl,
        refl,
        record {
          hyperperiod = c.in_ok-hyperperiod.hyperperiod;
          period = period g at;
          prepared = prepared g at;
          many = omega (arith, counted g at);
        },
      )))),
      refl,
    )

pub returns-in_default : goal.returns-in_default
returns-in_default g c =
    let at = (goal.at.returns-in_default g c).After-count_jobs-jobs in (
      inr (inr (inr (inr (
        refl,
        refl,
        record {
          hyperperiod = c.in_ok-hyperperiod.hyperperiod;
          period = period g at;
          prepared = prepared g at;
          few = omega (arith, counted g at);
          overloaded = rw (listed g (goal.at.returns-in_default g c).After-list_anew) at c.in_default.ensures;
        },
      )))),
      refl,
    )

pub returns : goal.returns
returns g c =
    let at = (goal.at.returns g c).After-count_jobs-jobs in
    let found = rw (listed g (goal.at.returns g c).After-list_anew) at c.in-Some.ensures in
    let swapped : vec_items c.swap.new.x ≡ vec_items c.largest_size.new.table.rows = ap vec_items c.swap.ensures.x_after in
    record {
      tasks = c.chosen_periods-periods.ensures.count;
      prepared = prepared g at;
      work = chosen_least_work (meant g at) c.chosen_periods-periods.ensures.fair c.in_ok-hyperperiod.hyperperiod (figures_at c.args.figures.now) (period g at) c.chosen_periods-periods.ensures.chosen;
      jobs = counted g at;
      few = c.if-jobs-gt1024.false;
      size = found.0;
      frames = refl;
      rows = (subst (λ rows. SizeFound (book_jobs (meant g at) c.args.figures.now c.in_ok-hyperperiod.hyperperiod (period g at)) c.in_ok-hyperperiod.hyperperiod rows (Some c.in-Some.frame_size)) (sym swapped) found).1;
    }
