use Rattle.std.specs.Prelude.{◌≡◌, ℕ, ◌<◌, ◌≤◌, List, ◌++◌, length, drop, Some, None, Ok, Err, Option, Result}
use Rattle.books.specs.Meaning.{Meaning}
use Rattle.planning.specs.Plans.{jobs_in}
use Rattle.planning.specs.declared.job.Row.{Row}
use Rattle.run.specs.Account.{Standing}
use Rattle.run.specs.Right.{TableOf}
use Rattle.sheets.specs.declared.notice.Notice.{Notice}
use Rattle.printer.specs.Text.{periods_to, plan_text}
use Rattle.printer.specs.declared.refusal.PrintRefusal.{PrintRefusal}
use Rattle.printer.specs.declared.refusal.PrintRefusal.TheVariants.{NoPlan, TooShort}

-- The number of each refusal's question: does a plan stand, and is the buffer long enough for all lines?
abbrev pub number : PrintRefusal → ℕ
number NoPlan = 10
number TooShort = 19

-- A refusal to print as it is reported: the planner's, with no sheet, line or field.
abbrev pub notice_of : PrintRefusal → Notice
notice_of refusal = record { number = number refusal; sheet = 0; line = 0; field = 0 }

-- The text is that of the plan which stands, by the book's meaning and what was kept of it.
pub record TextOf (m : Meaning) (k : Standing) (text : List ℕ) : Type 0 where
  pub rows : List Row
  pub table : TableOf m k rows
  pub written : text ≡ plan_text k.hyperperiod k.size (jobs_in k.hyperperiod table.period m.count) (periods_to m.count table.period) rows

-- Printing a text: it is written whole into the front of the buffer, and every byte behind it is as before; the
-- answer is its length. Where the buffer is too short, that is the refusal, and every byte is as before.
abbrev pub Written : List ℕ → List ℕ → List ℕ → Result ℕ PrintRefusal → Type 0
Written text before after (Ok n) = (n ≡ length text) × (length text ≤ length before) × (after ≡ text ++ drop n before)
Written text before after (Err refusal) = (refusal ≡ TooShort) × (length before < length text) × (after ≡ before)

-- Printing the plan that stands: refused where none does, with every byte as before.
abbrev pub PlanPrinted : Meaning → Option Standing → List ℕ → List ℕ → Result ℕ PrintRefusal → Type 0
PlanPrinted m None before after answer = (answer ≡ Err NoPlan) × (after ≡ before)
PlanPrinted m (Some k) before after answer = (text : List ℕ) × TextOf m k text × Written text before after answer
