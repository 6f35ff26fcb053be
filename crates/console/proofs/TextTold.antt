use Rattle.std.proofs.Common.{◌≡◌, ℕ, List, Result, ap, subst, inl, inr}
use Rattle.books.specs.declared.grid.Grid.{Grid}
use Rattle.books.specs.declared.list_book.ListBook.{ListBook}
use Rattle.books.specs.declared.range_book.RangeBook.{RangeBook}
use Rattle.books.specs.declared.side_by_side.SideBySide.{SideBySide}
use Rattle.run.specs.Account.{Account, Standing}
use Rattle.run.specs.Agrees.{Agrees}
use Rattle.run.specs.declared.planner.Planner.{Planner}
use Rattle.run.specs.declared.planner.calls.Granted.{Granted}
use Rattle.sheets.specs.declared.notice.Notice.{Notice}
use Rattle.prepare.specs.Faults.{notice_of}
use Rattle.prepare.specs.Prepared.{FaultDue, Ready, book_means}
use Rattle.prepare.specs.declared.fault.PrepareFault.{PrepareFault}
use Rattle.printer.specs.Printed.{PlanPrinted, TextOf, Written}
use Rattle.printer.specs.Text.{refused_line}
use Rattle.printer.specs.declared.refusal.PrintRefusal.{PrintRefusal}
use Rattle.console.specs.Answers.{Told}

-- A planner that is ready prints the text of the plan that the two sheets get.
pub plan_told : {ranges lists : List ℕ} {step ceiling : ℕ} {granted : Granted} {p : Planner (Grid (SideBySide RangeBook ListBook))} (before after : List ℕ) (answer : Result ℕ PrintRefusal)
    → Ready ranges lists step ceiling granted p
    → ((a : Account) → Agrees book_means p a → PlanPrinted (book_means p.book) a.plan before after answer)
    → (text : List ℕ) × Told ranges lists step ceiling text × Written text before after answer
plan_told {granted = granted} {p = p} before after answer ready prints =
    let kept : Standing = record { hyperperiod = granted.hyperperiod; size = granted.frame_size; figures = ready.stands.0 } in
    let printed = subst (λ plan. PlanPrinted (book_means p.book) plan before after answer) ready.stands.1 (prints ready.account ready.agrees) in (
      printed.0,
      inl (record {
        granted = granted;
        account = ready.account;
        carried = ready.carried;
        kept = kept;
        stands = ready.stands.1;
        told = subst (λ m. TextOf m kept printed.0) ready.meaning printed.1;
      }),
      printed.2,
    )

-- The notice of a fault that is due prints the line of the refusal that the two sheets get.
pub fault_told : (ranges lists : List ℕ) (step ceiling : ℕ) (fault : PrepareFault) (notice : Notice) (before after : List ℕ) (answer : Result ℕ PrintRefusal)
    → FaultDue ranges lists step ceiling fault → notice ≡ notice_of fault
    → Written (refused_line notice.number notice.sheet notice.line notice.field) before after answer
    → (text : List ℕ) × Told ranges lists step ceiling text × Written text before after answer
fault_told ranges lists step ceiling fault notice before after answer due same written = (
  refused_line notice.number notice.sheet notice.line notice.field,
  inr (record { fault = fault; due = due; told = ap (λ n. refused_line n.number n.sheet n.line n.field) same }),
  written,
)
