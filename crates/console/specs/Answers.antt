use Rattle.std.specs.Prelude.{◌≡◌, ℕ, ◌⊎◌, List, Some, Ok, Err, Result}
use Rattle.run.specs.Account.{Account, Standing}
use Rattle.run.specs.Agrees.{planned}
use Rattle.run.specs.declared.planner.calls.Granted.{Granted}
use Rattle.prepare.specs.Faults.{notice_of}
use Rattle.prepare.specs.Prepared.{FaultDue, SheetsCarried, sheets_meaning}
use Rattle.prepare.specs.declared.fault.PrepareFault.{PrepareFault}
use Rattle.printer.specs.Printed.{TextOf, Written}
use Rattle.printer.specs.Text.{refused_line}
use Rattle.console.specs.declared.error.AnswerError.{AnswerError}
use Rattle.console.specs.declared.error.AnswerError.TheVariants.{Memory, Printing}

-- The text of the plan that two sheets get: the calls that they ask for end with a plan that is granted, and the text
-- is that of the plan which then stands.
pub record PlanTold (ranges lists : List ℕ) (step ceiling : ℕ) (text : List ℕ) : Type 0 where
  pub granted : Granted
  pub account : Account
  pub carried : SheetsCarried ranges lists step ceiling (planned (Ok granted)) account
  pub kept : Standing
  pub stands : account.plan ≡ Some kept
  pub told : TextOf (sheets_meaning ranges lists step) kept text

-- The line of the refusal that two sheets get.
pub record FaultTold (ranges lists : List ℕ) (step ceiling : ℕ) (text : List ℕ) : Type 0 where
  pub fault : PrepareFault
  pub due : FaultDue ranges lists step ceiling fault
  pub told : text ≡ refused_line (notice_of fault).number (notice_of fault).sheet (notice_of fault).line (notice_of fault).field

-- The text that two sheets are answered with: a plan, or a refusal.
abbrev pub Told : List ℕ → List ℕ → ℕ → ℕ → List ℕ → Type 0
Told ranges lists step ceiling text = PlanTold ranges lists step ceiling text ⊎ FaultTold ranges lists step ceiling text

-- The answer to two sheets, and the buffer afterwards: their text, printed. Where memory is wanting the buffer is as
-- it was.
abbrev pub Answered : List ℕ → List ℕ → ℕ → ℕ → List ℕ → List ℕ → Result ℕ AnswerError → Type 0
Answered ranges lists step ceiling before after (Ok n) = (text : List ℕ) × Told ranges lists step ceiling text × Written text before after (Ok n)
Answered ranges lists step ceiling before after (Err (Printing refusal)) = (text : List ℕ) × Told ranges lists step ceiling text × Written text before after (Err refusal)
Answered ranges lists step ceiling before after (Err (Memory wanting)) = after ≡ before
