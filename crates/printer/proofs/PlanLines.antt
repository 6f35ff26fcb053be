use Rattle.std.proofs.Common.{◌≡◌, ℕ, ◌+◌, ◌-◌, ◌≤◌, List, [], ◌∷◌, ◌++◌, length, take, drop, None, Ok, Err, Option, Result, vec_items, codes, sym, refl, ap, ◌∙◌, subst}
use borrow.Rule.Slice.PartMut.{put_mid}
use Rattle.std.proofs.lemmas.List.{append_assoc, length-append}
use Rattle.planning.specs.declared.job.Row.{Row}
use Rattle.planning.specs.Plans.{tasks_in}
use Rattle.planning.specs.declared.plan.Plan.{Plan}
use Rattle.printer.specs.Printed.{Written}
use Rattle.printer.specs.Puts.{Leaves, Puts}
use Rattle.printer.specs.Text.{line_text, lines_of, period_lines, slice_lines, text_of}
use Rattle.printer.proofs.PeriodsTaken.{periods_taken}
use Rattle.printer.proofs.Writing.{part_put}
use Rattle.printer.specs.declared.refusal.PrintRefusal.{PrintRefusal}
use Rattle.printer.specs.declared.refusal.PrintRefusal.TheVariants.{TooShort}

-- With what is read of a plan, its lines are its text.
pub lines_of_plan :
    (plan : Plan) {hyperperiod size jobs count : ℕ} {periods : List ℕ} {rows : List Row}
    → hyperperiod ≡ plan.hyperperiod
    → size ≡ plan.frame_size
    → jobs ≡ plan.jobs
    → count ≡ length (vec_items plan.rows)
    → periods ≡ plan.periods.items
    → length periods ≡ tasks_in plan
    → rows ≡ vec_items plan.rows
    → lines_of (hyperperiod ∷ size ∷ jobs ∷ count ∷ []) periods rows ≡ text_of plan
lines_of_plan plan {periods = periods} h s j n p all r = rw (h, s, j, n, periods_taken (tasks_in plan) plan.periods.items periods p all, r)

-- They are as long as all together.
pub lines_length : (numbers periods : List ℕ) (rows : List Row) → length (lines_of numbers periods rows) ≡ length (line_text (codes "plan") numbers) + (length (period_lines 0 periods) + length (slice_lines rows))
lines_length numbers periods rows =
    length-append (line_text (codes "plan") numbers) (period_lines 0 periods ++ slice_lines rows) ∙ ap (λ n. length (line_text (codes "plan") numbers) + n) (length-append (period_lines 0 periods) (slice_lines rows))

-- They are put one behind the other.
pub lines_put :
    (numbers periods : List ℕ) (rows : List Row) (before first second periods_tail rows_tail : List ℕ) (a b c : ℕ)
    → second ≡ put_mid a (length first - a) first periods_tail
    → Puts (line_text (codes "plan") numbers) before first a
    → Puts (period_lines 0 periods) (take (length first - a) (drop a first)) periods_tail b
    → Puts (slice_lines rows) (take (length second - (a + b)) (drop (a + b) second)) rows_tail c
    → Puts (lines_of numbers periods rows) before (put_mid (a + b) (length second - (a + b)) second rows_tail) (a + b + c)
lines_put numbers periods rows before first second periods_tail rows_tail a b c is_second line_put periods_put rows_put =
    let line = line_text (codes "plan") numbers in
    let front : Puts (line ++ period_lines 0 periods) before second (a + b) =
    rw is_second (part_put line (period_lines 0 periods) before first periods_tail a b line_put periods_put) in
    subst (λ text. Puts text before (put_mid (a + b) (length second - (a + b)) second rows_tail) (a + b + c)) (append_assoc line (period_lines 0 periods) (slice_lines rows))
    (part_put (line ++ period_lines 0 periods) (slice_lines rows) before second rows_tail (a + b) c front rows_put)

-- What is put is written where it fits.
pub text_written : {lines text before after : List ℕ} {n : ℕ} → lines ≡ text → Puts lines before after n → length lines ≤ length before → Written text before after (Ok n)
text_written {before = before} {after = after} {n = n} same p room =
    subst (λ text. Written text before after (Ok n)) same (p.count, room, p.behind)

-- What leaves no room is refused as too long.
pub text_too_long : {lines text : List ℕ} (before : List ℕ) {room : Option ℕ} {answer : Result ℕ PrintRefusal} → lines ≡ text → room ≡ None → Leaves lines (length before) room → answer ≡ Err TooShort → Written text before before answer
text_too_long before same none long refused =
    rw (sym same, refused) (refl, subst (Leaves _ (length before)) none long, refl)
