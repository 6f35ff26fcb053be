use Rattle.std.proofs.Common.{◌+◌, ◌%◌, [], set, sym, refl, subst, arith}
use Rattle.std.proofs.lemmas.Fmt.{decimal_digit, decimal_step}
use Rattle.printer.specs.Puts.{Puts}
use Rattle.printer.proofs.DecimalLength.{digit_length, tenth_length}
use Rattle.printer.proofs.Writing.{byte_put}
use Rattle.printer.proofs.line.+write_number.Goals as goal

pub bounds-out-0 : goal.bounds-out-0
bounds-out-0 t c = omega (arith, digit_length c.args.n c.if-n-lt10.true)

pub returns-then-n-lt10 : goal.returns-then-n-lt10
returns-then-n-lt10 t c =
    let out = c.args.out.now in
    subst (λ text. Puts text out (set out 0 (48 + c.args.n)) 1) (sym (decimal_digit c.args.n c.if-n-lt10.true))
    (byte_put [] out out 0 (48 + c.args.n) (record { count = refl; behind = refl }) (bounds-out-0 t c))

pub write_number-at-requires : goal.write_number-at-requires
write_number-at-requires t c =
    let more = tenth_length c.args.n c.if-n-lt10.false (omega arith) in (omega arith, omega arith)

pub bounds-out-at : goal.bounds-out-at
bounds-out-at t c = omega (arith, tenth_length c.args.n c.if-n-lt10.false (omega arith))

pub returns : goal.returns
returns t c =
    let out = c.args.out.now in
    let r = c.write_number-at.result in
    let last = 48 + c.args.n % 10 in
    subst (λ text. Puts text out (set c.write_number-at.new.out r last) (r + 1)) (sym (decimal_step c.args.n c.if-n-lt10.false (omega arith)))
    (byte_put _ out c.write_number-at.new.out r last c.write_number-at.ensures (omega (arith, bounds-out-at t c)))
