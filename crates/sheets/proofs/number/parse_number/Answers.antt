use Rattle.std.proofs.Common.{◌≡◌, ◌≤◌, get_or, arith, rules}
use Rattle.std.specs.Str.Parse.{AllDigits, digits_value}
use Rattle.std.proofs.lemmas.List.{take_all}
use Rattle.std.proofs.lemmas.Bool.Decides.{nat_tests}
use Rattle.sheets.specs.Numerals.{value}
use Rattle.sheets.proofs.NumberRead.{few_small, more_digits, more_value, no_digit, number_read, own}
use Rattle.sheets.proofs.number.parse_number.Goals as goal

pub returns-then-not-is_ascii_digit : goal.returns-then-not-is_ascii_digit
returns-then-not-is_ascii_digit c =
    no_digit c.args.bytes.now c.loop-byte.byte-index (search rules) (λ digit. grind (arith, nat_tests))

pub overflow_mul-number : goal.overflow_mul-number
overflow_mul-number c =
    omega (arith, few_small c.args.bytes.now c.loop-byte.byte-index (search rules) c.loop-byte.invariant.0 (grind (arith, nat_tests)))

pub overflow_add-number : goal.overflow_add-number
overflow_add-number c =
    omega (arith, few_small c.args.bytes.now c.loop-byte.byte-index (search rules) c.loop-byte.invariant.0 (grind (arith, nat_tests)))

pub loop-byte-preserved : goal.loop-byte-preserved
loop-byte-preserved c =
    let bytes = c.args.bytes.now in
    let i = c.loop-byte.byte-index in
    let low : 48 ≤ get_or bytes i 0 = grind (arith, nat_tests) in
    let high : get_or bytes i 0 ≤ 57 = grind (arith, nat_tests) in
    let digits = more_digits bytes i (search rules) c.loop-byte.invariant.0 low high in
    let more = more_value bytes i (search rules) c.loop-byte.invariant.0 low high in
    (digits, (cc))

pub returns : goal.returns
returns c =
    let whole = take_all c.loop-byte.byte-index c.args.bytes.now (search rules) in
    let digits : AllDigits 10 c.args.bytes.now = rw whole at c.loop-byte.invariant.0 in
    let read : c.loop-byte.number ≡ digits_value 10 c.args.bytes.now = rw whole at c.loop-byte.invariant.1 in
    let same = own.same c.args.bytes.now digits in
    let number : c.loop-byte.number ≡ value c.args.bytes.now = cc in
    rw (c.then_some.ensures, number) (number_read c.args.bytes.now (record {
      digits = own.from c.args.bytes.now digits;
      some = grind (arith, nat_tests);
      few = grind (arith, nat_tests);
      first = search rules;
    }))
