use Rattle.std.proofs.Common.{◌≡◌, arith, rules}
use borrow.Author.Tests.{tests}
use Rattle.std.proofs.lemmas.Bool.Decides.{nat_tests}
use Rattle.std.proofs.lemmas.Iterator.{YieldsList-from_slice}
use Rattle.std.proofs.lemmas.Iterator.Search.{all_from_yields_List}
use Rattle.sheets.specs.Sheets.{are_name_bytes, is_a_name_byte}
use Rattle.sheets.proofs.names.is_name.Goals as goal

pub returns-then-contains : goal.returns-then-contains
returns-then-contains c =
    let bytes : c.all.result ≡ are_name_bytes c.args.bytes.now
    = all_from_yields_List is_a_name_byte _ _ c.all.result c.all.ensures.ran (YieldsList-from_slice c.args.bytes.now (cc)) (λ x b q k. search (rules, tests)) in
    grind (arith, nat_tests)
