use Rattle.std.proofs.Common.{◌-◌, rules}
use borrow.Author.Tests.{tests}
use Rattle.std.specs.Str.{bytes_eq}
use Rattle.std.proofs.lemmas.Iterator.{YieldsList-from_map_by, YieldsList-from_take}
use Rattle.std.proofs.lemmas.Iterator.Search.{any_from_yields_List}
use Rattle.std.proofs.lemmas.Iterator.Consumers.{YieldsList-at}
use Rattle.sheets.specs.Lines.{name_in}
use Rattle.sheets.proofs.PartsSplit.{parts_yielded}
use Rattle.sheets.proofs.names.is_taken.Goals as goal

pub returns : goal.returns
returns c =
    let split = c.split.ensures in
    any_from_yields_List (λ earlier. bytes_eq c.args.name.now earlier) _ _ c.any.result c.any.ensures.ran
    (YieldsList-from_map_by _ (λ x. x.now) name_in (YieldsList-at c.map.ensures.source
    (YieldsList-from_take (c.args.line.number - 1) (YieldsList-at c.take.ensures.source
    (parts_yielded _ 10 c.args.line.sheet.now split.rest split.done split.closure (λ x b q k. search (rules, tests)))) c.take.ensures.count))
    c.map.ensures.closure (λ x r q k. search rules)) (λ x b q k. search (rules, tests))
