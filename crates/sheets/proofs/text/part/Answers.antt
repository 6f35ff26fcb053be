use Rattle.std.proofs.Common.{ap, refl, ◌∙◌, rules}
use borrow.Author.Tests.{tests}
use Rattle.std.proofs.lemmas.Iterator.Consumers.{nth_from_yields_List}
use Rattle.sheets.specs.Text.{parts}
use Rattle.sheets.proofs.PartsSplit.{found_or_none, parts_yielded}
use Rattle.sheets.proofs.text.part.Goals as goal

pub returns : goal.returns
returns c =
    let split = c.split.ensures in
    ap (λ x. x.now) c.unwrap_or.ensures
    ∙ found_or_none (parts c.args.separator c.args.text.now) c.args.before c.nth.result _ refl
    (nth_from_yields_List c.nth.result _ c.args.before c.nth.ensures.ran (parts_yielded _ c.args.separator c.args.text.now split.rest split.done split.closure (λ x b q k. search (rules, tests))))
