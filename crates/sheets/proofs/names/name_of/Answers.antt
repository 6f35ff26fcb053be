use Rattle.std.proofs.Common.{sym, ◌∙◌, rules}
use borrow.Author.Tests.{tests}
use Rattle.std.proofs.lemmas.Iterator.{YieldsList-from_map_by, YieldsList-from_take}
use Rattle.std.proofs.lemmas.Iterator.Consumers.{YieldsList-at, YieldsList-from_chain, nth_from_yields_List}
use Rattle.books.specs.Sets.{lists_of, ranges_of}
use Rattle.sheets.specs.Entries.{list_layout, range_layout}
use Rattle.sheets.specs.Lines.{name_in}
use Rattle.sheets.proofs.NameFound.{name_of_both, reading_held}
use Rattle.sheets.proofs.PartsSplit.{parts_yielded}
use Rattle.sheets.proofs.names.name_of.Goals as goal

pub returns : goal.returns
returns c =
    let ranges = c.split.ensures in
    let lists = c.split-2.ensures in
    let first = reading_held ranges_of range_layout c.args.ranges.now c.read_ranges.result c.in_ok-ok.field-0 (sym c.ok.ensures.value ∙ c.in_ok-ok.was) c.read_ranges.ensures in
    let second = reading_held lists_of list_layout c.args.lists.now c.read_lists.result c.in_ok-ok-2.field-0 (sym c.ok-2.ensures.value ∙ c.in_ok-ok-2.was) c.read_lists.ensures in
    nth_from_yields_List c.nth.result _ c.args.task c.nth.ensures.ran
    (YieldsList-from_map_by _ (λ x. x.now) name_in
    (YieldsList-at c.map.ensures.source (YieldsList-from_chain
    (YieldsList-at c.chain.ensures.first (YieldsList-from_take _ (YieldsList-at c.take-ranges.ensures.source
    (parts_yielded _ 10 c.args.ranges.now ranges.rest ranges.done ranges.closure (λ x b q k. search (rules, tests))))
    (c.take-ranges.ensures.count ∙ c.count-first.ensures)))
    (YieldsList-at c.chain.ensures.second (YieldsList-from_take _ (YieldsList-at c.take-lists.ensures.source
    (parts_yielded _ 10 c.args.lists.now lists.rest lists.done lists.closure (λ x b q k. search (rules, tests))))
    (c.take-lists.ensures.count ∙ c.count-second.ensures)))
    c.chain.ensures.first_done c.chain.ensures.second_done))
    c.map.ensures.closure (λ x r q k. search rules))
    ∙ name_of_both c.args.ranges.now c.args.lists.now c.in_ok-ok.field-0 c.in_ok-ok-2.field-0 c.args.task first second
