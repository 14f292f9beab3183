-- `words_in` puts the words into the first places: the loop's words are the parts between blanks that
-- are not empty (`taken`), and each turn puts one more (`one_taken`).
use Rattle.std.proofs.Common.{rules, tests, ◌∙◌, sym, ap, length}
use Rattle.std.proofs.lemmas.Iterator.{YieldsList-from_take}
use Rattle.std.proofs.lemmas.Iterator.Splits.{YieldsList-from_slice_split}
use Rattle.std.proofs.lemmas.Iterator.Consumers.{YieldsList-from_filter, YieldsList-from_enumerate, YieldsList-at, YieldsList-turn, YieldsList-end}
use Rattle.wording.specs.Token.{is_blank}
use Rattle.std.proofs.lemmas.List.{length_push}
use Rattle.std.proofs.Math.ListN.{set}
use Rattle.wording.proofs.words.Splits.{is_word, put, first, one_taken, all_taken}
use Rattle.wording.proofs.token.words_in.Goals as goal

pub loop-n-preserved : goal.loop-n-preserved
loop-n-preserved c =
    let line = c.args.line.now in
    let turn =
    YieldsList-turn
    (YieldsList-at c.into_iter-n-iterator.ensures.into_iter_gives
    (YieldsList-from_enumerate
    (YieldsList-at c.enumerate-n-items.ensures.source
    (YieldsList-from_take 25
    (YieldsList-at c.take.ensures.source
    (YieldsList-from_filter _ is_word
    (YieldsList-at c.filter-words.ensures.source
    (YieldsList-from_slice_split _ is_blank line c.split.ensures.rest c.split.ensures.done c.split.ensures.closure (λ x b q k. search (rules, tests))))
    c.filter-words.ensures.closure (λ x b q k. search (rules, tests))))
    c.take.ensures.count))
    c.enumerate-n-items.ensures.count))
    c.loop-n.yielded _ c.loop-n.yielded_by _ _ _ c.in-Some.is c.next.ensures.steps in
    let more = length_push c.loop-n.yielded (c.in-Some.n, c.in-Some.word) in
    (λ t. set (c.loop-n.invariant t) c.in-Some.n (c.token_in.ensures t))
    ∙ one_taken line (length c.loop-n.yielded) c.in-Some.n c.in-Some.word.now turn
    ∙ ap (put (first line)) (sym more)

pub returns : goal.returns
returns c =
    let line = c.args.line.now in
    let end =
    YieldsList-end
    (YieldsList-at c.into_iter-n-iterator.ensures.into_iter_gives
    (YieldsList-from_enumerate
    (YieldsList-at c.enumerate-n-items.ensures.source
    (YieldsList-from_take 25
    (YieldsList-at c.take.ensures.source
    (YieldsList-from_filter _ is_word
    (YieldsList-at c.filter-words.ensures.source
    (YieldsList-from_slice_split _ is_blank line c.split.ensures.rest c.split.ensures.done c.split.ensures.closure (λ x b q k. search (rules, tests))))
    c.filter-words.ensures.closure (λ x b q k. search (rules, tests))))
    c.take.ensures.count))
    c.enumerate-n-items.ensures.count))
    c.loop-n.yielded _ c.loop-n.yielded_by _ _ c.in-None.is c.next.ensures.steps in
    (λ t. record { 0 = c.loop-n.invariant t }) ∙ all_taken line (length c.loop-n.yielded) end.1
