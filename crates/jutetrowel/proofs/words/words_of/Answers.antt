-- `words_of` is `sheet_words`: the six sets, put one after the other, are appended.
use Rattle.jutetrowel.proofs.crossing.Stored.{six_sets}
use Rattle.jutetrowel.proofs.words.words_of.Goals as goal

pub returns : goal.returns
returns c =
    six_sets c.args.w
    c.set_words.ensures
    c.earlier_words.ensures
    c.draft_words.ensures
    c.draft_words-2.ensures
    c.draft_words-3.ensures
    c.draft_words-4.ensures
    c.put.ensures
    c.put-2.ensures
    c.put-3.ensures
    c.put-4.ensures
    c.put-5.ensures
    c.put-6.ensures
