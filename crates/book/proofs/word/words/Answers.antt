use Rattle.std.proofs.Common.{rules, ◌∙◌}
use borrow.Author.Tests.{tests}
use Rattle.std.proofs.lemmas.Iterator.{YieldsList-from_map, items_from_collect}
use Rattle.std.proofs.lemmas.Iterator.Consumers.{YieldsList-from_filter, YieldsList-at}
use Rattle.std.proofs.lemmas.Iterator.Splits.{YieldsList-from_slice_split}
use Rattle.book.specs.Pieces.{blank}
use Rattle.book.specs.Words.{filled, word_of, words_among}
use Rattle.book.proofs.word.words.Goals as goal

pub returns : goal.returns
unfolding words_among
returns c =
    items_from_collect _ c.collect.ensures.ran
    (YieldsList-from_map _ word_of
    (YieldsList-at c.map.ensures.source (YieldsList-from_filter _ filled
    (YieldsList-at c.filter.ensures.source (YieldsList-from_slice_split _ blank _ (c.split.ensures.rest ∙ c.before_comment.ensures) c.split.ensures.done c.split.ensures.closure (λ x b q k. search (rules, tests))))
    c.filter.ensures.closure (λ x b q k. search (rules, tests))))
    c.map.ensures.closure (λ x r q k. search rules))
