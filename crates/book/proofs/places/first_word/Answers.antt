use Rattle.std.proofs.Common.{rules, ◌∙◌}
use borrow.Author.Tests.{tests}
use Rattle.std.proofs.lemmas.Iterator.Search.{find_from_yields_List}
use Rattle.std.proofs.lemmas.Iterator.Splits.{YieldsList-from_slice_split}
use Rattle.book.specs.Pieces.{blank}
use Rattle.book.specs.Words.{filled}
use Rattle.book.proofs.places.first_word.Goals as goal

pub returns : goal.returns
returns c =
    find_from_yields_List filled _ _ c.find.result c.find.ensures.ran
    (YieldsList-from_slice_split _ blank _ (c.split.ensures.rest ∙ c.before_comment.ensures) c.split.ensures.done c.split.ensures.closure (λ x b q k. search (rules, tests)))
    (λ x b q k. search (rules, tests))
