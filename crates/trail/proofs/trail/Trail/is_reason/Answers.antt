use Rattle.std.proofs.Common.{Bool, reverse, vec_items, ◌∙◌, rules}
use Rattle.std.proofs.lemmas.Iterator.{YieldsList-from_slice}
use Rattle.std.proofs.lemmas.Iterator.Search.{any_from_yields_List}
use Rattle.std.proofs.lemmas.List.Sorted.{list_any-IsPermutation, IsPermutation-reverse}
use Rattle.rules.specs.declared.entry.Entry.{Entry}
use Rattle.rules.specs.Rules.{is_clause}
use Rattle.trail.proofs.trail.Trail.is_reason.Goals as goal
use borrow.Author.Tests.{tests}

pub returns : goal.returns
returns c =
    let es = vec_items c.args.self.now.entries in
    let test : Entry → Bool = λ e. is_clause c.args.c e.reason in
    any_from_yields_List test _ _ _ c.any.ensures.ran (YieldsList-from_slice es (c.iter.ensures.rest ∙ c.deref.ensures.value)) (λ x b q k. search (rules, tests))
    ∙ list_any-IsPermutation test es (reverse es) (IsPermutation-reverse es)
