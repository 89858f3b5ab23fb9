-- Going along the bounds with one base. Assumes nothing.
use Rattle.std.specs.Prelude.{ℕ, List, vec_items}
use Rattle.distance.specs.declared.based.Based.{Based}
use Rattle.distance.specs.Index.{onward}

-- the positions that are left
abbrev pub left : Based → List ℕ
left b = onward (vec_items b.bounds.now.items) b.link
