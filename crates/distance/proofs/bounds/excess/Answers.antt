use Rattle.std.proofs.Common.{◌≡◌, ℕ, ◌<◌, List, length, ℤ, ◌+ℤ◌, ap, ◌∙◌, arith, w32, w64, to_z, of_z}
use Rattle.std.proofs.lemmas.Int.{ints}
use Rattle.theory.specs.Meaning.{num}
use Rattle.difference.specs.Depth.{Inside}
use Rattle.distance.proofs.bounds.excess.Goals as goal
use Rattle.distance.proofs.bounds.excess.Goals.{After-from-3}

-- the number of a term is one of 64 bits
number : (row : List ℤ) (x : ℕ) → Inside 40000 row → x < length row → to_z w64 (of_z w64 (num row x)) ≡ num row x
number row x inside l = let i : _ = inside x l in omega (arith, ints, i.0, i.1)

module _ (c : After-from-3) where
  term_in : c.from.result < length c.args.row.now
  term_in = omega (arith, c.from.ensures, c.requires.term, c.requires.base)

  base_in : c.from-2.result < length c.args.row.now
  base_in = omega (arith, c.from-2.ensures, c.requires.term, c.requires.base)

  term_is : to_z w64 (of_z w64 (num c.args.row.now c.from.result)) ≡ num c.args.row.now c.from.result
  term_is = number c.args.row.now c.from.result c.requires.inside term_in

  most_is : to_z w64 (of_z w64 c.from-3.result) ≡ c.args.b.most
  most_is =
      let v : to_z w64 (of_z w64 c.from-3.result) ≡ c.from-3.result = omega (arith, ints, c.from-3.type_inv) in
      let m : to_z w32 (of_z w32 c.args.b.most) ≡ c.args.b.most = omega (arith, ints, c.requires.small.0, c.requires.small.1) in
      v ∙ c.from-3.ensures ∙ m

  -- and so is the sum
  limit_is : to_z w64 (of_z w64 (to_z w64 (of_z w64 (num c.args.row.now c.from-2.result)) +ℤ to_z w64 (of_z w64 c.from-3.result))) ≡ num c.args.row.now c.from-2.result +ℤ c.args.b.most
  limit_is =
      let i : _ = c.requires.inside c.from-2.result base_in in
      let n = number c.args.row.now c.from-2.result c.requires.inside base_in in
      let v : to_z w64 (of_z w64 (num c.args.row.now c.from-2.result +ℤ c.args.b.most)) ≡ num c.args.row.now c.from-2.result +ℤ c.args.b.most = omega (arith, ints, i.0, i.1, c.requires.small.0, c.requires.small.1) in
      ap (λ z. to_z w64 (of_z w64 (z +ℤ to_z w64 (of_z w64 c.from-3.result)))) n ∙ ap (λ z. to_z w64 (of_z w64 (num c.args.row.now c.from-2.result +ℤ z))) most_is ∙ v

pub overflow_sub-result : goal.overflow_sub-result
overflow_sub-result c =
    let i : _ = c.requires.inside c.from.result (term_in c) in
    let j : _ = c.requires.inside c.from-2.result (base_in c) in
    omega (arith, ints, term_is c, limit_is c, i.0, i.1, j.0, j.1, c.requires.small.0, c.requires.small.1)

pub returns : goal.returns
returns c =
    let i : _ = c.requires.inside c.from.result (term_in c) in
    let j : _ = c.requires.inside c.from-2.result (base_in c) in
    omega (
      arith,
      ints,
      term_is c,
      limit_is c,
      ap (num c.args.row.now) c.from.ensures,
      ap (num c.args.row.now) c.from-2.ensures,
      i.0,
      i.1,
      j.0,
      j.1,
      c.requires.small.0,
      c.requires.small.1,
    )
