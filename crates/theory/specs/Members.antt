-- What a theory means, by the ghost members of its trait. Assumes nothing.
use Rattle.theory.specs.declared.theory.Theory.{Ghosts}
use Rattle.theory.specs.Meaning.{Meaning, assembled}

-- what theories of one shape mean; `g` is what a bound `T : Theory` brings, `T.Theory`
abbrev pub meaning_at : {T : Type 0} → (g : Ghosts T) → g.Shape → Meaning
meaning_at g = assembled g.claims g.terms g.fits g.holds g.answer g.written

-- what a theory means
abbrev pub meaning : {T : Type 0} → Ghosts T → T → Meaning
meaning g t = meaning_at g (g.shape_of t)
