use Rattle.std.proofs.Common.{◌≡◌, ◌+◌, ◌≤◌, ◌++◌, ◌∷◌, [], List, ℕ, length, vec_items, sym, ap, ◌∙◌, arith, append_assoc, append-nil}
use Rattle.rules.specs.Clauses.{size}
use Rattle.clauses.specs.Rows.{clauses_in, starts_from}
use Rattle.clauses.proofs.Rows.{clauses_few}
use Rattle.clauses.proofs.book.list_starts.Goals as goal

-- the iterator begins with the whole row
whole : (starts row left : List ℕ) → starts ≡ [] → left ≡ row → starts ++ starts_from 0 (clauses_in left) ≡ starts_from 0 (clauses_in row)
whole starts row left e f = ap (λ ss. ss ++ starts_from 0 (clauses_in left)) e ∙ ap (λ xs. starts_from 0 (clauses_in xs)) f

counted : (row left : List ℕ) → left ≡ row → 0 + (length (clauses_in left) + size (clauses_in left)) ≤ length row
counted row left e = omega (arith, clauses_few left, ap length e)

pub loop-clause-init : goal.loop-clause-init
loop-clause-init c =
    let all = ap (λ x. x.0.now) c.into_iter-clause-iterator.ensures.into_iter_gives in
    ((tt, tt), whole _ c.args.row.now _ c.new-starts.ensures.items all, counted c.args.row.now _ all)

pub overflow_add-at : goal.overflow_add-at
overflow_add-at c = let n = ap (λ cs. length cs + size cs) c.in-Some.ensures.steps in record { fits = omega (arith, n, c.loop-clause.invariant.2) }

pub loop-clause-preserved : goal.loop-clause-preserved
loop-clause-preserved c =
    let i = c.loop-clause.invariant in
    let a = c.in-Some.ensures.steps in
    let at = c.loop-clause.at in
    let left = starts_from (at + (length c.in-Some.clause.now + 1)) (clauses_in c.next.new.self.0.now) in
    let starts = vec_items c.loop-clause.starts in
    ((tt, tt), ap (λ ss. ss ++ left) c.in_ok-push.ensures.items ∙ append_assoc starts (at ∷ []) left ∙ ap (λ cs. starts ++ starts_from at cs) (sym a) ∙ i.1, omega (arith, ap (λ cs. length cs + size cs) a, i.2))

pub returns : goal.returns
returns c = sym (append-nil (vec_items c.loop-clause.starts)) ∙ ap (λ cs. vec_items c.loop-clause.starts ++ starts_from c.loop-clause.at cs) (sym c.in-None.ensures.steps.0) ∙ c.loop-clause.invariant.1
