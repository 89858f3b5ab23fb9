-- One row after another, in one list. Assumes nothing.
use Rattle.std.proofs.Common.{◌≡◌, ℕ, ◌+◌, ◌-◌, ◌*◌, ◌≤◌, List, ◌++◌, length, take, drop, ℤ, sym, ap, ◌∙◌, take-append-drop, arith}
use borrow.Rule.Slice.PartMut.{put_mid}
use Rattle.std.proofs.lemmas.List.{length-append, length-take-le, length-drop}
use Rattle.std.proofs.lemmas.Slice.{take-put_mid, take-put_mid_below, drop-put_mid, between-put_mid}
use Rattle.distance.specs.Rows.{part}

pub part_copied : (m a : ℕ) (rows : List ℤ) → take ((a + m) - a) (drop a rows) ≡ take m (drop a rows)
part_copied m a rows = let e : (a + m) - a ≡ m = omega arith in ap (λ k. take k (drop a rows)) e

pub part_written : (m n a : ℕ) (rows row : List ℤ) → n * m ≡ a → a + m ≤ length rows → length row ≡ m → part m n (put_mid a ((a + m) - a) rows row) ≡ row
part_written m n a rows row s l w =
    ap (λ k. take m (drop k (put_mid a ((a + m) - a) rows row))) s
    ∙ sym (part_copied m a (put_mid a ((a + m) - a) rows row))
    ∙ between-put_mid a ((a + m) - a) rows row (a + m) (omega arith) (omega (arith, w))

pub front_kept : (m n a : ℕ) (rows row : List ℤ) → n * m ≡ a → a + m ≤ length rows → take (n * m) (put_mid a ((a + m) - a) rows row) ≡ take (n * m) rows
front_kept m n a rows row s l = take-put_mid_below a ((a + m) - a) rows row (n * m) (omega (arith, s)) (omega arith)

pub part_long : (a m : ℕ) (rows row : List ℤ) → a + m ≤ length rows → length row ≡ m → length (put_mid a ((a + m) - a) rows row) ≡ length rows
part_long a m rows row l w =
    let new : List ℤ = put_mid a ((a + m) - a) rows row in
    let front : take (a + m) new ≡ take a rows ++ row = take-put_mid a ((a + m) - a) rows row (a + m) (omega (arith, w)) (omega (arith, l)) in
    let back : drop (a + m) new ≡ drop (a + m) rows = drop-put_mid a ((a + m) - a) rows row (a + m) (omega arith) (omega (arith, l)) (omega (arith, w)) in
    omega (arith, ap length (take-append-drop (a + m) new), length-append (take (a + m) new) (drop (a + m) new), ap length front, ap length back, length-append (take a rows) row, length-take-le a rows (omega (arith, l)), length-drop (a + m) rows)
