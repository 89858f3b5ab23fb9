-- Merges in a row with the oldest first, beside a row of labels after each. Assumes nothing.
use Rattle.std.specs.Prelude.{◌≡◌, ℕ, zero, suc, ◌+◌, ◌<◌, ◌≤◌, List, [], ◌∷◌, length, slice_index, slice_index_or}
use Rattle.congruence.specs.declared.step.Step.{Step}
use Rattle.congruence.specs.declared.step.Reason.TheVariants.{Congruence}
use Rattle.congruence.specs.Merges.{relabel, label}

abbrev pub step_at : List Step → ℕ → Step
step_at ss j = slice_index_or ss j record { left = 0; right = 0; high = 0; low = 0; reason = Congruence }

-- the first `k` merges of a row, as a log, which has its latest first
abbrev pub until : List Step → ℕ → List Step
until ss zero = []
until ss (suc k) = step_at ss k ∷ until ss k

-- all merges of a row, as a log
abbrev pub log : List Step → List Step
log ss = until ss (length ss)

-- the label of a term after the first `k` merges
abbrev pub label_at : List Step → ℕ → ℕ → ℕ
label_at ss k t = label (until ss k) t

-- the label of a term after the first `k` merges, as the rows of labels have it
abbrev pub cell : List (List ℕ) → ℕ → ℕ → ℕ
cell rows k t = slice_index (slice_index_or rows k []) t

-- the row before the first merge and the one after each have the right labels
abbrev pub Tabled : List (List ℕ) → List Step → Type 0
Tabled rows ss = (k t : ℕ) → k ≤ length ss → t < 256 → cell rows k t ≡ label_at ss k t

-- numbers past the m terms keep their own label in every row
abbrev pub Own : ℕ → List (List ℕ) → Type 0
Own m rows = (k t : ℕ) → k < length rows → m ≤ t → t < 256 → cell rows k t ≡ t

-- in the row after the one numbered k, the labels of the first m terms are that one's, renamed; all else is as it was
pub record Renamed (rows rows' : List (List ℕ)) (k m high low : ℕ) : Type 0 where
  pub long : length rows' ≡ length rows
  pub written : (t : ℕ) → t < m → cell rows' (k + 1) t ≡ relabel high low (cell rows k t)
  pub beyond : (t : ℕ) → m ≤ t → cell rows' (k + 1) t ≡ cell rows (k + 1) t
  pub kept : (j t : ℕ) → (j ≡ k + 1 → ⊥) → cell rows' j t ≡ cell rows j t

-- a row of merges grew to the log
pub record Ran (ss rs : List Step) (to : List Step) : Type 0 where
  pub log_is : log rs ≡ to
  pub before : (j : ℕ) → j ≤ length ss → until rs j ≡ until ss j
  pub rise : length ss ≤ length rs
