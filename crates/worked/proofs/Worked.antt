-- The worked books, computed. Assumes nothing.
use Rattle.std.proofs.Common.{◌≡◌, ℕ, List, [], map, Some, Result, refl, ap}
use Rattle.theory.specs.Meaning.{Meaning}
use Rattle.theory.specs.Positions.{listed}
use Rattle.congruence.specs.Merges.{first, last, sweep, settle, log_at, needed}
use Rattle.congruence.specs.Equality.{equality, row}
use Rattle.congruence.specs.Samples as congruence
use Rattle.congruence.proofs.Samples as congruence_samples
use Rattle.difference.specs.Distance.{distances}
use Rattle.difference.specs.Settling.{outcome_from}
use Rattle.difference.proofs.Samples as difference_samples
use Rattle.rules.specs.declared.step.Step.{Step}
use Rattle.rules.specs.declared.step.Verdict.{Verdict}
use Rattle.rules.specs.declared.refusal.Refusal.{Refusal}
use Rattle.rules.specs.States.{opened}
use Rattle.rules.specs.Runs.{run}
use Rattle.rules.specs.Samples.{Gives}
use Rattle.rules.proofs.SampleBooks as sample_books
use Rattle.worked.specs.Replays.{reply, Replay}
use Rattle.worked.specs.Worked.{fork, fork_book, fork_steps, parts_book, parts_steps, WorkedBooks}
use Rattle.worked.proofs.Edges.{edges}

-- what a sample book comes to, with its refusals by number
replayed : (M : Meaning) (book : List (List ℕ)) (steps : List Step) (told : List (Result ℕ Refusal)) (v : Verdict) (n : ℕ) → Gives M (opened book 7) steps told v
    → (run M (opened book 7) steps).count ≡ n → Replay M book steps (map reply told) (Some v) n
replayed M book steps told v n g c = record { replies_are = ap (map reply) g.0; verdict_is = g.1; count_is = c }

pub worked : WorkedBooks
unfolding first last sweep settle log_at needed listed row outcome_from
worked = record {
  chain = congruence_samples.samples.chain;
  chain_written = congruence_samples.samples.chain_written;
  implied = record { replies_are = refl; verdict_is = refl; count_is = refl };
  not_implied = record { replies_are = refl; verdict_is = refl; count_is = refl };
  itself = refl;
  tight_clash = difference_samples.samples.tight_clash;
  loose_fit = difference_samples.samples.loose_fit;
  loose_written = difference_samples.samples.loose_written;
  denial = difference_samples.samples.denial;
  blank_equal = replayed (equality [] []) _ _ _ _ _ ((sample_books.samples (equality [] [])).blank refl refl refl) refl;
  blank_distant = replayed (distances 0 []) _ _ _ _ _ ((sample_books.samples (distances 0 [])).blank refl refl refl) refl;
  empty_equal = λ ts claims. replayed (equality ts claims) _ _ _ _ _ (sample_books.samples (equality ts claims)).empty_clause refl;
  empty_distant = λ m claims. replayed (distances m claims) _ _ _ _ _ (sample_books.samples (distances m claims)).empty_clause refl;
  fork_fits = replayed fork fork_book fork_steps _ _ _ ((sample_books.samples fork).learning refl refl refl) refl;
  fork_place = λ x y z. refl;
  parts_clash = replayed congruence.parts parts_book parts_steps _ _ _ ((sample_books.samples congruence.parts).clashing refl congruence_samples.samples.parts_clash) refl;
  edges = edges;
}
