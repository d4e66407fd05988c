-- What is tallied down a tree is what its paths come to.
use Rattle.std.proofs.Common.{◌≡◌, refl, ◌-◌, Some, None, List}
use Rattle.sym_terms.specs.Tree.{Tree}
use Rattle.sym_terms.specs.declared.measuring.TermMeasure.{TermMeasure}
use Rattle.sym_terms.specs.Comparison.{Comparison, comparison_under}
use Rattle.region_paths.specs.PathTree.{PathTree, fork}
use Rattle.region_paths.specs.Tally.{comparison_measured, tallied, with_size}
use Rattle.region_paths.specs.declared.tally.Tally.{Tally}

-- a decision, where both sides have been followed
pub fork_tallied : (c : Comparison) (s t : PathTree) (terms : List Tree) (a b e : Tally) (m : TermMeasure) → Some b ≡ tallied s terms a → Some e ≡ tallied t terms b
    → m ≡ comparison_measured (comparison_under terms c) → Some (with_size m (e.paths - a.paths) e) ≡ tallied (fork c s t) terms a
fork_tallied c s t terms a b e m h k f = rw (← h, ← k, f) refl

-- too many paths on the first side, or on both
pub fork_full_first : (c : Comparison) (s t : PathTree) (terms : List Tree) (a : Tally) → None ≡ tallied s terms a → None ≡ tallied (fork c s t) terms a
fork_full_first c s t terms a h = rw (← h) refl

pub fork_full : (c : Comparison) (s t : PathTree) (terms : List Tree) (a b : Tally) → Some b ≡ tallied s terms a → None ≡ tallied t terms b → None ≡ tallied (fork c s t) terms a
fork_full c s t terms a b h k = rw (← h, ← k) refl
