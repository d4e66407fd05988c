-- The literals of a row hold in a state exactly where each way's literals hold in the state that the ways before it lead to.
use Rattle.std.proofs.Common.{◌≡◌, refl, sym, ap, ◌∙◌, Bool, true, false, ◌&&◌, List, [], ◌∷◌, ◌++◌, map}
use Rattle.il_core.specs.Evaluation.{State}
use Rattle.sym_terms.specs.Tree.{Tree}
use Rattle.sym_terms.specs.Substitution.{state_of}
use Rattle.sym_terms.specs.Comparison.{Comparison, comparison_holds, comparison_under}
use Rattle.sym_terms.proofs.Comparisons.{holds_under}
use Rattle.test_graph.proofs.Changes.{state-changed}
use Rattle.test_graph.specs.Way.{Way, all_hold, changed, state_behind}
use Rattle.region_paths.specs.PlainRow.{along}

-- each way's literals hold where it begins
abbrev pub fits : List Way → State → Bool
fits [] s = true
fits (w ∷ ws) s = all_hold w.literals s && fits ws (state_behind w.change s)

-- the state behind these ways
abbrev pub ended : List Way → State → State
ended [] s = s
ended (w ∷ ws) s = ended ws (state_behind w.change s)

-- comparisons under terms hold where the comparisons hold in the state of the terms
all_hold-under : (terms : List Tree) (cs : List Comparison) (s : State) → all_hold (map (comparison_under terms) cs) s ≡ all_hold cs (state_of terms s)
all_hold-under terms [] s = refl
all_hold-under terms (c ∷ cs) s = rw (holds_under terms c s, all_hold-under terms cs s) refl

and_assoc : (a b c : Bool) → ((a && b) && c) ≡ (a && (b && c))
and_assoc true b c = refl
and_assoc false b c = refl

all_hold-append : (a b : List Comparison) (s : State) → all_hold (a ++ b) s ≡ (all_hold a s && all_hold b s)
all_hold-append [] b s = refl
all_hold-append (c ∷ a) b s = ap (λ (x : Bool). comparison_holds c s && x) (all_hold-append a b s) ∙ sym (and_assoc (comparison_holds c s) (all_hold a s) (all_hold b s))

-- the literals of a row
pub along-holds : (ws : List Way) (terms : List Tree) (s : State) → all_hold (along ws terms).literals s ≡ fits ws (state_of terms s)
along-holds [] terms s = refl
along-holds (w ∷ ws) terms s =
    all_hold-append (map (comparison_under terms) w.literals) (along ws (changed w.change terms)).literals s
    ∙ ap (λ (x : Bool). x && all_hold (along ws (changed w.change terms)).literals s) (all_hold-under terms w.literals s)
    ∙ ap (λ (x : Bool). all_hold w.literals (state_of terms s) && x)
    (along-holds ws (changed w.change terms) s ∙ ap (fits ws) (state-changed w.change terms s))

-- the values of a row
pub along-ends : (ws : List Way) (terms : List Tree) (s : State) → state_of (along ws terms).values s ≡ ended ws (state_of terms s)
along-ends [] terms s = refl
along-ends (w ∷ ws) terms s = along-ends ws (changed w.change terms) s ∙ ap (ended ws) (state-changed w.change terms s)
