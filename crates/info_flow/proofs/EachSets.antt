-- The sets of the variables among the first places, and what the next place adds to them.
use Rattle.std.proofs.Common.{◌≡◌, inl, inr, refl, sym, subst, ◌∙◌, ℕ, ◌+◌, ◌<◌, ◌≤◌, true, false, cond, List, [], ◌∷◌, ◌++◌, length, map, drop, get_or, add-one, append_assoc, append-nil}
use Rattle.std.proofs.Math.Seq.{drop-cons}
use Rattle.std.proofs.Math.ListN.{drop_of_length-le}
use Rattle.std.proofs.lemmas.List.{map-append}
use Rattle.il_core.specs.LineGraph.{IsIn}
use Rattle.il_core.specs.Run.{is_variable}
use Rattle.il_core.specs.declared.line.Place.{Place}
use Rattle.flow_graph.proofs.Members.{IsIn-push_cases}
use Rattle.flow_graph.specs.declared.graph.FlowGraph.{FlowGraph}
use Rattle.info_flow.specs.declared.relevance.VariableSets.{VariableSets}
use Rattle.info_flow.specs.Sources.{variables_from}
use Rattle.info_flow.specs.Together.{HaveLeast, AreLeastOfEach}

pub record SetsBelow (g : FlowGraph) (places : List Place) (number : ℕ) (found : List VariableSets) : Type 0 where
  pub variables : map (λ sets. sets.place) found ++ variables_from number (drop number places) ≡ variables_from 0 places
  pub each : (sets : VariableSets) → IsIn found sets → HaveLeast g sets

pub sets_start : (g : FlowGraph) (places : List Place) → SetsBelow g places 0 []
sets_start g places = record { variables = refl; each = λ sets i. absurd i }

-- the variables from a place on
variables_more : (places : List Place) (n : ℕ) (d : Place) → n < length places
    → variables_from n (drop n places) ≡ cond (is_variable (get_or places n d)) (n ∷ variables_from (n + 1) (drop (n + 1) places)) (variables_from (n + 1) (drop (n + 1) places))
variables_more places n d l = rw (add-one, drop-cons places n d) refl

pub sets_push : (g : FlowGraph) (places : List Place) (n : ℕ) (d : Place) (found : List VariableSets) (sets : VariableSets) → n < length places
    → (get_or places n d).old ≡ false → sets.place ≡ n → HaveLeast g sets → SetsBelow g places n found → SetsBelow g places (n + 1) (found ++ sets ∷ [])
sets_push g places n d found sets l old e s w = record {
  variables =
      let rest : variables_from n (drop n places) ≡ n ∷ variables_from (n + 1) (drop (n + 1) places) = rw old at (variables_more places n d l) in
      rw (map-append, e, append_assoc, ← rest) w.variables;
  each = λ x i. elim (IsIn-push_cases found sets x i) [ inl j ↦ w.each x j | inr same ↦ subst (HaveLeast g) same s ];
}

pub sets_skip : (g : FlowGraph) (places : List Place) (n : ℕ) (d : Place) (found : List VariableSets) → n < length places → (get_or places n d).old ≡ true
    → SetsBelow g places n found → SetsBelow g places (n + 1) found
sets_skip g places n d found l old w = record {
  variables =
      let rest : variables_from n (drop n places) ≡ variables_from (n + 1) (drop (n + 1) places) = rw old at (variables_more places n d l) in
      rw (← rest) w.variables;
  each = w.each;
}

pub sets_end : (g : FlowGraph) (places : List Place) (n : ℕ) (found : List VariableSets) → length places ≤ n → SetsBelow g places n found → AreLeastOfEach g places found
sets_end g places n found l w = record {
  variables = let none : drop n places ≡ [] = drop_of_length-le places l in sym (append-nil (map (λ (sets : VariableSets). sets.place) found)) ∙ rw none at w.variables;
  each = w.each;
}
