-- The answer to a text with calls, put together from what single rules and groups of them answer.
use Rattle.std.proofs.Common.{ℕ, inl, inr, List, [], ◌∷◌, ◌++◌}
use Rattle.std.specs.Prelude.{Option, Some, None}
use Rattle.il_core.specs.Statement.{Statement, Placed}
use Rattle.il_core.specs.declared.refusal.Refusal.{Refusal}
use Rattle.il_core.specs.declared.statement.Link.{Link}
use Rattle.il_types.specs.declared.rules.Found.{Found}
use Rattle.il_types.specs.Rules.{ComesFirst, ComesNowhere, Refuses}
use Rattle.call_rules.specs.Clash.{twice_at}
use Rattle.call_rules.specs.Rules.{passes_with_names, passes_with_calls, Answers}

-- the first group refuses
early : (ps qs : List (ℕ → Statement → Option Found)) (stmts : List Placed) (r : Refusal) → Refuses ps stmts (Some r) → Refuses (ps ++ qs) stmts (Some r)
early [] qs stmts r f = absurd f
early (p ∷ ps) qs stmts r (inl first) = inl first
early (p ∷ ps) qs stmts r (inr f) = inr (f.0, early ps qs stmts r f.1)

-- the first group finds nothing
late : (ps qs : List (ℕ → Statement → Option Found)) (stmts : List Placed) (o : Option Refusal) → Refuses ps stmts None → Refuses qs stmts o → Refuses (ps ++ qs) stmts o
late [] qs stmts o f g = g
late (p ∷ ps) qs stmts None f g = (f.0, late ps qs stmts None f.1 g)
late (p ∷ ps) qs stmts (Some r) f g = inr (f.0, late ps qs stmts (Some r) f.1 g)

-- a name is declared twice
pub answers_twice : (stmts : List Placed) (links : List Link) (r : Refusal) → ComesFirst (twice_at stmts links) stmts r → Answers stmts links (Some r)
answers_twice stmts links r f = inl f

-- a rule that looks at the names in force is broken
pub answers_with_names : (stmts : List Placed) (links : List Link) (r : Refusal) → ComesNowhere (twice_at stmts links) stmts
    → Refuses (passes_with_names stmts) stmts (Some r) → Answers stmts links (Some r)
answers_with_names stmts links r n f = inr (n, early (passes_with_names stmts) (passes_with_calls stmts links) stmts r f)

-- none of these is broken
pub answers_with_calls : (stmts : List Placed) (links : List Link) (o : Option Refusal) → ComesNowhere (twice_at stmts links) stmts
    → Refuses (passes_with_names stmts) stmts None → Refuses (passes_with_calls stmts links) stmts o → Answers stmts links o
answers_with_calls stmts links None n f g = (n, late (passes_with_names stmts) (passes_with_calls stmts links) stmts None f g)
answers_with_calls stmts links (Some r) n f g = inr (n, late (passes_with_names stmts) (passes_with_calls stmts links) stmts (Some r) f g)
