-- A text is cut into steps in one way, and how the cut grows step by step.
use Rattle.std.proofs.Common.{Option, Some, None, ◌≡◌, ℕ, ◌+◌, ◌-◌, ◌<◌, ◌≤◌, List, [], ◌∷◌, ◌++◌, length, take, drop, refl, sym, ap, ◌∙◌, subst, arith, append_assoc, append-nil}
use Rattle.std.proofs.lemmas.List.{length-drop, drop-drop, take_all}
use Rattle.il_core.specs.declared.token.Token.{Token}
use Rattle.il_core.specs.declared.token.TokenKind.{TokenKind}
use Rattle.il_lexer.specs.declared.step.Step.{Step}
use Rattle.il_lexer.specs.Step.{IsStep}
use Rattle.il_lexer.specs.Cut.{Cuts, token_of, tokens_from, AreTokens, IsStuck, AreInOrder}
use Rattle.il_lexer.proofs.Steps.{same_step, step_positive, no_step_nil}

-- no step stands at the front
abbrev NoStep : List ℕ → Type 0
NoStep text = (step : Step) → IsStep text step → ⊥

-- two cuts that go as far as they can are the same
pub same_cut : (text : List ℕ) (a b : List Step) (p q : List ℕ) → Cuts text a p → NoStep p → Cuts text b q → NoStep q → (a ≡ b) × (p ≡ q)
same_cut text [] [] p q c n d m = (refl, c ∙ sym d)
same_cut text [] (t ∷ b) p q c n d m = absurd (n t (subst (λ x. IsStep x t) (sym c) d.0))
same_cut text (s ∷ a) [] p q c n d m = absurd (m s (subst (λ x. IsStep x s) (sym d) c.0))
same_cut text (s ∷ a) (t ∷ b) p q c n d m =
    let e : s ≡ t = same_step text s t c.0 d.0 in
    let r = same_cut (drop s.len text) a b p q c.1 n (subst (λ x. Cuts (drop x.len text) b q) (sym e) d.1) m in
    (ap (λ x. x ∷ a) e ∙ ap (λ x. t ∷ x) r.0, r.1)

-- a text has one list of tokens
pub same_tokens : (text : List ℕ) (a b : List Token) → AreTokens text a → AreTokens text b → a ≡ b
same_tokens text a b s t =
    let r = same_cut text s.0 t.0 [] [] s.1 no_step_nil t.1 no_step_nil in
    s.2 ∙ ap (tokens_from 0) r.0 ∙ sym t.2

-- a text with tokens is nowhere stuck
pub tokens_stuck : (text : List ℕ) (tokens : List Token) (place : ℕ) → AreTokens text tokens → IsStuck text place → ⊥
tokens_stuck text tokens place s t =
    let r = same_cut text s.0 t.steps [] t.rest s.1 no_step_nil t.cut t.no_step in
    let m : 0 < length t.rest = t.more in
    let l : 0 ≡ length t.rest = ap length r.1 in
    omega arith

-- a text is stuck at one place at most
pub same_stuck : (text : List ℕ) (p q : ℕ) → IsStuck text p → IsStuck text q → p ≡ q
same_stuck text p q s t =
    let r = same_cut text s.steps t.steps s.rest t.rest s.cut s.no_step t.cut t.no_step in
    let l : length s.rest ≡ length t.rest = ap length r.1 in
    let a : p + length s.rest ≡ length text = s.at in
    let b : q + length t.rest ≡ length text = t.at in
    omega arith

-- the rest from a place on is all that is left
pub rest-drop : (text : List ℕ) (at : ℕ) → take (length text - at) (drop at text) ≡ drop at text
rest-drop text at =
    let l : length (drop at text) ≡ length text - at = length-drop at text in
    take_all (length text - at) (drop at text) (omega arith)

-- where the steps end that begin at this place
abbrev after_steps : ℕ → List Step → ℕ
after_steps from [] = from
after_steps from (step ∷ steps) = after_steps (from + step.len) steps

-- one more step cuts the rest
Cuts-append : (text : List ℕ) (steps : List Step) (rest : List ℕ) (step : Step) → Cuts text steps rest → IsStep rest step → Cuts text (steps ++ step ∷ []) (drop step.len rest)
Cuts-append text [] rest step c h = (subst (λ x. IsStep x step) c h, ap (drop step.len) c)
Cuts-append text (s ∷ steps) rest step c h = (c.0, Cuts-append (drop s.len text) steps rest step c.1 h)

-- the tokens of one more step
tokens_from-append : (from : ℕ) (steps : List Step) (step : Step) → tokens_from from (steps ++ step ∷ []) ≡ tokens_from from steps ++ token_of (after_steps from steps) step.len step.kind
tokens_from-append from [] step = append-nil _
tokens_from-append from (s ∷ steps) step =
    ap (λ x. token_of from s.len s.kind ++ x) (tokens_from-append (from + s.len) steps step) ∙ sym (append_assoc (token_of from s.len s.kind) _ _)

-- where one more step ends
after_steps-append : (from : ℕ) (steps : List Step) (step : Step) → after_steps from (steps ++ step ∷ []) ≡ after_steps from steps + step.len
after_steps-append from [] step = refl
after_steps-append from (s ∷ steps) step = after_steps-append (from + s.len) steps step

-- the order goes on to a later end
AreInOrder-later : (from : ℕ) (tokens : List Token) (end later : ℕ) → end ≤ later → AreInOrder from tokens end → AreInOrder from tokens later
AreInOrder-later from [] end later h o = omega arith
AreInOrder-later from (t ∷ tokens) end later h o = (o.0, o.1, AreInOrder-later t.after tokens end later h o.2)

-- the order goes on over one more step
AreInOrder-append : (from : ℕ) (tokens : List Token) (at len : ℕ) (kind : Option TokenKind) → 0 < len → AreInOrder from tokens at → AreInOrder from (tokens ++ token_of at len kind) (at + len)
AreInOrder-append from [] at len None h o = omega arith
AreInOrder-append from [] at len (Some kind) h o = (o, omega arith, omega arith)
AreInOrder-append from (t ∷ tokens) at len kind h o = (o.0, o.1, AreInOrder-append t.after tokens at len kind h o.2)

-- the text is cut up to this place, and these are the tokens
pub record IsCutSoFar (text : List ℕ) (tokens : List Token) (at : ℕ) : Type 0 where
  pub steps : List Step
  pub cut : Cuts text steps (drop at text)
  pub tokens_are : tokens ≡ tokens_from 0 steps
  pub reached : after_steps 0 steps ≡ at
  pub inside : at ≤ length text
  pub order : AreInOrder 0 tokens at

-- one more step
pub goes_on : (text : List ℕ) (tokens : List Token) (at : ℕ) (step : Step) → IsCutSoFar text tokens at → IsStep (drop at text) step → IsCutSoFar text (tokens ++ token_of at step.len step.kind) (at + step.len)
goes_on text tokens at step c h =
    let l : length (drop at text) ≡ length text - at = length-drop at text in
    let i : step.len ≤ length (drop at text) = h.inside in
    let j : at ≤ length text = c.inside in
    record {
      steps = c.steps ++ step ∷ [];
      cut = subst (λ x. Cuts text (c.steps ++ step ∷ []) x) (drop-drop step.len at text) (Cuts-append text c.steps (drop at text) step c.cut h);
      tokens_are = ap (λ x. x ++ token_of at step.len step.kind) c.tokens_are
          ∙ ap (λ n. tokens_from 0 c.steps ++ token_of n step.len step.kind) (sym c.reached)
          ∙ sym (tokens_from-append 0 c.steps step);
      reached = after_steps-append 0 c.steps step ∙ ap (λ n. n + step.len) c.reached;
      inside = omega arith;
      order = AreInOrder-append 0 tokens at step.len step.kind (step_positive (drop at text) step h) c.order;
    }
