-- Instructions that are renumbered twice, and what a renumbered instruction tells of the one that was renumbered.
use Rattle.std.proofs.Common.{◌≡◌, refl, ap, ◌∙◌, ℕ, Bool, true, false, List}
use Rattle.il_core.specs.Expression.{Expression, number, variable, flag, truth, minus, opposite, two}
use Rattle.il_core.specs.Procedure.{Instruction, pre, assign, if_true, otherwise, end_if, loop, end_loop, exit, exit_when, label, goto, skip, assert, return, end_procedure}
use Rattle.il_core.specs.Machine.{stepped}
use Rattle.il_core.specs.Evaluation.{State}
use Rattle.il_core.specs.declared.line.Place.{Place}
use Rattle.il_called.specs.Expansion.{renumbered, moved, inlined}

pub renumbered_twice : (f g h : ℕ → ℕ) → ((k : ℕ) → f (g k) ≡ h k) → (e : Expression) → renumbered f (renumbered g e) ≡ renumbered h e
renumbered_twice f g h same (number n) = refl
renumbered_twice f g h same (variable p) = ap variable (same p)
renumbered_twice f g h same (flag p) = ap flag (same p)
renumbered_twice f g h same (truth b) = refl
renumbered_twice f g h same (minus e) = ap minus (renumbered_twice f g h same e)
renumbered_twice f g h same (opposite e) = ap opposite (renumbered_twice f g h same e)
renumbered_twice f g h same (two o a b) =
    ap (λ x. two o x (renumbered f (renumbered g b))) (renumbered_twice f g h same a) ∙ ap (two o (renumbered h a)) (renumbered_twice f g h same b)

-- a line that is moved or inlined
abbrev pub placed : Bool → (ℕ → ℕ) → (ℕ → ℕ) → Instruction → Instruction
placed true f a i = inlined f a i
placed false f a i = moved f a i

-- a line that is inlined and then moved or inlined again
pub inlined_twice : (called : Bool) (f g h a b c : ℕ → ℕ) → ((k : ℕ) → f (g k) ≡ h k) → ((k : ℕ) → a (b k) ≡ c k) → (i : Instruction)
    → placed called f a (inlined g b i) ≡ inlined h c i
inlined_twice true f g h a b c s t (pre e) = ap assert (renumbered_twice f g h s e)
inlined_twice true f g h a b c s t (assign p e) = ap (λ k. assign k (renumbered f (renumbered g e))) (s p) ∙ ap (assign (h p)) (renumbered_twice f g h s e)
inlined_twice true f g h a b c s t (if_true e q) = ap (λ x. if_true x (a (b q))) (renumbered_twice f g h s e) ∙ ap (if_true (renumbered h e)) (t q)
inlined_twice true f g h a b c s t (otherwise q) = ap otherwise (t q)
inlined_twice true f g h a b c s t end_if = refl
inlined_twice true f g h a b c s t loop = refl
inlined_twice true f g h a b c s t (end_loop q) = ap end_loop (t q)
inlined_twice true f g h a b c s t (exit q) = ap exit (t q)
inlined_twice true f g h a b c s t (exit_when e q) = ap (λ x. exit_when x (a (b q))) (renumbered_twice f g h s e) ∙ ap (exit_when (renumbered h e)) (t q)
inlined_twice true f g h a b c s t label = refl
inlined_twice true f g h a b c s t (goto q) = ap goto (t q)
inlined_twice true f g h a b c s t skip = refl
inlined_twice true f g h a b c s t (assert e) = ap assert (renumbered_twice f g h s e)
inlined_twice true f g h a b c s t (return q) = ap goto (t q)
inlined_twice true f g h a b c s t (end_procedure e) = ap assert (renumbered_twice f g h s e)
inlined_twice false f g h a b c s t (pre e) = ap assert (renumbered_twice f g h s e)
inlined_twice false f g h a b c s t (assign p e) = ap (λ k. assign k (renumbered f (renumbered g e))) (s p) ∙ ap (assign (h p)) (renumbered_twice f g h s e)
inlined_twice false f g h a b c s t (if_true e q) = ap (λ x. if_true x (a (b q))) (renumbered_twice f g h s e) ∙ ap (if_true (renumbered h e)) (t q)
inlined_twice false f g h a b c s t (otherwise q) = ap otherwise (t q)
inlined_twice false f g h a b c s t end_if = refl
inlined_twice false f g h a b c s t loop = refl
inlined_twice false f g h a b c s t (end_loop q) = ap end_loop (t q)
inlined_twice false f g h a b c s t (exit q) = ap exit (t q)
inlined_twice false f g h a b c s t (exit_when e q) = ap (λ x. exit_when x (a (b q))) (renumbered_twice f g h s e) ∙ ap (exit_when (renumbered h e)) (t q)
inlined_twice false f g h a b c s t label = refl
inlined_twice false f g h a b c s t (goto q) = ap goto (t q)
inlined_twice false f g h a b c s t skip = refl
inlined_twice false f g h a b c s t (assert e) = ap assert (renumbered_twice f g h s e)
inlined_twice false f g h a b c s t (return q) = ap goto (t q)
inlined_twice false f g h a b c s t (end_procedure e) = ap assert (renumbered_twice f g h s e)

-- a line that is moved and then moved or inlined
pub moved_then : (called : Bool) (f g h a b c : ℕ → ℕ) → ((k : ℕ) → f (g k) ≡ h k) → ((k : ℕ) → a (b k) ≡ c k) → (i : Instruction)
    → placed called f a (moved g b i) ≡ placed called h c i
moved_then true f g h a b c s t (pre e) = ap assert (renumbered_twice f g h s e)
moved_then true f g h a b c s t (assign p e) = ap (λ k. assign k (renumbered f (renumbered g e))) (s p) ∙ ap (assign (h p)) (renumbered_twice f g h s e)
moved_then true f g h a b c s t (if_true e q) = ap (λ x. if_true x (a (b q))) (renumbered_twice f g h s e) ∙ ap (if_true (renumbered h e)) (t q)
moved_then true f g h a b c s t (otherwise q) = ap otherwise (t q)
moved_then true f g h a b c s t end_if = refl
moved_then true f g h a b c s t loop = refl
moved_then true f g h a b c s t (end_loop q) = ap end_loop (t q)
moved_then true f g h a b c s t (exit q) = ap exit (t q)
moved_then true f g h a b c s t (exit_when e q) = ap (λ x. exit_when x (a (b q))) (renumbered_twice f g h s e) ∙ ap (exit_when (renumbered h e)) (t q)
moved_then true f g h a b c s t label = refl
moved_then true f g h a b c s t (goto q) = ap goto (t q)
moved_then true f g h a b c s t skip = refl
moved_then true f g h a b c s t (assert e) = ap assert (renumbered_twice f g h s e)
moved_then true f g h a b c s t (return q) = ap goto (t q)
moved_then true f g h a b c s t (end_procedure e) = ap assert (renumbered_twice f g h s e)
moved_then false f g h a b c s t (pre e) = ap pre (renumbered_twice f g h s e)
moved_then false f g h a b c s t (assign p e) = ap (λ k. assign k (renumbered f (renumbered g e))) (s p) ∙ ap (assign (h p)) (renumbered_twice f g h s e)
moved_then false f g h a b c s t (if_true e q) = ap (λ x. if_true x (a (b q))) (renumbered_twice f g h s e) ∙ ap (if_true (renumbered h e)) (t q)
moved_then false f g h a b c s t (otherwise q) = ap otherwise (t q)
moved_then false f g h a b c s t end_if = refl
moved_then false f g h a b c s t loop = refl
moved_then false f g h a b c s t (end_loop q) = ap end_loop (t q)
moved_then false f g h a b c s t (exit q) = ap exit (t q)
moved_then false f g h a b c s t (exit_when e q) = ap (λ x. exit_when x (a (b q))) (renumbered_twice f g h s e) ∙ ap (exit_when (renumbered h e)) (t q)
moved_then false f g h a b c s t label = refl
moved_then false f g h a b c s t (goto q) = ap goto (t q)
moved_then false f g h a b c s t skip = refl
moved_then false f g h a b c s t (assert e) = ap assert (renumbered_twice f g h s e)
moved_then false f g h a b c s t (return q) = ap return (t q)
moved_then false f g h a b c s t (end_procedure e) = ap end_procedure (renumbered_twice f g h s e)

-- an assignment is moved as it is inlined
pub assign_placed : (called : Bool) (f a : ℕ → ℕ) (p : ℕ) (e : Expression) → placed called f a (assign p e) ≡ assign (f p) (renumbered f e)
assign_placed true f a p e = refl
assign_placed false f a p e = refl

-- neither the first line of a procedure nor its last one
abbrev pub IsInner : Instruction → Type 0
IsInner (pre e) = ⊥
IsInner (end_procedure e) = ⊥
IsInner (assign p e) = Unit {0}
IsInner (if_true e q) = Unit {0}
IsInner (otherwise q) = Unit {0}
IsInner end_if = Unit {0}
IsInner loop = Unit {0}
IsInner (end_loop q) = Unit {0}
IsInner (exit q) = Unit {0}
IsInner (exit_when e q) = Unit {0}
IsInner label = Unit {0}
IsInner (goto q) = Unit {0}
IsInner skip = Unit {0}
IsInner (assert e) = Unit {0}
IsInner (return q) = Unit {0}

-- such a line steps alike moved and inlined
pub inner_same : (f a : ℕ → ℕ) (places : List Place) (pc : ℕ) (t : State) (i : Instruction) → IsInner i → stepped places pc t (inlined f a i) ≡ stepped places pc t (moved f a i)
inner_same f a places pc t (pre e) h = absurd h
inner_same f a places pc t (end_procedure e) h = absurd h
inner_same f a places pc t (assign p e) h = refl
inner_same f a places pc t (if_true e q) h = refl
inner_same f a places pc t (otherwise q) h = refl
inner_same f a places pc t end_if h = refl
inner_same f a places pc t loop h = refl
inner_same f a places pc t (end_loop q) h = refl
inner_same f a places pc t (exit q) h = refl
inner_same f a places pc t (exit_when e q) h = refl
inner_same f a places pc t label h = refl
inner_same f a places pc t (goto q) h = refl
inner_same f a places pc t skip h = refl
inner_same f a places pc t (assert e) h = refl
inner_same f a places pc t (return q) h = refl

renumbered_itself : (f : ℕ → ℕ) → ((k : ℕ) → f k ≡ k) → (e : Expression) → renumbered f e ≡ e
renumbered_itself f same (number n) = refl
renumbered_itself f same (variable p) = ap variable (same p)
renumbered_itself f same (flag p) = ap flag (same p)
renumbered_itself f same (truth b) = refl
renumbered_itself f same (minus e) = ap minus (renumbered_itself f same e)
renumbered_itself f same (opposite e) = ap opposite (renumbered_itself f same e)
renumbered_itself f same (two o a b) = ap (λ x. two o x (renumbered f b)) (renumbered_itself f same a) ∙ ap (two o a) (renumbered_itself f same b)

-- a line that is moved nowhere
pub moved_itself : (f a : ℕ → ℕ) → ((k : ℕ) → f k ≡ k) → ((k : ℕ) → a k ≡ k) → (i : Instruction) → moved f a i ≡ i
moved_itself f a s t (pre e) = ap pre (renumbered_itself f s e)
moved_itself f a s t (assign p e) = ap (λ k. assign k (renumbered f e)) (s p) ∙ ap (assign p) (renumbered_itself f s e)
moved_itself f a s t (if_true e q) = ap (λ x. if_true x (a q)) (renumbered_itself f s e) ∙ ap (if_true e) (t q)
moved_itself f a s t (otherwise q) = ap otherwise (t q)
moved_itself f a s t end_if = refl
moved_itself f a s t loop = refl
moved_itself f a s t (end_loop q) = ap end_loop (t q)
moved_itself f a s t (exit q) = ap exit (t q)
moved_itself f a s t (exit_when e q) = ap (λ x. exit_when x (a q)) (renumbered_itself f s e) ∙ ap (exit_when e) (t q)
moved_itself f a s t label = refl
moved_itself f a s t (goto q) = ap goto (t q)
moved_itself f a s t skip = refl
moved_itself f a s t (assert e) = ap assert (renumbered_itself f s e)
moved_itself f a s t (return q) = ap return (t q)
moved_itself f a s t (end_procedure e) = ap end_procedure (renumbered_itself f s e)
