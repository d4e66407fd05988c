-- No list of tokens has two answers.
use Rattle.std.proofs.Common.{◌≡◌, ℕ, List, [], ◌∷◌, ◌++◌, refl, sym, ◌∙◌, ap, subst, inl, inr, ◌⊎◌}
use Rattle.std.specs.Prelude.{Option, Some, None, Ok, Err}
use Rattle.std.specs.Option.{option_and_then}
use Rattle.std.proofs.lemmas.List.{append_cancel_right}
use Rattle.il_core.specs.Statement.{Statement, Placed}
use Rattle.il_core.specs.declared.refusal.Code.{Code}
use Rattle.il_core.specs.declared.refusal.Code.TheVariants as code
use Rattle.il_core.specs.declared.refusal.Refusal.{Refusal}
use Rattle.il_core.specs.declared.token.Symbol.TheVariants as s
use Rattle.il_core.specs.declared.token.Token.{Token}
use Rattle.il_core.specs.declared.token.TokenKind.{TokenKind}
use Rattle.il_core.specs.declared.token.TokenKind.TheVariants.{Symbol}
use Rattle.il_syntax.specs.declared.order.Stage.{Stage}
use Rattle.il_syntax.specs.declared.order.Stage.TheVariants as at
use Rattle.il_syntax.specs.Expression.{kinds}
use Rattle.il_syntax.specs.Form.{Derives}
use Rattle.il_syntax.specs.FormReading.{Reading, nothing, whole, around, around_all, reading}
use Rattle.il_syntax.specs.Order.{run, next, part_of, IsInOrder, StopsAt, BreaksAt}
use Rattle.il_syntax.specs.Parse.{pieces, IsStatement, AreStatements, FailsAt, OneParse}
use Rattle.il_syntax.proofs.CallArguments.{one_arguments}
use Rattle.il_syntax.proofs.ExpressionExact.{one_tree}
use Rattle.il_syntax.proofs.SpeltIsRead.{Agrees, spelt_reads}

-- what is read agrees with one statement
one_reading : (r : Reading) (a b : Statement) → Agrees a r → Agrees b r → a ≡ b
one_reading nothing a b f g = absurd f
one_reading (whole t) a b f g = f ∙ sym g
one_reading (around make tokens) a b f g = f.2 ∙ ap make (one_tree f.1 g.1) ∙ sym g.2
one_reading (around_all make tokens) a b f g = f.2 ∙ ap make (one_arguments tokens f.0 g.0 f.1 g.1) ∙ sym g.2

-- no tokens are two statements
one_form : (tokens : List TokenKind) (a b : Statement) → Derives a tokens → Derives b tokens → a ≡ b
one_form tokens a b f g =
    let same = append_cancel_right f.body g.body (Symbol s.Semicolon ∷ []) (sym f.ended ∙ g.ended) in
    one_reading (reading g.body) a b (subst (λ (ts : List TokenKind). Agrees a (reading ts)) same (spelt_reads a f.body f.spelt)) (spelt_reads b g.body g.spelt)

one_statement : (piece : List Token) (a b : Placed) → IsStatement piece a → IsStatement piece b → a ≡ b
one_statement piece a b f g =
    let says = one_form (kinds piece) a.says b.says f.derived g.derived in
    let place = f.place ∙ sym g.place in
    let made : ℕ → Statement → Placed = λ p t. record { place = p; says = t } in
    ap (λ (p : ℕ). made p a.says) place ∙ ap (λ (t : Statement). made b.place t) says

one_list : (ps : List (List Token)) (a b : List Placed) → AreStatements ps a → AreStatements ps b → a ≡ b
one_list [] [] [] f g = refl
one_list [] [] (y ∷ ys) f g = absurd g
one_list [] (x ∷ xs) b f g = absurd f
one_list (p ∷ ps) [] b f g = absurd f
one_list (p ∷ ps) (x ∷ xs) [] f g = absurd g
one_list (p ∷ ps) (x ∷ xs) (y ∷ ys) f g =
    ap (λ (z : Placed). z ∷ xs) (one_statement p x y f.0 g.0) ∙ ap (λ (zs : List Placed). y ∷ zs) (one_list ps xs ys f.1 g.1)

-- where all pieces are statements, none fails
none_fails : (ps : List (List Token)) (stmts : List Placed) (place : ℕ) → AreStatements ps stmts → FailsAt ps place → ⊥
none_fails [] stmts place f g = g
none_fails (p ∷ ps) [] place f g = f
none_fails (p ∷ ps) (x ∷ xs) place f (inl g) = g.0 x.says f.0.derived
none_fails (p ∷ ps) (x ∷ xs) place f (inr g) = none_fails ps xs place f.1 g.2

-- one piece is the first that fails
one_failure : (ps : List (List Token)) (a b : ℕ) → FailsAt ps a → FailsAt ps b → a ≡ b
one_failure [] a b f g = absurd f
one_failure (p ∷ ps) a b (inl f) (inl g) = f.1 ∙ sym g.1
one_failure (p ∷ ps) a b (inl f) (inr g) = absurd (f.0 g.0 g.1)
one_failure (p ∷ ps) a b (inr f) (inl g) = absurd (g.0 f.0 f.1)
one_failure (p ∷ ps) a b (inr f) (inr g) = one_failure ps a b f.2 g.2

-- the place where the order breaks from a stage on, if anywhere
abbrev end_break : ℕ → Stage → Option ℕ
end_break text_len at.Done = None
end_break text_len _ = Some text_len

abbrev here_or : ℕ → (Stage → Option ℕ) → Option Stage → Option ℕ
here_or place later None = Some place
here_or place later (Some after) = later after

abbrev first_break : ℕ → Stage → List Placed → Option ℕ
first_break text_len stage [] = end_break text_len stage
first_break text_len stage (x ∷ xs) = here_or x.place (λ after. first_break text_len after xs) (next stage (part_of x.says))

never_next : (text_len here : ℕ) (xs : List Placed) (o : Option Stage) → ((after : Stage) → run after xs ≡ Some at.Done → first_break text_len after xs ≡ None)
    → option_and_then (λ after. run after xs) o ≡ Some at.Done → here_or here (λ after. first_break text_len after xs) o ≡ None
never_next text_len here xs None claim e = cc
never_next text_len here xs (Some after) claim e = claim after e

-- it breaks nowhere behind statements that run to the end
never_breaks : (text_len : ℕ) (xs : List Placed) (stage : Stage) → run stage xs ≡ Some at.Done → first_break text_len stage xs ≡ None
never_breaks text_len [] stage e = let f : stage ≡ at.Done = cc in rw f refl
never_breaks text_len (x ∷ xs) stage e = never_next text_len x.place xs (next stage (part_of x.says)) (λ after f. never_breaks text_len xs after f) e

stops_there : (text_len : ℕ) (stage : Stage) (rest : List Placed) (place : ℕ) → StopsAt text_len stage rest place → first_break text_len stage rest ≡ Some place
stops_there text_len at.Done [] place h = absurd (h.0 refl)
stops_there text_len at.Start [] place h = ap Some (sym h.1)
stops_there text_len at.Declarations [] place h = ap Some (sym h.1)
stops_there text_len at.Variables [] place h = ap Some (sym h.1)
stops_there text_len at.Postcondition [] place h = ap Some (sym h.1)
stops_there text_len at.Body [] place h = ap Some (sym h.1)
stops_there text_len at.Procedures [] place h = ap Some (sym h.1)
stops_there text_len stage (x ∷ xs) place h = ap (here_or x.place (λ after. first_break text_len after xs)) h.0 ∙ ap Some (sym h.1)

-- what holds behind each stage holds behind the stage that is there, if any
breaks_next : (text_len here : ℕ) (xs rest : List Placed) (o : Option Stage) (reached : Stage) (place : ℕ)
    → ((after : Stage) → run after xs ≡ Some reached → first_break text_len after (xs ++ rest) ≡ Some place)
    → option_and_then (λ after. run after xs) o ≡ Some reached → here_or here (λ after. first_break text_len after (xs ++ rest)) o ≡ Some place
breaks_next text_len here xs rest None reached place claim e = cc
breaks_next text_len here xs rest (Some after) reached place claim e = claim after e

-- it breaks where the statements behind a front stop
breaks_there : (text_len : ℕ) (front rest : List Placed) (stage reached : Stage) (place : ℕ) → run stage front ≡ Some reached → StopsAt text_len reached rest place
    → first_break text_len stage (front ++ rest) ≡ Some place
breaks_there text_len [] rest stage reached place e h = let f : stage ≡ reached = cc in rw f (stops_there text_len reached rest place h)
breaks_there text_len (x ∷ xs) rest stage reached place e h =
    breaks_next text_len x.place xs rest (next stage (part_of x.says)) reached place (λ after f. breaks_there text_len xs rest after reached place f h) e

breaks_first : (text_len : ℕ) (stmts : List Placed) (place : ℕ) → BreaksAt text_len stmts place → first_break text_len at.Start stmts ≡ Some place
breaks_first text_len stmts place b = ap (first_break text_len at.Start) b.parts ∙ breaks_there text_len b.front b.rest at.Start b.stage place b.before b.stops

one_break : (text_len : ℕ) (stmts : List Placed) (a b : ℕ) → BreaksAt text_len stmts a → BreaksAt text_len stmts b → a ≡ b
one_break text_len stmts a b f g = let e : ◌≡◌ {A = Option ℕ} (Some a) (Some b) = sym (breaks_first text_len stmts a f) ∙ breaks_first text_len stmts b g in cc

in_order_never_breaks : (text_len : ℕ) (stmts : List Placed) (place : ℕ) → IsInOrder stmts → BreaksAt text_len stmts place → ⊥
in_order_never_breaks text_len stmts place f g =
    let e : ◌≡◌ {A = Option ℕ} None (Some place) = sym (never_breaks text_len stmts at.Start f) ∙ breaks_first text_len stmts place g in cc

-- two refusals at one place with one code are one
same_refusal : (a b : Refusal) → a.code ≡ b.code → a.place ≡ b.place → a.name ≡ None → b.name ≡ None → a ≡ b
same_refusal a b code place left right =
    let made : Code → ℕ → Option (List ℕ) → Refusal = λ c p n. record { code = c; place = p; name = n } in
    ap (λ (c : Code). made c a.place a.name) code ∙ ap (λ (p : ℕ). made b.code p a.name) place ∙ ap (λ (n : Option (List ℕ)). made b.code b.place n) (left ∙ sym right)

-- the two ways to a refusal
abbrev FormFails : List Token → Refusal → Type 0
FormFails tokens r = (r.code ≡ code.Syntax) × FailsAt (pieces tokens) r.place

abbrev OrderFails : ℕ → List Token → Refusal → Type 0
OrderFails text_len tokens r = (r.code ≡ code.Order) × ((stmts : List Placed) × AreStatements (pieces tokens) stmts × BreaksAt text_len stmts r.place)

one_refusal : (text_len : ℕ) (tokens : List Token) (a b : Refusal) → a.name ≡ None → b.name ≡ None → FormFails tokens a ⊎ OrderFails text_len tokens a
    → FormFails tokens b ⊎ OrderFails text_len tokens b → a ≡ b
one_refusal text_len tokens a b left right (inl f) (inl g) = same_refusal a b (f.0 ∙ sym g.0) (one_failure (pieces tokens) a.place b.place f.1 g.1) left right
one_refusal text_len tokens a b left right (inl f) (inr g) = absurd (none_fails (pieces tokens) g.1.0 a.place g.1.1 f.1)
one_refusal text_len tokens a b left right (inr f) (inl g) = absurd (none_fails (pieces tokens) f.1.0 b.place f.1.1 g.1)
one_refusal text_len tokens a b left right (inr f) (inr g) =
    same_refusal a b (f.0 ∙ sym g.0)
    (one_break text_len g.1.0 a.place b.place (subst (λ (ss : List Placed). BreaksAt text_len ss a.place) (one_list (pieces tokens) f.1.0 g.1.0 f.1.1 g.1.1) f.1.2) g.1.2)
    left right

-- statements in order are not refused
not_both : (text_len : ℕ) (tokens : List Token) (stmts : List Placed) (r : Refusal) → AreStatements (pieces tokens) stmts → IsInOrder stmts
    → FormFails tokens r ⊎ OrderFails text_len tokens r → ⊥
not_both text_len tokens stmts r are order (inl f) = none_fails (pieces tokens) stmts r.place are f.1
not_both text_len tokens stmts r are order (inr f) =
    in_order_never_breaks text_len stmts r.place order
    (subst (λ (ss : List Placed). BreaksAt text_len ss r.place) (one_list (pieces tokens) f.1.0 stmts f.1.1 are) f.1.2)

pub one_answer : OneParse
one_answer text_len tokens (Ok x) (Ok y) f g = ap Ok (one_list (pieces tokens) x y f.0 g.0)
one_answer text_len tokens (Ok x) (Err r) f g = absurd (not_both text_len tokens x r f.0 f.1 g.1)
one_answer text_len tokens (Err r) (Ok y) f g = absurd (not_both text_len tokens y r g.0 g.1 f.1)
one_answer text_len tokens (Err a) (Err b) f g = ap Err (one_refusal text_len tokens a b f.0 g.0 f.1 g.1)
