-- In a text in order the first statement is the TITLE, and each ENDPROC stands behind a POST of its procedure.
use Rattle.std.proofs.Common.{◌≡◌, ◌⊎◌, ℕ, zero, suc, ◌≤◌, ◌∙◌, sym, ap, refl, inl, inr, true, List, [], ◌∷◌, ◌++◌, length, drop, slice_get, arith}
use Rattle.std.specs.Prelude.{Some}
use Rattle.std.specs.Option.{option_and_then}
use Rattle.std.proofs.lemmas.Option.{slice_get_within}
use Rattle.il_core.specs.Expression.{Expression}
use Rattle.il_core.specs.Statement.{Statement, Placed}
use Rattle.il_core.specs.Statement as st
use Rattle.il_core.specs.Tree.{Tree}
use Rattle.il_syntax.specs.declared.order.Part.{Part}
use Rattle.il_syntax.specs.declared.order.Part.TheVariants as part
use Rattle.il_syntax.specs.declared.order.Stage.{Stage}
use Rattle.il_syntax.specs.declared.order.Stage.TheVariants as at
use Rattle.il_syntax.specs.Order.{part_of, next, run, IsInOrder}
use Rattle.il_types.specs.declared.counts.Counts.{Counts}
use Rattle.il_types.specs.Built.{built}
use Rattle.il_types.specs.Counts.{counts_behind}
use Rattle.il_types.specs.Names.{counts_at}
use Rattle.il_built.specs.CheckedText.{given, posted, first_condition, post_of, title_of}
use Rattle.il_built.specs.Holding.{setting_at}
use Rattle.il_built.proofs.Entered.{bound}
use Rattle.il_built.proofs.Given.{stands, counts_next, given_by, given_next, given_here, given_front}
use Rattle.il_built.proofs.VariablesFirst.{is_behind}
use Rattle.accept_laws.specs.LookUps.{title_found, first_of, condition_found}

-- the first statement is the TITLE
pub title_there : (stmts : List Placed) → IsInOrder stmts → title_found stmts ≡ Some (title_of stmts)
title_there [] o = absurd (cc)
title_there (x ∷ xs) o = by x.says o
  where
    by : (s : Statement) → option_and_then (λ after. run after xs) (next at.Start (part_of s)) ≡ Some at.Done → title_found (record { place = x.place; says = s } ∷ xs) ≡ Some (title_of (record { place = x.place; says = s } ∷ xs))
    by (st.title name) e = refl
    by _ e = absurd (cc)

-- what stands at a number and behind it
drop_here : (stmts : List Placed) (i : ℕ) (x : Placed) → slice_get stmts i ≡ Some x → drop i stmts ≡ x ∷ drop (suc i) stmts
drop_here [] i x e = absurd (cc)
drop_here (y ∷ ys) zero x e = let same : y ≡ x = cc in ap (λ (z : Placed). z ∷ ys) same
drop_here (y ∷ ys) (suc i) x e = drop_here ys i x e

-- a POST stands in front of statement n, in the latest procedure
record HasPost (stmts : List Placed) (n : ℕ) : Type 0 where
  at : ℕ
  stmt : Placed
  tree : Tree
  there : slice_get stmts at ≡ Some stmt
  says : stmt.says ≡ st.post tree
  own : (counts_at stmts at).procedures ≡ (counts_at stmts n).procedures

-- the stage in front of statement n, from which the others run to the end; in a body a POST is behind
record Reached (stmts : List Placed) (n : ℕ) : Type 0 where
  stage : Stage
  rest : run stage (drop n stmts) ≡ Some at.Done
  behind : stage ≡ at.Body → HasPost stmts n

into_body : (stage : Stage) (p : Part) → next stage p ≡ Some at.Body → (p ≡ part.Postcondition) ⊎ ((stage ≡ at.Body) × (p ≡ part.Body))
into_body at.Postcondition part.Postcondition e = inl refl
into_body at.Body part.Body e = inr (refl, refl)
into_body at.Start part.Title e = absurd (cc)
into_body at.Declarations part.Declaration e = absurd (cc)
into_body at.Declarations part.Opening e = absurd (cc)
into_body at.Variables part.Variable e = absurd (cc)
into_body at.Variables part.Precondition e = absurd (cc)
into_body at.Body part.Closing e = absurd (cc)
into_body at.Procedures part.Opening e = absurd (cc)
into_body at.Procedures part.Finish e = absurd (cc)
into_body _ _ e = absurd (cc)

is_post : (s : Statement) → part_of s ≡ part.Postcondition → (e : Tree) × (s ≡ st.post e)
is_post (st.post e) h = (e, refl)
is_post _ h = absurd (cc)

same_procedure : (c : Counts) (s : Statement) → is_behind (part_of s) ≡ true → (counts_behind c s).procedures ≡ c.procedures
same_procedure c (st.procedure name) h = absurd (cc)
same_procedure c _ h = refl

reached : (stmts : List Placed) → IsInOrder stmts → (n : ℕ) → n ≤ length stmts → Reached stmts n
reached stmts o zero h = record { stage = at.Start; rest = o; behind = λ e. absurd (cc) }
reached stmts o (suc n) h = let x = stands stmts n (omega arith) in step x.0 x.1 (reached stmts o n (omega arith))
  where
    step : (x : Placed) → slice_get stmts n ≡ Some x → Reached stmts n → Reached stmts (suc n)
    step x there r = record { stage = after.0; rest = after.2; behind = behind }
      where
        after : (s : Stage) × (next r.stage (part_of x.says) ≡ Some s) × (run s (drop (suc n) stmts) ≡ Some at.Done)
        after = bound (λ s. run s (drop (suc n) stmts)) (next r.stage (part_of x.says)) at.Done (sym (ap (run r.stage) (drop_here stmts n x there)) ∙ r.rest)

        later : is_behind (part_of x.says) ≡ true → (counts_at stmts n).procedures ≡ (counts_at stmts (suc n)).procedures
        later b = sym (ap (λ (c : Counts). c.procedures) (counts_next stmts n x there) ∙ same_procedure (counts_at stmts n) x.says b)

        by : (part_of x.says ≡ part.Postcondition) ⊎ ((r.stage ≡ at.Body) × (part_of x.says ≡ part.Body)) → HasPost stmts (suc n)
        by (inl p) = let post = is_post x.says p in record { at = n; stmt = x; tree = post.0; there = there; says = post.1; own = later (ap is_behind p) }
        by (inr b) =
            let before = r.behind b.0 in
            record { at = before.at; stmt = before.stmt; tree = before.tree; there = before.there; says = before.says; own = before.own ∙ later (ap is_behind b.1) }

        behind : after.0 ≡ at.Body → HasPost stmts (suc n)
        behind e = by (into_body r.stage (part_of x.says) (after.1 ∙ ap Some e))

closes_body : (stage after : Stage) → next stage part.Closing ≡ Some after → stage ≡ at.Body
closes_body at.Body after e = refl
closes_body _ after e = absurd (cc)

post_before : (stmts : List Placed) → IsInOrder stmts → (i : ℕ) (x : Placed) → slice_get stmts i ≡ Some x → x.says ≡ st.end_procedure → HasPost stmts i
post_before stmts o i x there says =
    let within = slice_get_within stmts i x there in
    let r = reached stmts o i (omega arith) in
    let after = bound (λ s. run s (drop (suc i) stmts)) (next r.stage (part_of x.says)) at.Done (sym (ap (run r.stage) (drop_here stmts i x there)) ∙ r.rest) in
    r.behind (closes_body r.stage after.0 (sym (ap (λ (s : Statement). next r.stage (part_of s)) says) ∙ after.1))

-- a list with an element has a first one
first_there : (front : List Expression) (e : Expression) (rest : List Expression) → first_of ((front ++ e ∷ []) ++ rest) ≡ Some (first_condition ((front ++ e ∷ []) ++ rest))
first_there [] e rest = refl
first_there (x ∷ xs) e rest = refl

-- an ENDPROC has the condition of a POST
pub post_there : (stmts : List Placed) → IsInOrder stmts → (i : ℕ) (x : Placed) → slice_get stmts i ≡ Some x → x.says ≡ st.end_procedure
    → condition_found stmts (counts_at stmts i).procedures ≡ Some (post_of stmts (counts_at stmts i).procedures)
post_there stmts o i x there says = shown (post_before stmts o i x there says)
  where
    shown : HasPost stmts i → condition_found stmts (counts_at stmts i).procedures ≡ Some (post_of stmts (counts_at stmts i).procedures)
    shown p =
        let within = slice_get_within stmts p.at p.stmt p.there in
        let say : ℕ → Statement → List Expression = λ j y. posted (setting_at stmts j) y in
        let k = (counts_at stmts i).procedures in
        let e = built (setting_at stmts p.at) p.tree in
        let here = given_here say stmts k p.at p.stmt p.there p.own ∙ ap (posted (setting_at stmts p.at)) p.says in
        let front = given_front say stmts k (suc p.at) (length stmts) (omega arith) in
        let whole : given say stmts k ≡ (given_by say stmts k p.at ++ e ∷ []) ++ front.0 =
        front.1 ∙ ap (λ (es : List Expression). es ++ front.0) (given_next say stmts k p.at ∙ ap (λ (es : List Expression). given_by say stmts k p.at ++ es) here) in
        ap first_of whole ∙ first_there (given_by say stmts k p.at) e front.0 ∙ ap (λ (es : List Expression). Some (first_condition es)) (sym whole)
