-- In a text in order each variable stands in a procedure, and constants and types stand in front of all procedures.
use Rattle.std.proofs.Common.{◌≡◌, ℕ, zero, suc, ◌≤◌, ◌∙◌, sym, ap, subst, refl, inl, inr, ◌⊎◌, Bool, true, false, List, ◌∷◌, length, drop, arith}
use Rattle.std.specs.Prelude.{Some}
use Rattle.std.proofs.Math.Seq.{drop-cons}
use Rattle.std.proofs.lemmas.Option.{get_or_from_slice_get, slice_get_within}
use Rattle.il_core.specs.Statement.{Statement, Placed}
use Rattle.il_core.specs.Statement as st
use Rattle.il_syntax.specs.declared.order.Part.{Part}
use Rattle.il_syntax.specs.declared.order.Part.TheVariants as part
use Rattle.il_syntax.specs.declared.order.Stage.{Stage}
use Rattle.il_syntax.specs.declared.order.Stage.TheVariants as at
use Rattle.il_syntax.specs.Order.{part_of, next, run, IsInOrder}
use Rattle.il_built.proofs.Entered.{bound}
use Rattle.il_built.proofs.VariablesFirst.{owned}
use Rattle.typing_laws.specs.Declared.{Says, Names, a_constant, a_range, a_wrapping, an_enumeration, a_value, a_procedure}
use Rattle.typing_laws.proofs.Standing.{one, none, step, count, placed_at, said_or_past}
use Rattle.typing_laws.proofs.Declaring.{ArePlaced}

-- no procedure has begun
abbrev is_early : Stage → Bool
is_early at.Start = true
is_early at.Declarations = true
is_early _ = false

abbrev is_opening : Part → Bool
is_opening part.Opening = true
is_opening _ = false

abbrev is_declaration : Part → Bool
is_declaration part.Declaration = true
is_declaration _ = false

-- a part that may stand at a stage leads to another one
record Leads (stage after : Stage) (p : Part) : Type 0 where
  early : is_early after ≡ true → (is_early stage ≡ true) × (is_opening p ≡ false)
  shared : is_declaration p ≡ true → is_early stage ≡ true

arrives : (stage t after : Stage) (p : Part) → Some t ≡ Some after → Leads stage t p → Leads stage after p
arrives stage t after p e s = let f : t ≡ after = cc in subst (λ u. Leads stage u p) f s

false_true : {A : Type 0} → false ≡ true → A
false_true e = absurd (cc)

late : (stage t : Stage) (p : Part) → is_early t ≡ false → is_declaration p ≡ false → Leads stage t p
late stage t p e f = record { early = λ g. false_true (sym e ∙ g); shared = λ g. false_true (sym f ∙ g) }

leads : (stage : Stage) (p : Part) (after : Stage) → next stage p ≡ Some after → Leads stage after p
leads at.Start part.Title after e = arrives at.Start at.Declarations after part.Title e (record { early = λ g. (refl, refl); shared = λ g. refl })
leads at.Declarations part.Declaration after e =
    arrives at.Declarations at.Declarations after part.Declaration e (record { early = λ g. (refl, refl); shared = λ g. refl })
leads at.Declarations part.Opening after e = arrives at.Declarations at.Variables after part.Opening e (late at.Declarations at.Variables part.Opening refl refl)
leads at.Variables part.Variable after e = arrives at.Variables at.Variables after part.Variable e (late at.Variables at.Variables part.Variable refl refl)
leads at.Variables part.Precondition after e = arrives at.Variables at.Postcondition after part.Precondition e (late at.Variables at.Postcondition part.Precondition refl refl)
leads at.Postcondition part.Postcondition after e = arrives at.Postcondition at.Body after part.Postcondition e (late at.Postcondition at.Body part.Postcondition refl refl)
leads at.Body part.Body after e = arrives at.Body at.Body after part.Body e (late at.Body at.Body part.Body refl refl)
leads at.Body part.Closing after e = arrives at.Body at.Procedures after part.Closing e (late at.Body at.Procedures part.Closing refl refl)
leads at.Procedures part.Opening after e = arrives at.Procedures at.Variables after part.Opening e (late at.Procedures at.Variables part.Opening refl refl)
leads at.Procedures part.Finish after e = arrives at.Procedures at.Done after part.Finish e (late at.Procedures at.Done part.Finish refl refl)
leads _ _ after e = absurd (cc)

-- the stage in front of statement i
record IsAt (stmts : List Placed) (i : ℕ) (stage : Stage) : Type 0 where
  rest : run stage (drop i stmts) ≡ Some at.Done
  early : is_early stage ≡ true → count stmts i ≡ 0

-- the stage behind a statement
record GoesOn (stmts : List Placed) (i : ℕ) (stage : Stage) (x : Statement) : Type 0 where
  after : Stage
  leads : Leads stage after (part_of x)
  is : IsAt stmts (suc i) after

goes_on : (stmts : List Placed) (i : ℕ) (stage : Stage) (x : Statement) → Says stmts i x → IsAt stmts i stage → GoesOn stmts i stage x
goes_on stmts i stage x h a =
    let s = placed_at stmts i x h in
    let cut : drop i stmts ≡ s.0 ∷ drop (suc i) stmts =
    drop-cons stmts i s.0 (slice_get_within stmts i s.0 s.1) ∙ ap (λ (y : Placed). y ∷ drop (suc i) stmts) (get_or_from_slice_get stmts i s.0 s.0 s.1) in
    let found = bound (λ t. run t (drop (suc i) stmts)) (next stage (part_of s.0.says)) at.Done (sym (ap (run stage) cut) ∙ a.rest) in
    let l = leads stage (part_of x) found.0 (ap (λ y. next stage (part_of y)) (sym s.2) ∙ found.1) in
    record {
      after = found.0;
      leads = l;
      is = record { rest = found.2; early = λ g. let before = l.early g in counts (a.early before.0) before.1 };
    }
  where
    counts : count stmts i ≡ 0 → is_opening (part_of x) ≡ false → count stmts (suc i) ≡ 0
    counts zero_before other = elim (step stmts i) [
      | one b c ↦
          let e : Some x ≡ Some (st.procedure b.name) = sym h ∙ b.says in
          let f : x ≡ st.procedure b.name = cc in
          false_true (sym other ∙ ap (λ y. is_opening (part_of y)) f)
      | none b c ↦ c ∙ zero_before
    ]

stage_at : (stmts : List Placed) (i : ℕ) → IsInOrder stmts → i ≤ length stmts → (stage : Stage) × IsAt stmts i stage
stage_at stmts zero o h = (at.Start, record { rest = o; early = λ e. refl })
stage_at stmts (suc i) o h = elim (said_or_past stmts i) [
  | inl x ↦
      let before = stage_at stmts i o (omega arith) in
      let g = goes_on stmts i before.0 x.0 x.1 before.1 in
      (g.after, g.is)
  | inr past ↦ absurd (omega arith)
]

-- a shared name is that of a procedure or stands among the declarations
declares : (x : Statement) (k : ℕ) (name : List ℕ) → Names x k name → ((called : List ℕ) × (x ≡ st.procedure called)) ⊎ (is_declaration (part_of x) ≡ true)
declares x k name (a_constant called value) = inr refl
declares x k name (a_range called least greatest) = inr refl
declares x k name (a_wrapping called least greatest) = inr refl
declares x k name (an_enumeration called values) = inr refl
declares x k name (a_value called word values n h) = inr refl
declares x k name (a_procedure called) = inl (called, refl)

pub are_placed : (stmts : List Placed) → IsInOrder stmts → ArePlaced stmts
are_placed stmts o = record {
  owned = λ j mode name type h. let s = placed_at stmts j (st.variable mode name type) h in owned stmts o j mode name type (record { stmt = s.0; there = s.1; says = s.2 });
  first = λ j k name s. elim (declares s.stmt k name s.names) [
    | inl b ↦ inl (record { name = b.0; says = s.says ∙ ap Some b.1 })
    | inr d ↦
        let p = placed_at stmts j s.stmt s.says in
        let inside = slice_get_within stmts j p.0 p.1 in
        let here = stage_at stmts j o (omega arith) in
        let g = goes_on stmts j here.0 s.stmt s.says here.1 in
        inr (here.1.early (g.leads.shared d))
  ];
}
