-- Where statements stand in order and all are matched, no block is open at their end.
use Rattle.std.proofs.Common.{◌≡◌, ◌||◌, Bool, true, false, List, [], ◌∷◌, ◌++◌, length, refl, sym, ◌∙◌, ap, subst, if◌then◌else◌}
use Rattle.std.specs.Prelude.{Option, Some, None}
use Rattle.std.specs.Option.{option_and_then}
use Rattle.std.specs.List.{list_any}
use Rattle.std.proofs.Math.Seq.{take-length}
use Rattle.il_core.specs.Statement.{Statement, Placed, procedure, if_true, otherwise, end_if, loop, end_loop, end_procedure}
use Rattle.il_syntax.specs.Order.{IsInOrder}
use Rattle.il_syntax.proofs.Turns.{may_stand, turned, TakeTurns, take_turns}
use Rattle.il_blocks.specs.declared.block.Kind.{Kind}
use Rattle.il_blocks.specs.declared.block.Kind.TheVariants as kind
use Rattle.il_blocks.specs.declared.block.Closer.{Closer}
use Rattle.il_blocks.specs.declared.block.Closer.TheVariants as closer
use Rattle.il_blocks.specs.declared.block.OpenBlock.{OpenBlock}
use Rattle.il_blocks.specs.Block.{fits, opening, closing, brackets, brackets_of}
use Rattle.il_blocks.proofs.BlockNest.{scan, scan_one, scan_append}
use Rattle.il_blocks.proofs.BlockChain.{kinds, chain_scan}
use Rattle.il_blocks.proofs.BlockStack.{IsStack}

not_some : {A : Type 0} (x : A) → ◌≡◌ {A = Option A} None (Some x) → ⊥
not_some x e = cc

abbrev is_procedure : Kind → Bool
is_procedure kind.Procedure = true
is_procedure _ = false

-- below other blocks that are open stands that of the procedure
pub record InProcedure (ks : List Kind) : Type 0 where
  above : List Kind
  is : ks ≡ above ++ kind.Procedure ∷ []
  others : list_any is_procedure above ≡ false

-- inside a procedure that one alone is open, outside none
abbrev pub Balanced : Bool → List Kind → Type 0
Balanced false ks = ks ≡ []
Balanced true ks = InProcedure ks

-- one more block in a procedure
one_opens : (k : Kind) (ks js : List Kind) → is_procedure k ≡ false → InProcedure ks → k ∷ ks ≡ js → InProcedure js
one_opens k ks js h p e = record {
  above = k ∷ p.above;
  is = sym e ∙ ap (λ (xs : List Kind). k ∷ xs) p.is;
  others = ap (λ (b : Bool). b || list_any is_procedure p.above) h ∙ p.others;
}

either_false : (a b : Bool) → (a || b) ≡ false → b ≡ false
either_false true b e = cc
either_false false b e = e

-- a block in a procedure is closed
one_closes : (c : Closer) (ks js : List Kind) → fits c kind.Procedure ≡ false → InProcedure ks → scan_one (closing c) ks ≡ Some js → InProcedure js
one_closes c ks js h p e = by p.above p.others (ap (scan_one (closing c)) (sym p.is) ∙ e)
  where
    none : (b : Bool) (xs : List Kind) → b ≡ false → (if b then Some xs else None) ≡ Some js → ⊥
    none true xs f g = cc
    none false xs f g = not_some js g

    some : (b : Bool) (xs : List Kind) → (if b then Some xs else None) ≡ Some js → xs ≡ js
    some true xs g = cc
    some false xs g = absurd (not_some js g)

    by : (above : List Kind) → list_any is_procedure above ≡ false → scan_one (closing c) (above ++ kind.Procedure ∷ []) ≡ Some js → InProcedure js
    by [] o g = absurd (none (fits c kind.Procedure) [] h g)
    by (k ∷ ks) o g = record {
      above = ks;
      is = sym (some (fits c k) (ks ++ kind.Procedure ∷ []) g);
      others = either_false (is_procedure k) (list_any is_procedure ks) o;
    }

-- ENDPROC closes the procedure, if it closes anything
procedure_closes : (ks js : List Kind) → InProcedure ks → scan_one (closing closer.ByEndProc) ks ≡ Some js → js ≡ []
procedure_closes ks js p e = by p.above p.others (ap (scan_one (closing closer.ByEndProc)) (sym p.is) ∙ e)
  where
    by : (above : List Kind) → list_any is_procedure above ≡ false → scan_one (closing closer.ByEndProc) (above ++ kind.Procedure ∷ []) ≡ Some js → js ≡ []
    by [] o g = let z : ◌≡◌ {A = Option (List Kind)} (Some []) (Some js) = g in cc
    by (kind.Procedure ∷ ks) o g = absurd (let z : true ≡ false = o in cc)
    by (_ ∷ ks) o g = absurd (not_some js g)

-- a step by one bracket is that bracket's
last_one : (o : Option (List Kind)) (js : List Kind) → option_and_then (scan []) o ≡ Some js → o ≡ Some js
last_one None js e = e
last_one (Some ks) js e = e

last_two : (k : Kind) (o : Option (List Kind)) (js : List Kind) → option_and_then (scan (opening k ∷ [])) o ≡ Some js → (is : List Kind) × (o ≡ Some is) × (k ∷ is ≡ js)
last_two k None js e = absurd (not_some js e)
last_two k (Some is) js e = let f : k ∷ is ≡ js = cc in (is, refl, f)

-- past a statement that may stand there the open blocks stay balanced
pub stays_balanced : (s : Statement) (b : Bool) (ks js : List Kind) → may_stand s b ≡ true → Balanced b ks → scan (brackets_of s) ks ≡ Some js → Balanced (turned s b) js
stays_balanced (procedure _) true ks js m p e = absurd (let z : false ≡ true = m in cc)
stays_balanced (procedure _) false ks js m p e =
    let f : kind.Procedure ∷ ks ≡ js = cc in
    record { above = []; is = sym f ∙ ap (λ (xs : List Kind). kind.Procedure ∷ xs) p; others = refl }
stays_balanced end_procedure true ks js m p e = procedure_closes ks js p (last_one (scan_one (closing closer.ByEndProc) ks) js e)
stays_balanced (if_true _) true ks js m p e = let f : kind.Then ∷ ks ≡ js = cc in one_opens kind.Then ks js refl p f
stays_balanced loop true ks js m p e = let f : kind.Round ∷ ks ≡ js = cc in one_opens kind.Round ks js refl p f
stays_balanced end_if true ks js m p e = one_closes closer.ByEndIf ks js refl p (last_one (scan_one (closing closer.ByEndIf) ks) js e)
stays_balanced end_loop true ks js m p e = one_closes closer.ByEndLoop ks js refl p (last_one (scan_one (closing closer.ByEndLoop) ks) js e)
stays_balanced otherwise true ks js m p e =
    let two = last_two kind.Otherwise (scan_one (closing closer.ByElse) ks) js e in
    one_opens kind.Otherwise two.0 js refl (one_closes closer.ByElse ks two.0 refl p two.1) two.2
stays_balanced end_procedure false ks js m p e = absurd (let z : false ≡ true = m in cc)
stays_balanced (if_true _) false ks js m p e = absurd (let z : false ≡ true = m in cc)
stays_balanced loop false ks js m p e = absurd (let z : false ≡ true = m in cc)
stays_balanced end_if false ks js m p e = absurd (let z : false ≡ true = m in cc)
stays_balanced end_loop false ks js m p e = absurd (let z : false ≡ true = m in cc)
stays_balanced otherwise false ks js m p e = absurd (let z : false ≡ true = m in cc)
stays_balanced _ true ks js m p e = let f : ks ≡ js = cc in subst InProcedure f p
stays_balanced _ false ks js m p e = let f : ks ≡ js = cc in sym f ∙ p

-- past statements that take turns
steps : (ss : List Placed) (b : Bool) (ks js : List Kind) → TakeTurns b ss → Balanced b ks → scan (brackets ss) ks ≡ Some js → js ≡ []
steps [] b ks js t p e =
    let f : ks ≡ js = cc in
    sym f ∙ subst (λ (x : Bool). Balanced x ks) t p
steps (s ∷ ss) b ks js t p e =
    by (scan (brackets_of s.says) ks) refl (sym (scan_append (brackets_of s.says) (brackets ss) ks) ∙ e) (λ is q. steps ss (turned s.says b) is js t.1 q)
  where
    by : (u : Option (List Kind)) → scan (brackets_of s.says) ks ≡ u → option_and_then (scan (brackets ss)) u ≡ Some js
        → ((is : List Kind) → Balanced (turned s.says b) is → scan (brackets ss) is ≡ Some js → js ≡ []) → js ≡ []
    by None g e claim = absurd (not_some js e)
    by (Some is) g e claim = claim is (stays_balanced s.says b ks is t.0 p g) e

none_open : (es : List OpenBlock) → kinds es ≡ [] → es ≡ []
none_open [] e = refl
none_open (x ∷ es) e = cc

pub ends_closed : (ss : List Placed) (es : List OpenBlock) → IsInOrder ss → IsStack ss (length ss) es → es ≡ []
ends_closed ss es o f =
    none_open es (steps ss false [] (kinds es) (take_turns ss o) refl
    (ap (λ (xs : List Placed). scan (brackets xs) []) (sym (take-length ss)) ∙ chain_scan ss (length ss) [] es f.chain))
