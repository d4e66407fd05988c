-- Each call of a text with calls that keeps all rules names an earlier procedure and has what suits its parameters, none of it handed back twice.
use Rattle.std.proofs.Common.{◌≡◌, ℕ, ◌+◌, ◌-◌, ◌<◌, ◌≤◌, ◌∙◌, sym, ap, subst, refl, inl, inr, not, Bool, true, false, ◌||◌, List, [], ◌∷◌, arith, nat_eq}
use Rattle.std.specs.Prelude.{Option, Some, None, is_some, map, filter_map, slice_get, unwrap_or}
use Rattle.std.specs.Cmp.Lexicographic.{pointwise}
use Rattle.std.specs.List.{list_all, list_any, cons_option}
use Rattle.std.specs.Option.{option_map}
use Rattle.std.proofs.lemmas.Cmp.{nat_list_eq_equiv}
use Rattle.std.proofs.lemmas.Option.{same_Some, slice_get_within}
use Rattle.il_core.specs.LineGraph.{IsIn}
use Rattle.il_core.specs.Statement.{Statement, Placed, procedure}
use Rattle.il_core.specs.Statement as st
use Rattle.il_core.specs.Tree.{Tree}
use Rattle.il_core.specs.declared.refusal.Code.TheVariants as code
use Rattle.il_core.specs.declared.statement.Link.{Link}
use Rattle.il_syntax.specs.Order.{IsInOrder}
use Rattle.il_types.specs.declared.kind.Kind.{Kind}
use Rattle.il_types.specs.declared.rules.Rule.TheVariants as rule
use Rattle.il_types.specs.Built.{assigned_place}
use Rattle.il_types.specs.Names.{Setting, Spot, counts_at, declaration}
use Rattle.il_types.specs.Narrow.{static_bounds}
use Rattle.il_types.specs.Typing.{kind_of_variable, may_hold}
use Rattle.il_built.specs.Holding.{setting_at}
use Rattle.il_built.proofs.BuiltRanges.{nowhere_at}
use Rattle.il_built.proofs.BuiltSorts.{both_true}
use Rattle.il_built.proofs.Entered.{bound}
use Rattle.il_called.specs.Called.{Passed, call, WrittenProcedure}
use Rattle.il_called.specs.CalledText.{Suit, AreApart, returned_to, parameters_of}
use Rattle.il_called.specs.Expansion.{Callee}
use Rattle.call_rules.specs.Callee.{Pairing, procedure_in, procedure_named, parameters_named, pairings}
use Rattle.call_rules.specs.CalledText.{written_procedure, written_procedures, callees_before, callee_at, owner_at}
use Rattle.call_rules.specs.Calls.{back_to, kind_given, takes_back, is_allowed_pairing, is_typed_pairing, fault_at}
use Rattle.call_rules.specs.Clash.{new_names}
use Rattle.call_rules.specs.Fits.{is_one_each, is_suited, are_apart, is_short, fit_parameters, misfit_at}
use Rattle.call_rules.specs.Parameters.{parameters}
use Rattle.call_limits.proofs.Callees.{few_before}
use Rattle.call_limits.proofs.Variables.{variables_are}
use Rattle.call_sound.specs.Laws.{CallsOfTextsFit}
use Rattle.call_sound.proofs.Apart.{HasPlace, has_place, one_name}
use Rattle.call_sound.proofs.Frame.{procedure_at, procedure_below}
use Rattle.call_sound.proofs.Kept.{KeepsCalls, keeps_calls, holds}
use Rattle.call_sound.proofs.Lines.{IsCallAt, call_written}
use Rattle.call_sound.proofs.Suited.{sort_of, parameter_sorts, sorts_of, same_sorts, all_suit, returned_are}

-- each of these names stands for a variable of the procedure
abbrev AllPlaced : List Placed → ℕ → ℕ → List (List ℕ) → Type 0
AllPlaced stmts owner i [] = Unit {0}
AllPlaced stmts owner i (n ∷ ns) = HasPlace stmts owner i n × AllPlaced stmts owner i ns

held : (a b : Option Kind) → may_hold a b ≡ true → (k : Kind) × (a ≡ Some k)
held None b h = absurd (cc)
held (Some k) b h = (k, refl)

-- the names that are handed back to do, where the CALL keeps the types
all_placed : (stmts : List Placed) (owner i : ℕ) (gs : List Pairing) → IsInOrder stmts → (counts_at stmts i).procedures ≡ owner
    → list_all (is_typed_pairing (setting_at stmts i)) gs ≡ true → AllPlaced stmts owner i (filter_map back_to gs)
all_placed stmts owner i [] o own h = tt
all_placed stmts owner i (g ∷ gs) o own h =
    let s = setting_at stmts i in
    let both = both_true (is_typed_pairing s g) (list_all (is_typed_pairing s) gs) h in
    by (back_to g) (both_true _ (takes_back s g (back_to g)) both.0).1 (all_placed stmts owner i gs o own both.1)
  where
    by : (b : Option (List ℕ)) → takes_back (setting_at stmts i) g b ≡ true → AllPlaced stmts owner i (filter_map back_to gs)
        → AllPlaced stmts owner i (cons_option b (filter_map back_to gs))
    by None t rest = rest
    by (Some name) t rest =
        let k = held (kind_of_variable (setting_at stmts i) name) (kind_given g.parameter) t in
        (has_place stmts owner i name k.0 o own k.1, rest)

either_true : (a b : Bool) → b ≡ true → (a || b) ≡ true
either_true true b h = refl
either_true false b h = h

not_both : (b : Bool) → not b ≡ true → b ≡ true → ⊥
not_both true h g = cc
not_both false h g = cc

-- a place among those of names is that of one of them
place_named : (stmts : List Placed) (owner i : ℕ) (n : List ℕ) (ns : List (List ℕ)) → HasPlace stmts owner i n → AllPlaced stmts owner i ns
    → IsIn (map (assigned_place (setting_at stmts i)) ns) (assigned_place (setting_at stmts i) n) → list_any (pointwise nat_eq n) ns ≡ true
place_named stmts owner i n [] h all is = absurd is
place_named stmts owner i n (m ∷ ns) h all (inl e) =
    let same : n ≡ m = sym (one_name stmts owner i m n all.0 h e) in
    let test : pointwise nat_eq n m ≡ true = subst (λ x. pointwise nat_eq n x ≡ true) same (nat_list_eq_equiv.refl n) in
    ap (λ b. b || list_any (pointwise nat_eq n) ns) test
place_named stmts owner i n (m ∷ ns) h all (inr is) = either_true (pointwise nat_eq n m) _ (place_named stmts owner i n ns h all.1 is)

-- names that differ have places that differ
all_apart : (stmts : List Placed) (owner i : ℕ) (ns : List (List ℕ)) → AllPlaced stmts owner i ns → are_apart ns ≡ true
    → AreApart (map (assigned_place (setting_at stmts i)) ns)
all_apart stmts owner i [] all h = tt
all_apart stmts owner i (n ∷ ns) all h =
    let both = both_true (not (list_any (pointwise nat_eq n) ns)) (are_apart ns) h in
    (λ is. not_both (list_any (pointwise nat_eq n) ns) both.0 (place_named stmts owner i n ns all.0 all.1 is), all_apart stmts owner i ns all.1 both.1)

some : {A : Type 0} (o : Option A) → is_some o ≡ true → (x : A) × (o ≡ Some x)
some None h = absurd (cc)
some (Some x) h = (x, refl)

procedure_positive : (s : Setting) (spot : Spot) (x : Statement) (c : ℕ) → procedure_in s spot x ≡ Some c → 1 ≤ c
procedure_positive s spot (procedure name) c e = let n = same_Some _ _ e in omega (arith, n)
procedure_positive s spot _ c e = absurd (cc)

-- what is known of a CALL
pub record IsFitted (stmts : List Placed) (links : List Link) (i : ℕ) (name : List ℕ) (given : List Tree) : Type 0 where
  pub number : ℕ
  pub named : procedure_named (setting_at stmts i) name ≡ Some number
  pub positive : 1 ≤ number
  pub callee : Callee
  pub there : slice_get (callees_before stmts links (owner_at stmts i)) (number - 1) ≡ Some callee
  pub callee_is : callee_at stmts links i name ≡ Some callee
  pub one_each : is_one_each (parameters_named (setting_at stmts i) name) given ≡ true
  pub suited : list_all is_suited (pairings (parameters_named (setting_at stmts i) name) given) ≡ true
  pub apart : are_apart (filter_map back_to (pairings (parameters_named (setting_at stmts i) name) given)) ≡ true
  pub short : list_all is_short (new_names stmts links i name) ≡ true
  pub typed : list_all (is_typed_pairing (setting_at stmts i)) (pairings (parameters_named (setting_at stmts i) name) given) ≡ true
  pub allowed : list_all (is_allowed_pairing (setting_at stmts i)) (pairings (parameters_named (setting_at stmts i) name) given) ≡ true
  pub narrow : list_all (λ e. is_some (static_bounds (setting_at stmts i) e)) given ≡ true

pub fitted : (stmts : List Placed) (links : List Link) (i : ℕ) (x : Placed) (name : List ℕ) (given : List Tree) → KeepsCalls stmts links → slice_get stmts i ≡ Some x
    → x.says ≡ st.call name given → IsFitted stmts links i name given
fitted stmts links i x name given keeps there says =
    let s = setting_at stmts i in
    let ps = parameters_named s name in
    let gs = pairings ps given in
    let fit = holds _ code.BadCall (sym (ap (misfit_at stmts links i) says) ∙ nowhere_at (misfit_at stmts links) stmts i x keeps.fitting there) in
    let type = holds _ code.Typing (sym (ap (fault_at rule.Typed stmts i) says) ∙ nowhere_at (fault_at rule.Typed stmts) stmts i x keeps.typed there) in
    let callee = both_true (is_some (callee_at stmts links i name)) _ fit in
    let rest = both_true (fit_parameters ps given) (list_all is_short (new_names stmts links i name)) callee.1 in
    let each = both_true (is_one_each ps given) _ rest.0 in
    let both = both_true (list_all is_suited gs) (are_apart (filter_map back_to gs)) each.1 in
    let c = some (callee_at stmts links i name) callee.0 in
    let n = bound (λ d. slice_get (callees_before stmts links (owner_at stmts i)) (d - 1)) (procedure_named s name) c.0 c.1 in
    let d = bound (λ (d : Spot × Statement). procedure_in s d.0 d.1) (declaration s name) n.0 n.1 in
    record {
      number = n.0;
      named = n.1;
      positive = procedure_positive s d.0.0 d.0.1 n.0 d.2;
      callee = c.0;
      there = n.2;
      callee_is = c.1;
      one_each = each.0;
      suited = both.0;
      apart = both.1;
      short = rest.1;
      typed = (both_true (is_some (procedure_named s name)) (list_all (is_typed_pairing s) gs) type).1;
      allowed = holds _ code.Access (sym (ap (fault_at rule.Allowed stmts i) says) ∙ nowhere_at (fault_at rule.Allowed stmts) stmts i x keeps.allowed there);
      narrow = holds _ code.Wide (sym (ap (fault_at rule.Narrow stmts i) says) ∙ nowhere_at (fault_at rule.Narrow stmts) stmts i x keeps.narrow there);
    }

-- a call with what is known of its CALL
pub record IsKnown (stmts : List Placed) (links : List Link) (k n c : ℕ) (arguments : List Passed) : Type 0 where
  pub line : IsCallAt stmts links (1 + k) n c arguments
  pub fit : IsFitted stmts links line.at line.name line.given
  pub number : fit.number ≡ 1 + c
  pub below : c < k

pub known : (stmts : List Placed) (links : List Link) (k n c : ℕ) (arguments : List Passed) (p : WrittenProcedure) → KeepsCalls stmts links
    → slice_get (written_procedures stmts links) k ≡ Some p → slice_get p.lines n ≡ Some (call c arguments) → IsKnown stmts links k n c arguments
known stmts links k n c arguments p keeps there line =
    let q = procedure_at stmts links k p there in
    let w = call_written stmts links (1 + k) n c arguments (sym (ap (λ (r : WrittenProcedure). slice_get r.lines n) q.is) ∙ line) in
    let f = fitted stmts links w.at w.stmt w.name w.given keeps w.there w.says in
    let positive = f.positive in
    let own = w.own in
    let number : f.number - 1 ≡ c = sym (ap (λ o. unwrap_or o (counts_at stmts w.at).procedures - 1) f.named) ∙ w.number in
    let within = slice_get_within (callees_before stmts links (owner_at stmts w.at)) (f.number - 1) f.callee f.there in
    let few = few_before stmts links (owner_at stmts w.at) in
    record { line = w; fit = f; number = omega (arith, positive, number); below = omega (arith, within, few, own, number) }

-- the parameters of the procedure that a CALL names have the modes and kinds that are asked there
pub named_sorts : (stmts : List Placed) (links : List Link) (k n c : ℕ) (arguments : List Passed) (x : IsKnown stmts links k n c arguments) (name : List ℕ)
    → map sort_of (parameters_of (written_procedure stmts links (1 + c) name)) ≡ parameter_sorts (parameters_named (setting_at stmts x.line.at) x.line.name)
named_sorts stmts links k n c arguments x name =
    let named : parameters_named (setting_at stmts x.line.at) x.line.name ≡ parameters stmts (1 + c) =
    ap (λ o. unwrap_or (option_map (λ m. parameters stmts m) o) []) x.fit.named ∙ ap (parameters stmts) x.number in
    ap sorts_of (variables_are stmts (1 + c)) ∙ same_sorts stmts (1 + c) ∙ sym (ap parameter_sorts named)

pub calls_fit : CallsOfTextsFit
calls_fit stmts links o a k p there n c arguments line =
    let x = known stmts links k n c arguments p (keeps_calls stmts links a) there line in
    let w = x.line in
    let f = x.fit in
    let s = setting_at stmts w.at in
    let ps = parameters_named s w.name in
    let gs = pairings ps w.given in
    let q = procedure_at stmts links k p there in
    let below = x.below in
    let inside = q.below in
    let r = procedure_below stmts links c (omega (arith, below, inside)) in
    let callee = written_procedure stmts links (1 + c) r.0 in
    let suit = subst (Suit (parameters_of callee)) w.passed (all_suit s (parameters_of callee) ps w.given (named_sorts stmts links k n c arguments x r.0) f.one_each f.suited) in
    let placed = all_placed stmts (1 + k) w.at gs o w.own f.typed in
    let apart = subst (λ xs. AreApart (returned_to xs)) w.passed (subst AreApart (sym (returned_are s gs)) (all_apart stmts (1 + k) w.at (filter_map back_to gs) placed f.apart)) in
    (below, (callee, r.1, suit, apart))
