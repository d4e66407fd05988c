-- In a text that breaks no rule a CALL finds its procedure, and what it gives to each parameter.
use Rattle.std.proofs.Common.{◌≡◌, ℕ, suc, ◌-◌, ◌<◌, ◌∙◌, sym, ap, refl, Bool, true, false, ◌||◌, not, List, [], ◌∷◌, length, arith, nat_eq, if◌then◌else◌}
use Rattle.std.specs.Prelude.{Option, Some, None, is_some, nat_lt, map, slice_get, unwrap_or}
use Rattle.std.specs.List.{list_all}
use Rattle.std.specs.Option.{option_and_then, option_map}
use Rattle.std.proofs.lemmas.Option.{slice_get_within}
use Rattle.il_core.specs.Statement.{Placed}
use Rattle.il_core.specs.Statement as st
use Rattle.il_core.specs.Tree.{Tree}
use Rattle.il_core.specs.declared.statement.Link.{Link}
use Rattle.il_types.specs.declared.modes.Part.TheVariants as part
use Rattle.il_types.specs.Built.{assigned_place, built}
use Rattle.il_types.specs.Modes.{keeps_modes}
use Rattle.il_types.specs.Names.{Setting, declaration}
use Rattle.il_types.specs.Typing.{kind_of, kind_of_variable, may_hold}
use Rattle.il_built.specs.Holding.{setting_at}
use Rattle.il_built.proofs.BuiltSorts.{both_true}
use Rattle.il_called.specs.Called.{Passed, value, variable_of}
use Rattle.il_called.specs.Called as called
use Rattle.il_called.specs.Expansion.{is_returned}
use Rattle.call_rules.specs.declared.parameters.Parameter.{Parameter}
use Rattle.call_rules.specs.Callee.{paired, pairings, procedure_named, parameters_named}
use Rattle.call_rules.specs.CalledText.{passed, call_line, callees_before, owner_at}
use Rattle.call_rules.specs.Calls.{single_name, back_to, takes_back, may_take_back, is_typed_pairing, is_allowed_pairing}
use Rattle.call_rules.specs.Fits.{is_one_each, is_suited}
use Rattle.call_rules.specs.Parameters.{parameters}
use Rattle.call_limits.proofs.Callees.{few_before}
use Rattle.call_sound.proofs.Fits.{fitted}
use Rattle.call_sound.proofs.Kept.{KeepsCalls}
use Rattle.accept_laws.specs.LookUps.{number_found, expression_found, earlier_found, passed_found, with_first, all_passed, call_found}
use Rattle.accept_laws.specs.NoDefault.{IsFound}
use Rattle.accept_laws.proofs.Found.{number_there, held_sides, expression_there}

-- what an argument that suits its parameter gives it
passed_there : (s : Setting) (p : Parameter) (e : Tree) → is_suited (paired (Some p) e) ≡ true → is_typed_pairing s (paired (Some p) e) ≡ true
    → is_allowed_pairing s (paired (Some p) e) ≡ true → passed_found s p e ≡ Some (passed s (paired (Some p) e))
passed_there s p e suited typed allowed =
    let g = paired (Some p) e in
    let t = both_true (may_hold p.kind (kind_of s e)) (takes_back s g (back_to g)) typed in
    let m = both_true (may_take_back s (back_to g)) (keeps_modes s part.Action e) allowed in
    let kind = (held_sides p.kind (kind_of s e) t.0).1 in
    by (is_returned p.mode) (single_name e) suited t.1 (expression_there s part.Action e m.1 kind.0 kind.1)
  where
    by : (b : Bool) (o : Option (List ℕ)) → (not b || is_some o) ≡ true → takes_back s (paired (Some p) e) (if b then o else None) ≡ true → IsFound s e
        → (if b then option_map variable_of (option_and_then (number_found s) o) else option_map value (expression_found s e))
        ≡ Some (elim (if b then o else None) [ None ↦ value (built s e) | Some name ↦ variable_of (assigned_place s name) ])
    by true None h t found = absurd (cc)
    by true (Some name) h t found =
        let kind = (held_sides (kind_of_variable s name) p.kind t).0 in
        ap (option_map variable_of) (number_there s (declaration s name) kind.0 kind.1)
    by false o h t found = ap (option_map value) found

both_passed : (a : Option Passed) (b : Option (List Passed)) (first : Passed) (others : List Passed) → a ≡ Some first → b ≡ Some others → with_first a b ≡ Some (first ∷ others)
both_passed a b first others f g = ap (λ o. with_first o b) f ∙ ap (with_first (Some first)) g

-- one argument for each
all_there : (s : Setting) (ps : List Parameter) (es : List Tree) → is_one_each ps es ≡ true → list_all is_suited (pairings ps es) ≡ true
    → list_all (is_typed_pairing s) (pairings ps es) ≡ true → list_all (is_allowed_pairing s) (pairings ps es) ≡ true
    → all_passed s ps es ≡ Some (map (passed s) (pairings ps es))
all_there s [] [] one suited typed allowed = refl
all_there s [] (e ∷ es) one suited typed allowed = absurd (none (length es) one)
  where
    none : (n : ℕ) → nat_eq 0 (suc n) ≡ true → ⊥
    none n h = grind arith
all_there s (p ∷ ps) [] one suited typed allowed = absurd (some (length ps) one)
  where
    some : (n : ℕ) → nat_eq (suc n) 0 ≡ true → ⊥
    some n h = grind arith
all_there s (p ∷ ps) (e ∷ es) one suited typed allowed =
    let g = paired (Some p) e in
    let gs = pairings ps es in
    let u = both_true (is_suited g) (list_all is_suited gs) suited in
    let t = both_true (is_typed_pairing s g) (list_all (is_typed_pairing s) gs) typed in
    let m = both_true (is_allowed_pairing s g) (list_all (is_allowed_pairing s) gs) allowed in
    both_passed (passed_found s p e) (all_passed s ps es) (passed s g) (map (passed s) gs) (passed_there s p e u.0 t.0 m.0)
    (all_there s ps es (fewer (length ps) (length es) one) u.1 t.1 m.1)
  where
    fewer : (a b : ℕ) → nat_eq (suc a) (suc b) ≡ true → nat_eq a b ≡ true
    fewer a b h = grind arith

-- a number that is less is found earlier
is_earlier : (owner c : ℕ) → c < owner → (if nat_lt c owner then Some c else None) ≡ Some c
is_earlier owner c h = ap (λ b. if b then Some c else None) (less c owner h)
  where
    less : (a b : ℕ) → a < b → nat_lt a b ≡ true
    less a b h = grind arith

-- a CALL
pub call_there : (stmts : List Placed) (links : List Link) (i : ℕ) (x : Placed) (name : List ℕ) (arguments : List Tree) → KeepsCalls stmts links
    → slice_get stmts i ≡ Some x → x.says ≡ st.call name arguments → call_found (setting_at stmts i) name arguments ≡ Some (call_line (setting_at stmts i) name arguments)
call_there stmts links i x name arguments keeps at says =
    let s = setting_at stmts i in
    let f = fitted stmts links i x name arguments keeps at says in
    let c = f.number in
    let gs = map (passed s) (pairings (parameters_named s name) arguments) in
    let within = slice_get_within (callees_before stmts links (owner_at stmts i)) (c - 1) f.callee f.there in
    let few = few_before stmts links (owner_at stmts i) in
    let before : c < owner_at stmts i = omega (arith, within, few) in
    let earlier : earlier_found s name ≡ Some c =
    ap (option_and_then (λ d. if nat_lt d s.owner then Some d else None)) f.named ∙ is_earlier (owner_at stmts i) c before in
    let same : parameters stmts c ≡ parameters_named s name = sym (ap (λ o. unwrap_or (option_map (λ d. parameters stmts d) o) []) f.named) in
    let all : all_passed s (parameters stmts c) arguments ≡ Some gs =
    ap (λ ps. all_passed s ps arguments) same ∙ all_there s (parameters_named s name) arguments f.one_each f.suited f.typed f.allowed in
    let number : c ≡ unwrap_or (procedure_named s name) s.owner = sym (ap (λ o. unwrap_or o s.owner) f.named) in
    ap (option_and_then (λ d. option_map (called.call (d - 1)) (all_passed s (parameters stmts d) arguments))) earlier
    ∙ ap (option_map (called.call (c - 1))) all ∙ ap (λ d. Some (called.call (d - 1) gs)) number
