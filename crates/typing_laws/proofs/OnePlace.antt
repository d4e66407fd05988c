-- Among the places of a procedure one alone has a name, and one alone is its OLD copy.
use Rattle.std.proofs.Common.{◌≡◌, ℕ, zero, suc, ◌+◌, ◌∙◌, sym, ap, subst, refl, inl, inr, ◌⊎◌, Bool, true, false, cond, List, [], ◌∷◌, ◌++◌, length, arith, nat_eq, if◌then◌else◌}
use Rattle.std.specs.Prelude.{Option, Some, None, slice_get, filter, map}
use Rattle.std.specs.Option.{option_map}
use Rattle.std.proofs.lemmas.Bool.{cases_eq}
use Rattle.std.proofs.lemmas.List.Elements.{filter-append}
use Rattle.std.proofs.lemmas.Option.{slice_get-map, slice_get_past}
use Rattle.il_core.specs.Checked.{is_copied, old_copy}
use Rattle.il_core.specs.Statement.{Statement, Placed}
use Rattle.il_core.specs.Statement as st
use Rattle.il_core.specs.declared.line.Place.{Place}
use Rattle.il_core.specs.declared.statement.Mode.{Mode}
use Rattle.il_core.specs.declared.statement.TypeUse.{TypeUse}
use Rattle.il_types.specs.Built.{place_of}
use Rattle.il_types.specs.Names.{Setting}
use Rattle.il_built.specs.CheckedText.{of_procedure, declared_place, variables_of}
use Rattle.il_built.specs.Holding.{setting_at}
use Rattle.il_built.proofs.Given.{given_next, given_here, not_given}
use Rattle.il_built.proofs.VariablesCounted.{variables_to}
use Rattle.typing_laws.specs.Declared.{Says, IsVariable}
use Rattle.typing_laws.specs.Means.{own_places, IsPlaceOf}
use Rattle.typing_laws.proofs.Declaring.{ArePlaced}
use Rattle.typing_laws.proofs.ExpressionKinds.{IsFair}
use Rattle.typing_laws.proofs.Force.{one_variable}
use Rattle.typing_laws.proofs.Standing.{count, placed_at, says_of, said_or_past, stands_in, one_procedure}

-- an element of one list behind another
in_either : {A : Type 0} (xs ys : List A) (p : ℕ) (y : A) → slice_get (xs ++ ys) p ≡ Some y → (slice_get xs p ≡ Some y) ⊎ ((k : ℕ) × (p ≡ length xs + k) × (slice_get ys k ≡ Some y))
in_either [] ys p y h = let e : p ≡ 0 + p = omega arith in inr (p, e, h)
in_either (x ∷ xs) ys zero y h = inl h
in_either (x ∷ xs) ys (suc p) y h = elim (in_either xs ys p y h) [
  | inl l ↦ inl l
  | inr r ↦ let same = r.1 in let e : suc p ≡ suc (length xs) + r.0 = omega arith in inr (r.0, e, r.2)
]

-- the statement that declares the variable of a place, of those that are kept
record IsSource (keep : Place → Bool) (stmts : List Placed) (owner p : ℕ) (place : Place) : Type 0 where
  at : ℕ
  mode : Mode
  name : List ℕ
  type : TypeUse
  says : Says stmts at (st.variable mode name type)
  own : count stmts at ≡ owner
  number : p ≡ length (filter keep (variables_to stmts owner at))
  is : place ≡ place_of (setting_at stmts at) (st.variable mode name type)

-- a place that a statement declares
declares : (s : Setting) (x : Statement) → ((mode : Mode) × (name : List ℕ) × (type : TypeUse) × (x ≡ st.variable mode name type)) ⊎ (declared_place s x ≡ [])
declares s (st.variable mode name type) = inl (mode, name, type, refl)
declares s _ = inr refl

none_kept : {A : Type 0} (keep : Place → Bool) (ps : List Place) (k : ℕ) (place : Place) → ps ≡ [] → slice_get (filter keep ps) k ≡ Some place → A
none_kept keep ps k place e h = let z : None ≡ Some place = sym (ap (λ xs. slice_get (filter keep xs) k) e) ∙ h in absurd (cc)

one_kept : (keep : Place → Bool) (q : Place) (k : ℕ) (place : Place) → slice_get (filter keep (q ∷ [])) k ≡ Some place → (k ≡ 0) × (place ≡ q)
one_kept keep q k place h = by (keep q) k h
  where
    by : (t : Bool) (n : ℕ) → slice_get (cond t (q ∷ []) []) n ≡ Some place → (n ≡ 0) × (place ≡ q)
    by true zero g = let same : q ≡ place = cc in (refl, sym same)
    by true (suc n) g = absurd (cc)
    by false n g = absurd (cc)

source : (keep : Place → Bool) (stmts : List Placed) (owner n p : ℕ) (place : Place) → slice_get (filter keep (variables_to stmts owner n)) p ≡ Some place
    → IsSource keep stmts owner p place
source keep stmts owner zero p place h = absurd (cc)
source keep stmts owner (suc n) p place h =
    let give = λ (k : ℕ) (y : Statement). declared_place (setting_at stmts k) y in
    let parts : filter keep (variables_to stmts owner (suc n)) ≡ filter keep (variables_to stmts owner n) ++ filter keep (of_procedure give stmts owner n) =
    ap (filter keep) (given_next give stmts owner n) ∙ filter-append keep (variables_to stmts owner n) (of_procedure give stmts owner n) in
    elim (in_either (filter keep (variables_to stmts owner n)) (filter keep (of_procedure give stmts owner n)) p place (sym (ap (λ xs. slice_get xs p) parts) ∙ h)) [
      | inl l ↦ source keep stmts owner n p place l
      | inr r ↦ here r.0 r.1 r.2
    ]
  where
    here : (k : ℕ) → p ≡ length (filter keep (variables_to stmts owner n)) + k
        → slice_get (filter keep (of_procedure (λ (k : ℕ) (y : Statement). declared_place (setting_at stmts k) y) stmts owner n)) k ≡ Some place → IsSource keep stmts owner p place
    here k at g =
        let give = λ (k : ℕ) (y : Statement). declared_place (setting_at stmts k) y in
        elim (said_or_past stmts n) [
          | inl x ↦
              let s = placed_at stmts n x.0 x.1 in
              elim (cases_eq (count stmts n) owner) [
                | inl own ↦
                    let given = given_here give stmts owner n s.0 s.1 own in
                    elim (declares (setting_at stmts n) s.0.says) [
                      | inl v ↦
                          let one = given ∙ ap (declared_place (setting_at stmts n)) v.3 in
                          let kept = one_kept keep (place_of (setting_at stmts n) (st.variable v.0 v.1 v.2)) k place (sym (ap (λ ps. slice_get (filter keep ps) k) one) ∙ g) in
                          let zeroth = kept.0 in
                          record {
                            at = n;
                            mode = v.0;
                            name = v.1;
                            type = v.2;
                            says = says_of stmts n s.0 s.1 ∙ ap Some v.3;
                            own = own;
                            number = omega arith;
                            is = kept.1;
                          }
                      | inr none ↦ none_kept keep _ k place (given ∙ none) g
                    ]
                | inr other ↦ none_kept keep _ k place (not_given give stmts owner n s.0 s.1 other) g
              ]
          | inr past ↦
              none_kept keep _ k place
              (ap (λ o. elim o [ None ↦ [] | Some y ↦ (if nat_eq (count stmts n) owner then declared_place (setting_at stmts n) y.says else []) ]) (slice_get_past stmts n past)) g
        ]

-- where all are kept
all_kept : (ps : List Place) → filter (λ p. true) ps ≡ ps
all_kept [] = refl
all_kept (p ∷ ps) = ap (λ xs. p ∷ xs) (all_kept ps)

-- a source as a declaration
declared_by : (keep : Place → Bool) (stmts : List Placed) (owner p : ℕ) (place : Place) → ArePlaced stmts → (s : IsSource keep stmts owner p place)
    → (q : ℕ) × IsVariable stmts q s.at s.name
declared_by keep stmts owner p place placed s =
    let here = stands_in stmts s.at (placed.owned s.at s.mode s.name s.type s.says) in
    (here.0, record { mode = s.mode; type = s.type; says = s.says; stands = here.1 })

-- two sources of one name are one
one_source : (keep : Place → Bool) (stmts : List Placed) (owner p q : ℕ) (place other : Place) → IsFair stmts → (s : IsSource keep stmts owner p place)
    → (t : IsSource keep stmts owner q other) → s.name ≡ t.name → p ≡ q
one_source keep stmts owner p q place other fair s t same =
    let v = declared_by keep stmts owner p place fair.placed s in
    let w = declared_by keep stmts owner q other fair.placed t in
    let one : w.0 ≡ v.0 = one_procedure stmts w.0 v.0 t.at s.at w.1.stands v.1.stands (t.own ∙ sym s.own) in
    let v_named : IsVariable stmts v.0 s.at t.name = subst (IsVariable stmts v.0 s.at) same v.1 in
    let w_here : IsVariable stmts v.0 t.at t.name = subst (λ r. IsVariable stmts r t.at t.name) one w.1 in
    let at : s.at ≡ t.at = one_variable stmts v.0 s.at t.at t.name fair.once v_named w_here in
    s.number ∙ ap (λ n. length (filter keep (variables_to stmts owner n))) at ∙ sym t.number

-- the place of a variable, or its OLD copy, has a source
record HasSource (keep : Place → Bool) (stmts : List Placed) (owner p start : ℕ) (name : List ℕ) : Type 0 where
  k : ℕ
  number : p ≡ start + k
  place : Place
  source : IsSource keep stmts owner k place
  named : source.name ≡ name

false_true : {A : Type 0} → false ≡ true → A
false_true e = absurd (cc)

in_copies : (vs : List Place) (k : ℕ) (place : Place) → slice_get (map old_copy (filter is_copied vs)) k ≡ Some place
    → (c : Place) × (slice_get (filter is_copied vs) k ≡ Some c) × (old_copy c ≡ place)
in_copies vs k place h = by (slice_get (filter is_copied vs) k) refl (sym (slice_get-map old_copy (filter is_copied vs) k) ∙ h)
  where
    by : (o : Option Place) → slice_get (filter is_copied vs) k ≡ o → option_map old_copy o ≡ Some place → (c : Place) × (slice_get (filter is_copied vs) k ≡ Some c) × (old_copy c ≡ place)
    by None e g = absurd (cc)
    by (Some c) e g = (c, e, cc)

variable_source : (stmts : List Placed) (owner p : ℕ) (place : Place) → slice_get (variables_of stmts owner) p ≡ Some place → IsSource (λ q. true) stmts owner p place
variable_source stmts owner p place h = source (λ q. true) stmts owner (length stmts) p place (ap (λ xs. slice_get xs p) (all_kept (variables_of stmts owner)) ∙ h)

now_source : (stmts : List Placed) (i p : ℕ) (name : List ℕ) (place : Place) → IsPlaceOf stmts i name false p place → HasSource (λ q. true) stmts (count stmts i) p 0 name
now_source stmts i p name place is =
    let vs = variables_of stmts (count stmts i) in
    elim (in_either vs (map old_copy (filter is_copied vs)) p place is.there) [
      | inl l ↦
          let s = variable_source stmts (count stmts i) p place l in
          let at : p ≡ 0 + p = omega arith in
          record { k = p; number = at; place = place; source = s; named = sym (ap (λ (x : Place). x.name) s.is) ∙ is.named }
      | inr r ↦ let c = in_copies vs r.0 place r.2 in false_true (sym is.copied ∙ sym (ap (λ (x : Place). x.old) c.2))
    ]

old_source : (stmts : List Placed) (i p : ℕ) (name : List ℕ) (place : Place) → IsPlaceOf stmts i name true p place
    → HasSource is_copied stmts (count stmts i) p (length (variables_of stmts (count stmts i))) name
old_source stmts i p name place is =
    let vs = variables_of stmts (count stmts i) in
    elim (in_either vs (map old_copy (filter is_copied vs)) p place is.there) [
      | inl l ↦ let s = variable_source stmts (count stmts i) p place l in false_true (sym (ap (λ (x : Place). x.old) s.is) ∙ is.copied)
      | inr r ↦
          let c = in_copies vs r.0 place r.2 in
          let s = source is_copied stmts (count stmts i) (length stmts) r.0 c.0 c.1 in
          record { k = r.0; number = r.1; place = c.0; source = s; named = sym (ap (λ (x : Place). x.name) s.is) ∙ ap (λ (x : Place). x.name) c.2 ∙ is.named }
    ]

one_of : (keep : Place → Bool) (stmts : List Placed) (owner p q start : ℕ) (name : List ℕ) → IsFair stmts → HasSource keep stmts owner p start name
    → HasSource keep stmts owner q start name → p ≡ q
one_of keep stmts owner p q start name fair s t =
    let k = one_source keep stmts owner s.k t.k s.place t.place fair s.source t.source (s.named ∙ sym t.named) in
    s.number ∙ ap (λ n. start + n) k ∙ sym t.number

-- one place alone
pub record IsOnePlace (p q : ℕ) (place other : Place) : Type 0 where
  pub number : p ≡ q
  pub same : place ≡ other

same_place : (stmts : List Placed) (i p q : ℕ) (name : List ℕ) (old : Bool) (place other : Place) → IsPlaceOf stmts i name old p place → IsPlaceOf stmts i name old q other → p ≡ q
    → IsOnePlace p q place other
same_place stmts i p q name old place other a b e =
    let z : Some place ≡ Some other = sym a.there ∙ ap (slice_get (own_places stmts i)) e ∙ b.there in
    record { number = e; same = cc }

pub one_place : (stmts : List Placed) (i p q : ℕ) (name : List ℕ) (old : Bool) (place other : Place) → IsFair stmts → IsPlaceOf stmts i name old p place
    → IsPlaceOf stmts i name old q other → IsOnePlace p q place other
one_place stmts i p q name false place other fair a b =
    same_place stmts i p q name false place other a b
    (one_of (λ r. true) stmts (count stmts i) p q 0 name fair (now_source stmts i p name place a) (now_source stmts i q name other b))
one_place stmts i p q name true place other fair a b =
    same_place stmts i p q name true place other a b
    (one_of is_copied stmts (count stmts i) p q (length (variables_of stmts (count stmts i))) name fair (old_source stmts i p name place a) (old_source stmts i q name other b))
