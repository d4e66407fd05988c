-- In an accepted text each statement finds all that it looks up.
use Rattle.std.proofs.Common.{◌≡◌, ℕ, zero, suc, ◌∙◌, sym, ap, subst, refl, Bool, true, false, List, [], ◌∷◌, length, arith, slice_get, slice_index_or}
use Rattle.std.specs.Prelude.{Some, None}
use Rattle.std.specs.Option.{option_and_then}
use Rattle.std.proofs.lemmas.Option.{slice_get_within, slice_get-get_or}
use Rattle.il_core.specs.Statement.{Statement, Placed}
use Rattle.il_core.specs.Statement as st
use Rattle.il_core.specs.declared.refusal.Code.TheVariants as code
use Rattle.il_core.specs.declared.statement.Link.{Link}
use Rattle.il_core.specs.declared.statement.Link.TheVariants as link
use Rattle.il_core.specs.declared.token.Token.{Token}
use Rattle.il_syntax.specs.Form.{Spells}
use Rattle.il_syntax.specs.Order.{IsInOrder, part_of}
use Rattle.il_syntax.specs.Parse.{AreStatements, pieces}
use Rattle.il_blocks.specs.BlockLink.{has_line, names_line, IsLink, AreLinks}
use Rattle.il_types.specs.declared.modes.Part.TheVariants as part
use Rattle.il_types.specs.declared.rules.Rule.TheVariants as rule
use Rattle.il_types.specs.Modes.{is_allowed}
use Rattle.il_types.specs.Names.{counts_at, front_of, declaration}
use Rattle.il_types.specs.Rules.{broken, Answers}
use Rattle.il_types.specs.Typing.{kind_of_variable, kind_of, is_typed}
use Rattle.il_built.specs.CheckedText.{places_of, target_of}
use Rattle.il_built.specs.Holding.{setting_at, Holds}
use Rattle.il_built.proofs.BuiltFits.{kept_unless, reads_of}
use Rattle.il_built.proofs.BuiltRanges.{nowhere_at}
use Rattle.il_built.proofs.BuiltSorts.{none_some, both_true}
use Rattle.il_built.proofs.PlacesHold.{places_hold}
use Rattle.il_built.proofs.VariablesFirst.{is_behind, owned, all_before}
use Rattle.il_built.proofs.WithoutFault.{keeps_rules}
use Rattle.call_sound.proofs.Kept.{KeepsCalls, keeps_calls}
use Rattle.call_sound.proofs.Own.{own_answers}
use Rattle.call_sound.proofs.Limited.{own_limited}
use Rattle.accept_laws.specs.LookUps.{target_in}
use Rattle.accept_laws.specs.NoDefault.{FindsAll, HasFound, AreNumbered, reads, NoDefaultIsTaken}
use Rattle.accept_laws.proofs.Posted.{title_there, post_there}
use Rattle.accept_laws.proofs.Found.{HasValues, AreKept, range_there, place_there, number_there, held_sides, expression_there, condition_there}
use Rattle.accept_laws.proofs.CallFound.{call_there}

-- a statement that names a line is one
names_is_line : (s : Statement) → names_line s ≡ true → has_line s ≡ true
names_is_line (st.if_true _) h = refl
names_is_line st.otherwise h = refl
names_is_line st.end_loop h = refl
names_is_line st.exit h = refl
names_is_line (st.exit_when _) h = refl
names_is_line (st.goto _) h = refl
names_is_line st.return h = refl
names_is_line _ h = absurd (cc)

-- its link has a target
target_there : (stmts : List Placed) (links : List Link) (i : ℕ) (x : Placed) → AreLinks stmts links → slice_get stmts i ≡ Some x → names_line x.says ≡ true → HasFound links i
target_there stmts links i x a at named =
    let within = slice_get_within stmts i x at in
    let long : length links ≡ length stmts = a.long in
    let l = slice_index_or links i link.NoLine in
    let there = slice_get-get_or links i link.NoLine (omega arith) in
    ap (option_and_then target_in) there ∙ by l (a.each i x l at there)
  where
    differ : (b : Bool) → b ≡ true → b ≡ false → ⊥
    differ b f g = let z : true ≡ false = sym f ∙ g in cc

    by : (l : Link) → IsLink stmts i x.says l → target_in l ≡ Some (target_of l)
    by link.NoLine h = absurd (differ (has_line x.says) (names_is_line x.says named) h)
    by (link.Plain own) h = absurd (differ (names_line x.says) named h.1)
    by (link.Jump own target) h = refl

-- each statement finds all
finds_all : (stmts : List Placed) (links : List Link) (i : ℕ) (x : Placed) → IsInOrder stmts → AreKept stmts → KeepsCalls stmts links → AreLinks stmts links → slice_get stmts i ≡ Some x
    → FindsAll (setting_at stmts i) links i x.says
finds_all stmts links i x o k keeps a at = by x.says refl (k.typed i x at) (k.allowed i x at)
  where
    jump : (s : Statement) → x.says ≡ s → names_line s ≡ true → HasFound links i
    jump s says h = target_there stmts links i x a at (ap names_line says ∙ h)

    by : (s : Statement) → x.says ≡ s → is_typed (setting_at stmts i) s ≡ true → is_allowed (setting_at stmts i) s ≡ true → FindsAll (setting_at stmts i) links i s
    by (st.range_type name least greatest) says t m = range_there (setting_at stmts i) false least greatest t
    by (st.wrap_type name least greatest) says t m = range_there (setting_at stmts i) true least greatest t
    by (st.variable mode name used) says t m = place_there stmts (setting_at stmts i).owner i mode name used k t
    by (st.pre tree) says t m = condition_there (setting_at stmts i) part.Precondition tree m t
    by (st.post tree) says t m = condition_there (setting_at stmts i) part.Postcondition tree m t
    by (st.assign name tree) says t m =
        let kinds = held_sides (kind_of_variable (setting_at stmts i) name) (kind_of (setting_at stmts i) tree) t in (
          number_there (setting_at stmts i) (declaration (setting_at stmts i) name) kinds.0.0 kinds.0.1,
          expression_there (setting_at stmts i) part.Action tree (both_true _ _ m).1 kinds.1.0 kinds.1.1,
        )
    by (st.if_true tree) says t m = (condition_there (setting_at stmts i) part.Action tree m t, jump (st.if_true tree) says refl)
    by st.otherwise says t m = jump st.otherwise says refl
    by st.end_loop says t m = jump st.end_loop says refl
    by st.exit says t m = jump st.exit says refl
    by (st.exit_when tree) says t m = (condition_there (setting_at stmts i) part.Action tree m t, jump (st.exit_when tree) says refl)
    by (st.goto name) says t m = jump (st.goto name) says refl
    by (st.call name arguments) says t m = call_there stmts links i x name arguments keeps at says
    by (st.assert tree) says t m = condition_there (setting_at stmts i) part.Assertion tree m t
    by st.return says t m = jump st.return says refl
    by st.end_procedure says t m = post_there stmts o i x at says
    by _ says t m = tt

-- a statement that is spelt has its values
spelt_valued : (s : Statement) (ts : List _) → Spells s ts → HasValues s
spelt_valued (st.enum_type name []) ts h = (let z : ◌≡◌ {A = List (List ℕ)} [] (h.0 ∷ h.1) = h.2 in absurd (cc))
spelt_valued (st.enum_type name (first ∷ others)) ts h = tt
spelt_valued _ ts h = tt

valued_at : (ps : List (List Token)) (stmts : List Placed) → AreStatements ps stmts → (i : ℕ) (x : Placed) → slice_get stmts i ≡ Some x → HasValues x.says
valued_at [] [] h i x at = none_some x at
valued_at [] (y ∷ ys) h i x at = absurd h
valued_at (p ∷ ps) [] h i x at = absurd h
valued_at (p ∷ ps) (y ∷ ys) h zero x at =
    let same : y ≡ x = cc in
    subst (λ (z : Placed). HasValues z.says) same (spelt_valued y.says h.0.derived.body h.0.derived.spelt)
valued_at (p ∷ ps) (y ∷ ys) h (suc i) x at = valued_at ps ys h.1 i x at

-- the statements of an accepted text keep the rules
are_kept : (tokens : List Token) (stmts : List Placed) → AreStatements (pieces tokens) stmts → Answers stmts None → AreKept stmts
are_kept tokens stmts h a =
    let k = keeps_rules stmts a in
    let table = (front_of stmts).table in
    record {
      typed = λ i x at. kept_unless (is_typed (setting_at stmts i) x.says) code.Typing (nowhere_at (broken rule.Typed table stmts) stmts i x k.typed at);
      allowed = λ i x at. kept_unless (is_allowed (setting_at stmts i) x.says) code.Access (nowhere_at (broken rule.Allowed table stmts) stmts i x k.allowed at);
      valued = valued_at (pieces tokens) stmts h;
    }

-- a statement with an expression stands behind the variables of its procedure
reads_behind : (s : Statement) → reads s ≡ true → is_behind (part_of s) ≡ true
reads_behind (st.pre _) h = refl
reads_behind (st.post _) h = refl
reads_behind (st.assign _ _) h = refl
reads_behind (st.if_true _) h = refl
reads_behind (st.exit_when _) h = refl
reads_behind (st.call _ _) h = refl
reads_behind (st.assert _) h = refl
reads_behind _ h = absurd (cc)

are_numbered : (stmts : List Placed) (i : ℕ) (x : Placed) → IsInOrder stmts → slice_get stmts i ≡ Some x → reads x.says ≡ true
    → AreNumbered (setting_at stmts i) (places_of stmts (counts_at stmts i).procedures)
are_numbered stmts i x o at h =
    let k = (counts_at stmts i).procedures in
    let holds = subst (Holds (places_of stmts k) stmts k) (all_before stmts i x o at (reads_behind x.says h)) (places_hold stmts k) in
    let r = reads_of stmts (places_of stmts k) i (owned stmts o) holds in
    record { variables = r.variables; copies = r.copies }

pub no_default_is_taken : NoDefaultIsTaken
no_default_is_taken text x accepted =
    let told = accepted.say in
    let links = told.accepted.links in
    let ordered = told.parsed.1 in
    let keeps = keeps_calls told.stmts links told.accepted.kept in
    let kept = are_kept accepted.tokens told.stmts told.parsed.0 (own_answers told.stmts links keeps (own_limited told.stmts links keeps ordered)) in
    record {
      title = title_there told.stmts ordered;
      each = λ i x at. finds_all told.stmts links i x ordered kept keeps told.accepted.linked at;
      numbered = λ i x at h. are_numbered told.stmts i x ordered at h;
    }
