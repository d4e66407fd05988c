-- What is found at one statement.
use Rattle.std.proofs.Common.{◌≡◌, ◌≢◌, ℕ, suc, ◌+◌, ◌-◌, ◌<◌, ◌≤◌, ◌∙◌, sym, ap, subst, refl, inl, inr, Bool, true, false, List, [], ◌∷◌, ◌++◌, length, take, drop, arith, nat_eq, if◌then◌else◌, cond}
use Rattle.std.specs.Prelude.{Option, Some, None, find, map, slice_get, count_by}
use Rattle.std.specs.List.{flat_map}
use Rattle.std.specs.Option.{option_map, option_and_then}
use Rattle.std.proofs.lemmas.Bool.{cases_eq, cases_lt}
use Rattle.std.proofs.lemmas.List.{length-append, take_all}
use Rattle.std.proofs.lemmas.List.Sums.{sum_by-cons}
use Rattle.std.proofs.lemmas.Option.{slice_get_within, same_Some}
use Rattle.il_core.specs.Statement.{Statement, Placed, procedure, call}
use Rattle.il_core.specs.declared.refusal.Code.TheVariants as code
use Rattle.il_core.specs.declared.statement.Link.{Link}
use Rattle.il_types.specs.declared.counts.Counts.{Counts}
use Rattle.il_types.specs.declared.rules.Found.{Found}
use Rattle.il_types.specs.Counts.{counts_behind}
use Rattle.il_types.specs.Names.{Setting, counts_at, front_of}
use Rattle.il_types.specs.Rules.{at_stmt, naming, twice}
use Rattle.il_built.specs.Holding.{setting_at}
use Rattle.il_built.proofs.Given.{counts_next, given_by}
use Rattle.il_called.specs.Called.{WrittenLine, own, WrittenProcedure}
use Rattle.il_called.specs.Called as called
use Rattle.il_called.specs.Expansion.{Callee, callees_of, is_call}
use Rattle.call_rules.specs.Callee.{procedure_named}
use Rattle.call_rules.specs.CalledText.{written_procedures, lines_before, call_number_at}
use Rattle.call_rules.specs.Clash.{new_names, new_names_of, is_own_variable, clash, twice_at}
use Rattle.call_limits.proofs.Passed.{later, none_yet, given_more}
use Rattle.call_names.specs.declared.outline.Outline.{Outline}
use Rattle.call_names.specs.declared.outline.Variable.{Variable}
use Rattle.il_types.specs.declared.names.Redeclaration.{Redeclaration}
use Rattle.il_types.specs.Redeclaration.{IsFirstRedeclaration}
use Rattle.call_names.specs.Gathered.{AreGathered, called_in, calls_behind, clash_found, clash_in, own_names, redeclared_at}
use Rattle.call_names.specs.Outlines.{callee_in, AreOutlined}
use Rattle.call_names.specs.Search.{is_among, names_under}
use Rattle.call_names.proofs.Outlined.{calls_gathered, outlined_text}
use Rattle.call_names.proofs.Owned.{owned, none_owned}
use Rattle.call_names.proofs.Parts.{outlined_before}

find_never : {A : Type 0} (p : A → Bool) (xs : List A) → ((x : A) → p x ≡ false) → find p xs ≡ None
find_never p [] e = refl
find_never p (x ∷ xs) e = ap (λ b. cond b (Some x) (find p xs)) (e x) ∙ find_never p xs e

find_alike : {A : Type 0} (p q : A → Bool) (xs : List A) → ((x : A) → p x ≡ q x) → find p xs ≡ find q xs
find_alike p q [] e = refl
find_alike p q (x ∷ xs) e = ap (λ b. cond b (Some x) (find p xs)) (e x) ∙ ap (cond (q x) (Some x)) (find_alike p q xs e)

count_calls : (ls : List WrittenLine) → length (flat_map callee_in ls) ≡ count_by is_call ls
count_calls [] = refl
count_calls (own i ∷ ls) =
    let n : 0 + count_by is_call ls ≡ count_by is_call ls = omega arith in
    count_calls ls ∙ sym (sum_by-cons (λ y. cond (is_call y) 1 0) (own i) ls ∙ n)
count_calls (called.call c arguments ∷ ls) =
    let n : 1 + count_by is_call ls ≡ suc (count_by is_call ls) = omega arith in
    ap suc (count_calls ls) ∙ sym (sum_by-cons (λ y. cond (is_call y) 1 0) (called.call c arguments) ls ∙ n)

abbrev pub calls_to : List Placed → ℕ → ℕ → List ℕ
calls_to stmts owner n = given_by (λ k y. called_in (setting_at stmts k) y) stmts owner n

-- the number of a CALL is one more than those that have been counted
numbered : (stmts : List Placed) (links : List Link) (i calls : ℕ) → calls ≡ length (calls_to stmts (counts_at stmts i).procedures i) → calls + 1 ≡ call_number_at stmts links i
numbered stmts links i calls e =
    let owner = (counts_at stmts i).procedures in
    ap (λ n. n + 1) (e ∙ sym (ap length (calls_gathered stmts links owner i)) ∙ count_calls (lines_before stmts links owner i))

names_are : (procs : List WrittenProcedure) (test : List ℕ → Bool) (sought : List (List ℕ)) (k : ℕ) (named : Option ℕ) → ((name : List ℕ) → test name ≡ is_among sought name)
    → clash_found procs sought k named ≡ find test (new_names_of k (option_and_then (λ c. slice_get (callees_of procs) (c - 1)) named))
names_are procs test sought k None e = refl
names_are procs test sought k (Some c) e = by (slice_get (callees_of procs) (c - 1))
  where
    by : (o : Option Callee) → find (is_among sought) (names_under [] k (elim o [ None ↦ [] | Some it ↦ it.expanded.places ])) ≡ find test (new_names_of k o)
    by None = refl
    by (Some it) = sym (find_alike test (is_among sought) (new_names_of k (Some it)) e)

-- what is found at a CALL is the clash there
same_clash : (stmts : List Placed) (links : List Link) (outlines : List Outline) (i calls : ℕ) (name : List ℕ) → AreGathered stmts outlines
    → calls ≡ length (calls_to stmts (counts_at stmts i).procedures i)
    → (if nat_eq (counts_at stmts i).procedures 0 then None
    else clash_found (take ((counts_at stmts i).procedures - 1) (written_procedures stmts links)) (own_names outlines (counts_at stmts i).procedures) (calls + 1)
    (procedure_named (setting_at stmts i) name))
    ≡ clash stmts links i name
same_clash stmts links outlines i calls name g e = elim (cases_eq (counts_at stmts i).procedures 0) [
  | inl zero ↦ ap (λ n. if nat_eq n 0 then None else found) zero
      ∙ sym (find_never (is_own_variable (setting_at stmts i)) (new_names stmts links i name) (λ n. none_owned stmts i (counts_at stmts i).procedures n refl zero))
  | inr some ↦ ap (λ b. if b then None else found) (differs (counts_at stmts i).procedures some)
      ∙ ap (λ k. clash_found procs (own_names outlines owner) k (procedure_named (setting_at stmts i) name)) (numbered stmts links i calls e)
      ∙ names_are procs (is_own_variable (setting_at stmts i)) (own_names outlines owner) (call_number_at stmts links i) (procedure_named (setting_at stmts i) name)
      (λ n. owned stmts i owner n refl some ∙ ap (λ (vs : List Variable). is_among (map (λ (v : Variable). v.name) vs) n) (sym (g.variables owner)))
]
  where
    owner : ℕ
    owner = (counts_at stmts i).procedures

    procs : List WrittenProcedure
    procs = take ((counts_at stmts i).procedures - 1) (written_procedures stmts links)

    found : Option (List ℕ)
    found = clash_found (take ((counts_at stmts i).procedures - 1) (written_procedures stmts links)) (own_names outlines (counts_at stmts i).procedures) (calls + 1)
        (procedure_named (setting_at stmts i) name)

    differs : (n : ℕ) → n ≢ 0 → nat_eq n 0 ≡ false
    differs n h = grind arith

abbrev procs_at : List Placed → List Link → ℕ → List WrittenProcedure
procs_at stmts links i = take ((counts_at stmts i).procedures - 1) (written_procedures stmts links)

-- the outlines of the procedures before the one of a statement
pub outlined_here : (stmts : List Placed) (links : List Link) (outlines : List Outline) (owner : ℕ) → AreGathered stmts outlines
    → AreOutlined (take (owner - 1) (written_procedures stmts links)) (take (owner - 1) (drop 1 outlines))
outlined_here stmts links outlines owner g = outlined_before (written_procedures stmts links) (drop 1 outlines) (owner - 1) (outlined_text stmts links outlines g)

-- a new name is found
pub clash_here : (stmts : List Placed) (links : List Link) (outlines : List Outline) (i calls : ℕ) (x : Statement) (name : List ℕ) → AreGathered stmts outlines
    → calls ≡ length (calls_to stmts (counts_at stmts i).procedures i)
    → clash_in (take ((counts_at stmts i).procedures - 1) (written_procedures stmts links)) outlines (setting_at stmts i) calls x ≡ Some name
    → twice_at stmts links i x ≡ Some (naming code.Twice name)
clash_here stmts links outlines i calls (call callee arguments) name g e f = ap (option_map (naming code.Twice)) (sym (same_clash stmts links outlines i calls callee g e) ∙ f)
clash_here stmts links outlines i calls x name g e f = absurd (none f)
  where
    none : {A : Type 0} {y : A} → None ≡ Some y → ⊥
    none h = cc

-- a name that is taken is found
plain_at : (stmts : List Placed) (links : List Link) (i : ℕ) (x : Statement) (f : Found) → twice stmts i x ≡ Some f → twice_at stmts links i x ≡ Some f
plain_at stmts links i (call callee arguments) f e = absurd (none e)
  where
    none : {A : Type 0} {y : A} → None ≡ Some y → ⊥
    none h = cc
plain_at stmts links i x f e = e

taken_at : (stmts : List Placed) (i : ℕ) (x : Placed) → slice_get stmts i ≡ Some x → at_stmt (twice stmts) stmts i ≡ twice stmts i x.says
taken_at stmts i x there = ap (option_and_then (λ (y : Placed). twice stmts i y.says)) there

pub redeclaration_here : (stmts : List Placed) (links : List Link) (redeclaration : Option Redeclaration) (i : ℕ) (x : Placed) (name : List ℕ) → slice_get stmts i ≡ Some x → IsFirstRedeclaration stmts redeclaration
    → redeclared_at redeclaration i ≡ Some name → twice_at stmts links i x.says ≡ Some (naming code.Twice name)
redeclaration_here stmts links None i x name there d e = absurd (none e)
  where
    none : {A : Type 0} {y : A} → None ≡ Some y → ⊥
    none h = cc
redeclaration_here stmts links (Some it) i x name there d e = by (nat_eq it.at i) refl e
  where
    same : (a b : ℕ) → nat_eq a b ≡ true → a ≡ b
    same a b h = grind arith

    by : (b : Bool) → nat_eq it.at i ≡ b → cond b (Some it.name) None ≡ Some name → twice_at stmts links i x.says ≡ Some (naming code.Twice name)
    by true h f =
        let at : it.at ≡ i = same it.at i h in
        let found : twice stmts i x.says ≡ Some (naming code.Twice it.name) = sym (taken_at stmts i x there) ∙ subst (λ n. at_stmt (twice stmts) stmts n ≡ Some (naming code.Twice it.name)) at d.0 in
        plain_at stmts links i x.says (naming code.Twice it.name) found ∙ ap (λ n. Some (naming code.Twice n)) (same_Some _ _ f)
    by false h f = absurd (cc)

-- nothing is found
plain_none : (stmts : List Placed) (links : List Link) (redeclaration : Option Redeclaration) (i : ℕ) (x : Placed) → slice_get stmts i ≡ Some x → IsFirstRedeclaration stmts redeclaration
    → redeclared_at redeclaration i ≡ None → ((k : ℕ) → k < i → at_stmt (twice_at stmts links) stmts k ≡ None) → twice stmts i x.says ≡ None
plain_none stmts links None i x there d e before = sym (taken_at stmts i x there) ∙ d i
plain_none stmts links (Some it) i x there d e before = elim (cases_lt i it.at) [
  | inl less ↦ sym (taken_at stmts i x there) ∙ d.1 i less
  | inr past ↦ elim (cases_eq it.at i) [
    | inl at ↦ absurd (here (nat_eq it.at i) (same it.at i at) e)
    | inr other ↦ absurd (earlier (slice_get stmts it.at) refl (omega arith))
  ]
]
  where
    same : (a b : ℕ) → a ≡ b → nat_eq a b ≡ true
    same a b h = grind arith

    here : (b : Bool) → b ≡ true → cond b (Some it.name) None ≡ None → ⊥
    here true h f = cc
    here false h f = cc

    earlier : (o : Option Placed) → slice_get stmts it.at ≡ o → it.at < i → ⊥
    earlier None h less = let f : at_stmt (twice stmts) stmts it.at ≡ None = ap (option_and_then (λ (y : Placed). twice stmts it.at y.says)) h in let g = d.0 in cc
    earlier (Some y) h less =
        let found : twice stmts it.at y.says ≡ Some (naming code.Twice it.name) = sym (taken_at stmts it.at y h) ∙ d.0 in
        let more = plain_at stmts links it.at y.says (naming code.Twice it.name) found in
        let f : at_stmt (twice_at stmts links) stmts it.at ≡ twice_at stmts links it.at y.says = ap (option_and_then (λ (z : Placed). twice_at stmts links it.at z.says)) h in
        let g = before it.at less in cc

pub none_here : (stmts : List Placed) (links : List Link) (outlines : List Outline) (redeclaration : Option Redeclaration) (i calls : ℕ) (x : Placed) → slice_get stmts i ≡ Some x → AreGathered stmts outlines
    → calls ≡ length (calls_to stmts (counts_at stmts i).procedures i)
    → clash_in (take ((counts_at stmts i).procedures - 1) (written_procedures stmts links)) outlines (setting_at stmts i) calls x.says ≡ None
    → IsFirstRedeclaration stmts redeclaration → redeclared_at redeclaration i ≡ None → ((k : ℕ) → k < i → at_stmt (twice_at stmts links) stmts k ≡ None) → twice_at stmts links i x.says ≡ None
none_here stmts links outlines redeclaration i calls x there g e f d n before = by x.says f (plain_none stmts links redeclaration i x there d n before)
  where
    by : (says : Statement) → clash_in (take ((counts_at stmts i).procedures - 1) (written_procedures stmts links)) outlines (setting_at stmts i) calls says ≡ None
        → twice stmts i says ≡ None → twice_at stmts links i says ≡ None
    by (call callee arguments) f p = ap (option_map (naming code.Twice)) (sym (same_clash stmts links outlines i calls callee g e) ∙ f)
    by says f p = p

-- the procedure of a statement has an outline
pub inside : (stmts : List Placed) (outlines : List Outline) (i : ℕ) → i < length stmts → AreGathered stmts outlines → (counts_at stmts i).procedures < length outlines
inside stmts outlines i h g =
    let n : i + (length stmts - i) ≡ length stmts = omega arith in
    let l : (counts_at stmts i).procedures ≤ (counts_at stmts (length stmts)).procedures =
    subst (λ m. (counts_at stmts i).procedures ≤ (counts_at stmts m).procedures) n (later stmts i (length stmts - i) (omega arith)) in
    let whole : (counts_at stmts (length stmts)).procedures ≡ (front_of stmts).counts.procedures =
    ap (λ (xs : List Placed). (front_of xs).counts.procedures) (take_all (length stmts) stmts (omega arith)) in
    let s = g.size in omega arith

-- the CALLs of the latest procedure, with one statement more
pub calls_next : (stmts : List Placed) (i calls : ℕ) (x : Placed) → slice_get stmts i ≡ Some x → calls ≡ length (calls_to stmts (counts_at stmts i).procedures i)
    → calls_behind calls x.says ≡ length (calls_to stmts (counts_at stmts (i + 1)).procedures (i + 1))
calls_next stmts i calls x there e = by x.says refl
  where
    n : i + 1 ≡ suc i
    n = omega arith

    counted : counts_at stmts (i + 1) ≡ counts_behind (counts_at stmts i) x.says
    counted = ap (counts_at stmts) n ∙ counts_next stmts i x there

    more : (d : List ℕ) → called_in (setting_at stmts i) x.says ≡ d → (counts_at stmts (i + 1)).procedures ≡ (counts_at stmts i).procedures
        → calls + length d ≡ length (calls_to stmts (counts_at stmts (i + 1)).procedures (i + 1))
    more d s same =
        ap (λ m. m + length d) e ∙ sym (length-append (calls_to stmts (counts_at stmts i).procedures i) d)
        ∙ ap (λ l. length (calls_to stmts (counts_at stmts i).procedures i ++ l)) (sym s)
        ∙ ap length (sym (given_more (λ k y. called_in (setting_at stmts k) y) stmts (counts_at stmts i).procedures i x there refl))
        ∙ ap (λ o. length (calls_to stmts o (i + 1))) (sym same)

    by : (says : Statement) → x.says ≡ says → calls_behind calls says ≡ length (calls_to stmts (counts_at stmts (i + 1)).procedures (i + 1))
    by (procedure name) is =
        let next : (counts_at stmts (i + 1)).procedures ≡ (counts_at stmts i).procedures + 1 = ap (λ (c : Counts). c.procedures) (counted ∙ ap (counts_behind (counts_at stmts i)) is) in
        sym (ap length (none_yet (λ k y. called_in (setting_at stmts k) y) stmts (counts_at stmts (i + 1)).procedures i (slice_get_within stmts i x there) (omega (arith, next))))
    by (call name arguments) is = more (_ ∷ []) (ap (called_in (setting_at stmts i)) is) (ap (λ (c : Counts). c.procedures) (counted ∙ ap (counts_behind (counts_at stmts i)) is))
    by says is =
        let z : calls ≡ calls + 0 = omega arith in
        z ∙ more [] (ap (called_in (setting_at stmts i)) is) (ap (λ (c : Counts). c.procedures) (counted ∙ ap (counts_behind (counts_at stmts i)) is))

-- no more CALLs than statements
pub few_behind : (calls i : ℕ) (x : Statement) → calls ≤ i → calls_behind calls x ≤ i + 1
few_behind calls i (procedure name) h = omega arith
few_behind calls i (call name arguments) h = omega arith
few_behind calls i x h = omega arith

-- what the search answers, with the outlines and the setting as they are read
pub clash_read_here : (stmts : List Placed) (links : List Link) (outlines read : List Outline) (owner i calls : ℕ) (s : Setting) (x : Statement) (found : Option (List ℕ))
    → AreGathered stmts outlines → read ≡ outlines → owner ≡ (counts_at stmts i).procedures
    → ((procs : List WrittenProcedure) (os : List Outline) (n : ℕ) (y : Statement) → clash_in procs os s n y ≡ clash_in procs os (setting_at stmts i) n y)
    → ((procs : List WrittenProcedure) → AreOutlined procs (take (owner - 1) (drop 1 read)) → found ≡ clash_in procs read s calls x)
    → found ≡ clash_in (take ((counts_at stmts i).procedures - 1) (written_procedures stmts links)) outlines (setting_at stmts i) calls x
clash_read_here stmts links outlines read owner i calls s x found g a b e f =
    let procs = take ((counts_at stmts i).procedures - 1) (written_procedures stmts links) in
    let outlined = subst (λ n. AreOutlined procs (take (n - 1) (drop 1 read))) (sym b)
    (subst (λ (os : List Outline). AreOutlined procs (take ((counts_at stmts i).procedures - 1) (drop 1 os))) (sym a) (outlined_here stmts links outlines (counts_at stmts i).procedures g)) in
    f procs outlined ∙ ap (λ (os : List Outline). clash_in procs os s calls x) a ∙ e procs outlines calls x
