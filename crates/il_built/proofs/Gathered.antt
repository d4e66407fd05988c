-- What the statements of a procedure give, gathered from one statement to the next over its own statements alone.
use Rattle.std.proofs.Common.{◌≡◌, ℕ, zero, suc, ◌+◌, ◌-◌, ◌<◌, ◌≤◌, ◌∙◌, sym, ap, refl, List, [], ◌∷◌, ◌++◌, length, arith, append-nil}
use Rattle.std.specs.Prelude.{◌≢◌, Option, Some, None, map, slice_get}
use Rattle.std.specs.Option.{option_to_list, option_map}
use Rattle.std.proofs.lemmas.List.{map-append}
use Rattle.il_core.specs.Statement.{Statement, Placed}
use Rattle.il_types.specs.Names.{Table, Setting, setting, front_of, counts_at}
use Rattle.il_built.specs.CheckedText.{of_procedure, given}
use Rattle.il_built.specs.Holding.{setting_at}
use Rattle.il_built.specs.Span.{AreStatementsOf}
use Rattle.il_built.proofs.Given.{given_by, given_next, given_here, not_given, given_front, stands}

-- statements of other procedures give nothing
nothing_before : {A : Type 0} (give : ℕ → Statement → List A) (stmts : List Placed) (owner n : ℕ) → n ≤ length stmts
    → ((i : ℕ) → i < n → (counts_at stmts i).procedures ≢ owner) → given_by give stmts owner n ≡ []
nothing_before give stmts owner zero h other = refl
nothing_before give stmts owner (suc n) h other =
    let x = stands stmts n (omega arith) in
    given_next give stmts owner n
    ∙ ap (λ xs. xs ++ of_procedure give stmts owner n) (nothing_before give stmts owner n (omega arith) (λ i lt. other i (omega arith)))
    ∙ not_given give stmts owner n x.0 x.1 (other n (omega arith))

-- statements of other procedures add nothing
nothing_behind : {A : Type 0} (give : ℕ → Statement → List A) (stmts : List Placed) (owner m k : ℕ) → m + k ≤ length stmts
    → ((i : ℕ) → m ≤ i → i < m + k → (counts_at stmts i).procedures ≢ owner) → given_by give stmts owner (m + k) ≡ given_by give stmts owner m
nothing_behind give stmts owner m zero h other = let e : m + 0 ≡ m = omega arith in ap (given_by give stmts owner) e
nothing_behind give stmts owner m (suc k) h other =
    let e : m + suc k ≡ suc (m + k) = omega arith in
    let x = stands stmts (m + k) (omega arith) in
    ap (given_by give stmts owner) e ∙ given_next give stmts owner (m + k)
    ∙ ap (λ xs. given_by give stmts owner (m + k) ++ xs) (not_given give stmts owner (m + k) x.0 x.1 (other (m + k) (omega arith) (omega arith)))
    ∙ append-nil (given_by give stmts owner (m + k))
    ∙ nothing_behind give stmts owner m k (omega arith) (λ i le lt. other i le (omega arith))

-- at the first statement of the procedure
pub gathered_start : {A : Type 0} (give : ℕ → Statement → List A) (stmts : List Placed) (owner from to : ℕ) → AreStatementsOf stmts owner from to
    → given_by give stmts owner from ≡ []
gathered_start give stmts owner from to s =
    let ordered = s.ordered in
    let within = s.within in
    nothing_before give stmts owner from (omega arith) s.before

-- one statement of the procedure more
gathered_more : {A : Type 0} (give : ℕ → Statement → List A) (stmts : List Placed) (owner from to i : ℕ) (x : Placed) → AreStatementsOf stmts owner from to
    → from ≤ i → i < to → slice_get stmts i ≡ Some x → given_by give stmts owner (i + 1) ≡ given_by give stmts owner i ++ give i x.says
gathered_more give stmts owner from to i x s le lt e =
    let n : i + 1 ≡ suc i = omega arith in
    ap (given_by give stmts owner) n ∙ given_next give stmts owner i
    ∙ ap (λ xs. given_by give stmts owner i ++ xs) (given_here give stmts owner i x e (s.inside i le lt))

-- behind the last statement of the procedure
pub gathered_end : {A : Type 0} (give : ℕ → Statement → List A) (stmts : List Placed) (owner from to : ℕ) → AreStatementsOf stmts owner from to
    → given_by give stmts owner to ≡ given give stmts owner
gathered_end give stmts owner from to s =
    let within = s.within in
    let e : to + (length stmts - to) ≡ length stmts = omega arith in
    sym (nothing_behind give stmts owner to (length stmts - to) (omega arith) (λ i le lt. s.behind i le (omega arith))) ∙ ap (given_by give stmts owner) e

-- where the names of a statement of the procedure are looked up
setting_is : (stmts : List Placed) (table : Table) (owner from to i : ℕ) → table ≡ (front_of stmts).table → AreStatementsOf stmts owner from to
    → from ≤ i → i < to → setting table stmts owner i ≡ setting_at stmts i
setting_is stmts table owner from to i e s le lt =
    ap (λ (t : Table). setting t stmts owner i) e ∙ ap (λ o. setting (front_of stmts).table stmts o i) (sym (s.inside i le lt))

-- one statement of the procedure more, read where it stands
pub gathered_step : {A : Type 0} (say : Setting → ℕ → Statement → List A) (stmts : List Placed) (table : Table) (owner from to i : ℕ) (here : Setting) (x : Placed) (old new now : List A)
    → here ≡ setting table stmts owner i → slice_get here.stmts here.at ≡ Some x
    → table ≡ (front_of stmts).table → AreStatementsOf stmts owner from to → from ≤ i → i < to
    → old ≡ given_by (λ k s. say (setting_at stmts k) k s) stmts owner i
    → now ≡ say here i x.says → new ≡ old ++ now
    → new ≡ given_by (λ k s. say (setting_at stmts k) k s) stmts owner (i + 1)
gathered_step {A} say stmts table owner from to i here x old new now h there t s le lt o n grown =
    let give : ℕ → Statement → List A = λ k y. say (setting_at stmts k) k y in
    let said : now ≡ give i x.says = n ∙ ap (λ (z : Setting). say z i x.says) (h ∙ setting_is stmts table owner from to i t s le lt) in
    let at : slice_get stmts i ≡ Some x = sym (ap (λ (z : Setting). slice_get z.stmts z.at) h) ∙ there in
    grown ∙ ap (λ xs. xs ++ now) o ∙ ap (λ xs. given_by give stmts owner i ++ xs) said ∙ sym (gathered_more give stmts owner from to i x s le lt at)

-- what is given first
pub given_first : {A : Type 0} (say : Setting → ℕ → Statement → List A) (stmts : List Placed) (table : Table) (owner from to i : ℕ) (here : Setting) (x : Placed) (a : A)
    → here ≡ setting table stmts owner i → slice_get here.stmts here.at ≡ Some x
    → table ≡ (front_of stmts).table → AreStatementsOf stmts owner from to → from ≤ i → i < to
    → given_by (λ k s. say (setting_at stmts k) k s) stmts owner i ≡ []
    → a ∷ [] ≡ say here i x.says
    → (rest : List A) × (given (λ k s. say (setting_at stmts k) k s) stmts owner ≡ a ∷ rest)
given_first {A} say stmts table owner from to i here x a h there t s le lt none n =
    let give : ℕ → Statement → List A = λ k y. say (setting_at stmts k) k y in
    let step = gathered_step say stmts table owner from to i here x [] (a ∷ []) (a ∷ []) h there t s le lt (sym none) n refl in
    let more = given_front give stmts owner (i + 1) to (omega arith) in
    (more.0, sym (gathered_end give stmts owner from to s) ∙ more.1 ∙ ap (λ xs. xs ++ more.0) (sym step))

-- a list with one element more
pub one_more : {A B : Type 0} (f : A → B) (old new : List A) (a : A) (o : Option A) → new ≡ old ++ a ∷ [] → o ≡ Some a
    → map f new ≡ map f old ++ option_to_list (option_map f o)
one_more f old new a o e is = ap (map f) e ∙ map-append f old (a ∷ []) ∙ sym (ap (λ p. map f old ++ option_to_list (option_map f p)) is)

-- a list that stays as it is
pub no_more : {A B : Type 0} (f : A → B) (old new : List A) (o : Option A) → new ≡ old → o ≡ None → map f new ≡ map f old ++ option_to_list (option_map f o)
no_more f old new o e is = ap (map f) e ∙ sym (append-nil (map f old)) ∙ sym (ap (λ p. map f old ++ option_to_list (option_map f p)) is)
