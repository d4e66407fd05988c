-- In front of a statement of a procedure there are as many variables of it as are counted, and so many INOUT ones among them.
use Rattle.std.proofs.Common.{◌≡◌, ◌≢◌, ℕ, zero, suc, ◌+◌, ◌<◌, ◌≤◌, ◌∙◌, sym, ap, subst, refl, inl, inr, ◌⊎◌, List, [], ◌∷◌, ◌++◌, length, arith, append-nil}
use Rattle.std.specs.Prelude.{Some, slice_get, filter}
use Rattle.std.proofs.lemmas.Bool.{cases_eq}
use Rattle.std.proofs.lemmas.List.{length-append}
use Rattle.std.proofs.lemmas.List.Elements.{filter-append}
use Rattle.il_core.specs.Checked.{is_copied}
use Rattle.il_core.specs.Statement.{Statement, Placed, procedure, variable}
use Rattle.il_core.specs.declared.line.Place.{Place}
use Rattle.il_core.specs.declared.statement.Mode.{Mode}
use Rattle.il_core.specs.declared.statement.Mode.TheVariants as mode
use Rattle.il_core.specs.declared.statement.TypeUse.{TypeUse}
use Rattle.il_types.specs.Built.{place_of}
use Rattle.il_types.specs.declared.counts.Counts.{Counts}
use Rattle.il_types.specs.Counts.{counts_behind}
use Rattle.il_types.specs.Names.{Setting, counts_at}
use Rattle.il_built.specs.CheckedText.{of_procedure, declared_place}
use Rattle.il_built.specs.Holding.{setting_at}
use Rattle.il_built.proofs.Given.{stands, counts_next, given_by, given_next, given_here, not_given}

-- a statement that begins a procedure declares no variable
record IsOpening (c behind : Counts) (ps : List Place) : Type 0 where
  procedures : behind.procedures ≡ c.procedures + 1
  variables : behind.variables ≡ 0
  copies : behind.copies ≡ 0
  none : ps ≡ []

-- any other counts what it declares
record IsCounted (c behind : Counts) (ps : List Place) : Type 0 where
  procedures : behind.procedures ≡ c.procedures
  variables : behind.variables ≡ c.variables + length ps
  copies : behind.copies ≡ c.copies + length (filter is_copied ps)

-- a variable counts itself
declaring : (c : Counts) (s : Setting) (m : Mode) (name : List ℕ) (used : TypeUse) → IsCounted c (counts_behind c (variable m name used)) (place_of s (variable m name used) ∷ [])
declaring c s mode.InOut name used = record { procedures = refl; variables = refl; copies = refl }
declaring c s _ name used = record { procedures = refl; variables = refl; copies = refl }

-- each statement is of one of these sorts
counted : (c : Counts) (s : Setting) (x : Statement) → IsOpening c (counts_behind c x) (declared_place s x) ⊎ IsCounted c (counts_behind c x) (declared_place s x)
counted c s (procedure name) = inl (record { procedures = refl; variables = refl; copies = refl; none = refl })
counted c s (variable m name used) = inr (declaring c s m name used)
counted c s _ = inr (record { procedures = refl; variables = omega arith; copies = omega arith })

-- the variables of a procedure among the first n statements
abbrev pub variables_to : List Placed → ℕ → ℕ → List Place
variables_to stmts owner n = given_by (λ i x. declared_place (setting_at stmts i) x) stmts owner n

-- in front of a procedure there is none of its variables, in it there are as many as are counted
pub record AreCounted (c : Counts) (owner : ℕ) (ps : List Place) : Type 0 where
  pub before : c.procedures < owner → ps ≡ []
  pub variables : c.procedures ≡ owner → length ps ≡ c.variables
  pub copies : c.procedures ≡ owner → length (filter is_copied ps) ≡ c.copies

-- behind a statement that declares the places ds and gives the procedure the places gs
one_further : (c behind : Counts) (owner : ℕ) (ps ds gs : List Place) → AreCounted c owner ps → IsOpening c behind ds ⊎ IsCounted c behind ds
    → (c.procedures ≡ owner → gs ≡ ds) → (c.procedures ≢ owner → gs ≡ []) → AreCounted behind owner (ps ++ gs)
one_further c behind owner ps ds gs a (inl o) own other =
    let nothing : gs ≡ [] = elim (cases_eq c.procedures owner) [ inl e ↦ own e ∙ o.none | inr n ↦ other n ] in
    let same : ps ++ gs ≡ ps = ap (λ xs. ps ++ xs) nothing ∙ append-nil ps in
    let first : behind.procedures ≡ owner → ps ++ gs ≡ [] = λ h. same ∙ a.before (omega arith) in
    record {
      before = λ h. same ∙ a.before (omega arith);
      variables = λ h. ap length (first h) ∙ sym o.variables;
      copies = λ h. ap (λ xs. length (filter is_copied xs)) (first h) ∙ sym o.copies;
    }
one_further c behind owner ps ds gs a (inr k) own other =
    record {
      before = λ h. let lt : c.procedures < owner = omega arith in ap (λ xs. xs ++ gs) (a.before lt) ∙ other (omega arith);
      variables = λ h. let e : c.procedures ≡ owner = omega arith in
          length-append ps gs ∙ ap (λ xs. length ps + length xs) (own e) ∙ ap (λ n. n + length ds) (a.variables e) ∙ sym k.variables;
      copies = λ h. let e : c.procedures ≡ owner = omega arith in
          ap length (filter-append is_copied ps gs) ∙ length-append (filter is_copied ps) (filter is_copied gs)
          ∙ ap (λ xs. length (filter is_copied ps) + length (filter is_copied xs)) (own e) ∙ ap (λ n. n + length (filter is_copied ds)) (a.copies e) ∙ sym k.copies;
    }

-- behind one statement more they are counted too
variables_next : (stmts : List Placed) (owner i : ℕ) (x : Placed) → slice_get stmts i ≡ Some x
    → AreCounted (counts_at stmts i) owner (variables_to stmts owner i) → AreCounted (counts_at stmts (suc i)) owner (variables_to stmts owner (suc i))
variables_next stmts owner i x there a =
    let give = λ (k : ℕ) (y : Statement). declared_place (setting_at stmts k) y in
    let c = counts_at stmts i in
    let next = one_further c (counts_behind c x.says) owner (variables_to stmts owner i) (give i x.says) (of_procedure give stmts owner i) a
    (counted c (setting_at stmts i) x.says) (given_here give stmts owner i x there) (not_given give stmts owner i x there) in
    subst (λ (d : Counts). AreCounted d owner (variables_to stmts owner (suc i))) (sym (counts_next stmts i x there))
    (subst (AreCounted (counts_behind c x.says) owner) (sym (given_next give stmts owner i)) next)

-- the variables in front of each statement are counted
pub variables_counted : (stmts : List Placed) (owner i : ℕ) → i ≤ length stmts → AreCounted (counts_at stmts i) owner (variables_to stmts owner i)
variables_counted stmts owner zero h = record { before = λ lt. refl; variables = λ e. refl; copies = λ e. refl }
variables_counted stmts owner (suc i) h =
    let x = stands stmts i (omega arith) in
    variables_next stmts owner i x.0 x.1 (variables_counted stmts owner i (omega arith))

-- a statement behind which another procedure stands, or one that declares no variable, adds none
pub none_here : (stmts : List Placed) (owner i : ℕ) (x : Placed) → slice_get stmts i ≡ Some x
    → ((counts_at stmts (suc i)).procedures ≢ owner) ⊎ (declared_place (setting_at stmts i) x.says ≡ []) → variables_to stmts owner (suc i) ≡ variables_to stmts owner i
none_here stmts owner i x there h =
    let give = λ (k : ℕ) (y : Statement). declared_place (setting_at stmts k) y in
    let before = variables_to stmts owner i in
    let c = counts_at stmts i in
    let own : c.procedures ≡ owner → declared_place (setting_at stmts i) x.says ≡ [] = λ e. elim h [
      | inr none ↦ none
      | inl other ↦ elim (counted c (setting_at stmts i) x.says) [
        | inl o ↦ o.none
        | inr k ↦ absurd (other (ap (λ (d : Counts). d.procedures) (counts_next stmts i x there) ∙ k.procedures ∙ e))
      ]
    ] in
    let nothing : of_procedure give stmts owner i ≡ [] = elim (cases_eq c.procedures owner) [
      | inl e ↦ given_here give stmts owner i x there e ∙ own e
      | inr other ↦ not_given give stmts owner i x there other
    ] in
    given_next give stmts owner i ∙ ap (λ xs. before ++ xs) nothing ∙ append-nil before
