-- The places of a procedure give each of its variables its place, and each INOUT one its OLD copy.
use Rattle.std.proofs.Common.{◌≡◌, ℕ, zero, suc, ◌+◌, ◌≤◌, ◌∙◌, ap, refl, true, List, [], ◌∷◌, ◌++◌, length, arith, append_assoc, cond}
use Rattle.std.specs.Prelude.{Some, slice_get, filter, map}
use Rattle.std.specs.Option.{option_map}
use Rattle.std.proofs.lemmas.List.Elements.{filter-append}
use Rattle.std.proofs.lemmas.Option.{slice_get-map, slice_get_within}
use Rattle.il_core.specs.Checked.{is_copied, old_copy}
use Rattle.il_core.specs.Statement.{Statement, Placed, variable}
use Rattle.il_core.specs.declared.line.Place.{Place}
use Rattle.il_core.specs.declared.statement.Mode.{Mode}
use Rattle.il_core.specs.declared.statement.TypeUse.{TypeUse}
use Rattle.il_types.specs.Built.{place_of}
use Rattle.il_types.specs.Names.{counts_at}
use Rattle.il_built.specs.CheckedText.{declared_place, variables_of, places_of}
use Rattle.il_built.specs.Holding.{setting_at, Declares, Holds}
use Rattle.il_built.proofs.Given.{given_next, given_front, given_here}
use Rattle.il_built.proofs.VariablesCounted.{variables_to, variables_counted}

-- an element behind others
at_seam : {A : Type 0} (xs : List A) (y : A) (ys : List A) (n : ℕ) → length xs ≡ n → slice_get (xs ++ y ∷ ys) n ≡ Some y
at_seam [] y ys zero h = refl
at_seam [] y ys (suc n) h = absurd (omega arith)
at_seam (x ∷ xs) y ys zero h = absurd (omega arith)
at_seam (x ∷ xs) y ys (suc n) h = at_seam xs y ys n (omega arith)

-- the elements of a list behind another
behind : {A : Type 0} (xs ys : List A) (k : ℕ) → slice_get (xs ++ ys) (length xs + k) ≡ slice_get ys k
behind [] ys k = let e : 0 + k ≡ k = omega arith in ap (slice_get ys) e
behind (x ∷ xs) ys k = let e : suc (length xs) + k ≡ suc (length xs + k) = omega arith in ap (slice_get (x ∷ (xs ++ ys))) e ∙ behind xs ys k

-- the variables in front of one, and those behind it
record IsAmong (stmts : List Placed) (owner i : ℕ) (p : Place) : Type 0 where
  rest : List Place
  parts : variables_of stmts owner ≡ variables_to stmts owner i ++ p ∷ rest
  variables : length (variables_to stmts owner i) ≡ (counts_at stmts i).variables
  copies : length (filter is_copied (variables_to stmts owner i)) ≡ (counts_at stmts i).copies

-- each variable of a procedure stands among them
among : (stmts : List Placed) (owner i : ℕ) (m : Mode) (name : List ℕ) (used : TypeUse) → Declares stmts i m name used → (counts_at stmts i).procedures ≡ owner
    → IsAmong stmts owner i (place_of (setting_at stmts i) (variable m name used))
among stmts owner i m name used d own =
    let give = λ (k : ℕ) (y : Statement). declared_place (setting_at stmts k) y in
    let inside = slice_get_within stmts i d.stmt d.there in
    let within : suc i ≤ length stmts = omega arith in
    let before = variables_to stmts owner i in
    let front = given_front give stmts owner (suc i) (length stmts) within in
    let counted = variables_counted stmts owner i (omega arith) in
    let p = place_of (setting_at stmts i) (variable m name used) in
    let here = given_here give stmts owner i d.stmt d.there own ∙ ap (give i) d.says in
    record {
      rest = front.0;
      parts = front.1 ∙ ap (λ xs. xs ++ front.0) (given_next give stmts owner i ∙ ap (λ xs. before ++ xs) here) ∙ append_assoc before (p ∷ []) front.0;
      variables = counted.variables own;
      copies = counted.copies own;
    }

-- it has the place that the counts say
variable_held : (stmts : List Placed) (owner i : ℕ) (p : Place) → IsAmong stmts owner i p → slice_get (places_of stmts owner) (counts_at stmts i).variables ≡ Some p
variable_held stmts owner i p a =
    let before = variables_to stmts owner i in
    let copies = map old_copy (filter is_copied (variables_of stmts owner)) in
    ap (λ ps. slice_get (ps ++ copies) (counts_at stmts i).variables) a.parts
    ∙ ap (λ ps. slice_get ps (counts_at stmts i).variables) (append_assoc before (p ∷ a.rest) copies)
    ∙ at_seam before p (a.rest ++ copies) (counts_at stmts i).variables a.variables

-- and so has its OLD copy
copy_held : (stmts : List Placed) (owner i : ℕ) (p : Place) → IsAmong stmts owner i p → is_copied p ≡ true
    → slice_get (places_of stmts owner) (length (variables_of stmts owner) + (counts_at stmts i).copies) ≡ Some (old_copy p)
copy_held stmts owner i p a h =
    let before = variables_to stmts owner i in
    let vs = variables_of stmts owner in
    let k = (counts_at stmts i).copies in
    let copied : filter is_copied vs ≡ filter is_copied before ++ p ∷ filter is_copied a.rest =
    ap (filter is_copied) a.parts ∙ filter-append is_copied before (p ∷ a.rest)
    ∙ ap (λ b. filter is_copied before ++ cond b (p ∷ filter is_copied a.rest) (filter is_copied a.rest)) h in
    behind vs (map old_copy (filter is_copied vs)) k ∙ slice_get-map old_copy (filter is_copied vs) k
    ∙ ap (λ ps. option_map old_copy (slice_get ps k)) copied
    ∙ ap (option_map old_copy) (at_seam (filter is_copied before) p (filter is_copied a.rest) k a.copies)

-- the places of a procedure hold its variables and their OLD copies
pub places_hold : (stmts : List Placed) (owner : ℕ) → Holds (places_of stmts owner) stmts owner (length (variables_of stmts owner))
places_hold stmts owner = record {
  variables = λ i m name used d own. variable_held stmts owner i (place_of (setting_at stmts i) (variable m name used)) (among stmts owner i m name used d own);
  copies = λ i m name used d own inout. copy_held stmts owner i (place_of (setting_at stmts i) (variable m name used)) (among stmts owner i m name used d own) inout;
}
