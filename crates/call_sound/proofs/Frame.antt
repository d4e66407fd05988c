-- The procedures of a text with calls, in their order: how many they are, and that the places of each are in order.
use Rattle.std.proofs.Common.{◌≡◌, ℕ, zero, suc, ◌+◌, ◌<◌, ◌≤◌, ◌∙◌, sym, ap, subst, refl, List, [], ◌∷◌, length, arith}
use Rattle.std.specs.Prelude.{Some, slice_get}
use Rattle.std.proofs.lemmas.Option.{same_Some, slice_get_within}
use Rattle.il_core.specs.Checked.{AreInOrder}
use Rattle.il_core.specs.Statement.{Placed, procedure}
use Rattle.il_core.specs.declared.statement.Link.{Link}
use Rattle.il_blocks.specs.BlockLabel.{procedures, owner}
use Rattle.il_types.specs.declared.counts.Counts.{Counts}
use Rattle.il_types.specs.Names.{counts_at}
use Rattle.il_built.specs.CheckedText.{procedure_names}
use Rattle.il_built.proofs.CheckedLinesCounts.{owner_is}
use Rattle.il_built.proofs.CheckedLinesWhole.{names_owned, some_procedures}
use Rattle.il_built.proofs.CheckedPlaces.{places_in_order}
use Rattle.il_built.proofs.Given.{stands, counts_next}
use Rattle.il_built.proofs.Profile.{profile_is}
use Rattle.il_called.specs.Called.{WrittenProcedure}
use Rattle.call_rules.specs.CalledText.{written_procedure, procedures_from, written_procedures}
use Rattle.call_limits.proofs.Callees.{procedure_there}
use Rattle.call_sound.specs.Laws.{TextsAreFramed}
use Rattle.call_sound.proofs.Kept.{KeepsCalls, keeps_calls, limited_behind}

counted : (stmts : List Placed) (links : List Link) (owner : ℕ) (names : List (List ℕ)) → length (procedures_from stmts links owner names) ≡ length names
counted stmts links owner [] = refl
counted stmts links owner (name ∷ names) = ap suc (counted stmts links (suc owner) names)

-- there are as many procedures as names of procedures
pub procedures_counted : (stmts : List Placed) (links : List Link) → length (written_procedures stmts links) ≡ length (procedure_names stmts)
procedures_counted stmts links = counted stmts links 1 (procedure_names stmts)

-- few procedures stand in front of each statement and of the end
few_before : (stmts : List Placed) (links : List Link) (i : ℕ) → KeepsCalls stmts links → i ≤ length stmts → (counts_at stmts i).procedures ≤ 64
few_before stmts links zero keeps h = omega arith
few_before stmts links (suc i) keeps h =
    let x = stands stmts i (omega arith) in
    let few = (limited_behind stmts links i x.0 keeps x.1).procedures in
    subst (λ (c : Counts). c.procedures ≤ 64) (sym (counts_next stmts i x.0 x.1)) few

few_procedures : (stmts : List Placed) (links : List Link) → KeepsCalls stmts links → length (procedure_names stmts) ≤ 64
few_procedures stmts links keeps =
    let few = few_before stmts links (length stmts) keeps (omega arith) in
    let e = names_owned stmts in
    let o = owner_is stmts (length stmts) in
    omega (arith, few, e, o)

pub found : {A : Type 0} (xs : List A) (j : ℕ) → j < length xs → (x : A) × (slice_get xs j ≡ Some x)
found [] j h = absurd (omega arith)
found (x ∷ xs) zero h = (x, refl)
found (x ∷ xs) (suc j) h = found xs j (omega arith)

-- the procedure of a number, with its name
pub record IsProcedureAt (stmts : List Placed) (links : List Link) (k : ℕ) (p : WrittenProcedure) : Type 0 where
  pub name : List ℕ
  pub is : p ≡ written_procedure stmts links (1 + k) name
  pub below : k < length (procedure_names stmts)

pub procedure_at : (stmts : List Placed) (links : List Link) (k : ℕ) (p : WrittenProcedure) → slice_get (written_procedures stmts links) k ≡ Some p → IsProcedureAt stmts links k p
procedure_at stmts links k p there =
    let within = slice_get_within (written_procedures stmts links) k p there in
    let count = procedures_counted stmts links in
    let below : k < length (procedure_names stmts) = omega (arith, within, count) in
    let n = found (procedure_names stmts) k below in
    record { name = n.0; is = same_Some _ _ (sym there ∙ procedure_there stmts links 1 (procedure_names stmts) k n.0 n.1); below = below }

-- below their number there is a procedure
pub procedure_below : (stmts : List Placed) (links : List Link) (k : ℕ) → k < length (procedure_names stmts)
    → (name : List ℕ) × (slice_get (written_procedures stmts links) k ≡ Some (written_procedure stmts links (1 + k) name))
procedure_below stmts links k below = let n = found (procedure_names stmts) k below in (n.0, procedure_there stmts links 1 (procedure_names stmts) k n.0 n.1)

pub texts_are_framed : TextsAreFramed
texts_are_framed stmts links o a =
    let count = procedures_counted stmts links in
    let some = some_procedures stmts o in
    let few = few_procedures stmts links (keeps_calls stmts links a) in
    record {
      some_procedures = omega (arith, count, some);
      few_procedures = omega (arith, count, few);
      low_profile = (profile_is stmts).0;
      high_profile = (profile_is stmts).1;
      in_order = λ k p there. let q = procedure_at stmts links k p there in
          subst (λ (r : WrittenProcedure). AreInOrder r.places) (sym q.is) (places_in_order stmts (1 + k));
    }
