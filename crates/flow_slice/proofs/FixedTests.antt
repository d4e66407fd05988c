-- Lists of fixed tests, made from the least line up.
use Rattle.std.proofs.Common.{◌≡◌, inl, inr, refl, ap, subst, ◌∙◌, ℕ, ◌+◌, ◌<◌, Bool, Some, get_or, slice_get, List, [], ◌∷◌, ◌++◌, length, map}
use Rattle.std.specs.Option.{option_map}
use Rattle.std.proofs.lemmas.List.{map-append}
use Rattle.std.proofs.lemmas.Option.{slice_get-map, slice_get_read}
use Rattle.il_core.specs.LineGraph.{IsIn}
use Rattle.il_core.specs.Procedure.{instruction_of}
use Rattle.il_core.specs.declared.line.Line.{Line}
use Rattle.flow_graph.proofs.Members.{IsIn-push_cases}
use Rattle.info_flow.proofs.Listing.{ListsBelow, list_none, list_push, list_skip}
use Rattle.flow_slice.specs.declared.sliced.Fixed.{Fixed}

-- the instruction of one line
pub item_there : (lines : List Line) (k : ℕ) (line : Line) → k < length lines → line ≡ get_or lines k line → slice_get (map instruction_of lines) k ≡ Some (instruction_of line)
item_there lines k line l e = slice_get-map instruction_of lines k ∙ ap (option_map instruction_of) (slice_get_read lines (length lines) k line refl l e)

-- the tests below n with a property, each with its side
pub record FixedBelow (P : ℕ → Type 0) (side : ℕ → Bool) (n : ℕ) (fixed : List Fixed) : Type 0 where
  pub tests : ListsBelow P n (map (λ f. f.line) fixed)
  pub sides : (f : Fixed) → IsIn fixed f → f.taken ≡ side f.line

pub fixed_none : (P : ℕ → Type 0) (side : ℕ → Bool) → FixedBelow P side 0 []
fixed_none P side = record { tests = list_none P; sides = λ f i. absurd i }

pub fixed_push : (P : ℕ → Type 0) (side : ℕ → Bool) (n : ℕ) (fixed : List Fixed) (taken : Bool) → P n → taken ≡ side n → FixedBelow P side n fixed
    → FixedBelow P side (n + 1) (fixed ++ record { line = n; taken = taken } ∷ [])
fixed_push P side n fixed taken h e w = record {
  tests = rw map-append (list_push P n (map (λ f. f.line) fixed) h w.tests);
  sides = λ f i. elim (IsIn-push_cases fixed (record { line = n; taken = taken }) f i) [
    | inl old ↦ w.sides f old
    | inr same ↦ subst (λ (x : Fixed). x.taken ≡ side x.line) same e
  ];
}

pub fixed_skip : (P : ℕ → Type 0) (side : ℕ → Bool) (n : ℕ) (fixed : List Fixed) → (P n → ⊥) → FixedBelow P side n fixed → FixedBelow P side (n + 1) fixed
fixed_skip P side n fixed h w = record { tests = list_skip P n (map (λ f. f.line) fixed) h w.tests; sides = w.sides }
