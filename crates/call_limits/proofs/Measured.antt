-- The measures of a procedure are those that its counts and its extent tell behind its last statement.
use Rattle.std.proofs.Common.{◌≡◌, ℕ, ◌+◌, ◌<◌, ◌∙◌, sym, ap, List, [], ◌++◌, length, drop, arith, append-nil}
use Rattle.std.specs.Prelude.{Some, filter, count_by, sum_by, slice_get}
use Rattle.std.proofs.lemmas.List.{length-append, length-map}
use Rattle.std.proofs.lemmas.Option.{slice_get_within}
use Rattle.il_core.specs.Checked.{old_copy, is_copied}
use Rattle.il_core.specs.Run.{inout_from}
use Rattle.il_core.specs.Statement.{Statement, Placed, procedure}
use Rattle.il_core.specs.declared.line.Place.{Place}
use Rattle.il_core.specs.declared.statement.Link.{Link}
use Rattle.il_types.specs.Names.{counts_at}
use Rattle.il_built.specs.CheckedText.{given, declared_place, variables_of, places_of}
use Rattle.il_built.specs.Holding.{setting_at}
use Rattle.il_built.proofs.Given.{given_by}
use Rattle.il_built.proofs.VariablesCounted.{variables_to, variables_counted}
use Rattle.il_called.specs.Expansion.{Callee, is_returned, variables_in, each_from, brings}
use Rattle.il_called.specs.Expansion as expansion
use Rattle.call_rules.specs.CalledText.{written_procedure, written_lines, lines_before, callees_before}
use Rattle.call_rules.specs.Limits.{lines_in, counted_width, widths_of}
use Rattle.call_limits.specs.declared.extent.Extent.{Extent}
use Rattle.call_limits.specs.declared.measures.Measures.{Measures}
use Rattle.call_limits.specs.Measures.{measured}
use Rattle.call_limits.proofs.Callees.{made}
use Rattle.call_limits.proofs.Passed.{all_given, given_more}
use Rattle.call_limits.proofs.Variables.{variables_are, copies_are, copies_behind}
use Rattle.call_limits.proofs.Widths.{length_places}

-- the extent of a procedure whose first statements have been gone through
pub record IsExtent (stmts : List Placed) (links : List Link) (owner n : ℕ) (x : Extent) : Type 0 where
  pub lines : x.lines ≡ sum_by (lines_in (widths_of (callees_before stmts links owner))) (lines_before stmts links owner n)
  pub returned : x.returned ≡ count_by (λ v. is_returned v.mode) (variables_to stmts owner n)
  pub brought : x.brought ≡ sum_by (brings (callees_before stmts links owner)) (lines_before stmts links owner n)

-- a statement that begins the next procedure, and gives nothing to the one in front of it
pub whole : {A : Type 0} (give : ℕ → Statement → List A) (stmts : List Placed) (owner i : ℕ) (x : Placed) → slice_get stmts i ≡ Some x
    → (counts_at stmts i).procedures ≡ owner → owner < (counts_at stmts (i + 1)).procedures → give i x.says ≡ [] → given give stmts owner ≡ given_by give stmts owner i
whole give stmts owner i x there own next none =
    let within = slice_get_within stmts i x there in
    all_given give stmts owner (i + 1) (omega arith) next ∙ given_more give stmts owner i x there own
    ∙ ap (λ xs. given_by give stmts owner i ++ xs) none ∙ append-nil (given_by give stmts owner i)

-- the procedure that ends counts as its measures tell
pub record HasMeasures (it : Callee) (widths : List ℕ) (m : Measures) : Type 0 where
  pub width : counted_width widths it ≡ m.width
  pub places : length it.expanded.places ≡ m.places

pub measured_is : (stmts : List Placed) (links : List Link) (owner i : ℕ) (x : Placed) (opened name : List ℕ) (extent : Extent) → slice_get stmts i ≡ Some x
    → x.says ≡ procedure opened → (counts_at stmts i).procedures ≡ owner → owner < (counts_at stmts (i + 1)).procedures → IsExtent stmts links owner i extent
    → HasMeasures (made (callees_before stmts links owner) (written_procedure stmts links owner name)) (widths_of (callees_before stmts links owner)) (measured (counts_at stmts i) extent)
measured_is stmts links owner i x opened name extent there says own next h =
    let c = counts_at stmts i in
    let cs = callees_before stmts links owner in
    let w = written_procedure stmts links owner name in
    let it = made cs w in
    let within = slice_get_within stmts i x there in
    let vs : variables_of stmts owner ≡ variables_to stmts owner i =
    whole (λ k y. declared_place (setting_at stmts k) y) stmts owner i x there own next (ap (declared_place (setting_at stmts i)) says) in
    let ls : lines_before stmts links owner (length stmts) ≡ lines_before stmts links owner i =
    whole (written_lines stmts links owner) stmts owner i x there own next (ap (written_lines stmts links owner i) says) in
    let counted = variables_counted stmts owner i (omega (arith, within)) in
    let many : length (variables_in (places_of stmts owner)) ≡ c.variables = ap length (variables_are stmts owner ∙ vs) ∙ counted.variables own in
    let more : length (filter is_copied (variables_of stmts owner)) ≡ c.copies = ap (λ ps. length (filter is_copied ps)) vs ∙ counted.copies own in
    let entry : length (variables_in (places_of stmts owner)) + length (inout_from 0 (places_of stmts owner)) ≡ c.variables + c.copies =
    ap (λ n. n + length (inout_from 0 (places_of stmts owner))) many ∙ ap (λ n. c.variables + n) (copies_are stmts owner ∙ more) in
    let lines : sum_by (lines_in (widths_of cs)) (lines_before stmts links owner (length stmts)) ≡ extent.lines = ap (sum_by (lines_in (widths_of cs))) ls ∙ sym h.lines in
    let returned : count_by (λ v. is_returned v.mode) (variables_in (places_of stmts owner)) ≡ extent.returned =
    ap (count_by (λ (v : Place). is_returned v.mode)) (variables_are stmts owner ∙ vs) ∙ sym h.returned in
    let a = variables_in (places_of stmts owner) in
    let b = each_from (expansion.places_of cs w) 0 w.lines in
    let d = drop (length (variables_in (places_of stmts owner))) (places_of stmts owner) in
    let behind : length d ≡ c.copies = ap length (copies_behind stmts owner) ∙ length-map (filter is_copied (variables_of stmts owner)) old_copy ∙ more in
    let between : length b ≡ extent.brought = length_places cs w ∙ ap (sum_by (brings cs)) ls ∙ sym h.brought in
    let fronts : length (a ++ b) ≡ c.variables + extent.brought = length-append a b ∙ ap (λ n. n + length b) many ∙ ap (λ n. c.variables + n) between in
    record {
      width = ap (λ n. n + sum_by (lines_in (widths_of cs)) (lines_before stmts links owner (length stmts)) + count_by (λ v. is_returned v.mode) (variables_in (places_of stmts owner))) entry
          ∙ ap (λ n. c.variables + c.copies + n + count_by (λ v. is_returned v.mode) (variables_in (places_of stmts owner))) lines
          ∙ ap (λ n. c.variables + c.copies + extent.lines + n) returned;
      places = length-append (a ++ b) d ∙ ap (λ n. n + length d) fronts ∙ ap (λ n. c.variables + extent.brought + n) behind;
    }
