-- What there is too much of, told by the counts and the extent, and what they come to where nothing is.
use Rattle.std.proofs.Common.{◌≡◌, ℕ, ◌+◌, ◌≤◌, ◌∙◌, sym, ap, refl, cond, Bool, true, false, List, [], length, arith, nat_lt}
use Rattle.std.specs.Prelude.{Option, Some, None, sum_by}
use Rattle.std.specs.Option.{option_map}
use Rattle.std.proofs.lemmas.List.Sums.{count_by-le-length}
use Rattle.std.proofs.lemmas.Option.{none-some}
use Rattle.il_core.specs.Statement.{Statement, Placed}
use Rattle.il_core.specs.declared.line.Place.{Place}
use Rattle.il_core.specs.declared.refusal.Code.TheVariants as code
use Rattle.il_core.specs.declared.refusal.Many.{Many}
use Rattle.il_core.specs.declared.refusal.Many.TheVariants as many
use Rattle.il_core.specs.declared.statement.Link.{Link}
use Rattle.il_types.specs.declared.counts.Counts.{Counts}
use Rattle.il_types.specs.declared.rules.Found.{Found}
use Rattle.il_types.specs.Counts.{counts_behind, too_many}
use Rattle.il_types.specs.Names.{counts_at}
use Rattle.il_types.specs.Rules.{unnamed}
use Rattle.il_built.proofs.VariablesCounted.{variables_to, variables_counted}
use Rattle.il_called.specs.Expansion.{is_returned, brings}
use Rattle.call_rules.specs.CalledText.{lines_before, callees_before}
use Rattle.call_rules.specs.Limits.{lines_in, widths_of, excess_at}
use Rattle.call_limits.specs.declared.extent.Extent.{Extent}
use Rattle.call_limits.specs.Measures.{IsSmall, IsWithin, measured, expanded, excess}
use Rattle.call_limits.proofs.Measured.{IsExtent}

abbrev found : Counts → Option Found
found c = option_map (λ m. unnamed (code.TooMany m)) (too_many c)

-- the pass finds what the counts and the extent tell
pub excess_is : (stmts : List Placed) (links : List Link) (i : ℕ) (x : Statement) (c : Counts) (e : Extent) → c ≡ counts_behind (counts_at stmts i) x
    → IsExtent stmts links c.procedures (i + 1) e → excess c e ≡ excess_at stmts links i x
excess_is stmts links i x c e same h =
    let cs = callees_before stmts links c.procedures in
    let ls = lines_before stmts links c.procedures (i + 1) in
    ap (λ n. found (record c { lines = n; copies = c.copies + e.brought })) h.lines
    ∙ ap (λ n. found (record c { lines = sum_by (lines_in (widths_of cs)) ls; copies = c.copies + n })) h.brought
    ∙ ap (λ (d : Counts). found (record d {
      lines = sum_by (lines_in (widths_of (callees_before stmts links d.procedures))) (lines_before stmts links d.procedures (i + 1));
      copies = d.copies + sum_by (brings (callees_before stmts links d.procedures)) (lines_before stmts links d.procedures (i + 1));
    })) same

none_found : (o : Option Many) → option_map (λ m. unnamed (code.TooMany m)) o ≡ None → o ≡ None
none_found None h = refl
none_found (Some m) h = cc

record AreFew (c : Counts) : Type 0 where
  lines : c.lines ≤ 1000
  places : c.variables + c.copies ≤ 64

not_above : (a b : ℕ) → nat_lt a b ≡ false → b ≤ a
not_above a b h = grind arith

few : (c : Counts) → too_many c ≡ None → AreFew c
few c h = by (nat_lt 64 c.procedures) (nat_lt 1000 c.lines) (nat_lt 64 (c.variables + c.copies)) refl refl h
  where
    by : (p l q : Bool) → nat_lt 1000 c.lines ≡ l → nat_lt 64 (c.variables + c.copies) ≡ q
        → cond p (Some many.Procedures) (cond l (Some many.Lines) (cond q (Some many.Places) None)) ≡ None → AreFew c
    by true l q e f g = absurd (none-some _ (sym g))
    by false true q e f g = absurd (none-some _ (sym g))
    by false false true e f g = absurd (none-some _ (sym g))
    by false false false e f g = record { lines = not_above 1000 c.lines e; places = not_above 64 (c.variables + c.copies) f }

-- where nothing is too much
pub stays_within : (stmts : List Placed) (n : ℕ) (c : Counts) (e : Extent) → c ≡ counts_at stmts n → n ≤ length stmts → excess c e ≡ None
    → IsExtent stmts [] (counts_at stmts n).procedures n e → IsWithin c e
stays_within stmts n c e same h none x =
    let owner = (counts_at stmts n).procedures in
    let f = few (expanded c e) (none_found (too_many (expanded c e)) none) in
    let lines : e.lines ≤ 1000 = f.lines in
    let places : c.variables + (c.copies + e.brought) ≤ 64 = f.places in
    let r = x.returned in
    let l = count_by-le-length (λ (v : Place). is_returned v.mode) (variables_to stmts owner n) in
    let v = (variables_counted stmts owner n h).variables refl in
    let s : c.variables ≡ (counts_at stmts n).variables = ap (λ (d : Counts). d.variables) same in
    record {
      lines = lines;
      returned = omega (arith, r, l, v, s, places);
      places = omega (arith, places);
    }

pub small_measures : (c : Counts) (e : Extent) → IsWithin c e → IsSmall (measured c e)
small_measures c e h =
    let p = h.places in
    let l = h.lines in
    let r = h.returned in
    record { width = omega (arith, p, l, r); places = omega (arith, p) }
