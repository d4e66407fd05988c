-- A CALL fits where its procedure's longest name tells so.
use Rattle.std.proofs.Common.{◌≡◌, ℕ, ◌+◌, ◌-◌, ◌∙◌, sym, ap, refl, Bool, false, ◌&&◌, List, count_by}
use Rattle.std.specs.Prelude.{Option, Some, None, is_some, slice_get}
use Rattle.std.specs.List.{list_all}
use Rattle.std.specs.Option.{option_and_then}
use Rattle.il_core.specs.Statement.{Statement, Placed, call}
use Rattle.il_core.specs.declared.refusal.Code.TheVariants as code
use Rattle.il_core.specs.declared.statement.Link.{Link}
use Rattle.il_types.specs.Names.{Setting, counts_at}
use Rattle.il_types.specs.Rules.{unless}
use Rattle.il_built.specs.Holding.{setting_at}
use Rattle.il_called.specs.Expansion.{Callee, is_call}
use Rattle.call_rules.specs.Callee.{procedure_named, parameters_named}
use Rattle.call_rules.specs.CalledText.{callees_before, lines_before}
use Rattle.call_rules.specs.Clash.{new_names_of}
use Rattle.call_rules.specs.Fits.{is_short, fit_parameters, misfit_at}
use Rattle.call_fits.specs.declared.longest.Latest.{Latest}
use Rattle.call_fits.specs.Longest.{AreLongest, is_short_behind, front_length, misfit}
use Rattle.call_fits.specs.Longest as longest
use Rattle.call_fits.proofs.Short.{AgreesWith, longest_at, names_brought}
use Rattle.call_fits.proofs.States.{IsKept}

by_callee : (k : ℕ) (fit : Bool) (p : Option Callee) (o : Option (Option ℕ)) → AgreesWith p o
    → (elim o [ None ↦ false | Some l ↦ fit && is_short_behind (front_length k) l ]) ≡ (is_some p && (fit && list_all is_short (new_names_of k p)))
by_callee k fit None None h = refl
by_callee k fit None (Some o) h = absurd h
by_callee k fit (Some it) None h = absurd h
by_callee k fit (Some it) (Some o) h = ap (λ b. fit && b) (sym (names_brought k it.expanded.places ∙ h.each (front_length k)))

fits_is : (cs : List Callee) (table : List (Option ℕ)) (k : ℕ) (fit : Bool) (c : Option ℕ) → AreLongest cs table
    → (elim (option_and_then (λ n. slice_get table (n - 1)) c) [ None ↦ false | Some l ↦ fit && is_short_behind (front_length k) l ])
    ≡ (is_some (option_and_then (λ n. slice_get cs (n - 1)) c) && (fit && list_all is_short (new_names_of k (option_and_then (λ n. slice_get cs (n - 1)) c))))
fits_is cs table k fit None h = refl
fits_is cs table k fit (Some n) h = by_callee k fit (slice_get cs (n - 1)) (slice_get table (n - 1)) (longest_at cs table (n - 1) h)

misfit_is : (stmts : List Placed) (links : List Link) (i : ℕ) (table : List (Option ℕ)) (x : Latest) (says : Statement) → IsKept stmts i table x
    → misfit table (setting_at stmts i) x.calls says ≡ misfit_at stmts links i says
misfit_is stmts links i table x (call name arguments) k =
    let s = setting_at stmts i in
    ap (λ n. unless (longest.fits table s n name arguments) code.BadCall) (k.named links).calls
    ∙ ap (λ b. unless b code.BadCall) (fits_is (callees_before stmts links (counts_at stmts i).procedures) table
    (count_by is_call (lines_before stmts links (counts_at stmts i).procedures i) + 1)
    (fit_parameters (parameters_named s name) arguments) (procedure_named s name) (k.are links))
misfit_is stmts links i table x says k = refl

-- what is found with the table and the setting as they are read
pub found_is : (stmts : List Placed) (links : List Link) (i : ℕ) (slice table : List (Option ℕ)) (here : Setting) (x : Latest) (says : Statement) → IsKept stmts i table x
    → slice ≡ table → here ≡ setting_at stmts i → misfit slice here x.calls says ≡ misfit_at stmts links i says
found_is stmts links i slice table here x says k a b =
    ap (λ t. misfit t here x.calls says) a ∙ ap (λ (s : Setting). misfit table s x.calls says) b ∙ misfit_is stmts links i table x says k
