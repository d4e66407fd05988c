-- What has been kept of the procedures in front of a statement, with one statement more.
use Rattle.std.proofs.Common.{◌≡◌, ℕ, suc, ◌+◌, ◌<◌, ◌∙◌, sym, ap, subst, refl, cond, Bool, true, false, ◌&&◌, List, [], ◌∷◌, ◌++◌, length, drop, arith, nat_eq}
use Rattle.std.specs.Prelude.{Option, Some, map, slice_get, filter}
use Rattle.std.proofs.lemmas.Option.{slice_get_within}
use Rattle.il_core.specs.Checked.{old_copy, is_copied}
use Rattle.il_core.specs.Statement.{Statement, Placed, procedure}
use Rattle.il_core.specs.declared.statement.Link.{Link}
use Rattle.il_types.specs.declared.counts.Counts.{Counts}
use Rattle.il_types.specs.Counts.{counts_behind}
use Rattle.il_types.specs.Names.{Setting, counts_at}
use Rattle.il_built.specs.CheckedText.{declared_place, variables_of, places_of}
use Rattle.il_built.specs.Holding.{setting_at}
use Rattle.il_built.proofs.Given.{counts_next}
use Rattle.il_built.proofs.VariablesCounted.{variables_to}
use Rattle.il_called.specs.Expansion.{Callee, variables_in, each_from}
use Rattle.il_called.specs.Expansion as expansion
use Rattle.call_rules.specs.CalledText.{written_procedure, written_lines, lines_before, callees_before}
use Rattle.call_rules.specs.Parameters.{is_procedure}
use Rattle.call_limits.proofs.Callees.{made, none_before, ended}
use Rattle.call_limits.proofs.Measured.{whole}
use Rattle.call_limits.proofs.Variables.{variables_are, copies_behind}
use Rattle.call_fits.specs.declared.longest.Latest.{Latest}
use Rattle.call_fits.specs.Longest.{are_short_behind, IsLongest, AreLongest, nothing_yet, latest_behind, table_behind}
use Rattle.call_fits.proofs.Short.{short_append, copies_short, longest_push}
use Rattle.call_fits.proofs.Brought.{brought_from, all_brought}
use Rattle.call_fits.proofs.Named.{IsNamed, named_next, named_begins}

-- the longest names of the procedures before the latest one, and what is kept of that, in front of statement i
pub record IsKept (stmts : List Placed) (i : ℕ) (table : List (Option ℕ)) (x : Latest) : Type 0 where
  pub are : (links : List Link) → AreLongest (callees_before stmts links (counts_at stmts i).procedures) table
  pub named : (links : List Link) → IsNamed stmts links (counts_at stmts i).procedures i x

pub at_start : (stmts : List Placed) (table : List (Option ℕ)) (x : Latest) → table ≡ [] → x ≡ nothing_yet → IsKept stmts 0 table x
at_start stmts table x none e = record {
  are = λ links. subst (λ (l : List Callee). AreLongest l table) (sym (none_before stmts links)) (subst (AreLongest []) (sym none) tt);
  named = λ links. subst (λ (y : Latest). IsNamed stmts links 0 0 y) (sym e) (record { calls = refl; longest = λ front. refl });
}

counted : (stmts : List Placed) (i : ℕ) (x : Placed) → slice_get stmts i ≡ Some x → counts_at stmts (i + 1) ≡ counts_behind (counts_at stmts i) x.says
counted stmts i x there = let n : i + 1 ≡ suc i = omega arith in ap (counts_at stmts) n ∙ counts_next stmts i x there

-- what follows from the first adds nothing
implied : (a b d : Bool) → (a ≡ true → d ≡ true) → ((a && b) && d) ≡ (a && b)
implied true true d h = h refl
implied true false d h = refl
implied false b d h = refl

-- the procedure that ends has the longest name that is kept
longest_is : (stmts : List Placed) (links : List Link) (owner i : ℕ) (x : Placed) (opened name : List ℕ) (latest : Latest) → slice_get stmts i ≡ Some x
    → x.says ≡ procedure opened → (counts_at stmts i).procedures ≡ owner → owner < (counts_at stmts (i + 1)).procedures → IsNamed stmts links owner i latest
    → IsLongest (made (callees_before stmts links owner) (written_procedure stmts links owner name)).expanded.places latest.longest
longest_is stmts links owner i x opened name latest there says own next h =
    let cs = callees_before stmts links owner in
    let w = written_procedure stmts links owner name in
    let vs : variables_of stmts owner ≡ variables_to stmts owner i =
    whole (λ k y. declared_place (setting_at stmts k) y) stmts owner i x there own next (ap (declared_place (setting_at stmts i)) says) in
    let ls : lines_before stmts links owner (length stmts) ≡ lines_before stmts links owner i =
    whole (written_lines stmts links owner) stmts owner i x there own next (ap (written_lines stmts links owner i) says) in
    let a = variables_in (places_of stmts owner) in
    let b = each_from (expansion.places_of cs w) 0 w.lines in
    let d = drop (length (variables_in (places_of stmts owner))) (places_of stmts owner) in
    let variables : a ≡ variables_to stmts owner i = variables_are stmts owner ∙ vs in
    let between : b ≡ brought_from cs 0 (lines_before stmts links owner i) = all_brought cs w ∙ ap (brought_from cs 0) ls in
    let copies : d ≡ map old_copy (filter is_copied (variables_to stmts owner i)) = copies_behind stmts owner ∙ ap (λ ps. map old_copy (filter is_copied ps)) vs in
    let front_places = brought_from cs 0 (lines_before stmts links owner i) in
    record {
      each = λ front. short_append front (a ++ b) d ∙ ap (λ t. t && are_short_behind front d) (short_append front a b)
          ∙ ap (λ ps. (are_short_behind front ps && are_short_behind front b) && are_short_behind front d) variables
          ∙ ap (λ ps. (are_short_behind front (variables_to stmts owner i) && are_short_behind front ps) && are_short_behind front d) between
          ∙ ap (λ ps. (are_short_behind front (variables_to stmts owner i) && are_short_behind front front_places) && are_short_behind front ps) copies
          ∙ implied (are_short_behind front (variables_to stmts owner i)) (are_short_behind front front_places)
          (are_short_behind front (map old_copy (filter is_copied (variables_to stmts owner i)))) (copies_short front (variables_to stmts owner i))
          ∙ sym (h.longest front);
    }

-- a procedure ends, or none has begun yet
table_begins : (stmts : List Placed) (links : List Link) (i : ℕ) (x : Placed) (opened : List ℕ) (procedures : ℕ) (table : List (Option ℕ)) (e : Latest) → slice_get stmts i ≡ Some x
    → x.says ≡ procedure opened → procedures ≡ (counts_at stmts i).procedures → IsKept stmts i table e → (counts_at stmts (i + 1)).procedures ≡ (counts_at stmts i).procedures + 1
    → AreLongest (callees_before stmts links ((counts_at stmts i).procedures + 1)) (table_behind table procedures e (procedure opened))
table_begins stmts links i x opened procedures table e there says owner k next = by (nat_eq procedures 0) refl
  where
    is_zero : (n : ℕ) → nat_eq n 0 ≡ true → n ≡ 0
    is_zero n h = grind arith

    is_some : (n : ℕ) → nat_eq n 0 ≡ false → 0 < n
    is_some n h = grind arith

    by : (b : Bool) → nat_eq procedures 0 ≡ b → AreLongest (callees_before stmts links ((counts_at stmts i).procedures + 1)) (cond b table (table ++ e.longest ∷ []))
    by true z =
        let n : (counts_at stmts i).procedures ≡ 0 = sym owner ∙ is_zero procedures z in
        subst (λ o. AreLongest (callees_before stmts links (o + 1)) table) (sym n) (subst (λ o. AreLongest (callees_before stmts links o) table) n (k.are links))
    by false z =
        let n : 0 < (counts_at stmts i).procedures = subst (λ m. 0 < m) owner (is_some procedures z) in
        let d = ended stmts links i (counts_at stmts i).procedures x opened there says refl n in
        let cs = callees_before stmts links (counts_at stmts i).procedures in
        let it = made cs (written_procedure stmts links (counts_at stmts i).procedures d.name) in
        let m = longest_is stmts links (counts_at stmts i).procedures i x opened d.name e there says refl (omega (arith, next)) (k.named links) in
        subst (λ l. AreLongest l (table ++ e.longest ∷ [])) (sym d.before) (longest_push cs table it e.longest (k.are links) m)

-- one statement more
pub kept_next : (stmts : List Placed) (i : ℕ) (x : Placed) (procedures : ℕ) (table more : List (Option ℕ)) (e new : Latest) → slice_get stmts i ≡ Some x
    → procedures ≡ (counts_at stmts i).procedures → IsKept stmts i table e → more ≡ table_behind table procedures e x.says
    → new ≡ latest_behind more (setting_at stmts i) e x.says → IsKept stmts (i + 1) more new
kept_next stmts i x procedures table more e new there same s t g = by x.says refl t g
  where
    inside : i < length stmts
    inside = slice_get_within stmts i x there

    by : (says : Statement) → x.says ≡ says → more ≡ table_behind table procedures e says → new ≡ latest_behind more (setting_at stmts i) e says → IsKept stmts (i + 1) more new
    by (procedure opened) is t g =
        let next : (counts_at stmts (i + 1)).procedures ≡ (counts_at stmts i).procedures + 1 =
        ap (λ (d : Counts). d.procedures) (counted stmts i x there ∙ ap (counts_behind (counts_at stmts i)) is) in
        record {
          are = λ links. subst (AreLongest (callees_before stmts links (counts_at stmts (i + 1)).procedures)) (sym t)
              (subst (λ o. AreLongest (callees_before stmts links o) (table_behind table procedures e (procedure opened))) (sym next)
              (table_begins stmts links i x opened procedures table e there is same s next));
          named = λ links. subst (λ (y : Latest). IsNamed stmts links (counts_at stmts (i + 1)).procedures (i + 1) y) (sym g)
              (named_begins stmts links (counts_at stmts (i + 1)).procedures i inside (omega (arith, next)));
        }
    by says is t g =
        let next : (counts_at stmts (i + 1)).procedures ≡ (counts_at stmts i).procedures =
        ap (λ (d : Counts). d.procedures) (counted stmts i x there ∙ ap (counts_behind (counts_at stmts i)) is) in
        let still : (links : List Link) → AreLongest (callees_before stmts links (counts_at stmts i).procedures) more =
        λ links. subst (AreLongest (callees_before stmts links (counts_at stmts i).procedures)) (sym t) (s.are links) in
        let made_of : latest_behind more (setting_at stmts i) e x.says ≡ new = ap (latest_behind more (setting_at stmts i) e) is ∙ sym g in
        record {
          are = λ links. subst (λ o. AreLongest (callees_before stmts links o) more) (sym next) (still links);
          named = λ links.
              let one = named_next stmts links i more e x there (still links) (ap is_procedure is) (s.named links) in
              subst (λ o. IsNamed stmts links o (i + 1) new) (sym next) (subst (λ (y : Latest). IsNamed stmts links (counts_at stmts i).procedures (i + 1) y) made_of one);
        }

-- a statement, its setting and the table as they are read
pub latest_read : (stmts : List Placed) (i : ℕ) (slice more : List (Option ℕ)) (here : Setting) (e new : Latest) (says : Statement) → slice ≡ more → here ≡ setting_at stmts i
    → new ≡ latest_behind slice here e says → new ≡ latest_behind more (setting_at stmts i) e says
latest_read stmts i slice more here e new says a b g = g ∙ ap (λ t. latest_behind t here e says) a ∙ ap (λ (s : Setting). latest_behind more s e says) b
