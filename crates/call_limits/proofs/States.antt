-- What has been kept of the procedures in front of a statement, with one statement more.
use Rattle.std.proofs.Common.{◌≡◌, ℕ, suc, ◌+◌, ◌<◌, ◌∙◌, sym, ap, subst, refl, cond, Bool, true, false, List, [], ◌∷◌, ◌++◌, length, arith, nat_eq}
use Rattle.std.specs.Prelude.{Some, None, map, slice_get}
use Rattle.std.specs.List.{All}
use Rattle.std.proofs.lemmas.List.{map-append}
use Rattle.std.proofs.lemmas.List.Elements.{All-nil, All-cons, All-append}
use Rattle.std.proofs.lemmas.Option.{slice_get_within}
use Rattle.il_core.specs.Statement.{Statement, Placed, procedure}
use Rattle.il_core.specs.declared.statement.Link.{Link}
use Rattle.il_types.specs.declared.counts.Counts.{Counts}
use Rattle.il_types.specs.Counts.{counts_behind}
use Rattle.il_types.specs.Names.{Setting, counts_at}
use Rattle.il_built.specs.Holding.{setting_at}
use Rattle.il_built.proofs.Given.{counts_next}
use Rattle.il_called.specs.Expansion.{Callee}
use Rattle.call_rules.specs.CalledText.{written_procedure, callees_before}
use Rattle.call_rules.specs.Limits.{widths_of, excess_at}
use Rattle.call_rules.specs.Parameters.{is_procedure}
use Rattle.call_limits.specs.declared.extent.Extent.{Extent}
use Rattle.call_limits.specs.declared.measures.Measures.{Measures}
use Rattle.call_limits.specs.Measures.{IsSmall, IsWithin, AreMeasures, no_extent, extent_behind, measured, table_behind, excess}
use Rattle.call_limits.proofs.Callees.{made, none_before, ended}
use Rattle.call_limits.proofs.Excess.{excess_is, stays_within, small_measures}
use Rattle.call_limits.proofs.Extents.{extent_next, extent_begins}
use Rattle.call_limits.proofs.Measured.{IsExtent, HasMeasures, measured_is}
use Rattle.call_limits.proofs.Widths.{widths_push}

-- the measures of the procedures before the latest one, and its extent in front of statement i
pub record IsKept (stmts : List Placed) (i : ℕ) (table : List Measures) (x : Extent) : Type 0 where
  pub are : (links : List Link) → AreMeasures (callees_before stmts links (counts_at stmts i).procedures) table
  pub extent : (links : List Link) → IsExtent stmts links (counts_at stmts i).procedures i x

pub record IsState (stmts : List Placed) (i : ℕ) (c : Counts) (table : List Measures) (x : Extent) : Type 0 where
  pub counts : c ≡ counts_at stmts i
  pub within : IsWithin c x
  pub small : All IsSmall table
  pub kept : IsKept stmts i table x

pub at_start : (stmts : List Placed) (c : Counts) (table : List Measures) (x : Extent) → c ≡ counts_at stmts 0 → table ≡ [] → x ≡ no_extent → IsState stmts 0 c table x
at_start stmts c table x same none e = record {
  counts = same;
  within = subst (λ (d : Counts). IsWithin d x) (sym same) (subst (λ (y : Extent). IsWithin (counts_at stmts 0) y) (sym e)
      (record { lines = omega arith; returned = omega arith; places = omega arith }));
  small = subst (All IsSmall) (sym none) (All-nil IsSmall);
  kept = record {
    are = λ links. subst (λ (l : List Callee). AreMeasures l table) (sym (none_before stmts links)) (subst (AreMeasures []) (sym none) (record { widths = refl; places = refl }));
    extent = λ links. subst (λ (y : Extent). IsExtent stmts links 0 0 y) (sym e) (record { lines = refl; returned = refl; brought = refl });
  };
}

counted : (stmts : List Placed) (i : ℕ) (x : Placed) → slice_get stmts i ≡ Some x → counts_at stmts (i + 1) ≡ counts_behind (counts_at stmts i) x.says
counted stmts i x there = let n : i + 1 ≡ suc i = omega arith in ap (counts_at stmts) n ∙ counts_next stmts i x there

-- the measures of one procedure more
measures_push : (cs : List Callee) (it : Callee) (table : List Measures) (m : Measures) → AreMeasures cs table → HasMeasures it (widths_of cs) m
    → AreMeasures (cs ++ it ∷ []) (table ++ m ∷ [])
measures_push cs it table m t h = record {
  widths = map-append (λ (m : Measures). m.width) table (m ∷ []) ∙ ap (λ ws. ws ++ m.width ∷ []) t.widths ∙ ap (λ n. widths_of cs ++ n ∷ []) (sym h.width) ∙ sym (widths_push cs it);
  places = map-append (λ (m : Measures). m.places) table (m ∷ []) ∙ ap (λ ns. ns ++ m.places ∷ []) t.places
      ∙ ap (λ n. map (λ (c : Callee). length c.expanded.places) cs ++ n ∷ []) (sym h.places) ∙ sym (map-append (λ (c : Callee). length c.expanded.places) cs (it ∷ []));
}

-- a procedure ends, or none has begun yet
table_begins : (stmts : List Placed) (links : List Link) (i : ℕ) (x : Placed) (opened : List ℕ) (c : Counts) (table : List Measures) (e : Extent) → slice_get stmts i ≡ Some x
    → x.says ≡ procedure opened → c ≡ counts_at stmts i → IsKept stmts i table e → (counts_at stmts (i + 1)).procedures ≡ (counts_at stmts i).procedures + 1
    → AreMeasures (callees_before stmts links ((counts_at stmts i).procedures + 1)) (table_behind table c e (procedure opened))
table_begins stmts links i x opened c table e there says same k next = by (nat_eq c.procedures 0) refl
  where
    owner : c.procedures ≡ (counts_at stmts i).procedures
    owner = ap (λ (d : Counts). d.procedures) same

    is_zero : (n : ℕ) → nat_eq n 0 ≡ true → n ≡ 0
    is_zero n h = grind arith

    is_some : (n : ℕ) → nat_eq n 0 ≡ false → 0 < n
    is_some n h = grind arith

    by : (b : Bool) → nat_eq c.procedures 0 ≡ b → AreMeasures (callees_before stmts links ((counts_at stmts i).procedures + 1)) (cond b table (table ++ measured c e ∷ []))
    by true z =
        let n : (counts_at stmts i).procedures ≡ 0 = sym owner ∙ is_zero c.procedures z in
        subst (λ o. AreMeasures (callees_before stmts links (o + 1)) table) (sym n) (subst (λ o. AreMeasures (callees_before stmts links o) table) n (k.are links))
    by false z =
        let n : 0 < (counts_at stmts i).procedures = subst (λ m. 0 < m) owner (is_some c.procedures z) in
        let d = ended stmts links i (counts_at stmts i).procedures x opened there says refl n in
        let cs = callees_before stmts links (counts_at stmts i).procedures in
        let it = made cs (written_procedure stmts links (counts_at stmts i).procedures d.name) in
        let m = measured_is stmts links (counts_at stmts i).procedures i x opened d.name e there says refl (omega (arith, next)) (k.extent links) in
        subst (λ l. AreMeasures l (table ++ measured c e ∷ [])) (sym d.before)
        (subst (λ (d : Counts). AreMeasures (cs ++ it ∷ []) (table ++ measured d e ∷ [])) (sym same) (measures_push cs it table (measured (counts_at stmts i) e) (k.are links) m))

pub moved : (stmts : List Placed) (i : ℕ) (x : Placed) (c : Counts) (table more : List Measures) (e new : Extent) → slice_get stmts i ≡ Some x → IsState stmts i c table e
    → more ≡ table_behind table c e x.says → new ≡ extent_behind more (setting_at stmts i) e x.says → IsKept stmts (i + 1) more new
moved stmts i x c table more e new there s t g = by x.says refl t g
  where
    inside : i < length stmts
    inside = slice_get_within stmts i x there

    by : (says : Statement) → x.says ≡ says → more ≡ table_behind table c e says → new ≡ extent_behind more (setting_at stmts i) e says → IsKept stmts (i + 1) more new
    by (procedure opened) is t g =
        let next : (counts_at stmts (i + 1)).procedures ≡ (counts_at stmts i).procedures + 1 =
        ap (λ (d : Counts). d.procedures) (counted stmts i x there ∙ ap (counts_behind (counts_at stmts i)) is) in
        record {
          are = λ links. subst (AreMeasures (callees_before stmts links (counts_at stmts (i + 1)).procedures)) (sym t)
              (subst (λ o. AreMeasures (callees_before stmts links o) (table_behind table c e (procedure opened))) (sym next)
              (table_begins stmts links i x opened c table e there is s.counts s.kept next));
          extent = λ links. subst (λ (y : Extent). IsExtent stmts links (counts_at stmts (i + 1)).procedures (i + 1) y) (sym g)
              (extent_begins stmts links (counts_at stmts (i + 1)).procedures i inside (omega (arith, next)));
        }
    by says is t g =
        let next : (counts_at stmts (i + 1)).procedures ≡ (counts_at stmts i).procedures =
        ap (λ (d : Counts). d.procedures) (counted stmts i x there ∙ ap (counts_behind (counts_at stmts i)) is) in
        let still : (links : List Link) → AreMeasures (callees_before stmts links (counts_at stmts i).procedures) more =
        λ links. subst (AreMeasures (callees_before stmts links (counts_at stmts i).procedures)) (sym t) (s.kept.are links) in
        let made_of : extent_behind more (setting_at stmts i) e x.says ≡ new = ap (extent_behind more (setting_at stmts i) e) is ∙ sym g in
        record {
          are = λ links. subst (λ o. AreMeasures (callees_before stmts links o) more) (sym next) (still links);
          extent = λ links.
              let one = extent_next stmts links i more e x there (still links) (ap is_procedure is) (s.kept.extent links) in
              subst (λ o. IsExtent stmts links o (i + 1) new) (sym next) (subst (λ (y : Extent). IsExtent stmts links (counts_at stmts i).procedures (i + 1) y) made_of one);
        }

-- the table stays small
small_behind : (c : Counts) (table : List Measures) (e : Extent) (says : Statement) → IsWithin c e → All IsSmall table → All IsSmall (table_behind table c e says)
small_behind c table e (procedure opened) w h = by (nat_eq c.procedures 0)
  where
    by : (b : Bool) → All IsSmall (cond b table (table ++ measured c e ∷ []))
    by true = h
    by false = All-append IsSmall table (measured c e ∷ []) h (All-cons IsSmall (measured c e) [] (small_measures c e w) (All-nil IsSmall))
small_behind c table e says w h = h

pub still_small : (stmts : List Placed) (i : ℕ) (c : Counts) (table more : List Measures) (e : Extent) (says : Statement) → IsState stmts i c table e
    → more ≡ table_behind table c e says → All IsSmall more
still_small stmts i c table more e says s t = subst (All IsSmall) (sym t) (small_behind c table e says s.within s.small)

-- a statement behind which nothing is too much
pub state_next : (stmts : List Placed) (i : ℕ) (x : Placed) (c behind : Counts) (table more : List Measures) (e new : Extent) → slice_get stmts i ≡ Some x → IsState stmts i c table e
    → more ≡ table_behind table c e x.says → new ≡ extent_behind more (setting_at stmts i) e x.says → behind ≡ counts_behind c x.says → excess behind new ≡ None
    → IsState stmts (i + 1) behind more new
state_next stmts i x c behind table more e new there s t g n none =
    let k = moved stmts i x c table more e new there s t g in
    let inside = slice_get_within stmts i x there in
    let same : behind ≡ counts_at stmts (i + 1) = n ∙ ap (λ (d : Counts). counts_behind d x.says) s.counts ∙ sym (counted stmts i x there) in
    record {
      counts = same;
      within = stays_within stmts (i + 1) behind new same (omega arith) none (k.extent []);
      small = still_small stmts i c table more e x.says s t;
      kept = k;
    }

-- what the counts and the extent behind a statement tell is what the pass finds there
pub found_is : (stmts : List Placed) (links : List Link) (i : ℕ) (x : Placed) (c behind : Counts) (table more : List Measures) (e new : Extent) → slice_get stmts i ≡ Some x
    → IsState stmts i c table e → more ≡ table_behind table c e x.says → new ≡ extent_behind more (setting_at stmts i) e x.says → behind ≡ counts_behind c x.says
    → excess behind new ≡ excess_at stmts links i x.says
found_is stmts links i x c behind table more e new there s t g n =
    let k = moved stmts i x c table more e new there s t g in
    let first : behind ≡ counts_behind (counts_at stmts i) x.says = n ∙ ap (λ (d : Counts). counts_behind d x.says) s.counts in
    let same : behind ≡ counts_at stmts (i + 1) = first ∙ sym (counted stmts i x there) in
    excess_is stmts links i x.says behind new first (subst (λ (d : Counts). IsExtent stmts links d.procedures (i + 1) new) (sym same) (k.extent links))

-- a statement, its setting and the table as they are read
pub extent_read : (stmts : List Placed) (i : ℕ) (slice more : List Measures) (here : Setting) (e new : Extent) (says : Statement) → slice ≡ more → here ≡ setting_at stmts i
    → new ≡ extent_behind slice here e says → new ≡ extent_behind more (setting_at stmts i) e says
extent_read stmts i slice more here e new says a b g = g ∙ ap (λ t. extent_behind t here e says) a ∙ ap (λ (s : Setting). extent_behind more s e says) b
