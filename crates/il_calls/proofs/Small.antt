-- Names are short, numbers of 64 bits are small, and what each statement declares is both.
use Rattle.std.proofs.Common.{◌≡◌, ℕ, ◌<◌, ◌≤◌, ◌∙◌, sym, subst, true, List, length, arith, nat_le}
use Rattle.std.specs.Prelude.{Some, slice_get}
use Rattle.std.proofs.lemmas.Option.{same_Some, slice_get_within}
use Rattle.il_core.specs.Name.{is_name, is_word}
use Rattle.il_core.specs.Statement.{Placed}
use Rattle.il_types.specs.Names.{Setting}
use Rattle.il_built.specs.Holding.{setting_at}
use Rattle.il_built.proofs.BuiltSorts.{both_true}
use Rattle.call_sound.specs.Laws.{HaveShortNames, HaveSmallBounds}
use Rattle.il_calls.specs.Small.{IsSmall}

pub name_short : (name : List ℕ) → is_name name ≡ true → length name ≤ 40
name_short name h = at_most (length name) (both_true (nat_le (length name) 40) (is_word name) h).0
  where
    at_most : (n : ℕ) → nat_le n 40 ≡ true → n ≤ 40
    at_most n h = grind arith

-- statement i, where it is there
abbrev pub IsSmallAt : List Placed → ℕ → Type 0
IsSmallAt stmts i = (x : Placed) → slice_get stmts i ≡ Some x → IsSmall (setting_at stmts i) x.says

pub small_here : (stmts : List Placed) (i : ℕ) (x : Placed) (s : Setting) → slice_get stmts i ≡ Some x → s ≡ setting_at stmts i → IsSmall s x.says → IsSmallAt stmts i
small_here stmts i x s there at h y e = subst (λ (z : Placed). IsSmall (setting_at stmts i) z.says) (same_Some _ _ (sym there ∙ e)) (subst (λ (t : Setting). IsSmall t x.says) at h)

pub names_short : (stmts : List Placed) (n : ℕ) → length stmts ≤ n → ((i : ℕ) → i < n → IsSmallAt stmts i) → HaveShortNames stmts
names_short stmts n h each i m name used d =
    let inside = slice_get_within stmts i d.stmt d.there in
    (each i (omega arith) d.stmt d.there m name used d.says).0

pub bounds_small : (stmts : List Placed) (n : ℕ) → length stmts ≤ n → ((i : ℕ) → i < n → IsSmallAt stmts i) → HaveSmallBounds stmts
bounds_small stmts n h each i m name used d =
    let inside = slice_get_within stmts i d.stmt d.there in
    (each i (omega arith) d.stmt d.there m name used d.says).1
