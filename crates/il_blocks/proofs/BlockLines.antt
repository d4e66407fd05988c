-- The line of each statement and of the next ENDPROC behind it, statement by statement.
use Rattle.std.proofs.Common.{◌≡◌, ◌+◌, ◌<◌, ◌≤◌, nat_eq, ℕ, zero, suc, Bool, true, false, List, [], ◌∷◌, ◌++◌, length, take, drop, slice_get, get_or, set, refl, sym, ◌∙◌, ap, arith, if◌then◌else◌}
use Rattle.std.specs.Prelude.{Option, Some, None}
use Rattle.std.proofs.lemmas.List.{length-append, length-set, get_or_append_left, get_or_push, get_or-set_same, get_or-set_other}
use Rattle.std.proofs.lemmas.Bool.Decides.{Decides-eqb}
use Rattle.std.proofs.Math.Seq.{drop-length}
use borrow.Author.Count.{below_more}
use Rattle.il_core.specs.Statement.{Placed}
use Rattle.il_blocks.specs.BlockLink.{line_behind, next_line, line, is_end, end_line}
use Rattle.il_blocks.specs.BlockTable.{AreLines, AreReturns}
use Rattle.il_blocks.proofs.BlockPlaces.{take_next}

not_some : {A : Type 0} (x : A) → ◌≡◌ {A = Option A} None (Some x) → ⊥
not_some x e = cc

next_behind : (n : ℕ) (xs : List Placed) (s : Placed) → next_line n (xs ++ s ∷ []) ≡ line_behind (next_line n xs) s.says
next_behind n [] s = refl
next_behind n (x ∷ xs) s = next_behind (line_behind n x.says) xs s

-- the line of the next statement
pub line_next : (ss : List Placed) (i : ℕ) (s : Placed) → slice_get ss i ≡ Some s → line ss (i + 1) ≡ line_behind (line ss i) s.says
line_next ss i s at =
    let e : i + 1 ≡ suc i = omega arith in
    ap (λ (n : ℕ). next_line 0 (take n ss)) e ∙ ap (next_line 0) (take_next ss i s at) ∙ next_behind 0 (take i ss) s

-- the lines of the first n statements
pub record LinesSoFar (ss : List Placed) (n : ℕ) (lines : List ℕ) : Type 0 where
  pub long : length lines ≡ n
  pub each : (i : ℕ) → i < n → get_or lines i 0 ≡ line ss i

pub lines_more : (ss : List Placed) (n next : ℕ) (lines : List ℕ) → LinesSoFar ss n lines → next ≡ line ss n → LinesSoFar ss (n + 1) (lines ++ next ∷ [])
lines_more ss n next lines f e = record {
  long = length-append lines (next ∷ []) ∙ ap (λ (k : ℕ). k + 1) f.long;
  each = below_more (λ (i : ℕ). get_or (lines ++ next ∷ []) i 0 ≡ line ss i) n
      (λ i h. let within : i < length lines = omega (arith, f.long) in get_or_append_left lines (next ∷ []) 0 i within ∙ f.each i h)
      (get_or_push lines next 0 n f.long ∙ e);
}

pub lines_whole : (ss : List Placed) (lines : List ℕ) → LinesSoFar ss (length ss + 1) lines → AreLines ss lines
lines_whole ss lines f = record { long = f.long; each = λ i h. let k : i < length ss + 1 = omega arith in f.each i k }

-- what stands at a number and behind it
drop_here : (ss : List Placed) (i : ℕ) (s : Placed) → slice_get ss i ≡ Some s → drop i ss ≡ s ∷ drop (suc i) ss
drop_here [] i s e = absurd (not_some s e)
drop_here (x ∷ xs) zero s e = let f : x ≡ s = cc in ap (λ (y : Placed). y ∷ xs) f
drop_here (x ∷ xs) (suc i) s e = drop_here xs i s e

-- the ENDPROC behind a statement
pub end_next : (ss : List Placed) (i : ℕ) (s : Placed) → slice_get ss i ≡ Some s
    → end_line (line ss i) (drop i ss) ≡ (if is_end s.says then line ss i else end_line (line ss (i + 1)) (drop (i + 1) ss))
end_next ss i s at =
    let one : suc i ≡ i + 1 = omega arith in
    ap (end_line (line ss i)) (drop_here ss i s at)
    ∙ ap (λ (n : ℕ). if is_end s.says then line ss i else end_line n (drop (suc i) ss)) (sym (line_next ss i s at))
    ∙ ap (λ (n : ℕ). if is_end s.says then line ss i else end_line (line ss (i + 1)) (drop n ss)) one

-- the ENDPROC behind each statement from the one numbered n on, and behind that one
pub record ReturnsFrom (ss : List Placed) (n : ℕ) (end : ℕ) (returns : List ℕ) : Type 0 where
  pub long : length returns ≡ length ss
  pub next : end ≡ end_line (line ss n) (drop n ss)
  pub each : (i : ℕ) → n ≤ i → i < length ss → get_or returns i 0 ≡ end_line (line ss i) (drop i ss)

pub returns_start : (ss : List Placed) (end : ℕ) (returns : List ℕ) → length returns ≡ length ss → end ≡ line ss (length ss) → ReturnsFrom ss (length ss) end returns
returns_start ss end returns long e = record {
  long = long;
  next = e ∙ sym (ap (end_line (line ss (length ss))) (drop-length ss));
  each = λ i h k. absurd (omega (arith, h, k));
}

chosen : (b : Bool) (x y z : ℕ) → (b ≡ true → x ≡ y) → (b ≡ false → x ≡ z) → x ≡ (if b then y else z)
chosen true x y z f g = f refl
chosen false x y z f g = g refl

pub returns_more : (ss : List Placed) (n end before : ℕ) (returns : List ℕ) (s : Placed) → slice_get ss n ≡ Some s → n < length ss → ReturnsFrom ss (n + 1) before returns
    → (is_end s.says ≡ true → end ≡ line ss n) → (is_end s.says ≡ false → end ≡ before) → ReturnsFrom ss n end (set returns n end)
returns_more ss n end before returns s at h f yes_here not_here = record {
  long = length-set returns n end ∙ f.long;
  next = value;
  each = λ i low high. by (nat_eq i n) refl low high;
}
  where
    value : end ≡ end_line (line ss n) (drop n ss)
    value = chosen (is_end s.says) end (line ss n) (end_line (line ss (n + 1)) (drop (n + 1) ss)) yes_here (λ e. not_here e ∙ f.next) ∙ sym (end_next ss n s at)

    by : {i : ℕ} (b : Bool) → nat_eq i n ≡ b → n ≤ i → i < length ss → get_or (set returns n end) i 0 ≡ end_line (line ss i) (drop i ss)
    by {i} true e low high =
        let same : i ≡ n = (Decides-eqb i n).0 e in
        let within : n < length returns = omega (arith, f.long) in
        ap (λ (k : ℕ). get_or (set returns n end) k 0) same ∙ get_or-set_same returns n end 0 within ∙ value ∙ ap (λ (k : ℕ). end_line (line ss k) (drop k ss)) (sym same)
    by {i} false e low high =
        let apart : i ≡ n → ⊥ = λ same. (let w : true ≡ false = sym ((Decides-eqb i n).1 same) ∙ e in cc) in
        let above : n + 1 ≤ i = omega arith in
        get_or-set_other returns n i end 0 apart ∙ f.each i above high

pub returns_whole : (ss : List Placed) (end : ℕ) (returns : List ℕ) → ReturnsFrom ss 0 end returns → AreReturns ss returns
returns_whole ss end returns f = record { long = f.long; each = λ i h. let k : 0 ≤ i = omega arith in f.each i k h }
