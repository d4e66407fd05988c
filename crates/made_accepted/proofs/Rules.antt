-- The statements of a made text break no rule: x is the one variable, and there are at most 802 lines.
use Rattle.std.proofs.Common.{◌≡◌, ℕ, zero, suc, ◌+◌, ◌*◌, ◌^◌, ◌<◌, ◌≤◌, Bool, true, false, ◌&&◌, List, [], ◌∷◌, ◌++◌, take, refl, sym, ap, subst, arith}
use Rattle.std.specs.Prelude.{Option, Some, None, is_some, slice_get, codes, pos, nat_le, nat_lt, fold, if◌then◌else◌}
use Rattle.std.specs.List.{flat_map, range_with_len}
use Rattle.std.specs.Option.{option_and_then, option_map}
use Rattle.std.proofs.lemmas.Bool.{le-leb, ltb-true}
use Rattle.il_core.specs.Bounds.{only}
use Rattle.il_core.specs.Statement.{Statement, Placed, loop, exit_when, assign, end_loop}
use Rattle.il_core.specs.declared.operator.BinOp.TheVariants.{Compare}
use Rattle.il_core.specs.declared.operator.Relation.TheVariants.{Ge}
use Rattle.il_core.specs.declared.refusal.Code.TheVariants as code
use Rattle.il_core.specs.declared.refusal.Many.TheVariants as many
use Rattle.il_types.specs.declared.counts.Counts.{Counts}
use Rattle.il_types.specs.declared.rules.Found.{Found}
use Rattle.il_types.specs.declared.rules.Rule.TheVariants as rule
use Rattle.il_types.specs.Counts.{counts_behind, no_counts}
use Rattle.il_types.specs.Names.{Table, Front, front_of, one_more, setting, counts_at}
use Rattle.il_types.specs.Narrow.{bounds_of_two}
use Rattle.il_types.specs.Rules.{fault, unless, unnamed, twice, broken, ComesNowhere, Answers}
use Rattle.made_text.specs.Made as made
use Rattle.made_accepted.specs.Statements.{placed_from, round, closing, statements, at_least, raised}

-- what a made text declares
abbrev names : Table
names = ((0, codes "p"), (1, 0)) ∷ ((1, codes "x"), (2, 0)) ∷ []

-- statement i breaks no rule, with these counts before it
record IsFine (n i : ℕ) (c : Counts) (x : Statement) : Type 0 where
  known : fault rule.Known (setting names (statements n) c.procedures i) c x ≡ None
  typed : fault rule.Typed (setting names (statements n) c.procedures i) c x ≡ None
  allowed : fault rule.Allowed (setting names (statements n) c.procedures i) c x ≡ None
  filled : fault rule.Filled (setting names (statements n) c.procedures i) c x ≡ None
  narrow : fault rule.Narrow (setting names (statements n) c.procedures i) c x ≡ None
  limited : fault rule.Limited (setting names (statements n) c.procedures i) c x ≡ None

abbrev AreFine : ℕ → ℕ → Counts → List Placed → Type 0
AreFine n i c [] = Unit {0}
AreFine n i c (s ∷ ss) = IsFine n i c s.says × AreFine n (i + 1) (counts_behind c s.says) ss

-- inside the procedure
abbrev inside : ℕ → ℕ → Counts
inside i lines = record { statements = i; procedures = 1; variables = 1; copies = 1; lines = lines }

few : (m : ℕ) → m ≤ 1000 → nat_lt 1000 m ≡ false
few m h = by (nat_lt 1000 m) refl
  where
    by : (b : Bool) → nat_lt 1000 m ≡ b → b ≡ false
    by true e = let g : 1000 < m = ltb-true 1000 m e in absurd (omega arith)
    by false e = refl

few_lines : (m : ℕ) → m ≤ 1000 → option_map (λ m. unnamed (code.TooMany m)) (if nat_lt 1000 m then Some many.Lines else None) ≡ None
few_lines m h = ap (λ t. option_map (λ m. unnamed (code.TooMany m)) (if t then Some many.Lines else None)) (few m h)

small_number : (k : ℕ) → k ≤ 200 → nat_le k (2 ^ 126) ≡ true
small_number k h = le-leb k (2 ^ 126) (omega arith)

narrow_number : (k : ℕ) → k ≤ 200
    → unless (is_some (bounds_of_two (Compare Ge) (Some (record { low = pos 0; high = pos 200 })) (if nat_le k (2 ^ 126) && nat_le k (2 ^ 126) then Some (only (pos k)) else None))) code.Wide ≡ None
narrow_number k h =
    ap (λ t. unless (is_some (bounds_of_two (Compare Ge) (Some (record { low = pos 0; high = pos 200 })) (if t && t then Some (only (pos k)) else None))) code.Wide) (small_number k h)

loop_fine : (n i l : ℕ) → l + 1 ≤ 1000 → IsFine n i (inside i l) loop
loop_fine n i l h = record { known = refl; typed = refl; allowed = refl; filled = refl; narrow = refl; limited = few_lines (l + 1) h }

exit_fine : (n i l k : ℕ) → l + 1 ≤ 1000 → k ≤ 200 → IsFine n i (inside i l) (exit_when (at_least k))
exit_fine n i l k h small = record { known = refl; typed = refl; allowed = refl; filled = refl; narrow = narrow_number k small; limited = few_lines (l + 1) h }

assign_fine : (n i l : ℕ) → l + 1 ≤ 1000 → IsFine n i (inside i l) (assign (codes "x") raised)
assign_fine n i l h = record { known = refl; typed = refl; allowed = refl; filled = refl; narrow = refl; limited = few_lines (l + 1) h }

end_loop_fine : (n i l : ℕ) → l + 1 ≤ 1000 → IsFine n i (inside i l) end_loop
end_loop_fine n i l h = record { known = refl; typed = refl; allowed = refl; filled = refl; narrow = refl; limited = few_lines (l + 1) h }

rounds_fine : (n m at i l a : ℕ) → a + m ≤ 201 → l + 4 * m + 1 ≤ 1000
    → AreFine n i (inside i l) (placed_from at (flat_map made.round (range_with_len a m) ++ made.closing) (flat_map round (range_with_len a m) ++ closing))
rounds_fine n zero at i l a h g = (
  record { known = refl; typed = refl; allowed = refl; filled = refl; narrow = refl; limited = few_lines (l + 1) (omega arith) },
  (record { known = refl; typed = refl; allowed = refl; filled = refl; narrow = refl; limited = few_lines (l + 1 + 0) (omega arith) }, tt),
)
rounds_fine n (suc m) at i l a h g = (
  loop_fine n i l (omega arith),
  (
    exit_fine n (i + 1) (l + 1) a (omega arith) (omega arith),
    (
      assign_fine n (i + 1 + 1) (l + 1 + 1) (omega arith),
      (
        end_loop_fine n (i + 1 + 1 + 1) (l + 1 + 1 + 1) (omega arith),
        rounds_fine n m _ (i + 1 + 1 + 1 + 1) (l + 1 + 1 + 1 + 1) (a + 1) (omega arith) (omega arith),
      ),
    ),
  ),
)

all_fine : (n : ℕ) → n ≤ 200 → AreFine n 0 no_counts (statements n)
all_fine n h = (
  record { known = refl; typed = refl; allowed = refl; filled = refl; narrow = refl; limited = refl },
  (
    record { known = refl; typed = refl; allowed = refl; filled = refl; narrow = refl; limited = refl },
    (
      record { known = refl; typed = refl; allowed = refl; filled = refl; narrow = refl; limited = refl },
      (
        record { known = refl; typed = refl; allowed = refl; filled = refl; narrow = refl; limited = refl },
        (
          record { known = refl; typed = refl; allowed = refl; filled = refl; narrow = narrow_number n h; limited = refl },
          rounds_fine n n _ 5 1 1 (omega arith) (omega arith),
        ),
      ),
    ),
  ),
)

-- each statement is fine where it stands
fine_at : (n i : ℕ) (f : Front) (ss : List Placed) → AreFine n i f.counts ss → (j : ℕ) (s : Placed) → slice_get ss j ≡ Some s → IsFine n (i + j) (fold one_more f (take j ss)).counts s.says
fine_at n i f [] h j s e = absurd (let z : ◌≡◌ {A = Option Placed} None (Some s) = e in cc)
fine_at n i f (x ∷ ss) h zero s e =
    let same : x ≡ s = cc in
    let there : i ≡ i + 0 = omega arith in
    subst (λ m. IsFine n m f.counts s.says) there (subst (λ (y : Placed). IsFine n i f.counts y.says) same h.0)
fine_at n i f (x ∷ ss) h (suc j) s e =
    let there : i + 1 + j ≡ i + suc j = omega arith in
    subst (λ m. IsFine n m (fold one_more (one_more f x) (take j ss)).counts s.says) there (fine_at n (i + 1) (one_more f x) ss h.1 j s e)

-- the table of all declarations
rounds_named : (ks : List ℕ) (c : Counts) (at : ℕ) → (fold one_more (record { counts = c; table = names }) (placed_from at (flat_map made.round ks ++ made.closing) (flat_map round ks ++ closing))).table ≡ names
rounds_named [] c at = refl
rounds_named (k ∷ ks) c at = rounds_named ks _ _

table_is : (n : ℕ) → (front_of (statements n)).table ≡ names
table_is n = rounds_named (range_with_len 1 n) _ _

-- no name is declared twice
abbrev AreNew : List Placed → ℕ → List Placed → Type 0
AreNew stmts i [] = Unit {0}
AreNew stmts i (s ∷ ss) = (twice stmts i s.says ≡ None) × AreNew stmts (i + 1) ss

new_at : (stmts : List Placed) (i : ℕ) (ss : List Placed) → AreNew stmts i ss → (j : ℕ) (s : Placed) → slice_get ss j ≡ Some s → twice stmts (i + j) s.says ≡ None
new_at stmts i [] h j s e = absurd (let z : ◌≡◌ {A = Option Placed} None (Some s) = e in cc)
new_at stmts i (x ∷ ss) h zero s e =
    let same : x ≡ s = cc in
    let there : i ≡ i + 0 = omega arith in
    subst (λ m. twice stmts m s.says ≡ None) there (subst (λ (y : Placed). twice stmts i y.says ≡ None) same h.0)
new_at stmts i (x ∷ ss) h (suc j) s e =
    let there : i + 1 + j ≡ i + suc j = omega arith in
    subst (λ m. twice stmts m s.says ≡ None) there (new_at stmts (i + 1) ss h.1 j s e)

rounds_new : (stmts : List Placed) (ks : List ℕ) (i at : ℕ) → AreNew stmts i (placed_from at (flat_map made.round ks ++ made.closing) (flat_map round ks ++ closing))
rounds_new stmts [] i at = (refl, (refl, tt))
rounds_new stmts (k ∷ ks) i at = (refl, (refl, (refl, (refl, rounds_new stmts ks (i + 1 + 1 + 1 + 1) _))))

all_new : (n : ℕ) → AreNew (statements n) 0 (statements n)
all_new n = (refl, (refl, (refl, (refl, (refl, rounds_new (statements n) (range_with_len 1 n) 5 _)))))

-- what holds of each statement holds at each number
nowhere : (pass : ℕ → Statement → Option Found) (stmts : List Placed) → ((i : ℕ) (s : Placed) → slice_get stmts i ≡ Some s → pass i s.says ≡ None) → ComesNowhere pass stmts
nowhere pass stmts h i = by (slice_get stmts i) (h i)
  where
    by : (o : Option Placed) → ((s : Placed) → o ≡ Some s → pass i s.says ≡ None) → option_and_then (λ (x : Placed). pass i x.says) o ≡ None
    by None g = refl
    by (Some s) g = g s refl

zero_first : (i : ℕ) → 0 + i ≡ i
zero_first i = omega arith

pub none_broken : (n : ℕ) → n ≤ 200 → Answers (statements n) None
none_broken n h =
    let ss = statements n in
    let fine : (i : ℕ) (s : Placed) → slice_get ss i ≡ Some s → IsFine n i (counts_at ss i) s.says = λ i s e.
    subst (λ m. IsFine n m (counts_at ss i) s.says) (zero_first i) (fine_at n 0 (record { counts = no_counts; table = [] }) ss (all_fine n h) i s e) in
    let with_table : (P : Table → Type 0) → P names → P (front_of ss).table = λ P. subst P (sym (table_is n)) in (
      nowhere (twice ss) ss (λ i s e. subst (λ m. twice ss m s.says ≡ None) (zero_first i) (new_at ss 0 ss (all_new n) i s e)),
      (
        with_table (λ t. ComesNowhere (broken rule.Known t ss) ss) (nowhere (broken rule.Known names ss) ss (λ i s e. (fine i s e).known)),
        (
          with_table (λ t. ComesNowhere (broken rule.Typed t ss) ss) (nowhere (broken rule.Typed names ss) ss (λ i s e. (fine i s e).typed)),
          (
            with_table (λ t. ComesNowhere (broken rule.Allowed t ss) ss) (nowhere (broken rule.Allowed names ss) ss (λ i s e. (fine i s e).allowed)),
            (
              with_table (λ t. ComesNowhere (broken rule.Filled t ss) ss) (nowhere (broken rule.Filled names ss) ss (λ i s e. (fine i s e).filled)),
              (
                with_table (λ t. ComesNowhere (broken rule.Narrow t ss) ss) (nowhere (broken rule.Narrow names ss) ss (λ i s e. (fine i s e).narrow)),
                (with_table (λ t. ComesNowhere (broken rule.Limited t ss) ss) (nowhere (broken rule.Limited names ss) ss (λ i s e. (fine i s e).limited)), tt),
              ),
            ),
          ),
        ),
      ),
    )
