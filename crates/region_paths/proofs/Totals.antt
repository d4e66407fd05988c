-- What is tallied down a tree is what its paths come to: their number, their nodes together, and the greatest weight and depth on them.
use Rattle.std.proofs.Common.{◌≡◌, inl, inr, refl, sym, ap, ◌∙◌, subst, ℕ, zero, suc, ◌+◌, ◌-◌, ◌*◌, ◌^◌, ◌<◌, ◌≤◌, Bool, true, false, Option, Some, None, List, [], ◌∷◌, ◌++◌, map, length, arith}
use Rattle.std.specs.Prelude.{min, max, sum_by, nat_lt, nat_le, option_and_then, if◌then◌else◌}
use Rattle.std.specs.Option.{option_map}
use Rattle.std.proofs.lemmas.Bool.{cases_lt, ltb-true, ltb-false, lt-ltb, le-ltb, lt-leb, le-leb}
use Rattle.std.proofs.lemmas.List.{length-append, length-map}
use Rattle.std.proofs.lemmas.List.Sums.{sum_by-cons, sum_by-append}
use Rattle.sym_terms.specs.Tree.{Tree}
use Rattle.sym_terms.specs.Measure.{nodes, weight, depth}
use Rattle.sym_terms.specs.Comparison.{Comparison, comparison_under, denied, comparison_nodes, comparison_weight, comparison_depth}
use Rattle.test_graph.specs.Way.{changed}
use Rattle.region_paths.specs.Listing.{RegionPath}
use Rattle.region_paths.specs.PathTree.{PathTree, fork, change, stops, begun, paths_down}
use Rattle.region_paths.specs.Size.{greatest_by, path_nodes, path_weight, path_depth, past_of, limit_passed}
use Rattle.sym_terms.specs.Substitution.{substituted}
use Rattle.region_paths.specs.Tally.{IsTally, with_path, with_size, tallied, limit_of, empty}
use Rattle.region_paths.specs.declared.tally.Tally.{Tally}
use Rattle.region_paths.specs.declared.limit.Limit.{Limit}
use Rattle.region_paths.specs.declared.limit.Limit.TheVariants.{Rows, Nodes, Weight, Depth}

-- what some paths add to a tally
pub record Adds (rows : List RegionPath) (a b : Tally) : Type 0 where
  pub paths : b.paths ≡ a.paths + length rows
  pub few : b.paths ≤ 16384
  pub some : 1 ≤ length rows
  pub nodes : b.nodes ≡ min (a.nodes + sum_by path_nodes rows) 2097153
  pub weight : b.weight ≡ max a.weight (min (greatest_by path_weight rows) (2 ^ 100))
  pub depth : b.depth ≡ max a.depth (min (greatest_by path_depth rows) 1001)

abbrev pub Tells : List RegionPath → Tally → Option Tally → Type 0
Tells rows a None = 16384 < a.paths + length rows
Tells rows a (Some b) = Adds rows a b

step_product : (n k : ℕ) → suc n * k ≡ k + n * k
step_product n k = grind arith

-- a sum over paths to each of which k is added
sum_by-more : (f : RegionPath → ℕ) (g : RegionPath → RegionPath) (k : ℕ) → ((r : RegionPath) → f (g r) ≡ k + f r) → (rows : List RegionPath)
    → sum_by f (map g rows) ≡ length rows * k + sum_by f rows
sum_by-more f g k h [] = omega arith
sum_by-more f g k h (r ∷ rows) =
    omega (arith, h r, sum_by-more f g k h rows, step_product (length rows) k, sum_by-cons f (g r) (map g rows), sum_by-cons f r rows)

max_twice : (k x y : ℕ) → max (max k x) (max k y) ≡ max k (max x y)
max_twice k x y = omega arith

-- the greatest number over paths on each of which k is met
greatest_by-more : (f : RegionPath → ℕ) (g : RegionPath → RegionPath) (k : ℕ) → ((r : RegionPath) → f (g r) ≡ max k (f r)) → (rows : List RegionPath) → 1 ≤ length rows
    → greatest_by f (map g rows) ≡ max k (greatest_by f rows)
greatest_by-more f g k h [] some = absurd (omega arith)
greatest_by-more f g k h (r ∷ []) some = omega (arith, h r)
greatest_by-more f g k h (r ∷ q ∷ rows) some = omega (arith, h r, greatest_by-more f g k h (q ∷ rows) (omega arith))

greatest_by-both : (f : RegionPath → ℕ) (a b : List RegionPath) → greatest_by f (a ++ b) ≡ max (greatest_by f a) (greatest_by f b)
greatest_by-both f [] b = omega arith
greatest_by-both f (r ∷ a) b = omega (arith, greatest_by-both f a b)

at_least : (k c : ℕ) → 1 ≤ k → c ≤ k * c
at_least zero c h = absurd (omega arith)
at_least (suc k) c h = omega (arith, step_product k c)

turned : (c k : ℕ) → c * k ≡ k * c
turned c k = grind arith

-- a capped sum in which a number is capped before it is taken several times
capped_sum : (n s c k : ℕ) → 1 ≤ k → min (min (n + s) 2097153 + min c 2097153 * k) 2097153 ≡ min (n + (k * c + s)) 2097153
capped_sum n s c k some = elim (cases_lt c 2097153) [
  | inl low ↦ let e : min c 2097153 ≡ c = omega (arith, low) in rw e (omega (arith, turned c k))
  | inr high ↦
      let e : min c 2097153 ≡ 2097153 = omega (arith, high) in
      let f : 2097153 * k ≡ k * 2097153 = turned 2097153 k in
      rw e (omega (arith, at_least k c some, at_least k 2097153 some, high, f))
]

-- the cap of a sum on the way to a greater one
cap_again : (n s t : ℕ) → min (min (n + s) 2097153 + t) 2097153 ≡ min (n + (s + t)) 2097153
cap_again n s t = omega arith

cap_max : (x y w : ℕ) → min (max x y) w ≡ max (min x w) (min y w)
cap_max x y w = omega arith

max_all : (a g h c : ℕ) → max (max (max a g) h) c ≡ max a (max (max c g) (max c h))
max_all a g h c = omega arith

max_capped : (a g h c w : ℕ) → max (max (max a (min g w)) (min h w)) (min c w) ≡ max a (min (max (max c g) (max c h)) w)
max_capped a g h c w =
    max_all a (min g w) (min h w) (min c w)
    ∙ ap (λ (x : ℕ). max a (max x (max (min c w) (min h w)))) (sym (cap_max c g w))
    ∙ ap (λ (x : ℕ). max a (max (min (max c g) w) x)) (sym (cap_max c h w))
    ∙ ap (max a) (sym (cap_max (max c g) (max c h) w))

max_capped_one : (a g c w : ℕ) → max (max a (min g w)) (min c w) ≡ max a (min (max c g) w)
max_capped_one a g c w = omega arith

-- one path more
one_path : (a : Tally) (r : RegionPath) → IsTally a → path_nodes r ≡ 0 → path_weight r ≡ 0 → path_depth r ≡ 0 → Tells (r ∷ []) a (with_path a)
one_path a r t n w d = by_test (nat_lt a.paths 16384) refl
  where
    by_test : (b : Bool) → nat_lt a.paths 16384 ≡ b
        → Tells (r ∷ []) a (if b then Some (let x : Tally = record { paths = a.paths + 1; nodes = a.nodes; weight = a.weight; depth = a.depth } in x) else None)
    by_test true e = record {
      paths = refl;
      few = (let h = ltb-true a.paths 16384 e in omega (arith, h));
      some = omega arith;
      nodes = omega (arith, n, sum_by-cons path_nodes r [], t.few_nodes);
      weight = omega (arith, w);
      depth = omega (arith, d);
    }
    by_test false e = let h = ltb-false a.paths 16384 e in omega (arith, h)

-- the same paths, as far as they are told
tells_as : (p q : List RegionPath) (a : Tally) (o : Option Tally) → length q ≡ length p → sum_by path_nodes q ≡ sum_by path_nodes p → greatest_by path_weight q ≡ greatest_by path_weight p
    → greatest_by path_depth q ≡ greatest_by path_depth p → Tells p a o → Tells q a o
tells_as p q a None l n w d t = omega (arith, l, t)
tells_as p q a (Some b) l n w d t = record {
  paths = t.paths ∙ ap (λ (x : ℕ). a.paths + x) (sym l);
  few = t.few;
  some = omega (arith, t.some, l);
  nodes = t.nodes ∙ ap (λ (x : ℕ). min (a.nodes + x) 2097153) (sym n);
  weight = t.weight ∙ ap (λ (x : ℕ). max a.weight (min x (2 ^ 100))) (sym w);
  depth = t.depth ∙ ap (λ (x : ℕ). max a.depth (min x 1001)) (sym d);
}

-- a size that each path meets, added to what the paths add without it
size_nodes : (an en s c l ap ep : ℕ) → en ≡ min (an + s) 2097153 → ep ≡ ap + l → 1 ≤ l → min (en + min c 2097153 * (ep - ap)) 2097153 ≡ min (an + (l * c + s)) 2097153
size_nodes an en s c l ap ep e f some =
    let k : ep - ap ≡ l = omega (arith, f) in
    rw (k, e) (capped_sum an s c l some)

-- the sizes of paths that meet one size more
record Meet (f : RegionPath → RegionPath) (n w d : ℕ) : Type 0 where
  nodes : (r : RegionPath) → path_nodes (f r) ≡ n + path_nodes r
  weight : (r : RegionPath) → path_weight (f r) ≡ max w (path_weight r)
  depth : (r : RegionPath) → path_depth (f r) ≡ max d (path_depth r)

decided_meets : (path : List Bool) (x : Comparison) → Meet (begun path (x ∷ []) []) (comparison_nodes x) (comparison_weight x) (comparison_depth x)
decided_meets path x = record {
  nodes = λ r. omega (arith, sum_by-cons comparison_nodes x r.row.literals);
  weight = λ r. omega arith;
  depth = λ r. omega arith;
}

assigned_meets : (t : Tree) → Meet (begun [] [] (t ∷ [])) (nodes t) (weight t) (depth t)
assigned_meets t = record {
  nodes = λ r. omega (arith, sum_by-cons nodes t r.row.assigned);
  weight = λ r. omega arith;
  depth = λ r. omega arith;
}

-- both sides of a decision, the second of which follows the first
fork_adds : (f g : RegionPath → RegionPath) (n w d : ℕ) (p q : List RegionPath) (a b e : Tally) → Meet f n w d → Meet g n w d → Adds p a b → Adds q b e
    → Adds (map f p ++ map g q) a (with_size (record { nodes = min n 2097153; weight = min w (2 ^ 100); depth = min d 1001 }) (e.paths - a.paths) e)
fork_adds f g n w d p q a b e m k x y = record {
  paths = omega (arith, x.paths, y.paths, len);
  few = y.few;
  some = omega (arith, x.some, len);
  nodes =
      size_nodes a.nodes e.nodes (sum_by path_nodes p + sum_by path_nodes q) n (length p + length q) a.paths e.paths
      (y.nodes ∙ ap (λ (z : ℕ). min (z + sum_by path_nodes q) 2097153) x.nodes ∙ cap_again a.nodes (sum_by path_nodes p) (sum_by path_nodes q))
      (omega (arith, x.paths, y.paths)) (omega (arith, x.some))
      ∙ ap (λ (z : ℕ). min (a.nodes + z) 2097153) (sym sums);
  weight =
      ap (λ (z : ℕ). max z (min w (2 ^ 100))) (y.weight ∙ ap (λ (z : ℕ). max z (min (greatest_by path_weight q) (2 ^ 100))) x.weight)
      ∙ max_capped a.weight (greatest_by path_weight p) (greatest_by path_weight q) w (2 ^ 100)
      ∙ ap (λ (z : ℕ). max a.weight (min z (2 ^ 100))) (sym weights);
  depth =
      ap (λ (z : ℕ). max z (min d 1001)) (y.depth ∙ ap (λ (z : ℕ). max z (min (greatest_by path_depth q) 1001)) x.depth)
      ∙ max_capped a.depth (greatest_by path_depth p) (greatest_by path_depth q) d 1001
      ∙ ap (λ (z : ℕ). max a.depth (min z 1001)) (sym depths);
}
  where
    len : length (map f p ++ map g q) ≡ length p + length q
    len = omega (arith, length-append (map f p) (map g q), length-map p f, length-map q g)

    spread : (length p + length q) * n ≡ length p * n + length q * n
    spread = grind arith

    sums : sum_by path_nodes (map f p ++ map g q) ≡ (length p + length q) * n + (sum_by path_nodes p + sum_by path_nodes q)
    sums = omega (arith, sum_by-append path_nodes (map f p) (map g q), sum_by-more path_nodes f n m.nodes p, sum_by-more path_nodes g n k.nodes q, spread)

    weights : greatest_by path_weight (map f p ++ map g q) ≡ max (max w (greatest_by path_weight p)) (max w (greatest_by path_weight q))
    weights =
        greatest_by-both path_weight (map f p) (map g q)
        ∙ ap (λ (z : ℕ). max z (greatest_by path_weight (map g q))) (greatest_by-more path_weight f w m.weight p x.some)
        ∙ ap (max (max w (greatest_by path_weight p))) (greatest_by-more path_weight g w k.weight q y.some)

    depths : greatest_by path_depth (map f p ++ map g q) ≡ max (max d (greatest_by path_depth p)) (max d (greatest_by path_depth q))
    depths =
        greatest_by-both path_depth (map f p) (map g q)
        ∙ ap (λ (z : ℕ). max z (greatest_by path_depth (map g q))) (greatest_by-more path_depth f d m.depth p x.some)
        ∙ ap (max (max d (greatest_by path_depth p))) (greatest_by-more path_depth g d k.depth q y.some)

-- a term that each path assigns
assign_adds : (f : RegionPath → RegionPath) (n w d : ℕ) (p : List RegionPath) (a b : Tally) → Meet f n w d → Adds p a b
    → Adds (map f p) a (with_size (record { nodes = min n 2097153; weight = min w (2 ^ 100); depth = min d 1001 }) (b.paths - a.paths) b)
assign_adds f n w d p a b m x = record {
  paths = omega (arith, x.paths, length-map p f);
  few = x.few;
  some = omega (arith, x.some, length-map p f);
  nodes =
      size_nodes a.nodes b.nodes (sum_by path_nodes p) n (length p) a.paths b.paths x.nodes x.paths x.some
      ∙ ap (λ (z : ℕ). min (a.nodes + z) 2097153) (sym (sum_by-more path_nodes f n m.nodes p));
  weight =
      ap (λ (z : ℕ). max z (min w (2 ^ 100))) x.weight ∙ max_capped_one a.weight (greatest_by path_weight p) w (2 ^ 100)
      ∙ ap (λ (z : ℕ). max a.weight (min z (2 ^ 100))) (sym (greatest_by-more path_weight f w m.weight p x.some));
  depth =
      ap (λ (z : ℕ). max z (min d 1001)) x.depth ∙ max_capped_one a.depth (greatest_by path_depth p) d 1001
      ∙ ap (λ (z : ℕ). max a.depth (min z 1001)) (sym (greatest_by-more path_depth f d m.depth p x.some));
}

-- a tally to which paths were added is one
adds_sound : (p : List RegionPath) (a b : Tally) → Adds p a b → IsTally b
adds_sound p a b x = record { few_paths = x.few; few_nodes = omega (arith, x.nodes) }

same_begun : (r : RegionPath) → begun [] [] [] r ≡ r
same_begun r = refl

map-same : (p : List RegionPath) → map (begun [] [] []) p ≡ p
map-same [] = refl
map-same (r ∷ p) = ap (λ (k : List RegionPath). r ∷ k) (map-same p)

-- both sides of a decision, as far as they are followed
both_tell : (f g : RegionPath → RegionPath) (n w d : ℕ) (p q : List RegionPath) (a b : Tally) (o : Option Tally) → Meet f n w d → Meet g n w d → Adds p a b → Tells q b o
    → Tells (map f p ++ map g q) a (option_map (λ (e : Tally). with_size (record { nodes = min n 2097153; weight = min w (2 ^ 100); depth = min d 1001 }) (e.paths - a.paths) e) o)
both_tell f g n w d p q a b None m k x y = omega (arith, y, x.paths, length-append (map f p) (map g q), length-map p f, length-map q g)
both_tell f g n w d p q a b (Some e) m k x y = fork_adds f g n w d p q a b e m k x y

fork_tells : (f g : RegionPath → RegionPath) (n w d : ℕ) (p q : List RegionPath) (a : Tally) (o : Option Tally) (next : Tally → Option Tally) → Meet f n w d → Meet g n w d → Tells p a o
    → ((b : Tally) → Adds p a b → Tells q b (next b))
    → Tells (map f p ++ map g q) a
    (option_map (λ (e : Tally). with_size (record { nodes = min n 2097153; weight = min w (2 ^ 100); depth = min d 1001 }) (e.paths - a.paths) e) (option_and_then next o))
fork_tells f g n w d p q a None next m k x later = omega (arith, x, length-append (map f p) (map g q), length-map p f)
fork_tells f g n w d p q a (Some b) next m k x later = both_tell f g n w d p q a b (next b) m k x (later b x)

assign_tells : (f : RegionPath → RegionPath) (n w d : ℕ) (p : List RegionPath) (a : Tally) (o : Option Tally) → Meet f n w d → Tells p a o
    → Tells (map f p) a (option_map (λ (b : Tally). with_size (record { nodes = min n 2097153; weight = min w (2 ^ 100); depth = min d 1001 }) (b.paths - a.paths) b) o)
assign_tells f n w d p a None m x = omega (arith, x, length-map p f)
assign_tells f n w d p a (Some b) m x = assign_adds f n w d p a b m x

same_tells : (p q : List RegionPath) (a : Tally) (o : Option Tally) → q ≡ p → Tells p a o → Tells q a (option_map (λ (b : Tally). b) o)
same_tells p q a None e x = subst (λ (k : List RegionPath). Tells k a None) (sym e) x
same_tells p q a (Some b) e x = subst (λ (k : List RegionPath). Adds k a b) (sym e) x

-- what is tallied down a tree is what its paths add
pub tally_tells : (t : PathTree) (terms : List Tree) (a : Tally) → IsTally a → Tells (paths_down t terms) a (tallied t terms a)
tally_tells (fork c met unmet) terms a s =
    fork_tells (begun (true ∷ []) (comparison_under terms c ∷ []) []) (begun (false ∷ []) (comparison_under terms (denied c) ∷ []) [])
    (comparison_nodes (comparison_under terms c)) (comparison_weight (comparison_under terms c)) (comparison_depth (comparison_under terms c))
    (paths_down met terms) (paths_down unmet terms) a (tallied met terms a) (λ (b : Tally). tallied unmet terms b)
    (decided_meets (true ∷ []) (comparison_under terms c)) (decided_meets (false ∷ []) (comparison_under terms (denied c)))
    (tally_tells met terms a s) (λ b x. tally_tells unmet terms b (adds_sound (paths_down met terms) a b x))
tally_tells (change None rest) terms a s = same_tells (paths_down rest terms) (map (begun [] [] []) (paths_down rest terms)) a (tallied rest terms a) (map-same (paths_down rest terms)) (tally_tells rest terms a s)
tally_tells (change (Some c) rest) terms a s =
    assign_tells (begun [] [] (substituted terms c.term ∷ [])) (nodes (substituted terms c.term)) (weight (substituted terms c.term)) (depth (substituted terms c.term))
    (paths_down rest (changed (Some c) terms)) a (tallied rest (changed (Some c) terms) a) (assigned_meets (substituted terms c.term)) (tally_tells rest (changed (Some c) terms) a s)
tally_tells (stops end) terms a s = one_path a (record { row = record { path = []; literals = []; assigned = []; values = terms }; stop = end }) s refl refl refl

-- the first limit by four tests
abbrev first_of : Bool → Bool → Bool → Bool → Option Limit
first_of rows nodes weight depth = if rows then Some Rows else (if nodes then Some Nodes else (if weight then Some Weight else (if depth then Some Depth else None)))

same_lt : (k m n : ℕ) → (k < n → k < m) → (n ≤ k → m ≤ k) → nat_lt k m ≡ nat_lt k n
same_lt k m n above below = elim (cases_lt k n) [
  | inl h ↦ lt-ltb k m (above h) ∙ sym (lt-ltb k n h)
  | inr h ↦ le-ltb k m (below h) ∙ sym (le-ltb k n h)
]

same_le : (k m n : ℕ) → (k ≤ n → k ≤ m) → (n < k → m < k) → nat_le k m ≡ nat_le k n
same_le k m n above below = elim (cases_lt n k) [
  | inl h ↦ lt-leb k m (below h) ∙ sym (lt-leb k n h)
  | inr h ↦ le-leb k m (above h) ∙ sym (le-leb k n h)
]

weight_capped : (c w : ℕ) → nat_le c (min w c) ≡ nat_le c w
weight_capped c w = same_le c (min w c) w (λ h. omega (arith, h)) (λ h. omega (arith, h))

-- a capped number passes a limit below its cap exactly where the number does
passed_capped : (rows n w d : ℕ) → limit_passed rows (min n 2097153) (min w (2 ^ 100)) (min d 1001) ≡ limit_passed rows n w d
passed_capped rows n w d =
    ap (λ (x : Bool). first_of (nat_lt 16384 rows) x (nat_le (2 ^ 100) (min w (2 ^ 100))) (nat_lt 1000 (min d 1001)))
    (same_lt 2097152 (min n 2097153) n (λ h. omega (arith, h)) (λ h. omega (arith, h)))
    ∙ ap (λ (x : Bool). first_of (nat_lt 16384 rows) (nat_lt 2097152 n) x (nat_lt 1000 (min d 1001))) (weight_capped (2 ^ 100) w)
    ∙ ap (first_of (nat_lt 16384 rows) (nat_lt 2097152 n) (nat_le (2 ^ 100) w)) (same_lt 1000 (min d 1001) d (λ h. omega (arith, h)) (λ h. omega (arith, h)))

-- too many paths are the first limit
pub many_rows : (rows : List RegionPath) → 16384 < length rows → past_of rows ≡ Some Rows
many_rows rows h =
    ap (λ (x : Bool). first_of x (nat_lt 2097152 (sum_by path_nodes rows)) (nat_le (2 ^ 100) (greatest_by path_weight rows)) (nat_lt 1000 (greatest_by path_depth rows))) (lt-ltb 16384 (length rows) h)

-- the limit that some paths pass first is that of their tally
limit_told : (rows : List RegionPath) (o : Option Tally) → Tells rows empty o → limit_of o ≡ past_of rows
limit_told rows None t =
    sym (many_rows rows (omega (arith, t)))
limit_told rows (Some b) t =
    let paths : b.paths ≡ length rows = omega (arith, t.paths) in
    let nodes : b.nodes ≡ min (sum_by path_nodes rows) 2097153 = omega (arith, t.nodes) in
    let weight : b.weight ≡ min (greatest_by path_weight rows) (2 ^ 100) = t.weight ∙ max_zero (min (greatest_by path_weight rows) (2 ^ 100)) in
    let depth : b.depth ≡ min (greatest_by path_depth rows) 1001 = t.depth ∙ max_zero (min (greatest_by path_depth rows) 1001) in
    ap (λ (x : ℕ). limit_passed x b.nodes b.weight b.depth) paths
    ∙ ap (λ (x : ℕ). limit_passed (length rows) x b.weight b.depth) nodes
    ∙ ap (λ (x : ℕ). limit_passed (length rows) (min (sum_by path_nodes rows) 2097153) x b.depth) weight
    ∙ ap (λ (x : ℕ). limit_passed (length rows) (min (sum_by path_nodes rows) 2097153) (min (greatest_by path_weight rows) (2 ^ 100)) x) depth
    ∙ passed_capped (length rows) (sum_by path_nodes rows) (greatest_by path_weight rows) (greatest_by path_depth rows)
  where
    max_zero : (x : ℕ) → max 0 x ≡ x
    max_zero x = omega arith

-- the limit that a tree's paths pass first, by tallying them
pub limit_of_tree : (t : PathTree) (terms : List Tree) → limit_of (tallied t terms empty) ≡ past_of (paths_down t terms)
limit_of_tree t terms = limit_told (paths_down t terms) (tallied t terms empty) (tally_tells t terms empty (record { few_paths = omega arith; few_nodes = omega arith }))
