-- Paths whose inner nodes are in a set, split and joined at one more node.
use Rattle.std.proofs.Common.{◌≡◌, refl, sym, ap, subst, ℕ, ◌<◌, ◌⊎◌, inl, inr, List, [], ◌∷◌, ◌++◌, append_assoc, append-nil}
use Rattle.regular_algebra.specs.Paths.{IsArc, Path}
use Rattle.regular_algebra.specs.declared.steps.Ends.{Ends}

-- a path of at least one arc whose inner nodes are in G
pub data Way (arcs : List Ends) (G : ℕ → Type 0) : ℕ → List ℕ → ℕ → Type 0 where
  direct : (i k j : ℕ) → IsArc arcs k i j → Way arcs G i (k ∷ []) j
  onward : (i k m j : ℕ) (w : List ℕ) → IsArc arcs k i m → G m → Way arcs G m w j → Way arcs G i (k ∷ w) j

-- any number of words of L, one after the other
pub data Many (L : List ℕ → Type 0) : List ℕ → Type 0 where
  none : Many L []
  some : (x y : List ℕ) → L x → Many L y → Many L (x ++ y)

-- a word of A and then one of B
pub record Pair (A B : List ℕ → Type 0) (w : List ℕ) : Type 0 where
  pub x : List ℕ
  pub y : List ℕ
  pub whole : w ≡ x ++ y
  pub begins : A x
  pub ends : B y

-- a word of A, one of K and one of B
pub record Between (A K B : List ℕ → Type 0) (w : List ℕ) : Type 0 where
  pub x : List ℕ
  pub y : List ℕ
  pub z : List ℕ
  pub whole : w ≡ (x ++ y) ++ z
  pub begins : A x
  pub turns : K y
  pub ends : B z

-- from i to p, any number of turns at p, and from p to j
abbrev pub Via : (ℕ → List ℕ → ℕ → Type 0) → ℕ → ℕ → ℕ → List ℕ → Type 0
Via M p i j w = Between (λ x. M i x p) (Many (λ u. M p u p)) (λ z. M p z j) w

-- G and p
abbrev pub Also : (ℕ → Type 0) → ℕ → ℕ → Type 0
Also G p h = G h ⊎ (h ≡ p)

-- words of a larger language
pub many-grow : (L N : List ℕ → Type 0) → ((x : List ℕ) → L x → N x) → {y : List ℕ} → Many L y → Many N y
many-grow L N f none = none
many-grow L N f (some x y a r) = some x y (f x a) (many-grow L N f r)

-- no word, so no turn
pub many-empty : (L : List ℕ → Type 0) → ((x : List ℕ) → L x → ⊥) → {y : List ℕ} → Many L y → y ≡ []
many-empty L f none = refl
many-empty L f (some x y a r) = absurd (f x a)

pub between-grow : (A K B C N D : List ℕ → Type 0) → ((x : List ℕ) → A x → C x) → ((x : List ℕ) → K x → N x) → ((x : List ℕ) → B x → D x)
    → (w : List ℕ) → Between A K B w → Between C N D w
between-grow A K B C N D f g h w v =
    record { x = v.x; y = v.y; z = v.z; whole = v.whole; begins = f v.x v.begins; turns = g v.y v.turns; ends = h v.z v.ends }

-- two ways join at a node of G
way-join : (arcs : List Ends) (G : ℕ → Type 0) {i p j : ℕ} {x y : List ℕ} → Way arcs G i x p → G p → Way arcs G p y j → Way arcs G i (x ++ y) j
way-join arcs G {j} {y} (direct i k p a) g r = onward i k p j y a g r
way-join arcs G {j} {y} (onward i k m p w a h u) g r = onward i k m j (w ++ y) a h (way-join arcs G u g r)

-- a way stays one where more inner nodes are allowed
pub way-grow : (arcs : List Ends) (G H : ℕ → Type 0) → ((a : ℕ) → G a → H a) → {i j : ℕ} {w : List ℕ} → Way arcs G i w j → Way arcs H i w j
way-grow arcs G H f (direct i k j a) = direct i k j a
way-grow arcs G H f (onward i k m j w a g u) = onward i k m j w a (f m g) (way-grow arcs G H f u)

-- a way and any number of turns at its end
way-round : (arcs : List Ends) (G : ℕ → Type 0) (p : ℕ) {y : List ℕ} → Many (λ u. Way arcs G p u p) y → G p → (i : ℕ) (x : List ℕ)
    → Way arcs G i x p → Way arcs G i (x ++ y) p
way-round arcs G p none g i x h = subst (λ v. Way arcs G i v p) (sym (append-nil x)) h
way-round arcs G p (some u v a r) g i x h =
    subst (λ s. Way arcs G i s p) (append_assoc x u v) (way-round arcs G p r g i (x ++ u) (way-join arcs G h g a))

-- what goes through p is a way with p among its inner nodes
pub way-via : (arcs : List Ends) (G : ℕ → Type 0) (p i j : ℕ) (w : List ℕ) → Via (Way arcs G) p i j w → Way arcs (Also G p) i w j
way-via arcs G p i j w v =
    let turns = many-grow (λ u. Way arcs G p u p) (λ u. Way arcs (Also G p) p u p) (λ x h. way-grow arcs G (Also G p) (λ a g. inl g) h) v.turns in
    let comes = way-round arcs (Also G p) p turns (inr refl) i v.x (way-grow arcs G (Also G p) (λ a g. inl g) v.begins) in
    subst (λ s. Way arcs (Also G p) i s j) (sym v.whole)
    (way-join arcs (Also G p) comes (inr refl) (way-grow arcs G (Also G p) (λ a g. inl g) v.ends))

-- a step onto a node of G
split_inside : (arcs : List Ends) (G : ℕ → Type 0) (p i k m j : ℕ) (w : List ℕ) → IsArc arcs k i m → G m
    → Way arcs G m w j ⊎ Via (Way arcs G) p m j w → Way arcs G i (k ∷ w) j ⊎ Via (Way arcs G) p i j (k ∷ w)
split_inside arcs G p i k m j w a g (inl u) = inl (onward i k m j w a g u)
split_inside arcs G p i k m j w a g (inr v) =
    inr (record { x = k ∷ v.x; y = v.y; z = v.z; whole = ap (λ s. k ∷ s) v.whole; begins = onward i k m p v.x a g v.begins; turns = v.turns; ends = v.ends })

-- a step onto p
split_here : (arcs : List Ends) (G : ℕ → Type 0) (p i k m j : ℕ) (w : List ℕ) → IsArc arcs k i m → m ≡ p
    → Way arcs G m w j ⊎ Via (Way arcs G) p m j w → Way arcs G i (k ∷ w) j ⊎ Via (Way arcs G) p i j (k ∷ w)
split_here arcs G p i k m j w a e (inl u) =
    inr (record { x = k ∷ []; y = []; z = w; whole = refl; begins = direct i k p (subst (IsArc arcs k i) e a); turns = none; ends = subst (λ h. Way arcs G h w j) e u })
split_here arcs G p i k m j w a e (inr v) =
    inr (record {
      x = k ∷ [];
      y = v.x ++ v.y;
      z = v.z;
      whole = ap (λ s. k ∷ s) v.whole;
      begins = direct i k p (subst (IsArc arcs k i) e a);
      turns = some v.x v.y (subst (λ h. Way arcs G h v.x p) e v.begins) v.turns;
      ends = v.ends;
    })

-- a way either passes p by or goes through it
pub way-split : (arcs : List Ends) (G : ℕ → Type 0) (p : ℕ) {i j : ℕ} {w : List ℕ} → Way arcs (Also G p) i w j
    → Way arcs G i w j ⊎ Via (Way arcs G) p i j w
way-split arcs G p (direct i k j a) = inl (direct i k j a)
way-split arcs G p (onward i k m j w a (inl g) u) = split_inside arcs G p i k m j w a g (way-split arcs G p u)
way-split arcs G p (onward i k m j w a (inr e) u) = split_here arcs G p i k m j w a e (way-split arcs G p u)

-- a path of at least one arc is a way where each node that is both entered and left is in G
pub path-way : (arcs : List Ends) (G : ℕ → Type 0) → ((m k l i j : ℕ) → IsArc arcs k i m → IsArc arcs l m j → G m)
    → (w : List ℕ) (i k m j : ℕ) → IsArc arcs k i m → Path arcs m w j → Way arcs G i (k ∷ w) j
path-way arcs G inner [] i k m j a h = direct i k j (subst (IsArc arcs k i) h a)
path-way arcs G inner (l ∷ w) i k m j a h = onward i k m j (l ∷ w) a (inner m k l i h.0 a h.1) (path-way arcs G inner w m l h.0 j h.1 h.2)

-- a way is a path
pub way-path : (arcs : List Ends) (G : ℕ → Type 0) {i j : ℕ} {w : List ℕ} → Way arcs G i w j → Path arcs i w j
way-path arcs G (direct i k j a) = (j, a, refl)
way-path arcs G (onward i k m j w a g u) = (m, a, way-path arcs G u)

-- a way has an arc
pub way-some : (arcs : List Ends) (G : ℕ → Type 0) {i j : ℕ} {w : List ℕ} → Way arcs G i w j → w ≡ [] → ⊥
way-some arcs G (direct i k j a) e = cc
way-some arcs G (onward i k m j w a g u) e = cc

-- the nodes that a way joins have arcs
pub way-below : (arcs : List Ends) (G : ℕ → Type 0) (count : ℕ) → ((k i j : ℕ) → IsArc arcs k i j → (i < count) × (j < count))
    → {i j : ℕ} {w : List ℕ} → Way arcs G i w j → (i < count) × (j < count)
way-below arcs G count f (direct i k j a) = f k i j a
way-below arcs G count f (onward i k m j w a g u) = ((f k i m a).0, (way-below arcs G count f u).1)
