-- Two runs of an abstract machine from one line, which go side by side from one relevant line to the next, end with equal values.
use Rattle.std.proofs.Common.{◌≡◌, refl, sym, subst, ◌∙◌, ℕ, zero, suc, ◌≤◌, Bool, true, false, List, [], ◌∷◌, arith}
use Rattle.std.proofs.lemmas.Bool.{false≢true}
use Rattle.flow_graph.specs.Meeting.{Meets}
use Rattle.disjoint_paths.specs.Pair.{HasPair}
use Rattle.info_flow.proofs.Meetings.{one_meeting}

-- n steps lead from a line and a state to a halt in a last state
abbrev pub EndsIn : {S : Type 0} → (ℕ → S → ℕ → S → Type 0) → (ℕ → S → Type 0) → ℕ → ℕ → S → S → Type 0
EndsIn {S = S} goes halts zero a s f = halts a s × (s ≡ f)
EndsIn {S = S} goes halts (suc n) a s f = (b : ℕ) × (t : S) × goes a s b t × EndsIn goes halts n b t f

module _ {S V : Type 0} (E : ℕ → ℕ → Type 0) (goes : ℕ → S → ℕ → S → Type 0) (halts : ℕ → S → Type 0) (value : S → ℕ → V) (relevant : ℕ → Bool)
    (needs : ℕ → ℕ → Bool) (v : ℕ) where
  -- what the machine's steps owe: they go along arcs, change nothing needed at other lines, and go alike at relevant ones
  pub record Simulates : Type 0 where
    pub along : (a b : ℕ) (s t : S) → goes a s b t → E a b
    pub quiet : (a b : ℕ) (s t : S) → relevant a ≡ false → goes a s b t → (x : ℕ) → needs b x ≡ true → (needs a x ≡ true) × (value t x ≡ value s x)
    pub alike : (a b c : ℕ) (s t f g : S) → relevant a ≡ true → goes a s b f → goes a t c g → ((x : ℕ) → needs a x ≡ true → value s x ≡ value t x)
        → (b ≡ c) × ((x : ℕ) → needs b x ≡ true → value f x ≡ value g x)
    pub ends : (a : ℕ) (s : S) → halts a s → (relevant a ≡ true) × (needs a v ≡ true)
    pub stuck : (a b : ℕ) (s : S) → halts a s → E a b → ⊥
    pub alone : (t : ℕ) → (relevant t ≡ true → ⊥) → HasPair E (λ x. relevant x ≡ true) t → ⊥

  -- a run up to its next relevant line
  pub record Advanced (n a : ℕ) (s f : S) : Type 0 where
    pub line : ℕ
    pub count : ℕ
    pub state : S
    pub lines : List ℕ
    pub meets : Meets E (λ x. relevant x ≡ true) a lines line
    pub rest : EndsIn goes halts count line state f
    pub fewer : count ≤ n
    pub kept : (x : ℕ) → needs line x ≡ true → (needs a x ≡ true) × (value state x ≡ value s x)

  -- a run that is at a relevant line is there
  arrived : (n a : ℕ) (s f : S) → relevant a ≡ true → EndsIn goes halts n a s f → Advanced n a s f
  arrived n a s f r e = record { line = a; count = n; state = s; lines = []; meets = (refl, r); rest = e; fewer = omega arith; kept = λ x h. (h, refl) }

  -- a run at another line goes on by one step
  goes_on : Simulates → (n a b : ℕ) (s t f : S) → relevant a ≡ false → goes a s b t → Advanced n b t f → Advanced (suc n) a s f
  goes_on sim n a b s t f r g w = let few = w.fewer in record {
    line = w.line;
    count = w.count;
    state = w.state;
    lines = b ∷ w.lines;
    meets = (λ h. false≢true (sym r ∙ h), sim.along a b s t g, w.meets);
    rest = w.rest;
    fewer = omega arith;
    kept = λ x h. let k = w.kept x h in let q = sim.quiet a b s t r g x k.0 in (q.0, k.1 ∙ q.1);
  }

  -- a run that ends comes to a relevant line, and nothing needed there changes on the way
  pub advance : Simulates → (n a : ℕ) (s f : S) → EndsIn goes halts n a s f → Advanced n a s f
  advance sim zero a s f e = arrived zero a s f (sim.ends a s e.0).0 e
  advance sim (suc n) a s f e = by_test (advance sim n e.0 e.1 f e.3) (relevant a) refl
    where
      by_test : Advanced n e.0 e.1 f → (r : Bool) → relevant a ≡ r → Advanced (suc n) a s f
      by_test more true r = arrived (suc n) a s f r e
      by_test more false r = goes_on sim n a e.0 s e.1 f r e.2 more

  -- the claim for runs of at most so many steps
  abbrev Claim : ℕ → Type 0
  Claim fuel = (n m a : ℕ) (s t f g : S) → n ≤ fuel → EndsIn goes halts n a s f → EndsIn goes halts m a t g
      → ((x : ℕ) → needs a x ≡ true → value s x ≡ value t x) → value f v ≡ value g v

  -- at a relevant line both halt, or both go on to one line
  at_relevant : Simulates → (n m a : ℕ) (s t f g : S) → ((fuel : ℕ) → n ≡ suc fuel → Claim fuel) → relevant a ≡ true → EndsIn goes halts n a s f
      → EndsIn goes halts m a t g → ((x : ℕ) → needs a x ≡ true → value s x ≡ value t x) → value f v ≡ value g v
  at_relevant sim zero zero a s t f g more r e d same = rw (← e.1, ← d.1) (same v (sim.ends a s e.0).1)
  at_relevant sim zero (suc m) a s t f g more r e d same = absurd (sim.stuck a d.0 s e.0 (sim.along a d.0 t d.1 d.2))
  at_relevant sim (suc n) zero a s t f g more r e d same = absurd (sim.stuck a e.0 t d.0 (sim.along a e.0 s e.1 e.2))
  at_relevant sim (suc n) (suc m) a s t f g more r e d same =
      let k = sim.alike a e.0 d.0 s t e.1 d.1 r e.2 d.2 same in
      more n refl n m e.0 e.1 d.1 f g (omega arith) e.3 (subst (λ (x : ℕ). EndsIn goes halts m x d.1 g) (sym k.0) d.3) k.1

  -- both runs come to the same relevant line next
  both_advanced : Simulates → (n m a : ℕ) (s t f g : S) → ((fuel : ℕ) → suc fuel ≤ n → Claim fuel) → Advanced n a s f → Advanced m a t g
      → ((x : ℕ) → needs a x ≡ true → value s x ≡ value t x) → value f v ≡ value g v
  both_advanced sim n m a s t f g more x y same =
      let one : y.line ≡ x.line = one_meeting E (λ l. relevant l ≡ true) sim.alone a y.lines x.lines y.line x.line y.meets x.meets in
      let few = x.fewer in
      at_relevant sim x.count y.count x.line x.state y.state f g (λ fuel e. more fuel (omega arith)) (at_end a x.lines x.meets) x.rest
      (subst (λ (l : ℕ). EndsIn goes halts y.count l y.state g) one y.rest)
      (λ p h. let k = x.kept p h in let j = y.kept p (subst (λ (l : ℕ). needs l p ≡ true) (sym one) h) in k.1 ∙ same p k.0 ∙ sym j.1)
    where
      at_end : (b : ℕ) (lines : List ℕ) → Meets E (λ l. relevant l ≡ true) b lines x.line → relevant x.line ≡ true
      at_end b [] w = rw w.0 at w.1
      at_end b (c ∷ lines) w = at_end c lines w.2

  -- two runs from one line whose states agree on what it needs end with equal values
  pub equal_ends : Simulates → (fuel : ℕ) → Claim fuel
  equal_ends sim zero n m a s t f g few e d same =
      both_advanced sim n m a s t f g (λ fuel l. absurd (omega arith)) (advance sim n a s f e) (advance sim m a t g d) same
  equal_ends sim (suc fuel) n m a s t f g few e d same =
      both_advanced sim n m a s t f g (λ k l. later k (equal_ends sim fuel) (omega arith)) (advance sim n a s f e) (advance sim m a t g d) same
    where
      later : (k : ℕ) → Claim fuel → k ≤ fuel → Claim k
      later k c l = λ n m a s t f g few. c n m a s t f g (omega arith)
