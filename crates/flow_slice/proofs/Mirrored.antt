-- A run of an abstract machine that ends, and a second machine that goes straight from each relevant line to the next: it ends too, with the same value.
use Rattle.std.proofs.Common.{◌≡◌, refl, sym, ◌∙◌, ℕ, zero, suc, ◌≤◌, Bool, true, List, [], ◌∷◌, arith}
use Rattle.flow_graph.specs.Meeting.{Meets}
use Rattle.info_flow.proofs.TwoRuns.{EndsIn, Simulates, Advanced, advance}

module _ {S V : Type 0} (E : ℕ → ℕ → Type 0) (goes : ℕ → S → ℕ → S → Type 0) (halts : ℕ → S → Type 0) (value : S → ℕ → V) (relevant : ℕ → Bool)
    (needs : ℕ → ℕ → Bool) (v : ℕ) (follows : ℕ → S → ℕ → S → Type 0) (stops : ℕ → S → Type 0) (fits : S → Type 0) where
  -- two states give equal values to what line a needs
  abbrev pub Same : ℕ → S → S → Type 0
  Same a s t = (x : ℕ) → needs a x ≡ true → value s x ≡ value t x

  -- n steps of the second machine lead from line a to line x and leave the state as it is
  abbrev pub Passes : ℕ → ℕ → S → ℕ → Type 0
  Passes zero a t x = a ≡ x
  Passes (suc n) a t x = (b : ℕ) × follows a t b t × Passes n b t x

  -- a step of the second machine that goes where one of the first goes
  pub record Mirror (b : ℕ) (f : S) (a : ℕ) (t : S) : Type 0 where
    pub state : S
    pub step : follows a t b state
    pub fit : fits state
    pub same : Same b f state

  -- what the second machine owes: at a relevant line it does what the first does, and from any other line from which a walk
  -- meets a relevant line it passes to that line
  pub record Mirrors : Type 0 where
    pub alike : (a b : ℕ) (s t f : S) → relevant a ≡ true → goes a s b f → fits t → Same a s t → Mirror b f a t
    pub halting : (a : ℕ) (s t : S) → halts a s → fits t → stops a t
    pub straight : (a : ℕ) (lines : List ℕ) (x : ℕ) (t : S) → Meets E (λ l. relevant l ≡ true) a lines x → fits t → (n : ℕ) × Passes n a t x

  -- a run of the second machine that ends with the value of a state
  pub record Ending (a : ℕ) (t f : S) : Type 0 where
    pub state : S
    pub count : ℕ
    pub run : EndsIn follows stops count a t state
    pub equal : value state v ≡ value f v

  -- the claim for runs of at most so many steps
  abbrev Claim : ℕ → Type 0
  Claim fuel = (n a : ℕ) (s t f : S) → n ≤ fuel → EndsIn goes halts n a s f → fits t → Same a s t → Ending a t f

  -- steps that leave the state as it is, then a run
  passed : (n a x : ℕ) (t f : S) → Passes n a t x → Ending x t f → Ending a t f
  passed zero a x t f p e = rw p e
  passed (suc n) a x t f p e =
      let w = passed n p.0 x t f p.2 e in
      record { state = w.state; count = suc w.count; run = (p.0, t, p.1, w.run); equal = w.equal }

  -- at a relevant line both halt, or both go on to one line
  at_relevant : Simulates E goes halts value relevant needs v → Mirrors → (n a : ℕ) (s t f : S) → ((fuel : ℕ) → n ≡ suc fuel → Claim fuel) → relevant a ≡ true
      → EndsIn goes halts n a s f → fits t → Same a s t → Ending a t f
  at_relevant sim mir zero a s t f more r e k same = record {
    state = t;
    count = 0;
    run = (mir.halting a s t e.0 k, refl);
    equal = rw (← e.1) (sym (same v (sim.ends a s e.0).1));
  }
  at_relevant sim mir (suc n) a s t f more r e k same =
      let m = mir.alike a e.0 s t e.1 r e.2 k same in
      let w = more n refl n e.0 e.1 m.state f (omega arith) e.3 m.fit m.same in
      record { state = w.state; count = suc w.count; run = (e.0, m.state, m.step, w.run); equal = w.equal }

  -- the second machine passes to the relevant line that the first comes to
  to_relevant : Simulates E goes halts value relevant needs v → Mirrors → (n a : ℕ) (s t f : S) → ((fuel : ℕ) → suc fuel ≤ n → Claim fuel)
      → Advanced E goes halts value relevant needs v n a s f → fits t → Same a s t → Ending a t f
  to_relevant sim mir n a s t f more x k same =
      let few = x.fewer in
      let p = mir.straight a x.lines x.line t x.meets k in
      passed p.0 a x.line t f p.1 (at_relevant sim mir x.count x.line x.state t f (λ fuel e. more fuel (omega arith)) (at_end a x.lines x.meets) x.rest k
      (λ y h. let j = x.kept y h in j.1 ∙ same y j.0))
    where
      at_end : (b : ℕ) (lines : List ℕ) → Meets E (λ l. relevant l ≡ true) b lines x.line → relevant x.line ≡ true
      at_end b [] w = rw w.0 at w.1
      at_end b (c ∷ lines) w = at_end c lines w.2

  -- from states that agree on what a line needs, the second machine ends where the first does
  pub equal_ending : Simulates E goes halts value relevant needs v → Mirrors → (fuel : ℕ) → Claim fuel
  equal_ending sim mir zero n a s t f few e k same =
      to_relevant sim mir n a s t f (λ fuel l. absurd (omega arith)) (advance E goes halts value relevant needs v sim n a s f e) k same
  equal_ending sim mir (suc fuel) n a s t f few e k same =
      to_relevant sim mir n a s t f (λ j l. later j (equal_ending sim mir fuel) (omega arith)) (advance E goes halts value relevant needs v sim n a s f e) k same
    where
      later : (j : ℕ) → Claim fuel → j ≤ fuel → Claim j
      later j c l = λ n a s t f less. c n a s t f (omega arith)
