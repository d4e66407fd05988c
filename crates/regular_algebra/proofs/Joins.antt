-- What the words of a value join, by the step that makes it, and the running of the steps.
use Rattle.std.proofs.Common.{◌≡◌, refl, sym, ap, ◌∙◌, subst, ℕ, zero, suc, ◌+◌, ◌-◌, ◌<◌, ◌≤◌, ◌⊎◌, ◌↔◌, inl, inr, ltb, Option, Some, None, IsSome, List, [], ◌∷◌, ◌++◌, length, slice_get, arith, lt-ltb, le-ltb, length-append}
use Rattle.std.proofs.lemmas.Bool.{cond-true, cond-false, cases_lt}
use Rattle.std.proofs.lemmas.Option.{slice_get_within}
use Rattle.regular_algebra.specs.Words.{IsStep, Word, of_arc, of_left, of_right, of_both, EachNamesLower}
use Rattle.regular_algebra.specs.Answers.{IsAnswer, AreAnswers, AnswersBelow}
use Rattle.regular_algebra.specs.Relations.{Turns, no_turn, a_turn, Chain, ends_of, values_of, PathJoins, AnswersJoin}
use Rattle.regular_algebra.specs.Run.{kept_value, value_in, Names, StepJoins, AnswerJoins, ValueJoins, AreLastUses, AreMade, IsReleased, EachAnswerJoins}
use Rattle.regular_algebra.specs.declared.steps.Ends.{Ends}
use Rattle.regular_algebra.specs.declared.steps.Entry.{Entry}
use Rattle.regular_algebra.specs.declared.steps.Step.{Step}
use Rattle.regular_algebra.specs.declared.steps.Step.TheVariants.{Plus, Times, Star}
use Rattle.regular_algebra.proofs.Ways.{Many, none, some}
use Rattle.regular_algebra.proofs.Values.{word-arc, word-plus, word-times, word-star, star-word, get-less, get-last_same, get-some}
use Rattle.regular_algebra.proofs.Uses.{named-lower}

-- as many values as arcs
pub length-values : {V : Type 0} (arcs : List (Entry V)) → length (values_of arcs) ≡ length arcs
length-values [] = refl
length-values (e ∷ es) = ap suc (length-values es)

-- as many ends as arcs
pub length-ends : {V : Type 0} (arcs : List (Entry V)) → length (ends_of arcs) ≡ length arcs
length-ends [] = refl
length-ends (e ∷ es) = ap suc (length-ends es)

-- the value of a number, where it is an arc's and where it is a step's
value_arc : {V : Type 0} (values : List V) (made : List (Option V)) (v : ℕ) → v < length values → value_in values made v ≡ slice_get values v
value_arc values made v l = cond-true (ltb v (length values)) (slice_get values v) (kept_value (slice_get made (v - length values))) (lt-ltb v (length values) l)

value_made : {V : Type 0} (values : List V) (made : List (Option V)) (v : ℕ) → length values ≤ v → value_in values made v ≡ kept_value (slice_get made (v - length values))
value_made values made v l = cond-false (ltb v (length values)) (slice_get values v) (kept_value (slice_get made (v - length values))) (le-ltb v (length values) l)

-- a value that is known is there
is_some_by : {V : Type 0} (o : Option V) (x : V) → o ≡ Some x → IsSome o
is_some_by o x e = subst IsSome (sym e) refl

-- a value that is made and not given up is kept
kept_there : {V : Type 0} (o : Option (Option V)) (k : Option V) → o ≡ Some k → (o ≡ Some None → ⊥) → IsSome (kept_value o)
kept_there None k e f = absurd (cc)
kept_there (Some None) k e f = absurd (f refl)
kept_there (Some (Some x)) k e f = refl

-- a number has its value unless that was given up
pub value-there : {V : Type 0} (values : List V) (made : List (Option V)) (v : ℕ) → v < length values + length made
    → (slice_get made (v - length values) ≡ Some None → length values ≤ v → ⊥) → IsSome (value_in values made v)
value-there values made v l f =
    elim (cases_lt v (length values)) [
      | inl a ↦ let s = get-some values v a in is_some_by (value_in values made v) s.0 (value_arc values made v a ∙ s.1)
      | inr a ↦
          let within : v - length values < length made = omega arith in
          let s = get-some made (v - length values) within in
          subst IsSome (sym (value_made values made v a)) (kept_there (slice_get made (v - length values)) s.0 s.1 (λ e. f e a))
    ]

-- what is there is some value
some_value : {V : Type 0} (o : Option V) → IsSome o → (x : V) × (o ≡ Some x)
some_value None h = absurd (cc)
some_value (Some x) h = (x, refl)

-- a kept value was made
kept_some : {V : Type 0} (o : Option (Option V)) (x : V) → kept_value o ≡ Some x → o ≡ Some (Some x)
kept_some None x e = absurd (cc)
kept_some (Some k) x e = ap Some e

module _ {P V : Type 0} (is_point : P → Type 0) (joins : V → P → P → Type 0) (points : (x : V) (a b : P) → joins x a b → is_point a × is_point b) (values : List V) where
  -- a chain begins at a point
  chain-point : (w : List ℕ) (a b : P) → Chain is_point joins values w a b → is_point a
  chain-point [] a b h = h.0
  chain-point (k ∷ w) a b h = (points h.0 a h.2 h.3).0

  -- a chain of two words goes through a point between
  chain-append : (x y : List ℕ) (a b : P) → Chain is_point joins values (x ++ y) a b ↔ ((c : P) × Chain is_point joins values x a c × Chain is_point joins values y c b)
  chain-append [] y a b = (λ h. (a, (chain-point y a b h, refl), h), λ r. subst (λ c. Chain is_point joins values y c b) (sym r.1.1) r.2)
  chain-append (k ∷ x) y a b = (
    λ h. let r = (chain-append x y h.2 b).0 h.4 in (r.0, (h.0, h.1, h.2, h.3, r.1), r.2),
    λ r. let h = r.1 in (h.0, h.1, h.2, h.3, (chain-append x y h.2 b).1 (r.0, h.4, r.2)),
  )

  module _ (steps : List Step) where
    -- an arc's value joins what the arc's one word joins
    joins-arc : (v : ℕ) (x : V) → v < length values → slice_get values v ≡ Some x → (a b : P) → joins x a b ↔ ValueJoins is_point joins values steps v a b
    joins-arc v x l e a b = (
      λ j. (v ∷ [], of_arc v l, (x, e, b, j, ((points x a b j).1, refl))),
      λ r.
          let c = subst (λ w. Chain is_point joins values w a b) (word-arc (length values) steps r.1 l) r.2 in
          let same : c.0 ≡ x = let s = c.1 in cc in
          subst (λ y. joins y a b) same (subst (λ d. joins c.0 a d) c.4.1 c.3),
    )

    joins-plus : (v l r : ℕ) → IsStep (length values) steps v (Plus l r) → (a b : P)
        → ValueJoins is_point joins values steps v a b ↔ (ValueJoins is_point joins values steps l a b ⊎ ValueJoins is_point joins values steps r a b)
    joins-plus v l r s a b = (
      λ h. elim (word-plus (length values) steps h.1 l r s) [ inl u ↦ inl (h.0, u, h.2) | inr u ↦ inr (h.0, u, h.2) ],
      λ k. elim k [ inl h ↦ (h.0, of_left v l r h.0 s h.1, h.2) | inr h ↦ (h.0, of_right v l r h.0 s h.1, h.2) ],
    )

    joins-times : (v l r : ℕ) → IsStep (length values) steps v (Times l r) → (a b : P)
        → ValueJoins is_point joins values steps v a b ↔ ((c : P) × ValueJoins is_point joins values steps l a c × ValueJoins is_point joins values steps r c b)
    joins-times v l r s a b = (
      λ h.
          let p = word-times (length values) steps h.1 l r s in
          let c = (chain-append p.x p.y a b).0 (subst (λ w. Chain is_point joins values w a b) p.whole h.2) in
          (c.0, (p.x, p.begins, c.1), (p.y, p.ends, c.2)),
      λ k. (k.1.0 ++ k.2.0, of_both v l r k.1.0 k.2.0 s k.1.1 k.2.1, (chain-append k.1.0 k.2.0 a b).1 (k.0, k.1.2, k.2.2)),
    )

    turns_of : (l : ℕ) {w : List ℕ} → Many (Word (length values) steps l) w → (a b : P) → Chain is_point joins values w a b
        → Turns is_point (ValueJoins is_point joins values steps l) a b
    turns_of l none a b h = subst (Turns is_point (ValueJoins is_point joins values steps l) a) h.1 (no_turn a h.0)
    turns_of l (some x y u m) a b h =
        let c = (chain-append x y a b).0 h in
        a_turn a c.0 b (x, u, c.1) (turns_of l m c.0 b c.2)

    many_of : (l : ℕ) {a b : P} → Turns is_point (ValueJoins is_point joins values steps l) a b → (w : List ℕ) × Many (Word (length values) steps l) w × Chain is_point joins values w a b
    many_of l (no_turn a p) = ([], none, (p, refl))
    many_of l (a_turn a b c h t) =
        let r = many_of l t in
        (h.0 ++ r.0, some h.0 r.0 h.1 r.1, (chain-append h.0 r.0 a c).1 (b, h.2, r.2))

    joins-star : (v l : ℕ) → IsStep (length values) steps v (Star l) → (a b : P)
        → ValueJoins is_point joins values steps v a b ↔ Turns is_point (ValueJoins is_point joins values steps l) a b
    joins-star v l s a b = (
      λ h. turns_of l (word-star (length values) steps h.1 l s) a b h.2,
      λ t. let r = many_of l t in (r.0, star-word (length values) steps v l s r.1, r.2),
    )

    turns_grow : (R S : P → P → Type 0) → ((a b : P) → R a b → S a b) → {a b : P} → Turns is_point R a b → Turns is_point S a b
    turns_grow R S f (no_turn a p) = no_turn a p
    turns_grow R S f (a_turn a b c h t) = a_turn a b c (f a b h) (turns_grow R S f t)

    -- the value of a number joins what its words join
    pub value-joins : (last : List ℕ) (k : ℕ) (made : List (Option V)) → AreMade is_point joins values steps last k made → (v : ℕ) (x : V)
        → value_in values made v ≡ Some x → (a b : P) → joins x a b ↔ ValueJoins is_point joins values steps v a b
    value-joins last k made h v x e a b =
        elim (cases_lt v (length values)) [
          | inl l ↦ joins-arc v x l (sym (value_arc values made v l) ∙ e) a b
          | inr l ↦
              let there = kept_some (slice_get made (v - length values)) x (sym (value_made values made v l) ∙ e) in
              let same : length values + (v - length values) ≡ v = omega arith in
              subst (λ u. joins x a b ↔ ValueJoins is_point joins values steps u a b) same (h.exact (v - length values) x there a b)
        ]

    -- the value of the next step joins what its words join
    step_joins : (last : List ℕ) (k : ℕ) (made : List (Option V)) → AreMade is_point joins values steps last k made → (v : ℕ) (s : Step) (x : V)
        → IsStep (length values) steps v s → ((u : ℕ) → Names s u → IsSome (value_in values made u)) → StepJoins is_point joins (value_in values made) s x
        → (a b : P) → joins x a b ↔ ValueJoins is_point joins values steps v a b
    step_joins last k made h v (Plus l r) x s there j a b =
        let y = some_value (value_in values made l) (there l (inl refl)) in
        let z = some_value (value_in values made r) (there r (inr refl)) in
        let ey = value-joins last k made h l y.0 y.1 a b in
        let ez = value-joins last k made h r z.0 z.1 a b in
        let n = j y.0 z.0 y.1 z.1 a b in
        let m = joins-plus v l r s a b in (
          λ q. m.1 (elim (n.0 q) [ inl c ↦ inl (ey.0 c) | inr c ↦ inr (ez.0 c) ]),
          λ q. n.1 (elim (m.0 q) [ inl c ↦ inl (ey.1 c) | inr c ↦ inr (ez.1 c) ]),
        )
    step_joins last k made h v (Times l r) x s there j a b =
        let y = some_value (value_in values made l) (there l (inl refl)) in
        let z = some_value (value_in values made r) (there r (inr refl)) in
        let n = j y.0 z.0 y.1 z.1 a b in
        let m = joins-times v l r s a b in (
          λ q. let c = n.0 q in m.1 (c.0, (value-joins last k made h l y.0 y.1 a c.0).0 c.1, (value-joins last k made h r z.0 z.1 c.0 b).0 c.2),
          λ q. let c = m.0 q in n.1 (c.0, (value-joins last k made h l y.0 y.1 a c.0).1 c.1, (value-joins last k made h r z.0 z.1 c.0 b).1 c.2),
        )
    step_joins last k made h v (Star l) x s there j a b =
        let y = some_value (value_in values made l) (there l refl) in
        let n = j y.0 y.1 a b in
        let m = joins-star v l s a b in (
          λ q. m.1 (turns_grow (joins y.0) (ValueJoins is_point joins values steps l) (λ c d t. (value-joins last k made h l y.0 y.1 c d).0 t) (n.0 q)),
          λ q. n.1 (turns_grow (ValueJoins is_point joins values steps l) (joins y.0) (λ c d t. (value-joins last k made h l y.0 y.1 c d).1 t) (m.0 q)),
        )

    -- what step k uses is still kept
    pub step-there : (answers : List (Option ℕ)) (last : List ℕ) (k : ℕ) (made : List (Option V)) → AreMade is_point joins values steps last k made
        → EachNamesLower (length values) steps → AreLastUses (length values) steps answers last → (s : Step) → slice_get steps k ≡ Some s
        → (v : ℕ) → Names s v → IsSome (value_in values made v)
    step-there answers last k made h low uses s e v named =
        let l = named-lower (length values) steps low k s e v named in
        let size = h.size in
        value-there values made v (omega arith) (λ g m.
        let early = h.kept (v - length values) g in
        let same : v ≡ length values + (v - length values) = omega arith in
        let late = uses.used k (v - length values) s e (subst (Names s) same named) in
        omega arith)

    pub answer-there : (answers : List (Option ℕ)) (last : List ℕ) (made : List (Option V)) → AreMade is_point joins values steps last (length steps) made
        → AnswersBelow (length values + length steps) answers → AreLastUses (length values) steps answers last → (k v : ℕ) → slice_get answers k ≡ Some (Some v)
        → IsSome (value_in values made v)
    answer-there answers last made h below uses k v e =
        let l = below k (Some v) e in
        let size = h.size in
        value-there values made v (omega arith) (λ g m.
        let early = h.kept (v - length values) g in
        let same : v ≡ length values + (v - length values) = omega arith in
        let late = uses.answered k (v - length values) (subst (λ x. slice_get answers k ≡ Some (Some x)) same e) in
        omega arith)

    pub made-none : (last : List ℕ) (made : List (Option V)) → made ≡ [] → AreMade is_point joins values steps last 0 made
    made-none last made e =
        let gone : (j : ℕ) → slice_get made j ≡ None = λ j. ap (λ s. slice_get s j) e in
        record { size = ap length e; exact = λ j x f. let g = gone j in absurd (cc); kept = λ j f. let g = gone j in absurd (cc) }

    -- one more step is run
    pub made-more : (answers : List (Option ℕ)) (last : List ℕ) (k : ℕ) (made grown new : List (Option V)) → AreMade is_point joins values steps last k made
        → EachNamesLower (length values) steps → AreLastUses (length values) steps answers last → (s : Step) → slice_get steps k ≡ Some s
        → (x : V) → StepJoins is_point joins (value_in values made) s x → grown ≡ made ++ Some x ∷ [] → IsReleased last k grown new
        → AreMade is_point joins values steps last (k + 1) new
    made-more answers last k made grown new h low uses s e x j f r =
        let size = h.size in
        let grew : length grown ≡ k + 1 = omega (arith, ap length f, length-append made (Some x ∷ [])) in
        let at : (i : ℕ) → slice_get grown i ≡ slice_get (made ++ Some x ∷ []) i = λ i. ap (λ t. slice_get t i) f in
        let step : IsStep (length values) steps (length values + k) s =
        let here : k ≡ length values + k - length values = omega arith in
        record { after = omega arith; stands = subst (λ i. slice_get steps i ≡ Some s) here e } in
        record {
          size = omega (arith, r.size, grew);
          exact = λ i y g a b.
              elim (r.each i) [
                | inl old ↦
                    let was : slice_get (made ++ Some x ∷ []) i ≡ Some (Some y) = sym (at i) ∙ sym old ∙ g in
                    elim (cases_lt i k) [
                      | inl l ↦ h.exact i y (get-less made (Some x ∷ []) i (Some y) (omega arith) was) a b
                      | inr l ↦
                          let q = get-last_same made (Some x) i (Some y) (omega arith) was in
                          let same : x ≡ y = let q1 = q.1 in cc in
                          let place : i ≡ k = omega (arith, q.0) in
                          subst (λ z. joins z a b ↔ ValueJoins is_point joins values steps (length values + i) a b) same
                          (subst (λ m. joins x a b ↔ ValueJoins is_point joins values steps (length values + m) a b) (sym place)
                          (step_joins last k made h (length values + k) s x step (step-there answers last k made h low uses s e) j a b))
                    ]
                | inr gone ↦ absurd (let n = gone.0 in cc)
              ];
          kept = λ i g.
              elim (r.each i) [
                | inl old ↦
                    let was : slice_get (made ++ Some x ∷ []) i ≡ Some None = sym (at i) ∙ sym old ∙ g in
                    elim (cases_lt i k) [
                      | inl l ↦ let b = h.kept i (get-less made (Some x ∷ []) i None (omega arith) was) in omega arith
                      | inr l ↦ let q = (get-last_same made (Some x) i None (omega arith) was).1 in absurd (cc)
                    ]
                | inr gone ↦ let b = gone.1 in omega arith
              ];
        }

    pub made-all : (last : List ℕ) (k bound : ℕ) (made : List (Option V)) → k ≡ bound → AreMade is_point joins values steps last k made → AreMade is_point joins values steps last bound made
    made-all last k bound made e h = subst (λ x. AreMade is_point joins values steps last x made) e h

-- the answers one by one
pub answer-at : (arcs : List Ends) (steps : List Step) (start : ℕ) (targets : List ℕ) (answers : List (Option ℕ)) → AreAnswers arcs steps start targets answers
    → (length answers ≡ length targets) × ((k t : ℕ) (o : Option ℕ) → slice_get targets k ≡ Some t → slice_get answers k ≡ Some o → IsAnswer arcs steps start t o)
answer-at arcs steps start [] [] h = (refl, λ k t o e f. absurd (cc))
answer-at arcs steps start [] (a ∷ as') h = absurd h
answer-at arcs steps start (t ∷ ts) [] h = absurd h
answer-at arcs steps start (t ∷ ts) (a ∷ as') h = let r = answer-at arcs steps start ts as' h.1 in (ap suc r.0, at r.1)
  where
    at : ((k t : ℕ) (o : Option ℕ) → slice_get ts k ≡ Some t → slice_get as' k ≡ Some o → IsAnswer arcs steps start t o)
        → (k u : ℕ) (o : Option ℕ) → slice_get (t ∷ ts) k ≡ Some u → slice_get (a ∷ as') k ≡ Some o → IsAnswer arcs steps start u o
    at f zero u o e g = let x : t ≡ u = cc in let y : a ≡ o = cc in subst (λ z. IsAnswer arcs steps start z o) x (subst (IsAnswer arcs steps start t) y h.0)
    at f (suc k) u o e g = f k u o e g

module _ {P V : Type 0} (is_point : P → Type 0) (joins : V → P → P → Type 0) (points : (x : V) (a b : P) → joins x a b → is_point a × is_point b) (arcs : List (Entry V)) where
  -- one value that is handed out joins what some path joins
  one_answer : (steps : List Step) (last : List ℕ) (made : List (Option V)) → AreMade is_point joins (values_of arcs) steps last (length steps) made
      → (start t : ℕ) (o : Option ℕ) (x : V) → length (ends_of arcs) ≡ length (values_of arcs)
      → IsAnswer (ends_of arcs) steps start t o → ((v : ℕ) → o ≡ Some v → IsSome (value_in (values_of arcs) made v)) → AnswerJoins joins (value_in (values_of arcs) made) o x
      → (a b : P) → joins x a b ↔ PathJoins is_point joins arcs start t a b
  one_answer steps last made h start t None x size right there j a b = (λ q. absurd (j a b q), λ r. absurd ((right.words r.0).1 r.1))
  one_answer steps last made h start t (Some v) x size right there j a b =
      let y = some_value (value_in (values_of arcs) made v) (there v refl) in
      let n = j y.0 y.1 a b in
      let m = value-joins is_point joins points (values_of arcs) steps last (length steps) made h v y.0 y.1 a b in (
        λ q. let c = m.0 (n.0 q) in (c.0, (right.words c.0).0 (subst (λ s. Word s steps v c.0) (sym size) c.1), c.2),
        λ r. n.1 (m.1 (r.0, subst (λ s. Word s steps v r.0) size ((right.words r.0).1 r.1), r.2)),
      )

  -- the values that are handed out join what some path joins
  pub answers-join : (steps : List Step) (last : List ℕ) (made : List (Option V)) → AreMade is_point joins (values_of arcs) steps last (length steps) made
      → (start : ℕ) (targets : List ℕ) (answers : List (Option ℕ)) (xs : List V) → length (ends_of arcs) ≡ length (values_of arcs)
      → AreAnswers (ends_of arcs) steps start targets answers → ((k v : ℕ) → slice_get answers k ≡ Some (Some v) → IsSome (value_in (values_of arcs) made v))
      → length xs ≡ length answers → EachAnswerJoins joins (value_in (values_of arcs) made) answers xs → AnswersJoin is_point joins arcs start targets xs
  answers-join steps last made h start targets answers xs size right there count each =
      let r = answer-at (ends_of arcs) steps start targets answers right in
      record {
        size = count ∙ r.0;
        each = λ k t x e f a b.
            let within : k < length answers = omega (arith, slice_get_within xs k x f, count) in
            let o = get-some answers k within in
            one_answer steps last made h start t o.0 x size (r.1 k t o.0 e o.1) (λ v g. there k v (o.1 ∙ ap Some g)) (each k o.0 x o.1 f) a b;
      }

-- one more answer has its value
pub answers-more_joined : {P V : Type 0} (joins : V → P → P → Type 0) (value : ℕ → Option V) (answers : List (Option ℕ)) (xs grown : List V) (k : ℕ) (o : Option ℕ) (x : V)
    → length xs ≡ k → EachAnswerJoins joins value answers xs → slice_get answers k ≡ Some o → AnswerJoins joins value o x → grown ≡ xs ++ x ∷ []
    → EachAnswerJoins joins value answers grown
answers-more_joined joins value answers xs grown k o x size h e j f i p y g d =
    let was : slice_get (xs ++ x ∷ []) i ≡ Some y = ap (λ s. slice_get s i) (sym f) ∙ d in
    elim (cases_lt i k) [
      | inl l ↦ h i p y g (get-less xs (x ∷ []) i y (omega arith) was)
      | inr l ↦
          let q = get-last_same xs x i y (omega arith) was in
          let place : i ≡ k = omega (arith, q.0) in
          let same : o ≡ p = let z : ◌≡◌ {A = Option (Option ℕ)} (Some o) (Some p) = sym e ∙ ap (slice_get answers) (sym place) ∙ g in cc in
          subst (λ z. AnswerJoins joins value z y) same (subst (AnswerJoins joins value o) q.1 j)
    ]

module _ {P V : Type 0} (is_point : P → Type 0) (joins : V → P → P → Type 0) (points : (x : V) (a b : P) → joins x a b → is_point a × is_point b) (arcs : List (Entry V))
    (steps plan_steps : List Step) (same_steps : steps ≡ plan_steps) (answers plan_answers : List (Option ℕ)) (same_answers : answers ≡ plan_answers)
    (last uses : List ℕ) (same_uses : uses ≡ last) (made slice : List (Option V)) (same_made : slice ≡ made)
    (first : ℕ) (same_first : first ≡ length arcs) where
  -- as the code sees it: the values of the answers are there
  pub answers-there : AreMade is_point joins (values_of arcs) steps uses (length steps) made → AnswersBelow (length arcs + length plan_steps) plan_answers
      → AreLastUses first steps answers last → (k v : ℕ) → slice_get answers k ≡ Some (Some v) → IsSome (value_in (values_of arcs) slice v)
  answers-there h below lasts k v e =
      let count : length arcs ≡ length (values_of arcs) = sym (length-values arcs) in
      let one : first ≡ length (values_of arcs) = same_first ∙ count in
      subst (λ m. IsSome (value_in (values_of arcs) m v)) (sym same_made)
      (answer-there is_point joins points (values_of arcs) steps answers uses made h
      (subst (λ n. AnswersBelow (n + length steps) answers) count
      (subst (λ s. AnswersBelow (length arcs + length s) answers) (sym same_steps) (subst (AnswersBelow (length arcs + length plan_steps)) (sym same_answers) below)))
      (subst (λ n. AreLastUses n steps answers uses) one (subst (AreLastUses first steps answers) (sym same_uses) lasts)) k v e)

  -- as the code sees it: the values that are handed out are right
  pub answers-right : (start : ℕ) (targets : List ℕ) (xs out : List V) → out ≡ xs → AreMade is_point joins (values_of arcs) steps uses (length steps) made
      → AnswersBelow (length arcs + length plan_steps) plan_answers → AreLastUses first steps answers last → AreAnswers (ends_of arcs) plan_steps start targets plan_answers
      → length xs ≡ length answers → EachAnswerJoins joins (value_in (values_of arcs) slice) answers xs → AnswersJoin is_point joins arcs start targets out
  answers-right start targets xs out same_out h below lasts right count each =
      subst (AnswersJoin is_point joins arcs start targets) (sym same_out)
      (answers-join is_point joins points arcs steps uses made h start targets answers xs (length-ends arcs ∙ sym (length-values arcs))
      (subst (λ s. AreAnswers (ends_of arcs) s start targets answers) (sym same_steps)
      (subst (AreAnswers (ends_of arcs) plan_steps start targets) (sym same_answers) right))
      (λ k v e. subst (λ m. IsSome (value_in (values_of arcs) m v)) same_made (answers-there h below lasts k v e))
      count (subst (λ m. EachAnswerJoins joins (value_in (values_of arcs) m) answers xs) same_made each))
