-- The marks of the steps that an answer uses, from the last step to the first.
use Rattle.std.proofs.Common.{◌≡◌, ◌⊎◌, inl, inr, refl, sym, ap, ◌∙◌, subst, ℕ, ◌+◌, ◌-◌, ◌<◌, ◌≤◌, ltb, Bool, true, false, Option, Some, None, List, length, replicate, slice_get, get_or, set, arith, lt-ltb, le-ltb}
use Rattle.std.proofs.lemmas.Bool.{cond-true, cond-false, cases_lt}
use Rattle.std.proofs.lemmas.List.{length-set, length-replicate}
use Rattle.std.proofs.lemmas.Option.{slice_get_within, same_Some}
use Rattle.flow_graph.specs.Search.{IsMarked}
use Rattle.flow_graph.proofs.Spreading.{marked_within, none_marked, marked_new, marked_cases, marked_old}
use Rattle.regular_algebra.specs.Words.{IsStep, EachNamesLower}
use Rattle.regular_algebra.specs.Answers.{IsNumberBelow}
use Rattle.regular_algebra.specs.Run.{Names}
use Rattle.regular_algebra.specs.declared.steps.Step.{Step}
use Rattle.regular_algebra.specs.declared.steps.Step.TheVariants.{Plus, Times, Star}
use Rattle.regular_algebra.proofs.Uses.{named-lower}
use Rattle.path_expr.specs.Definitions.{IsUsed, itself, a_side, MarksUsed}
use Rattle.path_expr.specs.Marks.{marked, marked_sides, marked_answer}

-- a mark keeps the length
pub length-marked : (n v : ℕ) (used : List Bool) → length (marked n v used) ≡ length used
length-marked n v used = elim (cases_lt v n) [
  | inl l ↦ ap length (cond-true (ltb v n) used (set used (v - n) true) (lt-ltb v n l))
  | inr l ↦ ap length (cond-false (ltb v n) used (set used (v - n) true) (le-ltb v n l)) ∙ length-set used (v - n) true
]

-- what is marked was so before, or is the value
here_or_before : (n v j : ℕ) (used : List Bool) → IsMarked (marked n v used) j → (v ≡ n + j) ⊎ IsMarked used j
here_or_before n v j used h = elim (cases_lt v n) [
  | inl l ↦ inr (subst (λ (us : List Bool). IsMarked us j) (cond-true (ltb v n) used (set used (v - n) true) (lt-ltb v n l)) h)
  | inr l ↦
      elim (marked_cases used (v - n) j (subst (λ (us : List Bool). IsMarked us j) (cond-false (ltb v n) used (set used (v - n) true) (le-ltb v n l)) h)) [
        | inl same ↦ inl (omega arith)
        | inr old ↦ inr old
      ]
]

-- what was marked stays so
stays : (n v j : ℕ) (used : List Bool) → v < n + length used → IsMarked used j → IsMarked (marked n v used) j
stays n v j used w h = elim (cases_lt v n) [
  | inl l ↦ subst (λ (us : List Bool). IsMarked us j) (sym (cond-true (ltb v n) used (set used (v - n) true) (lt-ltb v n l))) h
  | inr l ↦
      subst (λ (us : List Bool). IsMarked us j) (sym (cond-false (ltb v n) used (set used (v - n) true) (le-ltb v n l)))
      (marked_old used (v - n) j (omega arith) h)
]

-- the value of a step is marked
gets : (n v j : ℕ) (used : List Bool) → v ≡ n + j → j < length used → IsMarked (marked n v used) j
gets n v j used e w =
    let l : n ≤ v = omega arith in
    let k : v - n ≡ j = omega arith in
    subst (λ (us : List Bool). IsMarked us j) (sym (cond-false (ltb v n) used (set used (v - n) true) (le-ltb v n l)))
    (subst (λ (x : ℕ). IsMarked (set used x true) j) (sym k) (marked_new used j w))

-- two marks
length-two : (n a b : ℕ) (used : List Bool) → length (marked n b (marked n a used)) ≡ length used
length-two n a b used = length-marked n b (marked n a used) ∙ length-marked n a used

two_cases : (n a b j : ℕ) (used : List Bool) → IsMarked (marked n b (marked n a used)) j → ((a ≡ n + j) ⊎ (b ≡ n + j)) ⊎ IsMarked used j
two_cases n a b j used h = elim (here_or_before n b j (marked n a used) h) [
  | inl e ↦ inl (inr e)
  | inr m ↦ elim (here_or_before n a j used m) [ inl e ↦ inl (inl e) | inr o ↦ inr o ]
]

two_stay : (n a b j : ℕ) (used : List Bool) → a < n + length used → b < n + length used → IsMarked used j → IsMarked (marked n b (marked n a used)) j
two_stay n a b j used la lb h =
    let s = length-marked n a used in
    stays n b j (marked n a used) (omega (arith, s, lb)) (stays n a j used la h)

two_get : (n a b j : ℕ) (used : List Bool) → a < n + length used → b < n + length used → (a ≡ n + j) ⊎ (b ≡ n + j) → j < length used
    → IsMarked (marked n b (marked n a used)) j
two_get n a b j used la lb (inl e) w =
    let s = length-marked n a used in
    stays n b j (marked n a used) (omega (arith, s, lb)) (gets n a j used e w)
two_get n a b j used la lb (inr e) w = let s = length-marked n a used in gets n b j (marked n a used) e (omega (arith, s, w))

-- the marks of a step's sides
pub length-sides : (n : ℕ) (s : Step) (used : List Bool) → length (marked_sides n s used) ≡ length used
length-sides n (Plus a b) used = length-two n a b used
length-sides n (Times a b) used = length-two n a b used
length-sides n (Star a) used = length-marked n a used

sides_cases : (n : ℕ) (s : Step) (j : ℕ) (used : List Bool) → IsMarked (marked_sides n s used) j → Names s (n + j) ⊎ IsMarked used j
sides_cases n (Plus a b) j used h = two_cases n a b j used h
sides_cases n (Times a b) j used h = two_cases n a b j used h
sides_cases n (Star a) j used h = here_or_before n a j used h

sides_stay : (n : ℕ) (s : Step) (j : ℕ) (used : List Bool) → ((v : ℕ) → Names s v → v < n + length used) → IsMarked used j → IsMarked (marked_sides n s used) j
sides_stay n (Plus a b) j used l h = two_stay n a b j used (l a (inl refl)) (l b (inr refl)) h
sides_stay n (Times a b) j used l h = two_stay n a b j used (l a (inl refl)) (l b (inr refl)) h
sides_stay n (Star a) j used l h = stays n a j used (l a refl) h

sides_get : (n : ℕ) (s : Step) (j : ℕ) (used : List Bool) → ((v : ℕ) → Names s v → v < n + length used) → Names s (n + j) → j < length used
    → IsMarked (marked_sides n s used) j
sides_get n (Plus a b) j used l h w = two_get n a b j used (l a (inl refl)) (l b (inr refl)) h w
sides_get n (Times a b) j used l h w = two_get n a b j used (l a (inl refl)) (l b (inr refl)) h w
sides_get n (Star a) j used l h w = gets n a j used h w

-- the steps from k on have marked what they name, as far as they are marked
pub record Using (n : ℕ) (steps : List Step) (answer : Option ℕ) (k : ℕ) (used : List Bool) : Type 0 where
  pub size : length used ≡ length steps
  pub sound : (j : ℕ) → IsMarked used j → (j < length steps) × IsUsed n steps answer (n + j)
  pub answered : (j : ℕ) → answer ≡ Some (n + j) → IsMarked used j
  pub closed : (j m : ℕ) (s : Step) → k ≤ j → IsMarked used j → slice_get steps j ≡ Some s → Names s (n + m) → IsMarked used m

-- the first answer's mark
answer_cases : (n : ℕ) (answer : Option ℕ) (j len : ℕ) → IsMarked (marked_answer n answer (replicate len false)) j → answer ≡ Some (n + j)
answer_cases n None j len h = absurd (none_marked len j h)
answer_cases n (Some v) j len h = elim (here_or_before n v j (replicate len false) h) [ inl e ↦ ap Some e | inr m ↦ absurd (none_marked len j m) ]

length-answer : (n : ℕ) (answer : Option ℕ) (used : List Bool) → length (marked_answer n answer used) ≡ length used
length-answer n None used = refl
length-answer n (Some v) used = length-marked n v used

answer_get : (n : ℕ) (answer : Option ℕ) (j : ℕ) (used : List Bool) → answer ≡ Some (n + j) → IsNumberBelow (n + length used) answer
    → IsMarked (marked_answer n answer used) j
answer_get n None j used e b = absurd (cc)
answer_get n (Some v) j used e b = let f : v ≡ n + j = same_Some v (n + j) e in gets n v j used f (omega arith)

pub using_start : (n : ℕ) (steps : List Step) (answer : Option ℕ) (used : List Bool) → used ≡ marked_answer n answer (replicate (length steps) false)
    → IsNumberBelow (n + length steps) answer → Using n steps answer (length steps) used
using_start n steps answer used e b = record {
  size = size;
  sound = λ j h.
      let l = marked_within used j h in
      (omega (arith, l, size), itself (n + j) (answer_cases n answer j (length steps) (subst (λ (us : List Bool). IsMarked us j) e h)));
  answered = λ j a.
      subst (λ (us : List Bool). IsMarked us j) (sym e)
      (answer_get n answer j (replicate (length steps) false) a
      (subst (λ (x : ℕ). IsNumberBelow (n + x) answer) (sym (length-replicate (length steps) false)) b));
  closed = λ j m s l h g t. let w = slice_get_within steps j s g in absurd (omega arith);
}
  where
    size : length used ≡ length steps
    size = ap length e ∙ length-answer n answer (replicate (length steps) false) ∙ length-replicate (length steps) false

-- a step that is not marked has nothing to mark
pub using_skip : (n : ℕ) (steps : List Step) (answer : Option ℕ) (k i : ℕ) (used : List Bool) → i + 1 ≡ k → Using n steps answer k used
    → get_or used i false ≡ false → Using n steps answer i used
using_skip n steps answer k i used e u f = record {
  size = u.size;
  sound = u.sound;
  answered = u.answered;
  closed = λ j m s l h g t. elim (cases_lt i j) [
    | inl more ↦ u.closed j m s (omega arith) h g t
    | inr less ↦ let same : j ≡ i = omega arith in let h' : get_or used i false ≡ true = subst (λ (x : ℕ). IsMarked used x) same h in absurd (cc)
  ];
}

-- a marked step marks what it names
pub using_mark : (n : ℕ) (steps : List Step) (answer : Option ℕ) (k i : ℕ) (s : Step) (used now : List Bool) → i + 1 ≡ k → Using n steps answer k used
    → EachNamesLower n steps → slice_get steps i ≡ Some s → IsMarked used i → now ≡ marked_sides n s used → Using n steps answer i now
using_mark n steps answer k i s used now e u low g marks is = record {
  size = ap length is ∙ length-sides n s used ∙ u.size;
  sound = λ j h. elim (cases j h) [ inl t ↦ (within j t, a_side (n + i) (n + j) s (u.sound i marks).1 step t) | inr old ↦ u.sound j old ];
  answered = λ j a. keeps j (u.answered j a);
  closed = closed;
}
  where
    named : (v : ℕ) → Names s v → v < n + length used
    named v h = let l = named-lower n steps low i s g v h in let w = slice_get_within steps i s g in let z = u.size in omega arith

    step : IsStep n steps (n + i) s
    step = let x : n + i - n ≡ i = omega arith in record { after = omega arith; stands = subst (λ (y : ℕ). slice_get steps y ≡ Some s) (sym x) g }

    within : (j : ℕ) → Names s (n + j) → j < length steps
    within j t = let l = named (n + j) t in let z = u.size in omega arith

    cases : (j : ℕ) → IsMarked now j → Names s (n + j) ⊎ IsMarked used j
    cases j h = sides_cases n s j used (subst (λ (us : List Bool). IsMarked us j) is h)

    keeps : (j : ℕ) → IsMarked used j → IsMarked now j
    keeps j h = subst (λ (us : List Bool). IsMarked us j) (sym is) (sides_stay n s j used named h)

    made : (m : ℕ) → Names s (n + m) → IsMarked now m
    made m t = subst (λ (us : List Bool). IsMarked us m) (sym is) (sides_get n s m used named t (let w = within m t in let z = u.size in omega arith))

    closed : (j m : ℕ) (t : Step) → i ≤ j → IsMarked now j → slice_get steps j ≡ Some t → Names t (n + m) → IsMarked now m
    closed j m t l h h2 h3 = elim (cases_lt i j) [
      | inl more ↦
          elim (cases j h) [
            | inl x ↦ let y = named-lower n steps low i s g (n + j) x in absurd (omega arith)
            | inr old ↦ keeps m (u.closed j m t (omega arith) old h2 h3)
          ]
      | inr less ↦
          let same : j ≡ i = omega arith in
          let f : t ≡ s = same_Some t s (sym h2 ∙ subst (λ (x : ℕ). slice_get steps x ≡ Some s) (sym same) g) in
          made m (subst (λ (x : Step). Names x (n + m)) f h3)
    ]

-- at the end exactly what is used is marked
pub using_end : (n : ℕ) (steps : List Step) (answer : Option ℕ) (used : List Bool) → Using n steps answer 0 used → EachNamesLower n steps
    → IsNumberBelow (n + length steps) answer → MarksUsed n steps answer used
using_end n steps answer used u low b = record { size = u.size; exact = λ k. (u.sound k, λ h. whole (n + k) h.1 k refl) }
  where
    whole : (v : ℕ) → IsUsed n steps answer v → (k : ℕ) → v ≡ n + k → IsMarked used k
    whole v (itself _ a) k e = u.answered k (a ∙ ap Some e)
    whole v (a_side w _ s h st t) k e =
        let l = st.after in
        let f : w ≡ n + (w - n) = omega arith in
        u.closed (w - n) k s (omega arith) (whole w h (w - n) f) st.stands (subst (λ (x : ℕ). Names s x) e t)
