-- The last uses of values, marked step by step.
use Rattle.std.proofs.Common.{◌≡◌, refl, sym, ap, ◌∙◌, subst, ℕ, ◌+◌, ◌-◌, ◌<◌, ◌≤◌, ◌⊎◌, inl, inr, ltb, Option, Some, None, List, length, slice_get, get_or, set, arith, lt-ltb, le-ltb, get_or-set_same, get_or-set_other, length-set}
use Rattle.std.proofs.lemmas.Bool.{cond-true, cond-false, cases_lt, cases_order}
use Rattle.std.proofs.lemmas.List.{set_past}
use Rattle.std.proofs.lemmas.Option.{slice_get_within}
use Rattle.regular_algebra.specs.Words.{NamesLower, EachNamesLower}
use Rattle.regular_algebra.specs.Answers.{IsNumberBelow, AnswersBelow}
use Rattle.regular_algebra.specs.Run.{Names, AreLastUses, UsesAreMarked, AnswersAreMarked, marked, marked_step, marked_answer}
use Rattle.regular_algebra.specs.declared.steps.Step.{Step}
use Rattle.regular_algebra.specs.declared.steps.Step.TheVariants.{Plus, Times, Star}

-- what a step names is lower
lower_named : (v : ℕ) (s : Step) → NamesLower v s → (u : ℕ) → Names s u → u < v
lower_named v (Plus a b) l u (inl e) = let m = l.0 in omega arith
lower_named v (Plus a b) l u (inr e) = let m = l.1 in omega arith
lower_named v (Times a b) l u (inl e) = let m = l.0 in omega arith
lower_named v (Times a b) l u (inr e) = let m = l.1 in omega arith
lower_named v (Star a) l u e = omega arith

-- what step k uses is below its own value
pub named-lower : (n : ℕ) (steps : List Step) → EachNamesLower n steps → (k : ℕ) (s : Step) → slice_get steps k ≡ Some s → (v : ℕ) → Names s v → v < n + k
named-lower n steps low k s e v h = lower_named (n + k) s (low k s e) v h

-- a sum or a product names both sides
pub name-sides : (s : Step) (a b : ℕ) → (s ≡ Plus a b) ⊎ (s ≡ Times a b) → Names s a × Names s b
name-sides s a b (inl e) = (subst (λ t. Names t a) (sym e) (inl refl), subst (λ t. Names t b) (sym e) (inr refl))
name-sides s a b (inr e) = (subst (λ t. Names t a) (sym e) (inl refl), subst (λ t. Names t b) (sym e) (inr refl))

-- a star names its side
pub name-star : (s : Step) (a : ℕ) → s ≡ Star a → Names s a
name-star s a e = subst (λ t. Names t a) (sym e) refl

-- a mark keeps the length
pub length-marked : (n v at : ℕ) (last : List ℕ) → length (marked n v at last) ≡ length last
length-marked n v at last =
    elim (cases_lt v n) [
      | inl l ↦ ap length (cond-true (ltb v n) last (set last (v - n) at) (lt-ltb v n l))
      | inr l ↦ ap length (cond-false (ltb v n) last (set last (v - n) at) (le-ltb v n l)) ∙ length-set last (v - n) at
    ]

-- a mark changes nothing, or to this step
marked-cases : (n v at : ℕ) (last : List ℕ) (i : ℕ) → (get_or (marked n v at last) i 0 ≡ get_or last i 0) ⊎ (get_or (marked n v at last) i 0 ≡ at)
marked-cases n v at last i =
    elim (cases_lt v n) [
      | inl l ↦ inl (ap (λ s. get_or s i 0) (cond-true (ltb v n) last (set last (v - n) at) (lt-ltb v n l)))
      | inr l ↦
          let e = ap (λ s. get_or s i 0) (cond-false (ltb v n) last (set last (v - n) at) (le-ltb v n l)) in
          elim (cases_order i (v - n)) [
            | inl same ↦
                elim (cases_lt i (length last)) [
                  | inl w ↦ inr (e ∙ ap (λ x. get_or (set last x at) i 0) (sym same) ∙ get_or-set_same last i at 0 w)
                  | inr p ↦ inl (e ∙ ap (λ x. get_or (set last x at) i 0) (sym same) ∙ ap (λ s. get_or s i 0) (set_past last i at p))
                ]
            | inr other ↦
                let ne : i ≡ v - n → ⊥ = λ q. elim other [ inl a ↦ omega arith | inr a ↦ omega arith ] in
                inl (e ∙ get_or-set_other last (v - n) i at 0 ne)
          ]
    ]

-- a mark is made where the value is a step's
marked-here : (n v at : ℕ) (last : List ℕ) (i : ℕ) → n + i ≡ v → i < length last → get_or (marked n v at last) i 0 ≡ at
marked-here n v at last i h w =
    let l : n ≤ v = omega arith in
    let same : v - n ≡ i = omega arith in
    ap (λ s. get_or s i 0) (cond-false (ltb v n) last (set last (v - n) at) (le-ltb v n l)) ∙ ap (λ x. get_or (set last x at) i 0) same
    ∙ get_or-set_same last i at 0 w

-- two marks
twice-cases : (n a b at : ℕ) (last : List ℕ) (i : ℕ)
    → (get_or (marked n b at (marked n a at last)) i 0 ≡ get_or last i 0) ⊎ (get_or (marked n b at (marked n a at last)) i 0 ≡ at)
twice-cases n a b at last i =
    elim (marked-cases n b at (marked n a at last) i) [
      | inl e ↦ elim (marked-cases n a at last i) [ inl f ↦ inl (e ∙ f) | inr f ↦ inr (e ∙ f) ]
      | inr e ↦ inr e
    ]

twice-here : (n a b at : ℕ) (last : List ℕ) (i : ℕ) → (a ≡ n + i) ⊎ (b ≡ n + i) → i < length last → get_or (marked n b at (marked n a at last)) i 0 ≡ at
twice-here n a b at last i (inl e) w =
    elim (marked-cases n b at (marked n a at last) i) [ inl f ↦ f ∙ marked-here n a at last i (sym e) w | inr f ↦ f ]
twice-here n a b at last i (inr e) w =
    let size = length-marked n a at last in
    marked-here n b at (marked n a at last) i (sym e) (omega arith)

-- the marks of a step
step-cases : (n : ℕ) (s : Step) (at : ℕ) (last : List ℕ) (i : ℕ) → (get_or (marked_step n s at last) i 0 ≡ get_or last i 0) ⊎ (get_or (marked_step n s at last) i 0 ≡ at)
step-cases n (Plus a b) at last i = twice-cases n a b at last i
step-cases n (Times a b) at last i = twice-cases n a b at last i
step-cases n (Star a) at last i = marked-cases n a at last i

step-here : (n : ℕ) (s : Step) (at : ℕ) (last : List ℕ) (i : ℕ) → Names s (n + i) → i < length last → get_or (marked_step n s at last) i 0 ≡ at
step-here n (Plus a b) at last i h w = twice-here n a b at last i h w
step-here n (Times a b) at last i h w = twice-here n a b at last i h w
step-here n (Star a) at last i h w = marked-here n a at last i (sym h) w

pub length-marked_step : (n : ℕ) (s : Step) (at : ℕ) (last : List ℕ) → length (marked_step n s at last) ≡ length last
length-marked_step n (Plus a b) at last = length-marked n b at (marked n a at last) ∙ length-marked n a at last
length-marked_step n (Times a b) at last = length-marked n b at (marked n a at last) ∙ length-marked n a at last
length-marked_step n (Star a) at last = length-marked n a at last

-- what is kept or marked is late enough
at_least : (x y j at : ℕ) → (x ≡ y) ⊎ (x ≡ at) → j ≤ y → j ≤ at → j ≤ x
at_least x y j at (inl e) l m = omega arith
at_least x y j at (inr e) l m = omega arith

-- one more step's uses are marked
pub uses-more : (n : ℕ) (steps : List Step) (last new : List ℕ) (k : ℕ) (s : Step) → EachNamesLower n steps → length last ≡ length steps
    → UsesAreMarked n steps k last → slice_get steps k ≡ Some s → new ≡ marked_step n s k last → UsesAreMarked n steps (k + 1) new
uses-more n steps last new k s low size u e f j i t l g h =
    let a = named-lower n steps low j t g (n + i) h in
    let b = slice_get_within steps j t g in
    let within : i < length last = omega arith in
    subst (λ x. j ≤ get_or x i 0) (sym f) (
    elim (cases_lt j k) [
      | inl m ↦ at_least (get_or (marked_step n s k last) i 0) (get_or last i 0) j k (step-cases n s k last i) (u j i t m g h) (omega arith)
      | inr m ↦
          let same : j ≡ k = omega arith in
          let this : ◌≡◌ {A = Option Step} (Some t) (Some s) = sym g ∙ ap (slice_get steps) same ∙ e in
          let named : Names s (n + i) = let st : t ≡ s = cc in subst (λ x. Names x (n + i)) st h in
          let v = step-here n s k last i named within in
          omega arith
    ]
    )

-- the mark of an answer
answer-cases : (n : ℕ) (o : Option ℕ) (at : ℕ) (last : List ℕ) (i : ℕ) → (get_or (marked_answer n o at last) i 0 ≡ get_or last i 0) ⊎ (get_or (marked_answer n o at last) i 0 ≡ at)
answer-cases n None at last i = inl refl
answer-cases n (Some v) at last i = marked-cases n v at last i

pub length-marked_answer : (n : ℕ) (o : Option ℕ) (at : ℕ) (last : List ℕ) → length (marked_answer n o at last) ≡ length last
length-marked_answer n None at last = refl
length-marked_answer n (Some v) at last = length-marked n v at last

answer-here : (n : ℕ) (o : Option ℕ) (at : ℕ) (last : List ℕ) (i : ℕ) → o ≡ Some (n + i) → i < length last → get_or (marked_answer n o at last) i 0 ≡ at
answer-here n None at last i e w = absurd (cc)
answer-here n (Some v) at last i e w = let s : n + i ≡ v = cc in marked-here n v at last i s w

-- the value of an answer is a step's
number_within : (n size i : ℕ) (o : Option ℕ) → o ≡ Some (n + i) → IsNumberBelow (n + size) o → i < size
number_within n size i None e h = absurd (cc)
number_within n size i (Some v) e h = let s : v ≡ n + i = cc in omega arith

-- one more answer is marked
pub answers-more : (n : ℕ) (answers : List (Option ℕ)) (count : ℕ) (first last new : List ℕ) (k : ℕ) (o : Option ℕ) → AnswersBelow (n + length first) answers
    → length last ≡ length first → AnswersAreMarked n answers k count last → slice_get answers k ≡ Some o → new ≡ marked_answer n o count last
    → AnswersAreMarked n answers (k + 1) count new
answers-more n answers count first last new k o below size u e f j i l g =
    let b = number_within n (length first) i (Some (n + i)) refl (below j (Some (n + i)) g) in
    let within : i < length last = omega arith in
    subst (λ x. count ≤ get_or x i 0) (sym f) (
    elim (cases_lt j k) [
      | inl m ↦ at_least (get_or (marked_answer n o count last) i 0) (get_or last i 0) count count (answer-cases n o count last i) (u j i m g) (omega arith)
      | inr m ↦
          let same : j ≡ k = omega arith in
          let this : ◌≡◌ {A = Option (Option ℕ)} (Some (Some (n + i))) (Some o) = sym g ∙ ap (slice_get answers) same ∙ e in
          let that : o ≡ Some (n + i) = cc in
          let v = answer-here n o count last i that within in
          omega arith
    ]
    )

-- all else is kept
pub kept-more : (n count : ℕ) (first last new : List ℕ) (o : Option ℕ) → ((k : ℕ) → (get_or last k 0 ≡ get_or first k 0) ⊎ (get_or last k 0 ≡ count))
    → new ≡ marked_answer n o count last → (k : ℕ) → (get_or new k 0 ≡ get_or first k 0) ⊎ (get_or new k 0 ≡ count)
kept-more n count first last new o h f k =
    subst (λ x. (get_or x k 0 ≡ get_or first k 0) ⊎ (get_or x k 0 ≡ count)) (sym f) (
    elim (answer-cases n o count last k) [ inl e ↦ elim (h k) [ inl g ↦ inl (e ∙ g) | inr g ↦ inr (e ∙ g) ] | inr e ↦ inr e ]
    )

-- all uses are marked
pub last-uses : (n : ℕ) (steps : List Step) (answers : List (Option ℕ)) (mid last : List ℕ) → length last ≡ length steps
    → UsesAreMarked n steps (length steps) mid → ((k : ℕ) → (get_or last k 0 ≡ get_or mid k 0) ⊎ (get_or last k 0 ≡ length steps))
    → AnswersAreMarked n answers (length answers) (length steps) last → AreLastUses n steps answers last
last-uses n steps answers mid last size used kept answered =
    record {
      size = size;
      used = λ j k s e h.
          let l = slice_get_within steps j s e in
          at_least (get_or last k 0) (get_or mid k 0) j (length steps) (kept k) (used j k s l e h) (omega arith);
      answered = λ j k e. answered j k (slice_get_within answers j (Some (n + k)) e) e;
    }
