-- The decisions on a range, followed.
use Rattle.std.proofs.Common.{◌++◌, ◌+◌, ◌⊎◌, inl, inr, subst, ◌≡◌, refl, sym, ap, ◌∙◌, ℕ, ℤ, Bool, true, false, cond, Option, Some, None, List, [], ◌∷◌}
use Rattle.std.specs.Prelude.{int_lt, int_le}
use Rattle.std.proofs.lemmas.List.{append-nil}
use Rattle.il_core.specs.Expression.{Expression}
use Rattle.std.specs.Option.{option_map}
use Rattle.il_core.specs.Evaluation.{State, whole, holds}
use Rattle.il_core.specs.Machine.{Step, bit, kept, stored, assigned_to, assigned, stepped}
use Rattle.il_core.specs.Bounds.{Bounds, bounds_of}
use Rattle.il_core.specs.Procedure.{instruction_of}
use Rattle.il_core.specs.declared.line.Line.{Line}
use Rattle.il_core.specs.declared.line.Line.TheVariants as l
use Rattle.il_core.specs.declared.line.Next.TheVariants.{At, Halted}
use Rattle.il_core.specs.declared.line.Halt.TheVariants.{DivZero, Range}
use Rattle.test_graph.specs.declared.taken.Taken.{Taken}
use Rattle.test_graph.proofs.FollowedPath.{followed_joined}
use Rattle.il_core.specs.declared.line.Place.{Place}
use Rattle.test_graph.specs.Followed.{followed_one, followed, whole_path, kept_path, flag_path, given_path, line_path, greatest_path, range_path, AlongAt}

pub greatest_asked : (place : Place) (b : Bounds) (v : ℤ) (path : List Bool) (at f : Option ℕ) → int_lt place.greatest b.high ≡ true
    → f ≡ followed_one path at (int_le v place.greatest) → f ≡ followed path at (greatest_path place b v)
greatest_asked place b v path at f h e = e ∙ ap (λ t. followed path at (cond t (int_le v place.greatest ∷ []) [])) (sym h)

pub greatest_skipped : (place : Place) (b : Bounds) (v : ℤ) (path : List Bool) (at : Option ℕ) → int_lt place.greatest b.high ≡ false
    → at ≡ followed path at (greatest_path place b v)
greatest_skipped place b v path at h = ap (λ t. followed path at (cond t (int_le v place.greatest ∷ []) [])) (sym h)

pub range_inside : (place : Place) (b : Bounds) (v : ℤ) (path : List Bool) (at f g : Option ℕ) → int_lt b.low place.least ≡ true → int_le place.least v ≡ true
    → f ≡ followed_one path at (int_le place.least v) → g ≡ followed path f (greatest_path place b v) → g ≡ followed path at (range_path place b v)
range_inside place b v path at f g h i e k =
    k ∙ ap (λ (o : Option ℕ). followed path o (greatest_path place b v)) e
    ∙ ap (λ t. followed path at (int_le place.least v ∷ cond t (greatest_path place b v) [])) (sym i)
    ∙ ap (λ t. followed path at (cond t (int_le place.least v ∷ cond (int_le place.least v) (greatest_path place b v) []) (greatest_path place b v))) (sym h)

pub range_below : (place : Place) (b : Bounds) (v : ℤ) (path : List Bool) (at f : Option ℕ) → int_lt b.low place.least ≡ true → int_le place.least v ≡ false
    → f ≡ followed_one path at (int_le place.least v) → f ≡ followed path at (range_path place b v)
range_below place b v path at f h i e =
    e ∙ ap (λ t. followed path at (int_le place.least v ∷ cond t (greatest_path place b v) [])) (sym i)
    ∙ ap (λ t. followed path at (cond t (int_le place.least v ∷ cond (int_le place.least v) (greatest_path place b v) []) (greatest_path place b v))) (sym h)

pub range_skipped : (place : Place) (b : Bounds) (v : ℤ) (path : List Bool) (at f : Option ℕ) → int_lt b.low place.least ≡ false
    → f ≡ followed path at (greatest_path place b v) → f ≡ followed path at (range_path place b v)
range_skipped place b v path at f h e =
    e ∙ ap (λ t. followed path at (cond t (int_le place.least v ∷ cond (int_le place.least v) (greatest_path place b v) []) (greatest_path place b v))) (sym h)

-- a step whose decisions were followed is one whose decisions are others that are followed so, to an equal end
pub along_same : (at to_at : Option ℕ) (to to_to : Step) (s : State) (result : Option Taken) (to_s : State) → at ≡ to_at → to ≡ to_to
    → AlongAt at to s result to_s → AlongAt to_at to_to s result to_s
along_same at to_at to to_to s result to_s e f h =
    subst (λ (o : Option ℕ). AlongAt o to_to s result to_s) e (subst (λ (t : Step). AlongAt at t s result to_s) f h)

-- a value that is none decides nothing more, and is a division by zero
pub number_none : (places : List Place) (x : Expression) (place : Place) (pc index : ℕ) (s : State) (path : List Bool) (at : Option ℕ) (result : Option Taken)
    → whole x s ≡ None → at ≡ followed path (Some 0) (whole_path places x s) → AlongAt at (record { next = Halted (DivZero pc); state = s }) s result s
    → AlongAt (followed path (Some 0) (whole_path places x s ++ kept_path place (bounds_of places x) (whole x s))) (assigned_to pc index place s (whole x s)) s result s
number_none places x place pc index s path at result h e k =
    along_same at (followed path (Some 0) (whole_path places x s ++ kept_path place (bounds_of places x) (whole x s))) (record { next = Halted (DivZero pc); state = s })
    (assigned_to pc index place s (whole x s)) s result s
    (e ∙ ap (followed path (Some 0)) (sym (append-nil (whole_path places x s)))
    ∙ ap (λ (o : Option ℤ). followed path (Some 0) (whole_path places x s ++ kept_path place (bounds_of places x) o)) (sym h))
    (ap (assigned_to pc index place s) (sym h)) k

-- a value is kept or not
pub number_some : (places : List Place) (x : Expression) (place : Place) (pc index : ℕ) (s : State) (v z : ℤ) (b : Bounds) (path : List Bool) (at f : Option ℕ)
    (result : Option Taken) (to_s : State) → whole x s ≡ Some v → z ≡ v → b ≡ bounds_of places x → at ≡ followed path (Some 0) (whole_path places x s)
    → f ≡ followed path at (kept_path place b (Some z)) → AlongAt f (stored pc index s (kept place z)) s result to_s
    → AlongAt (followed path (Some 0) (whole_path places x s ++ kept_path place (bounds_of places x) (whole x s))) (assigned_to pc index place s (whole x s)) s result to_s
number_some places x place pc index s v z b path at f result to_s h w c e k m =
    along_same f (followed path (Some 0) (whole_path places x s ++ kept_path place (bounds_of places x) (whole x s))) (stored pc index s (kept place z))
    (assigned_to pc index place s (whole x s)) s result to_s
    (k ∙ ap (λ (o : Option ℕ). followed path o (kept_path place b (Some z))) e
    ∙ sym (followed_joined path (Some 0) (whole_path places x s) (kept_path place b (Some z)))
    ∙ ap (λ (d : Bounds). followed path (Some 0) (whole_path places x s ++ kept_path place d (Some z))) c
    ∙ ap (λ y. followed path (Some 0) (whole_path places x s ++ kept_path place (bounds_of places x) (Some y))) w
    ∙ ap (λ (o : Option ℤ). followed path (Some 0) (whole_path places x s ++ kept_path place (bounds_of places x) o)) (sym h))
    (ap (λ y. stored pc index s (kept place y)) w ∙ ap (assigned_to pc index place s) (sym h)) m

-- a truth value that is none is a division by zero
pub flag_none : (o : Option Bool) (place : Place) (pc index : ℕ) (s : State) (ds path : List Bool) (at : Option ℕ) (result : Option Taken) → o ≡ None
    → at ≡ followed path (Some 0) ds → AlongAt at (record { next = Halted (DivZero pc); state = s }) s result s
    → AlongAt (followed path (Some 0) ds) (assigned_to pc index place s (option_map bit o)) s result s
flag_none o place pc index s ds path at result h e k =
    along_same at (followed path (Some 0) ds) (record { next = Halted (DivZero pc); state = s }) (assigned_to pc index place s (option_map bit o)) s result s e
    (ap (λ (q : Option Bool). assigned_to pc index place s (option_map bit q)) (sym h)) k

-- a truth value is stored as its bit
pub flag_some : (o : Option Bool) (t : Bool) (z : ℤ) (place : Place) (pc index : ℕ) (s : State) (ds path : List Bool) (at : Option ℕ) (result : Option Taken) (to_s : State)
    → o ≡ Some t → z ≡ bit t → at ≡ followed path (Some 0) ds → AlongAt at (stored pc index s (kept place z)) s result to_s
    → AlongAt (followed path (Some 0) ds) (assigned_to pc index place s (option_map bit o)) s result to_s
flag_some o t z place pc index s ds path at result to_s h w e k =
    along_same at (followed path (Some 0) ds) (stored pc index s (kept place z)) (assigned_to pc index place s (option_map bit o)) s result to_s e
    (ap (λ y. stored pc index s (kept place y)) w ∙ ap (λ (q : Option Bool). assigned_to pc index place s (option_map bit q)) (sym h)) k

-- an assignment to a place that is not there, that holds truth values, or numbers
pub given_missing : (places : List Place) (x : Expression) (m : Option Place) (pc p : ℕ) (s : State) (path : List Bool) (result : Option Taken) → m ≡ None
    → AlongAt (Some 0) (record { next = Halted (Range pc); state = s }) s result s
    → AlongAt (followed path (Some 0) (given_path places x m s)) (assigned pc p x s m) s result s
given_missing places x m pc p s path result h k =
    subst (λ (o : Option Place). AlongAt (followed path (Some 0) (given_path places x o s)) (assigned pc p x s o) s result s) (sym h) k

pub given_flag_along : (places : List Place) (x : Expression) (m : Option Place) (place : Place) (pc p : ℕ) (s : State) (path : List Bool) (result : Option Taken) (to_s : State)
    → m ≡ Some place → place.flag ≡ true
    → AlongAt (followed path (Some 0) (flag_path places x s)) (assigned_to pc p place s (option_map bit (holds x s))) s result to_s
    → AlongAt (followed path (Some 0) (given_path places x m s)) (assigned pc p x s m) s result to_s
given_flag_along places x m place pc p s path result to_s h f k =
    subst (λ (o : Option Place). AlongAt (followed path (Some 0) (given_path places x o s)) (assigned pc p x s o) s result to_s) (sym h)
    (along_same (followed path (Some 0) (flag_path places x s)) (followed path (Some 0) (given_path places x (Some place) s))
    (assigned_to pc p place s (option_map bit (holds x s))) (assigned pc p x s (Some place)) s result to_s
    (ap (λ b. followed path (Some 0) (cond b (flag_path places x s) (whole_path places x s ++ kept_path place (bounds_of places x) (whole x s)))) (sym f))
    (ap (λ b. assigned_to pc p place s (cond b (option_map bit (holds x s)) (whole x s))) (sym f)) k)

pub given_number_along : (places : List Place) (x : Expression) (m : Option Place) (place : Place) (pc p : ℕ) (s : State) (path : List Bool) (result : Option Taken) (to_s : State)
    → m ≡ Some place → place.flag ≡ false
    → AlongAt (followed path (Some 0) (whole_path places x s ++ kept_path place (bounds_of places x) (whole x s))) (assigned_to pc p place s (whole x s)) s result to_s
    → AlongAt (followed path (Some 0) (given_path places x m s)) (assigned pc p x s m) s result to_s
given_number_along places x m place pc p s path result to_s h f k =
    subst (λ (o : Option Place). AlongAt (followed path (Some 0) (given_path places x o s)) (assigned pc p x s o) s result to_s) (sym h)
    (along_same (followed path (Some 0) (whole_path places x s ++ kept_path place (bounds_of places x) (whole x s))) (followed path (Some 0) (given_path places x (Some place) s))
    (assigned_to pc p place s (whole x s)) (assigned pc p x s (Some place)) s result to_s
    (ap (λ b. followed path (Some 0) (cond b (flag_path places x s) (whole_path places x s ++ kept_path place (bounds_of places x) (whole x s)))) (sym f))
    (ap (λ b. assigned_to pc p place s (cond b (option_map bit (holds x s)) (whole x s))) (sym f)) k)

-- a line that only jumps, or only goes on, decides nothing
abbrev pub IsAlong : List Place → ℕ → Line → State → List Bool → Option Taken → Type 0
IsAlong places pc line s path result = AlongAt (followed path (Some 0) (line_path places (instruction_of line) s)) (stepped places pc s (instruction_of line)) s result s

is_another : (places : List Place) (pc : ℕ) (line other : Line) (s : State) (path : List Bool) (result : Option Taken) → line ≡ other
    → IsAlong places pc other s path result → IsAlong places pc line s path result
is_another places pc line other s path result e h = subst (λ (x : Line). IsAlong places pc x s path result) (sym e) h

pub jump_along : (places : List Place) (pc q : ℕ) (line : Line) (s : State) (path : List Bool) (result : Option Taken)
    → (line ≡ l.Else q) ⊎ ((line ≡ l.EndLoop q) ⊎ ((line ≡ l.Exit q) ⊎ ((line ≡ l.Goto q) ⊎ (line ≡ l.Return q))))
    → result ≡ Some (record { next = At q; used = 0 }) → IsAlong places pc line s path result
jump_along places pc q line s path result (inl e) r = is_another places pc line (l.Else q) s path result e (r, refl)
jump_along places pc q line s path result (inr (inl e)) r = is_another places pc line (l.EndLoop q) s path result e (r, refl)
jump_along places pc q line s path result (inr (inr (inl e))) r = is_another places pc line (l.Exit q) s path result e (r, refl)
jump_along places pc q line s path result (inr (inr (inr (inl e)))) r = is_another places pc line (l.Goto q) s path result e (r, refl)
jump_along places pc q line s path result (inr (inr (inr (inr e)))) r = is_another places pc line (l.Return q) s path result e (r, refl)

pub onward_along : (places : List Place) (pc : ℕ) (line : Line) (s : State) (path : List Bool) (result : Option Taken)
    → (line ≡ l.EndIf) ⊎ ((line ≡ l.Loop) ⊎ ((line ≡ l.Label) ⊎ (line ≡ l.Skip)))
    → result ≡ Some (record { next = At (pc + 1); used = 0 }) → IsAlong places pc line s path result
onward_along places pc line s path result (inl e) r = is_another places pc line l.EndIf s path result e (r, refl)
onward_along places pc line s path result (inr (inl e)) r = is_another places pc line l.Loop s path result e (r, refl)
onward_along places pc line s path result (inr (inr (inl e))) r = is_another places pc line l.Label s path result e (r, refl)
onward_along places pc line s path result (inr (inr (inr e))) r = is_another places pc line l.Skip s path result e (r, refl)

pub ruleset stepping = (greatest_asked, greatest_skipped, range_inside, range_below, range_skipped)
