-- The worked text keeps all that the law asks for.
use Rattle.std.specs.Fmt.{digits}
use Rattle.std.proofs.Common.{◌≡◌, ℕ, zero, suc, ◌+◌, ◌≤◌, subst, refl, inl, inr, Bool, true, false, ◌&&◌, not, List, [], ◌∷◌, length, nat_eq, take, arith}
use Rattle.std.specs.Prelude.{Option, Some, None, is_none, nat_le, slice_get, unsigned_abs, ◌^◌}
use Rattle.std.proofs.lemmas.Option.{same_Some}
use Rattle.il_core.specs.Statement.{Statement, Placed, variable}
use Rattle.il_core.specs.declared.statement.Link.{Link}
use Rattle.il_core.specs.declared.statement.Link.TheVariants.{NoLine, Plain, Jump}
use Rattle.il_types.specs.Built.{place_of}
use Rattle.il_types.specs.Rules.{ComesNowhere}
use Rattle.il_types.specs.declared.rules.Found.{Found}
use Rattle.il_types.specs.declared.rules.Rule.TheVariants as rule
use Rattle.il_built.specs.Holding.{setting_at}
use Rattle.il_built.proofs.BuiltSorts.{both_true}
use Rattle.il_blocks.specs.Block.{Whole, ClosesNothing, brackets, closed_by, leaves, empty, block}
use Rattle.il_blocks.specs.declared.block.Kind.TheVariants as kind
use Rattle.il_blocks.specs.declared.block.Closer.TheVariants as closer
use Rattle.il_blocks.specs.BlockFault.{HasNoFault}
use Rattle.il_blocks.specs.BlockLabel.{label_of, target_of}
use Rattle.il_blocks.specs.BlockLink.{AreLinks, IsLink, has_line, line, names_line}
use Rattle.il_called.specs.CalledText.{IsCalledText}
use Rattle.il_called.specs.Expansion.{callees_of}
use Rattle.call_rules.specs.CalledText.{called_text}
use Rattle.call_rules.specs.Calls.{fault_at}
use Rattle.call_rules.specs.Clash.{twice_at}
use Rattle.call_rules.specs.Fits.{misfit_at}
use Rattle.call_rules.specs.Limits.{excess_at}
use Rattle.call_rules.specs.Rules.{Answers}
use Rattle.call_sound.specs.Laws.{HaveShortNames, HaveSmallBounds}
use Rattle.call_sound.specs.WorkedText.{worked_statements, worked_links, worked_called, WorkedText}
use Rattle.call_sound.proofs.Formed.{accepted_are_checked}
use Rattle.call_sound.proofs.Own.{nowhere}

-- a test of each statement with its number
abbrev all_from : (ℕ → Statement → Bool) → ℕ → List Placed → Bool
all_from test k [] = true
all_from test k (x ∷ xs) = test k x.says && all_from test (suc k) xs

at : (test : ℕ → Statement → Bool) (k : ℕ) (xs : List Placed) → all_from test k xs ≡ true → (i : ℕ) (x : Placed) → slice_get xs i ≡ Some x → test (k + i) x.says ≡ true
at test k [] h i x there = absurd (cc)
at test k (y ∷ ys) h zero x there =
    let zeroth : k ≡ k + 0 = omega arith in
    subst (λ n. test n x.says ≡ true) zeroth (subst (λ (z : Placed). test k z.says ≡ true) (same_Some _ _ there) (both_true (test k y.says) (all_from test (suc k) ys) h).0)
at test k (y ∷ ys) h (suc i) x there =
    let next : suc k + i ≡ k + suc i = omega arith in
    subst (λ n. test n x.says ≡ true) next (at test (suc k) ys (both_true (test k y.says) (all_from test (suc k) ys) h).1 i x there)

first : (test : ℕ → Statement → Bool) (xs : List Placed) → all_from test 0 xs ≡ true → (i : ℕ) (x : Placed) → slice_get xs i ≡ Some x → test i x.says ≡ true
first test xs h i x there = let same : 0 + i ≡ i = omega arith in subst (λ n. test n x.says ≡ true) same (at test 0 xs h i x there)

none : {A : Type 0} (o : Option A) → is_none o ≡ true → o ≡ None
none None h = refl
none (Some a) h = absurd (cc)

-- a rule that is broken by none of them
keeps : (pass : ℕ → Statement → Option Found) → all_from (λ i x. is_none (pass i x)) 0 worked_statements ≡ true → ComesNowhere pass worked_statements
keeps pass h = nowhere pass worked_statements (λ i x there. none (pass i x.says) (first (λ j y. is_none (pass j y)) worked_statements h i x there))

pub answers : Answers worked_statements worked_links None
unfolding callees_of digits
answers = (
  keeps (twice_at worked_statements worked_links) refl,
  (
    keeps (fault_at rule.Known worked_statements) refl,
    (
      keeps (fault_at rule.Typed worked_statements) refl,
      (
        keeps (fault_at rule.Allowed worked_statements) refl,
        (
          keeps (fault_at rule.Filled worked_statements) refl,
          (
            keeps (fault_at rule.Narrow worked_statements) refl,
            (
              keeps (excess_at worked_statements worked_links) refl,
              (keeps (misfit_at worked_statements worked_links) refl, tt),
            ),
          ),
        ),
      ),
    ),
  ),
)

abbrev is_short : ℕ → Statement → Bool
is_short i (variable m name used) = nat_le (length name) 40
is_short i _ = true

at_most : (a b : ℕ) → nat_le a b ≡ true → a ≤ b
at_most a b h = grind arith

pub short : HaveShortNames worked_statements
short i m name used d = at_most (length name) 40 (subst (λ x. is_short i x ≡ true) d.says (first is_short worked_statements refl i d.stmt d.there))

abbrev is_small : ℕ → Statement → Bool
is_small i (variable m name used) =
    let p = place_of (setting_at worked_statements i) (variable m name used) in
    nat_le (unsigned_abs p.least) (2 ^ 126) && nat_le (unsigned_abs p.greatest) (2 ^ 126)
is_small i _ = true

pub small : HaveSmallBounds worked_statements
small i m name used d =
    let p = place_of (setting_at worked_statements i) (variable m name used) in
    let both = both_true (nat_le (unsigned_abs p.least) (2 ^ 126)) (nat_le (unsigned_abs p.greatest) (2 ^ 126))
    (subst (λ x. is_small i x ≡ true) d.says (first is_small worked_statements refl i d.stmt d.there)) in
    (at_most (unsigned_abs p.least) (2 ^ 126) both.0, at_most (unsigned_abs p.greatest) (2 ^ 126) both.1)

-- the link of each statement
abbrev is_link : ℕ → Statement → Option Link → Bool
is_link i x None = true
is_link i x (Some NoLine) = not (has_line x)
is_link i x (Some (Plain own)) = has_line x && (not (names_line x) && nat_eq own (line worked_statements i))
is_link i x (Some (Jump own target)) = false

is_not : (b : Bool) → not b ≡ true → b ≡ false
is_not true h = absurd (cc)
is_not false h = refl

same_number : (a b : ℕ) → nat_eq a b ≡ true → a ≡ b
same_number a b h = grind arith

linked : (i : ℕ) (x : Statement) (l : Link) → is_link i x (Some l) ≡ true → IsLink worked_statements i x l
linked i x NoLine h = is_not (has_line x) h
linked i x (Plain own) h =
    let both = both_true (has_line x) (not (names_line x) && nat_eq own (line worked_statements i)) h in
    let rest = both_true (not (names_line x)) (nat_eq own (line worked_statements i)) both.1 in
    (both.0, is_not (names_line x) rest.0, same_number own (line worked_statements i) rest.1)
linked i x (Jump own target) h = absurd (cc)

-- no EXIT, LABEL and GOTO
abbrev is_plain : ℕ → Statement → Bool
is_plain i x = not (leaves x) && (is_none (label_of x) && is_none (target_of x))

not_some : {A : Type 0} (o : Option A) (a : A) → is_none o ≡ true → o ≡ Some a → ⊥
not_some None a h e = absurd (cc)
not_some (Some b) a h e = absurd (cc)

opposite : (b : Bool) → not b ≡ true → b ≡ true → ⊥
opposite true h e = cc
opposite false h e = cc

-- the same for what each statement closes
abbrev AllFrom : (ℕ → Statement → Type 0) → ℕ → List Placed → Type 0
AllFrom p k [] = Unit {0}
AllFrom p k (x ∷ xs) = p k x.says × AllFrom p (suc k) xs

all_at : (p : ℕ → Statement → Type 0) (k : ℕ) (xs : List Placed) → AllFrom p k xs → (i : ℕ) (x : Placed) → slice_get xs i ≡ Some x → p (k + i) x.says
all_at p k [] h i x there = absurd (cc)
all_at p k (y ∷ ys) h zero x there =
    let zeroth : k ≡ k + 0 = omega arith in
    subst (λ n. p n x.says) zeroth (subst (λ (z : Placed). p k z.says) (same_Some _ _ there) h.0)
all_at p k (y ∷ ys) h (suc i) x there = let next : suc k + i ≡ k + suc i = omega arith in subst (λ n. p n x.says) next (all_at p (suc k) ys h.1 i x there)

abbrev ClosesOne : ℕ → Statement → Type 0
ClosesOne i x = ClosesNothing (brackets (take i worked_statements)) (closed_by x) → ⊥

whole_none : Whole []
whole_none = record { nest = empty; fit = tt; is = refl }

-- the whole first procedure
one_block : Whole (brackets (take 7 worked_statements))
one_block = record { nest = block kind.Procedure empty closer.ByEndProc empty; fit = (refl, tt, tt); is = refl }

closes : AllFrom ClosesOne 0 worked_statements
closes = (
  λ c. c,
  (
    λ c. c,
    (
      λ c. c,
      (
        λ c. c,
        (
          λ c. c,
          (
            λ c. c,
            (
              λ c. c kind.Procedure [] ([], [], whole_none, whole_none, refl) refl,
              (
                λ c. c,
                (
                  λ c. c,
                  (
                    λ c. c,
                    (
                      λ c. c,
                      (
                        λ c. c,
                        (
                          λ c. c kind.Procedure [] (brackets (take 7 worked_statements), [], one_block, whole_none, refl) refl,
                          (λ c. c, tt),
                        ),
                      ),
                    ),
                  ),
                ),
              ),
            ),
          ),
        ),
      ),
    ),
  ),
)

no_fault : HasNoFault worked_statements
no_fault i (inl u) = elim u.loose [
  | inl c ↦ let same : 0 + i ≡ i = omega arith in subst (λ n. ClosesOne n u.stmt.says) same (all_at ClosesOne 0 worked_statements closes i u.stmt u.at) c
  | inr l ↦ opposite (leaves u.stmt.says) (both_true (not (leaves u.stmt.says)) _ (first is_plain worked_statements refl i u.stmt u.at)).0 l.0
]
no_fault i (inr (inl r)) =
    let plain = both_true (not (leaves r.stmt.says)) _ (first is_plain worked_statements refl i r.stmt r.at) in
    not_some (label_of r.stmt.says) r.name (both_true (is_none (label_of r.stmt.says)) _ plain.1).0 r.says
no_fault i (inr (inr l)) =
    let plain = both_true (not (leaves l.stmt.says)) _ (first is_plain worked_statements refl i l.stmt l.at) in
    not_some (target_of l.stmt.says) l.name (both_true (is_none (label_of l.stmt.says)) _ plain.1).1 l.says

pub links : AreLinks worked_statements worked_links
links = record {
  matched = no_fault;
  long = refl;
  each = λ i x l there link.
      let h = first (λ j y. is_link j y (slice_get worked_links j)) worked_statements refl i x there in
      linked i x.says l (subst (λ o. is_link i x.says o ≡ true) link h);
}

pub worked_text : WorkedText
unfolding callees_of
worked_text =
    let stands : called_text worked_statements worked_links ≡ worked_called = refl in
    record {
      in_order = refl;
      links = links;
      answers = answers;
      short = short;
      small = small;
      stands = stands;
      checked = subst IsCalledText stands (accepted_are_checked worked_statements worked_links refl links answers short small);
    }
