-- What is written is read: an expression whose spelling begins the tokens is what the reader finds there.
use Rattle.std.proofs.Common.{◌≡◌, ℕ, zero, suc, ◌+◌, ◌≤◌, nat_le, ◌&&◌, cond, Bool, true, false, List, [], ◌∷◌, ◌++◌, Option, Some, None, refl, sym, ap, subst, ◌∙◌, arith, append_assoc, append-nil}
use Rattle.std.proofs.lemmas.Bool.{leb-true, le-leb}
use Rattle.il_core.specs.declared.operator.BinOp.{BinOp}
use Rattle.il_core.specs.declared.operator.BinOp.TheVariants.{Add, Sub, Mul, Div, Mod, Compare, And, Or}
use Rattle.il_core.specs.declared.operator.Relation.TheVariants.{Eq, Ne, Lt, Le, Gt, Ge}
use Rattle.il_core.specs.declared.token.Symbol.TheVariants as s
use Rattle.il_core.specs.declared.token.TokenKind.{TokenKind}
use Rattle.il_core.specs.declared.token.TokenKind.TheVariants as kind
use Rattle.il_syntax.specs.Expression.{Written, number, word, former, constant, enclosed, minus, opposite, two, IsLevelled, level, depth, spelling, bare, own_level, left_level, operator_kind}
use Rattle.il_syntax.specs.ExpressionReading.{Reading, Found, ◌>>=◌, negated, opposed, joined, operator_of, fitting, next_operator, leading, closed, further, climb}
use Rattle.il_syntax.proofs.ExpressionSteps.{climb-suc, further-ends, further-goes, same_count}

-- what is seen of an expression
abbrev pub seen : Written → Reading
seen w = record { tree = bare w; level = level w; depth = depth w }

-- an operator's token stands for it
pub operator_of-kind : (op : BinOp) → operator_of (operator_kind op) ≡ Some op
operator_of-kind Add = refl
operator_of-kind Sub = refl
operator_of-kind Mul = refl
operator_of-kind Div = refl
operator_of-kind Mod = refl
operator_of-kind (Compare Eq) = refl
operator_of-kind (Compare Ne) = refl
operator_of-kind (Compare Lt) = refl
operator_of-kind (Compare Le) = refl
operator_of-kind (Compare Gt) = refl
operator_of-kind (Compare Ge) = refl
operator_of-kind And = refl
operator_of-kind Or = refl

-- a left side is of its operator's level at least
own-le-left : (op : BinOp) → own_level op ≤ left_level op
own-le-left Add = omega arith
own-le-left Sub = omega arith
own-le-left Mul = omega arith
own-le-left Div = omega arith
own-le-left Mod = omega arith
own-le-left (Compare r) = omega arith
own-le-left And = omega arith
own-le-left Or = omega arith

-- no operator with two sides is of the level of NOT
not_two : (op : BinOp) → own_level op ≤ 2 → 2 ≤ own_level op → ⊥
not_two Add h k = absurd (omega arith)
not_two Sub h k = absurd (omega arith)
not_two Mul h k = absurd (omega arith)
not_two Div h k = absurd (omega arith)
not_two Mod h k = absurd (omega arith)
not_two (Compare r) h k = absurd (omega arith)
not_two And h k = absurd (omega arith)
not_two Or h k = absurd (omega arith)

-- an expression has some depth
depth-pos : (w : Written) → 1 ≤ depth w
depth-pos (number n) = omega arith
depth-pos (word name) = omega arith
depth-pos (former name) = omega arith
depth-pos (constant b) = omega arith
depth-pos (enclosed w) = omega arith
depth-pos (minus w) = omega arith
depth-pos (opposite w) = omega arith
depth-pos (two op l r) = omega arith

-- this operator, if it is one, binds no closer than the level
abbrev QuietAt : ℕ → Option BinOp → Type 0
QuietAt lv None = Unit {0}
QuietAt lv (Some op) = own_level op ≤ lv

-- no operator that binds closer than this level begins the tokens
abbrev pub Quiet : ℕ → List TokenKind → Type 0
Quiet lv [] = Unit {0}
Quiet lv (t ∷ ts) = QuietAt lv (operator_of t)

-- what is quiet at a level is so at a higher one
QuietAt-le : (o : Option BinOp) (a b : ℕ) → a ≤ b → QuietAt a o → QuietAt b o
QuietAt-le None a b h q = tt
QuietAt-le (Some op) a b h q = omega arith

-- so are tokens
Quiet-le : (ts : List TokenKind) (a b : ℕ) → a ≤ b → Quiet a ts → Quiet b ts
Quiet-le [] a b h q = tt
Quiet-le (t ∷ ts) a b h q = QuietAt-le (operator_of t) a b h q

-- a first test that fails keeps an answer back
guard-none : {A : Type 0} (a b : Bool) (x : A) → (a ≡ true → ⊥) → ◌≡◌ {A = Option A} (cond (a && b) (Some x) None) None
guard-none true b x h = absurd (h refl)
guard-none false b x h = refl

-- two tests that hold let an answer through
guard-some : {A : Type 0} (a b : Bool) (x : A) → a ≡ true → b ≡ true → ◌≡◌ {A = Option A} (cond (a && b) (Some x) None) (Some x)
guard-some a b x h k = rw (h, k) refl

-- an operator of a lower level than is asked for does not fit
fitting-none : (least lv left : ℕ) (ts : List TokenKind) (o : Option BinOp) → QuietAt lv o → ((op : BinOp) → own_level op ≤ lv → least ≤ own_level op → ⊥) → fitting least left ts o ≡ None
fitting-none least lv left ts None q h = refl
fitting-none least lv left ts (Some op) q h = guard-none (nat_le least (own_level op)) (nat_le (left_level op) left) (op, ts) (λ e. h op q (leb-true _ _ e))

-- where no operator binds closer than a level, and none of that level or below is asked for, none comes
next_operator-none : (least lv left : ℕ) (ts : List TokenKind) → Quiet lv ts → ((op : BinOp) → own_level op ≤ lv → least ≤ own_level op → ⊥) → next_operator least left ts ≡ None
next_operator-none least lv left [] q h = refl
next_operator-none least lv left (t ∷ ts) q h = fitting-none least lv left ts (operator_of t) q h

-- an operator's token is that operator where the levels allow it
next_operator-some : (least left : ℕ) (op : BinOp) (ts : List TokenKind) → least ≤ own_level op → left_level op ≤ left → next_operator least left (operator_kind op ∷ ts) ≡ Some (op, ts)
next_operator-some least left op ts h k =
    ap (fitting least left ts) (operator_of-kind op)
    ∙ guard-some (nat_le least (own_level op)) (nat_le (left_level op) left) (op, ts) (le-leb least (own_level op) h) (le-leb (left_level op) left k)

-- how an expression is read from the front of tokens
abbrev IsRead : Written → Type 0
IsRead w = (room least : ℕ) (rest : List TokenKind) → least ≤ level w → depth w ≤ suc room → Quiet (level w) rest
    → climb (suc room) least (spelling w ++ rest) ≡ further (climb room) (room + 1) room least (seen w) rest

-- an inner expression is read to its end where no operator that is asked for comes behind it
read_whole : (w : Written) → IsRead w → (room least : ℕ) (rest : List TokenKind) → least ≤ level w → depth w ≤ room → Quiet (level w) rest
    → next_operator least (level w) rest ≡ None → climb room least (spelling w ++ rest) ≡ Some (seen w, rest)
read_whole w h zero least rest a b q e = absurd (omega (arith, depth-pos w))
read_whole w h (suc room) least rest a b q e = h room least rest a b q ∙ further-ends (climb room) room least (room + 1) (seen w) rest e

-- so it is where operators behind it bind less than is asked for
read_inner : (w : Written) → IsRead w → (room least lv : ℕ) (rest : List TokenKind) → least ≤ level w → depth w ≤ room → lv ≤ level w → Quiet lv rest
    → ((op : BinOp) → own_level op ≤ lv → least ≤ own_level op → ⊥) → climb room least (spelling w ++ rest) ≡ Some (seen w, rest)
read_inner w h room least lv rest a b c q apart =
    read_whole w h room least rest a b (Quiet-le rest lv (level w) c q) (next_operator-none least lv (level w) rest q apart)

-- what stands behind the first operand
abbrev behind : ℕ → ℕ → Found → Found
behind room least found = found >>= (λ x. further (climb room) (room + 1) room least x.0 x.1)

-- parentheses are read, if what they enclose is
read_enclosed : (w : Written) → IsRead w → IsRead (enclosed w)
read_enclosed w h room least rest a b q =
    let inner : climb room 0 ((spelling w ++ kind.Symbol s.RightParen ∷ []) ++ rest) ≡ Some (seen w, kind.Symbol s.RightParen ∷ rest)
    = ap (climb room 0) (append_assoc (spelling w) (kind.Symbol s.RightParen ∷ []) rest)
    ∙ read_whole w h room 0 (kind.Symbol s.RightParen ∷ rest) (omega arith) (omega arith) tt refl in
    climb-suc room least (spelling (enclosed w) ++ rest)
    ∙ ap (λ o. behind room least (o >>= (λ x. closed x.0 x.1))) inner

-- a leading minus is read
read_minus : (w : Written) → IsRead w → 5 ≤ level w → IsRead (minus w)
read_minus w h k room least rest a b q =
    let inner : climb room 5 (spelling w ++ rest) ≡ Some (seen w, rest)
    = read_inner w h room 5 4 rest k (omega arith) (omega arith) q (λ op i j. absurd (omega arith)) in
    climb-suc room least (spelling (minus w) ++ rest)
    ∙ ap (λ v. behind room least (leading v negated (climb room 5 (spelling w ++ rest)))) (le-leb least 4 a)
    ∙ ap (λ o. behind room least (leading true negated o)) inner

-- NOT is read
read_opposite : (w : Written) → IsRead w → 2 ≤ level w → IsRead (opposite w)
read_opposite w h k room least rest a b q =
    let inner : climb room 2 (spelling w ++ rest) ≡ Some (seen w, rest)
    = read_inner w h room 2 2 rest k (omega arith) k q not_two in
    climb-suc room least (spelling (opposite w) ++ rest)
    ∙ ap (λ v. behind room least (leading v opposed (climb room 2 (spelling w ++ rest)))) (le-leb least 2 a)
    ∙ ap (λ o. behind room least (leading true opposed o)) inner

-- an operator with two sides is read
read_two : (op : BinOp) (l r : Written) → IsRead l → IsRead r → left_level op ≤ level l → own_level op + 1 ≤ level r → IsRead (two op l r)
read_two op l r left right lk rk room least rest a b q =
    let own = own-le-left op in
    let after = spelling r ++ rest in
    let right_read : climb room (own_level op + 1) after ≡ Some (seen r, rest)
    = read_inner r right room (own_level op + 1) (own_level op) rest rk (omega arith) (omega arith) q (λ other i j. absurd (omega arith)) in
    let quiet : Quiet (level l) (operator_kind op ∷ after) = subst (QuietAt (level l)) (sym (operator_of-kind op)) (omega arith) in
    ap (climb (suc room) least) (append_assoc (spelling l) (operator_kind op ∷ spelling r) rest)
    ∙ left room least (operator_kind op ∷ after) (omega arith) (omega arith) quiet
    ∙ further-goes (climb room) room least room (seen l) (operator_kind op ∷ after) (op, after) (next_operator-some least (level l) op after a lk) (omega arith)
    ∙ ap (λ o. o >>= (λ y. further (climb room) room room least (joined op (seen l) y.0) y.1)) right_read
    ∙ same_count (climb room) room least room (room + 1) (seen (two op l r)) rest (omega arith) (omega arith)

-- an expression that is spelt in front of tokens with no closer operator is read there
pub written_is_read : (w : Written) → IsLevelled w → IsRead w
written_is_read (number n) h room least rest a b q = climb-suc room least (kind.Number n ∷ rest)
written_is_read (word name) h room least rest a b q = climb-suc room least (kind.Ident name ∷ rest)
written_is_read (former name) h room least rest a b q = climb-suc room least (spelling (former name) ++ rest)
written_is_read (constant true) h room least rest a b q = climb-suc room least (spelling (constant true) ++ rest)
written_is_read (constant false) h room least rest a b q = climb-suc room least (spelling (constant false) ++ rest)
written_is_read (enclosed w) h room least rest a b q = read_enclosed w (written_is_read w h) room least rest a b q
written_is_read (minus w) h room least rest a b q = read_minus w (written_is_read w h.1) h.0 room least rest a b q
written_is_read (opposite w) h room least rest a b q = read_opposite w (written_is_read w h.1) h.0 room least rest a b q
written_is_read (two op l r) h room least rest a b q = read_two op l r (written_is_read l h.2) (written_is_read r h.3) h.0 h.1 room least rest a b q

-- an expression that is spelt by all of the tokens is read whole
pub whole_is_read : (w : Written) (room : ℕ) → IsLevelled w → depth w ≤ suc room → climb (suc room) 0 (spelling w) ≡ Some (seen w, [])
whole_is_read w room h k =
    ap (climb (suc room) 0) (sym (append-nil (spelling w)))
    ∙ written_is_read w h room 0 [] (omega arith) k tt
    ∙ further-ends (climb room) room 0 (room + 1) (seen w) [] refl
