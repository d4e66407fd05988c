-- Tokens are statements in order, or are refused for their forms or their order.
use Rattle.std.proofs.Common.{◌≡◌, ◌⊎◌, ℕ, true, List, [], ◌∷◌, ◌++◌, refl, sym, ◌∙◌, ap, subst, inl, inr}
use Rattle.std.specs.Prelude.{Option, Some, None, Result, Ok, Err}
use Rattle.std.specs.Option.{option_and_then}
use Rattle.std.proofs.lemmas.List.{append_cancel_right}
use Rattle.il_core.specs.Statement.{Statement, Placed}
use Rattle.il_core.specs.declared.refusal.Code.TheVariants as code
use Rattle.il_core.specs.declared.refusal.Refusal.{Refusal}
use Rattle.il_core.specs.declared.token.Symbol.TheVariants as s
use Rattle.il_core.specs.declared.token.Token.{Token}
use Rattle.il_core.specs.declared.token.TokenKind.{TokenKind}
use Rattle.il_core.specs.declared.token.TokenKind.TheVariants.{Symbol}
use Rattle.il_syntax.specs.declared.order.Stage.{Stage}
use Rattle.il_syntax.specs.declared.order.Stage.TheVariants as at
use Rattle.il_syntax.specs.Expression.{kinds}
use Rattle.il_syntax.specs.Form.{Spells, Derives}
use Rattle.il_syntax.specs.FormReading.{Reading, nothing, around, around_all, reading}
use Rattle.il_syntax.specs.FormReading as form
use Rattle.il_syntax.specs.Order.{run, next, part_of, IsInOrder, StopsAt, BreaksAt}
use Rattle.il_syntax.specs.Parse.{is_semicolon, pieces, place_of, AreStatements, FailsAt, Parses}
use Rattle.il_syntax.proofs.ReadIsSpelt.{read_spelt}
use Rattle.il_syntax.proofs.SpeltIsRead.{Agrees, spelt_reads}
use Rattle.accept_laws.proofs.DecidedArguments.{expression_decided, Ends, end_decided, arguments_decided}

-- what is read agrees with a statement or with none
agreement : (r : Reading) → ((t : Statement) × Agrees t r) ⊎ ((t : Statement) → Agrees t r → ⊥)
agreement nothing = inr (λ t h. h)
agreement (form.whole t) = inl (t, refl)
agreement (around make tokens) = elim (expression_decided tokens) [
  | inl x ↦ inl (make x.0, (x.0, x.1, refl))
  | inr never ↦ inr (λ t h. never h.0 h.1)
]
agreement (around_all make tokens) = elim (arguments_decided tokens) [
  | inl x ↦ inl (make x.0, (x.0, x.1, refl))
  | inr never ↦ inr (λ t h. never h.0 h.1)
]

form_decided : (body : List TokenKind) → ((t : Statement) × Spells t body) ⊎ ((t : Statement) → Spells t body → ⊥)
form_decided body = elim (agreement (reading body)) [
  | inl x ↦ inl (x.0, read_spelt x.0 body x.1)
  | inr never ↦ inr (λ t h. never t (spelt_reads t body h))
]

semicolon_alone : (t : TokenKind) → is_semicolon t ≡ true → t ≡ Symbol s.Semicolon
semicolon_alone (Symbol s.Semicolon) e = refl
semicolon_alone _ e = absurd (cc)

-- the tokens of a piece are a statement or none
derived_decided : (ts : List TokenKind) → ((t : Statement) × Derives t ts) ⊎ ((t : Statement) → Derives t ts → ⊥)
derived_decided ts = ended (end_decided (Symbol s.Semicolon) is_semicolon refl semicolon_alone ts)
  where
    spelt : (body : List TokenKind) → ts ≡ body ++ Symbol s.Semicolon ∷ [] → ((t : Statement) × Spells t body) ⊎ ((t : Statement) → Spells t body → ⊥)
        → ((t : Statement) × Derives t ts) ⊎ ((t : Statement) → Derives t ts → ⊥)
    spelt body e (inl x) = inl (x.0, record { body = body; spelt = x.1; ended = e })
    spelt body e (inr never) = inr (λ t d. never t (subst (Spells t) (append_cancel_right d.body body (Symbol s.Semicolon ∷ []) (sym d.ended ∙ e)) d.spelt))

    ended : Ends (Symbol s.Semicolon) ts ⊎ (Ends (Symbol s.Semicolon) ts → ⊥) → ((t : Statement) × Derives t ts) ⊎ ((t : Statement) → Derives t ts → ⊥)
    ended (inl b) = spelt b.0 b.1 (form_decided b.0)
    ended (inr never) = inr (λ t d. never (d.body, d.ended))

-- all pieces are statements, or a first one is none
abbrev Read : List (List Token) → Type 0
Read ps = ((stmts : List Placed) × AreStatements ps stmts) ⊎ ((place : ℕ) × FailsAt ps place)

pieces_decided : (ps : List (List Token)) → Read ps
pieces_decided [] = inl ([], tt)
pieces_decided (p ∷ ps) = by (derived_decided (kinds p)) (pieces_decided ps)
  where
    by : ((t : Statement) × Derives t (kinds p)) ⊎ ((t : Statement) → Derives t (kinds p) → ⊥) → Read ps → Read (p ∷ ps)
    by (inr never) later = inr (place_of p, inl (never, refl))
    by (inl x) (inl later) = inl (record { place = place_of p; says = x.0 } ∷ later.0, (record { derived = x.1; place = refl }, later.1))
    by (inl x) (inr later) = inr (later.0, inr (x.0, x.1, later.1))

-- from a stage on, statements run to the end or the order breaks among them
record Stops (text_len : ℕ) (stage : Stage) (stmts : List Placed) : Type 0 where
  place : ℕ
  front : List Placed
  rest : List Placed
  parts : stmts ≡ front ++ rest
  reached : Stage
  before : run stage front ≡ Some reached
  stops : StopsAt text_len reached rest place

no_more : (text_len : ℕ) (stage : Stage) → (stage ≡ at.Done → ⊥) → Stops text_len stage []
no_more text_len stage never = record { place = text_len; front = []; rest = []; parts = refl; reached = stage; before = refl; stops = (never, refl) }

run_decided : (text_len : ℕ) (stmts : List Placed) (stage : Stage) → (run stage stmts ≡ Some at.Done) ⊎ Stops text_len stage stmts
run_decided text_len [] at.Done = inl refl
run_decided text_len [] at.Start = inr (no_more text_len at.Start (λ e. cc))
run_decided text_len [] at.Declarations = inr (no_more text_len at.Declarations (λ e. cc))
run_decided text_len [] at.Variables = inr (no_more text_len at.Variables (λ e. cc))
run_decided text_len [] at.Postcondition = inr (no_more text_len at.Postcondition (λ e. cc))
run_decided text_len [] at.Body = inr (no_more text_len at.Body (λ e. cc))
run_decided text_len [] at.Procedures = inr (no_more text_len at.Procedures (λ e. cc))
run_decided text_len (x ∷ xs) stage = by (next stage (part_of x.says)) refl (λ after. run_decided text_len xs after)
  where
    onward : (after : Stage) → next stage (part_of x.says) ≡ Some after → (run after xs ≡ Some at.Done) ⊎ Stops text_len after xs
        → (run stage (x ∷ xs) ≡ Some at.Done) ⊎ Stops text_len stage (x ∷ xs)
    onward after e (inl r) = inl (ap (option_and_then (λ a. run a xs)) e ∙ r)
    onward after e (inr r) = inr (record {
      place = r.place;
      front = x ∷ r.front;
      rest = r.rest;
      parts = ap (λ ys. x ∷ ys) r.parts;
      reached = r.reached;
      before = ap (option_and_then (λ a. run a r.front)) e ∙ r.before;
      stops = r.stops;
    })

    by : (o : Option Stage) → next stage (part_of x.says) ≡ o → ((after : Stage) → (run after xs ≡ Some at.Done) ⊎ Stops text_len after xs)
        → (run stage (x ∷ xs) ≡ Some at.Done) ⊎ Stops text_len stage (x ∷ xs)
    by None e later = inr (record { place = x.place; front = []; rest = x ∷ xs; parts = refl; reached = stage; before = refl; stops = (e, refl) })
    by (Some after) e later = onward after e (later after)

order_decided : (text_len : ℕ) (stmts : List Placed) → IsInOrder stmts ⊎ ((place : ℕ) × BreaksAt text_len stmts place)
order_decided text_len stmts = elim (run_decided text_len stmts at.Start) [
  | inl h ↦ inl h
  | inr r ↦ inr (r.place, record { front = r.front; rest = r.rest; parts = r.parts; stage = r.reached; before = r.before; stops = r.stops })
]

-- the tokens of a text are statements in order, or have a refusal
pub parse_decided : (text_len : ℕ) (tokens : List Token) → (r : Result (List Placed) Refusal) × Parses text_len tokens r
parse_decided text_len tokens = by (pieces_decided (pieces tokens))
  where
    ordered : (stmts : List Placed) → AreStatements (pieces tokens) stmts → IsInOrder stmts ⊎ ((place : ℕ) × BreaksAt text_len stmts place)
        → (r : Result (List Placed) Refusal) × Parses text_len tokens r
    ordered stmts h (inl o) = (Ok stmts, (h, o))
    ordered stmts h (inr b) = (Err (record { code = code.Order; place = b.0; name = None }), (refl, inr (refl, (stmts, h, b.1))))

    by : Read (pieces tokens) → (r : Result (List Placed) Refusal) × Parses text_len tokens r
    by (inl x) = ordered x.0 x.1 (order_decided text_len x.0)
    by (inr f) = (Err (record { code = code.Syntax; place = f.0; name = None }), (refl, inl (refl, f.1)))
