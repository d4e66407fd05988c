-- Steps of one line from two states: a step changes the assigned place alone, and what it reads decides where it goes and what it assigns.
use Rattle.std.proofs.Common.{◌≡◌, ◌≢◌, refl, sym, ap, ◌∙◌, ℕ, ◌+◌, ◌<◌, ℤ, pos, Bool, true, false, Option, Some, None, List, length, slice_get, slice_set, arith}
use Rattle.std.proofs.lemmas.List.{get_or-set_same, get_or-set_other}
use Rattle.il_core.specs.Expression.{Expression}
use Rattle.il_core.specs.Evaluation.{State, value_at, holds}
use Rattle.il_core.specs.Machine.{Step, goes, stays, decided, given, kept, stored, assigned_to, assigned, stepped}
use Rattle.il_core.specs.Procedure.{Instruction, pre, assign, if_true, otherwise, end_if, loop, end_loop, exit, exit_when, label, goto, skip, assert, return, end_procedure}
use Rattle.il_core.specs.declared.line.Place.{Place}
use Rattle.il_core.specs.declared.line.Halt.{Halt}
use Rattle.il_core.specs.declared.line.Halt.TheVariants.{End, Outside, FailedAssert, DivZero}
use Rattle.il_core.specs.declared.line.Next.TheVariants.{At, Halted}
use Rattle.flow_graph.specs.Reading.{Reads}
use Rattle.flow_graph.specs.Graph.{IsRead, written_by, kind_of}
use Rattle.flow_graph.specs.declared.graph.NodeKind.TheVariants.{Last}
use Rattle.info_flow.specs.Agreement.{Agree}
use Rattle.info_flow.proofs.Alike.{whole_alike, holds_alike}

-- a condition leaves the state as it is where each of the three does
decided_value : (o : Option Bool) (a b c : Step) (s : State) (x : ℕ) → value_at a.state x ≡ value_at s x → value_at b.state x ≡ value_at s x
    → value_at c.state x ≡ value_at s x → value_at (decided o a b c).state x ≡ value_at s x
decided_value None a b c s x d e f = d
decided_value (Some true) a b c s x d e f = e
decided_value (Some false) a b c s x d e f = f

stored_value : (pc p : ℕ) (s : State) (o : Option ℤ) (x : ℕ) → x ≢ p → value_at (stored pc p s o).state x ≡ value_at s x
stored_value pc p s None x n = refl
stored_value pc p s (Some w) x n = get_or-set_other s p x w (pos 0) n

given_value : (pc p : ℕ) (place : Place) (s : State) (o : Option ℤ) (x : ℕ) → x ≢ p → value_at (assigned_to pc p place s o).state x ≡ value_at s x
given_value pc p place s None x n = refl
given_value pc p place s (Some w) x n = stored_value pc p s (kept place w) x n

assigned_value : (pc p : ℕ) (e : Expression) (s : State) (o : Option Place) (x : ℕ) → x ≢ p → value_at (assigned pc p e s o).state x ≡ value_at s x
assigned_value pc p e s None x n = refl
assigned_value pc p e s (Some place) x n = given_value pc p place s (given place e s) x n

-- a step changes no place but the one that the line assigns
pub stepped_value : (places : List Place) (pc : ℕ) (s : State) (i : Instruction) (x : ℕ) → (written_by i ≡ Some x → ⊥)
    → value_at (stepped places pc s i).state x ≡ value_at s x
stepped_value places pc s (pre e) x n = decided_value (holds e s) _ _ _ s x refl refl refl
stepped_value places pc s (assign p e) x n = assigned_value pc p e s (slice_get places p) x (λ h. n (ap Some (sym h)))
stepped_value places pc s (if_true e q) x n = decided_value (holds e s) _ _ _ s x refl refl refl
stepped_value places pc s (otherwise q) x n = refl
stepped_value places pc s end_if x n = refl
stepped_value places pc s loop x n = refl
stepped_value places pc s (end_loop q) x n = refl
stepped_value places pc s (exit q) x n = refl
stepped_value places pc s (exit_when e q) x n = decided_value (holds e s) _ _ _ s x refl refl refl
stepped_value places pc s label x n = refl
stepped_value places pc s (goto q) x n = refl
stepped_value places pc s skip x n = refl
stepped_value places pc s (assert e) x n = decided_value (holds e s) _ _ _ s x refl refl refl
stepped_value places pc s (return q) x n = refl
stepped_value places pc s (end_procedure e) x n = decided_value (holds e s) _ _ _ s x refl refl refl

-- two steps that go on go to one line and give an assigned place one value
pub record Alike (i : Instruction) (a b : ℕ) (f g : State) : Type 0 where
  pub line : a ≡ b
  pub value : (x : ℕ) → written_by i ≡ Some x → value_at f x ≡ value_at g x

-- where a step that goes on goes
pub lands_at : (q a : ℕ) (s f : State) → goes q s ≡ goes a f → q ≡ a
lands_at q a s f e = let n : At q ≡ At a = ap (λ (x : Step). x.next) e in cc

pub no_halt : {A : Type 0} (h : Halt) (s : State) (a : ℕ) (f : State) → stays h s ≡ goes a f → A
no_halt h s a f e = let n : Halted h ≡ At a = ap (λ (x : Step). x.next) e in absurd (cc)

-- a condition of which one outcome goes on
pub decided_met : (o : Option Bool) (h k : Halt) (q a : ℕ) (s f : State) → decided o (stays h s) (goes q s) (stays k s) ≡ goes a f → q ≡ a
decided_met None h k q a s f e = no_halt h s a f e
decided_met (Some true) h k q a s f e = lands_at q a s f e
decided_met (Some false) h k q a s f e = no_halt k s a f e

pub decided_never : {A : Type 0} (o : Option Bool) (h k l : Halt) (a : ℕ) (s f : State) → decided o (stays h s) (stays k s) (stays l s) ≡ goes a f → A
decided_never None h k l a s f e = no_halt h s a f e
decided_never (Some true) h k l a s f e = no_halt k s a f e
decided_never (Some false) h k l a s f e = no_halt l s a f e

-- a condition with one outcome in two states
decided_both : (o : Option Bool) (h : Halt) (q r a b : ℕ) (s t f g : State) → decided o (stays h s) (goes q s) (goes r s) ≡ goes a f
    → decided o (stays h t) (goes q t) (goes r t) ≡ goes b g → a ≡ b
decided_both None h q r a b s t f g d e = no_halt h s a f d
decided_both (Some true) h q r a b s t f g d e = sym (lands_at q a s f d) ∙ lands_at q b t g e
decided_both (Some false) h q r a b s t f g d e = sym (lands_at r a s f d) ∙ lands_at r b t g e

plain_alike : (i : Instruction) (a b q : ℕ) (f g : State) → written_by i ≡ None → q ≡ a → q ≡ b → Alike i a b f g
plain_alike i a b q f g w d e = record { line = sym d ∙ e; value = λ x h. absurd (cc) }

test_alike : (i : Instruction) (e : Expression) (h : Halt) (q r a b : ℕ) (s t f g : State) → written_by i ≡ None → Agree (Reads e) s t
    → decided (holds e s) (stays h s) (goes q s) (goes r s) ≡ goes a f → decided (holds e t) (stays h t) (goes q t) (goes r t) ≡ goes b g → Alike i a b f g
test_alike i e h q r a b s t f g w n d k = record {
  line = decided_both (holds e t) h q r a b s t f g (rw (holds_alike e s t n) at d) k;
  value = λ x z. absurd (cc);
}

-- what an assignment stores
stored_alike : (pc p : ℕ) (o : Option ℤ) (a b : ℕ) (s t f g : State) → p < length s → p < length t → stored pc p s o ≡ goes a f → stored pc p t o ≡ goes b g
    → (a ≡ b) × (value_at f p ≡ value_at g p)
stored_alike pc p None a b s t f g m n d e = no_halt _ s a f d
stored_alike pc p (Some w) a b s t f g m n d e =
    let x : slice_set s p w ≡ f = ap (λ (z : Step). z.state) d in
    let y : slice_set t p w ≡ g = ap (λ (z : Step). z.state) e in (
      sym (lands_at (pc + 1) a _ f d) ∙ lands_at (pc + 1) b _ g e,
      rw (← x, ← y) (get_or-set_same s p w (pos 0) m ∙ sym (get_or-set_same t p w (pos 0) n)),
    )

given_alike : (pc p : ℕ) (place : Place) (o : Option ℤ) (a b : ℕ) (s t f g : State) → p < length s → p < length t → assigned_to pc p place s o ≡ goes a f
    → assigned_to pc p place t o ≡ goes b g → (a ≡ b) × (value_at f p ≡ value_at g p)
given_alike pc p place None a b s t f g m n d e = no_halt _ s a f d
given_alike pc p place (Some w) a b s t f g m n d e = stored_alike pc p (kept place w) a b s t f g m n d e

pub given_same : (place : Place) (e : Expression) (s t : State) → Agree (Reads e) s t → given place e s ≡ given place e t
given_same place e s t n = rw (holds_alike e s t n, whole_alike e s t n) refl

assigned_alike : (pc p : ℕ) (e : Expression) (o : Option Place) (a b : ℕ) (s t f g : State) → p < length s → p < length t → Agree (Reads e) s t
    → assigned pc p e s o ≡ goes a f → assigned pc p e t o ≡ goes b g → (a ≡ b) × (value_at f p ≡ value_at g p)
assigned_alike pc p e None a b s t f g l m n d k = no_halt _ s a f d
assigned_alike pc p e (Some place) a b s t f g l m n d k = given_alike pc p place (given place e t) a b s t f g l m (rw (given_same place e s t n) at d) k

-- two steps of a line from states that agree on what it reads
pub stepped_alike : (places : List Place) (pc : ℕ) (i : Instruction) (a b : ℕ) (s t f g : State) → length s ≡ length places → length t ≡ length places
    → ((p : ℕ) → written_by i ≡ Some p → p < length places) → Agree (IsRead i) s t → stepped places pc s i ≡ goes a f → stepped places pc t i ≡ goes b g
    → Alike i a b f g
stepped_alike places pc (pre e) a b s t f g l m w n d k = plain_alike _ a b (pc + 1) f g refl (decided_met (holds e s) _ _ (pc + 1) a s f d) (decided_met (holds e t) _ _ (pc + 1) b t g k)
stepped_alike places pc (assign p e) a b s t f g l m w n d k =
    let inside = w p refl in
    let r = assigned_alike pc p e (slice_get places p) a b s t f g (omega arith) (omega arith) n d k in
    record { line = r.0; value = λ x h. let same : p ≡ x = cc in rw (← same) r.1 }
stepped_alike places pc (if_true e q) a b s t f g l m w n d k = test_alike _ e _ (pc + 1) q a b s t f g refl n d k
stepped_alike places pc (otherwise q) a b s t f g l m w n d k = plain_alike _ a b q f g refl (lands_at q a s f d) (lands_at q b t g k)
stepped_alike places pc end_if a b s t f g l m w n d k = plain_alike _ a b (pc + 1) f g refl (lands_at _ a s f d) (lands_at _ b t g k)
stepped_alike places pc loop a b s t f g l m w n d k = plain_alike _ a b (pc + 1) f g refl (lands_at _ a s f d) (lands_at _ b t g k)
stepped_alike places pc (end_loop q) a b s t f g l m w n d k = plain_alike _ a b q f g refl (lands_at q a s f d) (lands_at q b t g k)
stepped_alike places pc (exit q) a b s t f g l m w n d k = plain_alike _ a b q f g refl (lands_at q a s f d) (lands_at q b t g k)
stepped_alike places pc (exit_when e q) a b s t f g l m w n d k = test_alike _ e _ q (pc + 1) a b s t f g refl n d k
stepped_alike places pc label a b s t f g l m w n d k = plain_alike _ a b (pc + 1) f g refl (lands_at _ a s f d) (lands_at _ b t g k)
stepped_alike places pc (goto q) a b s t f g l m w n d k = plain_alike _ a b q f g refl (lands_at q a s f d) (lands_at q b t g k)
stepped_alike places pc skip a b s t f g l m w n d k = plain_alike _ a b (pc + 1) f g refl (lands_at _ a s f d) (lands_at _ b t g k)
stepped_alike places pc (assert e) a b s t f g l m w n d k = plain_alike _ a b (pc + 1) f g refl (decided_met (holds e s) _ _ (pc + 1) a s f d) (decided_met (holds e t) _ _ (pc + 1) b t g k)
stepped_alike places pc (return q) a b s t f g l m w n d k = plain_alike _ a b q f g refl (lands_at q a s f d) (lands_at q b t g k)
stepped_alike places pc (end_procedure e) a b s t f g l m w n d k = decided_never (holds e s) _ _ _ a s f d

decided_end : (o : Option Bool) (a b c : Step) → (a.next ≢ Halted End) → (b.next ≢ Halted End) → (c.next ≢ Halted End) → (decided o a b c).next ≢ Halted End
decided_end None a b c x y z e = x e
decided_end (Some true) a b c x y z e = y e
decided_end (Some false) a b c x y z e = z e

stored_end : (pc p : ℕ) (s : State) (o : Option ℤ) → (stored pc p s o).next ≢ Halted End
stored_end pc p s None e = cc
stored_end pc p s (Some w) e = cc

given_end : (pc p : ℕ) (place : Place) (s : State) (o : Option ℤ) → (assigned_to pc p place s o).next ≢ Halted End
given_end pc p place s None e = cc
given_end pc p place s (Some w) e = stored_end pc p s (kept place w) e

assigned_end : (pc p : ℕ) (x : Expression) (s : State) (o : Option Place) → (assigned pc p x s o).next ≢ Halted End
assigned_end pc p x s None e = cc
assigned_end pc p x s (Some place) e = given_end pc p place s (given place x s) e

-- a run ends at the last line alone
pub stepped_end : (places : List Place) (pc : ℕ) (s : State) (i : Instruction) → (stepped places pc s i).next ≡ Halted End → kind_of i ≡ Last
stepped_end places pc s (pre e) h = absurd (decided_end (holds e s) (stays (DivZero pc) s) (goes (pc + 1) s) (stays Outside s) (λ x. cc) (λ x. cc) (λ x. cc) h)
stepped_end places pc s (assign p e) h = absurd (assigned_end pc p e s (slice_get places p) h)
stepped_end places pc s (if_true e q) h = absurd (decided_end (holds e s) (stays (DivZero pc) s) (goes (pc + 1) s) (goes q s) (λ x. cc) (λ x. cc) (λ x. cc) h)
stepped_end places pc s (exit_when e q) h = absurd (decided_end (holds e s) (stays (DivZero pc) s) (goes q s) (goes (pc + 1) s) (λ x. cc) (λ x. cc) (λ x. cc) h)
stepped_end places pc s (assert e) h = absurd (decided_end (holds e s) (stays (DivZero pc) s) (goes (pc + 1) s) (stays (FailedAssert pc) s) (λ x. cc) (λ x. cc) (λ x. cc) h)
stepped_end places pc s (end_procedure e) h = refl
stepped_end places pc s i h = absurd (cc)
