-- What the rules behind that of names declared twice answer together.
use Rattle.std.proofs.Common.{◌≡◌, subst, inl, inr, List}
use Rattle.std.specs.Prelude.{Option, Some, None}
use Rattle.il_core.specs.Statement.{Placed}
use Rattle.il_core.specs.declared.refusal.Refusal.{Refusal}
use Rattle.il_core.specs.declared.statement.Link.{Link}
use Rattle.il_types.specs.Rules.{ComesNowhere, IsRefused, Refuses}
use Rattle.call_rules.specs.Clash.{twice_at}
use Rattle.call_rules.specs.Fits.{misfit_at}
use Rattle.call_rules.specs.Limits.{excess_at}
use Rattle.call_rules.specs.Rules.{passes_with_names, Answers}
use Rattle.call_rules.proofs.Joined.{answers_with_names, answers_with_calls}

pub named_refused : (stmts : List Placed) (links : List Link) (named : Option Refusal) (r : Refusal) → ComesNowhere (twice_at stmts links) stmts
    → named ≡ Some r → Refuses (passes_with_names stmts) stmts named → Answers stmts links (Some r)
named_refused stmts links named r once is answer = answers_with_names stmts links r once (subst (λ (o : Option Refusal). Refuses (passes_with_names stmts) stmts o) is answer)

pub past_limits : (stmts : List Placed) (links : List Link) (named past : Option Refusal) (r : Refusal) → ComesNowhere (twice_at stmts links) stmts
    → named ≡ None → Refuses (passes_with_names stmts) stmts named → past ≡ Some r → IsRefused (excess_at stmts links) stmts past → Answers stmts links (Some r)
past_limits stmts links named past r once n known p first = answers_with_calls stmts links (Some r) once
    (subst (λ (o : Option Refusal). Refuses (passes_with_names stmts) stmts o) n known) (inl (subst (λ (o : Option Refusal). IsRefused (excess_at stmts links) stmts o) p first))

pub unfit : (stmts : List Placed) (links : List Link) (named past misfit : Option Refusal) (r : Refusal) → ComesNowhere (twice_at stmts links) stmts
    → named ≡ None → Refuses (passes_with_names stmts) stmts named → past ≡ None → IsRefused (excess_at stmts links) stmts past
    → misfit ≡ Some r → IsRefused (misfit_at stmts links) stmts misfit → Answers stmts links (Some r)
unfit stmts links named past misfit r once n known p within m first = answers_with_calls stmts links (Some r) once
    (subst (λ (o : Option Refusal). Refuses (passes_with_names stmts) stmts o) n known)
    (inr (subst (λ (o : Option Refusal). IsRefused (excess_at stmts links) stmts o) p within, inl (subst (λ (o : Option Refusal). IsRefused (misfit_at stmts links) stmts o) m first)))

pub all_kept : (stmts : List Placed) (links : List Link) (named past misfit : Option Refusal) → ComesNowhere (twice_at stmts links) stmts
    → named ≡ None → Refuses (passes_with_names stmts) stmts named → past ≡ None → IsRefused (excess_at stmts links) stmts past
    → misfit ≡ None → IsRefused (misfit_at stmts links) stmts misfit → Answers stmts links None
all_kept stmts links named past misfit once n known p within m fitting = answers_with_calls stmts links None once
    (subst (λ (o : Option Refusal). Refuses (passes_with_names stmts) stmts o) n known)
    (subst (λ (o : Option Refusal). IsRefused (excess_at stmts links) stmts o) p within, (subst (λ (o : Option Refusal). IsRefused (misfit_at stmts links) stmts o) m fitting, tt))
