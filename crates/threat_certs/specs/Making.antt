-- What is made of bounds and forks: a certificate, whatever the literals that they come from, or a solution of a choice of sides.
use Rattle.std.specs.Prelude.{◌≡◌, ◌≤◌, ◌<◌, ℕ, true, Option, Some, None, List, ◌∷◌, ◌++◌, map, length, slice_get}
use Rattle.il_core.specs.Certificate.{Certificate, certificate_of, nesting}
use Rattle.il_core.specs.declared.certificate.Cert.{Cert}
use Rattle.il_core.specs.declared.certificate.Item.{Item}
use Rattle.il_core.specs.declared.certificate.Item.TheVariants as item
use Rattle.il_core.specs.declared.certificate.Share.{Share}
use Rattle.il_core.specs.declared.line.Place.{Place}
use Rattle.sym_simplify.specs.Literal.{LiteralForm}
use Rattle.difference.specs.declared.constraint.Constraint.{Constraint}
use Rattle.difference.specs.declared.constraint.Edge.{Edge}
use Rattle.difference.specs.declared.constraint.Edge.TheVariants as edge
use Rattle.difference.specs.declared.constraint.Range64.{Range64}
use Rattle.path_inputs.specs.Bounding.{range_of, IsJudged}
use Rattle.cert_rules.specs.Acceptance.{Refutes, IsAccepted}
use Rattle.threat_certs.specs.Counting.{AreCounted, AreForks, splits_among}
use Rattle.threat_certs.specs.declared.counting.Fork.{Fork}

abbrev pub given_item : Option Item → ℕ → Item
given_item None i = item.Low i
given_item (Some counted) i = counted

-- the item of an edge: that of its place, or the one that counts its constraint
abbrev pub item_of : List Item → Edge → Item
item_of items (edge.Low k) = item.Low k
item_of items (edge.High k) = item.High k
item_of items (edge.Given i) = given_item (slice_get items i) i

-- once
abbrev pub share_of : List Item → Edge → Share
share_of items e = record { item = item_of items e; times = 1 }

-- the edge is of a place, or of one of n constraints
abbrev pub IsCountable : ℕ → Edge → Type 0
IsCountable n (edge.Low k) = Unit {0}
IsCountable n (edge.High k) = Unit {0}
IsCountable n (edge.Given i) = i < n

-- the certificate refutes all literals that have these bounds and forks
abbrev pub RefutesForks : List Range64 → List Constraint → List Item → List Fork → Certificate → Type 0
RefutesForks ranges cs items forks certificate = (places : List Place) (pc : ℕ) (fs : List LiteralForm) → ranges ≡ map range_of places → length places ≤ 64
    → AreCounted places pc fs cs items → AreForks fs forks → Refutes places pc fs certificate × (nesting certificate ≤ length forks)

-- some choice of sides has a solution, or a certificate is made
abbrev pub IsMade : List Range64 → List Constraint → List Item → List Fork → Option Cert → Type 0
IsMade ranges cs items forks None = IsJudged ranges cs (splits_among forks) true
IsMade ranges cs items forks (Some cert) = RefutesForks ranges cs items forks (certificate_of cert)

-- a choice of sides of the core has a solution, and one beside each of the others
pub record HaveSolutions (ranges : List Range64) (cs : List Constraint) (core others : List Fork) : Type 0 where
  pub core_solved : IsJudged ranges cs (splits_among core) true
  pub others_solved : (j : ℕ) (f : Fork) → slice_get others j ≡ Some f → IsJudged ranges cs (splits_among (f ∷ core)) true

-- the certificate is accepted for all literals that have these bounds and forks
abbrev pub IsAcceptedForks : List Range64 → List Constraint → List Item → List Fork → Certificate → Type 0
IsAcceptedForks ranges cs items forks certificate = (places : List Place) (pc : ℕ) (fs : List LiteralForm) → ranges ≡ map range_of places → length places ≤ 64
    → AreCounted places pc fs cs items → AreForks fs forks → IsAccepted places pc fs certificate

abbrev pub IsMadeOfAll : List Range64 → List Constraint → List Item → List Fork → List Fork → Option Cert → Type 0
IsMadeOfAll ranges cs items core others None = HaveSolutions ranges cs core others
IsMadeOfAll ranges cs items core others (Some cert) = IsAcceptedForks ranges cs items (core ++ others) (certificate_of cert)
