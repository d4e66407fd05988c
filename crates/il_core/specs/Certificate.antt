-- A certificate without the pointers that hold it: shares to be summed, or a literal to be split with a certificate for each side.
use Rattle.std.specs.Prelude.{ℕ, suc, max, List}
use Rattle.il_core.specs.declared.certificate.Share.{Share}
use Rattle.il_core.specs.declared.certificate.Cert.{Cert, Split'}
use Rattle.il_core.specs.declared.certificate.Cert.TheVariants.{Sum}

pub data Certificate : Type 0 where
  sum : List Share → Certificate
  split : ℕ → Certificate → Certificate → Certificate

-- the certificate that a `Cert` holds
abbrev pub certificate_of : Cert → Certificate
certificate_of (Sum shares) = sum shares
certificate_of (Split' i p low q high) = split i (certificate_of low) (certificate_of high)

-- how many splits stand inside one another
abbrev pub nesting : Certificate → ℕ
nesting (sum shares) = 0
nesting (split i low high) = suc (max (nesting low) (nesting high))
