-- The section on certificates: for each one that was read the number of its threat, and whether it holds; and behind them the certificates that
-- were made, in the very lines in which certificates are read.
use Rattle.std.specs.Prelude.{ℕ, Bool, List, ◌++◌, codes, decimal, map, if◌then◌else◌}
use Rattle.std.specs.List.{flat_map}
use Rattle.il_core.specs.declared.certificate.NamedCert.{NamedCert}
use Rattle.cert_text.specs.Text.{named_of, certs_text}
use Rattle.report.specs.declared.report.CertRow.{CertRow}

abbrev pub held_text : Bool → List ℕ
held_text holds = if holds then codes " HOLDS\n" else codes " FAILS\n"

-- the line of a certificate that was read
unfoldable pub read_text : CertRow → List ℕ
read_text row = codes "READ " ++ decimal row.threat ++ held_text row.holds

unfoldable pub certificates_text : List CertRow → List NamedCert → List ℕ
certificates_text rows made = codes "CERTIFICATES\n" ++ flat_map read_text rows ++ certs_text (map named_of made)
