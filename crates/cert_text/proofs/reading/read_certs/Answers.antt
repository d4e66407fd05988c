use Rattle.std.proofs.Common.{◌-◌, refl, length, subst}
use Rattle.cert_text.specs.Progress.{CertsThen, Fails}
use Rattle.cert_text.proofs.Bad.{stuck_bad}
use Rattle.cert_text.proofs.reading.read_certs.Goals as goal

pub returns-in-Err-Bad : goal.returns-in-Err-Bad
returns-in-Err-Bad c =
    let names = c.args.names.now in
    let bytes = c.args.bytes.now in
    record {
      place = length bytes - c.in-Err-Bad.left;
      bad = stuck_bad names bytes c.in-Err-Bad.left (subst (Fails (CertsThen names) bytes) c.in-Err-Bad.field-0-is c.in-Err-Bad.ensures);
      is = refl;
    }
