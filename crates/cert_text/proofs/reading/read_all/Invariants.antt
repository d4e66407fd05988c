-- The certificates so far are at the front, and what is left gets shorter.
use Rattle.std.proofs.Common.{◌≡◌, ◌++◌, length, map}
use Rattle.std.specs.List.{All, flat_map}
use Rattle.cert_text.specs.Line.{text_of}
use Rattle.cert_text.specs.Text.{named_of, cert_lines, IsReadable}
use Rattle.cert_text.proofs.reading.read_all.Given as goal

abbrev pub invariant-loop-rest : goal.invariant-loop-rest
invariant-loop-rest l = record {
  front : l.fn.text ≡ text_of (flat_map cert_lines (map named_of l.certs)) ++ l.rest;
  readable : All (IsReadable l.names) (map named_of l.certs);
}

abbrev pub decreases-loop-rest : goal.decreases-loop-rest
decreases-loop-rest l = length l.rest
