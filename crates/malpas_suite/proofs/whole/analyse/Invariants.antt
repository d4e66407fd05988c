use Rattle.std.proofs.Common.{◌≡◌, length}
use Rattle.il_inline.specs.Expanded.{whole_of}
use Rattle.report.specs.Headline.{IsTold}
use Rattle.malpas_suite.proofs.whole.analyse.Given as goal

abbrev pub invariant-loop-number : goal.invariant-loop-number
invariant-loop-number l = record {
  told : IsTold l.certs (whole_of l.text) l.report;
  made : length l.report.procs ≡ l.number;
}
