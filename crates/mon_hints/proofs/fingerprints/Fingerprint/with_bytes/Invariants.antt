-- The fingerprint so far, behind which the other bytes come.
use Rattle.std.proofs.Common.{◌≡◌, drop}
use Rattle.mon_hints.specs.Hints.{with_bytes}
use Rattle.mon_hints.proofs.fingerprints.Fingerprint.with_bytes.Given as goal

abbrev pub invariant-loop-byte : goal.invariant-loop-byte
invariant-loop-byte l = with_bytes l.fingerprint.state (drop l.byte-index l.bytes) ≡ with_bytes l.fn.self.state l.bytes
