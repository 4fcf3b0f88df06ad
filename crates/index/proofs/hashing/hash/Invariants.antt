use Rattle.std.proofs.Common.{◌≡◌, drop}
use Rattle.rules.specs.Bytes.{bytes_of}
use Rattle.rules.specs.Index.{fnv_from}
use Rattle.index.proofs.hashing.hash.Given as goal

abbrev pub invariant-loop-byte : goal.invariant-loop-byte
invariant-loop-byte l = fnv_from l.h (drop l.byte-index l.byte-items) ≡ fnv_from 2166136261 (bytes_of l.token)
