-- The bytes that are left give from here what all give from the start.
use Rattle.std.proofs.Common.{length, sym, ap, ◌∙◌, drop_of_length-le, arith}
use Rattle.rules.specs.Bytes.{bytes_of}
use Rattle.rules.specs.Index.{fnv_from}
use Rattle.laws.proofs.Loops.{list_next}
use Rattle.index.proofs.hashing.hash.Goals as goal

pub loop-byte-init : goal.loop-byte-init
unfolding bytes_of
loop-byte-init c = ap (fnv_from 2166136261) c.to_le_bytes-byte-items.ensures

pub loop-byte-preserved : goal.loop-byte-preserved
unfolding fnv_from
loop-byte-preserved c =
    let four = ap length c.to_le_bytes-byte-items.ensures in
    rw (c.product-h.ensures, c.from.ensures)
    (ap (fnv_from c.loop-byte.h) (sym (list_next c.to_le_bytes-byte-items.result c.loop-byte.byte-index (omega (arith, four)))) ∙ c.loop-byte.invariant)

pub returns : goal.returns
unfolding fnv_from
returns c =
    let four = ap length c.to_le_bytes-byte-items.ensures in
    ap (fnv_from c.loop-byte.h) (sym (drop_of_length-le c.to_le_bytes-byte-items.result (omega (arith, four)))) ∙ c.loop-byte.invariant
