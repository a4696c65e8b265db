use native.Mathlib.Omega.{arith}
use Prim.Native.Nat.{ℕ, ◌/◌}
use mathlib.Core.Path.{◌≡◌}
use Rattle.base.specs.Bytes.{be16_bytes, be32_bytes, be64_bytes}
use Rattle.base.specs.Put.{and_then}
use Rattle.base.proofs.put64.Goals as goal

pub returns : goal.returns
unfolding be64_bytes be32_bytes and_then be16_bytes
returns c =
    let x = c.args.x in
    let e = c.to_be_bytes-bytes.ensures in
    let a : x / 4294967296 / 65536 / 256 ≡ x / 72057594037927936 = omega arith in
    let b : x / 4294967296 / 65536 ≡ x / 281474976710656 = omega arith in
    let d : x / 4294967296 / 256 ≡ x / 1099511627776 = omega arith in
    let f : x / 65536 / 256 ≡ x / 16777216 = omega arith in
    rw (a, b, d, f) (rw e at c.put_all.ensures)
