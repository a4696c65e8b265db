use native.Mathlib.Omega.{arith}
use Prim.Native.Nat.{◌<◌, ◌≤◌}
use borrow.Author.Rules.{rules}
use borrow.Author.Tests.{tests}
use Rattle.base.specs.Limits.{max_frags}
use Rattle.split.proofs.Cases.{too_many, beyond-last, given}
use Rattle.split.proofs.count_pieces.Goals as goal

pub returns-in_default : goal.returns-in_default
returns-in_default c = let h : max_frags < c.div_ceil.result = omega (arith, c.in-Ok.ensures) in search (rules, too_many)

pub returns-in_default-2 : goal.returns-in_default-2
returns-in_default-2 c = let h : max_frags < c.div_ceil.result = omega arith in search (rules, too_many)

pub returns-then-count-k : goal.returns-then-count-k
returns-then-count-k c =
    let few : c.div_ceil.result ≤ max_frags = omega (arith, c.in-Ok.ensures) in
    let h : c.div_ceil.result ≤ c.args.k = omega (arith, c.in-Ok.ensures) in
    search (rules, beyond-last)

pub returns : goal.returns
returns c =
    let is = c.in-Ok.ensures.1 in
    rw is (given _ _ _ (search (rules, tests)) (search (rules, tests)) _ c.chunk-chunk.ensures c.if-n-chunk.false _ c.div_ceil.ensures
    (rw is at c.if-count-le-MAX_FRAGS.true) (rw is at c.if-count-k.false))
