use mathlib.Core.Path.{refl}
use native.Mathlib.Omega.{arith}
use Rattle.window.proofs.ByWords.{found-above, highest-found, highest-on, highest-none}
use Rattle.window.proofs.words.highest.Goals as goal

pub overflow_sub-result : goal.overflow_sub-result
overflow_sub-result c =
    let s = c.in-Some.ensures in
    let a = found-above c.args.bits.now c.args.low _ _ _ _ (omega arith) (omega arith) c.between.ensures c.word.ensures refl
    (λ x a b d. c.loop-j.invariant x a (omega arith) d) c.in-Some.top s.power_le s.next_power_gt s.bound in
    omega arith

pub returns-in-Some : goal.returns-in-Some
returns-in-Some c =
    let s = c.in-Some.ensures in
    highest-found c.args.bits.now c.args.low _ _ _ _ (omega arith) (omega arith) c.between.ensures c.word.ensures refl
    (λ x a b d. c.loop-j.invariant x a (omega arith) d) c.in-Some.top s.power_le s.next_power_gt s.bound

pub loop-j-preserved : goal.loop-j-preserved
loop-j-preserved c =
    highest-on c.args.bits.now c.args.low _ _ _ _ (omega arith) (omega arith) c.between.ensures c.word.ensures refl
    (λ x a b d. c.loop-j.invariant x a (omega arith) d) c.in_default.ensures.none

pub returns : goal.returns
returns c = highest-none _ _ _ (omega arith) c.loop-j.invariant
