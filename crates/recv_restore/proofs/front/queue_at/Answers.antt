use mathlib.Core.Path.{sym, subst}
use Prim.Native.Nat.{ℕ}
use native.Mathlib.Omega.{arith}
use Rattle.recv_restore.specs.Fits.{Each, NumberCan, number_next}
use Rattle.recv_restore.specs.Filling.{TestOf}
use Rattle.recv_restore.specs.Front.{Counts, Narrow, Queue, Unsent, numbers_at}
use Rattle.recv_restore.proofs.Fronts.{at-pieces, front-counts, front-narrow, front-unsent, front-made, queue-made}
use Rattle.recv_restore.proofs.front.queue_at.Goals as goal

pub returns-then-not-counts_fit : goal.returns-then-not-counts_fit
unfolding TestOf Queue
returns-then-not-counts_fit c = λ f. c.counts_fit.ensures.1 c.if-not-counts_fit.true (front-counts c.args.s.now f)

pub returns-then-not-values_fit : goal.returns-then-not-values_fit
unfolding TestOf Queue
returns-then-not-values_fit c = λ f. c.values_fit.ensures.1 c.if-not-values_fit.true
    (front-narrow c.args.s.now (front-counts c.args.s.now f) f)

pub unsent_at-requires : goal.unsent_at-requires
unfolding TestOf
unsent_at-requires c =
    let k : Counts c.args.s.now = c.counts_fit.ensures.0 c.if-not-counts_fit.false in
    let few = k.unsent in
    let e = c.be32_at-pending.ensures in
    omega arith

pub returns-in_err-unsent : goal.returns-in_err-unsent
unfolding Queue Unsent
returns-in_err-unsent c = rw c.from_residual.ensures (λ f. c.in_err-unsent.ensures
    (subst (λ (n : ℕ). Each NumberCan number_next 0 (numbers_at c.args.s.now n)) (sym c.be32_at-pending.ensures)
    (front-unsent c.args.s.now f)))

pub window_at-requires-clause-narrow : goal.window_at-requires-clause-narrow
unfolding TestOf
window_at-requires-clause-narrow c = (c.values_fit.ensures.0 c.if-not-values_fit.false).datagrams

pub window_at-requires-2-clause-narrow : goal.window_at-requires-2-clause-narrow
unfolding TestOf
window_at-requires-2-clause-narrow c = (c.values_fit.ensures.0 c.if-not-values_fit.false).reliables

pub window_at-requires-clause-within : goal.window_at-requires-clause-within
unfolding TestOf
window_at-requires-clause-within c =
    let e = at-pieces c.args.s.now (c.counts_fit.ensures.0 c.if-not-counts_fit.false) in
    let le = c.requires in
    (omega arith, omega arith)

pub window_at-requires-2-clause-within : goal.window_at-requires-2-clause-within
unfolding TestOf
window_at-requires-2-clause-within c =
    let e = at-pieces c.args.s.now (c.counts_fit.ensures.0 c.if-not-counts_fit.false) in
    let le = c.requires in
    (omega arith, omega arith)

pub channels_at-requires : goal.channels_at-requires
unfolding TestOf
channels_at-requires c = (c.values_fit.ensures.0 c.if-not-values_fit.false).channels

pub returns : goal.returns
unfolding TestOf Queue Unsent
returns c =
    let k : Counts c.args.s.now = c.counts_fit.ensures.0 c.if-not-counts_fit.false in
    let w : Narrow c.args.s.now = c.values_fit.ensures.0 c.if-not-values_fit.false in
    let u = c.in_ok-unsent.ensures in (
      front-made c.args.s.now k w (subst (λ (n : ℕ). Each NumberCan number_next 0
          (numbers_at c.args.s.now n)) c.be32_at-pending.ensures u.0),
      queue-made c.args.s.now k w _ _ _ _ _ _ _ c.window_at.ensures c.window_at-2.ensures c.channels_at.ensures
          c.be32_at-pending.ensures u.1
          c.low.ensures c.low-2.ensures,
    )
