use native.Mathlib.Omega.{arith}
use Rattle.recv_save.proofs.Each.{each-len, each-len-end}
use Rattle.recv_save.specs.Slots.{entry_bytes}
use Rattle.recv_save.proofs.slots.entries_len.Goals as goal

pub loop-entry-init : goal.loop-entry-init
loop-entry-init c = (omega arith, omega arith)

pub loop-entry-preserved : goal.loop-entry-preserved
loop-entry-preserved c =
    let e = each-len (entry_bytes c.args.used c.args.rows.now c.args.store.now) c.args.order.now 0 c.loop-entry.entry-index
    c.loop-entry-test.true in
    let a = c.entry_len-n.ensures.is in
    let b = c.entry_len-n.ensures.short in
    let i = c.loop-entry.invariant.0 in
    let j = c.loop-entry.invariant.1 in
    (omega arith, omega arith)

pub returns-clause-is : goal.returns-clause-is
returns-clause-is c =
    let e = each-len-end (entry_bytes c.args.used c.args.rows.now c.args.store.now) c.args.order.now c.loop-entry.entry-index
    c.loop-entry-test.false in
    let j = c.loop-entry.invariant.1 in
    omega arith
