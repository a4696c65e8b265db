use mathlib.Core.Path.{◌∙◌}
use native.Mathlib.Omega.{arith}
use borrow.Author.Rules.{rules}
use Rattle.recv_steps.proofs.Beginning.{few_rows, may_begin}
use Rattle.recv_steps.proofs.ReceivingAccepted.{number-small, beyond-reach, ran_out, is-accepted}
use Rattle.recv_steps.proofs.steps.datagram.receive.receive_frames.Goals as goal

pub begin-turn-requires : goal.begin-turn-requires
begin-turn-requires c =
    let n = c.requires in
    few_rows _ _ _ _ n

pub frames-requires : goal.frames-requires
frames-requires c =
    let n = c.requires in
    let begun = c.begin-turn.ensures in
    may_begin _ _ _ _ n n.channels c.copy_nexts-nexts.ensures begun.turn begun.rows

pub returns-in-Ok : goal.returns-in-Ok
returns-in-Ok c =
    let n = c.requires in
    let begun = c.begin-turn.ensures in
    let left = c.refuse.ensures in
    rw left.is (ran_out _ _ _ _ n c.copy_nexts-nexts.ensures _ _ begun.turn begun.rows _ _ _ _
    c.frames.ensures _ c.in-Ok.is (search rules) (c.frames.auto.rows ∙ c.begin-turn.auto.rows) left.rows)

pub returns-in-Err : goal.returns-in-Err
returns-in-Err c =
    let n = c.requires in
    let left = c.refuse-in-Err.ensures in
    rw left.is (beyond-reach _ _ _ _ n c.copy_nexts-nexts.ensures _ _ _ _ _ _ c.frames.ensures
    c.in-Err.is (c.frames.auto.rows ∙ c.begin-turn.auto.rows) left.rows)

pub returns : goal.returns
returns c =
    let n = c.requires in
    let begun = c.begin-turn.ensures in
    is-accepted _ _ _ _ n c.copy_nexts-nexts.ensures _ _ begun.turn begun.rows _ _ _ _
    c.frames.ensures _ c.in-Ok.is (c.frames.auto.rows ∙ c.begin-turn.auto.rows) (number-small _ c.type_inv.datagram) n.channels
    (omega arith) c.settle.ensures.rows c.settle.ensures.store c.settle-2.ensures (search rules)
