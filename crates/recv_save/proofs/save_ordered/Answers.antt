use Rattle.recv_save.proofs.Whole.{rows-few, order-few, pending-few, lows-few, no-room, saved}
use Rattle.recv_save.proofs.save_ordered.Goals as goal

pub cells_len-requires : goal.cells_len-requires
cells_len-requires c = order-few _ _ _ c.requires.sound _ c.requires.ordered

pub returns-then-out-len : goal.returns-then-out-len
returns-then-out-len c =
    no-room _ _ _ c.requires.sound _ _ c.requires.ordered _ _ c.front_len.ensures.is c.cells_len.ensures.is c.if-out-len.true

pub put_front-a-requires-clause-windows : goal.put_front-a-requires-clause-windows
put_front-a-requires-clause-windows c = lows-few _ _ _ c.requires.sound

pub put_front-a-requires-clause-few : goal.put_front-a-requires-clause-few
put_front-a-requires-clause-few c = pending-few _ _ _ c.requires.sound

pub front_len-requires : goal.front_len-requires
front_len-requires c = pending-few _ _ _ c.requires.sound

pub put_cells-requires : goal.put_cells-requires
put_cells-requires c = rows-few _ _ _ c.requires.sound

pub returns : goal.returns
returns c =
    saved _ _ _ c.requires.sound _ _ c.requires.ordered _ _ c.front_len.ensures.is c.cells_len.ensures.is
    c.if-out-len.false _ _ _ _ c.put_front-a.ensures c.put_cells.ensures
