use Rattle.std.proofs.Common.{rules}
use Rattle.recv_take.proofs.Pieces.{joined_more}
use Rattle.recv_take.proofs.message.Message.join.Goals as goal

pub loop-i-preserved : goal.loop-i-preserved
loop-i-preserved c = search (rules, joined_more)
