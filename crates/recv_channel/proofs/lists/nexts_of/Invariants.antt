use Rattle.recv_channel.proofs.Copied.{Filled}
use Rattle.recv_channel.proofs.lists.nexts_of.Given as goal

-- the first c channels' nexts and memories are there
abbrev pub invariant-loop-c : goal.invariant-loop-c
invariant-loop-c l = Filled l.queue.channels l.c l.nexts
