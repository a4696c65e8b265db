use lib.ListN.{drop}
use Rattle.base.proofs.Runs.{Left}
use Rattle.recv_save.specs.Each.{each_bytes}
use Rattle.recv_save.specs.Front.{channel_bytes}
use Rattle.recv_save.proofs.front.put_channels.Given as goal

abbrev pub invariant-loop-c : goal.invariant-loop-c
invariant-loop-c l =
    Left l.to (each_bytes channel_bytes l.channels) l.initial.out l.p (each_bytes channel_bytes (drop l.c-index l.channels)) l.out
