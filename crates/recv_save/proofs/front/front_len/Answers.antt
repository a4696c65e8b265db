use borrow.Author.Rules.{rules}
use lib.ListN.{length}
use mathlib.Core.Path.{◌≡◌}
use Rattle.base.specs.Limits.{max_unsent}
use Rattle.recv_save.proofs.Values.{front-length}
use Rattle.recv_save.proofs.front.front_len.Goals as goal

pub returns-clause-is : goal.returns-clause-is
returns-clause-is c =
    let m : length c.args.queue.now.unsent ≡ max_unsent = search rules in
    front-length _ c.requires m
