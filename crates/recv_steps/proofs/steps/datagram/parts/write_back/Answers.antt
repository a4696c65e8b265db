use mathlib.Core.Path.{◌∙◌}
use native.Mathlib.Omega.{arith}
use Rattle.recv_steps.proofs.ByParts.{all_put}
use Rattle.recv_steps.proofs.steps.datagram.parts.write_back.Goals as goal

pub returns-clause-bits : goal.returns-clause-bits
returns-clause-bits c =
    all_put c.args.queue.now.reliables.bits c.args.rbits.now _ _ c.put_all.ensures (omega (arith, c.requires.bits))

pub returns-clause-nexts : goal.returns-clause-nexts
returns-clause-nexts c =
    all_put c.nexts_of.result c.args.nexts.now _ _ c.put_all-2.ensures (omega (arith, c.requires.nexts)) ∙ c.nexts_of.ensures
