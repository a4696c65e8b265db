use mathlib.Core.Path.{◌∙◌}
use native.Mathlib.Omega.{arith}
use lib.ListN.{length-set}
use Rattle.receiver.specs.Parts.{channel_with}
use Rattle.recv_parts.proofs.Laws.{one_more, all_made}
use Rattle.recv_parts.proofs.channels_of.Goals as goal

pub loop-c-preserved : goal.loop-c-preserved
loop-c-preserved c =
    let long = c.loop-c.invariant.0 in (
      length-set _ _ _ ∙ long,
      one_more _ _ _ c.loop-c.invariant.1 _ (omega arith) (omega arith)
          (λ i. channel_with (c.number_at.ensures i) (c.number_at-in-loop-c.ensures i)),
    )

pub returns : goal.returns
returns c = all_made _ _ _ c.loop-c.invariant.1 c.loop-c.invariant.0 (omega arith)
