use borrow.Author.Rules.{rules}
use mathlib.Core.Path.{◌∙◌}
use mathlib.Core.Bool.{true, ◌&&◌}
use Rattle.std.proofs.lemmas.Iterator.{YieldsList-from_slice}
use Rattle.std.proofs.lemmas.Iterator.Consumers.{fold_from_yields_List}
use Rattle.recv_prefix.specs.First.{is_unused}
use Rattle.recv_queue.proofs.LastUsed.{folded}
use Rattle.recv_queue.proofs.all_unused.Goals as goal

pub returns : goal.returns
unfolding is_unused
returns c =
    fold_from_yields_List _ (λ b r. b && is_unused r) true _ c.fold.ensures.ran (YieldsList-from_slice c.args.records.now cc)
    (λ a x b q k. search rules) ∙ folded true c.args.records.now
