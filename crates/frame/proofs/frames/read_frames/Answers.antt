use borrow.Author.Rules.{rules}
use Rattle.frame.proofs.FramesCases.{passed-all, passed-more, passed-less}
use Rattle.frame.proofs.frames.read_frames.Goals as goal

pub loop-span-smaller : goal.loop-span-smaller
loop-span-smaller c = search (rules, passed-less)

pub loop-span-preserved : goal.loop-span-preserved
loop-span-preserved c = search (rules, passed-more)

pub returns : goal.returns
returns c = search (rules, passed-all)
