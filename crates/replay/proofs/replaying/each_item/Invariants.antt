use Rattle.std.specs.List.{FoldsTo}
use Rattle.replay.specs.Items.{items_of, items_left}
use Rattle.replay.specs.Replays.{RanAt}
use Rattle.replay.proofs.replaying.each_item.Given as goal

-- what the steps at the items that are left lead to, those at all items lead to
abbrev pub invariant-loop-tag : goal.invariant-loop-tag
invariant-loop-tag g l =
    goal.F-IsAlwaysCallable g l.step
    × ((last : _) → FoldsTo (RanAt g.F.FnMut) l.step (items_left l.tag-iterator) last
    → FoldsTo (RanAt g.F.FnMut) l.fn.step (items_of l.bytes) last)
