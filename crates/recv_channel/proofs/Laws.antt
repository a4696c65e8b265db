-- The channels as they are advanced.
--     one_more      one more record stands at its numbers
-- Assumes nothing.
use Prim.Native.Nat.{ℕ, ◌+◌, ◌<◌}
use mathlib.Core.Path.{◌≡◌, sym, ◌∙◌}
use native.Mathlib.Numerals.{add-one}
use native.Mathlib.Omega.{arith}
use mathlib.Core.List.{List, [], ◌∷◌, ◌++◌}
use lib.ListN.{length, set, get_or, take, drop}
use lib.Seq.{length-take-le}
use Rattle.std.proofs.Common.{append_assoc, drop-cons}
use Rattle.std.proofs.lemmas.List.{set_at, take_more}
use Rattle.receiver.specs.declared.Channel.{Channel}
use Rattle.receiver.specs.Queue.{new_channel}
use Rattle.receiver.specs.Parts.{channel_with}

pub one_more : (cs old ns : List Channel) (c : ℕ) (x : Channel) → cs ≡ take c ns ++ drop c old → c < length ns → c < length old
    → x ≡ channel_with (get_or ns c new_channel).next (get_or ns c new_channel).newest
    → set cs c x ≡ take (c + 1) ns ++ drop (c + 1) old
one_more cs old ns c x e h g f = rw (e, f, drop-cons old c new_channel g, take_more ns c new_channel h, add-one c)
    (set_at (take c ns) (get_or old c new_channel) _ y c (length-take-le c ns (omega arith)) ∙ sym (append_assoc (take c ns) (y ∷ []) _))
  where
    y : Channel
    y = get_or ns c new_channel
