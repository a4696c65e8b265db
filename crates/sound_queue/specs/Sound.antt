-- What the test of the receiver's own values tells, and the parts of `sound_queue` that a function of the code tests by itself.
use Rattle.std.specs.Prelude.{ℕ, Bool, true, false, ◌&&◌, List, Result, Ok, Err, ltb, leb}
use Rattle.std.specs.Int.Bits.{bit_or}
use Rattle.std.specs.List.{fold}
use Rattle.base.specs.Limits.{numbers24, max_unsent}
use Rattle.base.specs.Lists.{every}
use Rattle.base.specs.declared.refusal.Refusal.{Refusal}
use Rattle.base.specs.declared.refusal.Refusal.TheVariants.{NotSound}
use Rattle.window.specs.declared.ReliableWindow.{ReliableWindow}
use Rattle.window.specs.Window.{accepted}
use Rattle.ack.specs.Write.{ascending}
use Rattle.cells.specs.Sound.{sound_nexts, sound_memories}
use Rattle.receiver.specs.declared.Channel.{Channel}
use Rattle.receiver.specs.declared.RecvQueue.{RecvQueue}
use Rattle.receiver.specs.Queue.{next_of, newest_of, sound_window, sound_profile, differ, unsent_of, sound_queue}

-- 9 where the rules do not hold, else whether the numbers ascend
abbrev pub told : Bool → Bool → Result Bool Refusal
told true rising = Ok rising
told false rising = Err NotSound

-- whether the rules hold; and whether the unsent numbers of a sound receiver ascend, as they do wherever numbers joined one by one
unfoldable pub queue_sound_of : RecvQueue → Result Bool Refusal
queue_sound_of q = told (sound_queue q) (ascending (unsent_of q))

-- all rules but those on the unsent numbers themselves
unfoldable pub sound_values : RecvQueue → Bool
sound_values q = sound_window q.datagrams && (sound_window q.reliables && (sound_nexts (next_of q) && (sound_memories (newest_of q)
    && (sound_profile q.profile && leb q.pending max_unsent))))

-- a channel's next and memory are at most 2^24
unfoldable pub channel_within : Channel → Bool
channel_within c = leb c.next numbers24 && leb c.newest numbers24

-- those of all channels
unfoldable pub nexts_within : List Channel → Bool
nexts_within cs = every channel_within cs

-- the channels' nexts and memories, joined by their bits
abbrev pub join_channel : ℕ → Channel → ℕ
join_channel bits c = bit_or (bit_or bits c.next) c.newest

unfoldable pub joined : List Channel → ℕ
joined cs = fold join_channel 0 cs

-- a number that may be unsent: "below low or accepted", and below 2^24
unfoldable pub sound_number : ReliableWindow → ℕ → Bool
sound_number w n = ltb n numbers24 && accepted w n

-- "unsent numbers differ and are below low or accepted"
unfoldable pub sound_numbers : ReliableWindow → List ℕ → Bool
sound_numbers w l = every (sound_number w) l && differ l

-- the same, with whether they ascend
unfoldable pub numbers_sound_of : ReliableWindow → List ℕ → Result Bool Refusal
numbers_sound_of w l = told (sound_numbers w l) (ascending l)
