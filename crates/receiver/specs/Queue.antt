-- What the receiver keeps beside the cells, and the rules on its values ("Sound"): document 01, "Calls and their numbers", 9.
use Rattle.std.specs.Prelude.{ℕ, zero, suc, ◌+◌, Bool, true, cond, not, ◌&&◌, ◌||◌, ltb, leb, eqb}
use Rattle.std.specs.Prelude.{List, [], ◌∷◌, ◌++◌, map, get_or, take, replicate}
use Rattle.base.specs.Limits.{numbers24, max_ord_chans, profiles, window_places, max_unsent}
use Rattle.base.specs.Lists.{any, every}
use Rattle.reliability.specs.declared.Profile.{Profile}
use Rattle.reliability.specs.Profiles.{profile_of, profile_number}
use Rattle.window.specs.declared.ReliableWindow.{ReliableWindow}
use Rattle.window.specs.Places.{place_set}
use Rattle.window.specs.Window.{accepted, new_window}
use Rattle.cells.specs.Sound.{sound_nexts, sound_memories}
use Rattle.receiver.specs.declared.Channel.{Channel}
use Rattle.receiver.specs.declared.RecvQueue.{RecvQueue}

-- a channel that nothing has come to
abbrev pub new_channel : Channel
new_channel = record { next = 0; newest = 0 }

-- each channel's next order number; 0 past the channels
unfoldable pub next_in : List Channel → ℕ → ℕ
next_in channels c = (get_or channels c new_channel).next

unfoldable pub next_of : RecvQueue → ℕ → ℕ
next_of q = next_in q.channels

-- the memories of newest sequence numbers: each channel's, then the receiver's own; 0 past them
unfoldable pub memories_in : List Channel → ℕ → List ℕ
memories_in channels own = map (λ (c : Channel). c.newest) channels ++ (own ∷ [])

unfoldable pub newest_of : RecvQueue → ℕ → ℕ
newest_of q m = get_or (memories_in q.channels q.newest) m 0

-- the numbers not yet acknowledged
unfoldable pub unsent_of : RecvQueue → List ℕ
unsent_of q = take q.pending q.unsent

-- "A receiver .. is made for the console profile of document 01 or for [C++], and keeps it" (request 2): as a number
unfoldable pub profile_in : RecvQueue → Profile
profile_in q = profile_of q.profile

-- "At first each next is 0 and all else is empty."
unfoldable pub new_queue : Profile → RecvQueue
new_queue p = record {
  datagrams = new_window;
  reliables = new_window;
  channels = replicate max_ord_chans new_channel;
  unsent = replicate max_unsent 0;
  pending = 0;
  newest = 0;
  profile = profile_number p;
}

-- "values .. obey the limits", for a window: low at most 2^24, and none of the k places above low whose number would be 2^24 or more is set
unfoldable pub places_within : ReliableWindow → ℕ → Bool
places_within w zero = true
places_within w (suc k) = places_within w k && (ltb (w.low + suc k) numbers24 || not (place_set w.bits (w.low + suc k)))

unfoldable pub sound_window : ReliableWindow → Bool
sound_window w = leb w.low numbers24 && places_within w window_places

-- "unsent numbers differ"
unfoldable pub differ : List ℕ → Bool
differ [] = true
differ (n ∷ ns) = not (any (eqb n) ns) && differ ns

-- "and are below low or accepted"; each below 2^24, and no more than 1,024 of them
unfoldable pub sound_unsent : RecvQueue → Bool
sound_unsent q = leb q.pending max_unsent && (every (λ n. ltb n numbers24 && accepted q.datagrams n) (unsent_of q)
    && differ (unsent_of q))

-- request 2: 0 and 1 are profiles, and no other number is
unfoldable pub sound_profile : ℕ → Bool
sound_profile n = ltb n profiles

-- "where no cells are lent, only the rules on values and unsent numbers"
unfoldable pub sound_queue : RecvQueue → Bool
sound_queue q = sound_window q.datagrams && (sound_window q.reliables && (sound_nexts (next_of q)
    && (sound_memories (newest_of q) && (sound_profile q.profile && sound_unsent q))))

-- a new number goes before the first greater one; the numbers after it move on by one
unfoldable pub insert_unsent : ℕ → List ℕ → List ℕ
insert_unsent n [] = n ∷ []
insert_unsent n (m ∷ ms) = cond (ltb n m) (n ∷ m ∷ ms) (m ∷ insert_unsent n ms)
