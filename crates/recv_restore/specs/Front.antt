-- What stands at fixed places of an image whose first sections have as many entries as a receiver.
use Rattle.std.specs.Prelude.{ℕ, ◌+◌, ◌*◌, ◌-◌, ◌≤◌, ◌<◌, ◌≡◌, true, ltb, List, ◌++◌, map, replicate, Option, Some, None}
use Rattle.base.specs.Bytes.{be32, be64}
use Rattle.base.specs.Lists.{below}
use Rattle.image_read.specs.At.{values_at, channel_at, image_at}
use Rattle.receiver.specs.declared.Channel.{Channel}
use Rattle.receiver.specs.declared.RecvQueue.{RecvQueue}
use Rattle.receiver.specs.Restore.{channel_from, queue_from}
use Rattle.recv_restore.specs.Fits.{numbers32, Each, NumberCan, number_next, FrontFits}

-- one profile, two windows, 33 channel entries, at most 1,024 unsent numbers
pub record Counts (s : List ℕ) : Type 0 where
  pub profile : be32 s 0 ≡ 1
  pub windows : be32 s 12 ≡ 2
  pub channels : be32 s 544 ≡ 33
  pub unsent : be32 s 1076 ≤ 1024

-- the first n channels
unfoldable pub channels_from : List ℕ → ℕ → List Channel
channels_from s n = map channel_from (values_at (channel_at s) (λ p. p + 16) n 548)

-- the n unsent numbers, in an array of 1,024; none where they do not rise or one is 2^32 or more
unfoldable pub numbers_at : List ℕ → ℕ → List ℕ
numbers_at s n = values_at (be64 s) (λ p. p + 8) n 1080

unfoldable pub Unsent : List ℕ → ℕ → Option (List ℕ) → Type 0
Unsent s n None = Each NumberCan number_next 0 (numbers_at s n) → ⊥
Unsent s n (Some l) = Each NumberCan number_next 0 (numbers_at s n) × (l ≡ numbers_at s n ++ replicate (1024 - n) 0)

-- the values that records of 32 bits hold; the last channel entry has no next
pub record Narrow (s : List ℕ) : Type 0 where
  pub profile : be64 s 4 < numbers32
  pub datagrams : be64 s 16 < numbers32
  pub reliables : be64 s 280 < numbers32
  pub channels : below 66 (λ i. ltb (be64 s (548 + 8 * i)) numbers32) ≡ true
  pub own : be64 s 1060 ≡ 0

-- the receiver's own values of the image that stands in s; none where the image's are none
unfoldable pub Queue : List ℕ → Option RecvQueue → Type 0
Queue s None = FrontFits (image_at s) → ⊥
Queue s (Some q) = FrontFits (image_at s) × (q ≡ queue_from (image_at s))
