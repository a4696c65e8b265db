-- The first four sections of an image, of the receiver's own values, as bytes: request 5, "these sections in this order".
use Rattle.std.specs.Prelude.{ℕ, ◌+◌, List, length}
use Rattle.base.specs.Bytes.{be32_bytes, be64_bytes}
use Rattle.base.specs.Put.{and_then}
use Rattle.window.specs.declared.ReliableWindow.{ReliableWindow}
use Rattle.window.specs.Places.{place_set}
use Rattle.image.specs.Windows.{packed}
use Rattle.receiver.specs.declared.Channel.{Channel}
use Rattle.receiver.specs.declared.RecvQueue.{RecvQueue}
use Rattle.receiver.specs.Queue.{unsent_of}
use Rattle.receiver.specs.Write.{sorted}
use Rattle.recv_save.specs.Each.{each_bytes}

-- the places above low, from that of low + 1 on
unfoldable pub place_bytes : ReliableWindow → ℕ → List ℕ
place_bytes w n = packed (λ k. place_set w.bits (w.low + 1 + k)) n

unfoldable pub window_bytes : ReliableWindow → List ℕ
window_bytes w = and_then (be64_bytes w.low) (place_bytes w 256)

unfoldable pub pair_bytes : ℕ → ℕ → List ℕ
pair_bytes a b = and_then (be64_bytes a) (be64_bytes b)

unfoldable pub channel_bytes : Channel → List ℕ
channel_bytes c = pair_bytes c.next c.newest

unfoldable pub profile_bytes : RecvQueue → List ℕ
profile_bytes q = and_then (be32_bytes 1) (be64_bytes q.profile)

unfoldable pub windows_bytes : RecvQueue → List ℕ
windows_bytes q = and_then (be32_bytes 2) (and_then (window_bytes q.datagrams) (window_bytes q.reliables))

unfoldable pub channels_bytes : RecvQueue → List ℕ
channels_bytes q = and_then (be32_bytes (length q.channels + 1)) (and_then (each_bytes channel_bytes q.channels) (pair_bytes 0 q.newest))

unfoldable pub unsent_bytes : RecvQueue → List ℕ
unsent_bytes q = and_then (be32_bytes (length (sorted (unsent_of q)))) (each_bytes be64_bytes (sorted (unsent_of q)))

unfoldable pub front_bytes : RecvQueue → List ℕ
front_bytes q = and_then (profile_bytes q) (and_then (windows_bytes q) (and_then (channels_bytes q) (unsent_bytes q)))
