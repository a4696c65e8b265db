-- The bytes of an image's first four sections are those that the save writes.
-- Assumes nothing.
use Prim.Native.Nat.{ℕ, zero, suc, ◌+◌, ◌*◌, ◌≤◌}
use mathlib.Core.Path.{◌≡◌, refl, sym, ◌∙◌, ap}
use mathlib.Core.List.{List, [], ◌∷◌, ◌++◌, map, append-nil, append_assoc}
use native.Mathlib.Omega.{arith}
use lib.ListN.{length, take, length-append, length-map, length-take}
use Rattle.base.specs.Bytes.{be32_bytes, be64_bytes}
use Rattle.base.specs.Limits.{max_unsent}
use Rattle.base.specs.Put.{and_then}
use Rattle.image.specs.Format.{exactly, number32, number64, both, formed, many, write_all, counted, section}
use Rattle.image.specs.Image.{window_format, channel_format}
use Rattle.image.specs.Windows.{packed, window_entry}
use Rattle.window.specs.declared.ReliableWindow.{ReliableWindow}
use Rattle.receiver.specs.declared.Channel.{Channel}
use Rattle.receiver.specs.declared.RecvQueue.{RecvQueue}
use Rattle.receiver.specs.Queue.{unsent_of}
use Rattle.receiver.specs.Save.{channel_entry, own_entry, channels_in}
use Rattle.receiver.specs.Write.{sorted}
use Rattle.recv_acks.proofs.Sorted.{length-sorted}
use Rattle.recv_save.specs.Each.{each_bytes}
use Rattle.recv_save.specs.Front.{place_bytes, window_bytes, pair_bytes, channel_bytes, profile_bytes, windows_bytes, channels_bytes}
use Rattle.recv_save.specs.Front.{unsent_bytes, front_bytes}
use Rattle.recv_save.proofs.PutCases.{length-then, length-32, length-64}
use Rattle.recv_save.proofs.Sections.{section-bytes}

pub profile-section : (q : RecvQueue) → profile_bytes q ≡ (section number64).write (q.profile ∷ [])
unfolding profile_bytes and_then section counted many number32 number64 write_all
profile-section q = ap (λ (r : List ℕ). be32_bytes 1 ++ r) (sym (append-nil (be64_bytes q.profile)))

window-written : (w : ReliableWindow) → window_bytes w ≡ window_format.write (window_entry w)
unfolding window_bytes place_bytes and_then window_format formed both number64 exactly window_entry
window-written w = refl

pub windows-section : (q : RecvQueue) → windows_bytes q
    ≡ (section window_format).write (window_entry q.datagrams ∷ window_entry q.reliables ∷ [])
unfolding windows_bytes and_then section counted many number32 write_all
windows-section q =
    rw (window-written q.datagrams, window-written q.reliables, append-nil (window_format.write (window_entry q.reliables)))

channels-written : (cs : List Channel) (n : ℕ) → each_bytes channel_bytes cs ++ pair_bytes 0 n
    ≡ write_all channel_format (map channel_entry cs ++ (own_entry n ∷ []))
unfolding each_bytes channel_bytes pair_bytes and_then write_all channel_format formed both number64
channels-written [] n = sym (append-nil (be64_bytes 0 ++ be64_bytes n))
channels-written (c ∷ cs) n =
    append_assoc (be64_bytes c.next ++ be64_bytes c.newest) (each_bytes channel_bytes cs) (pair_bytes 0 n)
    ∙ ap (λ (r : List ℕ). (be64_bytes c.next ++ be64_bytes c.newest) ++ r) (channels-written cs n)

pub channels-section : (q : RecvQueue) → channels_bytes q ≡ (section channel_format).write (channels_in q)
unfolding channels_bytes and_then channels_in
channels-section q =
    let l = map channel_entry q.channels ++ (own_entry q.newest ∷ []) in
    let n : length (map channel_entry q.channels ++ (own_entry q.newest ∷ [])) ≡ length q.channels + 1 =
    length-append (map channel_entry q.channels) (own_entry q.newest ∷ []) ∙ ap (λ (k : ℕ). k + 1) (length-map q.channels channel_entry) in
    rw (channels-written q.channels q.newest, ← n) (sym (section-bytes channel_format l))

numbers-written : (l : List ℕ) → each_bytes be64_bytes l ≡ write_all number64 l
unfolding each_bytes and_then write_all number64
numbers-written [] = refl
numbers-written (n ∷ l) = ap (λ (r : List ℕ). be64_bytes n ++ r) (numbers-written l)

pub unsent-section : (q : RecvQueue) → unsent_bytes q ≡ (section number64).write (sorted (unsent_of q))
unfolding unsent_bytes and_then
unsent-section q = rw (numbers-written (sorted (unsent_of q))) (sym (section-bytes number64 (sorted (unsent_of q))))

-- ---- lengths
places-length : (w : ReliableWindow) (n : ℕ) → length (place_bytes w n) ≡ n
unfolding place_bytes packed
places-length w zero = refl
places-length w (suc n) = length-append (place_bytes w n) _ ∙ rw (places-length w n) (omega arith)

window-length : (w : ReliableWindow) → length (window_bytes w) ≡ 264
unfolding window_bytes
window-length w = simp (length-then, length-64, places-length)

pair-length : (a b : ℕ) → length (pair_bytes a b) ≡ 16
unfolding pair_bytes
pair-length a b = simp (length-then, length-64)

each-length : {A : Type 0} (f : A → List ℕ) (n : ℕ) → ((x : A) → length (f x) ≡ n) → (l : List A) → length (each_bytes f l) ≡ n * length l
unfolding each_bytes
each-length f n h [] = omega arith
each-length f n h (x ∷ l) =
    let a = length-then (f x) (each_bytes f l) in
    let b = h x in
    let c = each-length f n h l in
    omega arith

channel-length : (c : Channel) → length (channel_bytes c) ≡ 16
unfolding channel_bytes
channel-length c = pair-length c.next c.newest

module _ (q : RecvQueue) where
  profile-length : length (profile_bytes q) ≡ 12
  unfolding profile_bytes
  profile-length = simp (length-then, length-32, length-64)

  windows-length : length (windows_bytes q) ≡ 532
  unfolding windows_bytes
  windows-length = simp (length-then, length-32, window-length)

  channels-length : length (channels_bytes q) ≡ 20 + 16 * length q.channels
  unfolding channels_bytes
  channels-length =
      let a = each-length channel_bytes 16 channel-length q.channels in
      simp (length-then, length-32, pair-length) (omega arith)

  unsent-bytes-length : length (unsent_bytes q) ≡ 4 + 8 * length (sorted (unsent_of q))
  unfolding unsent_bytes
  unsent-bytes-length =
      let a = each-length be64_bytes 8 length-64 (sorted (unsent_of q)) in
      simp (length-then, length-32) (omega arith)

  front-bytes-length : length (front_bytes q) ≡ 568 + 16 * length q.channels + 8 * length (sorted (unsent_of q))
  unfolding front_bytes
  front-bytes-length =
      let a = profile-length in
      let b = windows-length in
      let c = channels-length in
      let d = unsent-bytes-length in
      simp length-then (omega arith)

  -- the receiver's own type says how long its array is
  pub front-length : q.pending ≤ max_unsent → length q.unsent ≡ max_unsent
      → 568 + 16 * length q.channels + 8 * q.pending ≡ length (front_bytes q)
  unfolding unsent_of
  front-length h f =
      let a = front-bytes-length in
      let b = length-sorted (take q.pending q.unsent) in
      let c : length (take q.pending q.unsent) ≡ q.pending = simp length-take (omega arith) in
      omega arith
