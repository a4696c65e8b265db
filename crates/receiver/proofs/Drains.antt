-- Takes with a joining buffer long enough, until none is ready, hand out what the receiver with cells would.
-- Assumes nothing.
use Prim.Native.Nat.{ℕ, zero, suc, ◌+◌, ◌*◌, ◌≤◌}
use mathlib.Core.Path.{◌≡◌, refl, sym, ◌∙◌, ap}
use mathlib.Core.Option.{Option, none, some}
use mathlib.Core.List.Memᴰ
use mathlib.Core.List.{List, [], ◌∷◌, Memᴰ}
use mathlib.Core.Logic.{◌⊎◌, inl, inr}
use native.Mathlib.Omega.{arith}
use native.Mathlib.Nat.{suc-mul, le_trans, mul-le-mul_right}
use lib.ListN.{length, length-append, length-replicate}
use Rattle.base.specs.If.{if_true}
use Rattle.base.specs.Limits.{cell_bytes, max_frags}
use Rattle.base.specs.Lists.{option, find, any, count_of}
use Rattle.base.proofs.Choices.{cases, case_option, neither}
use Rattle.base.proofs.Lists.{find-some, find_none, any-true}
use Rattle.base.proofs.Counts.{count-some, count_none, count-length}
use Rattle.bare.specs.Frame.{Message}
use Rattle.cells.specs.Cell.{Cell, Slot, Key, ready_as, at, sits, is_free, is_ready, join, message_of, message_at, freed}
use Rattle.cells.specs.Store.{cell_size, slots_of}
use Rattle.cells.specs.Take.{earliest, Taken, taking}
use Rattle.cells.proofs.EverySound.{sound-take}
use Rattle.cells.proofs.Keys.{message-there}
use Rattle.cells.proofs.Records.{any_cells}
use Rattle.cells.proofs.Takes.{earliest-none, taken-freed}
use Rattle.cells.proofs.Store.{Sized, AllSized, cells-slots}
use Rattle.receiver.specs.Receive.{state_of}
use Rattle.receiver.specs.Take.{TakeResult, take_refuses, handed, take_of}
use Rattle.receiver.specs.Calls.{Call, receive, take_with, drop_unfinished, refusal_of, take_outcome, outcome, zeros}
use Rattle.receiver.specs.Receiver.{Receiver}
use Rattle.receiver.specs.Calls.{long_buffer, takes, after_all, done_by, still_out, drained}
use Rattle.receiver.specs.Claim.{Typed}
use Rattle.receiver.proofs.AnswerCases.{Found}
use Rattle.receiver.proofs.Receives.{state_in, Sane, cells-sound, counts-few, slots-fit, read_freed}
use Rattle.receiver.proofs.Steps.{Step, steps}
use Rattle.receiver.proofs.Runs.{runs}
use Rattle.receiver.proofs.Hands.{message-of, first-used, handed-ways}

clash : {X A : Type 0} {a : A} → none ≡ some a → X
clash e = let z : ◌≡◌ {A = ℕ} 0 1 = cc in absurd (omega arith)

module _ (x : Receiver) (v : Sane x) (buffer : List ℕ) where
  abbrev l : List Slot
  l = slots_of x.records x.store

  -- none is ready: 20
  take_none : taking l ≡ none → take_of x.queue x.records x.store buffer ≡ take_refuses x.records buffer 20
  unfolding take_of taking if_true
  take_none e = rw v.sound (case_option (earliest l)
      (λ y. rw y)
      (λ u y. case_option (message_at (ready_as u) l) (λ z. rw (y, z)) (λ m z. clash (sym (rw (y, z) at e)))))

  -- one is ready: the take goes on to hand it out
  pub record Ready (t : Taken) : Type 0 where
    pub found : Found x.records x.store
    pub takes-it : take_of x.queue x.records x.store buffer ≡ handed x.records x.store buffer found.turn found.message
        found.first
    pub taken_is : t ≡ record { message = found.message; slots = freed (ready_as found.turn) (slots_of x.records x.store) }

  first-there : (k : Key) (m : Message) → message_at k l ≡ some m → find (at k 0) x.records ≡ none → ⊥
  unfolding sits
  first-there k m e f =
      let a = message-there k (slots_of x.records x.store) m e in
      let b = any-true (at k 0) x.records (ap (any (at k 0)) (sym (cells-slots x.records x.store))
      ∙ (any_cells (at k 0) (slots_of x.records x.store) ∙ a)) in
      neither (at k 0 b.0) b.2 (find_none (at k 0) x.records f b.0 b.1)

  take-some : (t : Taken) → taking l ≡ some t → Ready t
  unfolding take_of taking if_true
  take-some t e = case_option (earliest l)
      (λ y. clash (rw y at e))
      (λ u y. case_option (message_at (ready_as u) l)
      (λ z. clash (rw (y, z) at e))
      (λ m z. case_option (find (at (ready_as u) 0) x.records)
      (λ g. absurd (first-there (ready_as u) m z g))
      (λ c g.
      let q : some (record { message = m; slots = freed (ready_as u) (slots_of x.records x.store) }) ≡ some t = rw (y, z) at e in
      let r : record { message = m; slots = freed (ready_as u) (slots_of x.records x.store) } ≡ t = cc in
      record {
        found = record { turn = u; message = m; first = c; earliest-is = y; message-is = z; first-is = g };
        takes-it = rw (v.sound, y, z, g);
        taken_is = sym r;
      })))

-- No message is longer than the long buffer.
join-short : (k : Key) (l : List Slot) → AllSized l → (n : ℕ) → length (join k l n) ≤ n * cell_size
unfolding join
join-short k l z zero = omega arith
join-short k l z (suc n) = simp length-append (go (find (sits k n) l) refl (suc-mul n cell_size) (join-short k l z n))
  where
    small : (s : Slot) → Sized s → length s.body ≤ cell_size
    small s q = cases (is_free s) (λ t. rw (q.none t) (omega arith)) (λ t. q.fits t)

    go : (o : Option Slot) → find (sits k n) l ≡ o → suc n * cell_size ≡ n * cell_size + cell_size → length (join k l n) ≤ n * cell_size
        → length (join k l n) + length (option o [] (λ s. s.body)) ≤ suc n * cell_size
    go none e m h = omega arith
    go (some s) e m h = let b = small s (z s (find-some (sits k n) l e).0) in omega arith

zeros-long : (n : ℕ) → length (zeros n) ≡ n
unfolding zeros
zeros-long n = length-replicate n 0

buffer-long : length long_buffer ≡ max_frags * cell_bytes
unfolding long_buffer
buffer-long = zeros-long (max_frags * cell_bytes)

message-short : (x : Receiver) → Sane x → (f : Found x.records x.store) → length f.message.body ≤ length long_buffer
unfolding cell_size message_of
message-short x v f =
    let b = counts-few x.queue x.records x.store v.sound f.first
    (find-some (at (ready_as f.turn) 0) x.records f.first-is).0 (first-used x.records x.store f) in
    let j = join-short (ready_as f.turn) (slots_of x.records x.store) (slots-fit x.queue x.records x.store v.sound
    ).sized f.first.count in
    let e : f.message.body ≡ join (ready_as f.turn) (slots_of x.records x.store) f.first.count =
    ap (λ (m : Message). m.body) (message-of x.records x.store f) in
    let n = buffer-long in
    rw (e, n) (le_trans j (mul-le-mul_right cell_bytes b))

-- A take with the long buffer leaves what the receiver with cells leaves.
long-take : (x : Receiver) (v : Sane x) (t : Taken) → taking (slots_of x.records x.store) ≡ some t
    → slots_of (take_of x.queue x.records x.store long_buffer).records x.store ≡ t.slots
long-take x v t e =
    let r = take-some x v long_buffer t e in
    rw r.takes-it (handed-ways x.records x.store r.found long_buffer
    (λ (q : TakeResult). slots_of q.records x.store ≡ t.slots)
    (λ ne l. absurd (let s = message-short x v r.found in omega arith))
    (λ q g. ap (λ (cs : List Cell). slots_of cs x.store) g.records
    ∙ (read_freed x.queue x.records x.store v.sound (ready_as r.found.turn)
    ∙ ap (λ (z : Taken). z.slots) (sym r.taken_is))))

-- How many records are ready, and the same after a take with the long buffer: fewer, unless there were none.
abbrev ready_in : Receiver → ℕ
ready_in x = count_of is_ready (slots_of x.records x.store)

none-ready : (x : Receiver) → Sane x → taking (slots_of x.records x.store) ≡ none → ready_in x ≡ 0
unfolding state_of
none-ready x v e = count_none is_ready (slots_of x.records x.store)
    (sound-take (state_in x) (rw (cells-slots x.records x.store) (cells-sound x.queue x.records x.store v.sound))
    ∙ rw e)

one_fewer : (x : Receiver) (n : ℕ) → Sane x → ready_in x ≤ suc n → ready_in (outcome x (take_with long_buffer)).left ≤ n
unfolding outcome take_outcome
one_fewer x n v le = case_option (taking (slots_of x.records x.store))
    (λ e. rw (take_none x v long_buffer e) (let z = none-ready x v e in omega arith))
    (λ t e. rw (long-take x v t e) (let f = (taken-freed (slots_of x.records x.store) t e).2 in omega arith))

-- ---- as many takes as there are cells
takes-only : (n : ℕ) (c : Call) → Memᴰ c (takes n) → c ≡ take_with long_buffer
unfolding takes
takes-only zero c m = absurd (Memᴰ.not-nil m)
takes-only (suc n) c m = go (takes-only n c) (Memᴰ.cases_cons m)
  where
    go : (Memᴰ c (takes n) → c ≡ take_with long_buffer) → (c ≡ take_with long_buffer) ⊎ Memᴰ c (takes n) → c ≡ take_with long_buffer
    go rest (inl e) = e
    go rest (inr i) = rest i

takes-typed : (n : ℕ) → Typed (takes n)
takes-typed n = record {
  bytes = λ d m. let e : receive d ≡ take_with long_buffer = takes-only n (receive d) m in
      absurd (let z : ◌≡◌ {A = ℕ} 0 1 = cc in omega arith);
  numbers = λ k m. let e : drop_unfinished k ≡ take_with long_buffer = takes-only n (drop_unfinished k) m in
      absurd (let z : ◌≡◌ {A = ℕ} 0 1 = cc in omega arith);
}

takes-do-none : (n : ℕ) (x : Receiver) → done_by outcome x (takes n) ≡ []
unfolding done_by takes outcome take_outcome
takes-do-none zero x = refl
takes-do-none (suc n) x = takes-do-none n (outcome x (take_with long_buffer)).left

runs-dry : (n : ℕ) (x : Receiver) → Sane x → ready_in x ≤ n → ready_in (after_all outcome x (takes n)) ≤ 0
unfolding after_all takes
runs-dry zero x v le = le
runs-dry (suc n) x v le =
    runs-dry n (outcome x (take_with long_buffer)).left (steps (take_with long_buffer) x one v).sane (one_fewer x n v le)
  where
    one : Typed (take_with long_buffer ∷ [])
    one = unfold takes in takes-typed 1

-- What these takes leave and hand out; then none is ready.
pub drains : (x : Receiver) → Sane x → Step x (drained outcome x) (still_out outcome x) []
unfolding drained still_out
drains x v = rw (takes-do-none n x) at (runs (takes n) x (takes-typed n) v)
  where
    n : ℕ
    n = length x.records

pub dry : (x : Receiver) → Sane x → taking (slots_of (drained outcome x).records (drained outcome x).store) ≡ none
unfolding drained
dry x v =
    let n = (slots-fit x.queue x.records x.store v.sound).many in
    let c = count-length is_ready (slots_of x.records x.store) in
    let d = runs-dry (length x.records) x v (omega arith) in
    none-taken _ d
  where
    none-taken : (l : List Slot) → count_of is_ready l ≤ 0 → taking l ≡ none
    none-taken l le = unfold taking in
        rw (earliest-none l (cases (any is_ready l) (λ t. let s = count-some is_ready l t in absurd (omega arith)) (λ t. t)))

-- The take after them gets 20.
pub gets-20 : (x : Receiver) → Sane x → (buffer : List ℕ) → (outcome (drained outcome x) (take_with buffer)).refusal ≡ some 20
unfolding outcome take_outcome refusal_of
gets-20 x v buffer = rw (take_none (drained outcome x) (drains x v).sane buffer (dry x v))
