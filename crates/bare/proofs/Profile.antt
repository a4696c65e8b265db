-- "A receiver .. keeps" its profile (request 2): no frame changes it.
-- Assumes nothing.
use Prim.Native.Nat.{ℕ, zero, suc}
use mathlib.Core.Path.{◌≡◌, refl, ◌∙◌}
use mathlib.Core.Bool.{Bool, ◌||◌}
use mathlib.Core.List.{List, [], ◌∷◌}
use lib.Dec.{ltb, eqb}
use lib.ListN.{length}
use Rattle.base.specs.Lists.{find, any}
use Rattle.base.proofs.Choices.{by_bool, by_option}
use Rattle.bare.specs.Frame.{Frame, Piece, Message, ordered, sequenced, in_limits}
use Rattle.bare.specs.Bare.{Out, Bare, Sent, Fed, is_at, emit, follow, quiet, hold, append, queue, memory_of, older, remember, ready}
use Rattle.bare.specs.Bare.{sequence, deliver, Kept, refused, waiting, complete, assemble, seen_before, drop_in, finish, step, feed}

follow-profile : (n c : ℕ) (s : Sent) → (follow n c s).after.profile ≡ s.after.profile
unfolding follow emit
follow-profile zero c s = refl
follow-profile (suc n) c s = by_option (λ (t : Sent). t.after.profile ≡ s.after.profile)
    (find (is_at c (s.after.next c)) s.after.held) (λ e. refl) (λ m e. follow-profile n c (emit m s))

queue-profile : (m : Message) (o : Out) → (queue m o).after.profile ≡ o.profile
unfolding queue quiet hold emit
queue-profile m o =
    by_bool (λ (s : Sent). s.after.profile ≡ o.profile)
    (ltb m.order (o.next m.channel) || any (is_at m.channel m.order) o.held)
    (λ t. refl)
    (λ t. by_bool (λ (s : Sent). s.after.profile ≡ o.profile) (eqb m.order (o.next m.channel))
    (λ u. follow-profile (length o.held) m.channel (emit m (quiet o 0)))
    (λ u. refl))

-- Step 4.
pub deliver-profile : (n : ℕ) (m : Message) (o : Out) → (deliver n m o).after.profile ≡ o.profile
unfolding deliver sequence quiet remember ready append
deliver-profile n m o = by_bool (λ (s : Sent). s.after.profile ≡ o.profile) (ordered m.kind) (λ t. queue-profile m o)
    (λ t. by_bool (λ (s : Sent). s.after.profile ≡ o.profile) (sequenced m.kind)
    (λ u. by_bool (λ (s : Sent). s.after.profile ≡ o.profile) (older o.newest (memory_of o.profile m.kind m.channel) n)
    (λ v. refl) (λ v. refl)) (λ u. refl))

finish-profile : (n : ℕ) (a : ℕ → Bool) (l : List Piece) (o : Out) (k : Kept) → (finish n a l o k).after.out.profile ≡ o.profile
unfolding finish drop_in
finish-profile n a l o refused = refl
finish-profile n a l o (waiting l') = refl
finish-profile n a l o (complete l' m) = deliver-profile n m o

pub step-profile : (b : Bare) (f : Frame) → (step b f).after.out.profile ≡ b.out.profile
unfolding step drop_in
step-profile b f = by_bool (λ (a : Fed). a.after.out.profile ≡ b.out.profile) (seen_before f b.accepted) (λ t. refl)
    (λ t. by_bool (λ (a : Fed). a.after.out.profile ≡ b.out.profile) (in_limits f)
    (λ u. finish-profile f.sequence _ b.pieces b.out (assemble f b.pieces)) (λ u. refl))

pub feed-profile : (b : Bare) (fs : List Frame) → (feed b fs).after.out.profile ≡ b.out.profile
unfolding feed
feed-profile b [] = refl
feed-profile b (f ∷ fs) = feed-profile (step b f).after fs ∙ step-profile b f
