-- What the bare receiver does with the frames of all pieces of a message, each once, in any order: step 3 keeps each beside those before
-- it and joins them at the last, and step 4 is handed the message.
-- Assumes nothing.
use Prim.Native.Nat.{ℕ, zero, suc, ◌+◌, ◌≤◌, ◌<◌}
use mathlib.Core.Path.{◌≡◌, refl, sym, ◌∙◌, ap, subst}
use mathlib.Core.Logic.{◌⊎◌, inl, inr}
use mathlib.Core.Bool.{Bool, true, false, cond, not}
use mathlib.Core.Option.{none, some}
use mathlib.Core.List.Memᴰ
use mathlib.Core.List.{List, [], ◌∷◌, ◌++◌, map, Memᴰ}
use native.Mathlib.Omega.{arith}
use lib.ListN.{length}
use lib.Dec.{ltb, eqb}
use borrow.Author.Tests.{ltb-true, lt-ltb, le-leb, eqb-true, eq-eqb, ne_eqb}
use Rattle.base.specs.Limits.{max_ord_chans}
use Rattle.base.specs.Lists.{find, any, count_of, without}
use Rattle.base.proofs.Choices.{cases, case_option, and_both, or_left, or_right, neither}
use Rattle.base.proofs.Lists.{find-some, find_none, any-true, any_false, any-mem, any-all}
use Rattle.base.proofs.Counts.{count_none, count-some}
use Rattle.split.specs.Split.{first_parts, Splits}
use Rattle.split.proofs.Laws.{count-in-range, parts_join}
use Rattle.bare.specs.Frame.{Piece, carries_reliable, ordered, in_limits, piece_of, message}
use Rattle.bare.specs.Bare.{Bare, Fed, queue, deliver, conflict, is_piece_at, has_id, joined, complete, seen_before}
use Rattle.bare.specs.Bare.{accept_reliable, finish, step, feed}
use Rattle.bare.specs.Unfinished.{keeps_piece}
use Rattle.bare.proofs.Tests.{is_piece-true, is_piece-there, conflict-id, conflict-index}
use Rattle.bare.proofs.Join.{joined-piece}
use Rattle.bare.proofs.Unfinished.{kept-is}
use Rattle.corollaries.specs.Pieces.{Outgoing, pieces_of, message_sent, EachOnce, OneForEach}
use Rattle.corollaries.proofs.PieceFrames.{line_frame}

-- ---- numbers in a list

pub counted-there : (k : ℕ) (l : List ℕ) → Memᴰ k l → 1 ≤ count_of (eqb k) l
counted-there k l i = count-some (eqb k) l (any-mem (eqb k) l k i (eq-eqb k k refl))

pub there-counted : (k : ℕ) (l : List ℕ) → 1 ≤ count_of (eqb k) l → Memᴰ k l
there-counted k l le = cases (any (eqb k) l)
    (λ t. let a = any-true (eqb k) l t in subst (λ (j : ℕ). Memᴰ j l) (sym (eqb-true k a.0 a.2)) a.1)
    (λ t. let z = count_none (eqb k) l t in absurd (omega arith))

-- none that passes: nothing is taken out
without-none : (p : Piece → Bool) (l : List Piece) → any p l ≡ false → without p l ≡ l
unfolding without any
without-none p [] e = refl
without-none p (g ∷ l) e = rw (or_left (p g) _ e) (ap {B = List Piece} (λ r. g ∷ r) (without-none p l (or_right (p g) _ e)))

-- ---- the open pieces

-- what is kept of piece k
abbrev kept_piece : Outgoing → ℕ → Piece
kept_piece x k = piece_of (line_frame x k)

-- the open pieces after pieces `done`, the last one first, beside those that were open before
abbrev kept : Outgoing → List Piece → List ℕ → List Piece
kept x base done = map (λ k. kept_piece x k) done ++ base

-- an open piece is one of these, or was there before
abbrev OneOfThem : Outgoing → List Piece → List ℕ → Piece → Type 0
OneOfThem x base done g = ((k : ℕ) × Memᴰ k done × (kept_piece x k ≡ g)) ⊎ Memᴰ g base

module _ (x : Outgoing) (base : List Piece) (new_id : any (has_id x.id) base ≡ false) where
  is-kept : (done : List ℕ) (g : Piece) → Memᴰ g (kept x base done) → OneOfThem x base done g
  is-kept done g i = go (Memᴰ.append_cases (map (λ k. kept_piece x k) done) i)
    where
      go : Memᴰ g (map (λ k. kept_piece x k) done) ⊎ Memᴰ g base → OneOfThem x base done g
      go (inl j) = inl (Memᴰ.of_map (λ k. kept_piece x k) done j)
      go (inr j) = inr j

  kept-there : (done : List ℕ) (k : ℕ) → Memᴰ k done → Memᴰ (kept_piece x k) (kept x base done)
  kept-there done k i = Memᴰ.append_left base (Memᴰ.map (λ k. kept_piece x k) i)

  -- no open piece from before is of the message
  not-before : (g : Piece) → Memᴰ g base → g.id ≡ x.id → ⊥
  unfolding has_id
  not-before g i e = neither (has_id x.id g) (eq-eqb g.id x.id e) (any_false (has_id x.id) base new_id g i)

  -- the open piece of each index is the one kept
  find-kept : (done : List ℕ) (k : ℕ) → Memᴰ k done → find (is_piece_at x.id k) (kept x base done) ≡ some (kept_piece x k)
  unfolding piece_of line_frame
  find-kept done k i = case_option (find (is_piece_at x.id k) (kept x base done))
      (λ e. neither (is_piece_at x.id k (kept_piece x k)) (is_piece-there x.id k (kept_piece x k) refl refl)
      (find_none _ _ e (kept_piece x k) (kept-there done k i)))
      (λ g e. let f = find-some _ _ e in
      let a = is_piece-true x.id k g f.1 in
      e ∙ ap some (go g a.0 a.1 (is-kept done g f.0)))
    where
      go : (g : Piece) → g.id ≡ x.id → g.index ≡ k → OneOfThem x base done g → g ≡ kept_piece x k
      go g e q (inl h) = sym h.2 ∙ ap (λ (j : ℕ). kept_piece x j) (ap (λ (p : Piece). p.index) h.2 ∙ q)
      go g e q (inr j) = absurd (not-before g j e)

  -- where the first m indices are there, they are joined to the first m parts of the data
  joined-kept : (done : List ℕ) (m : ℕ) → ((k : ℕ) → k < m → Memᴰ k done)
      → joined (kept x base done) x.id m ≡ some (first_parts x.body x.mtu m)
  unfolding joined first_parts piece_of line_frame
  joined-kept done zero h = refl
  joined-kept done (suc m) h = rw (joined-kept done m (λ k lt. h k (omega arith)), find-kept done m (h m (omega arith)))

  -- where an index is lacking they are not
  joined-lacks : (done : List ℕ) (m k : ℕ) → k < m → (Memᴰ k done → ⊥) → joined (kept x base done) x.id m ≡ none
  unfolding piece_of line_frame
  joined-lacks done m k lt lacks = case_option (joined (kept x base done) x.id m) (λ e. e)
      (λ body e. let g = joined-piece (kept x base done) x.id m body e k lt in absurd (go g.0 g.2 g.3 (is-kept done g.0 g.1)))
    where
      go : (g : Piece) → g.id ≡ x.id → g.index ≡ k → OneOfThem x base done g → ⊥
      go g e q (inl h) = lacks (subst (λ (j : ℕ). Memᴰ j done) (ap (λ (p : Piece). p.index) h.2 ∙ q) h.1)
      go g e q (inr j) = not-before g j e

  -- closing the id leaves those from before
  closed-kept : (done : List ℕ) → without (has_id x.id) (kept x base done) ≡ base
  unfolding without has_id piece_of line_frame
  closed-kept [] = without-none (has_id x.id) base new_id
  closed-kept (k ∷ done) = rw (eq-eqb x.id x.id refl) (closed-kept done)

  -- a further piece may be kept beside them
  no-conflict : (done : List ℕ) (k : ℕ) → (Memᴰ k done → ⊥) → any (conflict (kept_piece x k)) (kept x base done) ≡ false
  unfolding piece_of line_frame
  no-conflict done k lacks = any-all (conflict (kept_piece x k)) (kept x base done)
      (λ g i. cases (conflict (kept_piece x k) g) (λ t. absurd (go g t (is-kept done g i))) (λ t. t))
    where
      go : (g : Piece) → conflict (kept_piece x k) g ≡ true → OneOfThem x base done g → ⊥
      go g t (inl h) =
          let q : h.0 ≡ k = conflict-index (kept_piece x k) (kept_piece x h.0) (rw (← h.2) at t) refl refl refl refl refl in
          lacks (subst (λ (j : ℕ). Memᴰ j done) q h.1)
      go g t (inr j) = not-before g j (conflict-id (kept_piece x k) g t)

-- ---- the frames

-- what the frames of all pieces leave of a bare receiver, and what they answer
pub record Queued (x : Outgoing) (b : Bare) (a : Fed) : Type 0 where
  pub out : a.after.out ≡ (queue (message_sent x) b.out).after
  pub pieces : a.after.pieces ≡ b.pieces
  pub ready : a.ready ≡ (queue (message_sent x) b.out).ready
  pub dropped : a.dropped ≡ (queue (message_sent x) b.out).dropped

module _ (x : Outgoing) (splits : Splits (length x.body) x.mtu) (on : x.channel < max_ord_chans) (one : OneForEach x) (b : Bare)
    (new_id : any (has_id x.id) b.pieces ≡ false) where
  -- the receiver after pieces `done`, where the numbers a are accepted
  abbrev during : (ℕ → Bool) → List ℕ → Bare
  during a done = record { accepted = a; pieces = kept x b.pieces done; out = b.out }

  limits : (k : ℕ) → k < pieces_of x → in_limits (line_frame x k) ≡ true
  unfolding in_limits line_frame
  limits k lt =
      let few = splits.few in
      and_both _ _ (lt-ltb _ _ on) (and_both _ _ (and_both _ _ (le-leb 1 (pieces_of x) (omega arith)) (le-leb _ _ few)) (lt-ltb _ _ lt))

  not-seen : (a : ℕ → Bool) (k : ℕ) → a (x.reliable k) ≡ false → seen_before (line_frame x k) a ≡ false
  unfolding seen_before carries_reliable line_frame
  not-seen a k e = e

  keeps : (a : ℕ → Bool) (done : List ℕ) (k : ℕ) → k < pieces_of x → a (x.reliable k) ≡ false → (Memᴰ k done → ⊥)
      → keeps_piece (during a done) (line_frame x k) ≡ true
  unfolding keeps_piece line_frame
  keeps a done k lt e lacks =
      and_both _ _ (ap not (not-seen a k e)) (and_both _ _ (limits k lt) (and_both true _ refl
      (ap not (no-conflict x b.pieces new_id done k lacks))))

  -- one that is not the last waits with those before it
  waits : (a : ℕ → Bool) (done : List ℕ) (k : ℕ) → k < pieces_of x → a (x.reliable k) ≡ false → (Memᴰ k done → ⊥)
      → (j : ℕ) → j < pieces_of x → (Memᴰ j (k ∷ done) → ⊥)
      → step (during a done) (line_frame x k)
      ≡ record { after = during (accept_reliable (line_frame x k) a) (k ∷ done); ready = 0; dropped = 0 }
  unfolding line_frame finish piece_of
  waits a done k lt e lacks j below lacking = kept-is (during a done) (line_frame x k) (keeps a done k lt e lacks)
      ∙ rw (joined-lacks x b.pieces new_id (k ∷ done) (pieces_of x) j below lacking)

  -- the last one completes the message
  completes : (a : ℕ → Bool) (done : List ℕ) (k : ℕ) → k < pieces_of x → a (x.reliable k) ≡ false → (Memᴰ k done → ⊥)
      → ((j : ℕ) → j < pieces_of x → Memᴰ j (k ∷ done))
      → step (during a done) (line_frame x k)
      ≡ finish 0 (accept_reliable (line_frame x k) a) (kept x b.pieces done) b.out (complete b.pieces (message_sent x))
  unfolding line_frame finish piece_of message message_sent
  completes a done k lt e lacks all = kept-is (during a done) (line_frame x k) (keeps a done k lt e lacks)
      ∙ rw (joined-kept x b.pieces new_id (k ∷ done) (pieces_of x) all, closed-kept x b.pieces new_id done, parts_join x.body x.mtu splits)

  -- each piece stands once, among those done or among those to come
  abbrev Counted : List ℕ → List ℕ → Type 0
  Counted done ks = (j : ℕ) → count_of (eqb j) done + count_of (eqb j) ks ≡ cond (ltb j (pieces_of x)) 1 0

  is_below : (done ks : List ℕ) → Counted done ks → (j : ℕ) → Memᴰ j ks → j < pieces_of x
  is_below done ks c j i =
      let le = counted-there j ks i in
      let e = c j in
      cases (ltb j (pieces_of x)) (λ t. ltb-true _ _ t) (λ t. let z = rw t at e in absurd (omega arith))

  at-most-once : (done ks : List ℕ) → Counted done ks → (j : ℕ) → count_of (eqb j) done + count_of (eqb j) ks ≤ 1
  at-most-once done ks c j =
      let e = c j in
      cases (ltb j (pieces_of x)) (λ t. let z = rw t at e in omega arith) (λ t. let z = rw t at e in omega arith)

  not-done : (done ks : List ℕ) → Counted done ks → (j : ℕ) → Memᴰ j ks → Memᴰ j done → ⊥
  not-done done ks c j i m =
      let one_to_come = counted-there j ks i in
      let one_done = counted-there j done m in
      let most = at-most-once done ks c j in
      omega arith

  one-more : (done ks : List ℕ) (k : ℕ) → Counted done (k ∷ ks) → Counted (k ∷ done) ks
  unfolding count_of
  one-more done ks k c j =
      let e = c j in
      cases (eqb j k) (λ t. rw t (let z = rw t at e in omega arith)) (λ t. rw t (rw t at e))

  all-done : (done : List ℕ) → Counted done [] → (j : ℕ) → j < pieces_of x → Memᴰ j done
  unfolding count_of
  all-done done c j lt =
      let e = c j in
      let z = rw (lt-ltb j (pieces_of x) lt) at e in
      there-counted j done (omega arith)

  delivered : deliver 0 (message_sent x) b.out ≡ queue (message_sent x) b.out
  unfolding deliver ordered message_sent
  delivered = refl

  -- the numbers of those to come are not accepted with it
  still-new : (done ks : List ℕ) (k : ℕ) (a : ℕ → Bool) → Counted (k ∷ done) ks → k < pieces_of x
      → (j : ℕ) → Memᴰ j ks → a (x.reliable j) ≡ false → accept_reliable (line_frame x k) a (x.reliable j) ≡ false
  unfolding accept_reliable carries_reliable line_frame
  still-new done ks k a c lt j i e =
      let differ : x.reliable j ≡ x.reliable k → ⊥ = λ q. not-done (k ∷ done) ks c j i
      (Memᴰ.head (one j k (is_below (k ∷ done) ks c j i) lt q)) in
      rw (ne_eqb (x.reliable j) (x.reliable k) differ) e

  -- those still to come, of which there is one
  feeds-during : (ks : List ℕ) (k : ℕ) (done : List ℕ) (a : ℕ → Bool) → Counted done (k ∷ ks)
      → ((j : ℕ) → Memᴰ j (k ∷ ks) → a (x.reliable j) ≡ false)
      → Queued x b (feed (during a done) (map (line_frame x) (k ∷ ks)))
  unfolding feed finish
  feeds-during [] k done a c fresh =
      rw (
        completes a done k (is_below done (k ∷ []) c k (Memᴰ.head refl)) (fresh k (Memᴰ.head refl))
            (not-done done (k ∷ []) c k (Memᴰ.head refl)) (all-done (k ∷ done) (one-more done [] k c)),
        delivered,
      )
      (record { out = refl; pieces = refl; ready = omega arith; dropped = omega arith })
  feeds-during (k' ∷ ks) k done a c fresh =
      let c' = one-more done (k' ∷ ks) k c in
      let lt = is_below done (k ∷ k' ∷ ks) c k (Memᴰ.head refl) in
      let lt' = is_below (k ∷ done) (k' ∷ ks) c' k' (Memᴰ.head refl) in
      let r = feeds-during ks k' (k ∷ done) (accept_reliable (line_frame x k) a) c'
      (λ j i. still-new done (k' ∷ ks) k a c' lt j i (fresh j (Memᴰ.tail i))) in
      rw (waits a done k lt (fresh k (Memᴰ.head refl)) (not-done done (k ∷ k' ∷ ks) c k (Memᴰ.head refl)) k' lt'
      (not-done (k ∷ done) (k' ∷ ks) c' k' (Memᴰ.head refl)))
      (let p = r.ready in let q = r.dropped in
      record { out = r.out; pieces = r.pieces; ready = omega arith; dropped = omega arith })

-- The frames of all pieces, each once, in any order, do to step 4 what a whole frame of the message does, and the id is closed. (Whether
-- the message is due plays no part here.)
pub pieces-queued : (x : Outgoing) → Splits (length x.body) x.mtu → x.channel < max_ord_chans → OneForEach x → (b : Bare)
    → any (has_id x.id) b.pieces ≡ false → ((k : ℕ) → k < pieces_of x → b.accepted (x.reliable k) ≡ false)
    → (ks : List ℕ) → EachOnce (pieces_of x) ks → Queued x b (feed b (map (line_frame x) ks))
unfolding count_of
pieces-queued x splits on one b new_id new_numbers [] each = absurd (let range = count-in-range (length x.body) x.mtu splits in
    let z = rw (lt-ltb 0 (pieces_of x) (omega arith)) at (each 0) in omega arith)
pieces-queued x splits on one b new_id new_numbers (k ∷ ks) each =
    feeds-during x splits on one b new_id ks k [] b.accepted counted
    (λ j i. new_numbers j (is_below x splits on one b new_id [] (k ∷ ks) counted j i))
  where
    counted : (j : ℕ) → count_of (eqb j) [] + count_of (eqb j) (k ∷ ks) ≡ cond (ltb j (pieces_of x)) 1 0
    counted j = let e = each j in omega arith
