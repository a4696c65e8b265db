-- Unfinished messages whose kind carries no reliable number (request 4): what the definitions count, and what a call drops.
-- Assumes nothing.
use Prim.Native.Nat.{ℕ, suc, ◌+◌, ◌≤◌, ◌<◌}
use mathlib.Core.Path.{◌≡◌, refl, sym, ◌∙◌, ap, subst}
use mathlib.Core.Bool.{Bool, true, false, cond, not, ◌&&◌, ◌||◌}
use mathlib.Core.List.Memᴰ
use mathlib.Core.List.{List, [], ◌∷◌, Memᴰ}
use native.Mathlib.Omega.{arith}
use lib.ListN.{length}
use lib.Dec.{ltb, eqb}
use borrow.Author.Tests.{ltb-true, lt-ltb, eqb-true, eq-eqb, not-true, not-false}
use Rattle.base.specs.Lists.{option, any, count_of, without}
use Rattle.base.proofs.Choices.{by_bool, by_option, cases, cond-test, and_left, and_right, and_both, or_left, neither}
use Rattle.base.proofs.Lists.{any_false, any-all, without-mem, mem-without}
use Rattle.base.proofs.Counts.{count_none}
use Rattle.reliability.specs.declared.Profile.{Profile}
use Rattle.bare.specs.Frame.{Frame, Piece, carries_reliable, in_limits, piece_of, message}
use Rattle.bare.specs.Bare.{Bare, Fed, new, conflict, has_id, joined, Kept, waiting, complete, keep, assemble, seen_before}
use Rattle.bare.specs.Bare.{accept_reliable, drop_in, finish, step, feed}
use Rattle.bare.specs.Unfinished.{Dated, new_dated, keeps_piece, dated_at, last_after, receive_dated, since, is_stale, drop_stale}
use Rattle.bare.specs.Unfinished.{stale_pieces, Event, datagram, drop_past, happens, after_events}

-- ---- which frames step 3 keeps as a piece

-- A frame that it keeps as no piece leaves the open pieces as they are.
pub not-kept : (b : Bare) (f : Frame) → keeps_piece b f ≡ false → (step b f).after.pieces ≡ b.pieces
unfolding keeps_piece step drop_in finish assemble keep
not-kept b f e =
    by_bool (λ (a : Fed). a.after.pieces ≡ b.pieces) (seen_before f b.accepted)
    (λ t. refl)
    (λ t. by_bool (λ (a : Fed). a.after.pieces ≡ b.pieces) (in_limits f)
    (λ u. by_bool left-alone f.piece
    (λ v. by_bool left-alone (any (conflict (piece_of f)) b.pieces)
    (λ w. refl)
    (λ w. neither (keeps_piece b f) (and_both _ _ (ap not t) (and_both _ _ u (and_both _ _ v (ap not w)))) e))
    (λ v. refl))
    (λ u. refl))
  where
    left-alone : Kept → Type 0
    left-alone k = (finish f.sequence (accept_reliable f b.accepted) b.pieces b.out k).after.pieces ≡ b.pieces

-- One that it keeps is put to the open pieces. It waits with them; or all indices are there, and the joined message goes on to step 4.
pub kept-is : (b : Bare) (f : Frame) → keeps_piece b f ≡ true → step b f ≡ finish f.sequence (accept_reliable f b.accepted) b.pieces b.out
    (option (joined (piece_of f ∷ b.pieces) f.id f.count) (waiting (piece_of f ∷ b.pieces))
    (λ body. complete (without (has_id f.id) b.pieces) (message f body)))
unfolding keeps_piece step assemble keep
kept-is b f e = by_bool is seen
    (λ t. neither seen t (not-true seen (and_left (not seen) _ e)))
    (λ t. by_bool is (in_limits f)
    (λ u. ap (finish f.sequence (accept_reliable f b.accepted) b.pieces b.out)
    (by_bool waits f.piece
    (λ v. by_bool waits bars
    (λ w. neither bars w (not-true bars (and_right f.piece _ (and_right (in_limits f) _ (and_right (not seen) _ e)))))
    (λ w. refl))
    (λ v. neither f.piece (and_left f.piece _ (and_right (in_limits f) _ (and_right (not seen) _ e))) v)))
    (λ u. neither (in_limits f) (and_left (in_limits f) _ (and_right (not seen) _ e)) u))
  where
    seen : Bool
    seen = seen_before f b.accepted

    bars : Bool
    bars = any (conflict (piece_of f)) b.pieces

    kept : Kept
    kept = option (joined (piece_of f ∷ b.pieces) f.id f.count) (waiting (piece_of f ∷ b.pieces))
        (λ body. complete (without (has_id f.id) b.pieces) (message f body))

    is : Fed → Type 0
    is a = a ≡ finish f.sequence (accept_reliable f b.accepted) b.pieces b.out kept

    waits : Kept → Type 0
    waits k = k ≡ kept

-- ---- what is counted

-- Is one of these frames kept as a piece of the id? Each is asked at its turn, as in `last_after`.
unfoldable pub keeps_piece_of : ℕ → Bare → List Frame → Bool
keeps_piece_of id b [] = false
keeps_piece_of id b (f ∷ fs) = (keeps_piece b f && eqb id f.id) || keeps_piece_of id (step b f).after fs

last-is : (b : Bare) (t : ℕ) (last : ℕ → ℕ) (fs : List Frame) (id : ℕ)
    → last_after b t last fs id ≡ cond (keeps_piece_of id b fs) t (last id)
unfolding last_after keeps_piece_of dated_at
last-is b t last [] id = refl
last-is b t last (f ∷ fs) id = last-is (step b f).after t _ fs id ∙ cases (keeps_piece b f)
    (λ y. rw y (cases (eqb id f.id)
    (λ z. rw z (by_bool (λ k. k ≡ t) (keeps_piece_of id (step b f).after fs) (λ _. refl) (λ _. refl)))
    (λ z. rw z)))
    (λ y. rw y)

-- No id's last kept piece is of a later datagram than the last accepted one.
abbrev pub LastWithin : Dated → Type 0
LastWithin d = (id : ℕ) → d.last id ≤ d.datagrams

pub receive-within : (fs : List Frame) (d : Dated) → LastWithin d → LastWithin (receive_dated fs d)
unfolding receive_dated
receive-within fs d h id = rw (last-is d.bare (suc d.datagrams) d.last fs id) (by_bool (λ k. k ≤ suc d.datagrams)
    (keeps_piece_of id d.bare fs) (λ _. omega arith) (λ _. let le = h id in omega arith))

pub drop-within : (n : ℕ) (d : Dated) → LastWithin d → LastWithin (drop_stale n d)
unfolding drop_stale
drop-within n d h = h

events-within : (d : Dated) (es : List Event) → LastWithin d → LastWithin (after_events d es)
unfolding after_events happens
events-within d [] h = h
events-within d (datagram fs ∷ es) h = events-within (receive_dated fs d) es (receive-within fs d h)
events-within d (drop_past n ∷ es) h = events-within (drop_stale n d) es (drop-within n d h)

pub last-within : (p : Profile) (es : List Event) → LastWithin (after_events (new_dated p) es)
unfolding new_dated
last-within p es = events-within (new_dated p) es (λ id. omega arith)

-- "Since whose last kept piece more than n further datagrams were accepted": after an accepted datagram one of whose frames is kept as a
-- piece of the id, none were; after one of whose frames none is, one more than before. A drop leaves the number.
pub since-kept : (fs : List Frame) (d : Dated) (id : ℕ) → keeps_piece_of id d.bare fs ≡ true → since (receive_dated fs d) id ≡ 0
unfolding since receive_dated
since-kept fs d id e =
    let l = last-is d.bare (suc d.datagrams) d.last fs id in
    let k = cond-test _ true (suc d.datagrams) (d.last id) e in
    omega arith

pub since-more : (fs : List Frame) (d : Dated) (id : ℕ) → LastWithin d → keeps_piece_of id d.bare fs ≡ false
    → since (receive_dated fs d) id ≡ suc (since d id)
unfolding since receive_dated
since-more fs d id h e =
    let l = last-is d.bare (suc d.datagrams) d.last fs id in
    let k = cond-test _ false (suc d.datagrams) (d.last id) e in
    let w = h id in
    omega arith

pub since-dropped : (n : ℕ) (d : Dated) (id : ℕ) → since (drop_stale n d) id ≡ since d id
unfolding since drop_stale
since-dropped n d id = refl

-- ---- which pieces a call drops

-- A stale piece is of a kind that carries no reliable number, and more than n datagrams were accepted after the last kept piece of its id.
pub stale-means : (n : ℕ) (d : Dated) (g : Piece) → is_stale n d g ≡ true → (carries_reliable g.kind ≡ false) × (n < since d g.id)
unfolding is_stale
stale-means n d g e = (not-true (carries_reliable g.kind) (and_left _ _ e), ltb-true n (since d g.id) (and_right _ _ e))

-- An open piece whose kind carries a reliable number stays.
pub reliable-stays : (n : ℕ) (d : Dated) (g : Piece) → Memᴰ g d.bare.pieces → carries_reliable g.kind ≡ true
    → Memᴰ g (drop_stale n d).bare.pieces
unfolding drop_stale is_stale
reliable-stays n d g i e = mem-without (is_stale n d) d.bare.pieces g i (rw e)

-- One that stays was there, and is not stale.
pub stays-not-stale : (n : ℕ) (d : Dated) (g : Piece) → Memᴰ g (drop_stale n d).bare.pieces
    → Memᴰ g d.bare.pieces × (is_stale n d g ≡ false)
unfolding drop_stale
stays-not-stale n d g i = without-mem (is_stale n d) d.bare.pieces g i

-- One that does not stay is stale,
pub dropped-is-stale : (n : ℕ) (d : Dated) (g : Piece) → Memᴰ g d.bare.pieces → (Memᴰ g (drop_stale n d).bare.pieces → ⊥)
    → is_stale n d g ≡ true
unfolding drop_stale
dropped-is-stale n d g i gone = cases (is_stale n d g) (λ t. t) (λ t. absurd (gone (mem-without (is_stale n d) d.bare.pieces g i t)))

counted : (p : Piece → Bool) (l : List Piece) → length (without p l) + count_of p l ≡ length l
unfolding without count_of
counted p [] = refl
counted p (g ∷ l) = go (p g) (counted p l)
  where
    go : (t : Bool) → length (without p l) + count_of p l ≡ length l
        → length (cond t (without p l) (g ∷ without p l)) + cond t (suc (count_of p l)) (count_of p l) ≡ suc (length l)
    go true r = omega arith
    go false r = omega arith

-- and the call returns how many do not stay.
pub stale-counted : (n : ℕ) (d : Dated) → length (drop_stale n d).bare.pieces + stale_pieces n d ≡ length d.bare.pieces
unfolding drop_stale stale_pieces
stale-counted n d = counted (is_stale n d) d.bare.pieces

-- What goes at a number goes at each lower one. So what goes at 2^32 - 1, the highest of 32 bits, goes at every number that a call has: an
-- age may stop at 2^32.
pub stale-lower : (n m : ℕ) (d : Dated) (g : Piece) → n ≤ m → is_stale m d g ≡ true → is_stale n d g ≡ true
unfolding is_stale
stale-lower n m d g le e =
    let lt : m < since d g.id = ltb-true m (since d g.id) (and_right (not (carries_reliable g.kind)) _ e) in
    and_both _ _ (and_left (not (carries_reliable g.kind)) _ e) (lt-ltb n (since d g.id) (omega arith))

-- A second call right after, of the same number or a greater one, drops nothing.
pub drop-twice : (n m : ℕ) (d : Dated) → n ≤ m → stale_pieces m (drop_stale n d) ≡ 0
unfolding drop_stale stale_pieces is_stale since
drop-twice n m d le = count_none _ _ (any-all _ (without (is_stale n d) d.bare.pieces) (λ g i. cases (is_stale m d g)
    (λ t. neither (is_stale n d g) (stale-lower n m d g le t) (without-mem (is_stale n d) d.bare.pieces g i).1)
    (λ t. t)))

-- ---- a message is dropped whole

-- The open pieces of an id have one kind.
abbrev OneKind : List Piece → Type 0
OneKind l = (g h : Piece) → Memᴰ g l → Memᴰ h l → g.id ≡ h.id → g.kind ≡ h.kind

without-one : (p : Piece → Bool) (l : List Piece) → OneKind l → OneKind (without p l)
without-one p l v g h i j q = v g h (without-mem p l g i).0 (without-mem p l h j).0 q

-- "Its open id has another .. kind": such a piece is dropped.
agreed : (f g : Piece) → conflict f g ≡ false → g.id ≡ f.id → g.kind ≡ f.kind
unfolding conflict
agreed f g e q =
    let all = not-false _ (or_left _ _ (rw (eq-eqb g.id f.id q) at e)) in
    eqb-true g.kind f.kind (and_right (eqb g.count f.count) _ (and_left _ _ (and_left _ _ (and_left _ _ all))))

cons-one : (f : Piece) (l : List Piece) → any (conflict f) l ≡ false → OneKind l → OneKind (f ∷ l)
cons-one f l e v = more (any_false (conflict f) l e)
  where
    more : ((x : Piece) → Memᴰ x l → conflict f x ≡ false) → OneKind (f ∷ l)
    more none-bars g h (Memᴰ.head r) (Memᴰ.head s) q = ap (λ (x : Piece). x.kind) (r ∙ sym s)
    more none-bars g h (Memᴰ.head r) (Memᴰ.tail j) q =
        ap (λ (x : Piece). x.kind) r ∙ sym (agreed f h (none-bars h j) (sym q ∙ ap (λ (x : Piece). x.id) r))
    more none-bars g h (Memᴰ.tail i) (Memᴰ.head s) q =
        agreed f g (none-bars g i) (q ∙ ap (λ (x : Piece). x.id) s) ∙ sym (ap (λ (x : Piece). x.kind) s)
    more none-bars g h (Memᴰ.tail i) (Memᴰ.tail j) q = v g h i j q

step-one : (b : Bare) (f : Frame) → OneKind b.pieces → OneKind (step b f).after.pieces
unfolding keeps_piece finish
step-one b f v = cases (keeps_piece b f)
    (λ t. subst (λ (a : Fed). OneKind a.after.pieces) (sym (kept-is b f t)) (by_option one (joined (piece_of f ∷ b.pieces) f.id f.count)
    (λ e. cons-one (piece_of f) b.pieces (not-true _ (and_right f.piece _ (and_right (in_limits f) _ (and_right _ _ t)))) v)
    (λ body e. without-one (has_id f.id) b.pieces v)))
    (λ t. subst OneKind (sym (not-kept b f t)) v)
  where
    one : Kept → Type 0
    one k = OneKind (finish f.sequence (accept_reliable f b.accepted) b.pieces b.out k).after.pieces

frames-one : (b : Bare) (fs : List Frame) → OneKind b.pieces → OneKind (feed b fs).after.pieces
unfolding feed
frames-one b [] v = v
frames-one b (f ∷ fs) v = frames-one (step b f).after fs (step-one b f v)

events-one : (d : Dated) (es : List Event) → OneKind d.bare.pieces → OneKind (after_events d es).bare.pieces
unfolding after_events happens receive_dated drop_stale
events-one d [] v = v
events-one d (datagram fs ∷ es) v = events-one (receive_dated fs d) es (frames-one d.bare fs v)
events-one d (drop_past n ∷ es) v = events-one (drop_stale n d) es (without-one (is_stale n d) d.bare.pieces v)

-- All open pieces of an id are dropped, or none.
pub dropped-whole : (p : Profile) (es : List Event) (n : ℕ) (g h : Piece) → Memᴰ g (after_events (new_dated p) es).bare.pieces
    → Memᴰ h (after_events (new_dated p) es).bare.pieces → g.id ≡ h.id
    → is_stale n (after_events (new_dated p) es) g ≡ is_stale n (after_events (new_dated p) es) h
unfolding is_stale
dropped-whole p es n g h i j q =
    ap (λ k. not (carries_reliable k) && ltb n (since d g.id)) (one g h i j q)
    ∙ ap (λ id. not (carries_reliable h.kind) && ltb n (since d id)) q
  where
    d : Dated
    d = after_events (new_dated p) es

    one : OneKind d.bare.pieces
    one = events-one (new_dated p) es (unfold new_dated new in λ g h i j q. absurd (Memᴰ.not-nil i))
