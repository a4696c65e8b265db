-- Arrival order makes no difference to an ordered channel: the bare receiver's part of demand 3.
-- Assumes nothing.
use Prim.Native.Nat.{ℕ, zero, suc, ◌≤◌, ◌<◌}
use mathlib.Core.Path.{◌≡◌, sym, ◌∙◌, ap, subst, subst₂}
use mathlib.Core.Logic.{◌⊎◌, inl, inr}
use mathlib.Core.Bool.{true, false}
use mathlib.Core.List.{List, [], ◌++◌, Memᴰ}
use native.Mathlib.Omega.{arith}
use lib.ListN.{take, drop, take-append-drop}
use lib.Seq.{ext_get_or, get_or-take, length-take-le, take_all}
use lib.Dec.{ltb}
use borrow.Author.Tests.{ltb-true, ltb-false}
use Rattle.base.proofs.Choices.{cases, neither}
use Rattle.base.proofs.EachAt.{EachAt-length, EachAt-get, EachAt-at}
use Rattle.reliability.specs.declared.Profile.{Profile}
use Rattle.bare.specs.Frame.{Frame, Message, piece_of}
use Rattle.bare.specs.Bare.{Bare}
use Rattle.bare.specs.Unfinished.{new_dated, Event, after_events, frames_of}
use Rattle.bare.specs.Book.{Of, Book, Joins, Written, Arrived}
use Rattle.bare.specs.Order.{line_for, line_of, Within, HasArrived, InOrder}
use Rattle.bare.proofs.Channel.{Passed}
use Rattle.bare.proofs.Join.{joined-there}
use Rattle.bare.proofs.Invariant.{Inv}
use Rattle.bare.proofs.Events.{all-inv}

module _ (B : Frame → Type 0) (book : Book B) where
  -- The order number next on a channel has not arrived.
  next-absent : (R : Frame → Type 0) (b : Bare) → Inv B book R b → (c : ℕ) → Arrived B R c (b.out.next c) → ⊥
  unfolding piece_of
  next-absent R b v c a =
      let f = a.some_frame.0 in
      let fb = a.some_frame.1 in
      let of = a.some_frame.2 in
      let i = not_done f (a.all_read f fb of) of in
      joined-there b.pieces f.id f.count
      (λ j lt.
      let t = book.index-there _ _ f fb of i.0 j lt in
      let ag = book.agree _ _ f t.0 fb t.1 of t.2 i.0 t.3 in
      (piece_of t.0, (not_done t.0 (a.all_read t.0 t.1 t.2) t.2).1, sym ag.same_id, t.4))
      (v.pieces.lacking f (a.all_read f fb of) of.ordered_kind i.0 i.1)
    where
      passed-not : Passed b.out c (b.out.next c) → ⊥
      passed-not (inl lt) = omega arith
      passed-not (inr h) =
          let lt : b.out.next h.0.channel < h.0.order = v.chan.ahead h.0 h.1 in
          let q : b.out.next h.0.channel ≡ b.out.next c = ap b.out.next h.2 in
          let r : h.0.order ≡ b.out.next c = h.3 in
          omega arith

      choose : (f : Frame) → Passed b.out c (b.out.next c) ⊎ ((f.piece ≡ true) × Memᴰ (piece_of f) b.pieces)
          → (f.piece ≡ true) × Memᴰ (piece_of f) b.pieces
      choose f (inl p) = absurd (passed-not p)
      choose f (inr i) = i

      not_done : (f : Frame) → R f → Of c (b.out.next c) f → (f.piece ≡ true) × Memᴰ (piece_of f) b.pieces
      not_done f r of = choose f (subst₂ (λ (d o : ℕ). Passed b.out d o ⊎ ((f.piece ≡ true) × Memᴰ (piece_of f) b.pieces))
          of.on of.numbered (v.pieces.seen f r of.ordered_kind))

  -- The book says what its messages are.
  Joins-unique : (c o n : ℕ) (b b' : List ℕ) → Joins B c o n b → Joins B c o n b' → b ≡ b'
  Joins-unique c o zero b b' j j' = j ∙ sym j'
  Joins-unique c o (suc n) b b' j j' =
      let e : j.0 ≡ j'.0 = Joins-unique c o n j.0 j'.0 j.2 j'.2 in
      let g : j.1 ≡ j'.1 = book.index_once c o j.1 j'.1 j.3 j'.3 j.4 j'.4 j.5 j'.5 (j.6 ∙ sym j'.6) in
      cc (j.7, j'.7)

  pub Written-unique : (c o : ℕ) (m m' : Message) → Written B c o m → Written B c o m' → m ≡ m'
  Written-unique c o m m' w w' =
      let k = kinds w.body_is w'.body_is in
      λ i. record {
        kind = (w.kind_is ∙ k.0 ∙ sym w'.kind_is) i;
        channel = (w.channel_is ∙ sym w'.channel_is) i;
        order = (w.order_is ∙ sym w'.order_is) i;
        body = k.1 i;
      }
    where
      f : Frame
      f = w.frame

      g : Frame
      g = w'.frame

      kinds : ((f.piece ≡ false) × (m.body ≡ f.body)) ⊎ ((f.piece ≡ true) × Joins B c o f.count m.body)
          → ((g.piece ≡ false) × (m'.body ≡ g.body)) ⊎ ((g.piece ≡ true) × Joins B c o g.count m'.body)
          → (f.kind ≡ g.kind) × (m.body ≡ m'.body)
      kinds (inl p) (inl q) = let e = book.whole_alone c o f g w.listed w'.listed w.of w'.of p.0 in
          (ap (λ (x : Frame). x.kind) e, p.1 ∙ ap (λ (x : Frame). x.body) e ∙ sym q.1)
      kinds (inl p) (inr q) = let e = book.whole_alone c o f g w.listed w'.listed w.of w'.of p.0 in
          neither g.piece q.0 (ap (λ (x : Frame). x.piece) (sym e) ∙ p.0)
      kinds (inr p) (inl q) = let e = book.whole_alone c o g f w'.listed w.listed w'.of w.of q.0 in
          neither f.piece p.0 (ap (λ (x : Frame). x.piece) (sym e) ∙ q.0)
      kinds (inr p) (inr q) = let a = book.agree c o f g w.listed w'.listed w.of w'.of p.0 q.0 in (
        a.same_kind,
        Joins-unique c o f.count m.body m'.body p.1
            (subst (λ (n : ℕ). Joins B c o n m'.body) (sym a.same_count) q.1),
      )

-- Where all frames read stand in a sender's book, the line has of each channel exactly the book's messages before the first order number
-- not arrived, in order, once each, whatever calls of request 4 were among the datagrams.
pub in_order : (p : Profile) (B : Frame → Type 0) → Book B → (es : List Event) → Within B (frames_of es) → (c : ℕ) → InOrder p B es c
unfolding line_of line_for
in_order p B book es h c =
    let v = all-inv B book p es h in
    let b = (after_events (new_dated p) es).bare in
    let run = v.chan.line-good c in
    record {
      first_absent = b.out.next c;
      absent = next-absent B book _ b v c;
      before = λ o lt. (EachAt-at _ (b.out.next c) _ run o lt).1.arrived;
      long = EachAt-length _ (b.out.next c) (line_of p c es) run;
      at = λ o lt d. (EachAt-get _ (b.out.next c) (line_of p c es) run o lt d).written;
    }

-- Where no less arrived, the first order number not arrived is no lower.
no-later-absent : {p q : Profile} {B : Frame → Type 0} {es es' : List Event} {c : ℕ} (v : InOrder p B es c) (w : InOrder q B es' c)
    → ((o : ℕ) → HasArrived B (frames_of es) c o → HasArrived B (frames_of es') c o) → v.first_absent ≤ w.first_absent
no-later-absent v w up = cases (ltb w.first_absent v.first_absent)
    (λ t. absurd (w.absent (up _ (v.before _ (ltb-true _ _ t)))))
    (λ t. ltb-false _ _ t)

-- Two lines, the first no longer, agree as far as the first goes: the book says what they have, whatever the receivers' profiles.
agree-so-far : {p q : Profile} {B : Frame → Type 0} → Book B → {es es' : List Event} {c : ℕ} (v : InOrder p B es c) (w : InOrder q B es' c)
    → v.first_absent ≤ w.first_absent → line_of p c es ≡ take v.first_absent (line_of q c es')
agree-so-far {p} {q} {B} book {es} {es'} {c} v w le = ext_get_or blank (line_of p c es) (take v.first_absent (line_of q c es'))
    (v.long ∙ sym (length-take-le v.first_absent (line_of q c es') (omega (arith, w.long))))
    (λ i lt.
    let lt' : i < v.first_absent = omega (arith, v.long) in
    rw (get_or-take v.first_absent (line_of q c es') i blank lt')
    (Written-unique B book c i _ _ (v.at i lt' blank) (w.at i (omega arith) blank)))
  where
    blank : Message
    blank = record { kind = 0; channel = 0; order = 0; body = [] }

-- Equal arrivals give equal lines, whatever the order they came in, the calls of request 4 among them and the profiles.
pub same_line : (p q : Profile) (B : Frame → Type 0) → Book B → (es es' : List Event) → Within B (frames_of es)
    → Within B (frames_of es') → (c : ℕ) → ((o : ℕ) → HasArrived B (frames_of es) c o → HasArrived B (frames_of es') c o)
    → ((o : ℕ) → HasArrived B (frames_of es') c o → HasArrived B (frames_of es) c o) → line_of p c es ≡ line_of q c es'
same_line p q B book es es' h k c up down =
    let v = in_order p B book es h c in
    let w = in_order q B book es' k c in
    let le : v.first_absent ≤ w.first_absent = no-later-absent v w up in
    let ge : w.first_absent ≤ v.first_absent = no-later-absent w v down in
    agree-so-far book v w le ∙ take_all v.first_absent (line_of q c es') (omega (arith, w.long))

-- Where all that arrived of a channel in the first list also arrived in the second, the first's begin the second's.
pub begins : (p q : Profile) (B : Frame → Type 0) → Book B → (es es' : List Event) → Within B (frames_of es) → Within B (frames_of es')
    → (c : ℕ) → ((o : ℕ) → HasArrived B (frames_of es) c o → HasArrived B (frames_of es') c o)
    → (rest : List Message) × (line_of q c es' ≡ line_of p c es ++ rest)
begins p q B book es es' h k c up =
    let v = in_order p B book es h c in
    let w = in_order q B book es' k c in (
      drop v.first_absent (line_of q c es'),
      rw (agree-so-far book v w (no-later-absent v w up))
          (sym (take-append-drop v.first_absent (line_of q c es'))),
    )
