-- What is read stands at its place: an image that reads is the one that stands in the bytes.
-- Assumes nothing.
use Prim.Native.Nat.{ℕ, zero, suc, ◌+◌, ◌≤◌}
use mathlib.Core.Path.{◌≡◌, refl, sym, ◌∙◌, ap, subst}
use mathlib.Core.Bool.{Bool, true, false, cond}
use mathlib.Core.Option.{Option, none, some}
use mathlib.Core.List.{List, [], ◌∷◌}
use native.Mathlib.Omega.{arith}
use lib.Dec.{leb, eqb}
use lib.ListN.{length, take, drop, length-drop}
use Rattle.std.proofs.lemmas.List.{drop-drop}
use borrow.Author.Tests.{leb-true}
use Rattle.base.specs.Bytes.{be32, be64}
use Rattle.image.specs.Format.{Got, Format, exactly, number32, number64, both, formed, read_all, many, counted, section, body}
use Rattle.image.specs.Image.{PieceEntry, MessageEntry, Image, window_format, channel_format, four_numbers}
use Rattle.image.specs.Image.{piece_format, message_format, image_format, whole, read_image}
use Rattle.image.proofs.Formats.{gave}
use Rattle.image_read.specs.At.{place_after, values_at, body_at, body_end, window_at, channel_at, piece_at, piece_end, message_at}
use Rattle.image_read.specs.At.{message_end}
use Rattle.image_read.specs.At.{section_at, section_end, windows_place, channels_place, unsent_place, pieces_place, held_place, ready_place}
use Rattle.image_read.specs.At.{image_at}
use Rattle.image_read.proofs.Ending.{be32_from, be64_from}

-- what was read from place p on is v, and ends at q
pub record Here {A : Type 0} (s : List ℕ) (p : ℕ) (g : Got A) (v : A) (q : ℕ) : Type 0 where
  pub value : g.value ≡ v
  pub rest : g.rest ≡ drop q s
  pub after : p ≤ q
  pub within : q ≤ length s

-- whatever f reads at a place stands there
abbrev pub Stands : {A : Type 0} → List ℕ → Format A → (ℕ → A) → (ℕ → ℕ) → Type 0
Stands {A} s f at end = (p : ℕ) (g : Got A) → p ≤ length s → f.read (drop p s) ≡ some g → Here s p g (at p) (end p)

through : {A : Type 0} (b : Bool) (x y : A) → cond b (some x) none ≡ some y → (b ≡ true) × (x ≡ y)
through true x y e = (refl, cc)
through false x y e = absurd (let z : ◌≡◌ {A = ℕ} 0 1 = cc in omega arith)

module _ (s : List ℕ) where
  pub stands-exactly : (n : ℕ) → Stands s (exactly n) (λ p. take n (drop p s)) (λ p. p + n)
  unfolding exactly
  stands-exactly n p g h e =
      let a = through (leb n (length (drop p s))) (record { value = take n (drop p s); rest = drop n (drop p s) }) g e in
      let le : n ≤ length (drop p s) = leb-true n (length (drop p s)) a.0 in
      record {
        value = sym (ap (λ (x : Got (List ℕ)). x.value) a.1);
        rest = sym (ap (λ (x : Got (List ℕ)). x.rest) a.1) ∙ drop-drop n p s;
        after = omega arith;
        within = omega (arith, length-drop p s);
      }

  pub stands-number64 : Stands s number64 (be64 s) (λ p. p + 8)
  unfolding number64
  stands-number64 p g h e =
      let a = through (leb 8 (length (drop p s))) (record { value = be64 (drop p s) 0; rest = drop 8 (drop p s) }) g e in
      let le : 8 ≤ length (drop p s) = leb-true 8 (length (drop p s)) a.0 in
      record {
        value = sym (ap (λ (x : Got ℕ). x.value) a.1) ∙ be64_from s p;
        rest = sym (ap (λ (x : Got ℕ). x.rest) a.1) ∙ drop-drop 8 p s;
        after = omega arith;
        within = omega (arith, length-drop p s);
      }

  pub stands-number32 : Stands s number32 (be32 s) (λ p. p + 4)
  unfolding number32
  stands-number32 p g h e =
      let a = through (leb 4 (length (drop p s))) (record { value = be32 (drop p s) 0; rest = drop 4 (drop p s) }) g e in
      let le : 4 ≤ length (drop p s) = leb-true 4 (length (drop p s)) a.0 in
      record {
        value = sym (ap (λ (x : Got ℕ). x.value) a.1) ∙ be32_from s p;
        rest = sym (ap (λ (x : Got ℕ). x.rest) a.1) ∙ drop-drop 4 p s;
        after = omega arith;
        within = omega (arith, length-drop p s);
      }

  module _ {A B : Type 0} (f : Format A) (g : Format B) (a : ℕ → A) (b : ℕ → B) (d e : ℕ → ℕ) where
    pub stands-both : Stands s f a d → Stands s g b e → Stands s (both f g) (λ p. (a p, b (d p))) (λ p. e (d p))
    unfolding both
    stands-both u v p w h k =
        let x = gave (f.read (drop p s)) _ _ k in
        let i = u p x.0 h x.1 in
        let y = gave (g.read x.0.rest) _ _ x.2 in
        let j = v (d p) y.0 i.within (ap g.read (sym i.rest) ∙ y.1) in
        go x.0 y.0 i j (cc y.2)
      where
        go : (x : Got A) (y : Got B) → Here s p x (a p) (d p) → Here s (d p) y (b (d p)) (e (d p))
            → ◌≡◌ {A = Option (Got (A × B))} (some (record { value = (x.value, y.value); rest = y.rest })) (some w)
            → Here s p w (a p, b (d p)) (e (d p))
        go x y i j k =
            let q : ◌≡◌ {A = Got (A × B)} (record { value = (x.value, y.value); rest = y.rest }) w = cc in
            let le = i.after in
            let le2 = j.after in
            record {
              value = sym (ap (λ (z : Got (A × B)). z.value) q) ∙ (λ t. (i.value t, j.value t));
              rest = sym (ap (λ (z : Got (A × B)). z.rest) q) ∙ j.rest;
              after = omega arith;
              within = j.within;
            }

  module _ {A B : Type 0} (f : Format A) (a : ℕ → A) (d : ℕ → ℕ) (to : A → B) (from : B → A) where
    pub stands-formed : Stands s f a d → Stands s (formed to from f) (λ p. to (a p)) d
    unfolding formed
    stands-formed u p w h k =
        let x = gave (f.read (drop p s)) _ _ k in
        let i = u p x.0 h x.1 in
        let q : ◌≡◌ {A = Got B} (record { value = to x.0.value; rest = x.0.rest }) w = cc x.2 in
        record {
          value = sym (ap (λ (z : Got B). z.value) q) ∙ ap to i.value;
          rest = sym (ap (λ (z : Got B). z.rest) q) ∙ i.rest;
          after = i.after;
          within = i.within;
        }

  -- another way to say where
  module _ {A : Type 0} (f : Format A) (a b : ℕ → A) (d e : ℕ → ℕ) where
    pub stands-as : ((p : ℕ) → a p ≡ b p) → ((p : ℕ) → d p ≡ e p) → Stands s f a d → Stands s f b e
    stands-as x y u p w h k =
        let i = u p w h k in
        record {
          value = i.value ∙ x p;
          rest = i.rest ∙ ap (λ (z : ℕ). drop z s) (y p);
          after = subst (λ (z : ℕ). p ≤ z) (y p) i.after;
          within = subst (λ (z : ℕ). z ≤ length s) (y p) i.within;
        }

  module _ {A : Type 0} (f : Format A) (a : ℕ → A) (d : ℕ → ℕ) (u : Stands s f a d) where
    pub stands-all : (n : ℕ) → Stands s (many f n) (values_at a d n) (place_after d n)
    unfolding many read_all values_at place_after
    stands-all zero p w h k =
        let q : ◌≡◌ {A = Got (List A)} (record { value = []; rest = drop p s }) w = cc in
        record {
          value = sym (ap (λ (z : Got (List A)). z.value) q);
          rest = sym (ap (λ (z : Got (List A)). z.rest) q);
          after = omega arith;
          within = h;
        }
    stands-all (suc n) p w h k =
        let x = gave (f.read (drop p s)) _ _ k in
        let i = u p x.0 h x.1 in
        let y = gave (read_all f n x.0.rest) _ _ x.2 in
        let j = stands-all n (d p) y.0 i.within (ap (read_all f n) (sym i.rest) ∙ y.1) in
        go x.0 y.0 i j (cc y.2)
      where
        go : (x : Got A) (y : Got (List A)) → Here s p x (a p) (d p) → Here s (d p) y (values_at a d n (d p)) (place_after d n (d p))
            → ◌≡◌ {A = Option (Got (List A))} (some (record { value = x.value ∷ y.value; rest = y.rest })) (some w)
            → Here s p w (a p ∷ values_at a d n (d p)) (place_after d n (d p))
        go x y i j k =
            let q : ◌≡◌ {A = Got (List A)} (record { value = x.value ∷ y.value; rest = y.rest }) w = cc in
            let le = i.after in
            let le2 = j.after in
            record {
              value = sym (ap (λ (z : Got (List A)). z.value) q) ∙ (λ t. i.value t ∷ j.value t);
              rest = sym (ap (λ (z : Got (List A)). z.rest) q) ∙ j.rest;
              after = omega arith;
              within = j.within;
            }

  module _ {A : Type 0} (c : Format ℕ) (n : ℕ → ℕ) (e : ℕ → ℕ) (F : ℕ → Format (List A)) (a : ℕ → ℕ → List A) (d : ℕ → ℕ → ℕ) where
    pub stands-counted : Stands s c n e → ((k : ℕ) → Stands s (F k) (a k) (d k))
        → Stands s (counted c F) (λ p. a (n p) (e p)) (λ p. d (n p) (e p))
    unfolding counted
    stands-counted u v p w h k =
        let x = gave (c.read (drop p s)) _ _ k in
        let i = u p x.0 h x.1 in
        let j = v (n p) (e p) w i.within (ap (F (n p)).read (sym i.rest) ∙ (ap (λ (z : ℕ). (F z).read x.0.rest) (sym i.value) ∙ x.2)) in
        let le = i.after in
        let le2 = j.after in
        record { value = j.value; rest = j.rest; after = omega arith; within = j.within }

  module _ {A : Type 0} (f : Format A) (a : ℕ → A) (d : ℕ → ℕ) (u : Stands s f a d) where
    pub stands-section : Stands s (section f) (section_at s a d) (section_end s d)
    unfolding section section_at section_end
    stands-section = stands-counted number32 (be32 s) (λ p. p + 4) (many f) (values_at a d) (place_after d) stands-number32
        (stands-all f a d u)

  -- ---- the entries
  pub stands-body : Stands s body (body_at s) (body_end s)
  unfolding body body_at body_end
  stands-body = stands-counted number64 (be64 s) (λ p. p + 8) exactly (λ n p. take n (drop p s))
      (λ n p. p + n) stands-number64 stands-exactly

  pub stands-window : Stands s window_format (window_at s) (λ p. p + 264)
  unfolding window_format window_at
  stands-window = stands-as window_format _ (window_at s) _ (λ p. p + 264) (λ p. refl) (λ p. omega arith)
      (stands-formed _ _ _ _ _ (stands-both number64 (exactly 256) _ _ _ _ stands-number64 (stands-exactly 256)))

  pub stands-channel : Stands s channel_format (channel_at s) (λ p. p + 16)
  unfolding channel_format channel_at
  stands-channel = stands-as channel_format _ (channel_at s) _ (λ p. p + 16) (λ p. refl) (λ p. omega arith)
      (stands-formed _ _ _ _ _ (stands-both number64 number64 _ _ _ _ stands-number64 stands-number64))

  stands-two : Stands s (both number64 number64) (λ p. (be64 s p, be64 s (p + 8))) (λ p. p + 8 + 8)
  stands-two = stands-both number64 number64 _ _ _ _ stands-number64 stands-number64

  stands-three : Stands s (both number64 (both number64 number64)) (λ p. (be64 s p, (be64 s (p + 8), be64 s (p + 8 + 8))))
      (λ p. p + 8 + 8 + 8)
  stands-three = stands-both number64 (both number64 number64) _ _ _ _ stands-number64 stands-two

  stands-four : Stands s four_numbers (λ p. (be64 s p, (be64 s (p + 8), (be64 s (p + 8 + 8), be64 s (p + 8 + 8 + 8)))))
      (λ p. p + 8 + 8 + 8 + 8)
  unfolding four_numbers
  stands-four = stands-both number64 (both number64 (both number64 number64)) _ _ _ _ stands-number64 stands-three

  number-at : (p q : ℕ) → p ≡ q → be64 s p ≡ be64 s q
  number-at p q e = ap (be64 s) e

  abbrev raw_piece : ℕ → PieceEntry
  raw_piece p = record {
    id = be64 s p;
    index = be64 s (p + 8);
    count = be64 s (p + 8 + 8);
    kind = be64 s (p + 8 + 8 + 8);
    sequence = be64 s (p + 8 + 8 + 8 + 8);
    order = be64 s (p + 8 + 8 + 8 + 8 + 8);
    channel = be64 s (p + 8 + 8 + 8 + 8 + 8 + 8);
    age = be64 s (p + 8 + 8 + 8 + 8 + 8 + 8 + 8);
    body = body_at s (p + 8 + 8 + 8 + 8 + 8 + 8 + 8 + 8);
  }

  abbrev raw_message : ℕ → MessageEntry
  raw_message p = record {
    channel = be64 s p;
    order = be64 s (p + 8);
    kind = be64 s (p + 8 + 8);
    bodies = values_at (body_at s) (body_end s) (be64 s (p + 8 + 8 + 8)) (p + 8 + 8 + 8 + 8);
  }

  pub stands-piece : Stands s piece_format (piece_at s) (piece_end s)
  unfolding piece_format piece_at piece_end
  stands-piece = stands-as piece_format raw_piece (piece_at s) _ (piece_end s) values (λ p. ap (body_end s) (eight p))
      (stands-formed _ _ _ _ _ (stands-both (both four_numbers four_numbers) body _ _ _ _
      (stands-both four_numbers four_numbers _ _ _ _ stands-four stands-four) stands-body))
    where
      eight : (p : ℕ) → p + 8 + 8 + 8 + 8 + 8 + 8 + 8 + 8 ≡ p + 64
      eight p = omega arith

      values : (p : ℕ) → raw_piece p ≡ piece_at s p
      values p = let q2 = number-at (p + 8 + 8) (p + 16) (omega arith) in
          let q3 = number-at (p + 8 + 8 + 8) (p + 24) (omega arith) in
          let q4 = number-at (p + 8 + 8 + 8 + 8) (p + 32) (omega arith) in
          let q5 = number-at (p + 8 + 8 + 8 + 8 + 8) (p + 40) (omega arith) in
          let q6 = number-at (p + 8 + 8 + 8 + 8 + 8 + 8) (p + 48) (omega arith) in
          let q7 = number-at (p + 8 + 8 + 8 + 8 + 8 + 8 + 8) (p + 56) (omega arith) in
          let q8 = ap (body_at s) (eight p) in
          λ t. record {
            id = be64 s p;
            index = be64 s (p + 8);
            count = q2 t;
            kind = q3 t;
            sequence = q4 t;
            order = q5 t;
            channel = q6 t;
            age = q7 t;
            body = q8 t;
          }

  pub stands-message : Stands s message_format (message_at s) (message_end s)
  unfolding message_format message_at message_end
  stands-message = stands-as message_format raw_message (message_at s) _ (message_end s) values ends
      (stands-formed _ _ _ _ _ (stands-both (both number64 (both number64 number64)) (counted number64 (many body)) _ _ _ _ stands-three
      (stands-counted number64 (be64 s) (λ p. p + 8) (many body) (values_at (body_at s) (body_end s))
      (place_after (body_end s)) stands-number64
      (stands-all body (body_at s) (body_end s) stands-body))))
    where
      three : (p : ℕ) → p + 8 + 8 + 8 ≡ p + 24
      three p = omega arith

      four : (p : ℕ) → p + 8 + 8 + 8 + 8 ≡ p + 32
      four p = omega arith

      values : (p : ℕ) → raw_message p ≡ message_at s p
      values p = let q2 = number-at (p + 8 + 8) (p + 16) (omega arith) in
          λ t. record {
            channel = be64 s p;
            order = be64 s (p + 8);
            kind = q2 t;
            bodies = values_at (body_at s) (body_end s)
                (be64 s (three p t)) (four p t);
          }

      ends : (p : ℕ) → place_after (body_end s) (be64 s (p + 8 + 8 + 8)) (p + 8 + 8 + 8 + 8)
          ≡ place_after (body_end s) (be64 s (p + 24)) (p + 32)
      ends p t = place_after (body_end s) (be64 s (three p t)) (four p t)

-- ---- places go on
module _ (end : ℕ → ℕ) (onward : (p : ℕ) → p ≤ end p) where
  pub places-onward : (n p : ℕ) → p ≤ place_after end n p
  unfolding place_after
  places-onward zero p = omega arith
  places-onward (suc n) p = let a = onward p in let b = places-onward n (end p) in omega arith

  -- one value more
  pub place-more : (n p : ℕ) → place_after end (suc n) p ≡ end (place_after end n p)
  unfolding place_after
  place-more zero p = refl
  place-more (suc n) p = place-more n (end p)

  pub section-onward : (s : List ℕ) (p : ℕ) → p ≤ section_end s end p
  unfolding section_end
  section-onward s p = let a = places-onward (be32 s p) (p + 4) in omega arith

module _ (s : List ℕ) where
  pub body-onward : (p : ℕ) → p ≤ body_end s p
  unfolding body_end
  body-onward p = omega arith

  pub piece-onward : (p : ℕ) → p ≤ piece_end s p
  unfolding piece_end
  piece-onward p = let a = body-onward (p + 64) in omega arith

  pub message-onward : (p : ℕ) → p ≤ message_end s p
  unfolding message_end
  message-onward p = let a = places-onward (body_end s) body-onward (be64 s (p + 24)) (p + 32) in omega arith

-- ---- the image
-- i is the image that stands in s, and no section reaches past the end
pub record Whole (s : List ℕ) (i : Image) : Type 0 where
  pub is : i ≡ image_at s
  pub held : held_place s ≤ length s
  pub ready : ready_place s ≤ length s
  pub end : section_end s (message_end s) (ready_place s) ≤ length s

module _ (s : List ℕ) where
  image-here : (g : Got Image) → image_format.read (drop 0 s) ≡ some g
      → Here s 0 g (image_at s) (section_end s (message_end s) (ready_place s))
  unfolding image_format image_at windows_place channels_place unsent_place pieces_place held_place ready_place
  image-here g e = (stands-formed s _ _ _ _ _
      (stands-both s _ _ _ _ _ _ numbers
      (stands-both s _ _ _ _ _ _ (stands-section s window_format (window_at s) (λ p. p + 264) (stands-window s))
      (stands-both s _ _ _ _ _ _ (stands-section s channel_format (channel_at s) (λ p. p + 16) (stands-channel s))
      (stands-both s _ _ _ _ _ _ numbers
      (stands-both s _ _ _ _ _ _ (stands-section s piece_format (piece_at s) (piece_end s) (stands-piece s))
      (stands-both s _ _ _ _ _ _ messages messages))))))) 0 g (omega arith) e
    where
      numbers : Stands s (section number64) (section_at s (be64 s) (λ p. p + 8)) (section_end s (λ p. p + 8))
      numbers = stands-section s number64 (be64 s) (λ p. p + 8) (stands-number64 s)

      messages : Stands s (section message_format) (section_at s (message_at s) (message_end s)) (section_end s (message_end s))
      messages = stands-section s message_format (message_at s) (message_end s) (stands-message s)

  pub image-whole : (i : Image) → read_image s ≡ some i → Whole s i
  unfolding read_image
  image-whole i e =
      let a = gave (image_format.read s) whole i e in
      let h = image-here a.0 a.1 in
      let q = through (eqb (length a.0.rest) 0) a.0.value i a.2 in
      let r = section-onward (message_end s) (message-onward s) s (ready_place s) in
      let k = held-before in
      record { is = sym q.1 ∙ h.value; held = let w = h.within in omega arith; ready = let w = h.within in omega arith; end = h.within }
    where
      held-before : held_place s ≤ ready_place s
      held-before = unfold ready_place in section-onward (message_end s) (message-onward s) s (held_place s)
