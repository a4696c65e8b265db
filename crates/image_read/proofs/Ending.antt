-- Where reading at a place ends: what the code finds of each format.
-- Assumes nothing.
use Prim.Native.Nat.{ℕ, suc, ◌+◌, ◌*◌, ◌-◌, ◌≤◌, ◌<◌}
use mathlib.Core.Path.{◌≡◌, refl, sym, ◌∙◌, ap}
use mathlib.Core.Bool.{Bool, true, false, cond}
use mathlib.Core.Option.{Option, none, some}
use mathlib.Core.List.{List}
use native.Mathlib.Omega.{arith}
use lib.Dec.{leb, eqb}
use lib.ListN.{length, drop, length-drop}
use lib.Seq.{get_or-drop}
use Rattle.std.proofs.lemmas.List.{drop-drop}
use borrow.Author.Tests.{le-leb, lt-leb, eq-eqb, ne_eqb, eqb-true, eqb-false}
use Rattle.std.specs.Prelude.{Some, None}
use Rattle.std.specs.Prelude as Code
use Rattle.base.specs.Bytes.{be16, be32, be64}
use Rattle.base.specs.Lists.{option}
use Rattle.base.proofs.Choices.{cases}
use Rattle.image.specs.Format.{Got, Format, exactly, number32, number64, both, read_all, many, counted, section, body}
use Rattle.image.specs.Image.{Image, WindowEntry, ChannelEntry, PieceEntry, MessageEntry, piece_format, message_format, image_format, whole}
use Rattle.image.specs.Image.{read_image, window_format, channel_format}
use Rattle.image_read.specs.Ends.{rest_of, from_place, Onward, Ends, is_some}
use Rattle.image_read.proofs.Rests.{SameRest, cut_at, rest_exactly, rest_both, rest_formed, same-number, same-window, same-channel}
use Rattle.image_read.proofs.Rests.{same-three, same-eight}
use Rattle.image_read.proofs.Rests.{rest-all, rest-none, all-exactly, counted32, counted64, same-section}

-- ---- numbers at places
pub be32_from : (s : List ℕ) (p : ℕ) → be32 (drop p s) 0 ≡ be32 s p
unfolding be32 be16
be32_from s p = rw (get_or-drop p s 0 0, get_or-drop p s 1 0, get_or-drop p s 2 0, get_or-drop p s (2 + 1) 0)
    (let a : p + 0 ≡ p = omega arith in let b : p + (2 + 1) ≡ p + 2 + 1 = omega arith in rw (a, b) refl)

pub be64_from : (s : List ℕ) (p : ℕ) → be64 (drop p s) 0 ≡ be64 s p
unfolding be64 be32 be16
be64_from s p = rw (
  get_or-drop p s 0 0,
  get_or-drop p s 1 0,
  get_or-drop p s 2 0,
  get_or-drop p s (2 + 1) 0,
  get_or-drop p s 4 0,
  get_or-drop p s (4 + 1) 0,
  get_or-drop p s (4 + 2) 0,
  get_or-drop p s (4 + 2 + 1) 0,
)
    (let a : p + 0 ≡ p = omega arith in let b : p + (2 + 1) ≡ p + 2 + 1 = omega arith in
    let c : p + (4 + 1) ≡ p + 4 + 1 = omega arith in let d : p + (4 + 2) ≡ p + 4 + 2 = omega arith in
    let e : p + (4 + 2 + 1) ≡ p + 4 + 2 + 1 = omega arith in rw (a, b, c, d, e) refl)

-- ---- n bytes
module _ (s : List ℕ) (p n : ℕ) where
  cut-is : rest_of ((exactly n).read (drop p s)) ≡ cond (leb n (length (drop p s))) (some (drop n (drop p s))) none
  unfolding cut_at
  cut-is = rest_exactly n (drop p s)

  pub skipped : (room : ℕ) → room ≡ length s - p → n ≤ room → Ends (exactly n) s p (Some (p + n))
  unfolding from_place Onward
  skipped room e le = record {
    is = cut-is ∙ rw (le-leb n (length (drop p s)) (omega (arith, length-drop p s))) (ap some (drop-drop n p s));
    onward = (omega arith, λ h. omega arith);
  }

  pub skip_cut : (room : ℕ) → room ≡ length s - p → room < n → Ends (exactly n) s p None
  unfolding from_place Onward
  skip_cut room e lt = record { is = cut-is ∙ rw (lt-leb n (length (drop p s)) (omega (arith, length-drop p s))) refl; onward = tt }

-- ---- formats of as many bytes
module _ {A B : Type 0} (f : Format A) (g : Format B) (same : SameRest f g) (s : List ℕ) (p : ℕ) (r : Code.Option ℕ) where
  pub as-ends : Ends g s p r → Ends f s p r
  as-ends e = record { is = same (drop p s) ∙ e.is; onward = e.onward }

-- ---- one after another
module _ {A B : Type 0} (f : Format A) (g : Format B) (s : List ℕ) (p : ℕ) where
  pub both_cut : Ends f s p None → Ends (both f g) s p None
  unfolding from_place
  both_cut e = record { is = rest_both f g (drop p s) ∙ rw e.is refl; onward = e.onward }

  pub both_on : (q : ℕ) (r : Code.Option ℕ) → Ends f s p (Some q) → Ends g s q r → Ends (both f g) s p r
  unfolding from_place Onward
  both_on q r e h = record { is = rest_both f g (drop p s) ∙ rw e.is h.is; onward = go r h.onward }
    where
      go : (r : Code.Option ℕ) → Onward s q r → Onward s p r
      go None o = tt
      go (Some x) o = let a = e.onward.0 in let b = o.0 in (omega arith, λ h. o.1 (e.onward.1 h))

module _ {A : Type 0} (F : ℕ → Format (List A)) (s : List ℕ) (p : ℕ) where
  pub counted_cut32 : Ends (exactly 4) s p None → Ends (counted number32 F) s p None
  unfolding from_place
  counted_cut32 e = record { is = counted32 F (drop p s) ∙ rw (sym (rest_exactly 4 (drop p s)) ∙ e.is) refl; onward = e.onward }

  pub counted_cut64 : Ends (exactly 8) s p None → Ends (counted number64 F) s p None
  unfolding from_place
  counted_cut64 e = record { is = counted64 F (drop p s) ∙ rw (sym (rest_exactly 8 (drop p s)) ∙ e.is) refl; onward = e.onward }

  module _ (q : ℕ) (r : Code.Option ℕ) where
    onwards : (r : Code.Option ℕ) → Onward s p (Some q) → Onward s q r → Onward s p r
    unfolding Onward
    onwards None e o = tt
    onwards (Some x) e o = let a = e.0 in let b = o.0 in (omega arith, λ h. o.1 (e.1 h))

    pub counted_on32 : Ends (exactly 4) s p (Some q) → Ends (F (be32 s p)) s q r → Ends (counted number32 F) s p r
    unfolding from_place
    counted_on32 e h = record {
      is = counted32 F (drop p s) ∙ rw (sym (rest_exactly 4 (drop p s)) ∙ e.is, be32_from s p) h.is;
      onward = onwards r e.onward h.onward;
    }

    pub counted_on64 : Ends (exactly 8) s p (Some q) → Ends (F (be64 s p)) s q r → Ends (counted number64 F) s p r
    unfolding from_place
    counted_on64 e h = record {
      is = counted64 F (drop p s) ∙ rw (sym (rest_exactly 8 (drop p s)) ∙ e.is, be64_from s p) h.is;
      onward = onwards r e.onward h.onward;
    }

-- ---- sections of entries of one size
module _ (s : List ℕ) (p size : ℕ) where
  pub section_cut : Ends (exactly 4) s p None → Ends (section (exactly size)) s p None
  unfolding section
  section_cut e = counted_cut32 (many (exactly size)) s p e

  pub section_on : (q : ℕ) (r : Code.Option ℕ) → Ends (exactly 4) s p (Some q) → (n : ℕ) → n ≡ be32 s p → Ends (exactly (n * size)) s q r
      → Ends (section (exactly size)) s p r
  unfolding section many
  section_on q r e n k h = counted_on32 (many (exactly size)) s p q r e (rw (← k)
      (as-ends (many (exactly size) n) (exactly (n * size)) (λ t. all-exactly size n t ∙ sym (rest_exactly (n * size) t)) s q r h))

module _ {A : Type 0} (f : Format A) (s : List ℕ) (p : ℕ) where
  pub list_cut : Ends (exactly 4) s p None → Ends (section f) s p None
  unfolding section
  list_cut e = counted_cut32 (many f) s p e

  pub list_on : (q : ℕ) (r : Code.Option ℕ) → Ends (exactly 4) s p (Some q) → (n : ℕ) → n ≡ be32 s p → Ends (many f n) s q r
      → Ends (section f) s p r
  unfolding section
  list_on q r e n k h = counted_on32 (many f) s p q r e (rw (← k) h)

-- ---- bodies, pieces, messages
module _ (s : List ℕ) (p : ℕ) where
  pub body_cut : Ends (exactly 8) s p None → Ends body s p None
  unfolding body
  body_cut e = counted_cut64 exactly s p e

  pub body_on : (q : ℕ) (r : Code.Option ℕ) → Ends (exactly 8) s p (Some q) → (n : ℕ) → n ≡ be64 s p → Ends (exactly n) s q r
      → Ends body s p r
  unfolding body
  body_on q r e n k h = counted_on64 exactly s p q r e (rw (← k) h)

  pub piece_cut : Ends (exactly 64) s p None → Ends piece_format s p None
  unfolding piece_format
  piece_cut e = as-ends _ _ (rest_formed _ _ _) s p None (both_cut _ body s p (as-ends _ (exactly 64) same-eight s p None e))

  pub piece_on : (q : ℕ) (r : Code.Option ℕ) → Ends (exactly 64) s p (Some q) → Ends body s q r → Ends piece_format s p r
  unfolding piece_format
  piece_on q r e h = as-ends _ _ (rest_formed _ _ _) s p r (both_on _ body s p q r (as-ends _ (exactly 64) same-eight s p (Some q) e) h)

  pub message_cut : Ends (exactly 24) s p None → Ends message_format s p None
  unfolding message_format
  message_cut e = as-ends _ _ (rest_formed _ _ _) s p None
      (both_cut _ (counted number64 (many body)) s p (as-ends _ (exactly 24) same-three s p None e))

  module _ (q : ℕ) (e : Ends (exactly 24) s p (Some q)) where
    message_at : (r : Code.Option ℕ) → Ends (counted number64 (many body)) s q r → Ends message_format s p r
    unfolding message_format
    message_at r h = as-ends _ _ (rest_formed _ _ _) s p r
        (both_on _ (counted number64 (many body)) s p q r (as-ends _ (exactly 24) same-three s p (Some q) e) h)

    pub count_cut : Ends (exactly 8) s q None → Ends message_format s p None
    count_cut h = message_at None (counted_cut64 (many body) s q h)

    pub message_on : (u : ℕ) (r : Code.Option ℕ) → Ends (exactly 8) s q (Some u) → (n : ℕ) → n ≡ be64 s q → Ends (many body n) s u r
        → Ends message_format s p r
    message_on u r h n e k = message_at r (counted_on64 (many body) s q u r h (rw (← e) k))

-- ---- loops: after i of n values, the place is at
pub record Going {A : Type 0} (f : Format A) (n : ℕ) (s : List ℕ) (p i at : ℕ) : Type 0 where
  pub is : rest_of (read_all f n (drop p s)) ≡ rest_of (read_all f (n - i) (drop at s))
  pub onward : Onward s p (Some at)

module _ {A : Type 0} (f : Format A) (n : ℕ) (s : List ℕ) (p : ℕ) where
  pub going-begins : Going f n s p 0 p
  unfolding Onward
  going-begins = record { is = let e : n - 0 ≡ n = omega arith in rw e refl; onward = (omega arith, λ h. h) }

  module _ (i at : ℕ) (g : Going f n s p i at) where
    one : i < n → rest_of (read_all f n (drop p s)) ≡ option (rest_of (f.read (drop at s))) none (λ u. rest_of (read_all f (n - (i + 1)) u))
    one lt = let e : n - i ≡ suc (n - (i + 1)) = omega arith in g.is ∙ rw e (rest-all f (n - (i + 1)) (drop at s))

    pub going-on : i < n → (q : ℕ) → Ends f s at (Some q) → Going f n s p (i + 1) q
    unfolding from_place Onward
    going-on lt q e = record {
      is = one lt ∙ rw e.is refl;
      onward = (let a = g.onward.0 in let b = e.onward.0 in omega arith, λ h. e.onward.1 (g.onward.1 h));
    }

    pub going-cut : i < n → Ends f s at None → Ends (many f n) s p None
    unfolding from_place many Onward
    going-cut lt e = record { is = one lt ∙ rw e.is refl; onward = tt }

    pub going-ends : n ≤ i → Ends (many f n) s p (Some at)
    unfolding from_place many
    going-ends le = let z : n - i ≡ 0 = omega arith in record { is = g.is ∙ rw z (rest-none f (drop at s)); onward = g.onward }

pub ruleset goings = (going-begins, going-on, going-cut, going-ends)

-- ---- the whole image
-- what stands behind each section
abbrev from_held : Format (List MessageEntry × List MessageEntry)
from_held = both (section message_format) (section message_format)

abbrev from_pieces : Format (List PieceEntry × (List MessageEntry × List MessageEntry))
from_pieces = both (section piece_format) from_held

abbrev from_unsent : Format (List ℕ × (List PieceEntry × (List MessageEntry × List MessageEntry)))
from_unsent = both (section number64) from_pieces

abbrev from_channels : Format (List ChannelEntry × (List ℕ × (List PieceEntry × (List MessageEntry × List MessageEntry))))
from_channels = both (section channel_format) from_unsent

abbrev from_windows : Format (List WindowEntry × (List ChannelEntry
    × (List ℕ × (List PieceEntry × (List MessageEntry × List MessageEntry)))))
from_windows = both (section window_format) from_channels

-- a section of entries of one size
module _ {A : Type 0} (f : Format A) (size : ℕ) (same : SameRest f (exactly size)) (s : List ℕ) (p : ℕ) (r : Code.Option ℕ) where
  sized : Ends (section (exactly size)) s p r → Ends (section f) s p r
  sized e = as-ends (section f) (section (exactly size)) (same-section f (exactly size) same) s p r e

module _ (s : List ℕ) where
  image_is : (r : Code.Option ℕ) → Ends (both (section number64) from_windows) s 0 r → Ends image_format s 0 r
  unfolding image_format
  image_is r e = as-ends _ _ (rest_formed _ _ _) s 0 r e

  pub cut_profile : Ends (section (exactly 8)) s 0 None → Ends image_format s 0 None
  cut_profile e = image_is None (both_cut (section number64) from_windows s 0 (sized number64 8 same-number s 0 None e))

  module _ (p : ℕ) (e1 : Ends (section (exactly 8)) s 0 (Some p)) where
    at_windows : (r : Code.Option ℕ) → Ends from_windows s p r → Ends image_format s 0 r
    at_windows r e = image_is r (both_on (section number64) from_windows s 0 p r (sized number64 8 same-number s 0 (Some p) e1) e)

    pub cut_windows : Ends (section (exactly 264)) s p None → Ends image_format s 0 None
    cut_windows e = at_windows None (both_cut (section window_format) from_channels s p (sized window_format 264 same-window s p None e))

    module _ (q : ℕ) (e2 : Ends (section (exactly 264)) s p (Some q)) where
      at_channels : (r : Code.Option ℕ) → Ends from_channels s q r → Ends image_format s 0 r
      at_channels r e = at_windows r (both_on (section window_format) from_channels s p q r
          (sized window_format 264 same-window s p (Some q) e2) e)

      pub cut_channels : Ends (section (exactly 16)) s q None → Ends image_format s 0 None
      cut_channels e = at_channels None (both_cut (section channel_format) from_unsent s q
          (sized channel_format 16 same-channel s q None e))

      module _ (u : ℕ) (e3 : Ends (section (exactly 16)) s q (Some u)) where
        at_unsent : (r : Code.Option ℕ) → Ends from_unsent s u r → Ends image_format s 0 r
        at_unsent r e = at_channels r (both_on (section channel_format) from_unsent s q u r
            (sized channel_format 16 same-channel s q (Some u) e3) e)

        pub cut_unsent : Ends (section (exactly 8)) s u None → Ends image_format s 0 None
        cut_unsent e = at_unsent None (both_cut (section number64) from_pieces s u (sized number64 8 same-number s u None e))

        module _ (v : ℕ) (e4 : Ends (section (exactly 8)) s u (Some v)) where
          at_pieces : (r : Code.Option ℕ) → Ends from_pieces s v r → Ends image_format s 0 r
          at_pieces r e = at_unsent r (both_on (section number64) from_pieces s u v r (sized number64 8 same-number s u (Some v) e4) e)

          pub cut_pieces : Ends (section piece_format) s v None → Ends image_format s 0 None
          cut_pieces e = at_pieces None (both_cut (section piece_format) from_held s v e)

          module _ (w : ℕ) (e5 : Ends (section piece_format) s v (Some w)) where
            at_held : (r : Code.Option ℕ) → Ends from_held s w r → Ends image_format s 0 r
            at_held r e = at_pieces r (both_on (section piece_format) from_held s v w r e5 e)

            pub cut_held : Ends (section message_format) s w None → Ends image_format s 0 None
            cut_held e = at_held None (both_cut (section message_format) (section message_format) s w e)

            pub all_sections : (x : ℕ) → Ends (section message_format) s w (Some x) → (r : Code.Option ℕ)
                → Ends (section message_format) s x r
                → Ends image_format s 0 r
            all_sections x h r e = at_held r (both_on (section message_format) (section message_format) s w x r h e)

pub ruleset sections = (cut_profile, cut_windows, cut_channels, cut_unsent, cut_pieces, cut_held, all_sections)

module _ (s : List ℕ) (r : Code.Option ℕ) (e : Ends image_format s 0 r) where
  formed-is : is_some (read_image s) ≡ option (from_place s r) false (λ u. eqb (length u) 0)
  unfolding is_some read_image rest_of
  formed-is = go (image_format.read s) ∙ ap (λ (o : Option (List ℕ)). option o false (λ u. eqb (length u) 0)) e.is
    where
      last : (b : Bool) (i : Image) → option (cond b (some i) none) false (λ a. true) ≡ b
      last true i = refl
      last false i = refl

      go : (o : Option (Got Image)) → option (option o none whole) false (λ a. true) ≡ option (rest_of o) false (λ u. eqb (length u) 0)
      go none = refl
      go (some g) = last (eqb (length g.rest) 0) g.value

  pub formed-cut : r ≡ None → is_some (read_image s) ≡ false
  unfolding from_place
  formed-cut k = formed-is ∙ rw k refl

  pub formed-at : (q : ℕ) → r ≡ Some q → is_some (read_image s) ≡ eqb q (length s)
  unfolding from_place Onward
  formed-at q k = formed-is ∙ rw k (go (rw k at e.onward).1)
    where
      go : (0 ≤ length s → q ≤ length s) → eqb (length (drop q s)) 0 ≡ eqb q (length s)
      go f = let le : q ≤ length s = f (omega arith) in cases (eqb q (length s))
          (λ y. let a = eqb-true q (length s) y in y-is (omega (arith, length-drop q s)) ∙ sym y)
          (λ y. let a = eqb-false q (length s) y in y-not (omega (arith, length-drop q s)) ∙ sym y)
        where
          y-is : length (drop q s) ≡ 0 → eqb (length (drop q s)) 0 ≡ true
          y-is z = eq-eqb _ 0 z

          y-not : (length (drop q s) ≡ 0 → ⊥) → eqb (length (drop q s)) 0 ≡ false
          y-not z = ne_eqb _ 0 z

pub ruleset ends = (section_cut, body_cut, piece_cut, message_cut, count_cut, list_cut)

pub ruleset forms = (formed-cut, formed-at)
