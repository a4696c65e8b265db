-- Where what a format reads ends: format by format.
-- Assumes nothing.
use Prim.Native.Nat.{ℕ, zero, suc, ◌+◌, ◌*◌, ◌≤◌}
use mathlib.Core.Path.{◌≡◌, refl, sym, ◌∙◌, ap}
use mathlib.Core.Bool.{Bool, true, false, cond}
use mathlib.Core.Option.{Option, none, some}
use mathlib.Core.List.{List, ◌∷◌}
use native.Mathlib.Omega.{arith}
use lib.Dec.{leb}
use lib.ListN.{length, take, drop, length-drop}
use Rattle.std.proofs.lemmas.List.{drop-drop}
use borrow.Author.Tests.{leb-true, leb-false, le-leb, lt-leb}
use Rattle.base.specs.Bytes.{be32, be64}
use Rattle.base.specs.Lists.{option}
use Rattle.base.proofs.Choices.{cases, cond-ap}
use Rattle.image.specs.Format.{Got, Format, exactly, number32, number64, both, formed, read_all, many, counted, section}
use Rattle.image.specs.Image.{window_format, channel_format, four_numbers}
use Rattle.image_read.specs.Ends.{rest_of}

-- two formats read as many bytes
abbrev pub SameRest : {A B : Type 0} → Format A → Format B → Type 0
SameRest f g = (t : List ℕ) → rest_of (f.read t) ≡ rest_of (g.read t)

-- n bytes off t
unfoldable pub cut_at : ℕ → List ℕ → Option (List ℕ)
cut_at n t = cond (leb n (length t)) (some (drop n t)) none

pub rest_exactly : (n : ℕ) (t : List ℕ) → rest_of ((exactly n).read t) ≡ cut_at n t
unfolding rest_of exactly cut_at
rest_exactly n t = cond-ap rest_of (leb n (length t)) (some (record { value = take n t; rest = drop n t })) none

pub rest-number32 : (t : List ℕ) → rest_of (number32.read t) ≡ cut_at 4 t
unfolding rest_of number32 cut_at
rest-number32 t = cond-ap rest_of (leb 4 (length t)) (some (record { value = be32 t 0; rest = drop 4 t })) none

pub rest-number64 : (t : List ℕ) → rest_of (number64.read t) ≡ cut_at 8 t
unfolding rest_of number64 cut_at
rest-number64 t = cond-ap rest_of (leb 8 (length t)) (some (record { value = be64 t 0; rest = drop 8 t })) none

-- ---- one after another
module _ {A B : Type 0} (f : Format A) (g : Format B) where
  pub rest_both : (t : List ℕ) → rest_of ((both f g).read t) ≡ option (rest_of (f.read t)) none (λ u. rest_of (g.read u))
  unfolding rest_of both
  rest_both t = go (f.read t)
    where
      last : (a : A) (o : Option (Got B)) → rest_of {A = A × B}
          (option o none (λ b. some (record { value = (a, b.value); rest = b.rest }))) ≡ rest_of o
      last a none = refl
      last a (some b) = refl

      go : (o : Option (Got A)) → rest_of {A = A × B} (option o none
          (λ a. option (g.read a.rest) none (λ b. some (record { value = (a.value, b.value); rest = b.rest }))))
          ≡ option (rest_of o) none (λ u. rest_of (g.read u))
      go none = refl
      go (some a) = last a.value (g.read a.rest)

module _ {A B C D : Type 0} (f : Format A) (g : Format B) (h : Format C) (k : Format D) where
  pub same_both : SameRest f h → SameRest g k → SameRest (both f g) (both h k)
  same_both p q t = rest_both f g t ∙ (go (rest_of (f.read t)) (rest_of (h.read t)) (p t) ∙ sym (rest_both h k t))
    where
      go : (o o' : Option (List ℕ)) → o ≡ o' → option o none (λ u. rest_of (g.read u)) ≡ option o' none (λ u. rest_of (k.read u))
      go o o' e = ap (λ (x : Option (List ℕ)). option x none (λ u. rest_of (g.read u))) e ∙ arm o'
        where
          arm : (o : Option (List ℕ)) → option o none (λ u. rest_of (g.read u)) ≡ option o none (λ u. rest_of (k.read u))
          arm none = refl
          arm (some u) = q u

module _ {A B : Type 0} (f : Format A) (to : A → B) (from : B → A) where
  pub rest_formed : SameRest (formed to from f) f
  unfolding rest_of formed
  rest_formed t = go (f.read t)
    where
      go : (o : Option (Got A)) → rest_of (option o none (λ a. some (record { value = to a.value; rest = a.rest }))) ≡ rest_of o
      go none = refl
      go (some a) = refl

-- ---- n bytes, and m more
pub cut-cut : (n m : ℕ) (t : List ℕ) → option (cut_at n t) none (cut_at m) ≡ cut_at (n + m) t
unfolding cut_at
cut-cut n m t = cases (leb n (length t))
    (λ e. let le : n ≤ length t = leb-true n (length t) e in rw e (cases (leb m (length (drop n t)))
    (λ k. let le2 : m ≤ length (drop n t) = leb-true m (length (drop n t)) k in
    rw (k, le-leb (n + m) (length t) (omega (arith, length-drop n t))) (ap some (drop-drop m n t)))
    (λ k. let lt = leb-false m (length (drop n t)) k in rw (k, lt-leb (n + m) (length t) (omega (arith, length-drop n t))) refl)))
    (λ e. let lt = leb-false n (length t) e in rw (e, lt-leb (n + m) (length t) (omega arith)) refl)

pub same_two : (n m : ℕ) → SameRest (both (exactly n) (exactly m)) (exactly (n + m))
same_two n m t = rest_both (exactly n) (exactly m) t ∙ (rw (rest_exactly n t) (go (cut_at n t) ∙ cut-cut n m t)
    ∙ sym (rest_exactly (n + m) t))
  where
    go : (o : Option (List ℕ)) → option o none (λ u. rest_of ((exactly m).read u)) ≡ option o none (cut_at m)
    go none = refl
    go (some u) = rest_exactly m u

pub same-number : SameRest number64 (exactly 8)
same-number t = rest-number64 t ∙ sym (rest_exactly 8 t)

-- formats of so many bytes each, one after the other
pub fixed_both : {A B : Type 0} (f : Format A) (g : Format B) (n m : ℕ) → SameRest f (exactly n) → SameRest g (exactly m)
    → SameRest (both f g) (exactly (n + m))
fixed_both f g n m p q t = same_both f g (exactly n) (exactly m) p q t ∙ same_two n m t

pub same-window : SameRest window_format (exactly 264)
unfolding window_format
same-window t = rest_formed _ _ _ t ∙ fixed_both number64 (exactly 256) 8 256 same-number (λ u. refl) t

pub same-channel : SameRest channel_format (exactly 16)
unfolding channel_format
same-channel t = rest_formed _ _ _ t ∙ fixed_both number64 number64 8 8 same-number same-number t

pub same-three : SameRest (both number64 (both number64 number64)) (exactly 24)
same-three = fixed_both number64 (both number64 number64) 8 16 same-number (fixed_both number64 number64 8 8 same-number same-number)

pub same-four : SameRest four_numbers (exactly 32)
unfolding four_numbers
same-four = fixed_both number64 (both number64 (both number64 number64)) 8 24 same-number same-three

pub same-eight : SameRest (both four_numbers four_numbers) (exactly 64)
same-eight = fixed_both four_numbers four_numbers 32 32 same-four same-four

-- ---- lists
module _ {A : Type 0} (f : Format A) where
  -- the bytes after n values
  pub rest-all : (n : ℕ) (t : List ℕ) → rest_of (read_all f (suc n) t) ≡ option (rest_of (f.read t)) none (λ u. rest_of (read_all f n u))
  unfolding rest_of read_all
  rest-all n t = go (f.read t)
    where
      last : (a : A) (o : Option (Got (List A))) → rest_of (option o none (λ l. some (record { value = a ∷ l.value; rest = l.rest })))
          ≡ rest_of o
      last a none = refl
      last a (some l) = refl

      go : (o : Option (Got A)) → rest_of (option o none (λ a. option (read_all f n a.rest) none
          (λ l. some (record { value = a.value ∷ l.value; rest = l.rest }))))
          ≡ option (rest_of o) none (λ u. rest_of (read_all f n u))
      go none = refl
      go (some a) = last a.value (read_all f n a.rest)

  pub rest-none : (t : List ℕ) → rest_of (read_all f 0 t) ≡ some t
  unfolding rest_of read_all
  rest-none t = refl

module _ {A B : Type 0} (f : Format A) (g : Format B) (p : SameRest f g) where
  pub same-all : (n : ℕ) (t : List ℕ) → rest_of (read_all f n t) ≡ rest_of (read_all g n t)
  same-all zero t = rest-none f t ∙ sym (rest-none g t)
  same-all (suc n) t = rest-all f n t ∙ (rw (p t) (go (rest_of (g.read t)) (λ u. same-all n u)) ∙ sym (rest-all g n t))
    where
      go : (o : Option (List ℕ)) → ((u : List ℕ) → rest_of (read_all f n u) ≡ rest_of (read_all g n u))
          → option o none (λ u. rest_of (read_all f n u)) ≡ option o none (λ u. rest_of (read_all g n u))
      go none h = refl
      go (some u) h = h u

-- n values of k bytes each
pub all-exactly : (k n : ℕ) (t : List ℕ) → rest_of (read_all (exactly k) n t) ≡ cut_at (n * k) t
all-exactly k zero t = rest-none (exactly k) t ∙ sym (nothing t)
  where
    nothing : (t : List ℕ) → cut_at (0 * k) t ≡ some t
    nothing t = unfold cut_at in (let e : 0 * k ≡ 0 = omega arith in rw (e, le-leb 0 (length t) (omega arith)) refl)
all-exactly k (suc n) t = rest-all (exactly k) n t ∙ (ap after (rest_exactly k t) ∙ (go (cut_at k t) (λ u. all-exactly k n u)
    ∙ (cut-cut k (n * k) t ∙ ap (λ m. cut_at m t) e)))
  where
    e : k + n * k ≡ suc n * k
    e = omega arith

    after : Option (List ℕ) → Option (List ℕ)
    after o = option o none (λ u. rest_of (read_all (exactly k) n u))

    go : (o : Option (List ℕ)) → ((u : List ℕ) → rest_of (read_all (exactly k) n u) ≡ cut_at (n * k) u)
        → option o none (λ u. rest_of (read_all (exactly k) n u)) ≡ option o none (cut_at (n * k))
    go none h = refl
    go (some u) h = h u

-- ---- counted lists
module _ {A : Type 0} (F : ℕ → Format (List A)) where
  counted-rest : (c : Format ℕ) (t : List ℕ) → rest_of ((counted c F).read t)
      ≡ option (c.read t) none (λ k. rest_of ((F k.value).read k.rest))
  unfolding rest_of counted
  counted-rest c t = go (c.read t)
    where
      go : (o : Option (Got ℕ)) → rest_of (option o none (λ k. (F k.value).read k.rest))
          ≡ option o none (λ k. rest_of ((F k.value).read k.rest))
      go none = refl
      go (some k) = refl

  pub counted32 : (t : List ℕ) → rest_of ((counted number32 F).read t) ≡ option (cut_at 4 t) none (λ u. rest_of ((F (be32 t 0)).read u))
  unfolding number32 cut_at
  counted32 t = counted-rest number32 t ∙ go (leb 4 (length t))
    where
      go : (b : Bool) → option (cond b (some (record { value = be32 t 0; rest = drop 4 t })) none) none
          (λ (k : Got ℕ). rest_of ((F k.value).read k.rest))
          ≡ option (cond b (some (drop 4 t)) none) none (λ u. rest_of ((F (be32 t 0)).read u))
      go true = refl
      go false = refl

  pub counted64 : (t : List ℕ) → rest_of ((counted number64 F).read t) ≡ option (cut_at 8 t) none (λ u. rest_of ((F (be64 t 0)).read u))
  unfolding number64 cut_at
  counted64 t = counted-rest number64 t ∙ go (leb 8 (length t))
    where
      go : (b : Bool) → option (cond b (some (record { value = be64 t 0; rest = drop 8 t })) none) none
          (λ (k : Got ℕ). rest_of ((F k.value).read k.rest))
          ≡ option (cond b (some (drop 8 t)) none) none (λ u. rest_of ((F (be64 t 0)).read u))
      go true = refl
      go false = refl

pub same-section : {A B : Type 0} (f : Format A) (g : Format B) → SameRest f g → SameRest (section f) (section g)
unfolding section many
same-section f g p t = counted32 (many f) t ∙ (go (cut_at 4 t) ∙ sym (counted32 (many g) t))
  where
    go : (o : Option (List ℕ)) → option o none (λ u. rest_of (read_all f (be32 t 0) u))
        ≡ option o none (λ u. rest_of (read_all g (be32 t 0) u))
    go none = refl
    go (some u) = same-all f g p (be32 t 0) u
