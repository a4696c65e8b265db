-- What a format does not read is the bytes of a value cut short: format by format, as Formats.
-- Assumes nothing.
use Prim.Native.Nat.{ℕ, zero, suc, ◌+◌, ◌-◌, ◌≤◌, ◌<◌}
use mathlib.Core.Path.{◌≡◌, refl, sym, ◌∙◌, ap, subst}
use mathlib.Core.Bool.{Bool, true, false, cond}
use mathlib.Core.Option.{Option, none, some}
use mathlib.Core.Logic.{◌⊎◌, inl, inr}
use mathlib.Core.List.Memᴰ
use mathlib.Core.List.{List, [], ◌∷◌, ◌++◌, append_assoc, append-nil, Memᴰ}
use native.Mathlib.Omega.{arith}
use lib.Dec.{ltb, leb}
use lib.ListN.{length, take, drop, get_or, get_or-append, get_or-eq_default, length-append, length-drop, length-replicate, get_or-replicate}
use lib.ListN.{replicate}
use lib.Seq.{get_or-append-add}
use borrow.Author.Tests.{ltb-true, ltb-false, leb-false, le-leb}
use Rattle.base.specs.Bytes.{be32, be64, be16_bytes, be32_bytes, be64_bytes, Bytes}
use Rattle.base.specs.Put.{and_then}
use Rattle.base.specs.Lists.{option}
use Rattle.base.proofs.Choices.{cases, case_option}
use Rattle.base.proofs.Lists.{mem-replicate}
use Rattle.image.specs.Format.{Got, Format, exactly, number32, number64, both, formed, write_all, read_all, many, counted}
use Rattle.image.proofs.Formats.{Lawful, All, bytes_rest, exactly-lawful, bytes-lawful, number32-lawful, number64-lawful}

-- The bytes of a value that fits, cut short: some of its bytes are missing at the end.
pub record Cut {A : Type 0} (f : Format A) (Fits : A → Type 0) (s : List ℕ) : Type 0 where
  pub value : A
  pub fits : Fits value
  pub more : List ℕ
  pub more-bytes : Bytes more
  pub some-more : 1 ≤ length more
  pub bytes : s ++ more ≡ f.write value

-- What a format promises of bytes that it does not read; and a value that fits, to stand after a cut.
pub record Cuts {A : Type 0} (f : Format A) (Fits : A → Type 0) : Type 0 where
  pub filler : A
  pub filler-fits : Fits filler
  pub filler-bytes : Bytes (f.write filler)
  pub cut : (s : List ℕ) → Bytes s → f.read s ≡ none → Cut f Fits s

no_bytes : (l : List ℕ) → length l ≡ 0 → l ≡ []
no_bytes [] e = refl
no_bytes (x ∷ l) e = absurd (omega arith)

-- zeros are bytes;
zero-at : (m i : ℕ) → ◌≡◌ {A = ℕ} (get_or (replicate m 0) i 0) 0
zero-at m i = cases (ltb i m)
    (λ y. get_or-replicate m i 0 0 (ltb-true i m y))
    (λ y. get_or-eq_default (replicate m 0) 0 (let a = ltb-false i m y in let b = length-replicate {A = ℕ} m 0 in omega arith))

pub zeros-bytes : (m : ℕ) → Bytes (replicate m 0)
zeros-bytes m i = rw (zero-at m i) (omega arith)

-- and bytes after bytes
bytes-after : (s t : List ℕ) → Bytes s → Bytes t → Bytes (s ++ t)
bytes-after s t by bt i = cases (ltb i (length s))
    (λ y. subst (λ (x : ℕ). x < 256) (sym (get_or-append s t 0 i (ltb-true i (length s) y))) (by i))
    (λ y. let le = ltb-false i (length s) y in
    subst (λ (j : ℕ). get_or (s ++ t) j 0 < 256) (last i le)
    (subst (λ (x : ℕ). x < 256) (sym (get_or-append-add s t (i - length s) 0)) (bt (i - length s))))
  where
    last : (i : ℕ) → length s ≤ i → length s + (i - length s) ≡ i
    last i le = omega arith

-- 0 as a number's bytes
pub zero32-bytes : Bytes (number32.write 0)
unfolding number32 be32_bytes be16_bytes and_then
zero32-bytes = zeros-bytes 4

pub zero64-bytes : Bytes (number64.write 0)
unfolding number64 be64_bytes be32_bytes be16_bytes and_then
zero64-bytes = zeros-bytes 8

-- ---- formats of one length: n bytes or more are read, and of fewer none
module _ {A : Type 0} (f : Format A) (Fits : A → Type 0) (lf : Lawful f Fits) (n : ℕ)
    (reads : (s : List ℕ) → n ≤ length s → (a : A) × (f.read s ≡ some (record { value = a; rest = drop n s })))
    (few : (s : List ℕ) → f.read s ≡ none → length s < n) where
  -- with zeros for what is missing
  filled : (s : List ℕ) → Bytes s → length s ≤ n → (a : A) × Fits a × (s ++ replicate (n - length s) 0 ≡ f.write a)
  filled s by le =
      let u = s ++ replicate (n - length s) 0 in
      let len : length u ≡ n = length-append s (replicate (n - length s) 0)
      ∙ (let a = length-replicate {A = ℕ} (n - length s) 0 in omega arith) in
      let r = reads u (omega arith) in
      let x = lf.forth u r.0 (drop n u) (bytes-after s (replicate (n - length s) 0) by (zeros-bytes (n - length s))) r.1 in
      let z = no_bytes (drop n u) (length-drop n u ∙ omega arith) in
      (r.0, x.1, x.0 ∙ (ap (λ (l : List ℕ). f.write r.0 ++ l) z ∙ append-nil (f.write r.0)))

  long-cuts : Cuts f Fits
  long-cuts = record { filler = none-there.0; filler-fits = none-there.1; filler-bytes = none-there.2; cut = cut }
    where
      none-there : (a : A) × Fits a × Bytes (f.write a)
      none-there = let z = filled [] (λ i. omega arith) (omega arith) in (z.0, z.1, subst Bytes z.2 (zeros-bytes (n - 0)))

      cut : (s : List ℕ) → Bytes s → f.read s ≡ none → Cut f Fits s
      cut s by e =
          let lt = few s e in
          let a = filled s by (omega arith) in
          record {
            value = a.0;
            fits = a.1;
            more = replicate (n - length s) 0;
            more-bytes = zeros-bytes (n - length s);
            some-more = let b = length-replicate {A = ℕ} (n - length s) 0 in omega arith;
            bytes = a.2;
          }

-- a test that stops
stopped : {A : Type 0} (b : Bool) (x : A) → cond b (some x) none ≡ none → b ≡ false
stopped true x e = absurd (let z : ◌≡◌ {A = ℕ} 0 1 = cc in omega arith)
stopped false x e = refl

fewer : {A : Type 0} (n : ℕ) (s : List ℕ) (x : A) → cond (leb n (length s)) (some x) none ≡ none → length s < n
fewer n s x e = leb-false n (length s) (stopped (leb n (length s)) x e)

pub exactly-cuts : (n : ℕ) → Cuts (exactly n) (λ b. length b ≡ n)
unfolding exactly
exactly-cuts n = long-cuts (exactly n) (λ b. length b ≡ n) (exactly-lawful n) n (λ s le. (take n s, rw (le-leb n (length s) le) refl))
    (λ s e. fewer n s _ e)

pub bytes-cuts : (n : ℕ) → Cuts (exactly n) (λ b. (length b ≡ n) × Bytes b)
unfolding exactly
bytes-cuts n = long-cuts (exactly n) (λ b. (length b ≡ n) × Bytes b) (bytes-lawful n) n
    (λ s le. (take n s, rw (le-leb n (length s) le) refl)) (λ s e. fewer n s _ e)

pub number32-cuts : Cuts number32 (λ x. x < 4294967296)
unfolding number32
number32-cuts = long-cuts number32 (λ x. x < 4294967296) number32-lawful 4 (λ s le. (be32 s 0, rw (le-leb 4 (length s) le) refl))
    (λ s e. fewer 4 s _ e)

pub number64-cuts : Cuts number64 (λ x. x < 18446744073709551616)
unfolding number64
number64-cuts = long-cuts number64 (λ x. x < 18446744073709551616) number64-lawful 8 (λ s le. (be64 s 0, rw (le-leb 8 (length s) le) refl))
    (λ s e. fewer 8 s _ e)

-- ---- two after each other, another form, and lists
-- Where the first part gave a, the second gave none.
module _ {A B : Type 0} where
  second-none : (o : Option A) (F : A → Option B) (a : A) → o ≡ some a → option o none F ≡ none → F a ≡ none
  second-none o F a u e = rw u at e

  last-none : (o : Option A) (h : A → B) → option o none (λ a. some (h a)) ≡ none → o ≡ none
  last-none none h e = refl
  last-none (some a) h e = absurd (let z : ◌≡◌ {A = ℕ} 0 1 = cc in omega arith)

-- after a cut, any bytes; before bytes cut, any others
longer : (s m w u : List ℕ) → s ++ m ≡ u → s ++ (m ++ w) ≡ u ++ w
longer s m w u e = sym (append_assoc s m w) ∙ ap (λ (l : List ℕ). l ++ w) e

after : (s w r m u : List ℕ) → s ≡ w ++ r → r ++ m ≡ u → s ++ m ≡ w ++ u
after s w r m u p q = ap (λ (l : List ℕ). l ++ m) p ∙ (append_assoc w r m ∙ ap (λ (l : List ℕ). w ++ l) q)

more-still : (m w : List ℕ) → 1 ≤ length m → 1 ≤ length (m ++ w)
more-still m w le = let a = length-append m w in omega arith

module _ {A B : Type 0} (f : Format A) (g : Format B) (Fa : A → Type 0) (Fb : B → Type 0) (lf : Lawful f Fa) (cf : Cuts f Fa)
    (cg : Cuts g Fb) where
  pub both-cuts : Cuts (both f g) (λ p. Fa p.0 × Fb p.1)
  unfolding both
  both-cuts = record {
    filler = (cf.filler, cg.filler);
    filler-fits = (cf.filler-fits, cg.filler-fits);
    filler-bytes = bytes-after (f.write cf.filler) (g.write cg.filler) cf.filler-bytes cg.filler-bytes;
    cut = cut;
  }
    where
      cut : (s : List ℕ) → Bytes s → (both f g).read s ≡ none → Cut (both f g) (λ p. Fa p.0 × Fb p.1) s
      cut s by e = case_option (f.read s) (λ u. first (cf.cut s by u)) (λ a u. second a u (last-none _ _ (second-none (f.read s) _ a u e)))
        where
          first : Cut f Fa s → Cut (both f g) (λ p. Fa p.0 × Fb p.1) s
          first c = record {
            value = (c.value, cg.filler);
            fits = (c.fits, cg.filler-fits);
            more = c.more ++ g.write cg.filler;
            more-bytes = bytes-after c.more (g.write cg.filler) c.more-bytes cg.filler-bytes;
            some-more = more-still c.more (g.write cg.filler) c.some-more;
            bytes = longer s c.more (g.write cg.filler) (f.write c.value) c.bytes;
          }

          second : (a : Got A) → f.read s ≡ some a → g.read a.rest ≡ none → Cut (both f g) (λ p. Fa p.0 × Fb p.1) s
          second a u v =
              let x = lf.forth s a.value a.rest by u in
              let c = cg.cut a.rest (bytes_rest s (f.write a.value) a.rest by x.0) v in
              record {
                value = (a.value, c.value);
                fits = (x.1, c.fits);
                more = c.more;
                more-bytes = c.more-bytes;
                some-more = c.some-more;
                bytes = after s (f.write a.value) a.rest c.more (g.write c.value) x.0 c.bytes;
              }

module _ {A B : Type 0} (f : Format A) (Fa : A → Type 0) (cf : Cuts f Fa) where
  pub formed-cuts : (to : A → B) (from : B → A) → ((a : A) → from (to a) ≡ a) → Cuts (formed to from f) (λ b. Fa (from b))
  unfolding formed
  formed-cuts to from there = record {
    filler = to cf.filler;
    filler-fits = subst Fa (sym (there cf.filler)) cf.filler-fits;
    filler-bytes = subst (λ (a : A). Bytes (f.write a)) (sym (there cf.filler)) cf.filler-bytes;
    cut = λ s by e. let c = cf.cut s by (last-none (f.read s) _ e) in record {
      value = to c.value;
      fits = subst Fa (sym (there c.value)) c.fits;
      more = c.more;
      more-bytes = c.more-bytes;
      some-more = c.some-more;
      bytes = c.bytes ∙ ap f.write (sym (there c.value));
    };
  }

module _ {A : Type 0} (f : Format A) (F : A → Type 0) (lf : Lawful f F) (cf : Cuts f F) where
  fillers : (n : ℕ) → (length (replicate n cf.filler) ≡ n) × All F (replicate n cf.filler)
  fillers n = (length-replicate n cf.filler, λ x m. subst F (sym (mem-replicate cf.filler x n m)) cf.filler-fits)

  fillers-bytes : (n : ℕ) → Bytes (write_all f (replicate n cf.filler))
  unfolding write_all
  fillers-bytes zero = zeros-bytes 0
  fillers-bytes (suc n) = bytes-after (f.write cf.filler) (write_all f (replicate n cf.filler)) cf.filler-bytes (fillers-bytes n)

  pub many-cuts : (n : ℕ) → Cuts (many f n) (λ l. (length l ≡ n) × All F l)
  unfolding many read_all write_all
  many-cuts n = record { filler = replicate n cf.filler; filler-fits = fillers n; filler-bytes = fillers-bytes n; cut = cut n }
    where
      both-fit : (a : A) (l : List A) (n : ℕ) → F a → (length l ≡ n) × All F l → (length (a ∷ l) ≡ suc n) × All F (a ∷ l)
      both-fit a l n h k = (ap suc k.0, λ x m. each x (Memᴰ.cases_cons m))
        where
          each : (x : A) → (x ≡ a) ⊎ Memᴰ x l → F x
          each x (inl q) = subst F (sym q) h
          each x (inr m) = k.1 x m

      cut : (n : ℕ) (s : List ℕ) → Bytes s → read_all f n s ≡ none → Cut (many f n) (λ l. (length l ≡ n) × All F l) s
      cut zero s by e = absurd (let z : ◌≡◌ {A = ℕ} 0 1 = cc in omega arith)
      cut (suc n) s by e = case_option (f.read s) (λ u. first (cf.cut s by u))
          (λ a u. second a u (λ y. cut n a.rest y (last-none _ _ (second-none (f.read s) _ a u e))))
        where
          first : Cut f F s → Cut (many f (suc n)) (λ l. (length l ≡ suc n) × All F l) s
          first c = record {
            value = c.value ∷ replicate n cf.filler;
            fits = both-fit c.value (replicate n cf.filler) n c.fits (fillers n);
            more = c.more ++ write_all f (replicate n cf.filler);
            more-bytes = bytes-after c.more (write_all f (replicate n cf.filler)) c.more-bytes (fillers-bytes n);
            some-more = more-still c.more (write_all f (replicate n cf.filler)) c.some-more;
            bytes = longer s c.more (write_all f (replicate n cf.filler)) (f.write c.value) c.bytes;
          }

          second : (a : Got A) → f.read s ≡ some a → (Bytes a.rest → Cut (many f n) (λ l. (length l ≡ n) × All F l) a.rest)
              → Cut (many f (suc n)) (λ l. (length l ≡ suc n) × All F l) s
          second a u rest =
              let x = lf.forth s a.value a.rest by u in
              let c = rest (bytes_rest s (f.write a.value) a.rest by x.0) in
              record {
                value = a.value ∷ c.value;
                fits = both-fit a.value c.value n x.1 c.fits;
                more = c.more;
                more-bytes = c.more-bytes;
                some-more = c.some-more;
                bytes = after s (f.write a.value) a.rest c.more (write_all f c.value) x.0 c.bytes;
              }

module _ {A : Type 0} (c : Format ℕ) (N : ℕ → Type 0) (lc : Lawful c N) (kc : Cuts c N) (g : ℕ → Format (List A)) (G : ℕ → List A → Type 0)
    (cg : (n : ℕ) → Cuts (g n) (G n)) (long : (n : ℕ) (l : List A) → G n l → length l ≡ n) where
  -- a list of n entries fits
  of-length : (n : ℕ) (l : List A) → N n → G n l → N (length l) × G (length l) l
  of-length n l h k = let e = long n l k in (subst N (sym e) h, subst (λ (m : ℕ). G m l) (sym e) k)

  written : (n : ℕ) (l : List A) → G n l → c.write n ++ (g n).write l ≡ c.write (length l) ++ (g (length l)).write l
  written n l k = ap (λ (m : ℕ). c.write m ++ (g m).write l) (sym (long n l k))

  pub counted-cuts : N 0 → Bytes (c.write 0) → Cuts (counted c g) (λ l. N (length l) × G (length l) l)
  unfolding counted
  counted-cuts h bz = record {
    filler = (cg 0).filler;
    filler-fits = of-length 0 (cg 0).filler h (cg 0).filler-fits;
    filler-bytes = subst Bytes (written 0 (cg 0).filler (cg 0).filler-fits)
        (bytes-after (c.write 0) ((g 0).write (cg 0).filler) bz (cg 0).filler-bytes);
    cut = cut;
  }
    where
      cut : (s : List ℕ) → Bytes s → (counted c g).read s ≡ none → Cut (counted c g) (λ l. N (length l) × G (length l) l) s
      cut s by e = case_option (c.read s) (λ u. first (kc.cut s by u)) (λ k u. second k u (second-none (c.read s) _ k u e))
        where
          first : Cut c N s → Cut (counted c g) (λ l. N (length l) × G (length l) l) s
          first k =
              let l = (cg k.value).filler in
              let w = (g k.value).write l in
              record {
                value = l;
                fits = of-length k.value l k.fits (cg k.value).filler-fits;
                more = k.more ++ w;
                more-bytes = bytes-after k.more w k.more-bytes (cg k.value).filler-bytes;
                some-more = more-still k.more w k.some-more;
                bytes = longer s k.more w (c.write k.value) k.bytes ∙ written k.value l (cg k.value).filler-fits;
              }

          second : (k : Got ℕ) → c.read s ≡ some k → (g k.value).read k.rest ≡ none
              → Cut (counted c g) (λ l. N (length l) × G (length l) l) s
          second k u v =
              let x = lc.forth s k.value k.rest by u in
              let d = (cg k.value).cut k.rest (bytes_rest s (c.write k.value) k.rest by x.0) v in
              record {
                value = d.value;
                fits = of-length k.value d.value x.1 d.fits;
                more = d.more;
                more-bytes = d.more-bytes;
                some-more = d.some-more;
                bytes = after s (c.write k.value) k.rest d.more ((g k.value).write d.value) x.0 d.bytes ∙ written k.value d.value d.fits;
              }
