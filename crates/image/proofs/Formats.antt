-- Writing then reading, and reading then writing, for each way of putting formats together.
-- Assumes nothing.
use Prim.Native.Nat.{ℕ, zero, suc, ◌+◌, ◌*◌, ◌/◌, ◌%◌, ◌≤◌, ◌<◌}
use mathlib.Core.Path.{◌≡◌, refl, sym, ◌∙◌, ap, subst}
use mathlib.Core.Bool.{Bool, true, false, cond}
use mathlib.Core.Option.{Option, none, some}
use mathlib.Core.List.Memᴰ
use mathlib.Core.List.{List, [], ◌∷◌, ◌++◌, append_assoc, Memᴰ}
use mathlib.Core.Logic.{◌⊎◌, inl, inr}
use native.Mathlib.Omega.{arith}
use lib.Dec.{ltb, leb}
use lib.ListN.{length, take, drop, get_or, get_or-append, get_or-eq_default, length-append, length-take, length-drop, take-append-drop}
use lib.Seq.{take_at, drop_at, get_or-append-add, get_or-drop, drop-drop}
use borrow.Author.Tests.{ltb-true, ltb-false, leb-true, le-leb}
use Rattle.base.specs.Bytes.{be16, be32, be64, be16_bytes, be32_bytes, be64_bytes, Bytes}
use Rattle.base.specs.Put.{and_then}
use Rattle.base.specs.Lists.{option}
use Rattle.base.proofs.Choices.{cases}
use Rattle.base.proofs.Digits.{d32-0, d32-1, d32-2, d32-3, digits32}
use Rattle.image.specs.Format.{Got, Format, exactly, number32, number64, both, formed, write_all, read_all, many, counted}

-- The rest of bytes are bytes.
pub bytes_rest : (s u t : List ℕ) → Bytes s → s ≡ u ++ t → Bytes t
bytes_rest s u t b e i = subst (λ (x : ℕ). x < 256) (ap (λ (l : List ℕ). get_or l (length u + i) 0) e ∙ get_or-append-add u t i 0)
    (b (length u + i))

-- What a format promises: of values that fit, what is written reads back, whatever follows; and what is read fits, and was its writing.
pub record Lawful {A : Type 0} (f : Format A) (Fits : A → Type 0) : Type 0 where
  pub back : (a : A) (t : List ℕ) → Fits a → f.read (f.write a ++ t) ≡ some (record { value = a; rest = t })
  pub forth : (s : List ℕ) (a : A) (t : List ℕ) → Bytes s → f.read s ≡ some (record { value = a; rest = t }) → (s ≡ f.write a ++ t) × Fits a

-- A test that lets through, and what it lets through.
through : {A : Type 0} (b : Bool) (x y : A) → cond b (some x) none ≡ some y → (b ≡ true) × (x ≡ y)
through true x y e = (refl, cc)
through false x y e = absurd (let z : ◌≡◌ {A = ℕ} 0 1 = cc in omega arith)

pub exactly-lawful : (n : ℕ) → Lawful (exactly n) (λ b. length b ≡ n)
unfolding exactly
exactly-lawful n = record { back = back; forth = forth }
  where
    back : (b t : List ℕ) → length b ≡ n → (exactly n).read (b ++ t) ≡ some (record { value = b; rest = t })
    back b t e = rw (le-leb n (length (b ++ t)) (simp length-append (omega arith)), take_at b t n e, drop_at b t n e)

    forth : (s b t : List ℕ) → Bytes s → (exactly n).read s ≡ some (record { value = b; rest = t }) → (s ≡ b ++ t) × (length b ≡ n)
    forth s b t by e =
        let p = through (leb n (length s)) (record { value = take n s; rest = drop n s }) (record { value = b; rest = t }) e in
        let le : n ≤ length s = leb-true n (length s) p.0 in
        let q : take n s ≡ b = ap (λ (g : Got (List ℕ)). g.value) p.1 in
        let r : drop n s ≡ t = ap (λ (g : Got (List ℕ)). g.rest) p.1 in
        (sym (take-append-drop n s) ∙ cc, sym (ap length q) ∙ simp length-take (omega arith))

-- The same with bytes: what is read from bytes is bytes.
pub bytes-lawful : (n : ℕ) → Lawful (exactly n) (λ b. (length b ≡ n) × Bytes b)
unfolding exactly
bytes-lawful n = record {
  back = λ b t e. (exactly-lawful n).back b t e.0;
  forth = λ s b t by e. let a = (exactly-lawful n).forth s b t by e in (a.0, (a.1, first s b t by a.0));
}
  where
    first : (s b t : List ℕ) → Bytes s → s ≡ b ++ t → Bytes b
    first s b t by e j = cases (ltb j (length b))
        (λ y. subst (λ (x : ℕ). x < 256)
        (ap (λ (l : List ℕ). get_or l j 0) e ∙ get_or-append b t 0 j (ltb-true j (length b) y)) (by j))
        (λ y. rw (get_or-eq_default b 0 (ltb-false j (length b) y)) (omega arith))

-- ---- numbers
module _ (s : List ℕ) (by : Bytes s) where
  -- four bytes from place p on are those of the number there
  digits_of : (p : ℕ) → be32_bytes (be32 s p) ≡ get_or s p 0 ∷ get_or s (p + 1) 0 ∷ get_or s (p + 2) 0 ∷ get_or s (p + 2 + 1) 0 ∷ []
  unfolding be32_bytes be16_bytes and_then be32 be16
  digits_of p =
      let a = by p in
      let b = by (p + 1) in
      let c = by (p + 2) in
      let d = by (p + 2 + 1) in
      rw (
        d32-0 (get_or s p 0) (get_or s (p + 1) 0) (get_or s (p + 2) 0) (get_or s (p + 2 + 1) 0) a b c d,
        d32-1 (get_or s p 0) (get_or s (p + 1) 0) (get_or s (p + 2) 0) (get_or s (p + 2 + 1) 0) a b c d,
        d32-2 (get_or s p 0) (get_or s (p + 1) 0) (get_or s (p + 2) 0) (get_or s (p + 2 + 1) 0) a b c d,
        d32-3 (get_or s p 0) (get_or s (p + 1) 0) (get_or s (p + 2) 0) (get_or s (p + 2 + 1) 0) a b c d,
      )

  small32 : (p : ℕ) → be32 s p < 4294967296
  unfolding be32 be16
  small32 p = omega (arith, by p, by (p + 1), by (p + 2), by (p + 2 + 1))

four : (s : List ℕ) → 4 ≤ length s → s ≡ (get_or s 0 0 ∷ get_or s 1 0 ∷ get_or s 2 0 ∷ get_or s 3 0 ∷ []) ++ drop 4 s
four [] le = absurd (omega arith)
four (a ∷ []) le = absurd (omega arith)
four (a ∷ b ∷ []) le = absurd (omega arith)
four (a ∷ b ∷ c ∷ []) le = absurd (omega arith)
four (a ∷ b ∷ c ∷ d ∷ s) le = refl

be32-back : (x : ℕ) (t : List ℕ) → x < 4294967296 → be32 (be32_bytes x ++ t) 0 ≡ x
unfolding be32_bytes be16_bytes and_then be32 be16
be32-back x t h = digits32 x h

be32-next : (x y : ℕ) (t : List ℕ) → y < 4294967296 → be32 (be32_bytes x ++ (be32_bytes y ++ t)) 4 ≡ y
unfolding be32_bytes be16_bytes and_then be32 be16
be32-next x y t h = digits32 y h

length32 : (x : ℕ) → length (be32_bytes x) ≡ 4
unfolding be32_bytes be16_bytes and_then
length32 x = refl

pub number32-lawful : Lawful number32 (λ x. x < 4294967296)
unfolding number32
number32-lawful = record { back = back; forth = forth }
  where
    back : (x : ℕ) (t : List ℕ) → x < 4294967296 → number32.read (be32_bytes x ++ t) ≡ some (record { value = x; rest = t })
    back x t h = rw (
      le-leb 4 (length (be32_bytes x ++ t)) (let e = length32 x in simp length-append (omega arith)),
      be32-back x t h,
      drop_at (be32_bytes x) t 4 (length32 x),
    )

    forth : (s : List ℕ) (x : ℕ) (t : List ℕ) → Bytes s → number32.read s ≡ some (record { value = x; rest = t }) → (s ≡ be32_bytes x ++ t)
        × (x < 4294967296)
    forth s x t by e =
        let p = through (leb 4 (length s)) (record { value = be32 s 0; rest = drop 4 s }) (record { value = x; rest = t }) e in
        let le : 4 ≤ length s = leb-true 4 (length s) p.0 in
        let q : be32 s 0 ≡ x = ap (λ (g : Got ℕ). g.value) p.1 in
        let r : drop 4 s ≡ t = ap (λ (g : Got ℕ). g.rest) p.1 in
        let d = digits_of s by 0 in
        (four s le ∙ rw (← q, ← r, d), subst (λ (y : ℕ). y < 4294967296) q (small32 s by 0))

eight : (s : List ℕ) → 8 ≤ length s
    → s ≡ (get_or s 0 0 ∷ get_or s 1 0 ∷ get_or s 2 0 ∷ get_or s 3 0 ∷ get_or s 4 0 ∷ get_or s 5 0 ∷ get_or s 6 0 ∷ get_or s 7 0 ∷ [])
    ++ drop 8 s
eight s le = four s (omega arith) ∙ ap (λ (r : List ℕ). (get_or s 0 0 ∷ get_or s 1 0 ∷ get_or s 2 0 ∷ get_or s 3 0 ∷ []) ++ r)
    (four (drop 4 s) (simp length-drop (omega arith)) ∙ again s)
  where
    again : (s : List ℕ) → (get_or (drop 4 s) 0 0 ∷ get_or (drop 4 s) 1 0 ∷ get_or (drop 4 s) 2 0 ∷ get_or (drop 4 s) 3 0 ∷ [])
        ++ drop 4 (drop 4 s) ≡ (get_or s 4 0 ∷ get_or s 5 0 ∷ get_or s 6 0 ∷ get_or s 7 0 ∷ []) ++ drop 8 s
    again s = rw (get_or-drop 4 s 0 0, get_or-drop 4 s 1 0, get_or-drop 4 s 2 0, get_or-drop 4 s 3 0, drop-drop 4 4 s)

be64-back : (x : ℕ) (t : List ℕ) → x < 18446744073709551616 → be64 (be64_bytes x ++ t) 0 ≡ x
unfolding be64 be64_bytes and_then
be64-back x t h =
    rw (append_assoc (be32_bytes (x / 4294967296)) (be32_bytes x) t, be32-back (x / 4294967296) (be32_bytes x ++ t) (omega arith), low)
    (omega arith)
  where
    low : be32 (be32_bytes (x / 4294967296) ++ (be32_bytes x ++ t)) 4 ≡ x % 4294967296
    low = rw (digits x) (be32-next (x / 4294967296) (x % 4294967296) t (omega arith))
      where
        digits : (x : ℕ) → be32_bytes x ≡ be32_bytes (x % 4294967296)
        digits x = unfold be32_bytes be16_bytes and_then in rw (a, b, c, d)
          where
            a : x / 65536 / 256 % 256 ≡ x % 4294967296 / 65536 / 256 % 256
            a = omega arith

            b : x / 65536 % 256 ≡ x % 4294967296 / 65536 % 256
            b = omega arith

            c : x / 256 % 256 ≡ x % 4294967296 / 256 % 256
            c = omega arith

            d : x % 256 ≡ x % 4294967296 % 256
            d = omega arith

length64 : (x : ℕ) → length (be64_bytes x) ≡ 8
unfolding be64_bytes and_then
length64 x = length-append (be32_bytes (x / 4294967296)) (be32_bytes x) ∙ rw (length32 (x / 4294967296), length32 x)

be64_bytes-of : (s : List ℕ) → Bytes s
    → be64_bytes (be64 s 0) ≡ get_or s 0 0 ∷ get_or s 1 0 ∷ get_or s 2 0 ∷ get_or s 3 0 ∷ get_or s 4 0 ∷ get_or s 5 0 ∷ get_or s 6 0 ∷
    get_or s 7 0 ∷ []
unfolding be64 be64_bytes and_then
be64_bytes-of s by =
    let a = small32 s by 0 in
    let b = small32 s by 4 in
    rw (high (be32 s 0) (be32 s 4) a b, same (be32 s 0) (be32 s 4) b, digits_of s by 0, digits_of s by 4)
  where
    high : (h l : ℕ) → h < 4294967296 → l < 4294967296 → (h * 4294967296 + l) / 4294967296 ≡ h
    high h l p q = omega arith

    same : (h l : ℕ) → l < 4294967296 → be32_bytes (h * 4294967296 + l) ≡ be32_bytes l
    same h l q = unfold be32_bytes be16_bytes and_then in rw (a, b, c, d)
      where
        a : (h * 4294967296 + l) / 65536 / 256 % 256 ≡ l / 65536 / 256 % 256
        a = omega arith

        b : (h * 4294967296 + l) / 65536 % 256 ≡ l / 65536 % 256
        b = omega arith

        c : (h * 4294967296 + l) / 256 % 256 ≡ l / 256 % 256
        c = omega arith

        d : (h * 4294967296 + l) % 256 ≡ l % 256
        d = omega arith

pub number64-lawful : Lawful number64 (λ x. x < 18446744073709551616)
unfolding number64
number64-lawful = record { back = back; forth = forth }
  where
    back : (x : ℕ) (t : List ℕ) → x < 18446744073709551616 → number64.read (be64_bytes x ++ t) ≡ some (record { value = x; rest = t })
    back x t h = rw (
      le-leb 8 (length (be64_bytes x ++ t)) (let e = length64 x in simp length-append (omega arith)),
      be64-back x t h,
      drop_at (be64_bytes x) t 8 (length64 x),
    )

    forth : (s : List ℕ) (x : ℕ) (t : List ℕ) → Bytes s → number64.read s ≡ some (record { value = x; rest = t }) → (s ≡ be64_bytes x ++ t)
        × (x < 18446744073709551616)
    forth s x t by e =
        let p = through (leb 8 (length s)) (record { value = be64 s 0; rest = drop 8 s }) (record { value = x; rest = t }) e in
        let le : 8 ≤ length s = leb-true 8 (length s) p.0 in
        let q : be64 s 0 ≡ x = ap (λ (g : Got ℕ). g.value) p.1 in
        let r : drop 8 s ≡ t = ap (λ (g : Got ℕ). g.rest) p.1 in
        let d = be64_bytes-of s by in
        (eight s le ∙ rw (← q, ← r, d), subst (λ (y : ℕ). y < 18446744073709551616) q (small s by))
      where
        small : (s : List ℕ) → Bytes s → be64 s 0 < 18446744073709551616
        small s by = unfold be64 in (let a = small32 s by 0 in let b = small32 s by 4 in omega arith)

-- ---- two after each other, another form, and lists
-- what an option's later part gave
pub gave : {A B : Type 0} (o : Option A) (F : A → Option B) (b : B) → option o none F ≡ some b → (a : A) × (o ≡ some a) × (F a ≡ some b)
gave none F b e = absurd (let z : ◌≡◌ {A = ℕ} 0 1 = cc in omega arith)
gave (some a) F b e = (a, refl, e)

module _ {A B : Type 0} (f : Format A) (g : Format B) (Fa : A → Type 0) (Fb : B → Type 0) (lf : Lawful f Fa) (lg : Lawful g Fb) where
  pub both-lawful : Lawful (both f g) (λ p. Fa p.0 × Fb p.1)
  unfolding both
  both-lawful = record { back = back; forth = forth }
    where
      back : (p : A × B) (t : List ℕ) → Fa p.0 × Fb p.1 → (both f g).read ((f.write p.0 ++ g.write p.1) ++ t)
          ≡ some (record { value = p; rest = t })
      back p t h = rw (append_assoc (f.write p.0) (g.write p.1) t, lf.back p.0 (g.write p.1 ++ t) h.0, lg.back p.1 t h.1)

      forth : (s : List ℕ) (p : A × B) (t : List ℕ) → Bytes s → (both f g).read s ≡ some (record { value = p; rest = t })
          → (s ≡ (f.write p.0 ++ g.write p.1) ++ t) × (Fa p.0 × Fb p.1)
      forth s p t by e = let a = gave (f.read s) _ _ e in let b = gave (g.read a.0.rest) _ _ a.2 in go a.0 b.0 a.1 b.1 (cc b.2)
        where
          go : (a : Got A) (b : Got B) → f.read s ≡ some a → g.read a.rest ≡ some b
              → ◌≡◌ {A = Option (Got (A × B))} (some (record { value = (a.value, b.value); rest = b.rest }))
              (some (record { value = p; rest = t }))
              → (s ≡ (f.write p.0 ++ g.write p.1) ++ t) × (Fa p.0 × Fb p.1)
          go a b u v w =
              let x = lf.forth s a.value a.rest by u in
              let y = lg.forth a.rest b.value b.rest (bytes_rest s (f.write a.value) a.rest by x.0) v in
              let q : ◌≡◌ {A = Got (A × B)} (record { value = (a.value, b.value); rest = b.rest }) (record { value = p; rest = t }) = cc in
              let p0 : a.value ≡ p.0 = ap (λ (z : Got (A × B)). z.value.0) q in
              let p1 : b.value ≡ p.1 = ap (λ (z : Got (A × B)). z.value.1) q in
              let r : b.rest ≡ t = ap (λ (z : Got (A × B)). z.rest) q in
              let whole : s ≡ f.write p.0 ++ (g.write p.1 ++ t) = cc (x.0, y.0) in
              (whole ∙ sym (append_assoc (f.write p.0) (g.write p.1) t), (subst Fa p0 x.1, subst Fb p1 y.1))

module _ {A B : Type 0} (f : Format A) (Fa : A → Type 0) (lf : Lawful f Fa) where
  pub formed-lawful : (to : A → B) (from : B → A) → ((a : A) → from (to a) ≡ a) → ((b : B) → to (from b) ≡ b)
      → Lawful (formed to from f) (λ b. Fa (from b))
  unfolding formed
  formed-lawful to from there here = record { back = back; forth = forth }
    where
      back : (b : B) (t : List ℕ) → Fa (from b) → (formed to from f).read (f.write (from b) ++ t) ≡ some (record { value = b; rest = t })
      back b t h = rw (lf.back (from b) t h, here b)

      forth : (s : List ℕ) (b : B) (t : List ℕ) → Bytes s → (formed to from f).read s ≡ some (record { value = b; rest = t })
          → (s ≡ f.write (from b) ++ t) × Fa (from b)
      forth s b t by e = let a = gave (f.read s) _ _ e in go a.0 a.1 a.2
        where
          go : (a : Got A) → f.read s ≡ some a → ◌≡◌ {A = Option (Got B)} (some (record { value = to a.value; rest = a.rest }))
              (some (record { value = b; rest = t })) → (s ≡ f.write (from b) ++ t) × Fa (from b)
          go a u w =
              let x = lf.forth s a.value a.rest by u in
              let q : ◌≡◌ {A = Got B} (record { value = to a.value; rest = a.rest }) (record { value = b; rest = t }) = cc in
              let v : a.value ≡ from b = sym (there a.value) ∙ ap (λ (z : Got B). from z.value) q in
              let r : a.rest ≡ t = ap (λ (z : Got B). z.rest) q in
              (cc x.0, subst Fa v x.1)

-- Every entry fits.
abbrev pub All : {A : Type 0} → (A → Type 0) → List A → Type 0
All {A} P l = (x : A) → Memᴰ x l → P x

module _ {A : Type 0} (f : Format A) (F : A → Type 0) (lf : Lawful f F) where
  pub many-lawful : (n : ℕ) → Lawful (many f n) (λ l. (length l ≡ n) × All F l)
  unfolding many read_all write_all
  many-lawful n = record { back = λ l t h. back n l t h.0 h.1; forth = forth n }
    where
      back : (n : ℕ) (l : List A) (t : List ℕ) → length l ≡ n → All F l → read_all f n (write_all f l ++ t)
          ≡ some (record { value = l; rest = t })
      back zero [] t e h = refl
      back zero (x ∷ l) t e h = absurd (omega arith)
      back (suc n) [] t e h = absurd (omega arith)
      back (suc n) (x ∷ l) t e h = rw (
        append_assoc (f.write x) (write_all f l) t,
        lf.back x (write_all f l ++ t) (h x (Memᴰ.head refl)),
        back n l t (omega arith) (λ y m. h y (Memᴰ.tail m)),
      )

      forth : (n : ℕ) (s : List ℕ) (l : List A) (t : List ℕ) → Bytes s → read_all f n s ≡ some (record { value = l; rest = t })
          → (s ≡ write_all f l ++ t) × ((length l ≡ n) × All F l)
      forth zero s l t by e =
          let q : ◌≡◌ {A = Got (List A)} (record { value = []; rest = s }) (record { value = l; rest = t }) = cc in
          let v : [] ≡ l = ap (λ (z : Got (List A)). z.value) q in
          let r : s ≡ t = ap (λ (z : Got (List A)). z.rest) q in
          (rw (← v) r, (rw (← v), λ x m. absurd (Memᴰ.not-nil (rw (← v) at m))))
      forth (suc n) s l t by e = let a = gave (f.read s) _ _ e in let b = gave (read_all f n a.0.rest) _ _ a.2 in
          step a.0 b.0 a.1 b.1 (cc b.2) (λ s' l' t' by' e'. forth n s' l' t' by' e')
        where
          step : (a : Got A) (b : Got (List A)) → f.read s ≡ some a → read_all f n a.rest ≡ some b
              → ◌≡◌ {A = Option (Got (List A))} (some (record { value = a.value ∷ b.value; rest = b.rest }))
              (some (record { value = l; rest = t }))
              → ((s : List ℕ) (l : List A) (t : List ℕ) → Bytes s → read_all f n s ≡ some (record { value = l; rest = t })
              → (s ≡ write_all f l ++ t) × ((length l ≡ n) × All F l))
              → (s ≡ write_all f l ++ t) × ((length l ≡ suc n) × All F l)
          step a b u v w rest =
              let x = lf.forth s a.value a.rest by u in
              let y = rest a.rest b.value b.rest (bytes_rest s (f.write a.value) a.rest by x.0) v in
              let q : ◌≡◌ {A = Got (List A)} (record { value = a.value ∷ b.value; rest = b.rest }) (record { value = l; rest = t }) = cc in
              let p : a.value ∷ b.value ≡ l = ap (λ (z : Got (List A)). z.value) q in
              let r : b.rest ≡ t = ap (λ (z : Got (List A)). z.rest) q in
              let whole : s ≡ f.write a.value ++ (write_all f b.value ++ t) = cc (x.0, y.0) in (
                rw (← p) (whole ∙ sym (append_assoc (f.write a.value) (write_all f b.value) t)),
                (rw (← p) (ap suc y.1.0), λ z m. each z (Memᴰ.cases_cons (rw (← p) at m)) x.1 y.1.1),
              )
            where
              each : (z : A) → (z ≡ a.value) ⊎ Memᴰ z b.value → F a.value → All F b.value → F z
              each z (inl q) h k = subst F (sym q) h
              each z (inr m) h k = k z m

  pub counted-lawful : (c : Format ℕ) (N : ℕ → Type 0) → Lawful c N → (g : ℕ → Format (List A)) (G : ℕ → List A → Type 0)
      → ((n : ℕ) → Lawful (g n) (G n)) → ((n : ℕ) (l : List A) → G n l → length l ≡ n)
      → Lawful (counted c g) (λ l. N (length l) × G (length l) l)
  unfolding counted
  counted-lawful c N lc g G lg long = record { back = back; forth = forth }
    where
      back : (l : List A) (t : List ℕ) → N (length l) × G (length l) l
          → (counted c g).read ((c.write (length l) ++ (g (length l)).write l) ++ t) ≡ some (record { value = l; rest = t })
      back l t h = rw (append_assoc (c.write (length l)) ((g (length l)).write l) t, lc.back (length l) ((g (length l)).write l ++ t) h.0)
          ((lg (length l)).back l t h.1)

      forth : (s : List ℕ) (l : List A) (t : List ℕ) → Bytes s → (counted c g).read s ≡ some (record { value = l; rest = t })
          → (s ≡ (c.write (length l) ++ (g (length l)).write l) ++ t) × (N (length l) × G (length l) l)
      forth s l t by e = let a = gave (c.read s) _ _ e in go a.0 a.1 a.2
        where
          go : (a : Got ℕ) → c.read s ≡ some a → (g a.value).read a.rest ≡ some (record { value = l; rest = t })
              → (s ≡ (c.write (length l) ++ (g (length l)).write l) ++ t) × (N (length l) × G (length l) l)
          go a u w =
              let x = lc.forth s a.value a.rest by u in
              let y = (lg a.value).forth a.rest l t (bytes_rest s (c.write a.value) a.rest by x.0) w in
              let n : length l ≡ a.value = long a.value l y.1 in (
                rw n (x.0 ∙ (ap (λ (r : List ℕ). c.write a.value ++ r) y.0 ∙ sym (append_assoc (c.write a.value) ((g a.value).write l) t))),
                (rw n x.1, rw n y.1),
              )
