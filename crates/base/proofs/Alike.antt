-- Lists with the same elements, in whatever order.
-- Assumes nothing.
use mathlib.Core.Path.{◌≡◌, refl, sym, ◌∙◌}
use mathlib.Core.Bool.{Bool, true}
use mathlib.Core.Option.{Option, none, some}
use mathlib.Core.List.{List, ◌∷◌, Memᴰ}
use Rattle.base.specs.Lists.{find, any, without}
use Rattle.base.proofs.Choices.{cases, neither}
use Rattle.base.proofs.Lists.{find-some, find_none, any-true, any_false, without-mem, mem-without}

module _ {A : Type 0} where
  -- The same elements.
  pub record Alike (l l' : List A) : Type 0 where
    pub there : (x : A) → Memᴰ x l → Memᴰ x l'
    pub back : (x : A) → Memᴰ x l' → Memᴰ x l

  pub any-alike : (p : A → Bool) (l l' : List A) → Alike l l' → any p l ≡ any p l'
  any-alike p l l' s = cases (any p l)
      (λ t. let a = any-true p l t in t ∙ sym (cases (any p l') (λ u. u)
      (λ u. neither (p a.0) a.2 (any_false p l' u a.0 (s.there _ a.1)))))
      (λ t. t ∙ sym (cases (any p l') (λ u. let a = any-true p l' u in
      neither (p a.0) a.2 (any_false p l t a.0 (s.back _ a.1))) (λ u. u)))

  pub without-alike : (p : A → Bool) (l l' : List A) → Alike l l' → Alike (without p l) (without p l')
  without-alike p l l' s = record {
    there = λ x i. let w = without-mem p l x i in mem-without p l' x (s.there x w.0) w.1;
    back = λ x i. let w = without-mem p l' x i in mem-without p l x (s.back x w.0) w.1;
  }

  pub cons-alike : (a : A) (l l' : List A) → Alike l l' → Alike (a ∷ l) (a ∷ l')
  cons-alike a l l' s = record { there = λ x i. up s.there x i; back = λ x i. up s.back x i }
    where
      up : {k k' : List A} → ((x : A) → Memᴰ x k → Memᴰ x k') → (x : A) → Memᴰ x (a ∷ k) → Memᴰ x (a ∷ k')
      up h x (Memᴰ.head e) = Memᴰ.head e
      up h x (Memᴰ.tail i) = Memᴰ.tail (h x i)

  -- A test that no two elements pass finds the same.
  pub find-alike : (p : A → Bool) (l l' : List A) → Alike l l' → ((x y : A) → Memᴰ x l → Memᴰ y l → p x ≡ true → p y ≡ true → x
      ≡ y) → find p l ≡ find p l'
  find-alike p l l' s one = go (find p l) refl (find p l') refl
    where
      go : (o : Option A) → find p l ≡ o → (o' : Option A) → find p l' ≡ o' → find p l ≡ find p l'
      go none e none e' = e ∙ sym e'
      go none e (some y) e' = let w = find-some p l' e' in neither (p y) w.1 (find_none p l e y (s.back y w.0))
      go (some x) e none e' = let w = find-some p l e in neither (p x) w.1 (find_none p l' e' x (s.there x w.0))
      go (some x) e (some y) e' =
          let w = find-some p l e in
          let w' = find-some p l' e' in
          let q : x ≡ y = one x y w.0 (s.back y w'.0) w.1 w'.1 in
          cc
