-- What is left of the stored input after an item, and where none is whole. Assumes nothing.
use Rattle.std.proofs.Common.{◌≡◌, ℕ, zero, suc, ◌-◌, ◌<◌, ◌≤◌, Bool, true, false, List, [], ◌∷◌, length}
use Rattle.std.proofs.Common.{Option, Some, None, refl, ap, ◌∙◌, arith}
use Rattle.std.specs.Bool.{then_some}
use Rattle.std.proofs.lemmas.Bool.{leb-true}
use Rattle.replay.specs.declared.stored.Item.{Item}
use Rattle.replay.specs.Items.{item_end, item_in, part_of, items_within, items_from}

then-some : {A : Type 0} (b : Bool) (x y : A) → then_some b x ≡ Some y → (b ≡ true) × (x ≡ y)
then-some true x y e = (refl, cc)
then-some false x y e = cc

-- an item has bytes, and they are there
item-in : (s : List ℕ) (at : ℕ) (i : Item) → item_in s at ≡ Some i → (at < i.end) × (i.end ≤ length s)
unfolding item_in
item-in s at i e =
    let (t, d) = then-some _ _ _ e in
    let l = leb-true _ _ t in
    let h : item_end s at ≡ i.end = ap (λ (x : Item). x.end) d in
    (omega arith, omega arith)

-- more turns than bytes give nothing more
enough : (n m : ℕ) (s : List ℕ) (at : ℕ) (o : Option Item) → item_in s at ≡ o → length s - at ≤ n → length s - at ≤ m
    → items_within n s at ≡ items_within m s at
unfolding items_within
enough zero zero s at o e a b = refl
enough zero (suc m) s at None e a b = rw e refl
enough zero (suc m) s at (Some i) e a b = let h = item-in s at i e in absurd (omega arith)
enough (suc n) zero s at None e a b = rw e refl
enough (suc n) zero s at (Some i) e a b = let h = item-in s at i e in absurd (omega arith)
enough (suc n) (suc m) s at None e a b = rw e refl
enough (suc n) (suc m) s at (Some i) e a b =
    let h = item-in s at i e in
    rw e (ap (λ l. (i.tag, part_of s i.start i.end) ∷ l) (enough n m s i.end _ refl (omega arith) (omega arith)))

pub left-after : (s : List ℕ) (at : ℕ) (i : Item) → item_in s at ≡ Some i
    → items_from s at ≡ (i.tag, part_of s i.start i.end) ∷ items_from s i.end
unfolding items_from items_within
left-after s at i e =
    let h = item-in s at i e in
    let n = length s - at in
    enough n (suc n) s at _ refl (omega arith) (omega arith)
    ∙ rw e (ap (λ l. (i.tag, part_of s i.start i.end) ∷ l) (enough n _ s i.end _ refl (omega arith) (omega arith)))

pub none-left : (s : List ℕ) (at : ℕ) → item_in s at ≡ None → items_from s at ≡ []
unfolding items_from items_within
none-left s at e = enough _ (suc (length s - at)) s at _ refl (omega arith) (omega arith) ∙ rw e refl

pub ruleset lefts = (left-after, none-left)
