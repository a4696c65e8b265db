-- Step 3's joins.
-- Assumes nothing.
use Prim.Native.Nat.{ℕ, zero, suc, ◌<◌}
use mathlib.Core.Path.{◌≡◌, refl, sym, ◌∙◌}
use mathlib.Core.Bool.{Bool, true}
use mathlib.Core.Option.{Option, none, some}
use mathlib.Core.List.{List, [], ◌∷◌, ◌++◌, Memᴰ}
use native.Mathlib.Omega.{arith}
use lib.Dec.{eqb}
use borrow.Author.Tests.{eqb-true, eqb-false}
use Rattle.base.specs.Lists.{option, find, without}
use Rattle.base.proofs.Choices.{cases, case_option, neither}
use Rattle.base.proofs.Lists.{find-some, find_none, find-without, without-mem}
use Rattle.bare.specs.Frame.{Frame, Piece, piece_of}
use Rattle.bare.specs.Bare.{is_piece_at, has_id, joined}
use Rattle.bare.specs.Book.{Of, Joins}
use Rattle.bare.proofs.Tests.{is_piece-true, is_piece-there, is_piece-other, has_id-true, index_of, body_of}

-- A join looks at its own id's pieces only.
pub joined_same : (l l' : List Piece) (id n : ℕ) → ((i : ℕ) → find (is_piece_at id i) l ≡ find (is_piece_at id i) l') → joined l id n
    ≡ joined l' id n
unfolding joined
joined_same l l' id zero h = refl
joined_same l l' id (suc n) h = rw (joined_same l l' id n h, h n)

pub joined-skip : (f : Piece) (l : List Piece) (id n : ℕ) → (f.id ≡ id → ⊥) → joined (f ∷ l) id n ≡ joined l id n
unfolding find
joined-skip f l id n h = joined_same (f ∷ l) l id n (λ i. rw (is_piece-other id i f h))

pub joined-without : (c : ℕ) (l : List Piece) (id n : ℕ) → (id ≡ c → ⊥) → joined (without (has_id c) l) id n ≡ joined l id n
joined-without c l id n h = joined_same _ l id n
    (λ i. find-without _ _ l (λ g m e. is_piece-other id i g (λ q. h (sym q ∙ has_id-true c g e))))

-- What a join is made of.
pub joined-piece : (l : List Piece) (id n : ℕ) (body : List ℕ) → joined l id n ≡ some body → (i : ℕ) → i < n → (g : Piece) × Memᴰ g l
    × (g.id ≡ id) × (g.index ≡ i)
unfolding joined
joined-piece l id zero body e i lt = absurd (omega arith)
joined-piece l id (suc n) body e i lt = go (joined l id n) refl (find (is_piece_at id n) l) refl e
    (λ b e' lt'. joined-piece l id n b e' i lt')
  where
    go : (o : Option (List ℕ)) → joined l id n ≡ o → (p : Option Piece) → find (is_piece_at id n) l ≡ p
        → option o none (λ front. option p none (λ g. some (front ++ g.body))) ≡ some body
        → ((b : List ℕ) → joined l id n ≡ some b → i < n → (g : Piece) × Memᴰ g l × (g.id ≡ id) × (g.index ≡ i))
        → (g : Piece) × Memᴰ g l × (g.id ≡ id) × (g.index ≡ i)
    go none q p r e rest = absurd (let z : ◌≡◌ {A = ℕ} 0 1 = cc in omega arith)
    go (some b) q none r e rest = absurd (let z : ◌≡◌ {A = ℕ} 0 1 = cc in omega arith)
    go (some b) q (some g) r e rest = cases (eqb i n)
        (λ t. let f = find-some _ _ r in let a = is_piece-true _ _ g f.1 in (g, f.0, a.0, a.1 ∙ sym (eqb-true _ _ t)))
        (λ t. let ne : i ≡ n → ⊥ = eqb-false _ _ t in rest b q (omega arith))

pub joined-joins : (B : Frame → Type 0) (c o : ℕ) (l : List Piece) (id : ℕ) → ((g : Piece) → Memᴰ g l → g.id ≡ id → (f : Frame) × B f
    × Of c o f × (f.piece ≡ true) × (piece_of f ≡ g))
    → (n : ℕ) (body : List ℕ) → joined l id n ≡ some body → Joins B c o n body
unfolding joined
joined-joins B c o l id h zero body e = let q : body ≡ [] = cc in q
joined-joins B c o l id h (suc n) body e = go (joined l id n) refl (find (is_piece_at id n) l) refl e
    (λ b e'. joined-joins B c o l id h n b e')
  where
    go : (j : Option (List ℕ)) → joined l id n ≡ j → (p : Option Piece) → find (is_piece_at id n) l ≡ p
        → option j none (λ front. option p none (λ g. some (front ++ g.body))) ≡ some body
        → ((b : List ℕ) → joined l id n ≡ some b → Joins B c o n b) → Joins B c o (suc n) body
    go none q p r e rest = absurd (let z : ◌≡◌ {A = ℕ} 0 1 = cc in omega arith)
    go (some b) q none r e rest = absurd (let z : ◌≡◌ {A = ℕ} 0 1 = cc in omega arith)
    go (some b) q (some g) r e rest =
        let f = find-some _ _ r in
        let a = is_piece-true _ _ g f.1 in
        let k = h g f.0 a.0 in
        (b, k.0, rest b q, k.1, k.2, k.3, index_of k.0 g k.4 ∙ a.1, (cc (body_of k.0 g k.4)))

-- A join whose pieces are all there is made.
pub joined-there : (l : List Piece) (id n : ℕ) → ((i : ℕ) → i < n → (g : Piece) × Memᴰ g l × (g.id ≡ id) × (g.index ≡ i))
    → joined l id n ≡ none → ⊥
unfolding joined
joined-there l id zero h e = let z : ◌≡◌ {A = ℕ} 0 1 = cc in omega arith
joined-there l id (suc n) h e = go (joined l id n) refl (find (is_piece_at id n) l) refl e (joined-there l id n (λ i lt. h i (omega arith)))
  where
    go : (j : Option (List ℕ)) → joined l id n ≡ j → (p : Option Piece) → find (is_piece_at id n) l ≡ p → ◌≡◌ {A = Option (List ℕ)}
        (option j none (λ front. option p none (λ g. some (front ++ g.body)))) none
        → (joined l id n ≡ none → ⊥) → ⊥
    go none q p r e rest = rest q
    go (some b) q none r e rest = let k = h n (omega arith) in neither (is_piece_at id n k.0) (is_piece-there id n k.0 k.2 k.3)
        (find_none _ _ r k.0 k.1)
    go (some b) q (some g) r e rest = let z : ◌≡◌ {A = ℕ} 0 1 = cc in omega arith

-- Fewer pieces make no join that lacked one.
pub joined-fewer : (p : Piece → Bool) (l : List Piece) (id n : ℕ) → joined l id n ≡ none → joined (without p l) id n ≡ none
joined-fewer p l id n e = case_option (joined (without p l) id n) (λ t. t) (λ body t. absurd (joined-there l id n
    (λ i lt. let k = joined-piece (without p l) id n body t i lt in (k.0, (without-mem p l k.0 k.1).0, k.2, k.3)) e))
