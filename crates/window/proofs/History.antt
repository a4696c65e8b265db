-- Inserts one after another: the accepted numbers are exactly those that were answered with no refusal.
-- Assumes nothing.
use mathlib.Core.Path.{◌≡◌, ◌∙◌, sym}
use mathlib.Core.Bool.{true, true≢false, ◌||◌, or-true}
use mathlib.Core.Logic.{◌↔◌, ◌⊎◌, inl, inr}
use mathlib.Core.List.Memᴰ
use mathlib.Core.List.{List, [], ◌∷◌, Memᴰ}
use Prim.Native.Nat.{ℕ, ◌<◌}
use native.Mathlib.Decide.{ℕ_discrete}
use lib.Dec.{eqb}
use Rattle.base.specs.If.{if_true}
use Rattle.window.specs.Window.{new_window, accepted, accept, Insertion, insert_of}
use Rattle.window.specs.Proper.{Sized}
use Rattle.window.specs.History.{insert_all, is_given, answered_accepted}
use Rattle.window.specs.declared.ReliableWindow.{ReliableWindow}
use Rattle.window.proofs.Inserts.{is-n, not-n, insert-ways, accept-accepts}
use Rattle.window.proofs.Laws.{low_first, insert-sized, new-accepts-none, new-proper}

-- one insert more: m is in the rest or accepted after the insert, exactly where it is answered now or in the rest, or was accepted before
one_more : (w : ReliableWindow) (n m : ℕ) (rest : List ℕ) → Sized w
    → Memᴰ m rest ⊎ (accepted (insert_of w n).window m ≡ true)
    ↔ Memᴰ m (if_true (is_given (insert_of w n).answer) (n ∷ rest) rest) ⊎ (accepted w m ≡ true)
unfolding if_true
one_more w n m rest s =
    insert-ways w n
    (λ (r : Insertion). Memᴰ m rest ⊎ (accepted r.window m ≡ true) ↔ Memᴰ m (if_true (is_given r.answer) (n ∷ rest) rest) ⊎
    (accepted w m ≡ true))
    (λ h. (λ x. x, λ x. x))
    (λ h t. (λ x. x, λ x. x))
    (λ h t b. (λ x. x, λ x. x))
    (λ h t b. (there (accept-accepts w n m s t b) (ℕ_discrete m n), back (accept-accepts w n m s t b)))
  where
    there : accepted (accept w n) m ≡ (eqb m n || accepted w m) → Dec (m ≡ n)
        → Memᴰ m rest ⊎ (accepted (accept w n) m ≡ true) → Memᴰ m (n ∷ rest) ⊎ (accepted w m ≡ true)
    there a d (inl i) = inl (Memᴰ.tail i)
    there a (yes e) (inr x) = inl (Memᴰ.head e)
    there a (no d) (inr x) = inr (sym (not-n m n (accepted w m) d) ∙ sym a ∙ x)

    now : accepted (accept w n) m ≡ (eqb m n || accepted w m) → (m ≡ n) ⊎ Memᴰ m rest
        → Memᴰ m rest ⊎ (accepted (accept w n) m ≡ true)
    now a (inl e) = inr (a ∙ is-n m n (accepted w m) e)
    now a (inr i) = inl i

    back : accepted (accept w n) m ≡ (eqb m n || accepted w m)
        → Memᴰ m (n ∷ rest) ⊎ (accepted w m ≡ true) → Memᴰ m rest ⊎ (accepted (accept w n) m ≡ true)
    back a (inl i) = now a (Memᴰ.cases_cons i)
    back a (inr t) = inr (a ∙ rw t (or-true (eqb m n)))

all-accepted : (ns : List ℕ) (w : ReliableWindow) (m : ℕ) → Sized w
    → accepted (insert_all w ns) m ≡ true ↔ Memᴰ m (answered_accepted w ns) ⊎ (accepted w m ≡ true)
unfolding insert_all answered_accepted
all-accepted [] w m s = (inr, only)
  where
    only : Memᴰ m [] ⊎ (accepted w m ≡ true) → accepted w m ≡ true
    only (inl i) = absurd (Memᴰ.not-nil i)
    only (inr t) = t
all-accepted (n ∷ ns) w m s =
    let v : ReliableWindow = (insert_of w n).window in
    let rest = all-accepted ns v m (insert-sized w n s) in
    let one = one_more w n m (answered_accepted v ns) s in
    (λ t. one.0 (rest.0 t), λ t. rest.1 (one.1 t))

-- after inserts from new, the accepted numbers are exactly those that were answered with no refusal
pub accepted-answered : (ns : List ℕ) (m : ℕ) → accepted (insert_all new_window ns) m ≡ true ↔ Memᴰ m (answered_accepted new_window ns)
accepted-answered ns m = (λ t. only (all.0 t), λ i. all.1 (inl i))
  where
    all : accepted (insert_all new_window ns) m ≡ true ↔ Memᴰ m (answered_accepted new_window ns) ⊎ (accepted new_window m ≡ true)
    all = all-accepted ns new_window m new-proper.sized

    only : Memᴰ m (answered_accepted new_window ns) ⊎ (accepted new_window m ≡ true) → Memᴰ m (answered_accepted new_window ns)
    only (inl i) = i
    only (inr t) = absurd (true≢false (sym t ∙ new-accepts-none m))

-- low is not among those answered so
pub low-not-answered : (ns : List ℕ) → Memᴰ (insert_all new_window ns).low (answered_accepted new_window ns) → ⊥
low-not-answered ns i =
    let w : ReliableWindow = insert_all new_window ns in
    true≢false (sym ((accepted-answered ns w.low).1 i) ∙ (low_first w).0)

-- every number below low is among them
pub below-low-answered : (ns : List ℕ) (m : ℕ) → m < (insert_all new_window ns).low → Memᴰ m (answered_accepted new_window ns)
below-low-answered ns m h = (accepted-answered ns m).0 ((low_first (insert_all new_window ns)).1 m h)
