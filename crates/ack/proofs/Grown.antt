-- What `grow x rs` is: a number stands alone, joins the record after it, or stands before it.
-- Assumes nothing.
use mathlib.Core.Path.{◌≡◌, sym, refl}
use mathlib.Core.List.{List, [], ◌∷◌}
use Prim.Native.Nat.{ℕ, suc}
use native.Mathlib.Decide.{ℕ_discrete}
use Rattle.base.proofs.Ifs.{eq_yes, eq_no}
use Rattle.ack.specs.declared.Record.{Record}
use Rattle.ack.specs.Records.{single, range, first_of, last_of, grow}

pub data Grown (x : ℕ) : List Record → List Record → Type 0 where
  alone : Grown x [] (single x ∷ [])
  joins : (r : Record) (rs : List Record) → first_of r ≡ suc x → Grown x (r ∷ rs) (range x (last_of r) ∷ rs)
  stands : (r : Record) (rs : List Record) → (first_of r ≡ suc x → ⊥) → Grown x (r ∷ rs) (single x ∷ r ∷ rs)

module _ (x : ℕ) (r : Record) (rs : List Record) where
  pub grow-joins : first_of r ≡ suc x → grow x (r ∷ rs) ≡ range x (last_of r) ∷ rs
  unfolding grow
  grow-joins e = sym (eq_yes _ _ _ _ _ e refl)

  pub grow-stands : (first_of r ≡ suc x → ⊥) → grow x (r ∷ rs) ≡ single x ∷ r ∷ rs
  unfolding grow
  grow-stands n = sym (eq_no _ _ _ _ _ n refl)

pub grown : (x : ℕ) (rs : List Record) → Grown x rs (grow x rs)
unfolding grow
grown x [] = alone
grown x (r ∷ rs) = by (ℕ_discrete (first_of r) (suc x))
  where
    by : Dec (first_of r ≡ suc x) → Grown x (r ∷ rs) (grow x (r ∷ rs))
    by (yes e) = rw (grow-joins x r rs e) (joins r rs e)
    by (no n) = rw (grow-stands x r rs n) (stands r rs n)
