-- A list whose first elements are made, one after the other, of those of another as long.
-- Assumes nothing.
use Prim.Native.Nat.{ℕ, suc, ◌+◌, ◌<◌, ◌≤◌}
use mathlib.Core.Path.{◌≡◌, ◌∙◌}
use mathlib.Core.List.{List, ◌++◌, map, append-nil}
use native.Mathlib.Numerals.{add-one}
use native.Mathlib.Omega.{arith}
use lib.ListN.{length, get_or, set, take, drop, length-map}
use lib.Seq.{drop-cons, set_at, append_snoc, length-take-le, take_all}
use Rattle.std.proofs.lemmas.List.{drop_all, map_more}

module _ {A B : Type 0} (f : A → B) (from : List A) (old now : List B) (i : ℕ) (e : now ≡ map f (take i from) ++ drop i old) where
  pub copied_more : (a : A) (b : B) → i < length from → i < length old → b ≡ f (get_or from i a)
      → set now i b ≡ map f (take (i + 1) from) ++ drop (i + 1) old
  copied_more a b l m g =
      let n : length (map f (take i from)) ≡ i = length-map (take i from) f ∙ length-take-le i from (omega arith) in
      rw (
        e,
        drop-cons old i b m,
        set_at (map f (take i from)) (get_or old i b) (drop (suc i) old) b i n,
        map_more f from i a l,
        append_snoc,
        add-one,
        g,
      )

  pub copied_all : length from ≤ i → length old ≤ i → now ≡ map f from
  copied_all l m = e ∙ rw (take_all i from l, drop_all i old m) (append-nil (map f from))
