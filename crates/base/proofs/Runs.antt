-- Runs of bytes: chosen by a test, and what is left to write for a loop that writes.
-- Assumes nothing.
use mathlib.Core.Path.{◌≡◌, ◌∙◌, refl}
use mathlib.Core.Bool.{Bool, true, false}
use mathlib.Core.List.{List, []}
use Prim.Native.Nat.{ℕ}
use lib.ListN.{length, length-append}
use Rattle.base.specs.If.{if_true, if_eq}
use Rattle.base.specs.Put.{put, after, and_then, Run}
use Rattle.base.proofs.Ifs.{true-yes, true-no, eq_yes, eq_no}
use Rattle.base.proofs.Puts.{length-put, put-append, after-add, run_none, run-then, run_long}

-- ---- a run of bytes that a test chooses, as `search` uses it: facts as the code finds them
module _ (p : ℕ) (xs ys l : List ℕ) (q : ℕ) (m : List ℕ) where
  pub run-true-yes : (b : Bool) → b ≡ true → Run p xs l q m → Run p (if_true b xs ys) l q m
  run-true-yes b t r = rw (← true-yes b xs xs ys t refl) r

  pub run-true-no : (b : Bool) → b ≡ false → Run p ys l q m → Run p (if_true b xs ys) l q m
  run-true-no b t r = rw (← true-no b ys xs ys t refl) r

  pub run-eq-yes : (a b : ℕ) → a ≡ b → Run p xs l q m → Run p (if_eq a b xs ys) l q m
  run-eq-yes a b h r = rw (← eq_yes a b xs xs ys h refl) r

  pub run-eq-no : (a b : ℕ) → (a ≡ b → ⊥) → Run p ys l q m → Run p (if_eq a b xs ys) l q m
  run-eq-no a b h r = rw (← eq_no a b ys xs ys h refl) r

pub ruleset runs = (run_none, run-then, run-true-yes, run-true-no, run-eq-yes, run-eq-no)

-- ---- what is left to write
-- writing cs into m at q is what is left of writing bs into l at p
pub record Left (p : ℕ) (bs l : List ℕ) (q : ℕ) (cs m : List ℕ) : Type 0 where
  pub next : after (length m) q (length cs) ≡ after (length l) p (length bs)
  pub is : put m q cs ≡ put l p bs

pub left_less : (p : ℕ) (bs l : List ℕ) (q : ℕ) (xs ys m : List ℕ) (r : ℕ) (M : List ℕ) → Run q xs m r M → Left p bs l q (and_then xs ys) m
    → Left p bs l r ys M
unfolding and_then
left_less p bs l q xs ys m r M a b =
    let n : length M ≡ length m = run_long q xs m r M a in
    record {
      next = rw (n, a.next, ← after-add (length m) q (length xs) (length ys), ← length-append xs ys) b.next;
      is = rw (a.is, a.next) (put-append m q xs ys) ∙ b.is;
    }

pub left-none : (p : ℕ) (bs l : List ℕ) (q : ℕ) (cs m : List ℕ) → cs ≡ [] → Left p bs l q cs m → Run p bs l q m
unfolding put after
left-none p bs l q cs m e a = let b : Left p bs l q [] m = rw e at a in record { next = b.next; is = b.is }
