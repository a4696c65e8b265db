-- The ordered kinds, by the one table.
-- Assumes nothing.
use Prim.Native.Nat.{ℕ}
use mathlib.Core.Path.{◌≡◌, refl, sym, ◌∙◌}
use mathlib.Core.Bool.{true, false, not, ◌&&◌, ◌||◌, and-false}
use mathlib.Core.List.{[], ◌∷◌, map}
use lib.Dec.{eqb}
use borrow.Author.Tests.{eqb-true}
use Rattle.base.proofs.Choices.{cases, and_left}
use Rattle.reliability.specs.Kinds.{has_reliable, has_sequence, has_order}
use Rattle.reliability.specs.declared.Profile.{Profile}
use Rattle.reliability.specs.declared.Profile.TheVariants.{Console, Cpp}
use Rattle.bare.specs.Frame.{carries_reliable, ordered}

-- Both numbers: 3 and 7.
pub kinds-3-and-7 : map ordered (0 ∷ 1 ∷ 2 ∷ 3 ∷ 4 ∷ 5 ∷ 6 ∷ 7 ∷ []) ≡ false ∷ false ∷ false ∷ true ∷ false ∷ false ∷ false ∷ true ∷ []
unfolding ordered
kinds-3-and-7 = refl

-- The kinds of ordered messages are exactly those that carry a reliable and an order number and no sequence number; without the last,
-- kind 4 of the C++ profile were one.
pub ordered-both : (p : Profile) (k : ℕ) → ordered k ≡ (has_reliable k && (has_order p k && not (has_sequence k)))
unfolding ordered
ordered-both Console k = cases (eqb k 1)
    (λ e. rw (eqb-true k 1 e))
    (λ e. cases (eqb k 3) (λ f. rw (eqb-true k 3 f)) (λ f. cases (eqb k 7) (λ g. rw (eqb-true k 7 g))
    (λ g. rw (e, f, g) (sym (and-false (eqb k 2 || false || eqb k 4 || false))))))
ordered-both Cpp k = cases (eqb k 1)
    (λ e. rw (eqb-true k 1 e))
    (λ e. cases (eqb k 3) (λ f. rw (eqb-true k 3 f)) (λ f. cases (eqb k 7) (λ g. rw (eqb-true k 7 g))
    (λ g. cases (eqb k 4) (λ h. rw (eqb-true k 4 h)) (λ h. rw (e, f, g, h) (sym (and-false (eqb k 2 || false || false || false)))))))

pub ordered-carries : (k : ℕ) → ordered k ≡ true → carries_reliable k ≡ true
unfolding carries_reliable
ordered-carries k e = and_left (has_reliable k) _ (sym (ordered-both Console k) ∙ e)
