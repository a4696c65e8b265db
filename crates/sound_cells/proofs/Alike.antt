-- Cells that are alike: what they have in common; each is like itself, and two that are like a third are alike.
-- Assumes nothing.
use mathlib.Core.Path.{◌≡◌, refl, sym, ◌∙◌}
use mathlib.Core.Bool.{true}
use lib.Dec.{eqb}
use borrow.Author.Tests.{eqb-true, eq-eqb}
use Rattle.base.proofs.Choices.{and_left, and_right, and_both}
use Rattle.cells.specs.Cell.{Cell}
use Rattle.cells.specs.Sound.{age_of, agree, alike}

pub record Alike (c d : Cell) : Type 0 where
  pub count : c.count ≡ d.count
  pub kind : c.kind ≡ d.kind
  pub sequence : c.sequence ≡ d.sequence
  pub order : c.order ≡ d.order
  pub channel : c.channel ≡ d.channel
  pub age : age_of c ≡ age_of d

module _ (c d : Cell) where
  pub alike-told : alike c d ≡ true → Alike c d
  unfolding alike agree
  alike-told e =
      let e₀ = and_left (agree c d) _ e in
      let e₁ = and_right (eqb c.count d.count) _ e₀ in
      let e₂ = and_right (eqb c.kind d.kind) _ e₁ in
      let e₃ = and_right (eqb c.sequence d.sequence) _ e₂ in
      record {
        count = eqb-true _ _ (and_left (eqb c.count d.count) _ e₀);
        kind = eqb-true _ _ (and_left (eqb c.kind d.kind) _ e₁);
        sequence = eqb-true _ _ (and_left (eqb c.sequence d.sequence) _ e₂);
        order = eqb-true _ _ (and_left (eqb c.order d.order) _ e₃);
        channel = eqb-true _ _ (and_right (eqb c.order d.order) _ e₃);
        age = eqb-true _ _ (and_right (agree c d) _ e);
      }

  pub alike-is : Alike c d → alike c d ≡ true
  unfolding alike agree
  alike-is h = and_both _ _ (and_both _ _ (eq-eqb _ _ h.count) (and_both _ _ (eq-eqb _ _ h.kind)
      (and_both _ _ (eq-eqb _ _ h.sequence) (and_both _ _ (eq-eqb _ _ h.order) (eq-eqb _ _ h.channel))))) (eq-eqb _ _ h.age)

pub alike-own : (c : Cell) → alike c c ≡ true
alike-own c = alike-is c c (record { count = refl; kind = refl; sequence = refl; order = refl; channel = refl; age = refl })

pub alike-through : (c d e : Cell) → alike c e ≡ true → alike d e ≡ true → alike c d ≡ true
alike-through c d e p q =
    let a = alike-told c e p in
    let b = alike-told d e q in
    alike-is c d (record {
      count = a.count ∙ sym b.count;
      kind = a.kind ∙ sym b.kind;
      sequence = a.sequence ∙ sym b.sequence;
      order = a.order ∙ sym b.order;
      channel = a.channel ∙ sym b.channel;
      age = a.age ∙ sym b.age;
    })
