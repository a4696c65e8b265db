use mathlib.Core.Path.{sym, ◌∙◌, ap}
use Prim.Native.Nat.{ℕ}
use lib.ListN.{replicate}
use Rattle.rows.specs.Rows.{blank_row}
use Rattle.recv_restore.proofs.Restoring.{as-many, lengths-told, few-rows, blank-again, unfit-rows, unformed-rows, invalid-rows, valid-rows}
use Rattle.recv_restore.proofs.Restoring.{read-is, fits-image}
use Rattle.recv_restore.proofs.restore_rows.Goals as goal

pub returns-then-not-lengths_fit : goal.returns-then-not-lengths_fit
returns-then-not-lengths_fit c = unfit-rows _ _ _ _ c.lengths_fit.result (lengths-told _ _ c.clear.ensures _ _ c.lengths_fit.ensures)
    c.if-not-lengths_fit.true _ c.clear.ensures

pub returns-then-not-is_formed : goal.returns-then-not-is_formed
returns-then-not-is_formed c = unformed-rows _ _ _ _
    (sym (lengths-told _ _ c.clear.ensures _ _ c.lengths_fit.ensures) ∙ c.if-not-lengths_fit.false) c.is_formed.result c.is_formed.ensures
    c.if-not-is_formed.true _ c.clear.ensures

pub restored-requires-clause-few : goal.restored-requires-clause-few
restored-requires-clause-few c = few-rows _ _ c.clear.ensures _ _ c.lengths_fit.ensures c.if-not-lengths_fit.false

pub restored-requires-clause-blank : goal.restored-requires-clause-blank
restored-requires-clause-blank c = blank-again _ _ c.clear.ensures _ _ c.lengths_fit.ensures

pub returns-in-None : goal.returns-in-None
returns-in-None c =
    let formed = sym c.is_formed.ensures ∙ c.if-not-is_formed.false in
    let many = as-many _ _ c.clear.ensures c.args.store.now _ c.lengths_fit.ensures in
    invalid-rows _ _ _ _ (sym (lengths-told _ _ c.clear.ensures _ _ c.lengths_fit.ensures) ∙ c.if-not-lengths_fit.false) _
    (read-is _ (λ i. (c.type_inv.image i).fits) formed) (fits-image _ (λ i. (c.type_inv.image i).fits) formed) _ _ many c.in-None.ensures _
    (c.clear-in-None.ensures ∙ ap (λ (n : ℕ). replicate n blank_row) (c.restored.auto.rows ∙ many))

pub returns-in-Some : goal.returns-in-Some
returns-in-Some c =
    let formed = sym c.is_formed.ensures ∙ c.if-not-is_formed.false in
    let many = as-many _ _ c.clear.ensures c.args.store.now _ c.lengths_fit.ensures in
    valid-rows _ _ _ _ (sym (lengths-told _ _ c.clear.ensures _ _ c.lengths_fit.ensures) ∙ c.if-not-lengths_fit.false) _
    (read-is _ (λ i. (c.type_inv.image i).fits) formed) (fits-image _ (λ i. (c.type_inv.image i).fits) formed) _ _ many
    (c.restored.auto.rows ∙ many) _ c.in-Some.ensures _ _ c.settle.ensures.rows c.settle.ensures.store
