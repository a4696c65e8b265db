use mathlib.Core.Path.{sym, subst}
use mathlib.Core.List.{List, []}
use native.Mathlib.Omega.{arith}
use lib.ListN.{length}
use Rattle.rows.specs.declared.Row.{Row}
use Rattle.recv_restore.specs.Filling.{Rowed, Cells}
use Rattle.recv_restore.specs.Front.{Queue}
use Rattle.recv_restore.proofs.Rows.{rowed-none}
use Rattle.recv_restore.proofs.Fronts.{front-counts, at-pieces}
use Rattle.recv_restore.proofs.Restoring.{whole, pieces-within, none-front, none-cells, none-sound, some-sound}
use Rattle.recv_restore.proofs.restored.Goals as goal

pub queue_at-requires : goal.queue_at-requires
queue_at-requires c = pieces-within _ (λ i. (c.type_inv.image i).fits) c.requires.formed

pub returns-in_err-queue : goal.returns-in_err-queue
unfolding Queue
returns-in_err-queue c = rw c.from_residual.ensures (none-front _
    (λ i. (c.type_inv.image i).fits) c.requires.formed _ _ c.in_err-queue.ensures)

pub fill_cells-requires-clause-place : goal.fill_cells-requires-clause-place
unfolding Queue
fill_cells-requires-clause-place c =
    let e = at-pieces c.args.image.now (front-counts c.args.image.now c.in_ok-queue.ensures.0) in
    let n = c.pieces_at.ensures in
    omega arith

pub fill_cells-requires-clause-near : goal.fill_cells-requires-clause-near
unfolding Queue
fill_cells-requires-clause-near c =
    let few = (front-counts c.args.image.now c.in_ok-queue.ensures.0).unsent in
    let n = c.pieces_at.ensures in
    omega arith

pub fill_cells-requires-clause-held : goal.fill_cells-requires-clause-held
fill_cells-requires-clause-held c = (whole c.args.image.now (λ i. (c.type_inv.image i).fits) c.requires.formed).held

pub fill_cells-requires-clause-ready : goal.fill_cells-requires-clause-ready
fill_cells-requires-clause-ready c = (whole c.args.image.now (λ i. (c.type_inv.image i).fits) c.requires.formed).ready

pub fill_cells-requires-clause-end : goal.fill_cells-requires-clause-end
fill_cells-requires-clause-end c = (whole c.args.image.now (λ i. (c.type_inv.image i).fits) c.requires.formed).end

pub returns-in_err-fill_cells : goal.returns-in_err-fill_cells
returns-in_err-fill_cells c = rw c.from_residual-in_err-fill_cells.ensures
    (none-cells _ (λ i. (c.type_inv.image i).fits) c.requires.formed _ _ c.in_err-fill_cells.ensures)

pub returns-then-is_sound : goal.returns-then-is_sound
unfolding Queue Cells
returns-then-is_sound c =
    let q = c.in_ok-queue.ensures in
    let k = c.in_ok-fill_cells.ensures in
    let blank = subst (λ (r : List Row). Rowed c.args.image.now r []) (sym c.requires.blank)
    (rowed-none c.args.image.now (length c.args.rows.now)) in
    some-sound _ (λ i. (c.type_inv.image i).fits) c.requires.formed _ _ _ q.1 q.0 k.0 k.1.0
    (k.1.1 blank) c.fill_cells.auto.rows _ c.is_sound.ensures
    c.if-is_sound.true

pub returns : goal.returns
unfolding Queue Cells
returns c =
    let q = c.in_ok-queue.ensures in
    let k = c.in_ok-fill_cells.ensures in
    let blank = subst (λ (r : List Row). Rowed c.args.image.now r []) (sym c.requires.blank)
    (rowed-none c.args.image.now (length c.args.rows.now)) in
    none-sound _ (λ i. (c.type_inv.image i).fits) c.requires.formed _ _ _ q.1 q.0 k.0 k.1.0
    (k.1.1 blank) c.fill_cells.auto.rows _ c.is_sound.ensures
    c.if-is_sound.false
