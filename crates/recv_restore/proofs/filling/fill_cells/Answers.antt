use mathlib.Core.Path.{refl}
use Prim.Native.Nat.{◌+◌}
use native.Mathlib.Omega.{arith}
use Rattle.std.specs.Prelude.{Some, None}
use Rattle.recv_restore.specs.Filling.{Fills}
use Rattle.recv_restore.proofs.AllCells.{section-within, to-held, to-ready, open-fill, held-fill, ready-fill, no-pieces, no-held, all-cells}
use Rattle.recv_restore.proofs.filling.fill_cells.Goals as goal

pub fill_pieces-requires-clause-within : goal.fill_pieces-requires-clause-within
fill_pieces-requires-clause-within c = section-within _ _ _ _ _ _ _ c.requires.place refl c.be32_at.ensures (to-held _) c.requires.held

pub returns-in_err-a : goal.returns-in_err-a
returns-in_err-a c = rw c.from_residual.ensures (no-pieces _ _ _ c.args.p _ 0 0 _
    (open-fill _ _ _ _ _ _ _ c.requires.place refl c.be32_at.ensures c.in_err-a.ensures))

pub fill_held-requires-clause-near : goal.fill_held-requires-clause-near
unfolding Fills
fill_held-requires-clause-near c =
    let u = c.in_ok-a.ensures in let near = c.requires.near in let few = c.requires.rows_bound in omega (arith, u.near, u.used, u.room)

pub fill_held-requires-clause-room : goal.fill_held-requires-clause-room
unfolding Fills
fill_held-requires-clause-room c = let u = c.in_ok-a.ensures in omega (arith, u.room, u.many)

pub fill_held-requires-clause-within : goal.fill_held-requires-clause-within
unfolding Fills
fill_held-requires-clause-within c =
    let u = open-fill _ _ _ _ (Some c.in_ok-a.a) _ _ c.requires.place refl c.be32_at.ensures c.in_ok-a.ensures in
    section-within _ _ _ _ _ _ _ u.place refl c.be32_at-2.ensures (to-ready _) c.requires.ready

pub returns-in_err-b : goal.returns-in_err-b
unfolding Fills
returns-in_err-b c =
    let u = open-fill _ _ _ _ (Some c.in_ok-a.a) _ _ c.requires.place refl c.be32_at.ensures c.in_ok-a.ensures in
    rw c.from_residual-in_err-b.ensures (no-held _ _ _ c.args.p _ 0 0 _ _ u c.fill_held.new.rows
    (held-fill c.args.s.now c.fill_pieces.new.rows
    (record {
      place = c.in_ok-a.a.place + 4;
      used = c.in_ok-a.a.used;
    }) c.fill_held.new.rows None _ _ u.place refl c.be32_at-2.ensures c.in_err-b.ensures))

pub fill_ready-requires-clause-near : goal.fill_ready-requires-clause-near
unfolding Fills
fill_ready-requires-clause-near c =
    let u = c.in_ok-a.ensures in let v = c.in_ok-b.ensures in let near = c.requires.near in let few = c.requires.rows_bound in
    omega (arith, u.near, u.used, u.room, u.many, v.near, v.used, v.room)

pub fill_ready-requires-clause-room : goal.fill_ready-requires-clause-room
unfolding Fills
fill_ready-requires-clause-room c = let v = c.in_ok-b.ensures in omega (arith, v.room, v.many)

pub fill_ready-requires-clause-within : goal.fill_ready-requires-clause-within
unfolding Fills
fill_ready-requires-clause-within c =
    let u = open-fill _ _ _ _ (Some c.in_ok-a.a) _ _ c.requires.place refl c.be32_at.ensures c.in_ok-a.ensures in
    let v = held-fill _ _ _ _ (Some c.in_ok-b.b) _ _ u.place refl c.be32_at-2.ensures c.in_ok-b.ensures in
    section-within _ _ _ _ _ _ _ v.place refl c.be32_at-3.ensures refl c.requires.end

pub returns : goal.returns
unfolding Fills
returns c =
    let u = open-fill _ _ _ _ (Some c.in_ok-a.a) _ _ c.requires.place refl c.be32_at.ensures c.in_ok-a.ensures in
    let v = held-fill _ _ _ _ (Some c.in_ok-b.b) _ _ u.place refl c.be32_at-2.ensures c.in_ok-b.ensures in
    all-cells _ _ _ c.args.p _ _ _ _ _ u _ _ v _ _ (ready-fill _ _ _ _ _ _ _ v.place refl c.be32_at-3.ensures c.fill_ready.ensures)

pub overflow_add-held : goal.overflow_add-held
unfolding Fills
overflow_add-held c =
    let u = c.in_ok-a.ensures in let near = c.requires.near in let few = c.requires.rows_bound in omega (arith, u.near, u.used, u.room)

pub overflow_add-ready : goal.overflow_add-ready
unfolding Fills
overflow_add-ready c =
    let u = c.in_ok-a.ensures in let v = c.in_ok-b.ensures in let near = c.requires.near in let few = c.requires.rows_bound in
    omega (arith, u.near, u.used, u.room, u.many, v.near, v.used, v.room)
