use mathlib.Core.Path.{subst}
use Prim.Native.Nat.{ℕ, ◌≤◌}
use Rattle.recv_restore.specs.Filling.{TestOf}
use Rattle.recv_restore.proofs.Rows.{unfit}
use Rattle.recv_restore.proofs.Pieces.{low-rank, ranked, piece-put}
use Rattle.recv_restore.proofs.filling.fill_piece.Goals as goal

pub returns-then-not-piece_fits : goal.returns-then-not-piece_fits
unfolding TestOf
returns-then-not-piece_fits c = unfit _ _ _ _ _ _ _ _ (λ can. c.piece_fits.ensures.1 c.if-not-piece_fits.true can.0)

pub returns-then-rank-least : goal.returns-then-rank-least
returns-then-rank-least c = unfit _ _ _ _ _ _ _ _ (low-rank _ _ _ _ c.rank.ensures.is c.if-rank-least.true)

pub returns : goal.returns
unfolding TestOf
returns c =
    let f = c.piece_fits.ensures.0 c.if-not-piece_fits.false in
    let least = subst (λ (x : ℕ). c.args.least ≤ x) (ranked c.args.s.now c.args.at.place _ c.rank.ensures.is f) c.if-rank-least.false in
    piece-put _ _ _ _ c.requires.within (f, least) _ (c.piece_row-row.ensures f) _ _ c.put_row.ensures
