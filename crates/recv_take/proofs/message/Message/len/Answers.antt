use Rattle.std.proofs.Common.{rules, arith, ◌∙◌, ◌^◌, sym, length}
use Rattle.std.proofs.lemmas.Iterator.{YieldsList-from_range, YieldsList-from_map}
use Rattle.std.proofs.lemmas.Iterator.Consumers.{sum_from_yields_List}
use Rattle.std.proofs.lemmas.Iterator.Adapters.{fits_from_length, at_most_from_yields_List}
use Rattle.std.proofs.lemmas.List.FromFn.{length-range_with_len}
use Rattle.base.specs.Limits.{max_frags}
use Rattle.rows.specs.Rows.{cells_in}
use Rattle.recv_take.specs.Pieces.{piece_bytes}
use Rattle.recv_take.proofs.Pieces.{piece_short, pieces_long}
use Rattle.recv_take.proofs.message.Message.len.Goals as goal

pub sum-requires-clause-fits : goal.sum-requires-clause-fits
sum-requires-clause-fits c =
    let few = c.args.self.now.few in
    fits_from_length _ _ max_frags (2 ^ 64)
    (at_most_from_yields_List (YieldsList-from_range 0 c.args.self.now.count c.args.self.now.count (cc) (omega arith))
    (omega (arith, length-range_with_len)))
    c.map.ensures.closure (omega arith)
    (λ x r q k. search (rules, piece_short))

pub returns : goal.returns
returns c =
    let m = c.args.self.now in
    sum_from_yields_List c.map.result c.sum.result c.sum.ensures.ran
    (YieldsList-from_map _ (λ i. length (piece_bytes m.turn (cells_in m.rows.now) m.store.now i))
    (YieldsList-from_range 0 m.count m.count (cc) (omega arith))
    c.map.ensures.closure (λ x r q k. search rules))
    ∙ sym (pieces_long m.turn (cells_in m.rows.now) m.store.now m.count)
