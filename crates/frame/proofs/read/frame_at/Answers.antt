use Rattle.frame.proofs.ReadCases.{number_in, channel_in, carried, header_is}
use borrow.Author.Rules.{rules}
use Rattle.frame.proofs.read.frame_at.Goals as goal

pub returns : goal.returns
returns c =
    header_is _ _ _ c.requires.1 _ c.fields-k.ensures.is _ _ _ _ _
    (carried _ _ (number_in c.args.s.now c.args.at) _ c.map_or.ensures (λ n i q. search rules))
    (carried _ _ (number_in c.args.s.now c.args.at) _ c.map_or-2.ensures (λ n i q. search rules))
    (carried _ _ (number_in c.args.s.now c.args.at) _ c.map_or-3.ensures (λ n i q. search rules))
    (carried _ _ (channel_in c.args.s.now c.args.at) _ c.map_or-4.ensures (λ n i q. search rules))
    c.meta_at.ensures
