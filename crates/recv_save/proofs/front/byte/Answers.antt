use Rattle.window.specs.Places.{place_set}
use Rattle.recv_save.proofs.PutCases.{byte-is}
use Rattle.recv_save.proofs.front.byte.Goals as goal

pub returns : goal.returns
returns c =
    byte-is (place_set c.args.bits.now) c.args.low c.args.k _ _ _ _ _ _ _ _ c.bit.ensures.0 c.bit-2.ensures.0 c.bit-3.ensures.0
    c.bit-4.ensures.0 c.bit-5.ensures.0 c.bit-6.ensures.0 c.bit-7.ensures.0 c.bit-8.ensures.0
