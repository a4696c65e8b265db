use native.Mathlib.Omega.{arith}
use mathlib.Core.Path.{◌≡◌}
use Prim.Native.Nat.{ℕ, ◌<◌, ◌+◌}
use lib.ListN.{get_or}
use borrow.Author.Rules.{rules}
use Rattle.std.proofs.lemmas.Grind.{common_steps}
use Rattle.window.proofs.WordBits.{word-is, cut-bytes}
use Rattle.window.proofs.words.word.Goals.{in-Some, in_default}
use Rattle.window.proofs.words.word.Goals as goal

pub returns : goal.returns
returns c =
    let each : (i : ℕ) → i < 8 → get_or c.match-get.bytes i 0 ≡ get_or c.args.bits.now (c.place_byte-at.result + i) 0 =
    elim c.match-get.branch [
      | in-Some w ↦ (λ i h. grind (arith, common_steps))
      | in_default w ↦ (λ i h.
          let e = w.bytes-is in
          rw e (cut-bytes c.args.bits.now _ c.place_byte-at.result _ _ (search rules) (search rules) w.put_all.ensures i h))
    ] in
    word-is c.args.bits.now (λ i. (c.type_inv.bits i).fits) _ _ _ c.requires c.place_byte-at.ensures each _ c.from_le_bytes.ensures
