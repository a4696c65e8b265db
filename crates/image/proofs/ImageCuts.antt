-- Which bytes are read as no image: an image's cut short, and an image's with bytes after its last section.
-- Assumes nothing.
use Prim.Native.Nat.{ℕ, ◌≤◌}
use mathlib.Core.Path.{◌≡◌, refl, sym, ◌∙◌, ap}
use mathlib.Core.Logic.{◌↔◌, ◌⊎◌, inl, inr}
use mathlib.Core.Option.{none, some}
use mathlib.Core.List.{List, [], ◌∷◌, ◌++◌}
use native.Mathlib.Omega.{arith}
use lib.ListN.{length}
use borrow.Author.Tests.{ne_eqb}
use Rattle.base.specs.Bytes.{Bytes}
use Rattle.base.proofs.Choices.{case_option}
use Rattle.image.specs.Format.{Got, Format, exactly, number32, number64, both, many, counted, section, body}
use Rattle.image.specs.Image.{Image, window_parts, window_of, window_format, channel_parts, channel_of, channel_format, four_numbers}
use Rattle.image.specs.Image.{piece_parts, piece_of, piece_format, message_parts, message_of, message_format, image_parts, image_with}
use Rattle.image.specs.Image.{image_format, image_bytes, whole, read_image}
use Rattle.image.proofs.Formats.{Lawful, All, number32-lawful, number64-lawful, both-lawful}
use Rattle.image.proofs.Cuts.{Cuts, exactly-cuts, bytes-cuts, number32-cuts, number64-cuts, both-cuts, formed-cuts, many-cuts}
use Rattle.image.proofs.Cuts.{counted-cuts, zero32-bytes, zero64-bytes}
use Rattle.image.proofs.ImageBytes.{Short32, Short64, FitsSection, FitsBody, FitsWindow, FitsChannel, Four, FitsPiece, FitsMessage}
use Rattle.image.proofs.ImageBytes.{FitsImage, section-lawful, body-lawful, window-lawful, channel-lawful, four-lawful, piece-lawful}
use Rattle.image.proofs.ImageBytes.{message-lawful, image-lawful, write-then-read, none-some, read-none}

-- ---- format by format
section-cuts : {A : Type 0} (f : Format A) (F : A → Type 0) → Lawful f F → Cuts f F → Cuts (section f) (FitsSection F)
unfolding section
section-cuts f F lf cf = counted-cuts number32 Short32 number32-lawful number32-cuts (many f) (λ n l. (length l ≡ n) × All F l)
    (λ n. many-cuts f F lf cf n) (λ n l g. g.0) (omega arith) zero32-bytes

body-cuts : Cuts body FitsBody
unfolding body
body-cuts = counted-cuts number64 Short64 number64-lawful number64-cuts exactly (λ n b. length b ≡ n) exactly-cuts (λ n b g. g)
    (omega arith) zero64-bytes

window-cuts : Cuts window_format FitsWindow
unfolding window_format
window-cuts = formed-cuts (both number64 (exactly 256)) _ (both-cuts number64 (exactly 256) Short64 _ number64-lawful number64-cuts
    (bytes-cuts 256)) window_of window_parts (λ p. refl)

pair-cuts : Cuts (both number64 number64) (λ p. Short64 p.0 × Short64 p.1)
pair-cuts = both-cuts number64 number64 Short64 Short64 number64-lawful number64-cuts number64-cuts

channel-cuts : Cuts channel_format FitsChannel
unfolding channel_format
channel-cuts = formed-cuts (both number64 number64) _ pair-cuts channel_of channel_parts (λ p. refl)

four-cuts : Cuts four_numbers Four
unfolding four_numbers
four-cuts = both-cuts number64 _ Short64 _ number64-lawful number64-cuts
    (both-cuts number64 _ Short64 _ number64-lawful number64-cuts pair-cuts)

piece-cuts : Cuts piece_format FitsPiece
unfolding piece_format
piece-cuts = formed-cuts (both (both four_numbers four_numbers) body) _
    (both-cuts (both four_numbers four_numbers) body _ _ (both-lawful four_numbers four_numbers Four Four four-lawful four-lawful)
    (both-cuts four_numbers four_numbers Four Four four-lawful four-cuts four-cuts) body-cuts) piece_of piece_parts (λ p. refl)

message-cuts : Cuts message_format FitsMessage
unfolding message_format
message-cuts =
    formed-cuts _ _
    (both-cuts (both number64 (both number64 number64)) (counted number64 (many body)) _ _
    (both-lawful number64 (both number64 number64) Short64 _ number64-lawful
    (both-lawful number64 number64 Short64 Short64 number64-lawful number64-lawful))
    (both-cuts number64 (both number64 number64) Short64 _ number64-lawful number64-cuts pair-cuts)
    (counted-cuts number64 Short64 number64-lawful number64-cuts (many body) (λ n l. (length l ≡ n) × All FitsBody l)
    (λ n. many-cuts body FitsBody body-lawful body-cuts n) (λ n l g. g.0) (omega arith) zero64-bytes))
    message_of message_parts (λ p. refl)

image-cuts : Cuts image_format FitsImage
unfolding image_format
image-cuts =
    formed-cuts _ _
    (both-cuts _ _ _ _ (section-lawful number64 Short64 number64-lawful) (section-cuts number64 Short64 number64-lawful number64-cuts)
    (both-cuts _ _ _ _ (section-lawful window_format FitsWindow window-lawful)
    (section-cuts window_format FitsWindow window-lawful window-cuts)
    (both-cuts _ _ _ _ (section-lawful channel_format FitsChannel channel-lawful)
    (section-cuts channel_format FitsChannel channel-lawful channel-cuts)
    (both-cuts _ _ _ _ (section-lawful number64 Short64 number64-lawful) (section-cuts number64 Short64 number64-lawful number64-cuts)
    (both-cuts _ _ _ _ (section-lawful piece_format FitsPiece piece-lawful) (section-cuts piece_format FitsPiece piece-lawful piece-cuts)
    (both-cuts _ _ _ _ (section-lawful message_format FitsMessage message-lawful)
    (section-cuts message_format FitsMessage message-lawful message-cuts)
    (section-cuts message_format FitsMessage message-lawful message-cuts)))))))
    image_with image_parts (λ p. refl)

-- ---- whole images
-- "an image cut": bytes are missing at the end of it;
abbrev pub CutShort : List ℕ → Type 0
CutShort s = (i : Image) × FitsImage i × (more : List ℕ) × (1 ≤ length more) × (s ++ more ≡ image_bytes i) × Bytes more

-- "or with bytes after its last section"
abbrev pub Overlong : List ℕ → Type 0
Overlong s = (i : Image) × FitsImage i × (more : List ℕ) × (1 ≤ length more) × (s ≡ image_bytes i ++ more)

-- an image's bytes and some after them
tail-none : (i : Image) → FitsImage i → (more : List ℕ) → 1 ≤ length more → read_image (image_bytes i ++ more) ≡ none
unfolding read_image image_bytes
tail-none i h more le = rw (image-lawful.back i more h) (some-left more le)
  where
    some-left : (more : List ℕ) → 1 ≤ length more → whole (record { value = i; rest = more }) ≡ none
    some-left [] le = absurd (omega arith)
    some-left (x ∷ l) le = rw (ne_eqb (length (x ∷ l)) 0 (λ q. omega arith)) refl

module _ (s : List ℕ) (by : Bytes s) where
  tail-left : (g : Got Image) → image_format.read s ≡ some g → whole g ≡ none → Overlong s
  unfolding image_bytes
  tail-left g u w = let x = image-lawful.forth s g.value g.rest by u in (g.value, x.1, g.rest, some-more g.rest w, x.0)
    where
      some-more : (l : List ℕ) → whole (record { value = g.value; rest = l }) ≡ none → 1 ≤ length l
      some-more [] w = absurd (let z : ◌≡◌ {A = ℕ} 0 1 = cc in omega arith)
      some-more (x ∷ l) w = omega arith

  cut-or-longer : read_image s ≡ none → CutShort s ⊎ Overlong s
  unfolding read_image image_bytes
  cut-or-longer e = case_option (image_format.read s)
      (λ u. let c = image-cuts.cut s by u in inl (c.value, c.fits, c.more, c.some-more, c.bytes, c.more-bytes))
      (λ g u. inr (tail-left g u (rw u at e)))

  -- Bytes are read as no image exactly where they are some image's cut short, or some image's with bytes after them.
  pub read-none-exactly : (read_image s ≡ none) ↔ (CutShort s ⊎ Overlong s)
  read-none-exactly = (cut-or-longer, back)
    where
      back : CutShort s ⊎ Overlong s → read_image s ≡ none
      back (inl c) = (read-none s by).1 (λ j h q. none-some (read_image (image_bytes j ++ c.2)) (tail-none j h c.2 c.3)
          (ap (λ (l : List ℕ). read_image (l ++ c.2)) (sym q) ∙ (ap read_image c.4 ∙ write-then-read c.0 c.1)))
      back (inr c) = ap read_image c.4 ∙ tail-none c.0 c.1 c.2 c.3
