-- An image's bytes read back as that image, and bytes that read as an image are its bytes.
-- Assumes nothing.
use Prim.Native.Nat.{ℕ, ◌<◌}
use mathlib.Core.Path.{◌≡◌, refl, sym, ◌∙◌, ap, subst}
use mathlib.Core.Bool.{Bool, true, false, cond}
use mathlib.Core.Option.{Option, none, some}
use mathlib.Core.Logic.{◌↔◌}
use mathlib.Core.List.{List, [], ◌∷◌, ◌++◌, append-nil}
use native.Mathlib.Omega.{arith}
use lib.Dec.{eqb}
use lib.ListN.{length}
use borrow.Author.Tests.{eqb-true}
use Rattle.base.specs.Bytes.{Bytes}
use Rattle.base.specs.Lists.{option}
use Rattle.base.proofs.Choices.{case_option}
use Rattle.image.specs.Format.{Got, Format, exactly, number32, number64, both, many, counted, section, body}
use Rattle.image.specs.Image.{WindowEntry, ChannelEntry, PieceEntry, MessageEntry, Image, window_parts, window_of, window_format}
use Rattle.image.specs.Image.{channel_parts, channel_of, channel_format, four_numbers, piece_parts, piece_of, piece_format, message_parts}
use Rattle.image.specs.Image.{message_of, message_format, image_parts, image_with, image_format, image_bytes, whole, read_image}
use Rattle.image.proofs.Formats.{Lawful, All, exactly-lawful, bytes-lawful, number32-lawful, number64-lawful, both-lawful, formed-lawful}
use Rattle.image.proofs.Formats.{many-lawful}
use Rattle.image.proofs.Formats.{counted-lawful, gave}

-- ---- which values fit: numbers below 2^64, counts below 2^32
-- (A list is of its own length: `counted-lawful` asks of a list what `many` and `exactly` ask under its count, of which that is the first
-- part.)
abbrev pub Short32 : ℕ → Type 0
Short32 x = x < 4294967296

abbrev pub Short64 : ℕ → Type 0
Short64 x = x < 18446744073709551616

abbrev pub FitsSection : {A : Type 0} → (A → Type 0) → List A → Type 0
FitsSection F l = Short32 (length l) × ((length l ≡ length l) × All F l)

abbrev pub FitsBody : List ℕ → Type 0
FitsBody b = Short64 (length b) × (length b ≡ length b)

abbrev pub FitsWindow : WindowEntry → Type 0
FitsWindow w = Short64 w.low × ((length w.places ≡ 256) × Bytes w.places)

abbrev pub FitsChannel : ChannelEntry → Type 0
FitsChannel c = Short64 c.next × Short64 c.memory

abbrev pub Four : ℕ × (ℕ × (ℕ × ℕ)) → Type 0
Four t = Short64 t.0 × (Short64 t.1.0 × (Short64 t.1.1.0 × Short64 t.1.1.1))

abbrev pub FitsPiece : PieceEntry → Type 0
FitsPiece p = (Four (piece_parts p).0.0 × Four (piece_parts p).0.1) × FitsBody p.body

abbrev pub FitsMessage : MessageEntry → Type 0
FitsMessage m = (Short64 m.channel × (Short64 m.order × Short64 m.kind))
    × (Short64 (length m.bodies) × ((length m.bodies ≡ length m.bodies) × All FitsBody m.bodies))

abbrev pub FitsImage : Image → Type 0
FitsImage i =
    FitsSection Short64 i.profile × (FitsSection FitsWindow i.windows × (FitsSection FitsChannel i.channels × (FitsSection Short64 i.unsent
    × (FitsSection FitsPiece i.pieces × (FitsSection FitsMessage i.held × FitsSection FitsMessage i.ready)))))

-- ---- the laws, format by format
pub section-lawful : {A : Type 0} (f : Format A) (F : A → Type 0) → Lawful f F → Lawful (section f) (FitsSection F)
unfolding section
section-lawful f F lf = counted-lawful f F lf number32 Short32 number32-lawful (many f) (λ n l. (length l ≡ n) × All F l)
    (λ n. many-lawful f F lf n) (λ n l g. g.0)

pub body-lawful : Lawful body FitsBody
unfolding body
body-lawful = counted-lawful number64 Short64 number64-lawful number64 Short64 number64-lawful exactly (λ n b. length b ≡ n) exactly-lawful
    (λ n b g. g)

pub window-lawful : Lawful window_format FitsWindow
unfolding window_format
window-lawful = formed-lawful (both number64 (exactly 256)) _ (both-lawful number64 (exactly 256) Short64 _ number64-lawful
    (bytes-lawful 256)) window_of window_parts (λ p. refl) (λ w. refl)

pub channel-lawful : Lawful channel_format FitsChannel
unfolding channel_format
channel-lawful = formed-lawful (both number64 number64) _ (both-lawful number64 number64 Short64 Short64 number64-lawful number64-lawful)
    channel_of channel_parts (λ p. refl) (λ w. refl)

pub four-lawful : Lawful four_numbers Four
unfolding four_numbers
four-lawful = both-lawful number64 _ Short64 _ number64-lawful
    (both-lawful number64 _ Short64 _ number64-lawful (both-lawful number64 number64 Short64 Short64 number64-lawful number64-lawful))

pub piece-lawful : Lawful piece_format FitsPiece
unfolding piece_format
piece-lawful = formed-lawful (both (both four_numbers four_numbers) body) _
    (both-lawful (both four_numbers four_numbers) body _ _ (both-lawful four_numbers four_numbers Four Four four-lawful four-lawful)
    body-lawful) piece_of piece_parts (λ p. refl) (λ w. refl)

pub message-lawful : Lawful message_format FitsMessage
unfolding message_format
message-lawful =
    formed-lawful _ _
    (both-lawful (both number64 (both number64 number64)) (counted number64 (many body)) _ _
    (both-lawful number64 (both number64 number64) Short64 _ number64-lawful
    (both-lawful number64 number64 Short64 Short64 number64-lawful number64-lawful))
    (counted-lawful body FitsBody body-lawful number64 Short64 number64-lawful (many body) (λ n l. (length l ≡ n) × All FitsBody l)
    (λ n. many-lawful body FitsBody body-lawful n) (λ n l g. g.0)))
    message_of message_parts (λ p. refl) (λ w. refl)

pub image-lawful : Lawful image_format FitsImage
unfolding image_format
image-lawful =
    formed-lawful _ _
    (both-lawful _ _ _ _ (section-lawful number64 Short64 number64-lawful)
    (both-lawful _ _ _ _ (section-lawful window_format FitsWindow window-lawful)
    (both-lawful _ _ _ _ (section-lawful channel_format FitsChannel channel-lawful)
    (both-lawful _ _ _ _ (section-lawful number64 Short64 number64-lawful)
    (both-lawful _ _ _ _ (section-lawful piece_format FitsPiece piece-lawful)
    (both-lawful _ _ _ _ (section-lawful message_format FitsMessage message-lawful)
    (section-lawful message_format FitsMessage message-lawful)))))))
    image_with image_parts (λ p. refl) (λ i. refl)

-- ---- whole images
-- Writing then reading: the bytes of an image whose numbers fit read as that image.
pub write-then-read : (i : Image) → FitsImage i → read_image (image_bytes i) ≡ some i
unfolding read_image image_bytes
write-then-read i h = ap (λ (s : List ℕ). option (image_format.read s) none whole) (sym (append-nil (image_format.write i)))
    ∙ rw (image-lawful.back i [] h)

no_bytes : (l : List ℕ) → length l ≡ 0 → l ≡ []
no_bytes [] e = refl
no_bytes (x ∷ l) e = absurd (omega arith)

-- Reading then writing: bytes that read as an image are its bytes, and its numbers fit.
pub read-then-write : (s : List ℕ) (i : Image) → Bytes s → read_image s ≡ some i → (s ≡ image_bytes i) × FitsImage i
unfolding read_image image_bytes
read-then-write s i by e = let a = gave (image_format.read s) whole i e in go a.0 a.1 (eqb (length a.0.rest) 0) refl a.2
  where
    go : (g : Got Image) → image_format.read s ≡ some g → (b : Bool) → eqb (length g.rest) 0 ≡ b → cond b (some g.value) none ≡ some i
        → (s ≡ image_format.write i) × FitsImage i
    go g u false t w = absurd (let z : ◌≡◌ {A = ℕ} 0 1 = cc in omega arith)
    go g u true t w =
        let v : g.value ≡ i = cc in
        let r : g.rest ≡ [] = no_bytes g.rest (eqb-true (length g.rest) 0 t) in
        let x = image-lawful.forth s g.value g.rest by u in (
          x.0 ∙ (ap (λ (t : List ℕ). image_format.write g.value ++ t) r
              ∙ (append-nil (image_format.write g.value) ∙ ap (λ (k : Image). image_format.write k) v)),
          subst FitsImage v x.1,
        )

pub none-some : {A X : Type 0} {a : A} (o : Option A) → o ≡ none → o ≡ some a → X
none-some {A} {X} {a} o e f =
    let g : ◌≡◌ {A = Option A} none (some a) = sym e ∙ f in absurd (let z : ◌≡◌ {A = ℕ} 0 1 = cc in omega arith)

-- Bytes are read as no image exactly where they are no image's.
pub read-none : (s : List ℕ) → Bytes s → (read_image s ≡ none) ↔ ((i : Image) → FitsImage i → s ≡ image_bytes i → ⊥)
read-none s by = (
  (λ e i h q. none-some (read_image s) e (ap read_image q ∙ write-then-read i h)),
  (λ f. case_option (read_image s) (λ e. e) (λ i e. let a = read-then-write s i by e in absurd (f i a.1 a.0))),
)
