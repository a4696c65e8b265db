-- An image's values at the places where they stand.
use Rattle.std.specs.Prelude.{ℕ, zero, suc, ◌+◌, List, [], ◌∷◌, take, drop}
use Rattle.base.specs.Bytes.{be32, be64}
use Rattle.image.specs.Image.{WindowEntry, ChannelEntry, PieceEntry, MessageEntry, Image}

-- the place after n values, each of which ends at `end` of its place
unfoldable pub place_after : (ℕ → ℕ) → ℕ → ℕ → ℕ
place_after end zero p = p
place_after end (suc n) p = place_after end n (end p)

-- n values, the first at place p, each next one where the one before it ends
unfoldable pub values_at : {A : Type 0} → (ℕ → A) → (ℕ → ℕ) → ℕ → ℕ → List A
values_at at end zero p = []
values_at at end (suc n) p = at p ∷ values_at at end n (end p)

module _ (s : List ℕ) where
  unfoldable pub body_at : ℕ → List ℕ
  body_at p = take (be64 s p) (drop (p + 8) s)

  unfoldable pub body_end : ℕ → ℕ
  body_end p = p + 8 + be64 s p

  unfoldable pub window_at : ℕ → WindowEntry
  window_at p = record { low = be64 s p; places = take 256 (drop (p + 8) s) }

  unfoldable pub channel_at : ℕ → ChannelEntry
  channel_at p = record { next = be64 s p; memory = be64 s (p + 8) }

  unfoldable pub piece_at : ℕ → PieceEntry
  piece_at p = record {
    id = be64 s p;
    index = be64 s (p + 8);
    count = be64 s (p + 16);
    kind = be64 s (p + 24);
    sequence = be64 s (p + 32);
    order = be64 s (p + 40);
    channel = be64 s (p + 48);
    age = be64 s (p + 56);
    body = body_at (p + 64);
  }

  unfoldable pub piece_end : ℕ → ℕ
  piece_end p = body_end (p + 64)

  unfoldable pub message_at : ℕ → MessageEntry
  message_at p = record {
    channel = be64 s p;
    order = be64 s (p + 8);
    kind = be64 s (p + 16);
    bodies = values_at body_at body_end (be64 s (p + 24)) (p + 32);
  }

  unfoldable pub message_end : ℕ → ℕ
  message_end p = place_after body_end (be64 s (p + 24)) (p + 32)

  -- a section's values, after their count
  unfoldable pub section_at : {A : Type 0} → (ℕ → A) → (ℕ → ℕ) → ℕ → List A
  section_at at end p = values_at at end (be32 s p) (p + 4)

  unfoldable pub section_end : (ℕ → ℕ) → ℕ → ℕ
  section_end end p = place_after end (be32 s p) (p + 4)

  -- where the sections stand, the profile's at 0
  unfoldable pub windows_place : ℕ
  windows_place = section_end (λ p. p + 8) 0

  unfoldable pub channels_place : ℕ
  channels_place = section_end (λ p. p + 264) windows_place

  unfoldable pub unsent_place : ℕ
  unsent_place = section_end (λ p. p + 16) channels_place

  unfoldable pub pieces_place : ℕ
  pieces_place = section_end (λ p. p + 8) unsent_place

  unfoldable pub held_place : ℕ
  held_place = section_end piece_end pieces_place

  unfoldable pub ready_place : ℕ
  ready_place = section_end message_end held_place

  unfoldable pub image_at : Image
  image_at = record {
    profile = section_at (be64 s) (λ p. p + 8) 0;
    windows = section_at window_at (λ p. p + 264) windows_place;
    channels = section_at channel_at (λ p. p + 16) channels_place;
    unsent = section_at (be64 s) (λ p. p + 8) unsent_place;
    pieces = section_at piece_at piece_end pieces_place;
    held = section_at message_at message_end held_place;
    ready = section_at message_at message_end ready_place;
  }
