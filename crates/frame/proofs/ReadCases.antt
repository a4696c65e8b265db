-- The cases of reading a frame, each with the facts as the code finds them.
-- Assumes nothing.
use mathlib.Core.Path.{◌≡◌, ◌∙◌, sym, ap, refl}
use mathlib.Core.Bool.{Bool, true, false}
use mathlib.Core.List.{List}
use Prim.Native.Nat.{ℕ, ◌+◌, ◌-◌, ◌<◌, ◌≤◌}
use native.Mathlib.Decide.{dec_lt}
use native.Mathlib.Omega.{arith}
use lib.ListN.{length, get_or}
use Rattle.std.specs.Prelude.{Option, Some, None, MatchOption}
use Rattle.std.proofs.lemmas.Option.{none-some}
use Rattle.base.specs.Answer.{refused, gives}
use Rattle.base.specs.Refusals.{number_of}
use Rattle.base.specs.declared.refusal.Refusal.{Refusal}
use Rattle.base.specs.declared.refusal.Refusal.TheVariants.{Cut}
use Rattle.base.specs.Bytes.{be16, le24}
use Rattle.base.specs.If.{if_true}
use Rattle.base.proofs.Ifs.{true-yes, true-no, lt_yes, lt_no}
use Rattle.reliability.specs.Kinds.{fields_of, on_place}
use Rattle.reliability.specs.declared.KindFields.{KindFields}
use Rattle.reliability.specs.declared.Profile.{Profile}
use Rattle.reliability.proofs.Laws.{Inside}
use Rattle.frame.specs.Read.{kind_of, is_piece, number_at, channel_at, meta_at, meta_size, header_size, body_length, frame_at}
use Rattle.frame.specs.Read.{ends_at, placed_at, read_frame_of, span_of}
use Rattle.frame.specs.declared.FragmentMeta.{FragmentMeta}
use Rattle.frame.specs.declared.Frame.{Frame}
use Rattle.frame.specs.declared.Placed.{Placed}
use Rattle.frame.specs.declared.Span.{Span}
use Rattle.frame.proofs.Reading.{start-after, header-least, row_inside}

-- ---- a header's bytes
module _ (p : Profile) (kind : ℕ) (piece : Bool) (k : KindFields) (e : k ≡ fields_of p kind) where
  pub piece_size : piece ≡ true → k.header + meta_size ≡ header_size piece (fields_of p kind).header
  piece_size t = true-yes _ _ _ _ t (rw e)

  pub whole_size : piece ≡ false → k.header ≡ header_size piece (fields_of p kind).header
  whole_size t = true-no _ _ _ _ t (rw e)

-- ---- the span
abbrev pub spanned : ℕ → ℕ → Span
spanned start next = record { start = start; next = next }

abbrev pub placed : Frame → ℕ → ℕ → Placed
placed f start len = record { frame = f; start = start; len = len }

module _ (p : Profile) (s : List ℕ) (at : ℕ) where
  -- no room for flags and length
  pub beyond : length s < at → None ≡ span_of p s at
  unfolding span_of
  beyond h = lt_yes _ _ _ _ _ (omega (arith, start-after p s at)) refl

  pub short : (room : ℕ) → room ≡ length s - at → room < 3 → None ≡ span_of p s at
  unfolding span_of
  short room e h = lt_yes _ _ _ _ _ (omega (arith, start-after p s at)) refl

  module _ (h bits n : ℕ) (b : h ≡ header_size (is_piece (get_or s at 0)) (fields_of p (kind_of (get_or s at 0))).header)
      (c : bits ≡ be16 s (at + 1)) (d : n ≡ body_length p bits) where
    starts : at + h ≡ (placed_at p s at).start
    unfolding placed_at
    starts = rw b

    long : n ≡ (placed_at p s at).len
    unfolding placed_at
    long = rw (d, c)

    -- the frame reaches past the end
    pub cut : length s < at + h + n → None ≡ span_of p s at
    unfolding span_of
    cut i = lt_yes _ _ _ _ _ (omega (arith, starts, long)) refl

    pub fits : at + h + n ≤ length s → Some (spanned (at + h) (at + h + n)) ≡ span_of p s at
    unfolding span_of
    fits i = lt_no _ _ _ _ _ (omega (arith, starts, long)) (rw (starts, long))

-- the four ways out of `span_at`
pub ruleset spans = (beyond, short, cut, fits)

-- ---- the frame, where its span is known
-- what is known of a frame that fits
pub record Spanned (p : Profile) (s : List ℕ) (at start next : ℕ) : Type 0 where
  pub starts : start ≡ (placed_at p s at).start
  pub ends : next ≡ ends_at (placed_at p s at)
  pub flags : at + 3 ≤ start
  pub within : next ≤ length s
  pub gives : read_frame_of p s at ≡ gives (placed_at p s at, next)

module _ (p : Profile) (s : List ℕ) (at : ℕ) (r : Option Span) (e : r ≡ span_of p s at) where
  pub none-spanned : r ≡ None → read_frame_of p s at ≡ refused 1
  unfolding span_of read_frame_of
  none-spanned i = go (dec_lt (length s) (ends_at (placed_at p s at)))
    where
      go : Dec (length s < ends_at (placed_at p s at)) → read_frame_of p s at ≡ refused 1
      go (yes h) = sym (lt_yes _ _ _ _ _ h refl)
      go (no h) =
          let f : None ≡ Some (spanned (placed_at p s at).start (ends_at (placed_at p s at))) =
          sym i ∙ e ∙ sym (lt_no _ _ _ _ _ (omega arith) refl) in
          absurd (none-some _ f)

  -- the answer where no frame fits
  pub none-read : r ≡ None → (m : Refusal) → Cut ≡ m → refused (number_of m) ≡ read_frame_of p s at
  none-read i m c = rw (← c) (sym (none-spanned i))

  module _ (x : Span) (i : r ≡ Some x) where
    pub one-spanned : Spanned p s at x.start x.next
    unfolding span_of read_frame_of
    one-spanned = go (dec_lt (length s) (ends_at (placed_at p s at)))
      where
        go : Dec (length s < ends_at (placed_at p s at)) → Spanned p s at x.start x.next
        go (yes h) =
            let f : Some x ≡ None = sym i ∙ e ∙ sym (lt_yes _ _ _ _ _ h refl) in
            absurd (none-some _ (sym f))
        go (no h) =
            let f : Some x ≡ Some (spanned (placed_at p s at).start (ends_at (placed_at p s at))) =
            sym i ∙ e ∙ sym (lt_no _ _ _ _ _ (omega arith) refl) in
            let g : x ≡ spanned (placed_at p s at).start (ends_at (placed_at p s at)) = cc in
            let n : x.next ≡ ends_at (placed_at p s at) = ap (λ (v : Span). v.next) g in
            record {
              starts = ap (λ (v : Span). v.start) g;
              ends = n;
              flags = omega (arith, start-after p s at, ap (λ (v : Span). v.start) g);
              within = omega arith;
              gives = sym (lt_no _ _ _ _ _ (omega arith) (rw n));
            }

    -- Where the frame fits, so does its header.
    pub flags-in : at < length s
    flags-in = let w = one-spanned in omega arith

    pub header-in : (placed_at p s at).start ≤ length s
    header-in = let w = one-spanned in omega arith

    pub body-after : x.start ≤ x.next
    body-after = let w = one-spanned in omega arith

    -- the frame itself, from the header that was read
    pub one-read : (f : Frame) → f ≡ frame_at p s at
        → gives (placed f x.start (x.next - x.start), x.next) ≡ read_frame_of p s at
    unfolding placed_at
    one-read f g =
        let w = one-spanned in
        let n : x.next - x.start ≡ (placed_at p s at).len = omega arith in
        let v : placed f x.start (x.next - x.start) ≡ placed_at p s at = λ j. record { frame = g j; start = w.starts j; len = n j } in
        rw v (sym w.gives)

-- ---- the fields of a header that fits
-- the number, and the channel, at place n of a header
abbrev pub number_in : List ℕ → ℕ → ℕ → ℕ
number_in s at n = le24 s (at + n)

abbrev pub channel_in : List ℕ → ℕ → ℕ → ℕ
channel_in s at n = get_or s (at + n) 0

-- 0 where the kind lacks it, else what was read
pub carried : (off : Option ℕ) (r : ℕ) (f : ℕ → ℕ) (Q : ℕ → Type 0) → MatchOption off (r ≡ 0) Q
    → ((n : ℕ) → off ≡ Some n → Q n → r ≡ f n) → r ≡ on_place off 0 f
carried None r f Q e h = e
carried (Some n) r f Q e h = h n refl e

module _ (p : Profile) (s : List ℕ) (at : ℕ) (h : (placed_at p s at).start ≤ length s) (k : KindFields)
    (e : k ≡ fields_of p (kind_of (get_or s at 0))) where
  header-fits : at + header_size (is_piece (get_or s at 0)) k.header ≤ length s
  unfolding placed_at
  header-fits = rw e h

  row_fits : Inside k × (at + k.header ≤ length s)
  row_fits = (rw e (row_inside p _), omega (arith, header-fits, header-least (is_piece (get_or s at 0)) k.header))

  pub reliable-in : (n : ℕ) → k.reliable ≡ Some n → at + n + 3 ≤ length s
  reliable-in n i = let r = row_fits in let a : n + 3 ≤ k.header = rw i at r.0.reliable in omega arith

  pub sequence-in : (n : ℕ) → k.sequence ≡ Some n → at + n + 3 ≤ length s
  sequence-in n i = let r = row_fits in let a : n + 3 ≤ k.header = rw i at r.0.sequence in omega arith

  pub order-in : (n : ℕ) → k.order ≡ Some n → at + n + 3 ≤ length s
  order-in n i = let r = row_fits in let a : n + 3 ≤ k.header = rw i at r.0.order in omega arith

  pub channel-in : (n : ℕ) → k.channel ≡ Some n → at + n < length s
  channel-in n i = let r = row_fits in let a : n < k.header = rw i at r.0.channel in omega arith

  pub meta-in : is_piece (get_or s at 0) ≡ true → at + k.header + meta_size ≤ length s
  unfolding if_true
  meta-in t = let r : at + (k.header + meta_size) ≤ length s = rw t at header-fits in omega arith

  -- the header, from the calls that read each part
  pub header_is : (x y z c : ℕ) (m : FragmentMeta) → x ≡ number_at s at k.reliable → y ≡ number_at s at k.sequence
      → z ≡ number_at s at k.order → c ≡ channel_at s at k.channel → m ≡ meta_at (is_piece (get_or s at 0)) s (at + k.header)
      → ◌≡◌ {A = Frame}
      (record {
        kind = kind_of (get_or s at 0);
        reliable = x;
        sequence = y;
        order = z;
        channel = c;
        piece = is_piece (get_or s at 0);
        meta = m;
      })
      (frame_at p s at)
  unfolding frame_at
  header_is x y z c m ex ey ez ec em =
      rw (← e)
      (λ j. record {
        kind = kind_of (get_or s at 0);
        reliable = ex j;
        sequence = ey j;
        order = ez j;
        channel = ec j;
        piece = is_piece (get_or s at 0);
        meta = em j;
      })

-- what each read of a part asks
pub ruleset header_parts = (reliable-in, sequence-in, order-in, channel-in, meta-in)

pub ruleset reads = (flags-in, header-in, body-after, none-read, one-read)
