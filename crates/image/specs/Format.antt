-- Formats: how a value is written as bytes, and read from the front of bytes. Reading follows counts and lengths as they stand, and is
-- none exactly where the bytes are cut. The image's format is put together from these (Image).
use Rattle.std.specs.Prelude.{ℕ, zero, suc, cond, List, [], ◌∷◌, ◌++◌, leb, length, take, drop}
use Rattle.std.proofs.Math.Option.{Option, none, some}
use Rattle.base.specs.Bytes.{be32, be64, be32_bytes, be64_bytes}
use Rattle.base.specs.Lists.{option}

-- what was read, and the bytes after it
pub record Got (A : Type 0) : Type 0 where
  pub value : A
  pub rest : List ℕ

pub record Format (A : Type 0) : Type 0 where
  pub write : A → List ℕ
  pub read : List ℕ → Option (Got A)

-- n bytes, as they are
unfoldable pub exactly : ℕ → Format (List ℕ)
exactly n = record { write = λ b. b; read = λ s. cond (leb n (length s)) (some (record { value = take n s; rest = drop n s })) none }

-- a number of 32 bits; of 64
unfoldable pub number32 : Format ℕ
number32 = record { write = be32_bytes; read = λ s. cond (leb 4 (length s)) (some (record { value = be32 s 0; rest = drop 4 s })) none }

unfoldable pub number64 : Format ℕ
number64 = record { write = be64_bytes; read = λ s. cond (leb 8 (length s)) (some (record { value = be64 s 0; rest = drop 8 s })) none }

module _ {A B : Type 0} where
  -- one value after the other
  unfoldable pub both : Format A → Format B → Format (A × B)
  both f g =
      record {
        write = λ p. f.write p.0 ++ g.write p.1;
        read = λ s. option (f.read s) none
            (λ a. option (g.read a.rest) none (λ b. some (record { value = (a.value, b.value); rest = b.rest })));
      }

  -- the same bytes for a value in another form
  unfoldable pub formed : (A → B) → (B → A) → Format A → Format B
  formed to from f =
      record {
        write = λ b. f.write (from b);
        read = λ s. option (f.read s) none (λ a. some (record { value = to a.value; rest = a.rest }));
      }

module _ {A : Type 0} where
  -- n values, one after the other
  unfoldable pub write_all : Format A → List A → List ℕ
  write_all f [] = []
  write_all f (x ∷ l) = f.write x ++ write_all f l

  unfoldable pub read_all : Format A → ℕ → List ℕ → Option (Got (List A))
  read_all f zero s = some (record { value = []; rest = s })
  read_all f (suc n) s = option (f.read s) none
      (λ a. option (read_all f n a.rest) none (λ l. some (record { value = a.value ∷ l.value; rest = l.rest })))

  unfoldable pub many : Format A → ℕ → Format (List A)
  many f n = record { write = write_all f; read = read_all f n }

  -- a list after its length
  unfoldable pub counted : Format ℕ → (ℕ → Format (List A)) → Format (List A)
  counted n f = record {
    write = λ l. n.write (length l) ++ (f (length l)).write l;
    read = λ s. option (n.read s) none (λ k. (f k.value).read k.rest);
  }

  -- "sections .., each after its 32-bit big-endian count of entries"
  unfoldable pub section : Format A → Format (List A)
  section f = counted number32 (many f)

-- "a body is its length, then its bytes"
unfoldable pub body : Format (List ℕ)
body = counted number64 exactly
