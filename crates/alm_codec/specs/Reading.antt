-- Reading from left to right. A damaged field is given by how many bytes were left at its start.
use Rattle.std.specs.Prelude.{◌≡◌, ℕ, ◌-◌, ◌<◌, slice_index, Bool, List, [], ◌∷◌, length, take, drop, Result, Ok, Err, nat_lt, if◌then◌else◌}
use Rattle.std.specs.Int.{Width, byte_len, from_be_bytes}
use Rattle.alm_codec.specs.declared.bytes_left.BytesLeft.{BytesLeft}
use Rattle.alm_codec.specs.declared.damage.Damage.{Damage}
use Rattle.alm_codec.specs.declared.stop.Stop.{Stop}
use Rattle.alm_codec.specs.declared.stop.Stop.TheVariants as stop

-- each number is that of a byte
abbrev pub IsBytes : List ℕ → Type 0
IsBytes bytes = (i : ℕ) → slice_index bytes i < 256

infixl 10 ◌>>=◌
abbrev pub ◌>>=◌ : {A B : Type 0} → Result A ℕ → (A → Result B ℕ) → Result B ℕ
(Ok x) >>= f = f x
(Err e) >>= f = Err e

-- what a function returned, seen by view, is what reading gives
abbrev pub Gives : {X Y : Type 0} → (X → Y) → Result X BytesLeft → Result Y ℕ → Type 0
Gives view (Ok x) read = read ≡ Ok (view x)
Gives view (Err e) read = read ≡ Err e.0

-- a byte and the bytes after it
abbrev pub next_byte : List ℕ → Result (ℕ × List ℕ) ℕ
next_byte [] = Err 0
next_byte (b ∷ rest) = Ok (b, rest)

-- a number and the bytes after it
abbrev pub number_at : Width → List ℕ → Result (ℕ × List ℕ) ℕ
number_at w bytes = if nat_lt (length bytes) (byte_len w) then Err (length bytes) else Ok (from_be_bytes w (take (byte_len w) bytes), drop (byte_len w) bytes)

-- a number that passes a test, and the bytes after it
abbrev pub field_at : Width → (ℕ → Bool) → List ℕ → Result (ℕ × List ℕ) ℕ
field_at w test bytes = do
  n ← number_at w bytes
  if test n.0 then Ok n else Err (length bytes)

-- What a function returned, seen by view, is what reading gives; damage is given by its place.
abbrev pub FindsOrDamage : {X Y : Type 0} → List ℕ → (X → Y) → Result X Damage → Result Y ℕ → Type 0
FindsOrDamage bytes view (Ok x) read = read ≡ Ok (view x)
FindsOrDamage bytes view (Err d) read = (left : ℕ) × (read ≡ Err left) × (d.at ≡ length bytes - left)

-- The same for a function that stops if memory runs out.
abbrev pub Stops : {Y : Type 0} → Stop → Result Y ℕ → Type 0
Stops stop.Memory read = Unit {0}
Stops (stop.Field left) read = read ≡ Err left.0

abbrev pub GivesOr : {X Y : Type 0} → (X → Y) → Result X Stop → Result Y ℕ → Type 0
GivesOr view (Ok x) read = read ≡ Ok (view x)
GivesOr view (Err e) read = Stops e read
